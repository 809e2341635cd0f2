use Rattle.std.proofs.Common.{◌≡◌, ◌∷◌, ◌++◌, ◌≤◌, ◌+◌, drop, map, subst, arith, rules}
use Rattle.fast_template.specs.Resolved.{resolved_of, size_of}
use Rattle.fast_template.specs.TemplateSets.{size_of_all}
use Rattle.fast_layout.specs.Fields.{Appends, rows_of_all, rows_of_template}
use Rattle.fast_layout.proofs.Laid.{IsLaid, laid_next, left_at}
use Rattle.fast_layout.proofs.layout.Layout.push_templates.Goals as goal

pub loop-template-preserved : goal.loop-template-preserved
loop-template-preserved c =
    let templates = c.args.templates.now in
    let i = c.loop-template.template-index in
    let template = c.template-item.result in
    let more : drop i templates ≡ template ∷ drop (i + 1) templates = left_at templates i template c.loop-template-test.true (search rules) in
    let laid : IsLaid (rows_of_all (map resolved_of templates)) (rows_of_template (resolved_of template) ++ rows_of_all (map resolved_of (drop (i + 1) templates))) c.args.self.now c.loop-template.self =
    subst (λ ts. IsLaid (rows_of_all (map resolved_of templates)) (rows_of_all (map resolved_of ts)) c.args.self.now c.loop-template.self) more c.loop-template.invariant.laid in
    let small : size_of (resolved_of template).members + size_of_all (map resolved_of (drop (i + 1) templates)) ≤ 65535 = subst (λ ts. size_of_all (map resolved_of ts) ≤ 65535) more c.loop-template.invariant.small in
    let one : Appends (rows_of_template (resolved_of template)) c.loop-template.self c.push_template.new.self = search rules in
    record {
      laid = laid_next (rows_of_all (map resolved_of templates)) (rows_of_template (resolved_of template)) (rows_of_all (map resolved_of (drop (i + 1) templates))) c.args.self.now c.loop-template.self c.push_template.new.self laid one;
      small = omega arith;
    }
