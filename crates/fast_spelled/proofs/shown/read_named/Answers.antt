use Rattle.std.proofs.Common.{◌≡◌, ◌∷◌, Some, codes, rules, refl, ap}
use Rattle.fast_template.specs.TemplateSets.{template_of}
use Rattle.fast_stream.specs.Nodes.{content_of}
use Rattle.fast_spelled.proofs.Showing.{line_shown}
use Rattle.fast_spelled.proofs.shown.read_named.Goals as goal

pub returns : goal.returns
returns c =
    let t = c.in_ok-template.template.now in
    let there : template_of c.in_ok-id.id c.args.set.now ≡ Some t = search rules in
    let own : t.name ≡ c.in_ok-name.name.now = search rules in
    let first = ap (λ l. 123 ∷ l) c.in_ok-left.ensures in
    let last : c.read_items.new.line.bytes.now ≡ codes "}}\n" = search rules in
    line_shown c.args.set.now t (content_of record { template = c.in_ok-id.id; fields = c.in_ok-fields.fields }) (123 ∷ c.args.bytes.now) c.in_ok-name.name.now c.in_ok-left.left.now c.in_ok-name.left.now c.in_ok-left-2.left.now c.in_ok-bytes.bytes.now c.in_ok-id.left.now
    _ c.read_items.new.line c.find.ensures.sound there (search rules) own c.in_ok-name.ensures.plain first c.in_ok-name.ensures.stands c.in_ok-left-2.ensures c.in_ok-id.ensures c.in_ok-bytes.ensures refl refl (rw c.deref.ensures.value at c.in_ok-fields.ensures) last
