use Rattle.std.proofs.Common.{◌∙◌, ◌++◌, ◌∷◌, [], arith, drop, length-append, subst}
use Rattle.fast_template.specs.TemplateSets.{templates_in}
use Rattle.fast_untape.specs.Reading.{BeginWith}
use Rattle.fast_untape.specs.Writing.{HasWritten}
use Rattle.fast_untape.proofs.Messages.{begins_more, some_node}
use Rattle.fast_untape.proofs.Reading.{all_left}
use Rattle.std.proofs.lemmas.List.{append_assoc}
use Rattle.fast_untape.proofs.writer.TapeWriter.put_all.Goals as goal

pub messages-preserved : goal.messages-preserved
messages-preserved g c =
    let now = c.messages in
    let bytes = c.args.bytes.now in
    let nodes = c.args.nodes.now in
    let was = now.invariant.put in
    let one = c.in-Ok.ensures.put in
    let m = one.0 in
    let count = c.in-Ok.count in
    let here : BeginWith bytes (drop now.put.nodes nodes) count (m ∷ []) = rw (all_left nodes now.put.nodes) at one.1 in
    let some = some_node bytes (drop now.put.nodes nodes) count m here in
    let same = now.invariant.same in
    let set = templates_in c.args.self.now.set.now in
    record {
      clear = now.invariant.clear;
      few = omega (arith, now.invariant.few, some);
      same = c.in-Ok.ensures.set ∙ same;
      put = (
        was.0 ++ m ∷ [],
        begins_more bytes nodes now.put.nodes count was.0 m was.1 here,
        omega (arith, was.2, length-append was.0 (m ∷ [])),
        λ messages taken has.
            let later = (rw (same) at one.3) (messages ++ was.0) taken (was.3 messages taken has) in
            subst (λ ms. HasWritten set ms taken c.put.new.self.waiting.items (g.E.Entries.contents c.put.new.self.encoder.journal.entries)) (append_assoc messages was.0 (m ∷ [])) later,
      );
    }
