use Rattle.std.proofs.Common.{◌≡◌, ◌∙◌, Some, ap}
use Rattle.fast_kept.specs.declared.lent.Lent.{Lent}
use Rattle.fast_c.specs.Reading.{Finishes}
use Rattle.fast_c.proofs.Held.{lent_reader}
use Rattle.fast_c.proofs.readers.finish_lent.Goals as goal

pub returns-in-Some-Reader : goal.returns-in-Some-Reader
returns-in-Some-Reader c =
    let was : c.args.lent.now ≡ Some (Lent.Reader c.in-Some-Reader.reader) = c.in-Some-Reader.is ∙ ap Some c.in-Some-Reader.field-0-is in
    lent_reader (Finishes) (Unit {0}) c.args.lent.now c.in-Some-Reader.reader c.finish.new.self c.finish.result was (record { ok = c.finish.ensures.ok; refused = c.finish.ensures.refused; reads = c.finish.ensures.reads; same = c.finish.ensures.same })
