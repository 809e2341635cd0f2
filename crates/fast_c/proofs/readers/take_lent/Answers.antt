use Rattle.std.proofs.Common.{◌≡◌, ◌∙◌, Some, ap}
use Rattle.fast_kept.specs.declared.lent.Lent.{Lent}
use Rattle.fast_c.specs.Reading.{Takes}
use Rattle.fast_c.proofs.Held.{lent_reader}
use Rattle.fast_c.proofs.readers.take_lent.Goals as goal

pub returns-in-Some-Reader : goal.returns-in-Some-Reader
returns-in-Some-Reader c =
    let was : c.args.lent.now ≡ Some (Lent.Reader c.in-Some-Reader.reader) = c.in-Some-Reader.is ∙ ap Some c.in-Some-Reader.field-0-is in
    lent_reader (Takes c.args.nodes.now c.take.new.nodes c.args.bytes.now c.take.new.bytes) (c.take.new.nodes ≡ c.args.nodes.now × c.take.new.bytes ≡ c.args.bytes.now) c.args.lent.now c.in-Some-Reader.reader c.take.new.self c.take.result was (record { taken = c.take.ensures.taken; behind = c.take.ensures.behind; counts = c.take.ensures.counts; short = c.take.ensures.short; room = c.take.ensures.room; same = c.take.ensures.same })
