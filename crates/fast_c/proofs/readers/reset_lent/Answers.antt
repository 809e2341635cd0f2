use Rattle.std.proofs.Common.{◌≡◌, ◌∙◌, Some, ap}
use Rattle.fast_kept.specs.declared.lent.Lent.{Lent}
use Rattle.fast_c.specs.Reading.{Resets}
use Rattle.fast_c.proofs.Held.{lent_reader}
use Rattle.fast_c.proofs.readers.reset_lent.Goals as goal

pub returns-in-Some-Reader : goal.returns-in-Some-Reader
returns-in-Some-Reader c =
    let was : c.args.lent.now ≡ Some (Lent.Reader c.in-Some-Reader.reader) = c.in-Some-Reader.is ∙ ap Some c.in-Some-Reader.field-0-is in
    lent_reader (Resets) (Unit {0}) c.args.lent.now c.in-Some-Reader.reader c.reset.new.self tt was (record { fault = c.reset.ensures.fault; fed = c.reset.ensures.fed; undefined = c.reset.ensures.undefined; reads = c.reset.ensures.reads; same = c.reset.ensures.same })
