use Rattle.std.proofs.Common.{◌≡◌, ◌∙◌, Some, ap}
use Rattle.fast_kept.specs.declared.lent.Lent.{Lent}
use Rattle.fast_c.specs.Reading.{Feeds}
use Rattle.fast_c.proofs.Held.{lent_reader}
use Rattle.fast_c.proofs.readers.feed_lent.Goals as goal

pub returns-in-Some-Reader : goal.returns-in-Some-Reader
returns-in-Some-Reader c =
    let was : c.args.lent.now ≡ Some (Lent.Reader c.in-Some-Reader.reader) = c.in-Some-Reader.is ∙ ap Some c.in-Some-Reader.field-0-is in
    lent_reader (Feeds c.args.chunk.now) (Unit {0}) c.args.lent.now c.in-Some-Reader.reader c.feed.new.self c.feed.result was (record { kept = c.feed.ensures.kept; reads = c.feed.ensures.reads; clear = c.feed.ensures.«open»; refused = c.feed.ensures.refused; too_long = c.feed.ensures.too_long; long = c.feed.ensures.long; fed = c.feed.ensures.fed; within = c.feed.ensures.within; stops = c.feed.ensures.stops; moves = c.feed.ensures.moves; same = c.feed.ensures.same })
