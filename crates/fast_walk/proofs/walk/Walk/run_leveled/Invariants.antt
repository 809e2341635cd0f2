use Rattle.fast_walk.proofs.Common.{◌≡◌, Reaches, Carries, rank_of}
use Rattle.fast_walk.proofs.walk.Walk.run_leveled.Given as goal

abbrev pub invariant-pieces : goal.invariant-pieces
invariant-pieces g l = record {
  reaches : Reaches g.L.Leveled.at g.R.Receiver.has g.R.Receiver.awaits (g.E.Entries.serves l.fn.entries) l.fn.self l.fn.receiver (g.E.Entries.contents l.fn.entries)
      l.self l.receiver (g.E.Entries.contents l.entries) l.bytes l.fn.at l.place;
  keeps : Carries (g.R.Receiver.keeps l.fn.receiver) (g.R.Receiver.keeps l.receiver);
  same_keys : g.E.Entries.serves l.entries ≡ g.E.Entries.serves l.fn.entries;
}

abbrev pub decreases-pieces : goal.decreases-pieces
decreases-pieces g l = rank_of l.self
