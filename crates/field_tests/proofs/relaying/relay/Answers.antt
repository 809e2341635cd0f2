use Rattle.std.proofs.Common.{refl}
use Rattle.field_tests.proofs.relaying.relay.Goals as goal

pub append_best-requires-clause-place : goal.append_best-requires-clause-place
append_best-requires-clause-place g c = (c.in-Ok.ensures c.args.entry.now refl).1.place

pub append_best-requires-clause-first : goal.append_best-requires-clause-first
append_best-requires-clause-first g c = (c.in-Ok.ensures c.args.entry.now refl).1.first
