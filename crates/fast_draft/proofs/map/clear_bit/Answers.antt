use Rattle.std.proofs.Common.{◌-◌, ◌%◌, arith}
use Rattle.std.proofs.lemmas.Nat.{one_shl}
use Rattle.fast_draft.proofs.Clearing.{cleared, stays_clear}
use Rattle.fast_draft.proofs.map.clear_bit.Goals as goal

pub returns-then-byte-weight-eq1 : goal.returns-then-byte-weight-eq1
returns-then-byte-weight-eq1 c =
    let w = one_shl (6 - c.args.index % 7) 8 (omega arith) in
    rw w (cleared c.args.map.now c.args.index c.requires (rw w at c.if-byte-weight-eq1.true))

pub returns-else-byte-weight-eq1 : goal.returns-else-byte-weight-eq1
returns-else-byte-weight-eq1 c =
    let w = one_shl (6 - c.args.index % 7) 8 (omega arith) in
    stays_clear c.args.map.now c.args.index c.requires (rw w at c.if-byte-weight-eq1.false)
