use Rattle.std.proofs.Common.{arith}
use Rattle.fast_take.proofs.StringEnds.{ends_behind}
use Rattle.fast_take.proofs.words.short_plain_end.Goals as goal

pub returns-else-bytes-at-eq0-clause-plain : goal.returns-else-bytes-at-eq0-clause-plain
returns-else-bytes-at-eq0-clause-plain c =
    let run = c.stop_free_run-run in
    (ends_behind c.args.bytes.now c.args.at run.result (λ k. omega (arith, c.type_inv.bytes k)) (omega arith) (omega arith) run.ensures c.if-bytes-at-eq0.false).1
