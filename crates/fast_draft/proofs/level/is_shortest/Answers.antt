use Rattle.std.proofs.Common.{◌+◌, ◌-◌, ◌*◌, ◌%◌, ◌^◌, get_or, arith}
use Rattle.std.proofs.lemmas.Bool.{eqb-true}
use Rattle.std.proofs.lemmas.Nat.{one_shl}
use Rattle.fast_draft.proofs.Staying.{ends_whole}
use Rattle.fast_draft.proofs.level.is_shortest.Goals as goal

pub returns-then-last-gt-STOP : goal.returns-then-last-gt-STOP
returns-then-last-gt-STOP c =
    let l = c.args.level in
    let more = c.if-last-gt-STOP.true in
    let behind = 7 * l.size - l.asked in
    let last = get_or c.args.out.now (l.place + l.size - 1) 0 in
    let weight = one_shl behind 8 (omega (arith, more.0)) in
    rw weight (λ e. ends_whole l c.args.out.now c.requires.stands c.requires.some more.0 more.1 (eqb-true (last % 2 ^ behind) 0 e))
