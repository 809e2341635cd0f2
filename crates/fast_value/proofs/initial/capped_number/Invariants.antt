use Rattle.std.proofs.Common.{◌≡◌, ◌≤◌, ◌^◌, ◌+◌, ◌*◌, ◌-◌, min, fold, drop}
use Rattle.fast_value.proofs.initial.capped_number.Given as goal

abbrev pub invariant-loop-digit : goal.invariant-loop-digit
invariant-loop-digit l =
    (min (fold (λ n d. 10 * n + (d - 48)) l.number (drop l.digit-index l.digits)) (2 ^ 64) ≡ min (fold (λ n d. 10 * n + (d - 48)) 0 l.digits) (2 ^ 64))
    × (l.number ≤ 2 ^ 64)
