use Rattle.fast_value.proofs.Common.{◌≡◌, ◌+◌, ◌==◌, drop, position_or_len}
use Rattle.fast_value.proofs.initial.first_e.Given as goal

abbrev pub invariant-loop-at : goal.invariant-loop-at
invariant-loop-at l = position_or_len (λ c. c == 101) l.text ≡ l.at + position_or_len (λ c. c == 101) (drop l.at l.text)
