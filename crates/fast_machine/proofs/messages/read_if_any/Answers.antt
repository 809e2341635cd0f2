use Rattle.std.proofs.Common.{[], refl, append-nil}
use Rattle.fast_machine.proofs.messages.read_if_any.Goals as goal

pub returns-then-not-has_begun-clause-ended : goal.returns-then-not-has_begun-clause-ended
returns-then-not-has_begun-clause-ended g c = λ before origin run messages s. (
  [],
  refl,
  (rw (append-nil before, append-nil messages) s, c.has_begun.ensures.no (λ t. absurd cc)),
)
