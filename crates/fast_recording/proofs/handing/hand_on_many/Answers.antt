use Rattle.std.proofs.Common.{[], refl, append-nil}
use Rattle.fast_recording.proofs.Labels.{writes_none}
use Rattle.fast_recording.proofs.handing.hand_on_many.Goals as goal

pub returns-then-not-is_full-clause-hands : goal.returns-then-not-is_full-clause-hands
returns-then-not-is_full-clause-hands g c = (
  [],
  record { written = tt; size_is = refl; whole = refl; has = λ way h. rw (append-nil way.handed) h; relays = λ at turns left way r. rw (append-nil way.handed) r },
  writes_none _ _,
)
