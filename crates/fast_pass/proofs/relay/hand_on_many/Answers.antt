use Rattle.fast_pass.proofs.Common.{[], refl, append-nil, Appends-nil}
use Rattle.fast_pass.proofs.relay.hand_on_many.Goals as goal

pub returns-then-not-is_full-clause-hands : goal.returns-then-not-is_full-clause-hands
returns-then-not-is_full-clause-hands g c =
    ([], record { written = Appends-nil _; size_is = refl; whole = refl; has = λ way h. rw (append-nil way.handed) h; relays = λ at turns left way r. rw (append-nil way.handed) r })
