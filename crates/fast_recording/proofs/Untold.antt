-- Where no packet is refused the writer of refusals is not called.
use Rattle.std.proofs.Common.{◌≡◌, ◌∙◌, ℕ}

-- first in one part of a run, then in the next
pub untold_on : {T : Type 0} {x y z : ℕ} {s t u : T} → (y ≡ 0 → (x ≡ 0) × (t ≡ s)) → (z ≡ 0 → (y ≡ 0) × (u ≡ t)) → z ≡ 0 → (x ≡ 0) × (u ≡ s)
untold_on h k none =
    let second = k none in
    let first = h second.0 in
    (first.0, second.1 ∙ first.1)
