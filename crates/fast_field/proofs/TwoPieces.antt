-- Two pieces, one behind the other.
use Rattle.fast_field.proofs.Common.{to_z-of_z, ◌≡◌, ℕ, ◌+◌, List, ◌++◌, refl, ap, ◌∙◌, arith, SFits, length-append, append_assoc, ints, w128, ℤ, pos, negsuc, Both, HasSize, IsSmall}

pub both_size : (First Second : List ℕ → Type 0) (m n : ℕ) → HasSize First m → HasSize Second n → HasSize (Both First Second) (m + n)
both_size First Second m n a b =
    let size_a = a.2 in
    let size_b = b.2 in
    (a.0 ++ b.0, record { front = a.0; back = b.0; parts = refl; first = a.1; second = b.1 }, omega (arith, length-append a.0 b.0))

-- bytes that spell something stand behind others
abbrev pub Appended : (List ℕ → Type 0) → List ℕ → List ℕ → Type 0
Appended Spells old new = (b : List ℕ) × (new ≡ old ++ b) × Spells b

pub both_appended : (First Second : List ℕ → Type 0) (old mid new : List ℕ) → Appended First old mid → Appended Second mid new → Appended (Both First Second) old new
both_appended First Second old mid new a b =
    (a.0 ++ b.0, b.1 ∙ ap (λ (s : List ℕ). s ++ b.0) a.1 ∙ append_assoc old a.0 b.0, record { front = a.0; back = b.0; parts = refl; first = a.2; second = b.2 })

-- a number of so few bytes is one of 128 bits
pub small_fits : (z : ℤ) → IsSmall z → SFits w128 z
small_fits (pos n) h = omega (arith, ints)
small_fits (negsuc n) h = omega (arith, ints)

pub ruleset pieces = (both_size, both_appended, small_fits, to_z-of_z)
