-- The texts of slots, as they lie in a vector.
use Rattle.std.proofs.Common.{◌≡◌, ◌<◌, ◌≤◌, ℕ, zero, suc, List, [], ◌∷◌, ◌++◌, length, get_or, refl, sym, ap, arith}
use Rattle.std.specs.Prelude.{Vec, ◌==◌, if◌then◌else◌}
use Rattle.std.proofs.Math.ListN.{set}
use Rattle.std.proofs.lemmas.Bool.Decides.{nat_tests}
use Rattle.fast_gaps.specs.Gaps.{text_at}

-- an empty text more is as none
pub text_at_push : {Z : Type 0} (vs : List (Vec ℕ Z)) (v : Vec ℕ Z) (slot : ℕ) → v.items ≡ [] → text_at (vs ++ v ∷ []) slot ≡ text_at vs slot
text_at_push [] v zero none = none
text_at_push [] v (suc slot) none = refl
text_at_push (w ∷ vs) v zero none = refl
text_at_push (w ∷ vs) v (suc slot) none = text_at_push vs v slot none

pub text_at_set : {Z : Type 0} (vs : List (Vec ℕ Z)) (slot : ℕ) (v : Vec ℕ Z) (other : ℕ) → slot < length vs
    → text_at (set vs slot v) other ≡ (if other == slot then v.items else text_at vs other)
text_at_set [] slot v other there = absurd (omega arith)
text_at_set (w ∷ vs) zero v zero there = refl
text_at_set (w ∷ vs) zero v (suc other) there = grind (arith, nat_tests)
text_at_set (w ∷ vs) (suc slot) v zero there = grind (arith, nat_tests)
text_at_set (w ∷ vs) (suc slot) v (suc other) there =
    let rest = text_at_set vs slot v other (omega arith) in grind (arith, nat_tests)

pub text_at_read : {Z : Type 0} (vs : List (Vec ℕ Z)) (slot : ℕ) (v : Vec ℕ Z) → slot < length vs → v ≡ get_or vs slot v → text_at vs slot ≡ v.items
text_at_read [] slot v there read = absurd (omega arith)
text_at_read (w ∷ vs) zero v there read = ap (λ (u : Vec ℕ _). u.items) (sym read)
text_at_read (w ∷ vs) (suc slot) v there read = text_at_read vs slot v (omega arith) read

pub text_at_past : {Z : Type 0} (vs : List (Vec ℕ Z)) (slot : ℕ) → length vs ≤ slot → text_at vs slot ≡ []
text_at_past [] slot behind = refl
text_at_past (w ∷ vs) zero behind = absurd (omega arith)
text_at_past (w ∷ vs) (suc slot) behind = text_at_past vs slot (omega arith)
