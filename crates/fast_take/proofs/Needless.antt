-- Groups that are needless in front of a number: behind them its bytes spell the same.
use Rattle.fast_take.proofs.Common.{◌≡◌, ℕ, ℤ, pos, ◌+◌, ◌-◌, ◌≤◌, Bool, true, false, List, [], ◌∷◌, length, drop, slice_range, subst, ◌∙◌, arith, length-take, IsUnsigned, IsSigned, overlong_unsigned, overlong_signed, sent_signed, IsBytes, Value, Presence, Mandatory, Optional, SpellsIntegerUsually, overlong_number, Spelt}
use Rattle.fast_wire.proofs.AsciiForms.{slice_behind}
use Rattle.fast_wire.proofs.NotOverlong.{without_sign, without_zero}
use Rattle.fast_take.proofs.Standing.{standing}

unsigned_less : (x c : ℕ) (bs : List ℕ) (v : ℕ) → IsUnsigned (x ∷ c ∷ bs) v → overlong_unsigned (x ∷ c ∷ bs) ≡ true → IsUnsigned (c ∷ bs) v
unsigned_less x c bs v f long = record { entity = f.entity.1; short = omega (arith, f.short); value = f.value ∙ without_zero x (c ∷ bs) long }

signed_less : (x c : ℕ) (bs : List ℕ) (v : ℤ) → IsSigned (x ∷ c ∷ bs) v → overlong_signed (x ∷ c ∷ bs) ≡ true → IsSigned (c ∷ bs) v
signed_less x c bs v f long = record { entity = f.entity.1; short = omega (arith, f.short); value = f.value ∙ without_sign x c bs long }

-- ---- whatever the number

spells_less : (u : Bool) (p : Presence) (x c : ℕ) (bs : List ℕ) (z : ℤ) → SpellsIntegerUsually u p (x ∷ c ∷ bs) (Value z) → overlong_number u (x ∷ c ∷ bs) ≡ true → SpellsIntegerUsually u p (c ∷ bs) (Value z)
spells_less true Mandatory x c bs (pos n) f long = unsigned_less x c bs n f long
spells_less true Optional x c bs (pos n) f long = unsigned_less x c bs (n + 1) f long
spells_less true p x c bs z f long = absurd f
spells_less false Mandatory x c bs z f long = signed_less x c bs z f long
spells_less false Optional x c bs z f long = signed_less x c bs (sent_signed (Value z)) f long

one_is_short : (u : Bool) (x : ℕ) → overlong_number u (x ∷ []) ≡ true → ⊥
one_is_short true x h = cc
one_is_short false x h = cc

none_is_short : (u : Bool) → overlong_number u [] ≡ true → ⊥
none_is_short true h = cc
none_is_short false h = cc

less : (u : Bool) (p : Presence) (xs : List ℕ) (z : ℤ) → SpellsIntegerUsually u p xs (Value z) → overlong_number u xs ≡ true → (2 ≤ length xs) × SpellsIntegerUsually u p (drop 1 xs) (Value z)
less u p [] z f long = absurd (none_is_short u long)
less u p (x ∷ []) z f long = absurd (one_is_short u x long)
less u p (x ∷ c ∷ bs) z f long = (omega arith, spells_less u p x c bs z f long)

pub behind_needless : (u : Bool) (p : Presence) (bytes : List ℕ) (at next : ℕ) (z : ℤ) → SpellsIntegerUsually u p (slice_range bytes at next) (Value z) → overlong_number u (slice_range bytes at next) ≡ true
    → (at + 2 ≤ next) × SpellsIntegerUsually u p (slice_range bytes (at + 1) next) (Value z)
behind_needless u p bytes at next z f long =
    let h = less u p (slice_range bytes at next) z f long in
    let le : at + 2 ≤ next = omega (arith, h.0, length-take (next - at) (drop at bytes)) in
    (le, rw (slice_behind bytes at next 1 (omega (arith, h.0))) h.1)

pub one_less : (u : Bool) (p : Presence) (bytes : List ℕ) (at next : ℕ) (z : ℤ) → IsBytes (drop at bytes) → at ≤ next → next ≤ length bytes → Spelt u p (drop at bytes) z (drop next bytes) → overlong_number u (slice_range bytes at next) ≡ true
    → (at + 2 ≤ next) × SpellsIntegerUsually u p (slice_range bytes (at + 1) next) (Value z)
one_less u p bytes at next z fits le within spelt long = behind_needless u p bytes at next z (standing u p bytes at next z fits le within spelt) long

pub two_less : (u : Bool) (p : Presence) (bytes : List ℕ) (at next : ℕ) (z : ℤ) → SpellsIntegerUsually u p (slice_range bytes (at + 1) next) (Value z) → overlong_number u (slice_range bytes (at + 1) next) ≡ true
    → (at + 3 ≤ next) × SpellsIntegerUsually u p (slice_range bytes (at + 2) next) (Value z)
two_less u p bytes at next z f long =
    let h = behind_needless u p bytes (at + 1) next z f long in
    let on : at + 1 + 1 ≡ at + 2 = omega arith in
    (omega (arith, h.0), subst (λ (n : ℕ). SpellsIntegerUsually u p (slice_range bytes n next) (Value z)) on h.1)
