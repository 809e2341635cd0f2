-- The bits that instructions ask for, one after the other, and lists of bits that begin with them.
use Rattle.fast_canon.proofs.Common.{◌≡◌, ℕ, zero, suc, Bool, true, false, List, [], ◌∷◌, ◌++◌, refl, sym, ◌∙◌, bit_at, next_bit, later_bits}

-- the first bits of the list are those asked for, and 0 past its end
abbrev pub Begins : List Bool → List Bool → Type 0
Begins [] bits = Unit {0}
Begins (x ∷ asked) bits = (next_bit bits ≡ x) × Begins asked (later_bits bits)

-- what is left of the list behind as many bits
abbrev pub behind : List Bool → List Bool → List Bool
behind [] bits = bits
behind (x ∷ asked) bits = behind asked (later_bits bits)

-- a bit asked for is 1 only where the list's is
abbrev pub AreBelow : List Bool → List Bool → Type 0
AreBelow [] bits = Unit {0}
AreBelow (x ∷ asked) bits = (next_bit bits ≡ false → x ≡ false) × AreBelow asked (later_bits bits)

-- ---- one after the other

pub begins_front : (p q bits : List Bool) → Begins (p ++ q) bits → Begins p bits
begins_front [] q bits h = tt
begins_front (x ∷ p) q bits h = (h.0, begins_front p q (later_bits bits) h.1)

pub begins_back : (p q bits : List Bool) → Begins (p ++ q) bits → Begins q (behind p bits)
begins_back [] q bits h = h
begins_back (x ∷ p) q bits h = begins_back p q (later_bits bits) h.1

pub begins_both : (p q bits : List Bool) → Begins p bits → Begins q (behind p bits) → Begins (p ++ q) bits
begins_both [] q bits h k = k
begins_both (x ∷ p) q bits h k = (h.0, begins_both p q (later_bits bits) h.1 k)

pub behind_both : (p q bits : List Bool) → behind (p ++ q) bits ≡ behind q (behind p bits)
behind_both [] q bits = refl
behind_both (x ∷ p) q bits = behind_both p q (later_bits bits)

pub below_both : (p q bits : List Bool) → AreBelow p bits → AreBelow q (behind p bits) → AreBelow (p ++ q) bits
below_both [] q bits h k = k
below_both (x ∷ p) q bits h k = (h.0, below_both p q (later_bits bits) h.1 k)

-- ---- where there are no bits, none asked for is 1

pub below_none : (asked : List Bool) → AreBelow asked [] → Begins asked []
below_none [] h = tt
below_none (x ∷ asked) h = (sym (h.0 refl), below_none asked h.1)

pub behind_none : (asked : List Bool) → behind asked [] ≡ []
behind_none [] = refl
behind_none (x ∷ asked) = behind_none asked

-- ---- bit by bit

first_bit : (bits : List Bool) → next_bit bits ≡ bit_at bits 0
first_bit [] = refl
first_bit (x ∷ xs) = refl

later_bit : (bits : List Bool) (i : ℕ) → bit_at (later_bits bits) i ≡ bit_at bits (suc i)
later_bit [] i = refl
later_bit (x ∷ xs) i = refl

pub begins_at : (asked bits : List Bool) → ((i : ℕ) → bit_at bits i ≡ bit_at asked i) → Begins asked bits
begins_at [] bits same = tt
begins_at (x ∷ asked) bits same = (first_bit bits ∙ same 0, begins_at asked (later_bits bits) (λ i. later_bit bits i ∙ same (suc i)))

pub none_behind : (asked bits : List Bool) → ((i : ℕ) → bit_at bits i ≡ bit_at asked i) → (i : ℕ) → bit_at (behind asked bits) i ≡ false
none_behind [] bits same i = same i
none_behind (x ∷ asked) bits same i = none_behind asked (later_bits bits) (λ j. later_bit bits j ∙ same (suc j)) i

pub bits_are : (asked bits : List Bool) → Begins asked bits → ((i : ℕ) → bit_at (behind asked bits) i ≡ false) → (i : ℕ) → bit_at bits i ≡ bit_at asked i
bits_are [] bits h none i = none i
bits_are (x ∷ asked) bits h none zero = sym (first_bit bits) ∙ h.0
bits_are (x ∷ asked) bits h none (suc i) = sym (later_bit bits i) ∙ bits_are asked (later_bits bits) h.1 none i

set_below : (x y : Bool) → (y ≡ false → x ≡ false) → x ≡ true → y ≡ true
set_below x true h set = refl
set_below x false h set = let unset = h refl in absurd cc

pub below_at : (asked bits : List Bool) → AreBelow asked bits → (i : ℕ) → bit_at asked i ≡ true → bit_at bits i ≡ true
below_at [] bits h i set = absurd cc
below_at (x ∷ asked) bits h zero set = sym (first_bit bits) ∙ set_below x (next_bit bits) h.0 set
below_at (x ∷ asked) bits h (suc i) set = sym (later_bit bits i) ∙ below_at asked (later_bits bits) h.1 i set
