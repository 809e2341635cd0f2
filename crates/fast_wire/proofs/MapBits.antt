-- Lemmas on the bits of a presence map.
use Rattle.fast_wire.proofs.Common.{◌≡◌, ℕ, zero, suc, ◌+◌, ◌-◌, ◌*◌, ◌/◌, ◌%◌, ◌^◌, ◌<◌, ◌≤◌, Bool, true, false, nat_eq, List, [], ◌∷◌, length, get_or, drop, drop-drop, refl, sym, ap, ◌∙◌, arith, get_or-drop, inl, inr, cases_lt, true≢false, drop_all, length-map, get_or_past, groups, bits_of, bit_at, later_bits, HasSetBit}

-- seven bits for each group
pub length_bits : (gs : List ℕ) → length (bits_of gs) ≡ 7 * length gs
length_bits [] = refl
length_bits (g ∷ gs) = let ih = length_bits gs in omega (arith, ih)

-- bit i is bit 6 - i % 7 of group i / 7
pub bit_is : (bs : List ℕ) (i : ℕ) → i < 7 * length bs → nat_eq (get_or bs (i / 7) 0 % 128 / 2 ^ (6 - i % 7) % 2) 1 ≡ bit_at (bits_of (groups bs)) i
bit_is [] i h = absurd (omega arith)
bit_is (b ∷ bs) zero h = refl
bit_is (b ∷ bs) (suc zero) h = refl
bit_is (b ∷ bs) (suc (suc zero)) h = refl
bit_is (b ∷ bs) (suc (suc (suc zero))) h = refl
bit_is (b ∷ bs) (suc (suc (suc (suc zero)))) h = refl
bit_is (b ∷ bs) (suc (suc (suc (suc (suc zero))))) h = refl
bit_is (b ∷ bs) (suc (suc (suc (suc (suc (suc zero)))))) h = let e : b % 128 / 1 ≡ b % 128 = omega arith in ap (λ x. nat_eq (x % 2) 1) e
bit_is (b ∷ bs) (suc (suc (suc (suc (suc (suc (suc j))))))) h =
    let q : suc (suc (suc (suc (suc (suc (suc j)))))) / 7 ≡ suc (j / 7) = omega arith in
    let r : suc (suc (suc (suc (suc (suc (suc j)))))) % 7 ≡ j % 7 = omega arith in
    rw (q, r) (bit_is bs j (omega arith))

-- past the last group no bit is left
pub none_left : (bs : List ℕ) (place : ℕ) → 7 * length bs ≤ place → drop place (bits_of (groups bs)) ≡ []
none_left bs place h = drop_all place (bits_of (groups bs)) (omega (arith, length_bits (groups bs), length-map bs (λ b. b % 128)))

-- the bits behind the next one
later_drop : (bits : List Bool) → drop 1 bits ≡ later_bits bits
later_drop [] = refl
later_drop (bit ∷ bits) = refl

pub later_left : (bits : List Bool) (place : ℕ) → drop (place + 1) bits ≡ later_bits (drop place bits)
later_left bits place = sym (drop-drop 1 place bits) ∙ later_drop (drop place bits)

-- a bit of what is left
pub bit_left : (bits : List Bool) (place i : ℕ) → place ≤ i → bit_at bits i ≡ bit_at (drop place bits) (i - place)
bit_left bits place i h = let e : place + (i - place) ≡ i = omega arith in rw (get_or-drop place bits (i - place) false, e) refl

pub left_here : (bits : List Bool) (place i : ℕ) → place ≤ i → bit_at bits i ≡ true → HasSetBit (drop place bits)
left_here bits place i h e = (i - place, sym (bit_left bits place i h) ∙ e)

pub left_none : (bs : List ℕ) (place : ℕ) (end : ℕ) → 7 * length bs ≤ end
    → ((k : ℕ) → place ≤ k → k < end → bit_at (bits_of (groups bs)) k ≡ false) → HasSetBit (drop place (bits_of (groups bs))) → ⊥
left_none bs place end long none (i, set) =
    let bits = bits_of (groups bs) in
    let here : bit_at bits (place + i) ≡ true = rw (← get_or-drop place bits i false) set in
    elim (cases_lt (place + i) end) [
      | inl less ↦ true≢false (sym here ∙ none (place + i) (omega arith) less)
      | inr more ↦ true≢false (sym here ∙ get_or_past bits (place + i) false (omega (arith, length_bits (groups bs), length-map bs (λ b. b % 128))))
    ]
