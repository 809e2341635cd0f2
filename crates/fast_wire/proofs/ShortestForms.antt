-- Each number that fits ten groups has a shortest form, and so has each list of bits of which those that are set have room.
use Rattle.fast_wire.proofs.Common.{◌≡◌, ℕ, zero, suc, ◌^◌, ◌+◌, ◌-◌, ◌/◌, ◌<◌, ◌≤◌, Bool, true, false, List, [], ◌∷◌, drop, refl, arith, inl, inr, lit≤, cases_lt, IsUnsigned, bit_at, HasSetBit, IsMap, IsShortest, entity_of, map_of, IsMapSize, IsUsed, unsigned_size}
use Rattle.fast_wire.proofs.Sizes.{unsigned_fits}
use Rattle.fast_wire.proofs.UnsignedForms.{entity_shortest}
use Rattle.fast_wire.proofs.MapForms.{few_none, map_shortest, used_set}

pub shortest_unsigned : (v : ℕ) → v < 128 ^ 10 → (bytes : List ℕ) × IsShortest IsUnsigned bytes v
shortest_unsigned v fits = (entity_of (unsigned_size v) v, entity_shortest v (unsigned_size v) (unsigned_fits v fits))

-- ---- how many bits there are up to the last 1

past : (x : Bool) (bits : List Bool) (n : ℕ) → ((i : ℕ) → n ≤ i → bit_at bits i ≡ false) → (i : ℕ) → suc n ≤ i → bit_at (x ∷ bits) i ≡ false
past x bits n rest zero le = absurd (omega arith)
past x bits n rest (suc i) le = rest i (omega arith)

used_more : (x : Bool) (bits : List Bool) (n : ℕ) → IsUsed bits n → (m : ℕ) × IsUsed (x ∷ bits) m
used_more x bits (suc n) h =
    let e : suc (suc n) - 1 ≡ suc n = omega arith in
    let f : suc n - 1 ≡ n = omega arith in
    (suc (suc n), record { last = λ some. rw e (rw f at (h.last (omega arith))); rest = past x bits (suc n) h.rest })
used_more true bits zero h = (1, record { last = λ some. refl; rest = past true bits 0 h.rest })
used_more false bits zero h = (0, record { last = λ some. absurd (omega arith); rest = none })
  where
    none : (i : ℕ) → 0 ≤ i → bit_at (false ∷ bits) i ≡ false
    none zero le = refl
    none (suc i) le = h.rest i (omega arith)

pub used_in : (bits : List Bool) → (n : ℕ) × IsUsed bits n
used_in [] = (0, record { last = λ some. absurd (omega arith); rest = λ i le. refl })
used_in (x ∷ bits) = let u = used_in bits in used_more x bits u.0 u.1

-- ---- the shortest map, where each bit that is set has room

-- the number of groups that so many bits take
abbrev pub groups_for : ℕ → ℕ
groups_for zero = 1
groups_for (suc n) = n / 7 + 1

pub groups_are : (used : ℕ) → used ≤ 1792 → IsMapSize used (groups_for used)
groups_are zero few = (omega arith, omega arith, omega arith, λ long. absurd (omega arith))
groups_are (suc n) few = (omega arith, omega arith, omega arith, λ long. omega arith)

pub shortest_map : (bits : List Bool) → (HasSetBit (drop 1792 bits) → ⊥) → (bytes : List ℕ) × IsShortest IsMap bytes bits
shortest_map bits room =
    let u = used_in bits in
    let few : u.0 ≤ 1792 = elim (cases_lt 1792 u.0) [ inl more ↦ absurd (room (used_set bits u.0 1792 u.1 more)) | inr few ↦ few ] in
    (map_of (groups_for u.0) bits 0, map_shortest bits u.0 (groups_for u.0) u.1 (groups_are u.0 few))

pub shortest_map_of_two : (x y : Bool) → (bytes : List ℕ) × IsShortest IsMap bytes (x ∷ y ∷ [])
shortest_map_of_two x y = shortest_map (x ∷ y ∷ []) (few_none (x ∷ y ∷ []) (lit≤ tt))
