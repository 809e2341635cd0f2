-- The map of n groups that has given bits, and that none is shorter.
use Rattle.fast_wire.proofs.Common.{◌≡◌, ℕ, zero, suc, ◌+◌, ◌-◌, ◌*◌, ◌/◌, ◌%◌, ◌<◌, ◌≤◌, Bool, true, false, nat_eq, List, [], ◌∷◌, ◌++◌, length, drop, refl, sym, ap, ◌∙◌, arith, inl, inr, append_assoc, add-zero, cases_lt, true≢false, IsEntity, groups, IsShortest, group_bits, bits_of, bit_at, IsMap, HasSetBit, bit_number, group_from, map_of, IsUsed, IsMapSize}
use Rattle.std.proofs.lemmas.List.{get_or_past, get_or-drop, length-map}
use Rattle.fast_wire.proofs.MapBits.{length_bits}
use Rattle.fast_wire.proofs.UnsignedForms.{entity_some}

bit_small : (b : Bool) → bit_number b ≤ 1
bit_small true = omega arith
bit_small false = omega arith

bit_back : (b : Bool) → nat_eq (bit_number b) 1 ≡ b
bit_back true = refl
bit_back false = refl

pub group_small : (bits : List Bool) (from : ℕ) → group_from bits from < 128
group_small bits from = omega (
  arith,
  bit_small (bit_at bits from),
  bit_small (bit_at bits (from + 1)),
  bit_small (bit_at bits (from + 2)),
  bit_small (bit_at bits (from + 3)),
  bit_small (bit_at bits (from + 4)),
  bit_small (bit_at bits (from + 5)),
  bit_small (bit_at bits (from + 6)),
)

-- the bits of a number that is made of seven bits
seven : (v a b c d e f g : ℕ) → a ≤ 1 → b ≤ 1 → c ≤ 1 → d ≤ 1 → e ≤ 1 → f ≤ 1 → g ≤ 1 → v % 128 ≡ 64 * a + 32 * b + 16 * c + 8 * d + 4 * e + 2 * f + g
    → (v % 128 / 64 % 2 ≡ a) × (v % 128 / 32 % 2 ≡ b) × (v % 128 / 16 % 2 ≡ c) × (v % 128 / 8 % 2 ≡ d) × (v % 128 / 4 % 2 ≡ e) × (v % 128 / 2 % 2 ≡ f) × (v % 128 % 2 ≡ g)
seven v a b c d e f g ha hb hc hd he hf hg h = (omega arith, omega arith, omega arith, omega arith, omega arith, omega arith, omega arith)

pub group_back : (v : ℕ) (bits : List Bool) (from : ℕ) → v % 128 ≡ group_from bits from
    → group_bits (v % 128) ≡ bit_at bits from ∷ bit_at bits (from + 1) ∷ bit_at bits (from + 2) ∷ bit_at bits (from + 3) ∷ bit_at bits (from + 4) ∷ bit_at bits (from + 5) ∷ bit_at bits (from + 6) ∷ []
group_back v bits from h =
    let s = seven v _ _ _ _ _ _ _ (bit_small (bit_at bits from)) (bit_small (bit_at bits (from + 1))) (bit_small (bit_at bits (from + 2))) (bit_small (bit_at bits (from + 3)))
    (bit_small (bit_at bits (from + 4))) (bit_small (bit_at bits (from + 5))) (bit_small (bit_at bits (from + 6))) h in
    rw (
      s.0,
      s.1,
      s.2,
      s.3,
      s.4,
      s.5,
      s.6,
      bit_back (bit_at bits from),
      bit_back (bit_at bits (from + 1)),
      bit_back (bit_at bits (from + 2)),
      bit_back (bit_at bits (from + 3)),
      bit_back (bit_at bits (from + 4)),
      bit_back (bit_at bits (from + 5)),
      bit_back (bit_at bits (from + 6)),
    ) refl

pub map_length : (n : ℕ) (bits : List Bool) (from : ℕ) → length (map_of n bits from) ≡ n
map_length zero bits from = refl
map_length (suc zero) bits from = refl
map_length (suc (suc n)) bits from = ap suc (map_length (suc n) bits (from + 7))

map_entity : (n : ℕ) (bits : List Bool) (from : ℕ) → 0 < n → IsEntity (map_of n bits from)
map_entity zero bits from h = absurd (omega arith)
map_entity (suc zero) bits from h = (omega arith, omega (arith, group_small bits from))
map_entity (suc (suc zero)) bits from h = (group_small bits from, map_entity (suc zero) bits (from + 7) (omega arith))
map_entity (suc (suc (suc n))) bits from h = (group_small bits from, map_entity (suc (suc n)) bits (from + 7) (omega arith))

-- bit i of a list that begins with seven bits from a place on
front_bit : (bits tail : List Bool) (from i : ℕ) → ((j : ℕ) → i ≡ 7 + j → bit_at tail j ≡ bit_at bits (from + i))
    → bit_at (bit_at bits from ∷ bit_at bits (from + 1) ∷ bit_at bits (from + 2) ∷ bit_at bits (from + 3) ∷ bit_at bits (from + 4) ∷ bit_at bits (from + 5) ∷ bit_at bits (from + 6) ∷ tail) i ≡ bit_at bits (from + i)
front_bit bits tail from zero h = rw add-zero refl
front_bit bits tail from (suc zero) h = refl
front_bit bits tail from (suc (suc zero)) h = refl
front_bit bits tail from (suc (suc (suc zero))) h = refl
front_bit bits tail from (suc (suc (suc (suc zero)))) h = refl
front_bit bits tail from (suc (suc (suc (suc (suc zero))))) h = refl
front_bit bits tail from (suc (suc (suc (suc (suc (suc zero)))))) h = refl
front_bit bits tail from (suc (suc (suc (suc (suc (suc (suc j))))))) h = h j (omega arith)

map_bits : (n : ℕ) (bits : List Bool) (from i : ℕ) → i < 7 * n → bit_at (bits_of (groups (map_of n bits from))) i ≡ bit_at bits (from + i)
map_bits zero bits from i h = absurd (omega arith)
map_bits (suc zero) bits from i h =
    let e : (group_from bits from + 128) % 128 ≡ group_from bits from = omega (arith, group_small bits from) in
    ap (λ l. bit_at (l ++ []) i) (group_back (group_from bits from + 128) bits from e) ∙ front_bit bits [] from i (λ j p. absurd (omega arith))
map_bits (suc (suc n)) bits from i h =
    let e : group_from bits from % 128 ≡ group_from bits from = omega (arith, group_small bits from) in
    let tail = bits_of (groups (map_of (suc n) bits (from + 7))) in
    ap (λ l. bit_at (l ++ tail) i) (group_back (group_from bits from) bits from e) ∙ front_bit bits tail from i
    (λ j p. let same : from + 7 + j ≡ from + i = omega arith in map_bits (suc n) bits (from + 7) j (omega arith) ∙ ap (bit_at bits) same)

pub past : (bs : List ℕ) (i : ℕ) → 7 * length bs ≤ i → bit_at (bits_of (groups bs)) i ≡ false
past bs i h = get_or_past (bits_of (groups bs)) i false (omega (arith, length_bits (groups bs), length-map bs (λ b. b % 128)))

-- the map of the least size has the bits, and none that has them is shorter
pub map_shortest : (bits : List Bool) (used n : ℕ) → IsUsed bits used → IsMapSize used n → IsShortest IsMap (map_of n bits 0) bits
map_shortest bits used n u h = record {
  form = record {
    entity = map_entity n bits 0 h.0;
    short = rw (map_length n bits 0) h.1;
    value = λ i.
        elim (cases_lt i (7 * n)) [
          | inl less ↦ let e : 0 + i ≡ i = omega arith in map_bits n bits 0 i less ∙ ap (bit_at bits) e
          | inr more ↦ past (map_of n bits 0) i (rw (map_length n bits 0) more) ∙ sym (u.rest i (omega (arith, h.2)))
        ];
  };
  least = λ other f. rw (map_length n bits 0) (elim (cases_lt (length other) n) [
    | inl less ↦
        let some = entity_some other f.entity in
        let long = h.3 (omega arith) in
        let set = u.last (omega arith) in
        absurd (true≢false (sym set ∙ sym (f.value (used - 1)) ∙ past other (used - 1) (omega arith)))
    | inr le ↦ le
  ]);
}

pub map_step : (front : List ℕ) (bits : List Bool) (left from : ℕ) → 1 < left → (front ++ group_from bits from ∷ []) ++ map_of (left - 1) bits (from + 7) ≡ front ++ map_of left bits from
map_step front bits zero from h = absurd (omega arith)
map_step front bits (suc zero) from h = absurd (omega arith)
map_step front bits (suc (suc n)) from h =
    let e : suc (suc n) - 1 ≡ suc n = omega arith in
    rw e (append_assoc front (group_from bits from ∷ []) (map_of (suc n) bits (from + 7)))

-- few bits stand in one group, and no map is shorter
pub one_group : (bits : List Bool) → length bits ≤ 7 → IsShortest IsMap (map_of 1 bits 0) bits
one_group bits few = record {
  form = record {
    entity = map_entity 1 bits 0 (omega arith);
    short = omega arith;
    value = λ i.
        elim (cases_lt i 7) [
          | inl less ↦ let e : 0 + i ≡ i = omega arith in map_bits 1 bits 0 i less ∙ ap (bit_at bits) e
          | inr more ↦ past (map_of 1 bits 0) i more ∙ sym (get_or_past bits i false (omega arith))
        ];
  };
  least = λ other f. omega (arith, entity_some other f.entity);
}

pub few_none : (bits : List Bool) → length bits ≤ 1792 → HasSetBit (drop 1792 bits) → ⊥
few_none bits few (i, set) = true≢false (sym (rw (← get_or-drop 1792 bits i false) set) ∙ get_or_past bits (1792 + i) false (omega arith))

pub used_set : (bits : List Bool) (used m : ℕ) → IsUsed bits used → m < used → HasSetBit (drop m bits)
used_set bits used m u h =
    let e : m + (used - 1 - m) ≡ used - 1 = omega arith in
    (used - 1 - m, rw (get_or-drop m bits (used - 1 - m) false, e) (u.last (omega arith)))

pub used_none : (bits : List Bool) (used m : ℕ) → IsUsed bits used → used ≤ m → HasSetBit (drop m bits) → ⊥
used_none bits used m u h (i, set) = true≢false (sym (rw (← get_or-drop m bits i false) set) ∙ u.rest (m + i) (omega arith))
