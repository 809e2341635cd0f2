-- The shortest map of the bits asked for.
use Rattle.fast_canon.proofs.Common.{◌≡◌, ℕ, zero, suc, ◌-◌, ◌*◌, ◌%◌, ◌<◌, ◌≤◌, Bool, true, false, List, length, refl, sym, ap, ◌∙◌, arith, inl, inr, cases_lt, true≢false, get_or_past, length-map, groups, bit_at, bits_of, IsMap, IsWholeMap, IsShortest, map_of, IsMapSize, length_bits, map_length, map_shortest, one_map, groups_for, used_in, entity_some, IsShortestMap}
use Rattle.fast_canon.proofs.AskedBits.{Begins, behind, AreBelow, begins_at, none_behind, bits_are, below_at}

-- ---- a map of the bits asked for

-- a bit of a map that is 1 is one of its groups'
within_groups : (map : List ℕ) (bits : List Bool) (i : ℕ) → IsWholeMap map bits → bit_at bits i ≡ true → i < 7 * length map
within_groups map bits i m set =
    elim (cases_lt i (7 * length map)) [
      | inl less ↦ less
      | inr more ↦
          let past = get_or_past (bits_of (groups map)) i false (omega (arith, length_bits (groups map), length-map map (λ b. b % 128))) in
          absurd (true≢false (sym set ∙ ap (λ (l : List Bool). bit_at l i) m.value ∙ past))
    ]

size_is : (used most : ℕ) → 0 < most → most ≤ 256 → (0 < used → used - 1 < 7 * most) → IsMapSize used (groups_for used) × (groups_for used ≤ most)
size_is zero most some few within = ((omega arith, omega arith, omega arith, λ long. absurd (omega arith)), omega arith)
size_is (suc n) most some few within =
    let inside = within (omega arith) in ((omega arith, omega arith, omega arith, λ long. omega arith), omega arith)

-- Below the bits of a map: the shortest map that has the bits asked for and no other, which is no longer.
pub record IsShorter (asked : List Bool) (map : List ℕ) : Type 0 where
  pub bytes : List ℕ
  pub shortest : IsShortest IsMap bytes asked
  pub no_longer : length bytes ≤ length map

pub shorter_map : (asked bits : List Bool) (map : List ℕ) → IsWholeMap map bits → AreBelow asked bits → IsShorter asked map
shorter_map asked bits map m below =
    let u = used_in asked in
    let size = size_is u.0 (length map) (entity_some map m.entity) m.short (λ some. within_groups map bits (u.0 - 1) m (below_at asked bits below (u.0 - 1) (u.1.last some))) in record {
      bytes = map_of (groups_for u.0) asked 0;
      shortest = map_shortest asked u.0 (groups_for u.0) u.1 size.0;
      no_longer = rw (map_length (groups_for u.0) asked 0) size.1;
    }

-- ---- as canonical bytes have it

-- its bits begin with those asked for, and it is the shortest of its own
pub record IsMapOf (asked : List Bool) (bytes : List ℕ) : Type 0 where
  pub bits : List Bool
  pub begins : Begins asked bits
  pub shortest : IsShortestMap bits (behind asked bits) bytes

pub map_of_asked : (asked : List Bool) (bytes : List ℕ) → IsShortest IsMap bytes asked → IsMapOf asked bytes
map_of_asked asked bytes h =
    let bits = bits_of (groups bytes) in record {
      bits = bits;
      begins = begins_at asked bits h.form.value;
      shortest = record {
        form = record { entity = h.form.entity; short = h.form.short; value = refl };
        asked = none_behind asked bits h.form.value;
        least = λ others f. h.least others (record { entity = f.entity; short = f.short; value = λ i. f.value i ∙ h.form.value i });
      };
    }

-- the bits asked for have one such map
pub one_shortest : (asked p q : List Bool) (b c : List ℕ) → Begins asked p → Begins asked q → IsShortestMap p (behind asked p) b → IsShortestMap q (behind asked q) c → b ≡ c
one_shortest asked p q b c front other h k =
    let same : (i : ℕ) → bit_at p i ≡ bit_at q i = λ i. bits_are asked p front h.asked i ∙ sym (bits_are asked q other k.asked i) in
    let p_is : (i : ℕ) → bit_at (bits_of (groups b)) i ≡ bit_at p i = λ i. ap (λ (l : List Bool). bit_at l i) (sym h.form.value) in
    let q_is : (i : ℕ) → bit_at (bits_of (groups c)) i ≡ bit_at q i = λ i. ap (λ (l : List Bool). bit_at l i) (sym k.form.value) in
    let b_long = h.least c (record { entity = k.form.entity; short = k.form.short; value = λ i. q_is i ∙ sym (same i) }) in
    let c_long = k.least b (record { entity = h.form.entity; short = h.form.short; value = λ i. p_is i ∙ same i }) in
    let as_long : length b ≡ length c = omega (arith, b_long, c_long) in
    one_map b c h.form.entity k.form.entity as_long (λ i. p_is i ∙ same i ∙ sym (q_is i))
