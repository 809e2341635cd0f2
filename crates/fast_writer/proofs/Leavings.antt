-- Bits that were asked for, as they stand in the shortest map.
use Rattle.fast_writer.proofs.Common.{◌≡◌, ℕ, zero, suc, Bool, true, false, List, [], ◌∷◌, ◌++◌, refl, sym, ◌∙◌, groups, later_bits, bit_at, bits_of, IsMap, IsShortest, bit_for, after_bit, IsShortestMap, Leaves, bits_for}

-- what is taken first, and what behind it
pub leaves_split : (bits used all later : List Bool) → Leaves (bits ++ used) all later → (mid : List Bool) × Leaves bits all mid × Leaves used mid later
leaves_split [] used all later h = (all, refl, h)
leaves_split (b ∷ bits) used all later h = let r = leaves_split bits used (later_bits all) later h.1 in (r.0, (h.0, r.1), r.2)

pub bit_of : (needs bit : Bool) (mid later : List Bool) → (needs ≡ false → bit ≡ true) → Leaves (bits_for needs bit) mid later → bit_for needs mid ≡ bit
bit_of true bit mid later h leaves = leaves.0
bit_of false bit mid later h leaves = sym (h refl)

pub behind_of : (needs bit : Bool) (mid later : List Bool) → Leaves (bits_for needs bit) mid later → after_bit needs mid ≡ later
behind_of true bit mid later leaves = leaves.1
behind_of false bit mid later leaves = leaves

pub no_bits : (needs bit : Bool) → needs ≡ false → bits_for needs bit ≡ []
no_bits needs bit h = rw h refl

-- bits that are those asked for, up to zeros at the end
leaves_rest : (asked all : List Bool) → ((i : ℕ) → bit_at all i ≡ bit_at asked i) → (left : List Bool) × Leaves asked all left × ((i : ℕ) → bit_at left i ≡ false)
leaves_rest [] all h = (all, refl, h)
leaves_rest (b ∷ bs) [] h = let r = leaves_rest bs [] (λ i. h (suc i)) in (r.0, (h zero, r.1), r.2)
leaves_rest (b ∷ bs) (c ∷ cs) h = let r = leaves_rest bs cs (λ i. h (suc i)) in (r.0, (h zero, r.1), r.2)

pub record Closed (asked : List Bool) (x : List ℕ) : Type 0 where
  pub bits : List Bool
  pub left : List Bool
  pub leaves : Leaves asked bits left
  pub map : IsShortestMap bits left x

-- the shortest map of the bits that were asked for
pub closed : (asked : List Bool) (x : List ℕ) → IsShortest IsMap x asked → Closed asked x
closed asked x s =
    let r = leaves_rest asked (bits_of (groups x)) s.form.value in
    record {
      bits = bits_of (groups x);
      left = r.0;
      leaves = r.1;
      map = record {
        form = record { entity = s.form.entity; short = s.form.short; value = refl };
        asked = r.2;
        least = λ others m. s.least others (record { entity = m.entity; short = m.short; value = λ i. m.value i ∙ s.form.value i });
      };
    }
