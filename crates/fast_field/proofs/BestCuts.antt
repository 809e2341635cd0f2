-- The best delta of a string or vector: the longest common prefix with removal at the end, or the longest common suffix
-- with removal in front.
use Rattle.fast_field.proofs.Common.{◌≡◌, ℕ, zero, suc, ◌+◌, ◌-◌, ◌^◌, ◌<◌, ◌≤◌, true, false, List, ◌++◌, length, take, drop, get_or, min, refl, sym, ap, subst, arith, inl, inr, length-append, length-take, length-drop, take-append-drop, ℤ, pos, negsuc, nat_le, if◌then◌else◌, IsTrue, eqb, cases_lt, le-leb, eqb_tells, Usual, magnitude, unsigned_size, Value, signed_sizes, signed_nullable_sizes, ascii_sizes, vector_sizes, signed_grow, signed_nullable_grow, unsigned_size-grows, in_range, Kind, Presence, Mandatory, Optional, Scalar, units_of, IsUnitKind, SpellsInteger, SpellsPart, IsOfUnits, Cut, removed_of, side_of, put_together, IsOfFewUnits, SpellsCut, NoLater, IsLongestPrefix, IsLongestSuffix, ShortestSigned, ShortestPart, Both, length_size, part_size, CutNoLater, IsBestCut, and_from}
use Rattle.fast_field.proofs.Agreeing.{prefix_more, prefix_stops, prefix_ends, suffix_none, suffix_more, suffix_stops, suffix_ends}
use Rattle.fast_field.proofs.Least.{IsPartCost, IsLengthCost, no_worse, end_is_least, front_is_least, ascii_parts, vector_parts}
use Rattle.fast_field.proofs.BestDeltas.{IsFirst, First}
use Rattle.fast_field.proofs.Shortest.{signed_form, part_form, length_is, part_is, shortest_signed, shortest_part}
use Rattle.fast_field.proofs.Refused.{units_are}
use Rattle.fast_field.proofs.ValuesWithin.{IsOfType, IsString, unit_limit, units_of_string, all_take, all_drop}
use Rattle.fast_field.proofs.StandingForms.{of_units_is}

-- ---- sizes

lengths : (p : Presence) → IsLengthCost (length_size p)
lengths Mandatory = record { at_end = λ m n le. signed_grow (pos m) (pos n) le; in_front = λ m n le. signed_grow (negsuc m) (negsuc n) le }
lengths Optional = record { at_end = λ m n le. signed_nullable_grow (pos m) (pos n) le; in_front = λ m n le. signed_nullable_grow (negsuc m) (negsuc n) le }

pub parts : (k : Kind) → IsPartCost (part_size k)
parts Kind.Ascii = ascii_parts
parts k = vector_parts unsigned_size unsigned_size-grows

pub length_least : (p : Presence) (z : ℤ) (b : List ℕ) → SpellsInteger Usual false p b (Value z) → length_size p z ≤ length b
length_least Mandatory z b h = signed_sizes.least b z h
length_least Optional z b h = signed_nullable_sizes.least b (Value z) h

pub part_least : (k : Kind) (s b : List ℕ) → SpellsPart Usual k b s → part_size k s ≤ length b
part_least Kind.Ascii s b h = ascii_sizes.least b s h
part_least k s b h = vector_sizes.least b s h

-- no form of a cut has fewer bytes than its two parts
cut_least : (k : Kind) (p : Presence) (base : Scalar) (cut : Cut) (b : List ℕ) (v : Scalar) (h : SpellsCut Usual k p base cut b v) → length_size p h.removal + part_size k h.new_part ≤ length b
cut_least k p base cut b v h =
    omega (arith, ap length h.parts, length-append h.front h.back, length_least p h.removal h.front h.removal_form, part_least k h.new_part h.back h.part_form)

-- ---- how far two lists agree

abbrev agree_from : List ℕ → List ℕ → ℕ → ℕ → ℕ
agree_from a b zero i = i
agree_from a b (suc fuel) i = if eqb (get_or a i 0) (get_or b i 0) then agree_from a b fuel (i + 1) else i

prefix_from : (a b : List ℕ) (fuel i : ℕ) → i + fuel ≡ min (length a) (length b) → take i a ≡ take i b → IsLongestPrefix a b (agree_from a b fuel i)
prefix_from a b zero i e so_far = prefix_ends a b i (omega arith) (omega arith) so_far
prefix_from a b (suc fuel) i e so_far = elim (eqb_tells (get_or a i 0) (get_or b i 0)) [
  | inl same ↦ rw same.0 (prefix_from a b fuel (i + 1) (omega arith) (prefix_more a b i (omega arith) (omega arith) same.1 so_far))
  | inr differ ↦ rw differ.0 (prefix_stops a b i (omega arith) (omega arith) differ.1 so_far)
]

-- how many units they agree in at their front
abbrev pub agree_front : List ℕ → List ℕ → ℕ
agree_front a b = agree_from a b (min (length a) (length b)) 0

pub front_agrees : (a b : List ℕ) → IsLongestPrefix a b (agree_front a b)
front_agrees a b = prefix_from a b (min (length a) (length b)) 0 (omega arith) refl

pub longest_prefix : (a b : List ℕ) → (n : ℕ) × IsLongestPrefix a b n
longest_prefix a b = (agree_front a b, front_agrees a b)

abbrev agree_before : List ℕ → List ℕ → ℕ → ℕ → ℕ
agree_before a b zero i = i
agree_before a b (suc fuel) i = if eqb (get_or a (length a - 1 - i) 0) (get_or b (length b - 1 - i) 0) then agree_before a b fuel (i + 1) else i

suffix_from : (a b : List ℕ) (fuel i : ℕ) → i + fuel ≡ min (length a) (length b) → drop (length a - i) a ≡ drop (length b - i) b → IsLongestSuffix a b (agree_before a b fuel i)
suffix_from a b zero i e so_far = suffix_ends a b i (omega arith) (omega arith) so_far
suffix_from a b (suc fuel) i e so_far = elim (eqb_tells (get_or a (length a - 1 - i) 0) (get_or b (length b - 1 - i) 0)) [
  | inl same ↦ rw same.0 (suffix_from a b fuel (i + 1) (omega arith) (suffix_more a b i (omega arith) (omega arith) same.1 so_far))
  | inr differ ↦ rw differ.0 (suffix_stops a b i (omega arith) (omega arith) differ.1 so_far)
]

-- and at their end
abbrev pub agree_back : List ℕ → List ℕ → ℕ
agree_back a b = agree_before a b (min (length a) (length b)) 0

pub back_agrees : (a b : List ℕ) → IsLongestSuffix a b (agree_back a b)
back_agrees a b = suffix_from a b (min (length a) (length b)) 0 (omega arith) (suffix_none a b)

pub longest_suffix : (a b : List ℕ) → (n : ℕ) × IsLongestSuffix a b n
longest_suffix a b = (agree_back a b, back_agrees a b)

-- ---- the better of the two

module _ (k : Kind) (p : Presence) (base v : List ℕ) (n m : ℕ) (prefix : IsLongestPrefix base v n) (suffix : IsLongestSuffix base v m) where
  abbrev end_size : ℕ
  end_size = length_size p (pos (length base - n)) + part_size k (drop n v)

  abbrev front_size : ℕ
  front_size = length_size p (negsuc (length base - m)) + part_size k (take (length v - m) v)

  first_end : end_size ≤ front_size → (z : ℤ) (q : List ℕ) → removed_of z ≤ length base → v ≡ put_together z base q
      → CutNoLater end_size (pos (length base - n)) (length (drop n v)) (length_size p z + part_size k q) z (length q)
  first_end le (pos r) q there e =
      let h = end_is_least (length_size p) (part_size k) base v q n r (lengths p) (parts k) prefix there e in
      no_worse _ _ _ h.0 (λ e. inr (refl, h.1))
  first_end le (negsuc r) q there e =
      let h = front_is_least (length_size p) (part_size k) base v q m r (lengths p) (parts k) suffix there e in
      no_worse _ _ _ (omega (arith, h.0, le)) (λ e. inl (omega arith))

  first_front : front_size < end_size → (z : ℤ) (q : List ℕ) → removed_of z ≤ length base → v ≡ put_together z base q
      → CutNoLater front_size (negsuc (length base - m)) (length (take (length v - m) v)) (length_size p z + part_size k q) z (length q)
  first_front lt (pos r) q there e =
      let h = end_is_least (length_size p) (part_size k) base v q n r (lengths p) (parts k) prefix there e in
      inl (omega (arith, h.0, lt))
  first_front lt (negsuc r) q there e =
      let h = front_is_least (length_size p) (part_size k) base v q m r (lengths p) (parts k) suffix there e in
      no_worse _ _ _ h.0 (λ e. inr (refl, h.1))

  pub best_at_end : end_size ≤ front_size → IsBestCut k p base v (pos (length base - n)) (drop n v)
  best_at_end le =
      let kept : length base - (length base - n) ≡ n = let in_a = prefix.in_a in omega arith in
      record { few = omega arith; made = rw (kept, prefix.common) (sym (take-append-drop n v)); first = first_end le }

  pub best_in_front : front_size < end_size → IsBestCut k p base v (negsuc (length base - m)) (take (length v - m) v)
  best_in_front lt = record { few = omega arith; made = rw suffix.common (sym (take-append-drop (length v - m) v)); first = first_front lt }

-- ---- its form

no_later : (m n m' n' : ℕ) (z z' : ℤ) (a a' : ℕ) → n ≡ m → m' ≤ n' → CutNoLater m z a m' z' a' → NoLater true n (record { side = side_of z; part = a }) true n' (record { side = side_of z'; part = a' })
no_later m n m' n' z z' a a' e le (inl lt) = inr (refl, inl (omega arith))
no_later m n m' n' z z' a a' e le (inr h) = elim (cases_lt n n') [
  | inl lt ↦ inr (refl, inl lt)
  | inr ge ↦ inr (refl, inr (let same = h.0 in omega arith, h.1))
]

removal_fits : (z : ℤ) → removed_of z ≤ 65535 → (magnitude z < 2 ^ 68) × IsTrue (in_range Kind.Int32 z)
removal_fits (pos n) h = (omega arith, le-leb n 2147483647 (omega arith))
removal_fits (negsuc n) h = (omega arith, and_from (nat_le n 2147483647) true (le-leb n 2147483647 (omega arith)) refl)

pub of_few : (k : Kind) (s : List ℕ) (v : Scalar) → IsOfUnits k (units_of v) v → length (units_of v) ≤ 65535 → units_of v ≡ s → IsOfFewUnits k s v
of_few k s v h le e = subst (λ (x : List ℕ). IsOfFewUnits k x v) e (le, h)

pub removal_small : (base : List ℕ) (z : ℤ) → length base ≤ 65535 → removed_of z ≤ length base → magnitude z < 2 ^ 68
removal_small base z few le = (removal_fits z (omega (arith, le, few))).0

-- the bytes of the best cut come before all other forms
pub cut_is_first : (k : Kind) (p : Presence) (base v : Scalar) (removal : ℤ) (part b : List ℕ) → IsUnitKind k → IsOfType k base → IsOfType k v → IsBestCut k p (units_of base) (units_of v) removal part → Both (ShortestSigned p removal) (ShortestPart k part) b
    → IsFirst (λ c b. SpellsCut Usual k p base c b v) b
cut_is_first k p base v removal part b u h l best spelled =
    let few_base = units_of_string k base u h in
    let few_value = units_of_string k v u l in
    let range = removal_fits removal (omega (arith, best.few, few_base.0)) in
    let size : length b ≡ length_size p removal + part_size k part = omega (arith, ap length spelled.parts, length-append spelled.front spelled.back, length_is p removal spelled.front spelled.first, part_is k part spelled.back spelled.second) in
    record {
      cut = record { side = side_of removal; part = length part };
      form = record {
        removal = removal;
        new_part = part;
        front = spelled.front;
        back = spelled.back;
        parts = spelled.parts;
        removal_form = (signed_form p removal spelled.front spelled.first).form;
        is_int32 = range.1;
        there = best.few;
        part_form = (part_form k part spelled.back spelled.second).form;
        value = of_few k (put_together removal (units_of base) part) v (of_units_is k v u l) few_value.0 best.made;
        cut_is = refl;
      };
      first = λ c o other.
          let made = units_are k (put_together other.removal (units_of base) other.new_part) v other.value.1 in
          let later = best.first other.removal other.new_part other.there made in
          rw other.cut_is (no_later (length_size p removal + part_size k part) (length b) (length_size p other.removal + part_size k other.new_part) (length o) removal other.removal (length part) (length other.new_part) size (cut_least k p base c o v other) later);
    }

pub drop_fits : (k : Kind) (n : ℕ) (s : List ℕ) → IsString k s → IsString k (drop n s)
drop_fits k n s h = let less = h.0 in (omega (arith, length-drop n s), all_drop (λ x. x < unit_limit k) n s h.1)

pub take_fits : (k : Kind) (n : ℕ) (s : List ℕ) → IsString k s → IsString k (take n s)
take_fits k n s h = let less = h.0 in (omega (arith, length-take n s), all_take (λ x. x < unit_limit k) n s h.1)

-- each value has one on each base
cut_stands : (k : Kind) (p : Presence) (base v : Scalar) (removal : ℤ) (part : List ℕ) → IsUnitKind k → IsOfType k base → IsOfType k v → IsString k part → IsBestCut k p (units_of base) (units_of v) removal part
    → First (λ c b. SpellsCut Usual k p base c b v)
cut_stands k p base v removal part u h l fits best =
    let first = shortest_signed p removal (removal_small (units_of base) removal (units_of_string k base u h).0 best.few) in
    let second = shortest_part k part fits in
    (first.0 ++ second.0, cut_is_first k p base v removal part (first.0 ++ second.0) u h l best (record { front = first.0; back = second.0; parts = refl; first = first.1; second = second.1 }))

pub string_delta_first : (k : Kind) (p : Presence) (base v : Scalar) → IsUnitKind k → IsOfType k base → IsOfType k v → First (λ c b. SpellsCut Usual k p base c b v)
string_delta_first k p base v u h l =
    let s = units_of base in
    let t = units_of v in
    let fits = units_of_string k v u l in
    let prefix = longest_prefix s t in
    let suffix = longest_suffix s t in
    let at_the_end = length_size p (pos (length s - prefix.0)) + part_size k (drop prefix.0 t) in
    let in_the_front = length_size p (negsuc (length s - suffix.0)) + part_size k (take (length t - suffix.0) t) in
    elim (cases_lt in_the_front at_the_end) [
      | inl lt ↦ cut_stands k p base v (negsuc (length s - suffix.0)) (take (length t - suffix.0) t) u h l (take_fits k (length t - suffix.0) t fits) (best_in_front k p s t prefix.0 suffix.0 prefix.1 suffix.1 lt)
      | inr ge ↦ cut_stands k p base v (pos (length s - prefix.0)) (drop prefix.0 t) u h l (drop_fits k prefix.0 t fits) (best_at_end k p s t prefix.0 suffix.0 prefix.1 suffix.1 ge)
    ]
