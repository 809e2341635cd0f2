-- The canonical bytes of two worked streams, part by part.
use Rattle.fast_writer.proofs.Common.{◌≡◌, ◌∙◌, ◌≤◌, ◌<◌, ◌^◌, ℕ, zero, suc, Bool, true, false, pos, negsuc, List, [], ◌∷◌, ◌++◌, length, Option, Some, None, Ok, refl, sym, ap, subst, arith, lit<, lit≤, length-append, append-nil, cond, ℤ, ◌+ℤ◌, codes, nat_lt, if◌then◌else◌, +ℤ_idl, eq_by_cmp, groups, unsigned_of, magnitude, IsSigned, groups_from, signed_size, ascii_size, entity_some, signed_sizes, ascii_sizes, Value, bits_of, bit_at, key_cmp, key_cmp-total, Key, Global, Kind, Presence, Mandatory, Optional, Operator, Whole, Scalar, U32, Ascii, Decimal, FieldPart, worked_set, Entry, Undefined, Empty, Assigned, Dictionary, Usual, delta_base, SpellsInteger, IsOfPair, Spelled, Cut, uncut, SpellsDeltas, FormOf, FormBy, NoLater, IsBest, bit_zero_is_best, at_end_first, Content, State, Then, WithMap, written, identifier, hex, message, quote, u32, IsShortestMap, CanonMessage, IsCanonical}
use Rattle.std.specs.FinMap as finite
use Rattle.fast_field.specs.Values.{exponent_of, mantissa_of}

-- ---- one behind the other

-- a part in front, from which the rest goes on
part_then : {B : List ℕ → Type 0} {S : State → List ℕ → Type 0} {t : State} (front back : List ℕ) → B front → S t back → Then (λ x u. B x × (u ≡ t)) S (front ++ back)
part_then front back best rest = record { between = _; front = front; back = back; parts = refl; first = (best, refl); second = rest }

two_messages : {m n : Content} {d e : Dictionary} (front back : List ℕ) → CanonMessage worked_set finite.empty front m d → CanonMessage worked_set d back n e → IsCanonical worked_set (m ∷ n ∷ []) (front ++ back)
two_messages front back first second = (
  _,
  record {
    between = _;
    front = front;
    back = back;
    parts = refl;
    first = first;
    second = record { between = _; front = back; back = []; parts = sym (append-nil back); first = second; second = (refl, refl) };
  },
)

-- the dictionary behind parts that had these values
abbrev behind : Dictionary → List (FieldPart × Option Scalar) → Dictionary
behind d [] = d
behind d (w ∷ ws) = behind (written w.0 d w.1) ws

abbrev none_set : ℕ → List Bool
none_set zero = []
none_set (suc n) = false ∷ none_set n

not_set : (n i : ℕ) → bit_at (none_set n) i ≡ false
not_set zero i = refl
not_set (suc n) zero = refl
not_set (suc n) (suc i) = not_set n i

-- what stands behind a map of one byte, which is the shortest, where the bits that are left are 0
under_map : {Inside : State → List ℕ → State → Type 0} {d e : Dictionary} {body : List ℕ} (b n : ℕ) → 128 ≤ b → b < 256
    → Inside (record { dictionary = d; bits = bits_of (groups (b ∷ [])) }) body (record { dictionary = e; bits = none_set n }) → WithMap IsShortestMap Inside d (b ∷ body) e
under_map b n stop byte inside = record {
  bits = _;
  left = none_set n;
  map = b ∷ [];
  body = _;
  parts = refl;
  map_form = record {
    form = record { entity = (stop, byte); short = lit≤ tt; value = refl };
    asked = not_set n;
    least = λ others map. entity_some others map.entity;
  };
  inside = inside;
}

-- ---- fields

-- no form with bit 0, and none with fewer bytes
spelled_best : {i : FieldPart} {e : Entry} {v : Option Scalar} {b : List ℕ} → FormBy Usual i e true uncut b v → ((c : Cut) (x : List ℕ) → FormOf Usual i.operator i e false c x v → ⊥)
    → ((c : Cut) (x : List ℕ) → FormOf Usual i.operator i e true c x v → length b ≤ length x) → IsBest i e true b v
spelled_best {i} {e} {v} {b} form no_zero least = record { cut = uncut; form = form; first = first }
  where
    first : (bit : Bool) (c : Cut) (x : List ℕ) → FormBy Usual i e bit c x v → NoLater true (length b) uncut bit (length x) c
    first false c x h = absurd (no_zero c x h.row)
    first true c x h = at_end_first (length b) (length x) 0 c (least c x h.row) (λ same. omega arith)

-- where a dictionary has that entry
best_at : {p : FieldPart} {e was : Entry} {bit : Bool} {b : List ℕ} {v : Option Scalar} → IsBest p e bit b v → was ≡ e → IsBest p was bit b v
best_at best is = rw is best

zero_at : {p : FieldPart} {was : Entry} {v : Option Scalar} (e : Entry) → FormBy Usual p e false uncut [] v → was ≡ e → IsBest p was false [] v
zero_at {p} {v = v} e form is = rw is (bit_zero_is_best p e v form)

absent_there : (q : Key) → finite.get (finite.empty {X = Option Scalar} {R = key_cmp}) q ≡ None
absent_there q = finite.get-empty key_cmp q

put_there : (d : Dictionary) (k : Key) (v : Option Scalar) (q : Key) → finite.get (finite.insert d k v) q ≡ cond (eq_by_cmp key_cmp q k) (Some v) (finite.get d q)
put_there d k v q = finite.get-insert key_cmp-total d k v q

abbrev part_of : ℕ → Kind → Presence → Operator → ℕ → List ℕ → FieldPart
part_of number kind presence operator slot name =
    record { number = number; part = Whole; kind = kind; presence = presence; operator = operator; initial = None; key = record { slot = slot; scope = Global; name = name; part = Whole } }

abbrev uint32 : ℕ → ℕ → List ℕ → Operator → FieldPart
uint32 number slot name operator = part_of number Kind.UInt32 Mandatory operator slot name

number_some : (x : List ℕ) (number : ℤ) → SpellsInteger Usual true Mandatory x (Value number) → 1 ≤ length x
number_some x (pos n) h = entity_some x h.entity
number_some x (negsuc n) h = absurd h

-- numbers in one byte
module _ (b n : ℕ) (stop : 128 ≤ b) (byte : b < 256) (same : n ≡ unsigned_of (b ∷ [])) (small : n < 2 ^ 32) where
  byte_form : Spelled Usual Kind.UInt32 Mandatory (b ∷ []) (Some (U32 n))
  byte_form = record { number = pos n; form = record { entity = (stop, byte); short = lit≤ tt; value = same }; range = grind (arith, small); value = refl }

  plain_byte : {number slot : ℕ} {name : List ℕ} {e : Entry} → IsBest (uint32 number slot name Operator.Plain) e true (b ∷ []) (Some (U32 n))
  plain_byte = spelled_best (record { row = (refl, byte_form); within = refl }) (λ c x h. h) (λ c x h. number_some x h.1.number h.1.form)

  copied_byte : {number slot : ℕ} {name : List ℕ} → IsBest (uint32 number slot name Operator.Copy) Undefined true (b ∷ []) (Some (U32 n))
  copied_byte = spelled_best (record { row = (refl, byte_form); within = refl }) (λ c x h. let none = h.2 in cc) (λ c x h. number_some x h.1.number h.1.form)

  incremented_byte : {number slot : ℕ} {name : List ℕ} → IsBest (uint32 number slot name Operator.Increment) Undefined true (b ∷ []) (Some (U32 n))
  incremented_byte = spelled_best (record { row = (refl, byte_form); within = refl }) (λ c x h. let none = h.2 in cc) (λ c x h. number_some x h.1.number h.1.form)

-- ---- E0 90 85 86 and 80 87: First A=5 B=6, and A=7 B=6

abbrev first_a : FieldPart
first_a = uint32 1 5 (codes "A") Operator.Plain

abbrev first_b : FieldPart
first_b = uint32 2 6 (codes "B") Operator.Copy

abbrev first : Dictionary → ℕ → ℕ → Dictionary
first d a b = behind d ((identifier, Some (U32 16)) ∷ (first_a, Some (U32 a)) ∷ (first_b, Some (U32 b)) ∷ [])

first_one : CanonMessage worked_set finite.empty (hex "E0 90 85 86") (message 16 (u32 5 ∷ u32 6 ∷ [])) (first finite.empty 5 6)
first_one = record {
  few = lit≤ tt;
  segment = under_map 0xe0 5 (lit≤ tt) (lit< tt)
      (part_then (hex "90") _ (best_at (copied_byte 0x90 16 (lit≤ tt) (lit< tt) refl (lit< tt)) (simp absent_there))
      (part_then (hex "85") _ (plain_byte 0x85 5 (lit≤ tt) (lit< tt) refl (lit< tt))
      (part_then (hex "86") _ (best_at (copied_byte 0x86 6 (lit≤ tt) (lit< tt) refl (lit< tt)) (simp (absent_there, put_there)))
      (refl, refl))));
}

first_two : CanonMessage worked_set (first finite.empty 5 6) (hex "80 87") (message 16 (u32 7 ∷ u32 6 ∷ [])) (first (first finite.empty 5 6) 7 6)
first_two = record {
  few = lit≤ tt;
  segment = under_map 0x80 5 (lit≤ tt) (lit< tt)
      (part_then [] _ (zero_at (Assigned (U32 16)) (record { row = (refl, refl, refl); within = refl }) (simp (absent_there, put_there)))
      (part_then (hex "87") _ (plain_byte 0x87 7 (lit≤ tt) (lit< tt) refl (lit< tt))
      (part_then [] _ (zero_at (Assigned (U32 6)) (record { row = (refl, refl, refl); within = refl }) (simp (absent_there, put_there)))
      (refl, refl))));
}

-- E0 90 85 86 80 87
pub canonical_first : IsCanonical worked_set (message 16 (u32 5 ∷ u32 6 ∷ []) ∷ message 16 (u32 7 ∷ u32 6 ∷ []) ∷ []) (hex "E0 90 85 86 80 87")
canonical_first = two_messages (hex "E0 90 85 86") (hex "80 87") first_one first_two

-- ---- F0 81 81 41 C2 FE 00 E4 and 80 80 81: Quote Seq=1 Sym="AB" Px=100e-2 Qty=-, and Seq=2 Px=101e-2

abbrev seq : FieldPart
seq = uint32 1 1 (codes "Seq") Operator.Increment

abbrev sym_part : FieldPart
sym_part = part_of 2 Kind.Ascii Mandatory Operator.Copy 2 (codes "Sym")

abbrev px : FieldPart
px = part_of 3 Kind.Decimal Mandatory Operator.Delta 3 (codes "Px")

abbrev qty : FieldPart
qty = part_of 4 Kind.UInt32 Optional Operator.Copy 4 (codes "Qty")

abbrev price : ℕ → Scalar
price m = Decimal (negsuc 1) (pos m)

-- no string of "AB" has fewer bytes
sym_spelled : IsBest sym_part Undefined true (hex "41 C2") (Some (Ascii (codes "AB")))
sym_spelled = spelled_best
    (record { row = (refl, record { string = codes "AB"; form = record { spelled = record { entity = (lit< tt, (lit≤ tt, lit< tt)); short = lit≤ tt; value = refl }; limit = lit≤ tt }; value = refl }); within = refl })
    (λ c x h. let none = h.2 in cc)
    (λ c x h.
    let same : codes "AB" ≡ h.1.string = let e = h.1.value in cc in
    subst (λ (s : List ℕ). ascii_size s ≤ length x) (sym same) (ascii_sizes.least x h.1.string h.1.form))

-- a delta of a decimal is an entity and another, from the base that there is: of these sizes at least
px_best : {e : Entry} {m : ℕ} (base : Scalar) (z w : ℤ) (front back : List ℕ) → delta_base px e ≡ Ok base → IsSigned front z → IsSigned back w → IsOfPair (exponent_of base +ℤ z) (mantissa_of base +ℤ w) (price m)
    → ((delta : ℤ) → mantissa_of base +ℤ delta ≡ pos m → length (front ++ back) ≤ suc (signed_size delta)) → IsBest px e true (front ++ back) (Some (price m))
px_best {e} {m} base z w front back from exponent mantissa value least = spelled_best
    (record {
      row = (base, from, record { exponent_delta = z; mantissa_delta = w; form = record { front = front; back = back; parts = refl; exponent_form = exponent; mantissa_form = mantissa }; value = value; cut_is = refl });
      within = refl;
    })
    (λ c x h. h)
    (λ c x h.
    let both = sym from ∙ h.1 in
    let same : base ≡ h.0 = cc in
    let s = subst (λ (v : Scalar). SpellsDeltas Usual Mandatory v c x (price m)) (sym same) h.2 in
    let first = entity_some s.form.front s.form.exponent_form.entity in
    let second = signed_sizes.least s.form.back s.mantissa_delta s.form.mantissa_form in
    let sizes = ap (λ (y : List ℕ). length y) s.form.parts ∙ length-append s.form.front s.form.back in
    let few = least s.mantissa_delta (sym (ap mantissa_of s.value.2)) in
    omega arith)

one_at_least : (m : ℤ) → 2 ≤ suc (signed_size m)
unfolding signed_size groups_from
one_at_least m = go (nat_lt (magnitude m) 64) (groups_from 8 8192 (magnitude m))
  where
    go : (b : Bool) (n : ℕ) → 2 ≤ suc (if b then 1 else suc n)
    go true n = omega arith
    go false n = omega arith

hundred_takes_two : 3 ≤ suc (signed_size (pos 100))
unfolding signed_size groups_from
hundred_takes_two = lit≤ tt

px_spelled : IsBest px Undefined true (hex "FE 00 E4") (Some (price 100))
px_spelled = px_best (Decimal (pos 0) (pos 0)) (negsuc 1) (pos 100) (hex "FE") (hex "00 E4") refl (record { entity = (lit≤ tt, lit< tt); short = lit≤ tt; value = refl })
    (record { entity = (lit< tt, (lit≤ tt, lit< tt)); short = lit≤ tt; value = refl }) (refl, refl, refl) (λ delta is. rw (sym (+ℤ_idl delta) ∙ is) hundred_takes_two)

px_again : IsBest px (Assigned (price 100)) true (hex "80 81") (Some (price 101))
px_again = px_best (price 100) (pos 0) (pos 1) (hex "80") (hex "81") refl (record { entity = (lit≤ tt, lit< tt); short = lit≤ tt; value = refl })
    (record { entity = (lit≤ tt, lit< tt); short = lit≤ tt; value = refl }) (refl, refl, refl) (λ delta is. one_at_least delta)

abbrev quoted : Dictionary → ℕ → ℕ → Dictionary
quoted d n m = behind d ((identifier, Some (U32 1)) ∷ (seq, Some (U32 n)) ∷ (sym_part, Some (Ascii (codes "AB"))) ∷ (px, Some (price m)) ∷ (qty, None) ∷ [])

pub quote_one : CanonMessage worked_set finite.empty (hex "F0 81 81 41 C2 FE 00 E4") (quote 1 100) (quoted finite.empty 1 100)
quote_one = record {
  few = lit≤ tt;
  segment = under_map 0xf0 3 (lit≤ tt) (lit< tt)
      (part_then (hex "81") _ (best_at (copied_byte 0x81 1 (lit≤ tt) (lit< tt) refl (lit< tt)) (simp absent_there))
      (part_then (hex "81") _ (best_at (incremented_byte 0x81 1 (lit≤ tt) (lit< tt) refl (lit< tt)) (simp (absent_there, put_there)))
      (part_then (hex "41 C2") _ (best_at sym_spelled (simp (absent_there, put_there)))
      (part_then (hex "FE 00 E4") _ (best_at px_spelled (simp (absent_there, put_there)))
      (part_then [] _ (zero_at Undefined (record { row = (refl, refl, refl); within = tt }) (simp (absent_there, put_there)))
      (refl, refl))))));
}

quote_two : CanonMessage worked_set (quoted finite.empty 1 100) (hex "80 80 81") (quote 2 101) (quoted (quoted finite.empty 1 100) 2 101)
quote_two = record {
  few = lit≤ tt;
  segment = under_map 0x80 3 (lit≤ tt) (lit< tt)
      (part_then [] _ (zero_at (Assigned (U32 1)) (record { row = (refl, refl, refl); within = refl }) (simp put_there))
      (part_then [] _ (zero_at (Assigned (U32 1)) (record { row = (refl, refl, refl); within = refl }) (simp put_there))
      (part_then [] _ (zero_at (Assigned (Ascii (codes "AB"))) (record { row = (refl, refl, refl); within = refl }) (simp put_there))
      (part_then (hex "80 81") _ (best_at px_again (simp put_there))
      (part_then [] _ (zero_at Empty (record { row = (refl, refl, refl); within = tt }) (simp put_there))
      (refl, refl))))));
}

-- F0 81 81 41 C2 FE 00 E4 80 80 81
pub canonical_quotes : IsCanonical worked_set (quote 1 100 ∷ quote 2 101 ∷ []) (hex "F0 81 81 41 C2 FE 00 E4 80 80 81")
canonical_quotes = two_messages (hex "F0 81 81 41 C2 FE 00 E4") (hex "80 80 81") quote_one quote_two
