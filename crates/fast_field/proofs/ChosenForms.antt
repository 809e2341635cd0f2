-- What is chosen for a value is spelled as its best form.
use Rattle.fast_field.proofs.Common.{◌≡◌, ℕ, ◌-◌, true, false, List, [], ◌++◌, length, take, drop, refl, ap, subst, ◌∙◌, Ok, Err, Result, ℤ, pos, negsuc, ◌-ℤ◌, Option, Some, None, IsTrue, drop_at, take_at, Usual, IsUnsignedNullable, IsShortest, Null, is_integer, IsScalar, applies, Kind, Operator, Presence, FieldPart, Scalar, Ascii, Unicode, Bytes, Entry, FieldFault, Pieces, integer_of, exponent_of, mantissa_of, units_of, IsUnitKind, IsFieldPart, delta_base, tail_base, put_together, SpellsTail, DeltaValue, DeltaForm, TailForm, FormOf, HasRangeOr, HoldsScalar, IsBest, left_out_of, operator_refusal, refusal_of, length_of, Both, ShortestSigned, ShortestPart, ShortestPair, ShortestWhole, ShortestPieces, CanBeUnits, CanBeWhole, CanBePieces, IsBestCut, IsDelta, IsTail, OnBase, IsMadeOf}
use Rattle.fast_field.proofs.BestForms.{bit_zero_is_best}
use Rattle.fast_field.proofs.BestDeltas.{IsFirst, difference_fits, differences_fit, number_delta_is_first, decimal_delta_is_first}
use Rattle.fast_field.proofs.BestCuts.{cut_is_first, removal_small, drop_fits, take_fits}
use Rattle.fast_field.proofs.BestTails.{tail_is_first}
use Rattle.fast_field.proofs.BestValues.{null_first, null_is_byte, left_out, whole_is_first, delta_is_first, tail_form_is_first, constant_is_first, constant_is, absent_optional, best_under_one, field_value, operator_allows}
use Rattle.fast_field.proofs.FieldsWithin.{delta_base_within, unit_kind}
use Rattle.fast_field.proofs.Shortest.{whole_shortest}
use Rattle.fast_field.proofs.StandingForms.{text_of}
use Rattle.fast_field.proofs.ValuesWithin.{IsOfType, IsString, units_of_string}
use Rattle.fast_field.proofs.Refused.{few_units}

-- ---- deltas

pub number_value : (k : Kind) (p : Presence) (base v : Scalar) (b : List ℕ) → IsTrue (is_integer k) → IsOfType k v → ShortestSigned p (integer_of v -ℤ integer_of base) b → IsFirst (λ c b. DeltaValue Usual k p base c b v) b
number_value Kind.UInt32 p base v b i l s = number_delta_is_first Kind.UInt32 p base v b i l s
number_value Kind.Int32 p base v b i l s = number_delta_is_first Kind.Int32 p base v b i l s
number_value Kind.UInt64 p base v b i l s = number_delta_is_first Kind.UInt64 p base v b i l s
number_value Kind.Int64 p base v b i l s = number_delta_is_first Kind.Int64 p base v b i l s
number_value k p base v b i l s = absurd cc

pub decimal_value : (k : Kind) (p : Presence) (base v : Scalar) (b : List ℕ) → k ≡ Kind.Decimal → IsOfType k v → ShortestPair p (exponent_of v -ℤ exponent_of base) (mantissa_of v -ℤ mantissa_of base) b → IsFirst (λ c b. DeltaValue Usual k p base c b v) b
decimal_value Kind.Decimal p base v b i l s = decimal_delta_is_first p base v b l s
decimal_value k p base v b i l s = absurd cc

pub string_value : (k : Kind) (p : Presence) (base v : Scalar) (removal : ℤ) (part b : List ℕ) → IsUnitKind k → IsOfType k base → IsOfType k v → IsBestCut k p (units_of base) (units_of v) removal part → Both (ShortestSigned p removal) (ShortestPart k part) b
    → IsFirst (λ c b. DeltaValue Usual k p base c b v) b
string_value Kind.Ascii p base v removal part b u h l best s = cut_is_first Kind.Ascii p base v removal part b u h l best s
string_value Kind.Unicode p base v removal part b u h l best s = cut_is_first Kind.Unicode p base v removal part b u h l best s
string_value Kind.Bytes p base v removal part b u h l best s = cut_is_first Kind.Bytes p base v removal part b u h l best s
string_value k p base v removal part b u h l best s = absurd u

delta_value : (i : FieldPart) (base v : Scalar) (x : Pieces) (b : List ℕ) → IsOfType i.kind base → IsOfType i.kind v → IsDelta i.kind i.presence base v x → ShortestPieces i x b → IsFirst (λ c b. DeltaValue Usual i.kind i.presence base c b v) b
delta_value i base v (Pieces.Difference d) b h l made s = number_value i.kind i.presence base v b made.0 l (subst (λ (z : ℤ). ShortestSigned i.presence z b) made.1 s)
delta_value i base v (Pieces.Differences e m) b h l made s =
    decimal_value i.kind i.presence base v b made.0 l
    (subst (λ (z : ℤ). ShortestPair i.presence (exponent_of v -ℤ exponent_of base) z b) made.2 (subst (λ (z : ℤ). ShortestPair i.presence z m b) made.1 s))
delta_value i base v (Pieces.Cut r t) b h l made s = string_value i.kind i.presence base v (length_of r) t.now b made.0 h l made.1 s
delta_value i base v x b h l made s = absurd made

on_base : (r : Result Scalar FieldFault) (P : Scalar → Type 0) → OnBase r P → (base : Scalar) × (r ≡ Ok base) × P base
on_base (Ok base) P h = (base, refl, h)
on_base (Err f) P h = absurd h

delta_first : (i : FieldPart) (e : Entry) (v : Scalar) (x : Pieces) (b : List ℕ) → IsFieldPart i → HoldsScalar e → IsOfType i.kind v → IsMadeOf Operator.Delta i e v x → ShortestPieces i x b → IsFirst (λ c b. DeltaForm Usual i e c b (Some v)) b
delta_first i e v x b is h l made s =
    let base = on_base (delta_base i e) (λ base. IsDelta i.kind i.presence base v x) made in
    delta_is_first i e base.0 v b base.1 (delta_value i base.0 v x b (delta_base_within i e base.0 is.typed h base.1) l base.2 s)

-- ---- tails

tail_value : (i : FieldPart) (base v : Scalar) (x : Pieces) (b : List ℕ) → IsUnitKind i.kind → IsOfType i.kind v → IsTail i.kind i.presence base v x → ShortestPieces i x b → IsFirst (λ c b. SpellsTail Usual i.kind i.presence base c b v) b
tail_value i base v (Pieces.Tail t) b u l made s = tail_is_first i.kind i.presence base v t.now b u l made s
tail_value i base v x b u l made s = absurd made

tail_first : (i : FieldPart) (e : Entry) (v : Scalar) (x : Pieces) (b : List ℕ) → IsTrue (applies Operator.Tail i.kind) → IsOfType i.kind v → IsMadeOf Operator.Tail i e v x → ShortestPieces i x b → IsFirst (λ c b. TailForm Usual i e c b (Some v)) b
tail_first i e v x b fits l made s =
    let base = on_base (tail_base i e) (λ base. IsTail i.kind i.presence base v x) made in
    tail_form_is_first i e base.0 v b base.1 (tail_value i base.0 v x b (unit_kind i.kind fits) l base.2 s)

-- ---- all operators

chosen_first : (o : Operator) (i : FieldPart) (e : Entry) (v : Scalar) (x : Pieces) (b : List ℕ) → IsTrue (applies o i.kind) → IsFieldPart i → HoldsScalar e → IsOfType i.kind v → operator_refusal o i e v ≡ None → IsMadeOf o i e v x → ShortestPieces i x b
    → IsFirst (λ c b. FormOf Usual o i e true c b (Some v)) b
chosen_first Operator.Constant i e v Pieces.Nothing b a is h l none made s = rw s (constant_is_first i e v (constant_is i.part i.initial v none))
chosen_first Operator.Constant i e v x b a is h l none made s = absurd made
chosen_first Operator.Delta i e v x b a is h l none made s = delta_first i e v x b is h l made s
chosen_first Operator.Tail i e v x b a is h l none made s = tail_first i e v x b a l made s
chosen_first o i e v (Pieces.Whole w) b a is h l none made s = whole_is_first i.kind i.presence (Some v) b (whole_shortest i.kind i.presence v b l (subst (λ (y : Scalar). ShortestWhole i.presence y b) made s))
chosen_first o i e v x b a is h l none made s = absurd made

-- the shortest bytes of what was chosen are the best form
pub chosen_best : (i : FieldPart) (e : Entry) (o : Option Scalar) (v : Scalar) (x : Pieces) → o ≡ Some v → IsFieldPart i → HoldsScalar e → HasRangeOr o → refusal_of i e o ≡ None → left_out_of i.operator i e o ≡ false → IsMadeOf i.operator i e v x
    → (b : List ℕ) → ShortestPieces i x b → IsBest i e true b o
chosen_best i e o v x of_some is h r none out made b s =
    let l = field_value i e o is r none in
    best_under_one i e o b l.within (rw of_some (chosen_first i.operator i e v x b is.typed.operator_applies is h (rw of_some at l.of_field) (operator_allows i e o none v of_some) made s)) out

pub null_best : (i : FieldPart) (e : Entry) (o : Option Scalar) → o ≡ None → refusal_of i e o ≡ None → left_out_of i.operator i e o ≡ false → (b : List ℕ) → IsShortest IsUnsignedNullable b Null → IsBest i e true b o
null_best i e o of_none none out b s =
    let absent : left_out_of i.operator i e None ≡ false = rw of_none at out in
    rw of_none (best_under_one i e None b tt (rw (null_is_byte b s) (null_first i.operator i e (absent_optional i.presence (rw of_none at none)) absent)) absent)

pub left_out_best : (i : FieldPart) (e : Entry) (v : Option Scalar) → IsFieldPart i → HasRangeOr v → refusal_of i e v ≡ None → left_out_of i.operator i e v ≡ true → (b : List ℕ) → b ≡ [] → IsBest i e false b v
left_out_best i e v is r none out b s = rw s (bit_zero_is_best i e v (record { row = left_out i.operator i e v out; within = (field_value i e v is r none).within }))

-- ---- what was chosen can be spelled

pub units_fit : (k : Kind) (s : List ℕ) → IsString k s → CanBeUnits k s
units_fit Kind.Ascii s h = text_of s h
units_fit k s h = h.0

whole_fits : (v : Scalar) → IsScalar v → CanBeWhole v
whole_fits (Ascii s) h = units_fit Kind.Ascii s h
whole_fits (Unicode s) h = h.0
whole_fits (Bytes s) h = h.0
whole_fits v h = tt

-- the units of a value
pub value_fits : (k : Kind) (v : Scalar) → IsOfType k v → CanBeUnits k (units_of v)
value_fits Kind.Ascii v h = units_fit Kind.Ascii (units_of v) (units_of_string Kind.Ascii v tt h)
value_fits Kind.Unicode v h = units_fit Kind.Unicode (units_of v) (units_of_string Kind.Unicode v tt h)
value_fits Kind.Bytes v h = units_fit Kind.Bytes (units_of v) (units_of_string Kind.Bytes v tt h)
value_fits k v h = few_units v h.1

front_is_string : (k : Kind) (v s t : List ℕ) → IsString k v → v ≡ s ++ t → IsString k s
front_is_string k v s t h e = subst (IsString k) (ap (take (length s)) e ∙ take_at s t (length s) refl) (take_fits k (length s) v h)

pub back_is_string : (k : Kind) (v s t : List ℕ) → IsString k v → v ≡ s ++ t → IsString k t
back_is_string k v s t h e = subst (IsString k) (ap (drop (length s)) e ∙ drop_at s t (length s) refl) (drop_fits k (length s) v h)

pub part_is_string : (k : Kind) (z : ℤ) (base part v : List ℕ) → IsString k v → v ≡ put_together z base part → IsString k part
part_is_string k (pos n) base part v h e = back_is_string k v (take (length base - n) base) part h e
part_is_string k (negsuc n) base part v h e = front_is_string k v part (drop n base) h e

pub delta_fits : (i : FieldPart) (base v : Scalar) (x : Pieces) → IsOfType i.kind base → IsOfType i.kind v → IsDelta i.kind i.presence base v x → CanBePieces i x
delta_fits i base v (Pieces.Difference d) h l made = rw made.1 (difference_fits i.kind base v made.0 h l)
delta_fits i base v (Pieces.Differences e m) h l made =
    let fit = differences_fit base v (subst (λ (k : Kind). IsOfType k base) made.0 h) (subst (λ (k : Kind). IsOfType k v) made.0 l) in
    rw (made.1, made.2) fit
delta_fits i base v (Pieces.Cut r t) h l made =
    let best = made.1 in (
      removal_small (units_of base) (length_of r) (units_of_string i.kind base made.0 h).0 best.few,
      units_fit i.kind t.now (part_is_string i.kind (length_of r) (units_of base) t.now (units_of v) (units_of_string i.kind v made.0 l) best.made),
    )
delta_fits i base v x h l made = absurd made

tail_fits : (i : FieldPart) (base v : Scalar) (x : Pieces) → IsUnitKind i.kind → IsOfType i.kind v → IsTail i.kind i.presence base v x → CanBePieces i x
tail_fits i base v (Pieces.Tail t) u l made =
    units_fit i.kind t.now (back_is_string i.kind (units_of v) (take (length (units_of base) - length t.now) (units_of base)) t.now (units_of_string i.kind v u l) made.made)
tail_fits i base v x u l made = absurd made

chosen_fits : (o : Operator) (i : FieldPart) (e : Entry) (v : Scalar) (x : Pieces) → IsTrue (applies o i.kind) → IsFieldPart i → HoldsScalar e → IsOfType i.kind v → IsMadeOf o i e v x → CanBePieces i x
chosen_fits Operator.Constant i e v Pieces.Nothing a is h l made = tt
chosen_fits Operator.Constant i e v x a is h l made = absurd made
chosen_fits Operator.Delta i e v x a is h l made =
    let base = on_base (delta_base i e) (λ base. IsDelta i.kind i.presence base v x) made in
    delta_fits i base.0 v x (delta_base_within i e base.0 is.typed h base.1) l base.2
chosen_fits Operator.Tail i e v x a is h l made =
    let base = on_base (tail_base i e) (λ base. IsTail i.kind i.presence base v x) made in
    tail_fits i base.0 v x (unit_kind i.kind a) l base.2
chosen_fits o i e v (Pieces.Whole w) a is h l made = rw made (whole_fits v l.1)
chosen_fits o i e v x a is h l made = absurd made

pub chosen_can : (i : FieldPart) (e : Entry) (o : Option Scalar) (v : Scalar) (x : Pieces) → o ≡ Some v → IsFieldPart i → HoldsScalar e → HasRangeOr o → refusal_of i e o ≡ None → IsMadeOf i.operator i e v x → CanBePieces i x
chosen_can i e o v x of_some is h r none made = chosen_fits i.operator i e v x is.typed.operator_applies is h (rw of_some at (field_value i e o is r none).of_field) made

-- ---- what choosing asks for

pub value_can : (i : FieldPart) (e : Entry) (o : Option Scalar) (v : Scalar) → o ≡ Some v → IsFieldPart i → HasRangeOr o → refusal_of i e o ≡ None → CanBeUnits i.kind (units_of v)
value_can i e o v of_some is r none = value_fits i.kind v (rw of_some at (field_value i e o is r none).of_field)
