-- What a receiver is told is true of the parts of a set and of the entries along a stream, and what it says of values.
use Rattle.fast_walk.proofs.Common.{◌≡◌, ℕ, Bool, true, false, List, [], Option, Some, None, Ok, refl, sym, ap, subst, subst₂, ◌∙◌, ◌↔◌, append-nil, drop, get_or, ◌<◌, IfSome, IsTrue, cond, is_eq, is_utf8-from_IsUtf8, IsUtf8-from_is_utf8, IsBytes, done, Level, Usual, key_cmp, Key, Kind, Part, Presence, Mandatory, Scalar, Unicode, is_of, IsScalar, FieldPart, part_needs_bit, IsInitial, IsPartOf, Entry, Undefined, Assigned, Dictionary, entry_at, entry_at-empty, entry_at-set_entry, FieldFault, next, field_at, Form, IsBitOf, IsFieldPart, IsKindOfPart, HoldsScalar, field_forms, values_within, entries_within, read_usually, bytes_from, value_kind, value_there, bit_for, with_entry, written, identifier, Took, TookFrom, HoldScalars, IsKeptScalar, KeepsScalar, KeepScalars, KeepsInitial, IsTold}
use Rattle.std.specs.FinMap as map

-- ---- entries within their types

scalar_kept : (v : Scalar) → IsScalar v ↔ IsKeptScalar v
scalar_kept (Unicode s) = (λ h. (h.0, (h.1, is_utf8-from_IsUtf8 s h.2)), λ h. (h.0, h.1.0, IsUtf8-from_is_utf8 s h.1.1))
scalar_kept v = (λ h. h, λ h. h)

entry_kept : (e : Entry) → HoldsScalar e ↔ KeepsScalar e
entry_kept (Assigned v) = scalar_kept v
entry_kept e = (λ h. h, λ h. h)

pub are_kept : (d : Dictionary) → HoldScalars d → KeepScalars d
are_kept d h k = (entry_kept (entry_at d k)).0 (h k)

pub kept_hold : (d : Dictionary) → KeepScalars d → HoldScalars d
kept_hold d h k = (entry_kept (entry_at d k)).1 (h k)

pub empty_holds : HoldScalars map.empty
empty_holds k = subst HoldsScalar (sym (entry_at-empty k)) tt

pub empty_kept : KeepScalars map.empty
empty_kept = are_kept map.empty empty_holds

with_entry_holds : (d : Dictionary) (k : Key) (e : Entry) → HoldScalars d → HoldsScalar e → HoldScalars (with_entry d k e)
with_entry_holds d k Undefined all one = all
with_entry_holds d k e all one = λ q. subst HoldsScalar (sym (entry_at-set_entry d k e q)) (elim (is_eq (key_cmp q k)) as (λ b. HoldsScalar (cond b e (entry_at d q))) [ true ↦ one | false ↦ all q ])

-- what has a form is written as a value of its type
pub form_holds : (p : FieldPart) (d : Dictionary) (bit : Bool) (b : List ℕ) (v : Option Scalar) → IsFieldPart p → HoldScalars d → Form Usual p (entry_at d p.key) bit b v → HoldScalars (written p d v)
form_holds p d bit b v is all form =
    let here = all p.key in
    with_entry_holds d p.key (next p (entry_at d p.key) v) all (entries_within p (entry_at d p.key) v here (values_within p (entry_at d p.key) bit b v is here form))

-- ---- parts of a set

initial_kept : (p : FieldPart) (o : Option Scalar) → IfSome o (IsInitial p) ↔ KeepsInitial p o
initial_kept p None = (λ h. tt, λ h. tt)
initial_kept p (Some v) = (λ h. (h.0, (h.1, (scalar_kept v).0 h.2)), λ h. (h.0, h.1.0, (scalar_kept v).1 h.1.1))

pub part_told : (part : Part) (kind : Kind) (presence : Presence) (p : FieldPart) → IsPartOf part kind presence p → IsTold part kind p
part_told part kind presence p h = assumption ((initial_kept p p.initial).0 h.typed.initial_fits)

pub told_part : (part : Part) (kind : Kind) (p : FieldPart) → IsKindOfPart part kind → IsTold part kind p → IsFieldPart p
told_part part kind p k h = assumption ((initial_kept p p.initial).1 h.initial_fits, subst₂ IsKindOfPart (sym h.part_is) (sym h.kind_is) k)

pub identifier_told : IsTold Part.Whole Kind.UInt32 identifier
identifier_told = record { part_is = refl; kind_is = refl; operator_applies = refl; initial_fits = tt; constant_has_value = λ e. absurd cc; default_has_value = λ e m. absurd cc }

pub identifier_is : IsFieldPart identifier
identifier_is = told_part Part.Whole Kind.UInt32 identifier tt identifier_told

-- ---- what was taken

-- the form that was read
pub record Formed (p : FieldPart) (e : Entry) (bit : Bool) (v : Option Scalar) : Type 0 where
  pub bytes : List ℕ
  pub form : Form Usual p e bit bytes v

pub form_taken : (level : Level) (p : FieldPart) (bit : Bool) (old new : Entry) (v : Option Scalar) (bytes rest : List ℕ) → IsBytes bytes → IsFieldPart p → IsBitOf p bit
    → TookFrom level p bit old new v bytes rest → Formed p old bit v
form_taken level p bit old new v bytes rest fits is asked took =
    let read : field_at level p old bit bytes ≡ Ok (v, rest) =
    ap (λ (b : List ℕ). field_at level p old bit b) (sym (append-nil bytes)) ∙ took.value [] ∙ ap (λ (r : List ℕ). done {F = FieldFault} (v, r)) (append-nil rest) in
    let t = (field_forms Usual p old bit asked is.typed.default_has_value).found bytes v rest fits (read_usually level p old bit bytes (v, rest) read) in
    record { bytes = t.front; form = t.form }

pub taken_form : (level : Level) (p : FieldPart) (bit : Bool) (d e : Dictionary) (v : Option Scalar) (bytes rest : List ℕ) → IsBytes bytes → IsFieldPart p → IsBitOf p bit
    → Took level p bit d e v bytes rest → Formed p (entry_at d p.key) bit v
taken_form level p bit d e v bytes rest fits is asked took =
    form_taken level p bit (entry_at d p.key) (next p (entry_at d p.key) v) v bytes rest fits is asked (record { value = took.value; entry = refl })

-- entries stay within their types
pub taken_keeps : (level : Level) (p : FieldPart) (bit : Bool) (d e : Dictionary) (v : Option Scalar) (bytes rest : List ℕ) → IsBytes bytes → IsFieldPart p → IsBitOf p bit
    → Took level p bit d e v bytes rest → KeepScalars d → KeepScalars e
taken_keeps level p bit d e v bytes rest fits is asked took kept =
    let f = taken_form level p bit d e v bytes rest fits is asked took in
    are_kept e (subst HoldScalars (sym took.entry) (form_holds p d bit f.bytes v is (kept_hold d kept) f.form))

-- ---- the same at a place in a slice

-- the bit of a part that needs one, or else 1
pub asked_for : (p : FieldPart) (needs bit : Bool) (bits : List Bool) → needs ≡ part_needs_bit p → bit ≡ bit_for needs bits → IsBitOf p bit
asked_for p needs bit bits n b none = b ∙ ap (λ n. bit_for n bits) (n ∙ none)

module _ (level : Level) (p : FieldPart) (bit : Bool) (d e : Dictionary) (bytes : List ℕ) (at next : ℕ) (fits : (k : ℕ) → get_or bytes k 0 < 256) (asked : IsBitOf p bit) where
  pub told_keeps : (part : Part) (kind : Kind) (v : Option Scalar) → IsKindOfPart part kind → IsTold part kind p
      → Took level p bit d e v (drop at bytes) (drop next bytes) → KeepScalars d → KeepScalars e
  told_keeps part kind v k told took = taken_keeps level p bit d e v (drop at bytes) (drop next bytes) (bytes_from bytes at fits) (told_part part kind p k told) asked took

  -- a value is of its part's type
  pub told_kind : (part : Part) (kind : Kind) (v : Scalar) → IsKindOfPart part kind → IsTold part kind p
      → Took level p bit d e (Some v) (drop at bytes) (drop next bytes) → IsTrue (is_of kind v)
  told_kind part kind v k told took =
      let is = told_part part kind p k told in
      let f = taken_form level p bit d e (Some v) (drop at bytes) (drop next bytes) (bytes_from bytes at fits) is asked took in
      subst (λ (k : Kind). IsTrue (is_of k v)) told.kind_is (value_kind p is.typed (entry_at d p.key) bit f.bytes v f.form)

  -- a mandatory part has a value
  pub told_there : (part : Part) (kind : Kind) → IsKindOfPart part kind → IsTold part kind p → p.presence ≡ Mandatory
      → Took level p bit d e None (drop at bytes) (drop next bytes) → ⊥
  told_there part kind k told mandatory took =
      let is = told_part part kind p k told in
      let f = taken_form level p bit d e None (drop at bytes) (drop next bytes) (bytes_from bytes at fits) is asked took in
      value_there p is.typed mandatory (entry_at d p.key) bit f.bytes f.form
