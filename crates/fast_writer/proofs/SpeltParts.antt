-- What is spelled of a part of a set: a value of its type, and of a mandatory part a value.
use Rattle.fast_writer.proofs.Common.{◌≡◌, ℕ, Bool, true, false, List, Option, Some, None, refl, sym, ap, subst, ◌∙◌, Bor, is_some, option_copied, ℤ, IfSome, IsTrue, is_of, Kind, Part, Mandatory, Scalar, I32, I64, FieldPart, IsTyped, Entry, Dictionary, entry_at, IsFieldPart, value_kind, value_there, written, exponent_of, HoldScalars, KeepScalars, IsTold, are_kept, form_holds, kept_hold, told_part, IsThere, AppendsForm}
use Rattle.fast_draft.specs.Segments.{Segment as Drafted}
use Rattle.fast_writer.specs.Drafts.{SpeltIn}

-- ---- values

pub appended_kinds : {p : FieldPart} {e : Entry} {v : Option Scalar} {bit : Bool} {old new : List ℕ} → IsTyped p → AppendsForm p e v bit old new → IfSome v (λ w. IsTrue (is_of p.kind w))
appended_kinds {v = None} typed a = tt
appended_kinds {p} {e} {v = Some w} {bit} typed a = value_kind p typed e bit a.form w (a.best.cut, a.best.form)

-- whether there is a value
pub is_there : (k : Kind) {v : Option Scalar} (o : Option (Bor Scalar)) (b : Bool) → b ≡ is_some o → option_copied o ≡ v → IfSome v (λ w. IsTrue (is_of k w)) → IsThere k b v
is_there k None b is same h = rw (is) (sym same)
is_there k (Some w) b is same h = rw (is) (w.now, sym same, rw (sym same) at h)

-- what an exponent and a mantissa are
is_int32 : (w : Scalar) → IsTrue (is_of Kind.Int32 w) → (z : ℤ) × (w ≡ I32 z)
is_int32 (I32 z) h = (z, refl)
is_int32 w h = absurd cc

is_int64 : (w : Scalar) → IsTrue (is_of Kind.Int64 w) → (z : ℤ) × (w ≡ I64 z)
is_int64 (I64 z) h = (z, refl)
is_int64 w h = absurd cc

pub exponent_there : (k : Kind) (there : Bool) (v : Option Scalar) → k ≡ Kind.Int32 → IsThere k there v
    → (z : Option ℤ) × (v ≡ exponent_of z) × (is_some z ≡ there)
exponent_there k true v is h =
    let w = is_int32 h.0 (rw (is) at h.2) in
    (Some w.0, h.1 ∙ ap (λ (x : Scalar). Some x) w.1, refl)
exponent_there k false v is h = (None, h, refl)

-- a mantissa has a value, which is an integer of 64 bits
pub mantissa_taken : {p : FieldPart} {e : Entry} {v : Option Scalar} {s t : Drafted} (there : Bool) → IsTold Part.Mantissa Kind.Int64 p → p.presence ≡ Mandatory
    → IsThere p.kind there v → SpeltIn p e v s t → (m : ℤ) × (v ≡ Some (I64 m))
mantissa_taken true told mandatory is s =
    let w = is_int64 is.0 (rw (told.kind_is) at is.2) in
    (w.0, is.1 ∙ ap (λ (x : Scalar). Some x) w.1)
mantissa_taken {p} {e} false told mandatory is s =
    let none = rw is at s in
    absurd (value_there p (told_part Part.Mantissa Kind.Int64 p refl told).typed mandatory e none.bit none.form (none.best.cut, none.best.form))

-- ---- entries

pub spelt_keeps : (p : FieldPart) (d e : Dictionary) (v : Option Scalar) (s t : Drafted) → IsFieldPart p → KeepScalars d → e ≡ written p d v → SpeltIn p (entry_at d p.key) v s t → KeepScalars e
spelt_keeps p d e v s t is kept after x =
    are_kept e (subst HoldScalars (sym after) (form_holds p d x.bit x.form v is (kept_hold d kept) (x.best.cut, x.best.form)))
