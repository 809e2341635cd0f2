-- What receivers ask of a field that was taken.
use Rattle.fast_walk.proofs.Common.{◌≡◌, ◌≢◌, ◌≤◌, ℕ, ℤ, Bool, List, length, drop, Option, Some, None, Result, Err, refl, inl, inr, Level, Scalar, FieldPart, Entry, field_at, FieldFault, OrRefused, Fails, TookFrom}
use Rattle.fast_walk.specs.Received.{exponent_of, length_of}
use Rattle.fast_take.specs.Lying.{of_exponent}
use Rattle.fast_take.specs.Takes.{IsStopped, IsTook, count_of, place_of, value_taken}
use Rattle.fast_take.specs.declared.took.Aside.{Aside}
use Rattle.fast_take.specs.declared.took.Took.{Took}

-- its value was taken
pub took_from : (level : Level) (p : FieldPart) (old new : Entry) (bit : Bool) (bytes : List ℕ) (at : ℕ) (a : Aside) (t : Took) → IsTook level p old new bit bytes at a t
    → TookFrom level p bit old new (value_taken p new bit bytes a t) (drop at bytes) (drop (place_of t) bytes)
took_from level p old new bit bytes at a t h = record { value = h.read; entry = h.entry }

-- the same of what is answered for it, and the place behind
pub taken_as : (level : Level) (p : FieldPart) (old new : Entry) (bit : Bool) (bytes : List ℕ) (at : ℕ) (a : Aside) (t : Took) (v : Option Scalar) (n : ℕ) → IsTook level p old new bit bytes at a t
    → v ≡ value_taken p new bit bytes a t → n ≡ place_of t → ((at ≤ n) × (n ≤ length bytes)) × TookFrom level p bit old new v (drop at bytes) (drop n bytes)
taken_as level p old new bit bytes at a t v n h value place = rw (value, place) (h.place, took_from level p old new bit bytes at a t h)

failed : {Y : Type 0} (f : FieldFault) (read : Result Y FieldFault) → Fails OrRefused f read → f ≢ FieldFault.Memory → read ≡ Err f
failed f read (inl is) other = is
failed f read (inr refused) other = absurd (other refused.0)

-- and where it was not, and memory was not refused, it has this fault
pub stopped : (level : Level) (p : FieldPart) (old new : Entry) (bit : Bool) (bytes : List ℕ) (at : ℕ) (f : FieldFault) → IsStopped level p old new bit bytes at f
    → f ≢ FieldFault.Memory → (field_at level p old bit (drop at bytes) ≡ Err f) × (new ≡ old)
stopped level p old new bit bytes at f h other = (failed f (field_at level p old bit (drop at bytes)) h.fault other, h.entry)

pub length_is : (n : Option ℕ) → length_of n ≡ count_of n
length_is None = refl
length_is (Some n) = refl

pub exponent_is : (e : Option ℤ) → exponent_of e ≡ of_exponent e
exponent_is None = refl
exponent_is (Some e) = refl
