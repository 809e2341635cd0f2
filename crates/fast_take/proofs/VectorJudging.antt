-- What strings and vectors rest on that are judged as they stand: a length in its shortest form, and the bytes behind it, are
-- their shortest form.
use Rattle.fast_take.proofs.Common.{◌≡◌, ◌≤◌, ◌+◌, ◌-◌, ◌++◌, ℕ, true, List, length, drop, slice_range, refl, ap, subst, arith, length-append, length-drop, pos, length-take-le, IsUnsigned, IsBytes, IsCounted, IsLengthNullable, IsShortest, Value, Kind, Presence, Mandatory, Optional, ShortestUnits, ShortestUnsigned, SpellsIntegerUsually, of_units, StandsFrom, UnitsStandFrom, IsText, IsVectorKind}
use Rattle.fast_take.proofs.Ranges.{range_split}
use Rattle.fast_take.proofs.Standing.{shortest_unsigned}
use Rattle.fast_take.proofs.VectorTexts.{bytes_found, fits}

counted : (IsLength : List ℕ → ℕ → Type 0) (front s : List ℕ) → IsLength front (length s) → ((other : List ℕ) → IsLength other (length s) → length front ≤ length other) → IsBytes s × (length s ≤ 65535) → IsShortest (IsCounted IsLength) (front ++ s) s
counted IsLength front s form least fit = record {
  form = record { front = front; parts = refl; length_form = form; bytes_fit = fit.0; limit = fit.1 };
  least = λ other h. omega (arith, least h.front h.length_form, ap length h.parts, length-append h.front s, length-append front s);
}

behind_length : (k : Kind) (p : Presence) (front s : List ℕ) → IsVectorKind k → IsText k (of_units k s) → ShortestUnsigned p (length s) front → ShortestUnits k p s (front ++ s)
behind_length Kind.Unicode Mandatory front s is t h = counted IsUnsigned front s h.form h.least (fits Kind.Unicode s is t)
behind_length Kind.Bytes Mandatory front s is t h = counted IsUnsigned front s h.form h.least (fits Kind.Bytes s is t)
behind_length Kind.Unicode Optional front s is t h = let c = counted IsLengthNullable front s h.form h.least (fits Kind.Unicode s is t) in record { form = c.form; least = c.least }
behind_length Kind.Bytes Optional front s is t h = let c = counted IsLengthNullable front s h.form h.least (fits Kind.Bytes s is t) in record { form = c.form; least = c.least }
behind_length k p front s is t h = absurd is

pub vector_stands : (k : Kind) (p : Presence) (bytes : List ℕ) (at first start n : ℕ) → IsVectorKind k → first ≤ start → start ≤ length bytes → n ≤ 65535 → n ≤ length bytes - start → StandsFrom true p bytes at first start (pos n)
    → UnitsStandFrom k p bytes at first start (start + n)
vector_stands k p bytes at first start n is before within few there h =
    let s = slice_range bytes start (start + n) in
    let front = slice_range bytes first start in
    let on : start + n - start ≡ n = omega arith in
    let long : n ≡ length s = omega (arith, on, length-take-le (start + n - start) (drop start bytes) (omega (arith, on, there, length-drop start bytes))) in
    record {
      spelt = bytes_found k p bytes at start n is h.spelt few there within;
      shortest = λ t. rw (range_split bytes first start (start + n) before (omega arith))
          (behind_length k p front s is t (shortest_unsigned p (length s) front (subst (λ (m : ℕ). SpellsIntegerUsually true p front (Value (pos m))) long h.form) h.short));
    }
