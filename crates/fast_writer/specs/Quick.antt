-- A part that was relayed with no value in between. (Own.)
use Rattle.std.specs.Prelude.{◌≡◌, ◌≢◌, ◌≤◌, ℕ, Bool, false, List, ◌++◌, length, drop, Option, Result, Ok, Err, MatchResult}
use Rattle.fast_writer.specs.Prelude.{FieldPart, Scalar, Entry, Dictionary, entry_at, Level, next, field_at, FieldFault, Memory, IsThere, Took, length_of}
use Rattle.fast_draft.specs.Segments.{Segment as Drafted}
use Rattle.fast_writer.specs.Drafts.{SpeltIn}
use Rattle.fast_writer.specs.Written.{AppendsForm}

-- at a level the bytes before `rest` give the value under a bit, the entry is the one that it leaves, and its best form was
-- appended, which has the other bit
pub record Relayed (level : Level) (p : FieldPart) (old new : Entry) (bit best : Bool) (v : Option Scalar)
    (bytes rest before after : List ℕ) : Type 0 where
  pub read : (more : List ℕ) → field_at level p old bit (bytes ++ more) ≡ Ok (v, rest ++ more)
  pub entry : new ≡ next p old v
  pub form : AppendsForm p old v best before after

-- the same between two places in the bytes; what bit 0 gave is best with bit 0
pub record RelaysEntry (level : Level) (p : FieldPart) (old new : Entry) (bit best : Bool) (v : Option Scalar) (bytes : List ℕ) (at next : ℕ)
    (before after : List ℕ) : Type 0 where
  pub place : (at ≤ next) × (next ≤ length bytes)
  pub relayed : Relayed level p old new bit best v (drop at bytes) (drop next bytes) before after
  pub lower : bit ≡ false → best ≡ false

-- ---- under a key

-- the value of a part was taken between two places, and its best form stands behind a segment
pub record RelaysPart (level : Level) (p : FieldPart) (d e : Dictionary) (bit : Bool) (v : Option Scalar) (bytes : List ℕ) (at next : ℕ) (s t : Drafted) : Type 0 where
  pub place : (at ≤ next) × (next ≤ length bytes)
  pub took : Took level p bit d e v (drop at bytes) (drop next bytes)
  pub spelt : SpeltIn p (entry_at d p.key) v s t

-- unless memory was refused, the bytes stop at this fault, and what is kept and what is written are as they were
abbrev pub StopsPart : Level → FieldPart → Dictionary → Dictionary → Bool → List ℕ → Drafted → Drafted → FieldFault → Type 0
StopsPart level p d e bit bytes s t f = f ≢ Memory → (field_at level p (entry_at d p.key) bit bytes ≡ Err f) × (e ≡ d) × (t ≡ s)

-- whether the value is there is answered, and the place behind it; or a fault
abbrev pub RelaysField : Level → FieldPart → Dictionary → Dictionary → Bool → List ℕ → ℕ → Drafted → Drafted → Result (Bool × ℕ) FieldFault → Type 0
RelaysField level p d e bit bytes at s t result =
    MatchResult result (λ x. (v : Option Scalar) × IsThere p.kind x.0 v × RelaysPart level p d e bit v bytes at x.1 s t) (StopsPart level p d e bit (drop at bytes) s t)

-- the number that it is, and the place behind it; or a fault
abbrev pub RelaysCount : Level → FieldPart → Dictionary → Dictionary → Bool → List ℕ → ℕ → Drafted → Drafted → Result (Option ℕ × ℕ) FieldFault → Type 0
RelaysCount level p d e bit bytes at s t result =
    MatchResult result (λ x. RelaysPart level p d e bit (length_of x.0) bytes at x.1 s t) (StopsPart level p d e bit (drop at bytes) s t)
