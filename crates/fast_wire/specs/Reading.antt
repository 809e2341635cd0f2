-- Reading forms from the front of a list: the value and the bytes after it, or the first fault.
use Rattle.std.specs.Prelude.{◌≡◌, ℕ, zero, suc, ◌+◌, ◌-◌, ◌^◌, ◌<◌, ◌≤◌, ◌⊎◌, ℤ, Bool, nat_le, nat_lt, if◌then◌else◌, List, [], ◌∷◌, length, take, drop, slice_range, Result, Ok, Err, IsOk, IfOk, MatchResult}
use Rattle.fast_wire.specs.Entity.{HasNoStop, groups}
use Rattle.fast_wire.specs.Integer.{magnitude, unsigned_of, signed_of}
use Rattle.fast_wire.specs.Nullable.{received_unsigned, received_signed, units}
use Rattle.fast_wire.specs.PresenceMap.{bits_of}
use Rattle.fast_wire.specs.declared.nullable.Nullable.{Nullable}
use Rattle.fast_wire.specs.declared.nullable.Nullable.TheVariants.{Null, Value}
use Rattle.fast_wire.specs.declared.fault.WireFault.{WireFault}

-- the bytes end before a stop bit and within the limit; or the limit passes with no stop bit
abbrev pub EntityFault : ℕ → List ℕ → ℕ → WireFault → Type 0
EntityFault limit bytes at WireFault.NeedMore = (length bytes < at + limit) × HasNoStop (drop at bytes)
EntityFault limit bytes at WireFault.TooLong =
    (at + limit ≤ length bytes) × HasNoStop (take limit (drop at bytes))
EntityFault limit bytes at WireFault.Range = ⊥
EntityFault limit bytes at WireFault.NotUtf8 = ⊥
EntityFault limit bytes at WireFault.Memory = ⊥

-- the bytes from at to the place answered are a form of the value
abbrev pub Reads : {V : Type 0} → (List ℕ → V → Type 0) → List ℕ → ℕ → V × ℕ → Type 0
Reads Form bytes at found =
    (at ≤ found.1) × (found.1 ≤ length bytes) × Form (slice_range bytes at found.1) found.0

-- a form stands there whose value has more units than a string or a vector may have
abbrev pub SpellsTooMany : {V : Type 0} → (List ℕ → V → Type 0) → (V → ℕ) → List ℕ → ℕ → Type 0
SpellsTooMany {V} Form units bytes at =
    (next : ℕ) × (value : V) × Reads Form bytes at (value, next) × (65535 < units value)

-- a form stands there
abbrev pub StandsAt : {V : Type 0} → (List ℕ → V → Type 0) → List ℕ → ℕ → Type 0
StandsAt {V} Form bytes at = (next : ℕ) × (value : V) × Reads Form bytes at (value, next)

-- no entity of at most 65,540 bytes ends there, or one does that spells too many characters
abbrev pub AsciiFault : {V : Type 0} → (List ℕ → V → Type 0) → (V → ℕ) → List ℕ → ℕ → WireFault
    → Type 0
AsciiFault Form units bytes at e =
    EntityFault 65540 bytes at e ⊎ ((e ≡ WireFault.TooLong) × SpellsTooMany Form units bytes at)

-- a length of n has come, and so many bytes are left: it is too large, or else the bytes end before it does
abbrev pub LengthFault : ℕ → ℕ → WireFault → Type 0
LengthFault n left WireFault.NeedMore = (n ≤ 65535) × (left < n)
LengthFault n left WireFault.TooLong = 65535 < n
LengthFault n left WireFault.Range = ⊥
LengthFault n left WireFault.NotUtf8 = ⊥
LengthFault n left WireFault.Memory = ⊥

-- no length ends there, or the fault is one of the length that does
abbrev pub VectorFault : (List ℕ → ℕ → Type 0) → List ℕ → ℕ → WireFault → Type 0
VectorFault IsLength bytes at e =
    EntityFault 10 bytes at e ⊎ ((next : ℕ) × (n : ℕ)
    × Reads IsLength bytes at (n, next) × LengthFault n (length bytes - next) e)

-- one reading and then another, or the first's fault
infixl 10 ◌>>=◌
abbrev pub ◌>>=◌ : {A B F : Type 0} → Result A F → (A → Result B F) → Result B F
(Ok x) >>= f = f x
(Err e) >>= f = Err e

-- why else a call may fail: for no reason; or since memory was refused, where reading gives a value
abbrev pub NothingElse : {Y F : Type 0} → Result Y F → F → Type 0
NothingElse read e = ⊥

abbrev pub OrMemory : {Y : Type 0} → Result Y WireFault → WireFault → Type 0
OrMemory read e = (e ≡ WireFault.Memory) × IsOk read

-- or since a value stands there that does not fit the answer's type
abbrev pub OrOutside : {V : Type 0} → (V → Type 0) → Result (V × List ℕ) WireFault → WireFault
    → Type 0
OrOutside {V} Fits read e =
    (e ≡ WireFault.Range) × (v : V) × (rest : List ℕ) × (read ≡ Ok (v, rest)) × (Fits v → ⊥)

abbrev pub FitsU64 : ℕ → Type 0
FitsU64 v = v < 2 ^ 64

abbrev pub FitsI64 : ℤ → Type 0
FitsI64 v = magnitude v < 2 ^ 63

-- a call that failed did so as reading does, or for another reason
abbrev pub Fails : {F Y : Type 0} → (Result Y F → F → Type 0) → F → Result Y F → Type 0
Fails Else e read = (read ≡ Err e) ⊎ Else read e

-- what a call answered, seen by view, is what reading gives, or it failed for another reason
abbrev pub Gives : {F X Y : Type 0} → (Result Y F → F → Type 0) → (X → Y) → Result X F → Result Y F
    → Type 0
Gives Else view (Ok x) read = read ≡ Ok (view x)
Gives Else view (Err e) read = Fails Else e read

-- the same of a call that reads at a place, and answers a value and the place after it
abbrev pub GivesAt : {X V F : Type 0} → (Result (V × List ℕ) F → F → Type 0)
    → (List ℕ → Result (V × List ℕ) F)
    → (X → V) → List ℕ → ℕ → Result (X × ℕ) F → Type 0
GivesAt Else read view bytes at r =
    Gives Else (λ x. (view x.0, drop x.1 bytes)) r (read (drop at bytes))

-- what a call that reads a form at a place answers, its value seen by view
pub record IsReadAt {X V : Type 0} (Else : Result (V × List ℕ) WireFault → WireFault → Type 0)
    (read : List ℕ → Result (V × List ℕ) WireFault) (Form : List ℕ → V → Type 0) (Can : V → Type 0)
    (Fault : List ℕ → ℕ → WireFault → Type 0) (view : X → V) (bytes : List ℕ) (at : ℕ)
    (r : Result (X × ℕ) WireFault) : Type 0 where
  -- the place after it, within the bytes
  pub place : IfOk r (λ x. (at < x.1) × (x.1 ≤ length bytes))
  -- a value that can have a form
  pub range : IfOk r (λ x. Can (view x.0))
  -- what is read is spelled so; what is refused has this fault, or has a form and memory was refused
  pub answer : MatchResult r (λ x. Reads Form bytes at (view x.0, x.1))
      (λ e. Fault bytes at e ⊎ (Else (read (drop at bytes)) e × StandsAt Form bytes at))
  -- what is spelled so is read, unless memory was refused
  pub only : (next : ℕ) (value : V) → Reads Form bytes at (value, next)
      → MatchResult r (λ x. (view x.0 ≡ value) × (x.1 ≡ next)) (Else (read (drop at bytes)))
  -- the same by the function that reads the front of a list, for the layers above
  pub gives : GivesAt Else read view bytes at r

-- the bytes up to the first stop bit, of which there are at most so many
unfoldable pub entity_at : ℕ → List ℕ → Result (List ℕ × List ℕ) WireFault
entity_at zero bytes = Err WireFault.TooLong
entity_at (suc limit) [] = Err WireFault.NeedMore
entity_at (suc limit) (b ∷ bs) =
    if nat_le 128 b then Ok (b ∷ [], bs) else (entity_at limit bs >>= λ e. Ok (b ∷ e.0, e.1))

-- an unsigned integer
unfoldable pub unsigned_at : List ℕ → Result (ℕ × List ℕ) WireFault
unsigned_at bytes = entity_at 10 bytes >>= λ e. Ok (unsigned_of e.0, e.1)

-- a signed integer
unfoldable pub signed_at : List ℕ → Result (ℤ × List ℕ) WireFault
signed_at bytes = entity_at 10 bytes >>= λ e. Ok (signed_of e.0, e.1)

unfoldable pub unsigned_nullable_at : List ℕ → Result (Nullable ℕ × List ℕ) WireFault
unsigned_nullable_at bytes = unsigned_at bytes >>= λ n. Ok (received_unsigned n.0, n.1)

unfoldable pub signed_nullable_at : List ℕ → Result (Nullable ℤ × List ℕ) WireFault
signed_nullable_at bytes = signed_at bytes >>= λ n. Ok (received_signed n.0, n.1)

-- the characters that groups spell
abbrev pub characters : List ℕ → List ℕ
characters [] = []
characters (zero ∷ gs) = gs
characters (suc g ∷ gs) = suc g ∷ gs

abbrev pub nullable_characters : List ℕ → Nullable (List ℕ)
nullable_characters [] = Null
nullable_characters (zero ∷ []) = Null
nullable_characters (zero ∷ zero ∷ gs) = Value gs
nullable_characters (zero ∷ suc g ∷ gs) = Value (suc g ∷ gs)
nullable_characters (suc g ∷ gs) = Value (suc g ∷ gs)

-- a value that has few enough units
abbrev pub within_limit : {V : Type 0} → (V → ℕ) → V → Result V WireFault
within_limit units s = if nat_lt 65535 (units s) then Err WireFault.TooLong else Ok s

-- an ASCII string
unfoldable pub ascii_at : List ℕ → Result (List ℕ × List ℕ) WireFault
ascii_at bytes =
    entity_at 65540 bytes >>= λ e. within_limit length (characters (groups e.0))
    >>= λ s. Ok (s, e.1)

unfoldable pub ascii_nullable_at : List ℕ → Result (Nullable (List ℕ) × List ℕ) WireFault
ascii_nullable_at bytes =
    entity_at 65540 bytes >>= λ e. within_limit units (nullable_characters (groups e.0))
    >>= λ s. Ok (s, e.1)

-- that many bytes
unfoldable pub bytes_at : ℕ → List ℕ → Result (List ℕ × List ℕ) WireFault
bytes_at n bytes =
    if nat_lt 65535 n then Err WireFault.TooLong
    else if nat_lt (length bytes) n then Err WireFault.NeedMore
    else Ok (take n bytes, drop n bytes)

-- a byte vector
unfoldable pub vector_at : List ℕ → Result (List ℕ × List ℕ) WireFault
vector_at bytes = unsigned_at bytes >>= λ n. bytes_at n.0 n.1

-- what follows a nullable length
unfoldable pub behind_length : Nullable ℕ → List ℕ → Result (Nullable (List ℕ) × List ℕ) WireFault
behind_length Null rest = Ok (Null, rest)
behind_length (Value n) rest = bytes_at n rest >>= λ s. Ok (Value s.0, s.1)

unfoldable pub vector_nullable_at : List ℕ → Result (Nullable (List ℕ) × List ℕ) WireFault
vector_nullable_at bytes = unsigned_nullable_at bytes >>= λ n. behind_length n.0 n.1

-- a presence map's bits
unfoldable pub map_at : List ℕ → Result (List Bool × List ℕ) WireFault
map_at bytes = entity_at 256 bytes >>= λ e. Ok (bits_of (groups e.0), e.1)
