-- How many bytes the shortest forms take (our own reckoning), and the law that ties this to the forms.
use Rattle.std.specs.Prelude.{◌≡◌, ℕ, zero, suc, ◌+◌, ◌*◌, ◌^◌, ◌<◌, ◌≤◌, ℤ, Bool, nat_lt, if◌then◌else◌, List, [], ◌∷◌, length}
use Rattle.fast_wire.specs.Integer.{magnitude}
use Rattle.fast_wire.specs.Reader.{IsBytes}
use Rattle.fast_wire.specs.Nullable.{sent_unsigned, sent_signed}
use Rattle.fast_wire.specs.declared.nullable.Nullable.{Nullable}
use Rattle.fast_wire.specs.declared.nullable.Nullable.TheVariants.{Null, Value}

-- a value has a form exactly where it can have one, and its shortest form takes size bytes
pub record HasSizes {V : Type 0} (Form : List ℕ → V → Type 0) (Can : V → Type 0)
    (size : V → ℕ) : Type 0 where
  -- only a value that can has a form
  pub within : (bytes : List ℕ) (v : V) → Form bytes v → Can v
  -- some form of it has so many bytes
  pub stands : (v : V) → Can v → (bytes : List ℕ) × Form bytes v × (length bytes ≡ size v)
  -- no form of it has fewer
  pub least : (bytes : List ℕ) (v : V) → Form bytes v → size v ≤ length bytes
  -- two forms of it that are as long are the same bytes
  pub one : (b c : List ℕ) (v : V) → Form b v → Form c v → length b ≡ length c → b ≡ c

-- groups for a number, where one group serves below the limit, and each further one 128 times as far
unfoldable pub groups_from : ℕ → ℕ → ℕ → ℕ
groups_from zero limit n = 1
groups_from (suc more) limit n =
    if nat_lt n limit then 1 else suc (groups_from more (limit * 128) n)

unfoldable pub unsigned_size : ℕ → ℕ
unsigned_size n = groups_from 9 128 n

unfoldable pub signed_size : ℤ → ℕ
signed_size v = groups_from 9 64 (magnitude v)

unfoldable pub unsigned_nullable_size : Nullable ℕ → ℕ
unsigned_nullable_size v = unsigned_size (sent_unsigned v)

unfoldable pub signed_nullable_size : Nullable ℤ → ℕ
signed_nullable_size v = signed_size (sent_signed v)

-- an empty string, and one that begins with NUL, needs a preamble
abbrev pub ascii_size : List ℕ → ℕ
ascii_size [] = 1
ascii_size (zero ∷ s) = 2 + length s
ascii_size (suc c ∷ s) = 1 + length s

abbrev pub ascii_nullable_size : Nullable (List ℕ) → ℕ
ascii_nullable_size Null = 1
ascii_nullable_size (Value []) = 2
ascii_nullable_size (Value (zero ∷ s)) = 3 + length s
ascii_nullable_size (Value (suc c ∷ s)) = 1 + length s

abbrev pub vector_size : List ℕ → ℕ
vector_size s = unsigned_size (length s) + length s

abbrev pub vector_nullable_size : Nullable (List ℕ) → ℕ
vector_nullable_size Null = 1
vector_nullable_size (Value s) = unsigned_size (length s + 1) + length s

-- the numbers that ten groups hold
abbrev pub CanBeUnsigned : ℕ → Type 0
CanBeUnsigned v = v < 128 ^ 10

abbrev pub CanBeSigned : ℤ → Type 0
CanBeSigned v = magnitude v < 64 * 128 ^ 9

abbrev pub CanBeUnsignedNullable : Nullable ℕ → Type 0
CanBeUnsignedNullable v = CanBeUnsigned (sent_unsigned v)

abbrev pub CanBeSignedNullable : Nullable ℤ → Type 0
CanBeSignedNullable v = CanBeSigned (sent_signed v)

-- bytes, of which there are not too many
abbrev pub CanBeVector : List ℕ → Type 0
CanBeVector s = IsBytes s × (length s ≤ 65535)

-- the bits that 256 groups hold
abbrev pub CanBeMap : List Bool → Type 0
CanBeMap bits = length bits ≤ 1792
