-- What is spelled is a value within its type.
use Rattle.fast_field.proofs.Common.{◌≡◌, ℕ, ◌<◌, ◌≤◌, Bool, true, false, List, [], ◌∷◌, ◌++◌, length, take, drop, zero, suc, refl, arith, ℤ, pos, negsuc, int_le, Option, Some, None, IsTrue, AllByRecursion, recursion_from_All, leb-true, Usual, Null, Value, ascii_sizes, ascii_nullable_sizes, is_of, is_integer, in_range, of_integer, IsScalar, Kind, Presence, Mandatory, Optional, Scalar, Ascii, Unicode, Bytes, is_unsigned, units_of, IsUnitKind, SpellsInteger, SpellsPart, SpellsUnits, IsOfUnits, SpelledNumber, SpelledString, SpelledDecimal, Spelled, and_parts}

-- a value of a type, within it
abbrev pub IsOfType : Kind → Scalar → Type 0
IsOfType k v = IsTrue (is_of k v) × IsScalar v

-- ---- numbers

uint32 : (z : ℤ) → IsTrue (in_range Kind.UInt32 z) → IsOfType Kind.UInt32 (of_integer Kind.UInt32 z)
uint32 (pos n) h = let w = and_parts (int_le (pos 0) (pos n)) (int_le (pos n) (pos 4294967295)) h in (refl, omega (arith, leb-true n 4294967295 w.1))
uint32 (negsuc n) h = absurd cc

uint64 : (z : ℤ) → IsTrue (in_range Kind.UInt64 z) → IsOfType Kind.UInt64 (of_integer Kind.UInt64 z)
uint64 (pos n) h = let w = and_parts (int_le (pos 0) (pos n)) (int_le (pos n) (pos 18446744073709551615)) h in (refl, omega (arith, leb-true n 18446744073709551615 w.1))
uint64 (negsuc n) h = absurd cc

pub number_within : (k : Kind) (z : ℤ) → IsTrue (is_integer k) → IsTrue (in_range k z) → IsOfType k (of_integer k z)
number_within Kind.UInt32 z i h = uint32 z h
number_within Kind.UInt64 z i h = uint64 z h
number_within Kind.Int32 z i h = (refl, h)
number_within Kind.Int64 z i h = (refl, h)
number_within k z i h = absurd cc

-- ---- units

abbrev pub unit_limit : Kind → ℕ
unit_limit Kind.Ascii = 128
unit_limit k = 256

abbrev pub AreUnits : Kind → List ℕ → Type 0
AreUnits k s = AllByRecursion (λ c. c < unit_limit k) s

-- so few and each so small
abbrev pub IsString : Kind → List ℕ → Type 0
IsString k s = (length s ≤ 65535) × AreUnits k s

pub all_append : (P : ℕ → Type 0) (s t : List ℕ) → AllByRecursion P s → AllByRecursion P t → AllByRecursion P (s ++ t)
all_append P [] t h l = l
all_append P (c ∷ s) t h l = (h.0, all_append P s t h.1 l)

pub all_take : (P : ℕ → Type 0) (n : ℕ) (s : List ℕ) → AllByRecursion P s → AllByRecursion P (take n s)
all_take P zero s h = tt
all_take P (suc n) [] h = tt
all_take P (suc n) (c ∷ s) h = (h.0, all_take P n s h.1)

pub all_drop : (P : ℕ → Type 0) (n : ℕ) (s : List ℕ) → AllByRecursion P s → AllByRecursion P (drop n s)
all_drop P zero s h = h
all_drop P (suc n) [] h = tt
all_drop P (suc n) (c ∷ s) h = all_drop P n s h.1

pub part_within : (k : Kind) (b s : List ℕ) → SpellsPart Usual k b s → IsString k s
part_within Kind.Ascii b s h = let w = ascii_sizes.within b s h in (w.1, recursion_from_All (λ c. c < 128) s w.0)
part_within k b s h = (h.limit, h.bytes_fit)

pub units_within : (k : Kind) (p : Presence) (b s : List ℕ) → SpellsUnits Usual k p b (Value s) → IsString k s
units_within k Mandatory b s h = part_within k b s h
units_within Kind.Ascii Optional b s h = let w = ascii_nullable_sizes.within b (Value s) h in (w.1, recursion_from_All (λ c. c < 128) s w.0)
units_within k Optional b s h = (h.limit, h.bytes_fit)

pub string_within : (k : Kind) (s : List ℕ) (v : Scalar) → IsUnitKind k → IsOfUnits k s v → IsString k s → IsOfType k v
string_within Kind.Ascii s v u h w = rw h (refl, (w.0, w.1))
string_within Kind.Unicode s v u h w = rw h.1 (refl, (w.0, w.1, h.0))
string_within Kind.Bytes s v u h w = rw h (refl, (w.0, w.1))
string_within k s v u h w = absurd u

pub units_of_string : (k : Kind) (v : Scalar) → IsUnitKind k → IsOfType k v → IsString k (units_of v)
units_of_string Kind.Ascii (Ascii s) u h = (h.1.0, h.1.1)
units_of_string Kind.Unicode (Unicode s) u h = (h.1.0, h.1.1)
units_of_string Kind.Bytes (Bytes s) u h = (h.1.0, h.1.1)
units_of_string k v u h = let e = h.0 in absurd (first_of (cc, assumption))

-- ---- what stands whole

pub null_optional : (u : Bool) (p : Presence) (b : List ℕ) → SpellsInteger Usual u p b Null → p ≡ Optional
null_optional true Mandatory b h = absurd h
null_optional false Mandatory b h = absurd h
null_optional u Optional b h = refl

pub null_units_optional : (k : Kind) (p : Presence) (b : List ℕ) → SpellsUnits Usual k p b Null → p ≡ Optional
null_units_optional k Mandatory b h = absurd h
null_units_optional k Optional b h = refl

-- a value of a type, or none in an optional field
abbrev pub IsOfTypeOr : Kind → Presence → Option Scalar → Type 0
IsOfTypeOr k p None = p ≡ Optional
IsOfTypeOr k p (Some v) = IsOfType k v

numbers_within : (k : Kind) (p : Presence) (b : List ℕ) (v : Option Scalar) → IsTrue (is_integer k) → SpelledNumber Usual k p b v → IsOfTypeOr k p v
numbers_within k p b None i h = null_optional (is_unsigned k) p b h
numbers_within k p b (Some v) i h = rw h.value (number_within k h.number i h.range)

strings_within : (k : Kind) (p : Presence) (b : List ℕ) (v : Option Scalar) → IsUnitKind k → SpelledString Usual k p b v → IsOfTypeOr k p v
strings_within k p b None u h = null_units_optional k p b h
strings_within k p b (Some v) u h = string_within k h.string v u h.value (units_within k p b h.string h.form)

decimals_within : (p : Presence) (b : List ℕ) (v : Option Scalar) → SpelledDecimal Usual p b v → IsOfTypeOr Kind.Decimal p v
decimals_within p b None h = null_optional false p b h
decimals_within p b (Some v) h = rw h.value.2 (refl, (h.value.0, h.value.1))

pub spelled_within : (k : Kind) (p : Presence) (b : List ℕ) (v : Option Scalar) → Spelled Usual k p b v → IsOfTypeOr k p v
spelled_within Kind.Decimal p b v h = decimals_within p b v h
spelled_within Kind.Ascii p b v h = strings_within Kind.Ascii p b v tt h
spelled_within Kind.Unicode p b v h = strings_within Kind.Unicode p b v tt h
spelled_within Kind.Bytes p b v h = strings_within Kind.Bytes p b v tt h
spelled_within k p b v h = numbers_within k p b v refl h
