-- What stands whole in a stream for a value of a type: an optional field has the nullable form.
-- FAST 1.1, Transfer Encoding, Field Encoding.
use Rattle.std.specs.Prelude.{◌≡◌, ℕ, ℤ, pos, Bool, true, false, List, ◌++◌, Option, Some, None, IsTrue, IsUtf8}
use Rattle.fast_field.specs.Prelude.{AtLevel, overlong_unsigned, overlong_signed, overlong_ascii, Level, Usual, IsAscii, IsAsciiNullable, IsUnsigned, IsSigned, IsUnsignedNullable, IsSignedNullable, IsVector, IsVectorNullable, Nullable, Null, Value, in_range, exponent_in_range, of_integer, Kind, Presence, Mandatory, Optional, Scalar, Decimal, Unicode}
use Rattle.fast_field.specs.Values.{is_unsigned, of_units}

-- ---- at any level

-- whether an entity is longer than its number needs, with no sign where the first argument is true
abbrev pub overlong_number : Bool → List ℕ → Bool
overlong_number true = overlong_unsigned
overlong_number false = overlong_signed

-- whether the entity is that a string or vector begins with: an ASCII string's own, or a length
abbrev pub overlong_units : Kind → Presence → List ℕ → Bool
overlong_units Kind.Ascii Mandatory bytes = overlong_ascii bytes false
overlong_units Kind.Ascii Optional bytes = overlong_ascii bytes true
overlong_units k p bytes = overlong_unsigned bytes

-- an integer, with no sign where the first argument is true
abbrev pub SpellsIntegerUsually : Bool → Presence → List ℕ → Nullable ℤ → Type 0
SpellsIntegerUsually true Mandatory b (Value (pos n)) = IsUnsigned b n
SpellsIntegerUsually true Optional b (Value (pos n)) = IsUnsignedNullable b (Value n)
SpellsIntegerUsually true Optional b Null = IsUnsignedNullable b Null
SpellsIntegerUsually false Mandatory b (Value z) = IsSigned b z
SpellsIntegerUsually false Optional b z = IsSignedNullable b z
SpellsIntegerUsually unsigned p b z = ⊥

abbrev pub SpellsInteger : (level : Level) → Bool → Presence → List ℕ → Nullable ℤ → Type 0
SpellsInteger level u p b z = AtLevel level (overlong_number u) (SpellsIntegerUsually u p) b z

-- a number with a sign that is never NULL, as the mantissa of a decimal
abbrev pub SpellsMantissa : (level : Level) → List ℕ → ℤ → Type 0
SpellsMantissa level b m = AtLevel level overlong_signed IsSigned b m

-- characters or bytes, of Unicode its bytes, in the form that is not nullable
abbrev pub SpellsPartUsually : Kind → List ℕ → List ℕ → Type 0
SpellsPartUsually Kind.Ascii b s = IsAscii b s
SpellsPartUsually k b s = IsVector b s

abbrev pub SpellsPart : (level : Level) → Kind → List ℕ → List ℕ → Type 0
SpellsPart level k b s = AtLevel level (overlong_units k Mandatory) (SpellsPartUsually k) b s

-- and in the form of a presence
abbrev pub SpellsUnitsUsually : Kind → Presence → List ℕ → Nullable (List ℕ) → Type 0
SpellsUnitsUsually k Mandatory b (Value s) = SpellsPart Usual k b s
SpellsUnitsUsually k Mandatory b Null = ⊥
SpellsUnitsUsually Kind.Ascii Optional b s = IsAsciiNullable b s
SpellsUnitsUsually k Optional b s = IsVectorNullable b s

abbrev pub SpellsUnits : (level : Level) → Kind → Presence → List ℕ → Nullable (List ℕ) → Type 0
SpellsUnits level k p b s = AtLevel level (overlong_units k p) (SpellsUnitsUsually k p) b s

-- a number in the range of its type
pub record SpellsNumber (level : Level) (k : Kind) (p : Presence) (b : List ℕ) (v : Scalar) : Type 0 where
  pub number : ℤ
  pub form : SpellsInteger level (is_unsigned k) p b (Value number)
  pub range : IsTrue (in_range k number)
  pub value : v ≡ of_integer k number

-- these characters or bytes, of Unicode UTF-8, are the value
abbrev pub IsOfUnits : Kind → List ℕ → Scalar → Type 0
IsOfUnits Kind.Unicode s v = IsUtf8 s × (v ≡ Unicode s)
IsOfUnits k s v = v ≡ of_units k s

pub record SpellsString (level : Level) (k : Kind) (p : Presence) (b : List ℕ) (v : Scalar) : Type 0 where
  pub string : List ℕ
  pub form : SpellsUnits level k p b (Value string)
  pub value : IsOfUnits k string v

-- a decimal: an exponent in the form of a presence, followed by a mantissa
pub record SpellsPair (level : Level) (p : Presence) (b : List ℕ) (exponent mantissa : ℤ) : Type 0 where
  pub front : List ℕ
  pub back : List ℕ
  pub parts : b ≡ front ++ back
  pub exponent_form : SpellsInteger level false p front (Value exponent)
  pub mantissa_form : SpellsMantissa level back mantissa

-- an exponent and a mantissa in range are the value
abbrev pub IsOfPair : ℤ → ℤ → Scalar → Type 0
IsOfPair e m v = IsTrue (exponent_in_range e) × IsTrue (in_range Kind.Int64 m) × (v ≡ Decimal e m)

pub record SpellsDecimal (level : Level) (p : Presence) (b : List ℕ) (v : Scalar) : Type 0 where
  pub exponent : ℤ
  pub mantissa : ℤ
  pub form : SpellsPair level p b exponent mantissa
  pub value : IsOfPair exponent mantissa v

-- NULL for an absent value, or what spells a value
abbrev pub OrNull : (List ℕ → Type 0) → (List ℕ → Scalar → Type 0) → List ℕ → Option Scalar → Type 0
OrNull IsNull Spells b None = IsNull b
OrNull IsNull Spells b (Some v) = Spells b v

abbrev pub SpelledNumber : (level : Level) → Kind → Presence → List ℕ → Option Scalar → Type 0
SpelledNumber level k p = OrNull (λ b. SpellsInteger level (is_unsigned k) p b Null) (SpellsNumber level k p)

abbrev pub SpelledString : (level : Level) → Kind → Presence → List ℕ → Option Scalar → Type 0
SpelledString level k p = OrNull (λ b. SpellsUnits level k p b Null) (SpellsString level k p)

-- the NULL of a decimal is the exponent's, and no mantissa follows
abbrev pub SpelledDecimal : (level : Level) → Presence → List ℕ → Option Scalar → Type 0
SpelledDecimal level p = OrNull (λ b. SpellsInteger level false p b Null) (SpellsDecimal level p)

-- the bytes spell a value of the type, or NULL for an absent one
abbrev pub Spelled : (level : Level) → Kind → Presence → List ℕ → Option Scalar → Type 0
Spelled level Kind.Decimal p = SpelledDecimal level p
Spelled level Kind.Ascii p = SpelledString level Kind.Ascii p
Spelled level Kind.Unicode p = SpelledString level Kind.Unicode p
Spelled level Kind.Bytes p = SpelledString level Kind.Bytes p
Spelled level k p = SpelledNumber level k p
