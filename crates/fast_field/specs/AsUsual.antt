-- Fields that a level reads as the usual one does, told by the first bytes of their entities. (Own.)
use Rattle.std.specs.Prelude.{◌≡◌, ◌≢◌, ℕ, ◌≤◌, Bool, true, false, List, [], ◌∷◌, ◌++◌}
use Rattle.fast_field.specs.Prelude.{Level, Usual, is_integer, Kind, Operator, FieldPart, Entry}
use Rattle.fast_field.specs.FieldReading.{field_at}

-- at a level the field is read under bit 1 as at the usual one, whatever the entry is and whatever follows
abbrev pub ReadsAsUsual : Level → FieldPart → List ℕ → Type 0
ReadsAsUsual level i bytes = (e : Entry) (more : List ℕ) → field_at level i e true (bytes ++ more) ≡ field_at Usual i e true (bytes ++ more)

abbrev pub is_decimal : Kind → Bool
is_decimal Kind.Decimal = true
is_decimal k = false

-- a type and an operator under whose bit 1 no more than the first entity is judged
abbrev pub JudgesOne : Operator → Kind → Type 0
JudgesOne Operator.Delta k = is_integer k ≡ true
JudgesOne o k = is_decimal k ≡ false

-- a first byte whose group is neither 0 nor 127, or that ends its entity
abbrev pub BeginsPlain : List ℕ → Type 0
BeginsPlain [] = ⊥
BeginsPlain (b ∷ bs) = (b ≢ 0) × (b ≢ 127)

-- a first entity of one byte, and behind it a byte as above
abbrev pub BeginsPair : List ℕ → Type 0
BeginsPair (b ∷ bs) = (128 ≤ b) × BeginsPlain bs
BeginsPair [] = ⊥
