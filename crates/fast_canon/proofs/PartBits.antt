-- The bit of a part or a group, as a list of none or one.
use Rattle.fast_canon.proofs.Common.{◌≡◌, ℕ, Bool, true, false, List, [], ◌∷◌, Option, refl, sym, ap, Usual, Operator, FieldPart, Scalar, operator_needs_bit, Entry, Cut, FormOf, FormBy, IsBitOf, bit_for, after_bit}
use Rattle.fast_canon.proofs.AskedBits.{Begins, behind, AreBelow}

-- the bit, where one is taken
abbrev pub one_asked : Bool → Bool → List Bool
one_asked true bit = bit ∷ []
one_asked false bit = []

pub asked_is : (takes bit : Bool) (bits : List Bool) → (takes ≡ false → bit ≡ true) → Begins (one_asked takes bit) bits → bit ≡ bit_for takes bits
asked_is true bit bits own h = sym h.0
asked_is false bit bits own h = own refl

pub asked_left : (takes bit : Bool) (bits : List Bool) → behind (one_asked takes bit) bits ≡ after_bit takes bits
asked_left true bit bits = refl
asked_left false bit bits = refl

pub asked_below : (takes bit : Bool) (bits : List Bool) → (bit_for takes bits ≡ false → bit ≡ false) → AreBelow (one_asked takes bit) bits
asked_below true bit bits h = (h, tt)
asked_below false bit bits h = tt

pub asked_begins : (takes bit : Bool) (bits : List Bool) → bit ≡ bit_for takes bits → Begins (one_asked takes bit) bits
asked_begins true bit bits h = (sym h, tt)
asked_begins false bit bits h = tt

-- a form stands under bit 1 where its part takes no bit
row_bit : (o : Operator) (i : FieldPart) (e : Entry) (bit : Bool) (cut : Cut) (b : List ℕ) (v : Option Scalar) → FormOf Usual o i e bit cut b v → operator_needs_bit o i.presence ≡ false → bit ≡ true
row_bit o i e true cut b v h none = refl
row_bit Operator.Plain i e false cut b v h none = absurd h
row_bit Operator.Constant i e false cut b v h none = let asks : operator_needs_bit Operator.Constant i.presence ≡ true = ap (operator_needs_bit Operator.Constant) h.2 in absurd cc
row_bit Operator.Delta i e false cut b v h none = absurd h
row_bit o i e false cut b v h none = absurd cc

pub form_bit : (i : FieldPart) (e : Entry) (bit : Bool) (cut : Cut) (b : List ℕ) (v : Option Scalar) → FormBy Usual i e bit cut b v → IsBitOf i bit
form_bit i e bit cut b v h = row_bit i.operator i e bit cut b v h.row
