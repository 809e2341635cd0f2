-- The form that a writer chooses. (Own: FAST 1.1 leaves the choice to the writer.)
use Rattle.std.specs.Prelude.{◌≡◌, ℕ, ◌<◌, ◌≤◌, Bool, true, false, List, length, Option, ◌⊎◌}
use Rattle.fast_field.specs.Prelude.{Usual, Kind, Operator, FieldPart, Scalar, Entry}
use Rattle.fast_field.specs.Deltas.{Side, at_end, in_front, Cut}
use Rattle.fast_field.specs.Fields.{FormBy}

abbrev pub bit_rank : Bool → ℕ
bit_rank false = 0
bit_rank true = 1

abbrev pub side_rank : Side → ℕ
side_rank at_end = 0
side_rank in_front = 1

-- The first form comes no later than the second: bit 0 before bit 1, then fewer bytes, then removal at the end
-- before removal in front, then the shorter new part.
abbrev pub NoLater : Bool → ℕ → Cut → Bool → ℕ → Cut → Type 0
NoLater bit n c bit' n' c' =
    (bit_rank bit < bit_rank bit')
    ⊎ ((bit ≡ bit') × ((n < n')
    ⊎ ((n ≡ n') × ((side_rank c.side < side_rank c'.side)
    ⊎ ((c.side ≡ c'.side) × (c.part ≤ c'.part))))))

-- under this bit the bytes are a form of the value, and no other form of it comes before
pub record IsBest (i : FieldPart) (e : Entry) (bit : Bool) (b : List ℕ)
    (v : Option Scalar) : Type 0 where
  pub cut : Cut
  pub form : FormBy Usual i e bit cut b v
  pub first : (bit' : Bool) (cut' : Cut) (b' : List ℕ) → FormBy Usual i e bit' cut' b' v
      → NoLater bit (length b) cut bit' (length b') cut'

-- no form of such a field cuts a base: it is no tail, and no delta of a string or vector
abbrev pub CutsNothing : Operator → Kind → Type 0
CutsNothing Operator.Tail k = ⊥
CutsNothing Operator.Delta Kind.Ascii = ⊥
CutsNothing Operator.Delta Kind.Unicode = ⊥
CutsNothing Operator.Delta Kind.Bytes = ⊥
CutsNothing o k = Unit {0}
