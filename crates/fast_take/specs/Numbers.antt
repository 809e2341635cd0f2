-- What is asked of a field whose value is relayed. (Own.) No public clause names these.
use Rattle.std.specs.Prelude.{◌≡◌, ℕ, ℤ, Bool, List, Ok}
use Rattle.fast_take.specs.Prelude.{Usual, Value, Operator, Presence, integer_at}

-- bit 1 spells the whole value
abbrev pub SpellsWhole : Operator → Type 0
SpellsWhole Operator.Plain = Unit {0}
SpellsWhole Operator.Default = Unit {0}
SpellsWhole Operator.Copy = Unit {0}
SpellsWhole Operator.Increment = Unit {0}
SpellsWhole o = ⊥

-- the entry keeps no value that was sent
abbrev pub KeepsNothing : Operator → Type 0
KeepsNothing Operator.Plain = Unit {0}
KeepsNothing Operator.Default = Unit {0}
KeepsNothing o = ⊥

-- the bytes spell a number and not NULL
abbrev pub Spelt : Bool → Presence → List ℕ → ℤ → List ℕ → Type 0
Spelt unsigned p bytes z rest = integer_at Usual unsigned p bytes ≡ Ok (Value z, rest)
