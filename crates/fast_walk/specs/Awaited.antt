-- The bits that are left of the maps of what is open, as a receiver knows them.
use Rattle.std.specs.Prelude.{◌≡◌, ◌++◌, ◌∷◌, [], ℕ, Bool, true, false, IsTrue, List, map}
use Rattle.fast_walk.specs.Prelude.{FieldPart, part_needs_bit, after_bit, bit_for, IsWholeMap}
use Rattle.fast_walk.specs.OpenSegments.{Waiting}
use Rattle.fast_walk.specs.Walks.{frame_of}
use Rattle.fast_walk.specs.declared.traversal.Stage.{Stage as StageNow}
use Rattle.fast_walk.specs.declared.walk.Walk.{Walk as WalkNow}

-- what a receiver says of the bits left around, the message's own first, and of those left of the innermost map
abbrev pub Awaiting : Type 0
Awaiting = List (List Bool) → List Bool → Bool

-- the bits that are left of the maps around the innermost one, the message's own first
abbrev pub left_around : List Waiting → List (List Bool)
left_around ws = map (λ w. w.bits) ws

-- It is true of a walk's.
abbrev pub IsAwaited : Awaiting → WalkNow → Type 0
IsAwaited awaits w = IsTrue (awaits (left_around (map frame_of w.around.items)) w.bits)

-- Behind a message's map only that was received; inside its body the receiver knows what is left of each map.
abbrev pub IsAwaitedAt : Awaiting → (List Bool → Bool) → StageNow → WalkNow → Type 0
IsAwaitedAt awaits begun StageNow.Map w = Unit {0}
IsAwaitedAt awaits begun StageNow.Identifier w = IsTrue (begun w.bits)
IsAwaitedAt awaits begun StageNow.Body w = IsAwaited awaits w

-- ---- maps

-- the bytes are a segment's own map with these bits, or there are none where it has none
abbrev pub IsOwnMap : Bool → List ℕ → List Bool → Type 0
IsOwnMap true bytes bits = IsWholeMap bytes bits
IsOwnMap false bytes bits = (bytes ≡ []) × (bits ≡ [])

abbrev pub IsMapped : Bool → List ℕ → Type 0
IsMapped own bytes = (bits : List Bool) × IsOwnMap own bytes bits

-- ---- from a receiver to the next

-- a part has this bit of the map that is innermost
abbrev pub AwaitsBit : Bool → FieldPart → Awaiting → Type 0
AwaitsBit bit p awaits = (around : List (List Bool)) × (b : List Bool) × (bit ≡ bit_for (part_needs_bit p) b) × IsTrue (awaits around b)

-- the same bits as before
abbrev pub StillAwaits : Awaiting → Awaiting → Type 0
StillAwaits was is = (around : List (List Bool)) (b : List Bool) → IsTrue (was around b) → IsTrue (is around b)

-- those behind a part that was taken under this bit
abbrev pub AwaitsBehind : Bool → FieldPart → Awaiting → Awaiting → Type 0
AwaitsBehind bit p was is = (around : List (List Bool)) (b : List Bool) → bit ≡ bit_for (part_needs_bit p) b → IsTrue (was around b) → IsTrue (is around (after_bit (part_needs_bit p) b))

-- some segment is open inside the message's own
abbrev pub AwaitsInside : Awaiting → Type 0
AwaitsInside awaits = (around : List (List Bool)) × (b : List Bool) × (bits : List Bool) × IsTrue (awaits (around ++ b ∷ []) bits)

-- those around a segment that has ended
abbrev pub AwaitsOutside : Awaiting → Awaiting → Type 0
AwaitsOutside was is = (around : List (List Bool)) (b bits : List Bool) → IsTrue (was (around ++ b ∷ []) bits) → IsTrue (is around b)
