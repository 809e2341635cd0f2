-- The canonical form of messages (our own): of all legal spellings the one that comes first.
-- FAST 1.1, Transfer Encoding, leaves to the sender which legal form it writes.
use Rattle.std.specs.Prelude.{◌≡◌, ◌≤◌, ℕ, Bool, false, List, length}
use Rattle.std.specs.FinMap as map
use Rattle.fast_writer.specs.Prelude.{Instructions, Resolved, Dictionary, bit_at, IsMap, IsWholeMap, IsBest, Items, Content, State, BodyBy, MessageFormBy, CarriesBy}

-- A map of these bits of which none is set that no instruction asked for; no map of the same bits has fewer bytes.
-- So it ends with the group of its last 1, or is one group.
pub record IsShortestMap (bits left : List Bool) (bytes : List ℕ) : Type 0 where
  pub form : IsWholeMap bytes bits
  pub asked : (i : ℕ) → bit_at left i ≡ false
  pub least : (others : List ℕ) → IsMap others bits → length bytes ≤ length others

-- a body in which each field, part and length has its best form, and each map is the shortest
abbrev pub CanonBody : Instructions → State → List ℕ → Items → State → Type 0
CanonBody = BodyBy IsBest IsShortestMap

-- the canonical bytes of one message, from a dictionary, and the dictionary after it; there are none where the message
-- has no form
abbrev pub CanonMessage : List Resolved → Dictionary → List ℕ → Content → Dictionary → Type 0
CanonMessage = MessageFormBy IsBest IsShortestMap

-- the canonical bytes of messages, from a dictionary, and the dictionary after them
abbrev pub CanonFrom : List Resolved → Dictionary → List ℕ → List Content → Dictionary → Type 0
CanonFrom = CarriesBy IsBest IsShortestMap

-- the canonical bytes of a stream's messages
abbrev pub IsCanonical : List Resolved → List Content → List ℕ → Type 0
IsCanonical set messages bytes = (after : Dictionary) × CanonFrom set map.empty bytes messages after
