-- What a stream carries.
-- FAST 1.1, Transfer Encoding, Streams and Messages, and Template Identifier.
use Rattle.std.specs.Prelude.{◌≡◌, ◌≤◌, ℕ, Bool, false, List, [], ◌∷◌, find, Option, Some, None, option_map}
use Rattle.std.specs.FinMap as map
use Rattle.fast_stream.specs.Prelude.{AtLevel, overlong_map, some_set, Level, Usual, Strict, UInt32, Mandatory, Copy, Whole, U32, FieldPart, Instructions, Resolved, has_id, identifier_key, Dictionary, IsWholeMap, Form}
use Rattle.fast_stream.specs.Nodes.{Items, Content, nodes_in, node_limit}
use Rattle.fast_stream.specs.Bodies.{Spelling, Mapping, State, Then, WithMap, PartBy, BodyBy}

-- A template set is the list of its resolved templates: the instructions of the one with an identifier.
abbrev pub members_of : List Resolved → ℕ → Option Instructions
members_of set id = option_map (λ t. t.members) (find (λ t. has_id id t.id) set)

-- The template identifier is a mandatory uInt32 with the copy operator, under a key of its own. That it has this
-- operator, and that all templates share the entry, is the standard's; the key is our own.
abbrev pub identifier : FieldPart
identifier = record { number = 0; part = Whole; kind = UInt32; presence = Mandatory; operator = Copy; initial = None; key = identifier_key }

module _ (Spells : Spelling) (Maps : Mapping) where
  -- the body of a template that is there
  abbrev pub BodyOfBy : Option Instructions → State → List ℕ → Items → State → Type 0
  BodyOfBy None s bytes ns after = ⊥
  BodyOfBy (Some members) s bytes ns after = BodyBy Spells Maps members s bytes ns after

  -- A message is a segment, always with a map: the identifier, and the body of the template that it names. It has
  -- at most 65,536 nodes (our own limit).
  pub record MessageFormBy (set : List Resolved) (d : Dictionary) (bytes : List ℕ) (m : Content) (after : Dictionary) : Type 0 where
    pub few : nodes_in m.items ≤ node_limit
    pub segment : WithMap Maps (λ s x t. Then (λ y u. PartBy Spells identifier s y (Some (U32 m.template)) u)
        (λ u z. BodyOfBy (members_of set m.template) u z m.items t) x) d bytes after

  -- One message form for each message, each from the dictionary that the one before left.
  abbrev pub CarriesBy : List Resolved → Dictionary → List ℕ → List Content → Dictionary → Type 0
  CarriesBy set d bytes [] after = (bytes ≡ []) × (after ≡ d)
  CarriesBy set d bytes (m ∷ ms) after = Then (λ x between. MessageFormBy set d x m between) (λ between y. CarriesBy set between y ms after) bytes

-- a map's bytes and its bits
abbrev pub MapEntity : (level : Level) → List ℕ → List Bool → Type 0
MapEntity level bytes bits = AtLevel level overlong_map IsWholeMap bytes bits

-- At the usual level any map of these bits may stand, and bits that no instruction asked for may be 1. At the strict one
-- the map is not overlong, and they are 0.
abbrev pub MapAt : (level : Level) → Mapping
MapAt Usual bits left bytes = IsWholeMap bytes bits
MapAt Strict bits left bytes = MapEntity Strict bytes bits × (some_set left ≡ false)

abbrev pub Body : (level : Level) → Instructions → State → List ℕ → Items → State → Type 0
Body level = BodyBy (Form level) (MapAt level)

abbrev pub MessageForm : (level : Level) → List Resolved → Dictionary → List ℕ → Content → Dictionary → Type 0
MessageForm level = MessageFormBy (Form level) (MapAt level)

abbrev pub CarriesFrom : (level : Level) → List Resolved → Dictionary → List ℕ → List Content → Dictionary → Type 0
CarriesFrom level = CarriesBy (Form level) (MapAt level)

-- the stream carries these messages, from the dictionary in which every entry is undefined
abbrev pub Carries : (level : Level) → List Resolved → List ℕ → List Content → Type 0
Carries level set stream messages = (after : Dictionary) × CarriesFrom level set map.empty stream messages after
