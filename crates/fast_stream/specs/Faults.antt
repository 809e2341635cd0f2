-- The first fault of a message, and of a stream in plain framing.
-- FAST 1.1, Error Handling. Which check comes first, the places and the limits are this project's own.
use Rattle.std.specs.Prelude.{◌≡◌, ◌<◌, Ok, ℕ, zero, suc, ◌+◌, ◌-◌, ℤ, Bool, true, false, List, [], ◌++◌, length, Option, Some, None, ◌⊎◌}
use Rattle.std.specs.FinMap as map
use Rattle.fast_stream.specs.Prelude.{overlong_map, some_set, Level, Usual, Strict, Scalar, U32, I32, FieldPart, Instruction, Instructions, whole_field, field_in_parts, group_of, sequence_of, no_instructions, then_instruction, part_needs_bit, is_optional, has_map, Resolved, Dictionary, entry_at, WireFault, EntityFault, entity_at, FieldFault, Form, IsFieldFault}
use Rattle.fast_stream.specs.declared.fault.Cause.{Cause}
use Rattle.fast_stream.specs.declared.fault.Cause.TheVariants.{D2, D4, D5, D6, D7, D9, R1, R2, R6, R7, R8, R9, Truncated, Limit, Memory}
use Rattle.fast_stream.specs.declared.place.Place.{Place}
use Rattle.fast_stream.specs.Nodes.{Item, Items, Content, nodes_of, nodes_in, node_limit}
use Rattle.fast_stream.specs.Bits.{bit_for}
use Rattle.fast_stream.specs.Bodies.{State, Then, PartBy, SegmentBy, PieceBy, BodyBy}
use Rattle.fast_stream.specs.Streams.{members_of, identifier, MapAt, MapEntity, Carries, CarriesFrom}

-- the cause that a fault of a byte form is in a stream; the last three come of no bytes
abbrev pub cause_of_wire : WireFault → Cause
cause_of_wire WireFault.NeedMore = Truncated
cause_of_wire WireFault.TooLong = Limit
cause_of_wire WireFault.Range = Memory
cause_of_wire WireFault.NotUtf8 = Memory
cause_of_wire WireFault.Memory = Memory

-- and a fault of a field
abbrev pub cause_of_field : FieldFault → Cause
cause_of_field FieldFault.D2 = D2
cause_of_field FieldFault.D4 = D4
cause_of_field FieldFault.D5 = D5
cause_of_field FieldFault.D6 = D6
cause_of_field FieldFault.D7 = D7
cause_of_field FieldFault.R1 = R1
cause_of_field FieldFault.R2 = R2
cause_of_field FieldFault.R6 = R6
cause_of_field FieldFault.R9 = R9
cause_of_field FieldFault.Limit = Limit
cause_of_field FieldFault.NeedMore = Truncated
cause_of_field FieldFault.Memory = Memory

-- a fault of a piece: its cause, the number of its instruction, and how many bytes are left from the piece on
pub record Stop : Type 0 where
  pub cause : Cause
  pub instruction : ℕ
  pub left : ℕ

-- a fault in a message, with its template's identifier: 0 for its map and its identifier
pub record MessageStop : Type 0 where
  pub template : ℕ
  pub stop : Stop

-- the piece that begins with the rest has the fault
pub record StopsAt (number : ℕ) (Fault : Cause → Type 0) (rest : List ℕ) (stop : Stop) : Type 0 where
  pub instruction_is : stop.instruction ≡ number
  pub left_is : stop.left ≡ length rest
  pub fault : Fault stop.cause

-- the entity that the bytes begin with is an overlong map
pub record BeginsLong (rest : List ℕ) : Type 0 where
  pub entity : List ℕ
  pub behind : List ℕ
  pub found : entity_at 256 rest ≡ Ok (entity, behind)
  pub is_long : overlong_map entity ≡ true

-- a map: the bytes end before its stop bit, or it passes its limit
abbrev pub MapFault : (level : Level) → List ℕ → Cause → Type 0
MapFault Usual rest cause = (f : WireFault) × EntityFault 256 rest 0 f × (cause ≡ cause_of_wire f)
MapFault Strict rest cause = ((f : WireFault) × EntityFault 256 rest 0 f × (cause ≡ cause_of_wire f)) ⊎ ((cause ≡ R7) × BeginsLong rest)

-- behind a map, under its bits
abbrev pub BehindMap : (level : Level) → (List Bool → List ℕ → Type 0) → List ℕ → Type 0
BehindMap level Behind rest = Then (λ x bits. MapEntity level x bits) Behind rest

-- a part: the first of its checks that fails
abbrev pub PartFault : (level : Level) → FieldPart → State → List ℕ → Cause → Type 0
PartFault level p s rest cause =
    (f : FieldFault) × IsFieldFault level p (entry_at s.dictionary p.key) (bit_for (part_needs_bit p) s.bits) rest f
    × (cause ≡ cause_of_field f)

abbrev pub PartStops : (level : Level) → FieldPart → State → List ℕ → Stop → Type 0
PartStops level p s rest stop = StopsAt p.number (PartFault level p s rest) rest stop

-- No node more may come, before its bit and bytes are looked at; or what is behind the count of one node stops.
abbrev pub NodeStops : ℕ → ℕ → (ℕ → Type 0) → List ℕ → Stop → Type 0
NodeStops number zero Behind rest stop = StopsAt number (λ cause. cause ≡ Limit) rest stop
NodeStops number (suc spare) Behind rest stop = Behind spare

-- the map of a segment, or what is inside it
abbrev pub SegmentStops : (level : Level) → ℕ → Bool → (State → List ℕ → Type 0) → Dictionary → List ℕ → Stop → Type 0
SegmentStops level number true Inside d rest stop =
    StopsAt number (MapFault level rest) rest stop ⊎ BehindMap level (λ bits y. Inside (record { dictionary = d; bits = bits }) y) rest
SegmentStops level number false Inside d rest stop = Inside (record { dictionary = d; bits = [] }) rest

abbrev pub Part : (level : Level) → FieldPart → State → List ℕ → Option Scalar → State → Type 0
Part level = PartBy (Form level)

-- what came before the piece: items, how many nodes may still come, and what they left
pub record Passed (A B : Type 0) : Type 0 where
  pub value : A
  pub spare : ℕ
  pub after : B

-- the end of a segment: a bit that is left is 1
abbrev pub EndStops : ℕ → State → List ℕ → Stop → Type 0
EndStops number s rest stop = StopsAt number (λ cause. (cause ≡ R8) × (some_set s.bits ≡ true)) rest stop

-- Some piece in the segment stops; at the strict level also its end, a piece of no bytes, behind all the others, none of
-- them past the limit of nodes.
abbrev pub ClosedStops : (level : Level) → {A : Type 0} → ℕ → (A → ℕ) → (State → List ℕ → A → State → Type 0) → (State → ℕ → List ℕ → Stop → Type 0) → State → ℕ → List ℕ → Stop → Type 0
ClosedStops Usual number nodes Inside InsideStops s spare rest stop = InsideStops s spare rest stop
ClosedStops Strict {A} number nodes Inside InsideStops s spare rest stop =
    InsideStops s spare rest stop
    ⊎ Then (λ b (p : Passed A State). Inside s b p.value p.after × (spare ≡ nodes p.value + p.spare)) (λ p y. EndStops number p.after y stop) rest

-- One of so many elements, each of them a node.
abbrev pub EachStops : ℕ → (Dictionary → List ℕ → Items → Dictionary → Type 0) → (ℕ → Dictionary → List ℕ → Type 0) → ℕ → ℕ → Dictionary → List ℕ → Stop → Type 0
EachStops number One OneStops zero spare d rest stop = ⊥
EachStops number One OneStops (suc n) spare d rest stop =
    NodeStops number spare
    (λ left. OneStops left d rest
    ⊎ Then (λ x (p : Passed Items Dictionary). One d x p.value p.after × (left ≡ nodes_in p.value + p.spare)) (λ p y. EachStops number One OneStops n p.spare p.after y stop) rest)
    rest stop

abbrev mutual
  -- One instruction, of which some part or inner piece stops. The number of nodes that may still come goes with it.
  pub PieceStops : (level : Level) → Instruction → State → ℕ → List ℕ → Stop → Type 0
  PieceStops level (whole_field name number presence whole) s spare rest stop = NodeStops number spare (λ left. PartStops level whole s rest stop) rest stop
  PieceStops level (field_in_parts name number presence exponent mantissa) s spare rest stop =
      NodeStops number spare
      (λ left. PartStops level exponent s rest stop
      ⊎ Then (λ x between. (e : ℤ) × Part level exponent s x (Some (I32 e)) between) (λ between y. PartStops level mantissa between y stop) rest)
      rest stop
  PieceStops level (group_of name number presence members) s spare rest stop =
      NodeStops number spare
      (λ left. (bit_for (is_optional presence) s.bits ≡ true) × SegmentStops level number (has_map members) (λ t y. ClosedStops level number nodes_in (λ u b ns w. BodyBy (Form level) (MapAt level) members u b ns w) (λ u k b st. BodyStops level members u k b st) t left y stop) s.dictionary rest stop)
      rest stop
  PieceStops level (sequence_of name number presence length members) s spare rest stop =
      NodeStops number spare
      (λ left. PartStops level length s rest stop
      ⊎ Then (λ x (p : Passed ℕ State). Part level length s x (Some (U32 p.value)) p.after × (p.spare ≡ left))
      (λ p y. EachStops number (λ d z ns e. SegmentBy (MapAt level) (has_map members) (λ t w u. BodyBy (Form level) (MapAt level) members t w ns u) d z e)
      (λ k d z. SegmentStops level number (has_map members) (λ t w. ClosedStops level number nodes_in (λ u b ns v. BodyBy (Form level) (MapAt level) members u b ns v) (λ u j b st. BodyStops level members u j b st) t k w stop) d z stop) p.value p.spare p.after.dictionary y stop)
      rest)
      rest stop

  -- the pieces before one, none of them past the limit of nodes, and then that one
  pub BodyStops : (level : Level) → Instructions → State → ℕ → List ℕ → Stop → Type 0
  BodyStops level no_instructions s spare rest stop = ⊥
  BodyStops level (then_instruction i is) s spare rest stop =
      PieceStops level i s spare rest stop
      ⊎ Then (λ x (p : Passed Item State). PieceBy (Form level) (MapAt level) i s x p.value p.after × (spare ≡ nodes_of p.value + p.spare)) (λ p y. BodyStops level is p.after p.spare y stop) rest

-- an identifier that has a fault of its own, or is that of no template
abbrev pub IdentifierFault : (level : Level) → List Resolved → State → List ℕ → Cause → Type 0
IdentifierFault level set s rest cause =
    PartFault level identifier s rest cause
    ⊎ ((cause ≡ D9) × Then (λ x id. (after : State) × Part level identifier s x (Some (U32 id)) after) (λ id y. members_of set id ≡ None) rest)

-- a good identifier, and behind it the body of its template
pub record InBody (level : Level) (set : List Resolved) (s : State) (rest : List ℕ) (m : MessageStop) : Type 0 where
  pub members : Instructions
  pub there : members_of set m.template ≡ Some members
  pub behind : Then (λ x between. Part level identifier s x (Some (U32 m.template)) between)
      (λ between y. ClosedStops level 0 nodes_in (λ u b ns v. BodyBy (Form level) (MapAt level) members u b ns v) (λ u j b st. BodyStops level members u j b st) between node_limit y m.stop) rest

-- The pieces of a message before one, and then that piece's fault. Of its map and its identifier the template is 0.
pub data MessageStops (level : Level) (set : List Resolved) (d : Dictionary) (rest : List ℕ) (m : MessageStop) : Type 0 where
  in_map : m.template ≡ 0 → StopsAt 0 (MapFault level rest) rest m.stop → MessageStops level set d rest m
  in_identifier : m.template ≡ 0
      → BehindMap level (λ bits y. StopsAt 0 (IdentifierFault level set (record { dictionary = d; bits = bits }) y) y m.stop) rest
      → MessageStops level set d rest m
  in_body : BehindMap level (λ bits y. InBody level set (record { dictionary = d; bits = bits }) y m) rest → MessageStops level set d rest m

-- where a stream of this many bytes stops behind this many messages
abbrev pub place_of : ℕ → ℕ → MessageStop → Place
place_of size messages m =
    record { message = messages + 1; offset = size - m.stop.left; template = m.template; instruction = m.stop.instruction }

-- the place at the end of a stream of this many bytes, which is this many messages: where a read fails between two
abbrev pub place_between : ℕ → ℕ → Place
place_between size messages = record { message = messages + 1; offset = size; template = 0; instruction = 0 }

-- The first fault of a stream in plain framing. The stream is message forms of the messages before the place's, and then
-- the pieces of the next one before the place's piece, which has the fault. A stream that ends between two messages has
-- none.
pub record FirstFault (level : Level) (set : List Resolved) (stream : List ℕ) (place : Place) (cause : Cause) : Type 0 where
  pub messages : List Content
  pub dictionary : Dictionary
  pub front : List ℕ
  pub rest : List ℕ
  pub stop : MessageStop
  pub parts : stream ≡ front ++ rest
  pub carried : CarriesFrom level set map.empty front messages dictionary
  pub some : 0 < length rest
  pub stops : MessageStops level set dictionary rest stop
  pub cause_is : cause ≡ stop.stop.cause
  pub place_is : place ≡ place_of (length stream) (length messages) stop

-- A stream in plain framing that ends behind a message, with its end as the place: where a read fails or the reads are
-- used up there.
pub record EndsBetween (level : Level) (set : List Resolved) (stream : List ℕ) (place : Place) : Type 0 where
  pub messages : List Content
  pub carried : Carries level set stream messages
  pub place_is : place ≡ place_between (length stream) (length messages)
