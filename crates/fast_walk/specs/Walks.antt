-- How a walk through a message's open segments stands to what was received.
use Rattle.std.specs.Prelude.{◌≡◌, ℕ, ◌+◌, ◌-◌, ◌*◌, pos, Bool, List, [], ◌∷◌, ◌++◌, map, length, IsTrue}
use Rattle.fast_walk.specs.Prelude.{Key, Kind, Part, Presence, Mandatory, FieldPart, Instruction, Instructions, whole_field, field_in_parts, group_of, sequence_of, no_instructions, then_instruction, list_of, Dictionary, Level, after_bit, Items, Reads, stopped}
use Rattle.fast_walk.specs.OpenSegments.{Sequel, Inside, in_group, in_sequence, Waiting, Next, at_instruction, at_mantissa, at_element, cursor}
use Rattle.fast_walk.specs.Received.{Received, Goes, Having, left_of}
use Rattle.fast_walk.specs.Told.{IsTold}
use Rattle.fast_walk.specs.declared.halt.Halt.{Halt}
use Rattle.fast_walk.specs.declared.walk.Sequel.{Sequel as SequelNow}
use Rattle.fast_walk.specs.declared.walk.Inside.{Inside as InsideNow}
use Rattle.fast_walk.specs.declared.walk.Next.{Next as NextNow}
use Rattle.fast_walk.specs.declared.walk.Frame.{Frame as FrameNow}
use Rattle.fast_walk.specs.declared.walk.Walk.{Walk as WalkNow}

-- ---- without the items, and without a mantissa's exponent

abbrev pub bare_sequel : Sequel → Sequel
bare_sequel s = record { number = s.number; own_map = s.own_map; members = s.members; left = s.left; done = [] }

abbrev pub bare_inside : Inside → Inside
bare_inside in_group = in_group
bare_inside (in_sequence s) = in_sequence (bare_sequel s)

abbrev pub bare : Waiting → Waiting
bare w = record { bits = w.bits; number = w.number; body = record { rest = w.body.rest; done = [] }; inside = bare_inside w.inside }

abbrev pub bare_next : Next → Next
bare_next at_instruction = at_instruction
bare_next (at_mantissa e mantissa) = at_mantissa (pos 0) mantissa
bare_next (at_element s) = at_element (bare_sequel s)

-- ---- what the types of the program are to contracts

abbrev pub sequel_of : SequelNow → Sequel
sequel_of s = record { number = s.number; own_map = s.own_map; members = list_of s.members.now; left = s.left; done = [] }

abbrev pub inside_of : InsideNow → Inside
inside_of (InsideNow.Group number) = in_group
inside_of (InsideNow.Element s) = in_sequence (sequel_of s)

-- the number of the segment
abbrev pub number_of : InsideNow → ℕ
number_of (InsideNow.Group number) = number
number_of (InsideNow.Element s) = s.number

abbrev pub frame_of : FrameNow → Waiting
frame_of f = record { bits = f.bits; number = number_of f.inside; body = record { rest = list_of f.rest.now; done = [] }; inside = inside_of f.inside }

abbrev pub next_of : NextNow → Next
next_of NextNow.Instruction = at_instruction
next_of (NextNow.Mantissa mantissa) = at_mantissa (pos 0) mantissa.now
next_of (NextNow.Element s) = at_element (sequel_of s)

-- the walk is where this has been received
pub record IsAt (w : WalkNow) (o : Received) : Type 0 where
  pub next : bare_next o.next ≡ next_of w.next
  pub rest : o.body.rest ≡ list_of w.rest.now
  pub around : map bare o.around ≡ map frame_of w.around.items

-- what is left to be read
abbrev pub reads_on : Level → WalkNow → Dictionary → Received → List ℕ → Reads Items
reads_on level w d o bytes = left_of level o (cursor d w.bits w.spare bytes)

-- where a walk is and what its receiver has
abbrev pub At : {R : Type 0} → Having R → WalkNow → R → Dictionary → Received → Type 0
At has w r d o = IsAt w o × has r o d

-- From one walk, receiver and dictionary to others: reading goes on, from these bytes to the rest.
abbrev pub Moves : Level → {R : Type 0} → Having R → WalkNow → R → Dictionary → WalkNow → R → Dictionary → List ℕ → List ℕ → Type 0
Moves level has w r d v s e bytes rest = Goes (At has w r d) (reads_on level w d) (At has v s e) (reads_on level v e) bytes rest

-- Reading stops at the first of these bytes.
abbrev pub HaltsAs : Level → WalkNow → Dictionary → List ℕ → Halt → Type 0
HaltsAs level w d bytes h = (o : Received) → IsAt w o → reads_on level w d o bytes ≡ stopped h.number bytes h.cause

-- ---- what is asked for

-- The key of such a part is served, the part is one of a set, and it may be absent where that instruction may.
abbrev pub IsServedWith : (Key → Bool) → Part → Kind → Presence → FieldPart → Type 0
IsServedWith serves part kind presence p = (IsTrue (serves p.key) × IsTold part kind p) × (p.presence ≡ presence)

abbrev pub IsMantissaServed : (Key → Bool) → FieldPart → Type 0
IsMantissaServed serves p = IsServedWith serves Part.Mantissa Kind.Int64 Mandatory p

-- Each part of these instructions is one of a set, and its key is served.
abbrev mutual
  pub IsServed : (Key → Bool) → Instruction → Type 0
  IsServed serves (whole_field name number presence whole) = IsServedWith serves Part.Whole whole.kind presence whole
  IsServed serves (field_in_parts name number presence exponent mantissa) = IsServedWith serves Part.Exponent Kind.Int32 presence exponent × IsMantissaServed serves mantissa
  IsServed serves (group_of name number presence members) = AreServed serves members
  IsServed serves (sequence_of name number presence length members) = IsServedWith serves Part.Length Kind.UInt32 presence length × AreServed serves members

  pub AreServed : (Key → Bool) → Instructions → Type 0
  AreServed serves no_instructions = Unit {0}
  AreServed serves (then_instruction i is) = IsServed serves i × AreServed serves is

abbrev pub IsNextServed : (Key → Bool) → Next → Type 0
IsNextServed serves at_instruction = Unit {0}
IsNextServed serves (at_mantissa e mantissa) = IsMantissaServed serves mantissa
IsNextServed serves (at_element s) = AreServed serves s.members

abbrev pub IsInsideServed : (Key → Bool) → Inside → Type 0
IsInsideServed serves in_group = Unit {0}
IsInsideServed serves (in_sequence s) = AreServed serves s.members

abbrev pub IsWaitingServed : (Key → Bool) → Waiting → Type 0
IsWaitingServed serves w = AreServed serves w.body.rest × IsInsideServed serves w.inside

abbrev pub AreAllServed : (Key → Bool) → List Waiting → Type 0
AreAllServed serves [] = Unit {0}
AreAllServed serves (w ∷ ws) = IsWaitingServed serves w × AreAllServed serves ws

-- Each part that the walk may still come to is one of a set, and its key is served.
pub record IsReady (serves : Key → Bool) (w : WalkNow) : Type 0 where
  pub next : IsNextServed serves (next_of w.next)
  pub rest : AreServed serves (list_of w.rest.now)
  pub around : AreAllServed serves (map frame_of w.around.items)

-- ---- the end

-- Each piece makes this less.
abbrev pub weight_of : NextNow → ℕ
weight_of NextNow.Instruction = 1
weight_of n = 2

abbrev pub rank_of : WalkNow → ℕ
rank_of w = 4 * w.spare + 2 * length w.around.items + weight_of w.next

-- The message's own body has not ended.
abbrev pub IsInside : WalkNow → Type 0
IsInside w = w.next ≡ NextNow.Instruction → w.around.items ≡ [] → w.rest.now ≡ [] → ⊥

-- It has ended.
abbrev pub IsWhole : WalkNow → Type 0
IsWhole w = (w.next ≡ NextNow.Instruction) × (w.around.items ≡ []) × (w.rest.now ≡ [])

-- ---- pieces

-- This instruction is next, with those behind it.
pub record Begins (w : WalkNow) (i : Instruction) (is : Instructions) : Type 0 where
  pub next : w.next ≡ NextNow.Instruction
  pub first : list_of w.rest.now ≡ then_instruction i is

-- behind the first part of an instruction: a node is counted, and its bit taken
pub record IsBehind (w v : WalkNow) (needs : Bool) (n : NextNow) (is : Instructions) : Type 0 where
  pub bits : v.bits ≡ after_bit needs w.bits
  pub spare : v.spare ≡ w.spare - 1
  pub next : v.next ≡ n
  pub rest : list_of v.rest.now ≡ is
  pub around : v.around.items ≡ w.around.items

-- in a segment inside the one that was open, with a map of its own: its node is counted
pub record IsOpened (frames : List FrameNow) (outer : List Bool) (left number : ℕ) (members is : Instructions) (i : Inside) (own : List Bool) (v : WalkNow) : Type 0 where
  pub bits : v.bits ≡ own
  pub spare : v.spare ≡ left - 1
  pub next : v.next ≡ NextNow.Instruction
  pub rest : list_of v.rest.now ≡ members
  pub around : map frame_of v.around.items ≡ map frame_of frames ++ record { bits = outer; number = number; body = record { rest = is; done = [] }; inside = i } ∷ []
  pub depth : length v.around.items ≡ length frames + 1

-- ---- elements

-- The innermost segment is an element of this sequence, which the last frame waits for.
pub record IsLast (w : WalkNow) (s : SequelNow) : Type 0 where
  pub fore : List FrameNow
  pub frame : FrameNow
  pub frames : w.around.items ≡ fore ++ frame ∷ []
  pub inside : frame.inside ≡ InsideNow.Element s
