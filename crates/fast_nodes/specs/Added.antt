-- What is added where a piece of a message is written: bits and bytes to a segment, and changes to the entries.
use Rattle.std.specs.Prelude.{◌≡◌, ◌≤◌, ◌⊎◌, ℕ, Bool, true, false, ◌&&◌, if◌then◌else◌, IsTrue, List, [], ◌∷◌, ◌++◌, drop, Option, Some, None, Result, Ok, Err}
use Rattle.fast_value.specs.declared.key.Key.{Key}
use Rattle.fast_value.specs.declared.scalar.Scalar.{Scalar}
use Rattle.fast_value.specs.declared.scalar.Scalar.TheVariants.{U32}
use Rattle.fast_template.specs.declared.resolved.FieldPart.{FieldPart}
use Rattle.fast_template.specs.Resolved.{Instruction, Instructions, has_map}
use Rattle.fast_dictionary.specs.declared.entries.Entries.{Ghosts}
use Rattle.fast_dictionary.specs.declared.entry.Entry.{Entry}
use Rattle.fast_dictionary.specs.Dictionary.{Dictionary, entry_at}
use Rattle.fast_wire.specs.Reading.{◌>>=◌}
use Rattle.fast_field.specs.Bases.{next}
use Rattle.fast_field.specs.Best.{IsBest}
use Rattle.fast_field.specs.Parts.{IsFieldPart, EachPart, EachPartIn}
use Rattle.fast_field.specs.Refusals.{refusal_of}
use Rattle.fast_field.specs.declared.fault.FieldRefusal.{FieldRefusal}
use Rattle.fast_stream.specs.Nodes.{Item, single, group_items, sequence_elements, Items, no_items, then_item, Elements, no_elements, then_element, element_count, Content}
use Rattle.fast_stream.specs.Bodies.{State, Then, PartBy, PieceBy, SegmentBy, Each, written}
use Rattle.fast_stream.specs.Streams.{identifier}
use Rattle.fast_walk.specs.Told.{HoldScalars}
use Rattle.fast_walk.specs.Walks.{IsServed, AreServed}
use Rattle.fast_nodes.specs.declared.fault.EncodeCause.{EncodeCause}
use Rattle.fast_nodes.specs.declared.fault.EncodeFault.{EncodeFault}
use Rattle.fast_nodes.specs.declared.journal.Change.{Change}
use Rattle.fast_nodes.specs.declared.journal.Journal.{Journal}
use Rattle.fast_nodes.specs.FirstRefusal.{refused, fault_of, item_fits, items_fit, elements_fit, part_judged, item_judged, items_judged, elements_judged, segment_judged}
use Rattle.fast_writer.specs.Canonical.{CanonBody, IsShortestMap}
use Rattle.fast_writer.specs.Written.{Segment, CanonSegment, Ended, Leaves, Spelt, state, has_set}

-- ---- to a segment

-- What is written of a message into a segment: how it stands there, and how it is judged, from a dictionary and bits of
-- the map to others.
pub record Piece : Type 1 where
  pub stands : State → List ℕ → State → Type 0
  pub judge : State → Result State EncodeFault

-- one behind another
abbrev pub both : Piece → Piece → Piece
both p q = record { stands = λ s b t. Then (λ x u. p.stands s x u) (λ u y. q.stands u y t) b; judge = λ s. p.judge s >>= λ t. q.judge t }

abbrev pub of_part : FieldPart → Option Scalar → Piece
of_part p v = record { stands = λ s b t. PartBy IsBest p s b v t; judge = λ s. part_judged p s v }

abbrev pub of_item : Instruction → Item → Piece
of_item i n = record { stands = λ s b t. PieceBy IsBest IsShortestMap i s b n t; judge = λ s. item_judged i n s }

abbrev pub of_items : Instructions → Items → Piece
of_items is ns = record { stands = λ s b t. CanonBody is s b ns t; judge = λ s. items_judged is ns s }

-- a message's identifier, and behind it its nodes
abbrev pub of_message : Instructions → Content → Piece
of_message members m = both (of_part identifier (Some (U32 m.template))) (of_items members m.items)

-- Bits and bytes, which are such a form under each map that goes on with these bits; and nothing of it was refused.
pub record Adds (p : Piece) (d : Dictionary) (l : Segment) (e : Dictionary) (k : Segment) : Type 0 where
  pub used : List Bool
  pub form : List ℕ
  pub bits : k.bits ≡ l.bits ++ used
  pub own : k.own ≡ l.own
  pub bytes : k.bytes ≡ l.bytes ++ form
  pub stands : (all later : List Bool) → Leaves used all later → p.stands (state d all) form (state e later)
  pub judged : p.judge (state d l.bits) ≡ Ok (state e k.bits)

-- why nothing is answered: memory was refused, or this is what is refused
abbrev pub Refuses : {A : Type 0} → Result A EncodeFault → EncodeFault → Type 0
Refuses judged f = (f ≡ refused EncodeCause.Memory) ⊎ (judged ≡ Err f)

-- What has its map in itself.
pub record Whole : Type 1 where
  pub stands : Dictionary → List ℕ → Dictionary → Type 0
  pub judge : Dictionary → Result Dictionary EncodeFault

-- a piece, behind a map of its own or none
abbrev pub in_segment : Bool → Piece → Whole
in_segment own p = record { stands = λ d b e. SegmentBy IsShortestMap own (λ s x t. p.stands s x t) d b e; judge = λ d. segment_judged own (λ s. p.judge s) d }

abbrev pub segment_of : Instructions → Items → Whole
segment_of is ns = in_segment (has_map is) (of_items is ns)

abbrev pub each_of : Instructions → Elements → Whole
each_of is es = record { stands = λ d b e. Each (CanonSegment is) d b es e; judge = λ d. elements_judged is es d }

pub record AddsBytes (w : Whole) (d : Dictionary) (old : List ℕ) (e : Dictionary) (new : List ℕ) : Type 0 where
  pub form : List ℕ
  pub bytes : new ≡ old ++ form
  pub stands : w.stands d form e
  pub judged : w.judge d ≡ Ok e

abbrev pub AnswersBytes : Whole → Dictionary → List ℕ → Dictionary → List ℕ → Result (Unit {0}) EncodeFault → Type 0
AnswersBytes w d old e new (Ok x) = AddsBytes w d old e new
AnswersBytes w d old e new (Err f) = Refuses (w.judge d) f

-- a segment stands behind its map, for which there was room
pub record IsSealed (l : Segment) (old new : List ℕ) : Type 0 where
  pub ended : Ended l old new
  pub room : (l.own && has_set (drop 1792 l.bits)) ≡ false

-- or nothing is appended, for want of memory or of room
pub record NotSealed (l : Segment) (old new : List ℕ) (f : EncodeFault) : Type 0 where
  pub why : (f ≡ refused EncodeCause.Memory) ⊎ ((f ≡ refused EncodeCause.Limit) × ((l.own && has_set (drop 1792 l.bits)) ≡ true))
  pub unchanged : new ≡ old

abbrev pub Seals : Segment → List ℕ → List ℕ → Result (Unit {0}) EncodeFault → Type 0
Seals l old new (Ok x) = IsSealed l old new
Seals l old new (Err f) = NotSealed l old new f

-- ---- to the entries

-- The entries of a message: which keys they serve, what was changed of them, and what they are.
pub record Books : Type 0 where
  pub serves : Key → Bool
  pub changes : List Change
  pub entries : Dictionary

abbrev pub books_of : {E : Type 0} (entries : Ghosts E) → Journal E → Books
books_of entries j = record { serves = entries.serves j.entries; changes = j.changes.items; entries = entries.contents j.entries }

-- One after the other these parts had values, and each change has what the part's entry was before.
abbrev pub Changed : (Key → Bool) → List Change → Dictionary → Dictionary → Type 0
Changed serves [] d e = e ≡ d
Changed serves (c ∷ cs) d e = IsTrue (serves c.part.now.key) × (c.before ≡ entry_at d c.part.now.key) × (v : Option Scalar) × Changed serves cs (written c.part.now d v) e

-- From entries and changes to others: whatever was to be put back still is.
pub record GoesOn (a b : Books) : Type 0 where
  pub same_keys : b.serves ≡ a.serves
  pub holds : HoldScalars a.entries → HoldScalars b.entries
  pub changed : (start : Dictionary) → Changed a.serves a.changes start a.entries → Changed b.serves b.changes start b.entries

-- ---- by a call

-- a piece is added
pub record IsPut (p : Piece) (a : Books) (l : Segment) (b : Books) (k : Segment) : Type 0 where
  pub adds : Adds p a.entries l b.entries k
  pub goes : GoesOn a b

-- or not, and perhaps a front of it
pub record NotPut {A : Type 0} (judged : Result A EncodeFault) (a b : Books) (f : EncodeFault) : Type 0 where
  pub why : Refuses judged f
  pub goes : GoesOn a b

abbrev pub Puts : Piece → Books → Segment → Books → Segment → Result (Unit {0}) EncodeFault → Type 0
Puts p a l b k (Ok x) = IsPut p a l b k
Puts p a l b k (Err f) = NotPut (p.judge (state a.entries l.bits)) a b f

-- the same of what has its map in itself
pub record IsPutWhole (w : Whole) (a : Books) (old : List ℕ) (b : Books) (new : List ℕ) : Type 0 where
  pub adds : AddsBytes w a.entries old b.entries new
  pub goes : GoesOn a b

abbrev pub PutsWhole : Whole → Books → List ℕ → Books → List ℕ → Result (Unit {0}) EncodeFault → Type 0
PutsWhole w a old b new (Ok x) = IsPutWhole w a old b new
PutsWhole w a old b new (Err f) = NotPut (w.judge a.entries) a b f

-- ---- the rest of a message, behind its identifier

-- its nodes, and at their end its map
abbrev pub rest_judged : Bool → Instructions → Items → State → Result Dictionary EncodeFault
rest_judged own members ns s = items_judged members ns s >>= λ t. if own && has_set (drop 1792 t.bits) then Err (refused EncodeCause.Limit) else Ok t.dictionary

pub record IsRestPut (members : Instructions) (ns : Items) (a : Books) (l : Segment) (old : List ℕ) (b : Books) (k : Segment) (new : List ℕ) : Type 0 where
  pub put : IsPut (of_items members ns) a l b k
  pub sealed : IsSealed k old new

-- ---- a part

-- a part's best form is added, and its entry is the one afterwards
pub record IsPartPut (p : FieldPart) (v : Option Scalar) (old : Entry) (l : Segment) (was new : Entry) (k : Segment) : Type 0 where
  pub spelt : Spelt p old v l k
  pub after : new ≡ next p old v
  pub before : was ≡ old
  pub allowed : refusal_of p old v ≡ None

-- or not
pub record NoPartPut (p : FieldPart) (v : Option Scalar) (old new : Entry) (f : EncodeFault) : Type 0 where
  pub why : (f ≡ refused EncodeCause.Memory) ⊎ ((r : FieldRefusal) × (refusal_of p old v ≡ Some r) × (f ≡ fault_of p r))
  pub kept : new ≡ old

-- the same in a dictionary
pub record IsValuePut (p : FieldPart) (v : Option Scalar) (d : Dictionary) (l : Segment) (was : Entry) (e : Dictionary) (k : Segment) : Type 0 where
  pub adds : Adds (of_part p v) d l e k
  pub before : was ≡ entry_at d p.key
  pub after : e ≡ written p d v
  pub holds : HoldScalars e

pub record NoValuePut (p : FieldPart) (v : Option Scalar) (d : Dictionary) (l : Segment) (e : Dictionary) (f : EncodeFault) : Type 0 where
  pub why : Refuses (part_judged p (state d l.bits) v) f
  pub unchanged : e ≡ d

-- ---- what is known of instructions and nodes before they are written

-- no sequence has too many elements
abbrev mutual
  pub IsSmall : Item → Type 0
  IsSmall (single v) = Unit {0}
  IsSmall (group_items ns) = AreSmall ns
  IsSmall (sequence_elements es) = (element_count es ≤ 65535) × AreSmallIn es

  pub AreSmall : Items → Type 0
  AreSmall no_items = Unit {0}
  AreSmall (then_item n ns) = IsSmall n × AreSmall ns

  pub AreSmallIn : Elements → Type 0
  AreSmallIn no_elements = Unit {0}
  AreSmallIn (then_element ns es) = AreSmall ns × AreSmallIn es

-- The instructions are those of a set of templates, and their keys are served; the nodes are of their shape, and none
-- is too large; and the entries hold what their types can.
pub record CanTry (a : Books) (is : Instructions) (ns : Items) : Type 0 where
  pub parts : EachPartIn IsFieldPart is
  pub served : AreServed a.serves is
  pub fits : items_fit is ns ≡ true
  pub small : AreSmall ns
  pub holds : HoldScalars a.entries

pub record CanTryOne (a : Books) (i : Instruction) (n : Item) : Type 0 where
  pub parts : EachPart IsFieldPart i
  pub served : IsServed a.serves i
  pub fits : item_fits i n ≡ true
  pub small : IsSmall n
  pub holds : HoldScalars a.entries

pub record CanTryEach (a : Books) (is : Instructions) (es : Elements) : Type 0 where
  pub parts : EachPartIn IsFieldPart is
  pub served : AreServed a.serves is
  pub fits : elements_fit is es ≡ true
  pub small : AreSmallIn es
  pub holds : HoldScalars a.entries

-- the same of a part's value
pub record CanTryPart (serves : Key → Bool) (d : Dictionary) (p : FieldPart) : Type 0 where
  pub part : IsFieldPart p
  pub served : IsTrue (serves p.key)
  pub holds : HoldScalars d
