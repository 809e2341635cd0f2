-- What there is of the message that is open (our own): its nodes so far, and which of them are headers of open segments.
use Rattle.std.specs.Prelude.{◌≡◌, ℕ, ◌+◌, suc, ℤ, List, [], ◌∷◌, ◌++◌, length}
use Rattle.std.specs.List.{flat_map}
use Rattle.fast_tape.specs.declared.open.OpenTape.{OpenTape}
use Rattle.fast_tape.specs.declared.builder.TapeBuilder.{TapeBuilder}
use Rattle.fast_stream.specs.Nodes.{items_of, elements_of, Item, Items, Content}
use Rattle.fast_walk.specs.OpenSegments.{Waiting, Inside, in_group, in_sequence, Next, at_instruction, at_mantissa, at_element}
use Rattle.fast_walk.specs.Received.{Received}
use Rattle.fast_tape.specs.Tapes.{Mark, opens, of_message, of_group, of_sequence, of_element, marks_in, marks_in_elements, SayAll, IsTape}

-- ---- what its nodes say

abbrev pub marks_done : List Item → List Mark
marks_done done = marks_in (items_of done)

-- of a sequence that is open, with so many elements that are not whole
abbrev pub sequence_marks : ℕ → List Items → List Mark
sequence_marks left done = opens (of_sequence (length done + left)) 0 ∷ marks_in_elements (elements_of done)

-- the headers of the segments that are open inside a body, where one is; a header that is open says no node of its own
abbrev pub inside_marks : Inside → List Mark
inside_marks in_group = opens of_group 0 ∷ []
inside_marks (in_sequence s) = sequence_marks (suc s.left) s.done ++ opens of_element 0 ∷ []

abbrev pub next_marks : Next → List Mark
next_marks at_instruction = []
next_marks (at_mantissa e mantissa) = []
next_marks (at_element s) = sequence_marks s.left s.done

abbrev pub waiting_marks : Waiting → List Mark
waiting_marks w = marks_done w.body.done ++ inside_marks w.inside

abbrev pub body_marks : Received → List Mark
body_marks o = flat_map waiting_marks o.around ++ marks_done o.body.done

abbrev pub open_marks : Received → List Mark
open_marks o = opens (of_message o.template) 0 ∷ (body_marks o ++ next_marks o.next)

-- ---- where its open headers lie

abbrev pub inside_starts : ℕ → Inside → List ℕ
inside_starts at in_group = at ∷ []
inside_starts at (in_sequence s) = at ∷ (at + length (sequence_marks (suc s.left) s.done)) ∷ []

abbrev pub next_starts : ℕ → Next → List ℕ
next_starts at at_instruction = []
next_starts at (at_mantissa e mantissa) = []
next_starts at (at_element s) = at ∷ []

-- of bodies that wait, of which the first begins at this place
abbrev pub waiting_starts : ℕ → List Waiting → List ℕ
waiting_starts at [] = []
waiting_starts at (w ∷ ws) = inside_starts (at + length (marks_done w.body.done)) w.inside ++ waiting_starts (at + length (waiting_marks w)) ws

abbrev pub open_starts : Received → List ℕ
open_starts o = 0 ∷ (waiting_starts 1 o.around ++ next_starts (1 + length (body_marks o)) o.next)

-- a tape says this, and these of its nodes are headers of open segments
pub record Holds (t : OpenTape) (marks : List Mark) (starts : List ℕ) : Type 0 where
  pub says : SayAll t.tape.bytes.items marks t.tape.nodes.items
  pub starts_are : t.starts.items ≡ starts

-- the tape has this of the message that is open
abbrev pub HasOpen : OpenTape → Received → Type 0
HasOpen t o = Holds t (open_marks o) (open_starts o)

-- ---- a builder

-- the messages that have ended, and that wait
abbrev pub HasWaiting : TapeBuilder → List Content → Type 0
HasWaiting b messages = IsTape b.whole.bytes.items messages b.whole.nodes.items × (b.messages ≡ length messages)

-- the exponent of the mantissa that is next
abbrev pub IsNextExponent : ℤ → Next → Type 0
IsNextExponent exponent at_instruction = Unit {0}
IsNextExponent exponent (at_mantissa e mantissa) = exponent ≡ e
IsNextExponent exponent (at_element s) = Unit {0}

-- those that wait, and what there is of the one that is open
pub record HasTape (b : TapeBuilder) (o : Received) : Type 0 where
  pub before : HasWaiting b o.before
  pub inside : HasOpen b.open o
  pub exponent : IsNextExponent b.exponent o.next
