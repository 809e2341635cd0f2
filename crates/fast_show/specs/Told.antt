-- What is told of a message that is open, in the line that is written as its fields are read (our own).
use Rattle.std.specs.Prelude.{◌≡◌, ℕ, ℤ, Bool, true, List, [], ◌∷◌, ◌++◌, codes, Option, Some, None, option_map, find}
use Rattle.fast_value.specs.declared.scalar.Scalar.{Scalar}
use Rattle.fast_value.specs.declared.scalar.Scalar.TheVariants.{Decimal}
use Rattle.fast_template.specs.Resolved.{Instructions, Resolved}
use Rattle.fast_template.specs.TemplateSets.{TemplateList, has_id, templates_in}
use Rattle.fast_stream.specs.Nodes.{single, group_items, sequence_elements, Items, then_item, Elements, Content}
use Rattle.fast_walk.specs.OpenSegments.{items_before, elements_before, Body, Sequel, Inside, in_group, in_sequence, Waiting, Next, at_instruction, at_mantissa, at_element, with_item, with_element}
use Rattle.fast_walk.specs.Received.{Received, bytes_in}
use Rattle.fast_gaps.specs.Gaps.{filled, no_texts}
use Rattle.fast_lines.specs.Lines.{decimal_text, elements_text, joined, line_by, members_text, said_text}
use Rattle.fast_lines.specs.Signs.{between, head_text, is_led, label_text, lead}
use Rattle.fast_lines.specs.declared.form.Form.{Form}
use Rattle.fast_show.specs.declared.line.Line.{Line as LineNow}

-- ---- the lines of messages that are finished

-- the line of a message of a resolved template
abbrev pub line_as : Form → Option Resolved → Content → Option (List ℕ)
line_as form (Some t) m = line_by form t.name t.members m
line_as form None m = None

abbrev pub line_of_set : Form → List Resolved → Content → Option (List ℕ)
line_of_set form set m = line_as form (find (λ t. has_id m.template t.id) set) m

abbrev pub lines_of_set : Form → List Resolved → List Content → Option (List ℕ)
lines_of_set form set [] = Some []
lines_of_set form set (m ∷ ms) = joined (line_of_set form set m) (lines_of_set form set ms)

-- The bytes handed on and those that are not are the lines of the messages since the beginning.
abbrev pub IsTold : Form → List ℕ → List Resolved → List Content → Type 0
IsTold form out set [] = ⊥
IsTold form out set (handed ∷ ms) = lines_of_set form set ms ≡ Some (bytes_in handed.items ++ out)

-- ---- a segment

-- what is written of a line, and whether what stands between two is due in front of what is next
pub record Line : Type 0 where
  pub text : List ℕ
  pub led : Bool

-- one text behind another
abbrev pub behind_text : List ℕ → Option (List ℕ) → Option (List ℕ)
behind_text before = option_map (λ text. before ++ text)

-- how a segment began: what stood in front of it, whether what stands between two is due in front of its first
-- instruction, and its instructions
pub record Opening : Type 0 where
  pub start : List ℕ
  pub led : Bool
  pub members : Instructions

-- the whole text of a segment that has these items, with what stood in front of it
abbrev pub whole_text : Form → Opening → Items → Option (List ℕ)
whole_text form g ns = behind_text g.start (members_text form (lead form g.led) g.members ns)

-- The text of the instructions that are left, put behind what is written, makes the whole segment.
pub record Tells (form : Form) (g : Opening) (l : Line) (b : Body) : Type 0 where
  pub so_far : (ns : Items) → whole_text form g (items_before b.done ns) ≡ behind_text l.text (members_text form (lead form l.led) b.rest ns)

-- The same of a body that waits for the mantissa of a decimal, behind its label.
pub record TellsMantissa (form : Form) (g : Opening) (l : Line) (b : Body) (e : ℤ) : Type 0 where
  pub led : l.led ≡ true
  pub so_far : (m : ℤ) (ns : Items) → whole_text form g (items_before b.done (then_item (single (Some (Decimal e m))) ns))
      ≡ behind_text l.text (joined (Some (decimal_text m e)) (members_text form (between form) b.rest ns))

-- elements that are still to come, and the bracket behind the last
abbrev pub elements_left : Form → Instructions → Bool → Elements → Option (List ℕ)
elements_left form members led es = option_map (λ text. text ++ codes "]") (elements_text form (λ ns. members_text form [] members ns) (lead form led) es)

-- and of one that waits for the elements of a sequence
pub record TellsElements (form : Form) (g : Opening) (l : Line) (b : Body) (s : Sequel) : Type 0 where
  pub so_far : (es : Elements) (ns : Items) → whole_text form g (items_before b.done (then_item (sequence_elements (elements_before s.done es)) ns))
      ≡ behind_text l.text (joined (elements_left form s.members l.led es) (members_text form (between form) b.rest ns))

-- what is written inside the segment that is innermost, before what is next; `exponent` is that of the decimal whose
-- mantissa is next
abbrev pub IsTop : Form → ℤ → Next → Opening → Line → Body → Type 0
IsTop form exponent at_instruction g l b = Tells form g l b
IsTop form exponent (at_mantissa e mantissa) g l b = (exponent ≡ e) × TellsMantissa form g l b e
IsTop form exponent (at_element s) g l b = TellsElements form g l b s

-- what is written of a segment that waits for one inside it, which has these items
abbrev pub IsBehind : Form → Inside → Opening → Line → Body → Items → Type 0
IsBehind form in_group g l b ns = Tells form g l (with_item b (group_items ns))
IsBehind form (in_sequence s) g l b ns = TellsElements form g l b (with_element s ns)

-- the line behind a segment in braces, which began behind this text
abbrev pub behind_brace : List ℕ → List ℕ → Line
behind_brace start text = record { text = start ++ (text ++ codes "}"); led = true }

abbrev pub Waits : Form → Opening → Waiting → Opening → Type 0
Waits form g w h = (ns : Items) (text : List ℕ) → members_text form (lead form h.led) h.members ns ≡ Some text → IsBehind form w.inside g (behind_brace h.start text) w.body ns

-- the segments that are open, the message's own first, and of the innermost one this
abbrev pub Within : Form → Opening → List Waiting → (Opening → Type 0) → Type 0
Within form g [] Inner = Inner g
Within form g (w ∷ ws) Inner = (h : Opening) × Waits form g w h × Within form h ws Inner

-- ---- a message

-- the name of the template that was found, or nothing
abbrev pub name_if : Option Resolved → List ℕ
name_if (Some t) = t.name
name_if None = []

-- what a line begins with
abbrev pub head_in : Form → List Resolved → ℕ → List ℕ
head_in form set id = head_text form id (name_if (find (λ t. has_id id t.id) set))

abbrev pub message_opening : Form → List Resolved → ℕ → Instructions → Opening
message_opening form set id members = record { start = head_in form set id; led = is_led form; members = members }

-- all that is written of the message that is open
abbrev pub IsOpened : Form → ℤ → Line → Received → Type 0
IsOpened form exponent l o = Within form (message_opening form o.set o.template o.members) o.around (λ g. IsTop form exponent o.next g l o.body)

-- ---- a writer of lines

-- the line, its gaps filled
abbrev pub written_of : Form → LineNow → List ℕ
written_of form l = filled form l.gaps.placed.items no_texts l.text

abbrev pub line_now : Form → LineNow → Line
line_now form l = record { text = written_of form l; led = l.led }

-- of these bytes that wait, the lines of the messages of a set that are finished
abbrev pub HasLines : Form → List ℕ → TemplateList → List Resolved → List Content → Type 0
HasLines form out own set ms = IsTold form out set ms × (set ≡ templates_in own)

-- the same of the messages before, and what is written of the one that is open
pub record HasTold (form : Form) (out : List ℕ) (own : TemplateList) (exponent : ℤ) (l : Line) (o : Received) : Type 0 where
  pub before : HasLines form out own o.set o.before
  pub inside : IsOpened form exponent l o

-- ---- what is appended

-- the label and the value behind what was there; `value` is the text of the value
pub record Said (form : Form) (name : List ℕ) (value : Option (List ℕ)) (l k : Line) : Type 0 where
  pub text : List ℕ
  pub there : value ≡ Some text
  pub told : k.text ≡ l.text ++ ((lead form l.led ++ label_text form name) ++ text)
  pub led : k.led ≡ true

-- a text stands behind what was there, and whether what stands between two is due behind it
pub record Puts (text : List ℕ) (led : Bool) (l k : Line) : Type 0 where
  pub told : k.text ≡ l.text ++ text
  pub led_is : k.led ≡ led

abbrev pub PutsIn : Form → List ℕ → Bool → LineNow → LineNow → Type 0
PutsIn form text led l k = Puts text led (line_now form l) (line_now form k)

-- a text stands behind what was written
abbrev pub Appends : Form → LineNow → List ℕ → LineNow → Type 0
Appends form l text k = written_of form k ≡ written_of form l ++ text

-- a label and a value, or what stands for one that is absent
abbrev pub Says : Form → List ℕ → Option Scalar → LineNow → LineNow → Type 0
Says form name v l k = Said form name (Some (said_text form v)) (line_now form l) (line_now form k)
