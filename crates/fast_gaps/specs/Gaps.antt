-- What is long in a line that is long stands in it as a gap, which is filled when the line is handed on (our own).
use Rattle.std.specs.Prelude.{◌≡◌, ◌<◌, ℕ, zero, suc, Vec, ◌==◌, ◌+◌, if◌then◌else◌, List, [], ◌∷◌, ◌++◌, length, take, drop, Option, Some, None}
use Rattle.fast_field.specs.Deltas.{put_together}
use Rattle.fast_field.specs.Removals.{length_of}
use Rattle.fast_field.specs.Values.{units_of}
use Rattle.fast_field.specs.declared.delta.Removal.{Removal}
use Rattle.fast_value.specs.declared.scalar.Scalar.{Scalar}
use Rattle.fast_lines.specs.declared.form.Form.{Form}
use Rattle.fast_gaps.specs.declared.gap.Gap.{Gap}
use Rattle.fast_gaps.specs.declared.gap.Gap.TheVariants.{Label, Text}
use Rattle.fast_gaps.specs.declared.gap.PlacedGap.{PlacedGap}
use Rattle.fast_gaps.specs.declared.gap.Units.{Units}
use Rattle.fast_gaps.specs.declared.gap.Units.TheVariants.{Characters, Bytes}
use Rattle.fast_gaps.specs.declared.texts.Texts.{Texts as TextsNow}
use Rattle.fast_lines.specs.Signs.{label_text, quoted, vector_text}

-- the text that was told last under the key of each slot
abbrev pub Texts : Type 0
Texts = ℕ → List ℕ

-- those of a vector by slot; behind its end there are none
abbrev pub text_at : {Z : Type 0} → List (Vec ℕ Z) → ℕ → List ℕ
text_at [] slot = []
text_at (v ∷ vs) zero = v.items
text_at (v ∷ vs) (suc slot) = text_at vs slot

abbrev pub texts_in : TextsNow → Texts
texts_in t slot = text_at t.by_slot.items slot

abbrev pub no_texts : Texts
no_texts slot = []

abbrev pub with_text : ℕ → List ℕ → Texts → Texts
with_text slot text texts other = if other == slot then text else texts other

abbrev pub units_text : Form → Units → List ℕ → List ℕ
units_text form Characters text = quoted form text
units_text form Bytes text = vector_text form text

-- the text that was told last; of no slot none
abbrev pub last_at : Option ℕ → Texts → List ℕ
last_at (Some slot) texts = texts slot
last_at None texts = []

-- a text that is told last then; of no slot it is not kept
abbrev pub kept_at : Option ℕ → List ℕ → Texts → Texts
kept_at (Some slot) text texts = with_text slot text texts
kept_at None text texts = texts

-- there is room for the text of the slot
abbrev pub HasRoom : Option ℕ → TextsNow → Type 0
HasRoom (Some slot) t = slot < length t.by_slot.items
HasRoom None t = Unit {0}

-- what a text is a delta of: the initial value, or where there is none the text that was told last
abbrev pub base_units : Option Scalar → List ℕ → List ℕ
base_units (Some value) last = units_of value
base_units None last = last

abbrev pub made_text : Option ℕ → Option Scalar → Removal → List ℕ → Texts → List ℕ
made_text slot initial removal part texts = put_together (length_of removal) (base_units initial (last_at slot texts)) part

-- what fills a gap
abbrev pub gap_text : Form → Gap → Texts → List ℕ
gap_text form (Label name) texts = label_text form name
gap_text form (Text slot initial units removal part) texts = units_text form units (made_text slot initial removal part.items texts)

abbrev pub texts_behind : Gap → Texts → Texts
texts_behind (Text slot initial units removal part) texts = kept_at slot (made_text slot initial removal part.items texts) texts
texts_behind gap texts = texts

-- of a gap of text, its text is made, and there is room for it
abbrev pub IsMade : Gap → TextsNow → List ℕ → Type 0
IsMade (Text slot initial units removal part) t text = (text ≡ made_text slot initial removal part.items (texts_in t)) × HasRoom slot t
IsMade gap t text = Unit {0}

abbrev pub texts_after : List PlacedGap → Texts → Texts
texts_after [] texts = texts
texts_after (g ∷ gs) texts = texts_after gs (texts_behind g.gap texts)

-- what is written, with its gaps filled
abbrev pub filled : Form → List PlacedGap → Texts → List ℕ → List ℕ
filled form [] texts written = written
filled form (g ∷ gs) texts written = take g.behind written ++ (gap_text form g.gap texts ++ filled form gs (texts_behind g.gap texts) (drop g.behind written))

-- how many bytes stand in front of the last gap
abbrev pub closed : List PlacedGap → ℕ
closed [] = 0
closed (g ∷ gs) = g.behind + closed gs
