-- A line with gaps while it is handed on (our own).
use Rattle.std.specs.Prelude.{ℕ, ◌-◌, List, length, drop}
use Rattle.fast_lines.specs.declared.form.Form.{Form}
use Rattle.fast_gaps.specs.declared.rest.Rest.{Rest}
use Rattle.fast_gaps.specs.Gaps.{filled, texts_in}

-- what is left of it, its gaps filled
abbrev pub left_of : Form → Rest → List ℕ
left_of form r = filled form (drop r.next r.placed.items) (texts_in r.texts) (drop r.at r.text)

abbrev pub gaps_left : Rest → ℕ
gaps_left r = length r.placed.items - r.next
