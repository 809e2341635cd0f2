-- The lines that wait until they are handed on (our own).
use Rattle.std.specs.Prelude.{ℕ, suc, List, ◌++◌, Option, Some, None}
use Rattle.fast_lines.specs.declared.form.Form.{Form}
use Rattle.fast_gaps.specs.declared.rest.Rest.{Rest}
use Rattle.fast_gaps.specs.Filled.{gaps_left, left_of}

-- those that are ready, and what is left of the last one
abbrev pub waiting_of : Form → List ℕ → Option Rest → List ℕ
waiting_of form ready None = ready
waiting_of form ready (Some rest) = ready ++ left_of form rest

abbrev pub left_in : Option Rest → ℕ
left_in None = 0
left_in (Some rest) = suc (gaps_left rest)
