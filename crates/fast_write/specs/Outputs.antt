-- Canonical bytes as they are written (our own).
use Rattle.std.specs.Prelude.{ℕ, List, [], ◌∷◌, ◌++◌}
use Rattle.hex.specs.Hex.{encode_lower}
use Rattle.fast_write.specs.declared.output.OutputForm.{OutputForm}

-- some of the bytes
abbrev pub part_of : OutputForm → List ℕ → List ℕ
part_of OutputForm.Bytes bytes = bytes
part_of OutputForm.Hex bytes = encode_lower bytes

-- what stands behind the last of them
abbrev pub ending_of : OutputForm → List ℕ
ending_of OutputForm.Bytes = []
ending_of OutputForm.Hex = 10 ∷ []

-- all of them: as they are, or as a line of hex digits
abbrev pub output_of : OutputForm → List ℕ → List ℕ
output_of form bytes = part_of form bytes ++ ending_of form
