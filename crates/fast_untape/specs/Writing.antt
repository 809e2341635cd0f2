-- What a writer of tapes has written since it was new or was reset.
use Rattle.std.specs.Prelude.{ℕ, List, ◌++◌}
use Rattle.std.specs.FinMap as map
use Rattle.fast_template.specs.Resolved.{Resolved}
use Rattle.fast_dictionary.specs.Dictionary.{Dictionary}
use Rattle.fast_stream.specs.Nodes.{Content}
use Rattle.fast_writer.specs.Canonical.{CanonFrom}

-- These messages were written: their canonical bytes are those that were taken and those that wait, and these are the entries behind
-- them.
abbrev pub HasWritten : List Resolved → List Content → List ℕ → List ℕ → Dictionary → Type 0
HasWritten set messages taken waiting after = CanonFrom set map.empty (taken ++ waiting) messages after
