-- Entries of which those that are not undefined are noted.
-- Own: the standard says what a reset leaves, not how much of it is looked at.
use Rattle.std.specs.Prelude.{◌≡◌, ℕ, ◌/◌, Bool, false, List, slice_index_or}
use Rattle.fast_dictionary.specs.declared.entry.Entry.{Entry}
use Rattle.fast_dictionary.specs.declared.entry.Entry.TheVariants.{Undefined}

-- slots are noted in groups of 32 neighbours
abbrev pub is_touched : List Bool → ℕ → Bool
is_touched groups n = slice_index_or groups (n / 32) false

-- what is not noted is undefined
abbrev pub AreTouched : List Entry → List Bool → Type 0
AreTouched entries groups = (n : ℕ) → is_touched groups n ≡ false → slice_index_or entries n Undefined ≡ Undefined
