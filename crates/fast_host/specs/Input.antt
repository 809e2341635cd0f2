-- What reading a text whole answers (our own).
use Rattle.std.specs.Prelude.{◌≡◌, ℕ, ◌+◌, ◌≤◌, List, length, Option}
use Rattle.std.specs.Io.KnownBytes.{IsAtEnd}
use Rattle.fast_io.specs.Counts.{counted}
use Rattle.fast_machine.specs.Inputs.{Reader}
use Rattle.fast_host.specs.declared.input.TextFault.{TextFault}
use Rattle.fast_host.specs.declared.input.TextFault.TheVariants.{TooLong, Read, Turns, Memory}

-- the most bytes of a text
abbrev pub text_limit : ℕ
text_limit = 16777216

-- what was read is the text, and the reader has ended
abbrev pub IsText : List ℕ → List ℕ → Option (List ℕ) → Type 0
IsText text got left = (text ≡ got) × (length got ≤ text_limit) × IsAtEnd left

-- one byte more than a text has was read, and none behind it; or of no more bytes than a text has a read failed, or all reads
-- were made and none met the end
abbrev pub GivesNoText : TextFault → ℕ → ℕ → List ℕ → Reader → Reader → Type 0
GivesNoText TooLong turns count got old new = length got ≡ text_limit + 1
GivesNoText Read turns count got old new = (length got ≤ text_limit) × (new.errors ≡ counted old.errors)
GivesNoText Turns turns count got old new = (length got ≤ text_limit) × (count ≡ turns) × (new.ends ≡ old.ends)
GivesNoText Memory turns count got old new = length got ≤ text_limit
