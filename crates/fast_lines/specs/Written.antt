-- What a call has put behind an output (our own).
use Rattle.std.specs.Prelude.{◌≡◌, ℕ, List, ◌++◌, Option, Some, None, Result, Ok, Err}
use Rattle.std.specs.declared.alloc.AllocError.{AllocError}
use Rattle.fast_lines.specs.declared.lines.ShowFault.{ShowFault}
use Rattle.fast_lines.specs.declared.lines.ShowFault.TheVariants.{Mismatch, Memory}

-- what stood before still stands, with more behind it or none
pub record Extends (before after : List ℕ) : Type 0 where
  pub more : List ℕ
  pub appended : after ≡ before ++ more

-- the whole text stands behind what stood before; where memory was refused perhaps a part of it
abbrev pub Writes : List ℕ → Result Unit AllocError → List ℕ → List ℕ → Type 0
Writes text (Ok u) before after = after ≡ before ++ text
Writes text (Err e) before after = Extends before after

-- the text is there, and it stands behind what stood before
pub record Adds (text : Option (List ℕ)) (before after : List ℕ) : Type 0 where
  pub line : List ℕ
  pub there : text ≡ Some line
  pub appended : after ≡ before ++ line

-- the same of a text that may not be there, which is a mismatch
abbrev pub Shows : Option (List ℕ) → Result Unit ShowFault → List ℕ → List ℕ → Type 0
Shows text (Ok u) before after = Adds text before after
Shows text (Err Mismatch) before after = (text ≡ None) × Extends before after
Shows text (Err Memory) before after = Extends before after
