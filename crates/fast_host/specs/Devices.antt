-- What a writer and a source of inputs tell of themselves, as the contracts of the program see it.
use Rattle.std.specs.Prelude.{◌≡◌, ℕ, List, Option, None, Some}
use Rattle.fast_io.specs.Counts.{counted, counted_by}
use Rattle.fast_machine.specs.Inputs.{Reader}

-- the bytes taken where they are told, how many calls failed, and how many were flushes
pub record Writer : Type 0 where
  pub taken : Option (List ℕ)
  pub errors : ℕ
  pub flushes : ℕ

abbrev pub writer_by : {W : Type 0} → (W → Option (List ℕ)) → (W → ℕ) → (W → ℕ) → W → Writer
writer_by taken errors flushes w = record { taken = taken w; errors = errors w; flushes = flushes w }

-- What the file of each name gives and what the standard input gives, where they are told; how many calls to open each name
-- were refused; and how many reads failed of the readers of each name, and with none of the standard input, that were given back.
pub record Inputs : Type 0 where
  pub file : List ℕ → Option (List ℕ)
  pub standard : Option (List ℕ)
  pub unopened : List ℕ → ℕ
  pub failed : Option (List ℕ) → ℕ

abbrev pub inputs_by : {S : Type 0} → (S → List ℕ → Option (List ℕ)) → (S → Option (List ℕ)) → (S → List ℕ → ℕ) → (S → Option (List ℕ) → ℕ) → S → Inputs
inputs_by file input unopened failed s = record { file = file s; standard = input s; unopened = unopened s; failed = failed s }

-- what an input gives: that of a file's name, or with none the standard input
abbrev pub input_of : Inputs → Option (List ℕ) → Option (List ℕ)
input_of inputs (Some name) = inputs.file name
input_of inputs None = inputs.standard

-- a file was not opened: the call that should open it was refused
abbrev pub IsUnopened : Inputs → Inputs → Option (List ℕ) → Type 0
IsUnopened old new (Some name) = new.unopened name ≡ counted (old.unopened name)
IsUnopened old new None = ⊥

-- An input was opened at its beginning and read, from a reader that had counted no failed read; and those that it counts are
-- counted for its name.
pub record IsReadFrom (old new : Inputs) (name : Option (List ℕ)) (in_old in_new : Reader) : Type 0 where
  pub begins : in_old.left ≡ input_of old name
  pub unfailed : in_old.errors ≡ 0
  pub counts : new.failed name ≡ counted_by (old.failed name) in_new.errors
  pub opened : new.unopened ≡ old.unopened
