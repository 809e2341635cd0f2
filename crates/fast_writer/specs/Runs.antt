-- Bytes that are written while others are read. Those that stand in their best form are noted as they lie, and appended
-- in one piece later. (Own.)
use Rattle.std.specs.Prelude.{◌≡◌, ◌≤◌, ◌-◌, ℕ, Bool, true, false, List, ◌++◌, length, slice_range}
use Rattle.fast_draft.specs.Segments.{NoRoomFor, Takes as TakesMemory}
use Rattle.fast_writer.specs.declared.run.Run.{Run}

-- all that is written behind the innermost map: what was appended, and behind it what is noted of the bytes that are read
abbrev pub written : List ℕ → Run → List ℕ
written bytes r = r.draft.inner.bytes ++ slice_range bytes r.from r.place

-- so many bytes were read, and what is noted ends there
pub record IsRun (bytes : List ℕ) (at : ℕ) (r : Run) : Type 0 where
  pub from : r.from ≤ r.place
  pub place : r.place ≡ at
  pub within : at ≤ length bytes

-- what is noted of the bytes that are read was appended, or nothing has changed, since it does not fit
pub record Flushes (read : List ℕ) (old new : Run) (done : Bool) : Type 0 where
  pub around : new.draft.around ≡ old.draft.around
  pub map : new.draft.inner.map ≡ old.draft.inner.map
  pub left : new.draft.inner.left ≡ old.draft.inner.left
  pub bytes : done ≡ true → new.draft.inner.bytes ≡ written read old
  pub from : done ≡ true → new.from ≡ old.place
  pub place : new.place ≡ old.place
  pub passed : new.passed ≡ old.passed
  pub unchanged : done ≡ false → (new.draft.inner.bytes ≡ old.draft.inner.bytes) × (new.from ≡ old.from)
  pub room : done ≡ false → NoRoomFor (old.place - old.from) old.draft.memory
  pub memory : TakesMemory (old.place - old.from) old.draft.memory new.draft.memory
