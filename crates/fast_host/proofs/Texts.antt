-- A text that is read.
use Rattle.std.proofs.Common.{◌≡◌, ◌≤◌, ◌+◌, ℕ, List, [], length, append-nil, subst}
use Rattle.fast_io.specs.declared.input.ByteInput.{Ghosts}
use Rattle.fast_machine.specs.Inputs.{Reader, Reads, reader_by}
use Rattle.fast_machine.proofs.Inputs.{more_read}

abbrev pub reader_of : {R : Type 0} (input : Ghosts R) → R → Reader
reader_of input r = reader_by input.left input.calls input.errors input.ends r

-- So many reads gave this text; none failed, and none met the end.
pub record Keeps (old now : Reader) (count : ℕ) (text : List ℕ) : Type 0 where
  pub reads : Reads old now count text
  pub few : length text ≤ 16777216
  pub errors : now.errors ≡ old.errors
  pub ends : now.ends ≡ old.ends

-- one read more, which gave nothing
pub ended : {old now new : Reader} {count : ℕ} {text : List ℕ} (k : Keeps old now count text) → Reads now new 1 [] → Reads old new (count + 1) text
ended {old} {now} {new} {count} {text} k one = subst (λ (got : List ℕ). Reads old new (count + 1) got) (append-nil text) (more_read old now new count text [] k.reads one)
