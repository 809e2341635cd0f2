-- What is known of a machine that reads on, and whose memory was refused where it does not.
use Rattle.std.specs.Prelude.{◌≡◌, ◌⊎◌, ℕ, ◌+◌, List, length, Some}
use Rattle.fast_walk.specs.declared.halt.HaltedBy.{HaltedBy}
use Rattle.fast_walk.specs.declared.receiver.Receiver.{Ghosts as Receiving}
use Rattle.fast_machine.specs.Prelude.{Mode, Resolved, Truncated, Memory, Fault, Place, Ghosts, Content, Carries, FirstFault}
use Rattle.fast_machine.specs.Standing.{Carried}
use Rattle.fast_machine.specs.declared.machine.Machine.{Machine}

-- Bytes in which no fault was met yet, and the messages told of them: the bytes carry just these; or they carry these and
-- the front of one more, up to the place where Truncated is put in them.
abbrev pub IsUnended : Mode → List Resolved → List ℕ → List Content → Type 0
IsUnended mode set bytes messages =
    Carries mode set bytes messages
    ⊎ ((place : Place) × Carried mode set bytes messages × (place.message ≡ length messages + 1) × FirstFault mode set bytes place Truncated)

-- Memory was refused to the receiver of a machine, or to the entries that it puts, and not to the machine itself.
pub record HasRefused {R E : Type 0} {receiver : Receiving R} {entries : Ghosts E} (m : Machine R E receiver entries) : Type 0 where
  pub fault : Fault
  pub kept : m.fault ≡ Some fault
  pub memory : fault.cause ≡ Memory
  pub by : m.halted_by ≡ HaltedBy.Receiver
