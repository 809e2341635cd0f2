-- How a fault of a load names its place.
-- Own: the numbers of instructions in faults, and that a number past 4,294,967,295 is given as that.
use Rattle.std.specs.Prelude.{ℕ, ◌+◌, min}
use Rattle.fast_written.specs.declared.fault.LoadCause.{LoadCause}
use Rattle.fast_written.specs.declared.fault.LoadFault.{LoadFault}

-- the number after one
abbrev pub next_number : ℕ → ℕ
next_number n = min (n + 1) 4294967295

-- the fault of a check at a place; a number past 4,294,967,295 is given as that
abbrev pub fault_at : LoadCause → ℕ → ℕ → LoadFault
fault_at c t i = record { cause = c; template = min t 4294967295; instruction = min i 4294967295 }

-- the fault where memory is refused, whichever step asked for it
abbrev pub want_of_memory : LoadFault
want_of_memory = fault_at LoadCause.Memory 0 0
