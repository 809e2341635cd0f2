-- What the devices of tests show of themselves.
use Rattle.std.specs.Prelude.{ℕ, ◌+◌, Bool, List}
use Rattle.fast_io.specs.declared.script.ScriptInput.{ScriptInput}
use Rattle.fast_io.specs.declared.script.ScriptOutput.{ScriptOutput}

-- the bytes that are left, and how many of them a call gives at most
abbrev pub rest_of : ScriptInput → List ℕ
rest_of s = s.rest.now

abbrev pub step_of : ScriptInput → ℕ
step_of s = s.step

-- the number of the next call, and of the one that fails, or 0
abbrev pub next_call_of : ScriptInput → ℕ
next_call_of s = s.calls + 1

abbrev pub fails_of : ScriptInput → ℕ
fails_of s = s.fails

-- the bytes that were taken, and for how many more there is room
abbrev pub kept_of : ScriptOutput → List ℕ
kept_of s = s.kept.items

abbrev pub room_of : ScriptOutput → ℕ
room_of s = s.room

-- whether no room is no error, and whether each flush is one
abbrev pub zero_of : ScriptOutput → Bool
zero_of s = s.zero

abbrev pub flush_fails_of : ScriptOutput → Bool
flush_fails_of s = s.flush_fails
