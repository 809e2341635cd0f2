-- How a reader stands to what it was fed since its reset.
use Rattle.std.specs.Prelude.{List, [], ℕ, ◌++◌, take, Option, option_map, Result, Ok, Err}
use Rattle.fast_dictionary.specs.declared.entries.Entries.{Ghosts}
use Rattle.fast_stream.specs.Nodes.{Content}
use Rattle.fast_machine.specs.Following.{Follows}
use Rattle.fast_tape.specs.declared.fault.TapeFault.{TapeFault}
use Rattle.fast_tape.specs.declared.reader.TapeReader.{TapeReader}
use Rattle.fast_tape.specs.Building.{HasWaiting}
use Rattle.fast_tape.specs.Faults.{told_as}

-- It was fed these bytes since its reset, in which these messages ended; and these wait, which may be of an earlier packet.
abbrev pub Reads : {E : Type 0} {entries : Ghosts E} → TapeReader E entries → List ℕ → List Content → List Content → Type 0
Reads r fed messages waiting = Follows r.machine waiting fed messages

-- these messages wait in it, whatever it was fed
abbrev pub HoldsWaiting : {E : Type 0} {entries : Ghosts E} → TapeReader E entries → List Content → Type 0
HoldsWaiting r waiting = HasWaiting r.machine.receiver waiting

-- the most bytes that are fed between two resets
abbrev pub stream_limit : ℕ
stream_limit = 1099511627776

-- the bytes of a chunk that a call has taken: a fault of the stream is behind them all
abbrev pub taken_of : Result ℕ TapeFault → List ℕ → List ℕ
taken_of (Ok n) chunk = take n chunk
taken_of (Err TapeFault.StreamTooLong) chunk = []
taken_of (Err f) chunk = chunk

-- the fault that it keeps, if there is one
abbrev pub fault_kept : {E : Type 0} {entries : Ghosts E} → TapeReader E entries → Option TapeFault
fault_kept r = option_map (told_as r.machine.receiver.«open».too_large) r.machine.fault

-- whatever it was fed, it was fed these bytes too, and the messages that they end wait behind the others
abbrev pub ReadsOn : {E : Type 0} {entries : Ghosts E} → TapeReader E entries → List ℕ → TapeReader E entries → Type 0
ReadsOn old chunk new = (fed : List ℕ) (messages waiting : List Content) → Reads old fed messages waiting
    → (ended : List Content) × Reads new (fed ++ chunk) (messages ++ ended) (waiting ++ ended)
