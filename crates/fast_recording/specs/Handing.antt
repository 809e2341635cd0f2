-- What comes of the bytes that an output made of a packet, on their way into its lines.
use Rattle.std.specs.Prelude.{ℕ, List, [], length, Option, None, Some, Result, Ok, Err, MatchResult}
use Rattle.fast_io.specs.Counts.{counted_by}
use Rattle.fast_io.specs.Traffic.{Taken}
use Rattle.fast_template.specs.TemplateSets.{templates_in}
use Rattle.fast_dictionary.specs.declared.entries.Entries.{Ghosts}
use Rattle.fast_walk.specs.declared.receiver.Receiver.{Ghosts as Receiving}
use Rattle.fast_machine.specs.declared.machine.Machine.{Machine}
use Rattle.fast_machine.specs.Following.{mode_of}
use Rattle.fast_machine.specs.declared.reached.Reached.{Reached}
use Rattle.fast_pass.specs.declared.stop.Stop.{Stop}
use Rattle.fast_pass.specs.Relays.{Break, HandsOn, Making, Relays, Step, Way}
use Rattle.fast_recording.specs.PacketLines.{Writes, written_by}
use Rattle.fast_recording.specs.declared.packet_lines.PacketLines.{PacketLines}

-- a front is written of what these bytes are in lines
abbrev pub WritesFront : PacketLines → Option (List ℕ) → Option (List ℕ) → List ℕ → Type 0
WritesFront lines taken_old taken_new bytes = (rest : List ℕ) × Taken taken_old taken_new (written_by lines bytes) rest

-- These bytes of an output are handed on and written, or a front is written of all that wait.
abbrev pub HandsLines : {O E : Type 0} {receiver : Receiving O} {entries : Ghosts E} → (O → List ℕ) → Making → Result (Unit {0}) Stop → PacketLines → PacketLines → Machine O E receiver entries → Machine O E receiver entries → Option (List ℕ) → Option (List ℕ) → Type 0
HandsLines waiting makes (Ok done) lines_old lines_new old new taken_old taken_new =
    (more : List ℕ) × HandsOn waiting makes old new None None more (counted_by 0 (length more)) × Writes lines_old lines_new taken_old taken_new more
HandsLines waiting makes (Err s) lines_old lines_new old new taken_old taken_new = WritesFront lines_old taken_old taken_new (waiting old.receiver)

-- A step behind a way: what is handed on is written.
abbrev pub StepInLines : {O E : Type 0} {receiver : Receiving O} {entries : Ghosts E} → (O → List ℕ) → Making → Reached → PacketLines → PacketLines → Machine O E receiver entries → ℕ → Option (List ℕ) → Option (List ℕ) → Option (List ℕ) → Way → List ℕ → Type 0 → Type 0
StepInLines waiting makes at lines_old lines_new new turns left taken_old taken_new way got Because =
    (handed : List ℕ) × (size : ℕ) × Step waiting makes at new turns left (Some []) (Some handed) size way got Because × Writes lines_old lines_new taken_old taken_new handed

-- A write failed or memory was refused behind a way: a front is written of what would have been handed on.
abbrev pub BreakInLines : {O E : Type 0} {receiver : Receiving O} {entries : Ghosts E} → Making → PacketLines → Machine O E receiver entries → Option (List ℕ) → Option (List ℕ) → Way → List ℕ → Type 0
BreakInLines makes lines new taken_old taken_new way got =
    (handed : List ℕ) × Break makes (mode_of new) (templates_in new.traversal.set.now) (Some []) (Some handed) way got × WritesFront lines taken_old taken_new handed

-- What comes of these bytes, from a machine that goes on, wherever its stream is.
abbrev pub GoesInLines : {O E : Type 0} {receiver : Receiving O} {entries : Ghosts E} → (O → List ℕ) → Making → Result Reached Stop → PacketLines → PacketLines → Machine O E receiver entries → Machine O E receiver entries → Option (List ℕ) → Option (List ℕ) → Option (List ℕ) → Option (List ℕ) → List ℕ → (Reached → Type 0) → Type 0
GoesInLines waiting makes result lines_old lines_new old new left later taken_old taken_new got Because = MatchResult result
    (λ at. (turns : ℕ) (way : Way) → Relays waiting makes Reached.Open old turns left way → StepInLines waiting makes at lines_old lines_new new turns later taken_old taken_new way got (Because at))
    (λ s. (turns : ℕ) (way : Way) → Relays waiting makes Reached.Open old turns left way → BreakInLines makes lines_old new taken_old taken_new way got)
