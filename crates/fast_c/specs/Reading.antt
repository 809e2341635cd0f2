-- What calls with the reader behind a handle did, and what C is answered of them.
use Rattle.std.specs.Prelude.{◌≡◌, ◌≢◌, ◌≤◌, ◌<◌, ◌↔◌, ◌+◌, nat_eq, nat_lt, if◌then◌else◌, ◌++◌, [], ℕ, List, Option, Some, None, Result, Ok, Err, IfOk, IfErr, IfSome, IfNone, IsSome, OnOk, length, take, drop, true, false}
use Rattle.std.specs.FinMap as finite
use Rattle.fast_template.specs.TemplateSets.{TemplateList, templates_in}
use Rattle.fast_dictionary.specs.declared.slots.SlotEntries.{SlotEntries}
use Rattle.fast_dictionary.specs.contracts.slots.SlotEntriesEntries.TheImpl.{ghosts}
use Rattle.fast_stream.specs.Nodes.{Content}
use Rattle.fast_stream.specs.Modes.{Carries}
use Rattle.fast_stream.specs.declared.fault.Cause.{Cause}
use Rattle.fast_stream.specs.declared.fault.Fault.{Fault}
use Rattle.fast_machine.specs.Following.{mode_of}
use Rattle.fast_machine.specs.Calls.{IsSameStream}
use Rattle.fast_tape.specs.Reading.{HoldsWaiting, Reads, ReadsOn, fault_kept, stream_limit, taken_of}
use Rattle.fast_tape.specs.Tapes.{IsTape}
use Rattle.fast_tape.specs.Waiting.{counts_of, is_full}
use Rattle.fast_tape.specs.declared.builder.Taken.{Taken}
use Rattle.fast_tape.specs.declared.fault.TapeFault.{TapeFault}
use Rattle.fast_tape.specs.declared.node.TapeNode.{TapeNode}
use Rattle.fast_tape.specs.declared.reader.TapeReader.{TapeReader}
use Rattle.fast_kept.specs.declared.kept.Kept.{Kept}
use Rattle.fast_kept.specs.declared.lent.Lent.{Lent}
use Rattle.fast_slices.specs.Answers.{no_counts}
use Rattle.fast_slices.specs.Calls.{Done}
use Rattle.fast_slices.specs.Ways.{stream_mode_of}
use Rattle.fast_slices.specs.declared.answer.Refusal.{Refusal}
use Rattle.fast_c.specs.declared.counts.NodeCounts.{NodeCounts}

abbrev pub ReaderOf : Type 0
ReaderOf = TapeReader (SlotEntries) ghosts

-- This was done with a reader; or there is none, and all stays as it was.
abbrev pub LentReader : {A : Type 0} → (ReaderOf → ReaderOf → A → Type 0) → Type 0 → Option Lent → Option Lent → Option A → Type 0
LentReader Does Stays (Some (Lent.Reader r)) new (Some done) = (later : ReaderOf) × (new ≡ Some (Lent.Reader later)) × Does r later done
LentReader Does Stays (Some (Lent.Reader r)) new None = ⊥
LentReader Does Stays old new (Some done) = ⊥
LentReader Does Stays old new None = (new ≡ old) × Stays

-- This was done with the reader of a handle; or it has none, and all stays as it was.
abbrev pub HeldReader : {A : Type 0} → (ReaderOf → ReaderOf → A → Type 0) → Type 0 → Option Kept → Option Kept → Option A → Type 0
HeldReader Does Stays (Some (Kept.Lent lent)) new done = (later : Option Lent) × (new ≡ Some (Kept.Lent later)) × LentReader Does Stays lent later done
HeldReader Does Stays old new (Some done) = ⊥
HeldReader Does Stays old new None = (new ≡ old) × Stays

-- ---- the calls

-- the most bytes of strings that a message may have, where 0 says nothing
abbrev pub most_bytes_of : ℕ → ℕ
most_bytes_of said = if nat_eq said 0 then 67108864 else if nat_lt said 4294967295 then said else 4294967295

-- A reader of a set is behind the handle, at the beginning of a stream; or it stays as it was.
abbrev pub KeepsReader : ℕ → ℕ → Option Kept → Option Kept → TemplateList → Done → Type 0
KeepsReader word most old new set (Ok counts) = (counts ≡ no_counts) × ((r : ReaderOf) × (new ≡ Some (Kept.Lent (Some (Lent.Reader r)))) × (r.machine.traversal.set.now ≡ set) × (stream_mode_of word ≡ Some (mode_of r.machine)) × (r.machine.receiver.«open».most_bytes ≡ most_bytes_of most) × Reads r [] [] [])
KeepsReader word most old new set (Err Refusal.Mode) = (stream_mode_of word ≡ None) × (new ≡ old)
KeepsReader word most old new set (Err Refusal.Memory) = new ≡ old
KeepsReader word most old new set (Err r) = ⊥

-- Bytes were fed.
pub record Feeds (chunk : List ℕ) (old new : ReaderOf) (done : Result ℕ TapeFault) : Type 0 where
  pub kept : IsSome old.machine.fault → new ≡ old
  pub reads : old.machine.fault ≡ None → ReadsOn old (taken_of done chunk) new
  pub clear : IfOk done (λ n. new.machine.fault ≡ None)
  pub refused : IfErr done (λ f. f ≢ TapeFault.StreamTooLong → fault_kept new ≡ Some f)
  pub too_long : IfErr done (λ f. f ≡ TapeFault.StreamTooLong → (new ≡ old) × (stream_limit < old.machine.fed + length chunk))
  pub long : old.machine.fault ≡ None → stream_limit < old.machine.fed + length chunk → done ≡ Err TapeFault.StreamTooLong
  pub fed : IfOk done (λ n. new.machine.fed ≡ old.machine.fed + n)
  pub within : IfOk done (λ n. n ≤ length chunk)
  pub stops : IfOk done (λ n. n < length chunk → is_full new.machine.receiver ≡ true)
  pub moves : IfOk done (λ n. is_full old.machine.receiver ≡ false → 0 < length chunk → 0 < n)
  pub same : IsSameStream old.machine new.machine

-- A packet was read.
pub record ReadsPacket (packet : List ℕ) (old new : ReaderOf) (done : Result ℕ TapeFault) : Type 0 where
  pub reads : (waiting : List Content) → HoldsWaiting old waiting → (ended : List Content) × Reads new (taken_of done packet) ended (waiting ++ ended)
  pub whole : IfOk done (λ n. n ≡ length packet → (messages waiting : List Content) → Reads new packet messages waiting
      → Carries (mode_of new.machine) (templates_in new.machine.traversal.set.now) packet messages)
  pub refused : IfErr done (λ f. f ≢ TapeFault.StreamTooLong → fault_kept new ≡ Some f)
  pub too_long : (done ≡ Err TapeFault.StreamTooLong) ↔ (stream_limit < length packet)
  pub within : IfOk done (λ n. n ≤ length packet)
  pub stops : IfOk done (λ n. n < length packet → is_full new.machine.receiver ≡ true)
  pub same : IsSameStream old.machine new.machine

-- What waits was put into the rooms, or they are too short.
pub record Takes (nodes nodes' : List TapeNode) (bytes bytes' : List ℕ) (old new : ReaderOf) (done : Option Taken) : Type 0 where
  pub taken : IfSome done (λ taken. (fed : List ℕ) (messages waiting : List Content) → Reads old fed messages waiting
      → (taken.messages ≡ length waiting) × IsTape (take taken.bytes bytes') waiting (take taken.nodes nodes') × Reads new fed messages [])
  pub behind : IfSome done (λ taken. (drop taken.nodes nodes' ≡ drop taken.nodes nodes) × (drop taken.bytes bytes' ≡ drop taken.bytes bytes))
  pub counts : IfSome done (λ taken. taken ≡ counts_of old.machine.receiver)
  pub short : IfNone done ((nodes' ≡ nodes) × (bytes' ≡ bytes) × (new ≡ old))
  pub room : IsSome done ↔ (((counts_of old.machine.receiver).nodes ≤ length nodes) × ((counts_of old.machine.receiver).bytes ≤ length bytes))
  pub same : IsSameStream old.machine new.machine

-- The stream was ended.
pub record Finishes (old new : ReaderOf) (done : Result (Unit {0}) TapeFault) : Type 0 where
  pub ok : OnOk done ((new ≡ old) × ((fed : List ℕ) (messages waiting : List Content) → Reads old fed messages waiting
      → Carries (mode_of old.machine) (templates_in old.machine.traversal.set.now) fed messages))
  pub refused : IfErr done (λ f. (fault_kept new ≡ Some f) × (f ≢ TapeFault.StreamTooLong))
  pub reads : (fed : List ℕ) (messages waiting : List Content) → Reads old fed messages waiting → Reads new fed messages waiting
  pub same : IsSameStream old.machine new.machine

-- A new stream was begun.
pub record Resets (old new : ReaderOf) (done : Unit {0}) : Type 0 where
  pub fault : new.machine.fault ≡ None
  pub fed : new.machine.fed ≡ 0
  pub undefined : ghosts.contents new.machine.entries ≡ finite.empty
  pub reads : Reads new [] [] []
  pub same : IsSameStream old.machine new.machine

-- ---- what C is answered

-- why a stream is not read on; want of memory is no refusal of the stream
abbrev pub stream_told : Cause → Fault → Refusal
stream_told Cause.Memory f = Refusal.Memory
stream_told cause f = Refusal.Stream f 0

abbrev pub refusal_of : TapeFault → Refusal
refusal_of (TapeFault.Stream f) = stream_told f.cause f
refusal_of (TapeFault.MessageTooLarge message) = Refusal.TooLarge message
refusal_of TapeFault.StreamTooLong = Refusal.TooLong

abbrev pub told : {A : Type 0} → Option (Result A TapeFault) → Done
told (Some (Ok x)) = Ok no_counts
told (Some (Err f)) = Err (refusal_of f)
told None = Err Refusal.Handle

-- how many bytes of a chunk were taken; none is told where it is refused
abbrev pub used_of : Option (Result ℕ TapeFault) → ℕ
used_of (Some (Ok n)) = n
used_of (Some (Err f)) = 0
used_of None = 0

abbrev pub counted : ℕ → Taken → NodeCounts
counted used t = record { used = used; messages = t.messages; nodes = t.nodes; bytes = t.bytes }

-- what waits in a reader; nothing where there is none
abbrev pub waiting_lent : ℕ → Option Lent → NodeCounts
waiting_lent used (Some (Lent.Reader r)) = counted used (counts_of r.machine.receiver)
waiting_lent used lent = record { used = used; messages = 0; nodes = 0; bytes = 0 }

-- what waits in the reader of a handle
abbrev pub waiting_in : ℕ → Option Kept → NodeCounts
waiting_in used (Some (Kept.Lent lent)) = waiting_lent used lent
waiting_in used kept = waiting_lent used None

-- what was taken, or where the rooms are too short what waits; and the status
abbrev pub taken_told : Option (Option Taken) → Option Kept → NodeCounts
taken_told (Some (Some taken)) kept = counted 0 taken
taken_told other kept = waiting_in 0 kept

abbrev pub status_taken : Option (Option Taken) → ℕ
status_taken (Some (Some taken)) = 0
status_taken (Some None) = 3
status_taken None = 8

abbrev pub status_done : Option (Unit {0}) → ℕ
status_done (Some x) = 0
status_done None = 8
