-- What calls with the writer behind a handle did, and what C is answered of them.
use Rattle.std.specs.Prelude.{◌≡◌, ◌≤◌, ◌↔◌, ◌+◌, nat_lt, if◌then◌else◌, ◌++◌, [], ◌∷◌, ℕ, List, Option, Some, None, Ok, Err, IfSome, IfNone, IsSome, length, take, drop}
use Rattle.fast_template.specs.TemplateSets.{TemplateList, templates_in}
use Rattle.fast_dictionary.specs.declared.slots.SlotEntries.{SlotEntries}
use Rattle.fast_dictionary.specs.contracts.slots.SlotEntriesEntries.TheImpl.{ghosts}
use Rattle.fast_stream.specs.Nodes.{Content}
use Rattle.fast_nodes.specs.FirstRefusal.{first_refusal}
use Rattle.fast_nodes.specs.declared.fault.EncodeCause.{EncodeCause}
use Rattle.fast_nodes.specs.declared.fault.EncodeFault.{EncodeFault}
use Rattle.fast_tape.specs.declared.node.TapeNode.{TapeNode}
use Rattle.fast_untape.specs.Reading.{BeginWith, IsNotPut}
use Rattle.fast_untape.specs.Writing.{HasWritten}
use Rattle.fast_untape.specs.declared.fault.PutFault.{PutFault}
use Rattle.fast_untape.specs.declared.writer.Put.{Put}
use Rattle.fast_untape.specs.declared.writer.TapeWriter.{TapeWriter}
use Rattle.fast_kept.specs.declared.kept.Kept.{Kept}
use Rattle.fast_kept.specs.declared.lent.Lent.{Lent}
use Rattle.fast_slices.specs.Answers.{no_counts}
use Rattle.fast_slices.specs.Calls.{Done}
use Rattle.fast_slices.specs.declared.answer.Refusal.{Refusal}
use Rattle.fast_c.specs.declared.counts.NodeCounts.{NodeCounts}

abbrev pub WriterOf : Type 0
WriterOf = TapeWriter SlotEntries ghosts

-- This was done with a writer; or there is none, and all stays as it was.
abbrev pub LentWriter : {A : Type 0} → (WriterOf → WriterOf → A → Type 0) → Type 0 → Option Lent → Option Lent → Option A → Type 0
LentWriter Does Stays (Some (Lent.Writer w)) new (Some done) = (later : WriterOf) × (new ≡ Some (Lent.Writer later)) × Does w later done
LentWriter Does Stays (Some (Lent.Writer w)) new None = ⊥
LentWriter Does Stays old new (Some done) = ⊥
LentWriter Does Stays old new None = (new ≡ old) × Stays

-- This was done with the writer of a handle; or it has none, and all stays as it was.
abbrev pub HeldWriter : {A : Type 0} → (WriterOf → WriterOf → A → Type 0) → Type 0 → Option Kept → Option Kept → Option A → Type 0
HeldWriter Does Stays (Some (Kept.Lent lent)) new done = (later : Option Lent) × (new ≡ Some (Kept.Lent later)) × LentWriter Does Stays lent later done
HeldWriter Does Stays old new (Some done) = ⊥
HeldWriter Does Stays old new None = (new ≡ old) × Stays

-- these messages were written, of which these bytes were taken
abbrev pub Wrote : WriterOf → List Content → List ℕ → Type 0
Wrote w messages taken = HasWritten (templates_in w.set.now) messages taken w.waiting.items (ghosts.contents w.encoder.journal.entries)

-- ---- the calls

-- A writer of a set is behind the handle, at the beginning of a stream; or it stays as it was.
abbrev pub KeepsWriter : Option Kept → Option Kept → TemplateList → Done → Type 0
KeepsWriter old new set (Ok counts) = (counts ≡ no_counts) × ((w : WriterOf) × (new ≡ Some (Kept.Lent (Some (Lent.Writer w)))) × (w.set.now ≡ set) × Wrote w [] [])
KeepsWriter old new set (Err Refusal.Memory) = new ≡ old
KeepsWriter old new set (Err r) = ⊥

-- The messages that nodes are were put, one after the other, until one was refused.
pub record PutsAll (nodes : List TapeNode) (bytes : List ℕ) (old new : WriterOf) (done : Put) : Type 0 where
  pub more : List Content
  pub begins : BeginWith bytes nodes done.nodes more
  pub count : done.messages ≡ length more
  pub written : (messages : List Content) (taken : List ℕ) → Wrote old messages taken → Wrote new (messages ++ more) taken
  pub all : done.fault ≡ None → done.nodes ≡ length nodes
  pub refused : IfSome done.fault (IsNotPut (first_refusal (templates_in old.set.now) (ghosts.contents new.encoder.journal.entries)) bytes (drop done.nodes nodes))
  pub set : new.set ≡ old.set

-- The bytes that wait were put into the room, or it is too short.
pub record TakesBytes (room room' : List ℕ) (old new : WriterOf) (done : Option ℕ) : Type 0 where
  pub fits : IsSome done ↔ (length old.waiting.items ≤ length room)
  pub count : IfSome done (λ count. count ≡ length old.waiting.items)
  pub bytes : IfSome done (λ count. room' ≡ old.waiting.items ++ drop count room)
  pub taken : IfSome done (λ count. (messages : List Content) (taken : List ℕ) → Wrote old messages taken → Wrote new messages (taken ++ take count room'))
  pub short : IfNone done ((room' ≡ room) × (new ≡ old))
  pub set : new.set ≡ old.set

-- A new stream was begun.
pub record BeginsAnew (old new : WriterOf) (done : Unit {0}) : Type 0 where
  pub set : new.set ≡ old.set
  pub waiting : new.waiting.items ≡ []
  pub written : Wrote new [] []

-- ---- what C is answered

-- the identifier that a message has which begins there; 0 where none does
abbrev pub identifier_at : List TapeNode → ℕ
identifier_at [] = 0
identifier_at (n ∷ ns) = n.instruction

-- why a message has no form, by its number and its template's identifier; want of memory is no refusal of it
abbrev pub message_told : EncodeCause → ℕ → ℕ → EncodeFault → Refusal
message_told EncodeCause.Memory number template f = Refusal.Memory
message_told cause number template f = Refusal.Message number template f 0

abbrev pub put_refused : ℕ → ℕ → PutFault → Refusal
put_refused number template PutFault.NoMessage = Refusal.NoMessage number
put_refused number template (PutFault.Refused f) = message_told f.cause number template f

-- the number of the message behind so many, as far as a number goes
abbrev pub next_number : ℕ → ℕ
next_number n = if nat_lt n 18446744073709551615 then n + 1 else 18446744073709551615

abbrev pub put_answer : List TapeNode → Put → Option PutFault → Done
put_answer nodes put None = Ok (record { packets = 0; messages = put.messages; read = 0; written = 0 })
put_answer nodes put (Some f) = Err (put_refused (next_number put.messages) (identifier_at (drop put.nodes nodes)) f)

abbrev pub put_told : List TapeNode → Option Put → Done
put_told nodes (Some put) = put_answer nodes put put.fault
put_told nodes None = Err Refusal.Handle

-- how many bytes wait in a writer; 0 where there is none
abbrev pub bytes_lent : Option Lent → ℕ
bytes_lent (Some (Lent.Writer w)) = length w.waiting.items
bytes_lent lent = 0

-- how many bytes wait in the writer of a handle
abbrev pub bytes_in : Option Kept → ℕ
bytes_in (Some (Kept.Lent lent)) = bytes_lent lent
bytes_in kept = 0

abbrev pub counts_by : ℕ → ℕ → ℕ → NodeCounts
counts_by used messages bytes = record { used = used; messages = messages; nodes = 0; bytes = bytes }

-- what was put: how many nodes were used, the messages that were written of them, and the bytes that wait
abbrev pub put_counts : Option Put → Option Kept → NodeCounts
put_counts (Some put) kept = counts_by put.nodes put.messages (bytes_in kept)
put_counts None kept = counts_by 0 0 0

-- the bytes that were taken, or that wait where the room is too short
abbrev pub bytes_told : Option (Option ℕ) → Option Kept → NodeCounts
bytes_told (Some (Some count)) kept = counts_by 0 0 count
bytes_told (Some None) kept = counts_by 0 0 (bytes_in kept)
bytes_told None kept = counts_by 0 0 0

abbrev pub status_bytes : Option (Option ℕ) → ℕ
status_bytes (Some (Some count)) = 0
status_bytes (Some None) = 3
status_bytes None = 8
