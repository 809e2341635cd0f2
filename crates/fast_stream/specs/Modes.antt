-- What a stream carries in each mode, and its first fault.
-- FAST 1.1, Transfer Encoding, Streams, Blocks and Messages, and Error Handling. The places are this project's own.
use Rattle.std.specs.Prelude.{◌≡◌, ◌<◌, ℕ, zero, suc, Bool, false, nat_eq, if◌then◌else◌, List, [], ◌∷◌, ◌++◌, length, Option, Some, None, option_map, Result, Ok, Err, ◌⊎◌}
use Rattle.std.specs.List.{AllByRecursion, flat_map}
use Rattle.fast_stream.specs.Prelude.{Level, Resolved, Dictionary}
use Rattle.fast_stream.specs.declared.fault.Cause.{Cause}
use Rattle.fast_stream.specs.declared.fault.Fault.{Fault}
use Rattle.fast_stream.specs.declared.mode.Framing.{Framing}
use Rattle.fast_stream.specs.declared.mode.Framing.TheVariants.{Plain, Blocks}
use Rattle.fast_stream.specs.declared.mode.Mode.{Mode}
use Rattle.fast_stream.specs.declared.place.Place.{Place}
use Rattle.fast_stream.specs.Nodes.{Content}
use Rattle.fast_stream.specs.Bodies.{Then}
use Rattle.fast_stream.specs.Streams.{MessageForm}
use Rattle.fast_stream.specs.Faults.{MessageStop, MessageStops, place_of, place_between}
use Rattle.fast_stream.specs.Reading.{message_at}
use Rattle.fast_stream.specs.Blocks.{Stand, outside, at_start, IsSize, InBlock, BlockStops, in_block_at}

-- the two modes of a level
abbrev pub plainly : Level → Mode
plainly level = record { level = level; framing = Plain }

abbrev pub in_blocks : Level → Mode
in_blocks level = record { level = level; framing = Blocks }

-- ---- what is carried

-- In plain framing the next message is a message form alone.
abbrev pub FormIn : Framing → Level → List Resolved → Stand → List ℕ → Content → Stand → Type 0
FormIn Plain level set s bytes m after = MessageForm level set s.dictionary bytes m after.dictionary × (after.left ≡ 0)
FormIn Blocks level set s bytes m after = InBlock level set s bytes m after

-- the next message's form in a stream of the mode
abbrev pub NextForm : Mode → List Resolved → Stand → List ℕ → Content → Stand → Type 0
NextForm mode = FormIn mode.framing mode.level

-- One message form for each message, each from where the one before left; the last block may be cut behind any of its
-- messages.
abbrev pub CarriesFrom : Mode → List Resolved → Stand → List ℕ → List Content → Stand → Type 0
CarriesFrom mode set s bytes [] after = (bytes ≡ []) × (after ≡ s)
CarriesFrom mode set s bytes (m ∷ ms) after = Then (λ x t. NextForm mode set s x m t) (λ t y. CarriesFrom mode set t y ms after) bytes

-- The stream carries these messages, from the dictionary in which every entry is undefined; its last block is whole.
abbrev pub Carries : Mode → List Resolved → List ℕ → List Content → Type 0
Carries mode set stream messages = (after : Dictionary) × CarriesFrom mode set at_start stream messages (outside after)

-- The stream is blocks, each a size and as many bytes, at least one; without the sizes it is the other one.
pub record IsWithoutSizes (level : Level) (stream plain : List ℕ) : Type 0 where
  pub blocks : List (List ℕ × List ℕ)
  pub sizes : AllByRecursion (λ b. IsSize level b.0 (length b.1) × (0 < length b.1)) blocks
  pub stream_is : stream ≡ flat_map (λ b. b.0 ++ b.1) blocks
  pub plain_is : plain ≡ flat_map (λ b. b.1) blocks

-- ---- the first fault

abbrev pub StopsIn : Framing → Level → List Resolved → Stand → List ℕ → MessageStop → Type 0
StopsIn Plain level set s rest stop = MessageStops level set s.dictionary rest stop
StopsIn Blocks level set s rest stop = BlockStops level set s rest stop

abbrev pub NextStops : Mode → List Resolved → Stand → List ℕ → MessageStop → Type 0
NextStops mode = StopsIn mode.framing mode.level

-- The stream goes on: bytes come, or are wanted, as some are left of a block. An empty rest is no fault at the start, and
-- none behind a message unless its block is not at its end.
abbrev pub GoesOn : Stand → List ℕ → Type 0
GoesOn s rest = (0 < length rest) ⊎ (0 < s.left)

-- The stream is message forms of the messages before the place's, each within its block, and then the pieces of the next
-- one before the place's piece, which has the fault. A block's size is a piece.
pub record FirstFault (mode : Mode) (set : List Resolved) (stream : List ℕ) (place : Place) (cause : Cause) : Type 0 where
  pub messages : List Content
  pub stand : Stand
  pub front : List ℕ
  pub rest : List ℕ
  pub stop : MessageStop
  pub parts : stream ≡ front ++ rest
  pub carried : CarriesFrom mode set at_start front messages stand
  pub goes_on : GoesOn stand rest
  pub stops : NextStops mode set stand rest stop
  pub cause_is : cause ≡ stop.stop.cause
  pub place_is : place ≡ place_of (length stream) (length messages) stop

-- A stream that ends behind a message, and its block with it, with its end as the place: where a read fails or the reads
-- are used up there.
pub record EndsBetween (mode : Mode) (set : List Resolved) (stream : List ℕ) (place : Place) : Type 0 where
  pub messages : List Content
  pub carried : Carries mode set stream messages
  pub place_is : place ≡ place_between (length stream) (length messages)

-- ---- the same as a function

-- a message that stands in no block
abbrev pub bare : Result (Content × Dictionary × List ℕ) MessageStop → Result (Content × Stand × List ℕ) MessageStop
bare (Err m) = Err m
bare (Ok r) = Ok (r.0, outside r.1, r.2)

abbrev pub read_in : Framing → Level → List Resolved → Stand → List ℕ → Result (Content × Stand × List ℕ) MessageStop
read_in Plain level set s bytes = bare (message_at level set s.dictionary bytes)
read_in Blocks level set s bytes = in_block_at level set s bytes

-- the next message, where it leaves the stream, and the bytes behind it
abbrev pub next_at : Mode → List Resolved → Stand → List ℕ → Result (Content × Stand × List ℕ) MessageStop
next_at mode = read_in mode.framing mode.level

-- the messages of a stream, and why there are no more, where it does not end behind the last one
pub record StreamReading : Type 0 where
  pub messages : List Content
  pub fault : Option MessageStop

abbrev pub and_then : Result (Content × Stand × List ℕ) MessageStop → (Stand → List ℕ → StreamReading) → StreamReading
and_then (Err m) later = record { messages = []; fault = Some m }
and_then (Ok x) later = let r = later x.1 x.2 in record { messages = x.0 ∷ r.messages; fault = r.fault }

-- whether the stream may end here
abbrev pub may_end : Stand → List ℕ → Bool
may_end s [] = nat_eq s.left 0
may_end s (b ∷ bytes) = false

-- at most so many messages
abbrev pub messages_at : Mode → ℕ → List Resolved → Stand → List ℕ → StreamReading
messages_at mode zero set s bytes = record { messages = []; fault = None }
messages_at mode (suc n) set s bytes =
    if may_end s bytes then record { messages = []; fault = None }
    else and_then (next_at mode set s bytes) (λ t rest. messages_at mode n set t rest)

-- Each message has a byte at least, and one look more finds the end.
abbrev pub stream_at : Mode → List Resolved → List ℕ → StreamReading
stream_at mode set stream = messages_at mode (suc (length stream)) set at_start stream

-- the fault as it is answered
abbrev pub fault_in : List ℕ → StreamReading → Option Fault
fault_in stream r = option_map (λ m. record { cause = m.stop.cause; place = place_of (length stream) (length r.messages) m }) r.fault
