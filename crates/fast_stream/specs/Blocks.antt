-- Messages in blocks. A block is a size and as many bytes, which are one or more whole messages; the dictionary goes on
-- from block to block.
-- FAST 1.1, Transfer Encoding, Blocks, and Error Handling, D12. Which check comes first, and the place of a size, are this
-- project's own.
use Rattle.std.specs.Prelude.{◌≡◌, ◌<◌, ℕ, zero, suc, ◌+◌, ◌-◌, Bool, true, nat_le, List, [], ◌++◌, length, take, drop, Result, Ok, Err, ◌⊎◌}
use Rattle.std.specs.FinMap as map
use Rattle.fast_stream.specs.Prelude.{WireFault, Level, Usual, Strict, IsUnsigned, AtLevel, judged, overlong_unsigned, ◌>>=◌, EntityFault, entity_at, unsigned_at, Resolved, Dictionary}
use Rattle.fast_stream.specs.declared.fault.Cause.{Cause}
use Rattle.fast_stream.specs.declared.fault.Cause.TheVariants.{D12, R6, Truncated, BlockEnd}
use Rattle.fast_stream.specs.Nodes.{Content}
use Rattle.fast_stream.specs.Bodies.{Then}
use Rattle.fast_stream.specs.Streams.{MessageForm}
use Rattle.fast_stream.specs.Faults.{cause_of_wire, MessageStop, StopsAt, MessageStops}
use Rattle.fast_stream.specs.Reading.{placed, in_template, message_at}

-- what one message leaves to the next: the dictionary, and how many bytes are left of the block, none between two blocks
pub record Stand : Type 0 where
  pub dictionary : Dictionary
  pub left : ℕ

-- outside of any block
abbrev pub outside : Dictionary → Stand
outside d = record { dictionary = d; left = 0 }

abbrev pub at_start : Stand
at_start = outside map.empty

-- ---- what is carried

-- a size: an unsigned integer, not overlong at the strict level
abbrev pub IsSize : Level → List ℕ → ℕ → Type 0
IsSize level bytes n = AtLevel level overlong_unsigned IsUnsigned bytes n

-- Before a message a size other than 0 stands where no byte is left of a block, and nothing where some are; room is how
-- many are left then.
abbrev pub Opens : Level → ℕ → List ℕ → ℕ → Type 0
Opens level zero size room = IsSize level size room × (0 < room)
Opens level (suc left) size room = (size ≡ []) × (room ≡ suc left)

-- a message form within what is left of its block
pub record InBlock (level : Level) (set : List Resolved) (s : Stand) (bytes : List ℕ) (m : Content) (after : Stand) : Type 0 where
  pub room : ℕ
  pub size : List ℕ
  pub form : List ℕ
  pub parts : bytes ≡ size ++ form
  pub opens : Opens level s.left size room
  pub message : MessageForm level set s.dictionary form m after.dictionary
  pub within : room ≡ length form + after.left

-- ---- faults

-- the entity that the bytes begin with is an overlong size
pub record BeginsLongSize (rest : List ℕ) : Type 0 where
  pub entity : List ℕ
  pub behind : List ℕ
  pub found : entity_at 10 rest ≡ Ok (entity, behind)
  pub is_long : overlong_unsigned entity ≡ true

abbrev pub OverlongSize : Level → List ℕ → Cause → Type 0
OverlongSize Usual rest cause = ⊥
OverlongSize Strict rest cause = (cause ≡ R6) × BeginsLongSize rest

-- a size: its entity is not whole or too long, or it is overlong at the strict level, or else it is 0
abbrev pub SizeFault : Level → List ℕ → Cause → Type 0
SizeFault level rest cause =
    ((f : WireFault) × EntityFault 10 rest 0 f × (cause ≡ cause_of_wire f))
    ⊎ OverlongSize level rest cause
    ⊎ ((cause ≡ D12) × Then (λ size (n : ℕ). IsSize level size n) (λ n back. n ≡ 0) rest)

-- where a piece wants more bytes than its block has, all of which have come, that is the cause
abbrev pub block_cause : Bool → Cause → Cause
block_cause true Truncated = BlockEnd
block_cause all_came c = c

-- a stop in the first bytes of these, as many as room says, seen in all of them
abbrev pub seen_from : ℕ → List ℕ → MessageStop → MessageStop
seen_from room bytes m = record {
  template = m.template;
  stop = record { cause = block_cause (nat_le room (length bytes)) m.stop.cause; instruction = m.stop.instruction; left = m.stop.left + (length bytes - room) };
}

-- A size stops; or behind it a message's piece, judged on what has come of the bytes that are left of the block.
pub data BlockStops (level : Level) (set : List Resolved) (s : Stand) (rest : List ℕ) (m : MessageStop) : Type 0 where
  in_size : s.left ≡ 0 → m.template ≡ 0 → StopsAt 0 (SizeFault level rest) rest m.stop → BlockStops level set s rest m
  in_message : (room : ℕ) (size back : List ℕ) (inner : MessageStop) → rest ≡ size ++ back → Opens level s.left size room
      → MessageStops level set s.dictionary (take room back) inner → m ≡ seen_from room back inner → BlockStops level set s rest m

-- ---- the same as a function

-- a size is not zero
abbrev pub sized : Result (ℕ × List ℕ) WireFault → Result (ℕ × List ℕ) Cause
sized (Err f) = Err (cause_of_wire f)
sized (Ok (zero, back)) = Err D12
sized (Ok (suc n, back)) = Ok (suc n, back)

-- the size of the block that the bytes begin with
abbrev pub size_at : Level → List ℕ → Result (ℕ × List ℕ) Cause
size_at level bytes = judged level 10 overlong_unsigned cause_of_wire R6 (λ b. sized (unsigned_at b)) bytes

-- how many bytes are left of the block that the next message stands in, and the bytes from there on
abbrev pub opened_at : Level → ℕ → List ℕ → Result (ℕ × List ℕ) MessageStop
opened_at level zero bytes = in_template 0 (placed (λ (c : Cause). c) 0 bytes (size_at level bytes))
opened_at level (suc left) bytes = Ok (suc left, bytes)

-- what the reading of a message in the first bytes of these, as many as room says, is in all of them
abbrev pub framed : ℕ → List ℕ → Result (Content × Dictionary × List ℕ) MessageStop → Result (Content × Stand × List ℕ) MessageStop
framed room bytes (Ok r) =
    Ok (r.0, record { dictionary = r.1; left = room - (length (take room bytes) - length r.2) }, r.2 ++ drop room bytes)
framed room bytes (Err m) = Err (seen_from room bytes m)

unfoldable pub in_block_at : Level → List Resolved → Stand → List ℕ → Result (Content × Stand × List ℕ) MessageStop
in_block_at level set s bytes = opened_at level s.left bytes >>= λ o. framed o.0 o.1 (message_at level set s.dictionary (take o.0 o.1))
