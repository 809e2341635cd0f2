-- What C is answered. The statuses and the numbers of causes are this project's own.
use Rattle.std.specs.Prelude.{ℕ, ◌-◌, Result, Ok, Err}
use Rattle.fast_stream.specs.declared.fault.Cause.{Cause}
use Rattle.fast_spelled.specs.declared.fault.LineCause.{LineCause}
use Rattle.fast_nodes.specs.declared.fault.EncodeCause.{EncodeCause}
use Rattle.fast_written.specs.declared.fault.LoadCause.{LoadCause}
use Rattle.fast_stream.specs.declared.fault.Fault.{Fault}
use Rattle.fast_slices.specs.declared.answer.Answer.{Answer}
use Rattle.fast_slices.specs.declared.answer.Counts.{Counts}
use Rattle.fast_slices.specs.declared.answer.Refusal.{Refusal}

-- the number of a cause of a refused stream, from 1
abbrev pub cause_number_of : Cause → ℕ
cause_number_of Cause.D2 = 1
cause_number_of Cause.D4 = 2
cause_number_of Cause.D5 = 3
cause_number_of Cause.D6 = 4
cause_number_of Cause.D7 = 5
cause_number_of Cause.D9 = 6
cause_number_of Cause.D12 = 7
cause_number_of Cause.R1 = 8
cause_number_of Cause.R2 = 9
cause_number_of Cause.R6 = 10
cause_number_of Cause.R7 = 11
cause_number_of Cause.R8 = 12
cause_number_of Cause.R9 = 13
cause_number_of Cause.BlockEnd = 14
cause_number_of Cause.Truncated = 15
cause_number_of Cause.Limit = 16
cause_number_of Cause.Read = 0
cause_number_of Cause.Turns = 0
cause_number_of Cause.Memory = 0

-- the number of a cause of refused templates, from 101
abbrev pub load_cause_number_of : LoadCause → ℕ
load_cause_number_of LoadCause.S1 = 101
load_cause_number_of LoadCause.S2 = 102
load_cause_number_of LoadCause.S3 = 103
load_cause_number_of LoadCause.S4 = 104
load_cause_number_of LoadCause.S5 = 105
load_cause_number_of LoadCause.D8 = 106
load_cause_number_of LoadCause.DuplicateName = 107
load_cause_number_of LoadCause.DuplicateId = 108
load_cause_number_of LoadCause.Cycle = 109
load_cause_number_of LoadCause.TooDeep = 110
load_cause_number_of LoadCause.TooMany = 111
load_cause_number_of LoadCause.Memory = 0

-- The number of a cause for which a line stands for no message: that of a stream's cause of this name, or one from 201.
abbrev pub line_cause_number_of : LineCause → ℕ
line_cause_number_of LineCause.D2 = 1
line_cause_number_of LineCause.D9 = 6
line_cause_number_of LineCause.R1 = 8
line_cause_number_of LineCause.Limit = 16
line_cause_number_of LineCause.Json = 201
line_cause_number_of LineCause.Line = 202
line_cause_number_of LineCause.Member = 203
line_cause_number_of LineCause.Mismatch = 204
line_cause_number_of LineCause.Memory = 0

-- and of one for which its message has no form
abbrev pub message_cause_number_of : EncodeCause → ℕ
message_cause_number_of EncodeCause.D4 = 2
message_cause_number_of EncodeCause.D6 = 4
message_cause_number_of EncodeCause.D9 = 6
message_cause_number_of EncodeCause.R1 = 8
message_cause_number_of EncodeCause.Limit = 16
message_cause_number_of EncodeCause.Mismatch = 204
message_cause_number_of EncodeCause.D3 = 205
message_cause_number_of EncodeCause.NotConstant = 206
message_cause_number_of EncodeCause.TooShort = 207
message_cause_number_of EncodeCause.Memory = 0
message_cause_number_of EncodeCause.Write = 0

-- nothing was counted
abbrev pub no_counts : Counts
no_counts = record { packets = 0; messages = 0; read = 0; written = 0 }

-- an answer that tells of its status alone
abbrev pub bare_of : ℕ → Answer
bare_of status = record { messages = 0; read = 0; written = 0; message = 0; offset = 0; status = status; cause = 0; template = 0; instruction = 0; packets = 0; packet = 0 }

-- what is answered of a fault of a stream, or of a packet's
abbrev pub of_fault : Fault → ℕ → Answer
of_fault f written = record (bare_of 1) {
  messages = f.place.message - 1;
  written = written;
  message = f.place.message;
  offset = f.place.offset;
  cause = cause_number_of f.cause;
  template = f.place.template;
  instruction = f.place.instruction;
}

-- what is answered of a line that is refused
abbrev pub of_line : ℕ → ℕ → ℕ → ℕ → ℕ → Answer
of_line line cause template instruction written = record (bare_of 7) { written = written; message = line; cause = cause; template = template; instruction = instruction }

-- what C is answered: 0 done, 1 the stream or a packet is refused, 2 the templates are, 3 the room is too short for so many bytes, 4
-- memory was refused, 5 the mode is unknown, 6 the stream is too long, 7 a line is refused, or a message that comes as nodes, 8 the
-- handle has nothing, or something else, 9 the nodes are those of no message, 10 a message is too large
abbrev pub answer_of : Result Counts Refusal → Answer
answer_of (Ok s) = record (bare_of 0) { messages = s.messages; read = s.read; written = s.written; packets = s.packets }
answer_of (Err (Refusal.Stream f written)) = of_fault f written
answer_of (Err (Refusal.Packet f written)) = record (of_fault f.fault written) { packets = f.packet - 1; packet = f.packet }
answer_of (Err (Refusal.Line number f written)) = of_line number (line_cause_number_of f.cause) f.template f.instruction written
answer_of (Err (Refusal.Message number template f written)) = of_line number (message_cause_number_of f.cause) template f.instruction written
answer_of (Err (Refusal.Templates f)) = record (bare_of 2) { cause = load_cause_number_of f.cause; template = f.template; instruction = f.instruction }
answer_of (Err (Refusal.Room needed)) = record (bare_of 3) { written = needed }
answer_of (Err Refusal.Memory) = bare_of 4
answer_of (Err Refusal.Mode) = bare_of 5
answer_of (Err Refusal.TooLong) = bare_of 6
answer_of (Err Refusal.Handle) = bare_of 8
answer_of (Err (Refusal.NoMessage message)) = record (bare_of 9) { message = message }
answer_of (Err (Refusal.TooLarge message)) = record (bare_of 10) { message = message }
