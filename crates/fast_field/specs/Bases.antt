-- What an entry gives a field, and the entry afterwards.
-- FAST 1.1, Field Operators, Dictionaries and Previous Values.
use Rattle.std.specs.Prelude.{if◌then◌else◌, Option, Some, None, Result, Ok, Err, unwrap_or}
use Rattle.fast_field.specs.Prelude.{is_of, Operator, Presence, Mandatory, Optional, FieldPart, Scalar, Entry, Undefined, Empty, Assigned}
use Rattle.fast_field.specs.declared.fault.FieldFault.{FieldFault}
use Rattle.fast_field.specs.Values.{default_of, increased}

-- ---- What is kept

-- where nothing else is kept: the initial value, or else 0, exponent 0 with mantissa 0, or what is empty
abbrev pub start_of : FieldPart → Scalar
start_of i = unwrap_or i.initial (default_of i.kind)

-- the previous value of the field's own type
abbrev pub kept_of : FieldPart → Scalar → Result Scalar FieldFault
kept_of i v = if is_of i.kind v then Ok v else Err FieldFault.D4

-- the value that a delta changes, or why there is none
abbrev pub delta_base : FieldPart → Entry → Result Scalar FieldFault
delta_base i Undefined = Ok (start_of i)
delta_base i Empty = Err FieldFault.D6
delta_base i (Assigned v) = kept_of i v

-- the value that a tail changes; that an empty entry gives one is own
abbrev pub tail_base : FieldPart → Entry → Result Scalar FieldFault
tail_base i Undefined = Ok (start_of i)
tail_base i Empty = Ok (start_of i)
tail_base i (Assigned v) = kept_of i v

-- what bit 0 of copy, increment and tail gives
abbrev pub absent_or : FieldFault → Presence → Result (Option Scalar) FieldFault
absent_or f Mandatory = Err f
absent_or f Optional = Ok None

abbrev pub initial_or : FieldFault → FieldPart → Option Scalar → Result (Option Scalar) FieldFault
initial_or f i None = absent_or f i.presence
initial_or f i (Some v) = Ok (Some v)

abbrev pub repeated : Operator → Scalar → Scalar
repeated Operator.Increment v = increased v
repeated o v = v

abbrev pub predicted : FieldPart → Entry → Result (Option Scalar) FieldFault
predicted i Undefined = initial_or FieldFault.D5 i i.initial
predicted i Empty = absent_or FieldFault.D6 i.presence
predicted i (Assigned v) =
    if is_of i.kind v then Ok (Some (repeated i.operator v)) else Err FieldFault.D4

-- ---- The entry afterwards: it follows from the value, and not from how that was spelled.

abbrev pub written_entry : Option Scalar → Entry
written_entry None = Empty
written_entry (Some v) = Assigned v

abbrev pub delta_entry : Entry → Option Scalar → Entry
delta_entry e None = e
delta_entry e (Some v) = Assigned v

abbrev pub next_of : Operator → Entry → Option Scalar → Entry
next_of Operator.Plain e v = e
next_of Operator.Constant e v = e
next_of Operator.Default e v = e
next_of Operator.Copy e v = written_entry v
next_of Operator.Increment e v = written_entry v
next_of Operator.Delta e v = delta_entry e v
next_of Operator.Tail e v = written_entry v

abbrev pub next : FieldPart → Entry → Option Scalar → Entry
next i e v = next_of i.operator e v
