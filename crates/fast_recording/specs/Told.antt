-- The lines that tell of refused packets (our own).
use Rattle.std.specs.Prelude.{ℕ, ◌+◌, List, [], ◌∷◌, ◌++◌, Option, Some, None, codes, decimal}
use Rattle.fast_stream.specs.CauseNames.{name_of}
use Rattle.fast_stream.specs.declared.fault.Fault.{Fault}
use Rattle.fast_stream.specs.declared.place.Place.{Place}
use Rattle.fast_packets.specs.Outcomes.{Outcome, refusal_in}
use Rattle.fast_recording.specs.declared.fault.PacketFault.{PacketFault}

-- the words of a place
abbrev pub place_words_of : Place → List ℕ
place_words_of place =
    codes " message=" ++ decimal place.message ++ codes " offset=" ++ decimal place.offset
    ++ codes " template=" ++ decimal place.template ++ codes " instruction=" ++ decimal place.instruction

-- the line of one: its cause, the packet, and the place, whose message is counted in the packet
abbrev pub refused_line_of : PacketFault → List ℕ
refused_line_of f = codes "refused " ++ name_of f.fault.cause ++ codes " packet=" ++ decimal f.packet ++ place_words_of f.fault.place ++ codes "\n"

abbrev pub line_for : ℕ → Option Fault → List ℕ
line_for number None = []
line_for number (Some fault) = refused_line_of (record { packet = number; fault = fault })

-- the lines of those that are refused, of packets that are counted from a number on
abbrev pub told_from : ℕ → List Outcome → List ℕ
told_from number [] = []
told_from number (o ∷ later) = line_for number (refusal_in o) ++ told_from (number + 1) later
