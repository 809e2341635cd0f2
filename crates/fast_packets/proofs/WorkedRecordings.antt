-- Worked recordings as the relations see them.
use Rattle.std.proofs.Common.{[], ◌∷◌, refl, lit<, lit≤, inl, inr}
use Rattle.fast_wire.specs.Integer.{IsUnsigned}
use Rattle.fast_wire.specs.declared.level.Level.TheVariants.{Usual}
use Rattle.fast_template.proofs.WorkedSet.{worked_set}
use Rattle.fast_stream.proofs.Framings.{in_mode}
use Rattle.fast_stream.proofs.Hex.{hex}
use Rattle.fast_stream.proofs.Rows.{left_out, one_message, quote}
use Rattle.fast_stream.proofs.WorkedStreams.{carried}
use Rattle.fast_stream.specs.Modes.{Carries, plainly}
use Rattle.fast_stream.specs.declared.fault.Cause.TheVariants.{D12, Limit}
use Rattle.fast_packets.specs.Recordings.{CarriesPackets, Packet}
use Rattle.fast_packets.specs.Outcomes.{FirstRefusal, size_place, sizeless}

size_8 : IsUnsigned (hex "88") 8
size_8 = record { entity = (lit≤ tt, lit< tt); short = lit≤ tt; value = refl }

size_11 : IsUnsigned (hex "8B") 11
size_11 = record { entity = (lit≤ tt, lit< tt); short = lit≤ tt; value = refl }

first_packet : Packet Usual (hex "88 F0 81 81 41 C2 FE 00 E4") (hex "F0 81 81 41 C2 FE 00 E4")
first_packet = record { size = hex "88"; parts = refl; size_is = size_8; some = lit< tt; few = lit≤ tt }

long_packet : Packet Usual (hex "8B F0 81 81 41 C2 FE 00 E4 80 80 81") (hex "F0 81 81 41 C2 FE 00 E4 80 80 81")
long_packet = record { size = hex "8B"; parts = refl; size_is = size_11; some = lit< tt; few = lit≤ tt }

one_quote : Carries (plainly Usual) worked_set (hex "F0 81 81 41 C2 FE 00 E4") (quote 1 100 ∷ [])
one_quote = in_mode Usual worked_set (hex "F0 81 81 41 C2 FE 00 E4") (quote 1 100 ∷ []) (carried (hex "F0 81 81 41 C2 FE 00 E4") (quote 1 100 ∷ []) refl one_message)

two_quotes : Carries (plainly Usual) worked_set (hex "F0 81 81 41 C2 FE 00 E4 80 80 81") (quote 1 100 ∷ quote 2 101 ∷ [])
two_quotes = in_mode Usual worked_set (hex "F0 81 81 41 C2 FE 00 E4 80 80 81") (quote 1 100 ∷ quote 2 101 ∷ []) (carried (hex "F0 81 81 41 C2 FE 00 E4 80 80 81") (quote 1 100 ∷ quote 2 101 ∷ []) refl left_out)

-- the second packet is read from undefined entries: its number is 1 again
two_packets : CarriesPackets Usual worked_set (hex "8B F0 81 81 41 C2 FE 00 E4 80 80 81 88 F0 81 81 41 C2 FE 00 E4") ((quote 1 100 ∷ quote 2 101 ∷ []) ∷ (quote 1 100 ∷ []) ∷ [])
two_packets = record {
  between = _;
  front = hex "8B F0 81 81 41 C2 FE 00 E4 80 80 81";
  back = hex "88 F0 81 81 41 C2 FE 00 E4";
  parts = refl;
  first = (long_packet, two_quotes);
  second = record { between = _; front = hex "88 F0 81 81 41 C2 FE 00 E4"; back = []; parts = refl; first = (first_packet, one_quote); second = refl };
}

-- a size of 0
no_bytes : FirstRefusal Usual worked_set (hex "80 81") 1 (record { cause = D12; place = record { message = 1; offset = 0; template = 0; instruction = 0 } })
no_bytes = record {
  packets = [];
  last = sizeless (size_place 0) D12;
  outcomes = (
    lit< tt,
    inl (inr (inr (refl, record { between = 0; front = hex "80"; back = hex "81"; parts = refl; first = record { entity = (lit≤ tt, lit< tt); short = lit≤ tt; value = refl }; second = refl }))),
    refl,
    refl,
  );
  refusal = refl;
  number_is = refl;
}

-- 65,536 bytes
too_many : FirstRefusal Usual worked_set (hex "04 00 80") 1 (record { cause = Limit; place = record { message = 1; offset = 0; template = 0; instruction = 0 } })
too_many = record {
  packets = [];
  last = sizeless (size_place 0) Limit;
  outcomes = (
    lit< tt,
    inr (refl, record { between = 65536; front = hex "04 00 80"; back = []; parts = refl; first = record { entity = (lit< tt, (lit< tt, (lit≤ tt, lit< tt))); short = lit≤ tt; value = refl }; second = lit< tt }),
    refl,
    refl,
  );
  refusal = refl;
  number_is = refl;
}
