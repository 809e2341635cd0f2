-- Streams of the worked templates as the relations see them. Two are shown part by part; the others stand on what reading
-- computes of them, by the laws that join reading and the relations.
use Rattle.fast_stream.proofs.Common.{◌+◌, ◌≡◌, ℕ, List, [], ◌∷◌, Option, Some, None, pos, refl, ap, lit<, lit≤, inl, ◌∙◌, ◌&&◌, Bool, true, false, true≢false, sym, length, arith, codes, nat_lt, option_map, replicate, list_all, Usual, IsBytes, key_cmp, Key, Global, UInt32, Mandatory, Operator, Whole, Scalar, U32, FieldPart, entry_from, groups, IsUnsigned, bits_of, FieldFault, uncut, predicted_at, row_at, field_at, Cause, D2, D4, D5, D9, D12, BlockEnd, R1, Truncated, Limit, Fault, single, items_of, Content, State, after_part, identifier, Carries, in_identifier, MessageStop, place_of, Place, at_start, plainly, in_blocks, FirstFault, EndsBetween, StreamReading, stream_at, fault_in, IsNextReader, worked_set, worked_set_is_sound}
use Rattle.std.specs.FinMap as finite
use Rattle.fast_value.specs.declared.kind.Operator.TheVariants.{Plain, Copy}
use Rattle.fast_stream.proofs.Hex.{hex}
use Rattle.fast_stream.specs.Modes.{IsWithoutSizes}
use Rattle.fast_stream.proofs.Framings.{in_mode, from_mode, one_plain}
use Rattle.fast_stream.proofs.MessageReaders.{message_reader}
use Rattle.fast_stream.proofs.ModeReaders.{next_reader}
use Rattle.fast_stream.proofs.ModeStreams.{read_is_carried, answered_is_fault}
use Rattle.fast_stream.proofs.Rows.{u32, decimal, text, absent, group, sequence, message, quote, read, groups_there, lengths, maps_of_elements, mantissa_takes_a_bit, left_out, overlong_integer, overlong_map, unasked_bit, map_too_long, unknown_identifier, identifier_too_large, no_map_of_group, no_value_in_group, no_map_of_second_element, mantissa_too_large, another_type, read_blocks, empty_second_block, block_too_short, unended_block}

abbrev uint32 : ℕ → ℕ → List ℕ → Operator → FieldPart
uint32 number slot name operator = record { number = number; part = Whole; kind = UInt32; presence = Mandatory; operator = operator; initial = None; key = record { slot = slot; scope = Global; name = name; part = Whole } }

abbrev first_a : FieldPart
first_a = uint32 1 5 (codes "A") Plain

abbrev first_b : FieldPart
first_b = uint32 2 6 (codes "B") Copy

-- what there is before each part of E0 90 85 86
abbrev at_identifier : State
at_identifier = record { dictionary = finite.empty; bits = bits_of (groups (hex "E0")) }

abbrev at_a : State
at_a = after_part identifier at_identifier (Some (U32 16))

abbrev at_b : State
at_b = after_part first_a at_a (Some (U32 5))

abbrev at_end : State
at_end = after_part first_b at_b (Some (U32 6))

abbrev five_and_six : Content
five_and_six = record { template = 16; items = items_of (single (Some (U32 5)) ∷ single (Some (U32 6)) ∷ []) }

of_16 : IsUnsigned (hex "90") 16
of_16 = record { entity = (lit≤ tt, lit< tt); short = lit≤ tt; value = refl }

of_5 : IsUnsigned (hex "85") 5
of_5 = record { entity = (lit≤ tt, lit< tt); short = lit≤ tt; value = refl }

of_6 : IsUnsigned (hex "86") 6
of_6 = record { entity = (lit≤ tt, lit< tt); short = lit≤ tt; value = refl }

-- E0 90 85 86: First A=5 B=6
carries_first : Carries Usual worked_set (hex "E0 90 85 86") (five_and_six ∷ [])
carries_first = (
  at_end.dictionary,
  record {
    between = at_end.dictionary;
    front = hex "E0 90 85 86";
    back = [];
    parts = refl;
    first = record {
      few = lit≤ tt;
      segment = record {
        bits = at_identifier.bits;
        left = at_end.bits;
        map = hex "E0";
        body = hex "90 85 86";
        parts = refl;
        map_form = record { entity = (lit≤ tt, lit< tt); short = lit≤ tt; value = refl };
        inside = record {
          between = at_a;
          front = hex "90";
          back = hex "85 86";
          parts = refl;
          first = ((uncut, record { row = (refl, record { number = pos 16; form = of_16; range = refl; value = refl }); within = refl }), refl);
          second = record {
            between = at_b;
            front = hex "85";
            back = hex "86";
            parts = refl;
            first = ((uncut, record { row = (refl, record { number = pos 5; form = of_5; range = refl; value = refl }); within = refl }), refl);
            second = record {
              between = at_end;
              front = hex "86";
              back = [];
              parts = refl;
              first = ((uncut, record { row = (refl, record { number = pos 6; form = of_6; range = refl; value = refl }); within = refl }), refl);
              second = (refl, refl);
            };
          };
        };
      };
    };
    second = (refl, refl);
  },
)

absent_there : (q : Key) → entry_from (finite.get (finite.empty {X = Option Scalar} {R = key_cmp}) q) ≡ entry_from None
absent_there q = ap entry_from (finite.get-empty key_cmp q)

-- 80: no identifier predicted, at offset 1
no_identifier : FirstFault (plainly Usual) worked_set (hex "80") (record { message = 1; offset = 1; template = 0; instruction = 0 }) D5
unfolding field_at row_at predicted_at
no_identifier = record {
  messages = [];
  stand = at_start;
  front = [];
  rest = hex "80";
  stop = record { template = 0; stop = record { cause = D5; instruction = 0; left = 0 } };
  parts = refl;
  carried = (refl, refl);
  goes_on = inl (lit< tt);
  stops = in_identifier refl (record {
    between = bits_of (groups (hex "80"));
    front = hex "80";
    back = [];
    parts = refl;
    first = record { entity = (lit≤ tt, lit< tt); short = lit≤ tt; value = refl };
    second = record { instruction_is = refl; left_is = refl; fault = inl (FieldFault.D5, rw (absent_there identifier.key) refl, refl) };
  });
  cause_is = refl;
  place_is = refl;
}

both_left : (a b : Bool) → (a && b) ≡ true → a ≡ true
both_left true b e = refl
both_left false b e = e

both_right : (a b : Bool) → (a && b) ≡ true → b ≡ true
both_right true b e = e
both_right false b e = absurd (true≢false (sym e))

abbrev shown : List Content → Option Fault → List Content × Option Fault
shown messages fault = (messages, fault)

abbrev none_answered : Option Fault
none_answered = None

abbrev reading : List Content → Option MessageStop → StreamReading
reading messages fault = record { messages = messages; fault = fault }

-- ---- from what is read to what the relations say

all_bytes : (bytes : List ℕ) → list_all (λ b. nat_lt b 256) bytes ≡ true → IsBytes bytes
all_bytes [] h = tt
all_bytes (b ∷ bs) h = (let test = both_left (nat_lt b 256) (list_all (λ c. nat_lt c 256) bs) h in grind (arith, test), all_bytes bs (both_right (nat_lt b 256) (list_all (λ c. nat_lt c 256) bs) h))

reader : IsNextReader (plainly Usual) worked_set
reader = next_reader (plainly Usual) worked_set (message_reader Usual worked_set worked_set_is_sound.typed)

carried_of : (stream : List ℕ) (messages : List Content) (r : StreamReading) → IsBytes stream → stream_at (plainly Usual) worked_set stream ≡ r → shown r.messages (fault_in stream r) ≡ shown messages None → Carries Usual worked_set stream messages
carried_of stream messages r fits is e = go r.fault refl (ap (λ p. p.1) e)
  where
    go : (o : Option MessageStop) → r.fault ≡ o → option_map (λ s. record { cause = s.stop.cause; place = place_of (length stream) (length r.messages) s }) o ≡ none_answered → Carries Usual worked_set stream messages
    go None h none =
        from_mode Usual worked_set stream messages (read_is_carried (plainly Usual) worked_set reader stream messages fits
        (is ∙ ap (λ (o : Option MessageStop). reading r.messages o) h ∙ ap (λ (ms : List Content). reading ms None) (ap (λ p. p.0) e)))
    go (Some m) h none = absurd cc

-- the stream carries the messages
pub carried : (stream : List ℕ) (messages : List Content) → list_all (λ b. nat_lt b 256) stream ≡ true → read stream ≡ (messages, None) → Carries Usual worked_set stream messages
carried stream messages fits e = carried_of stream messages (stream_at (plainly Usual) worked_set stream) (all_bytes stream fits) refl e

-- the stream is refused so
refusal : (stream : List ℕ) (messages : List Content) (fault : Fault) → list_all (λ b. nat_lt b 256) stream ≡ true → read stream ≡ (messages, Some fault) → FirstFault (plainly Usual) worked_set stream fault.place fault.cause
refusal stream messages fault fits e = answered_is_fault (plainly Usual) worked_set reader stream fault (all_bytes stream fits) (ap (λ p. p.1) e)

abbrev Refused : List ℕ → Cause → ℕ → ℕ → ℕ → ℕ → Type 0
Refused stream cause message offset template instruction =
    FirstFault (plainly Usual) worked_set stream (record { message = message; offset = offset; template = template; instruction = instruction }) cause

-- a group there, left out, and there again
groups_carried : Carries Usual worked_set (hex "F0 8B C0 85 86 80 A0 80") (message 11 (group (u32 5 ∷ []) ∷ u32 6 ∷ []) ∷ message 11 (absent ∷ u32 6 ∷ []) ∷ message 11 (group (u32 5 ∷ []) ∷ u32 6 ∷ []) ∷ [])
groups_carried = carried _ _ refl groups_there

-- a sequence absent, empty and of two elements
lengths_carried : Carries Usual worked_set (hex "C0 84 80 80 81 80 83 85 86") (message 4 (absent ∷ []) ∷ message 4 (sequence [] ∷ []) ∷ message 4 (sequence ((u32 5 ∷ []) ∷ (u32 6 ∷ []) ∷ []) ∷ []) ∷ [])
lengths_carried = carried _ _ refl lengths

-- each element with a map of its own
elements_carried : Carries Usual worked_set (hex "C0 85 82 C0 85 80") (message 5 (sequence ((u32 5 ∷ []) ∷ (u32 5 ∷ []) ∷ []) ∷ []) ∷ [])
elements_carried = carried _ _ refl maps_of_elements

-- a decimal in parts without its mantissa and with it
parts_carried : Carries Usual worked_set (hex "F0 83 80 85 90 39 45 A3") (message 3 (absent ∷ u32 5 ∷ []) ∷ message 3 (decimal (pos 2) (pos 942755) ∷ u32 5 ∷ []) ∷ [])
parts_carried = carried _ _ refl mantissa_takes_a_bit

-- messages spelled out and left out, overlong forms, and a bit that no instruction asks for
quotes_carried : Carries Usual worked_set (hex "F0 81 81 41 C2 FE 00 E4 80 80 81") (quote 1 100 ∷ quote 2 101 ∷ [])
quotes_carried = carried _ _ refl left_out

overlong_integer_carried : Carries Usual worked_set (hex "F0 81 00 00 81 41 C2 FE 00 E4") (quote 1 100 ∷ [])
overlong_integer_carried = carried _ _ refl overlong_integer

overlong_map_carried : Carries Usual worked_set (hex "70 00 80 81 81 41 C2 FE 00 E4") (quote 1 100 ∷ [])
overlong_map_carried = carried _ _ refl overlong_map

unasked_bit_carried : Carries Usual worked_set (hex "F1 81 81 41 C2 FE 00 E4") (quote 1 100 ∷ [])
unasked_bit_carried = carried _ _ refl unasked_bit

-- a fault in a map, an identifier, a group's map and field, an element's map, and a mantissa
map_refused : Refused (replicate 256 0x00) Limit 1 0 0 0
map_refused = refusal _ [] _ refl map_too_long

identifier_refused : Refused (hex "C0 E4") D9 1 1 0 0
identifier_refused = refusal _ [] _ refl unknown_identifier

large_identifier_refused : Refused (hex "C0 10 00 00 00 80") D2 1 1 0 0
large_identifier_refused = refusal _ [] _ refl identifier_too_large

group_refused : Refused (hex "F0 8B") Truncated 1 2 11 1
group_refused = refusal _ [] _ refl no_map_of_group

group_field_refused : Refused (hex "F0 8B 80") D5 1 3 11 2
group_field_refused = refusal _ [] _ refl no_value_in_group

element_refused : Refused (hex "C0 85 82 C0 85") Truncated 1 5 5 1
element_refused = refusal _ [] _ refl no_map_of_second_element

mantissa_refused : Refused (hex "F0 83 83 01 00 00 00 00 00 00 00 00 80") R1 1 3 3 1
mantissa_refused = refusal _ [] _ refl mantissa_too_large

second_message_refused : Refused (hex "F0 87 85 C1 80") D4 2 5 7 1
second_message_refused = refusal _ (message 7 (u32 5 ∷ text (codes "A") ∷ []) ∷ []) _ refl another_type

-- ---- in blocks

block_reader : IsNextReader (in_blocks Usual) worked_set
block_reader = next_reader (in_blocks Usual) worked_set (message_reader Usual worked_set worked_set_is_sound.typed)

refused_in_blocks : (stream : List ℕ) (messages : List Content) (fault : Fault) → list_all (λ b. nat_lt b 256) stream ≡ true → read_blocks stream ≡ (messages, Some fault) → FirstFault (in_blocks Usual) worked_set stream fault.place fault.cause
refused_in_blocks stream messages fault fits e = answered_is_fault (in_blocks Usual) worked_set block_reader stream fault (all_bytes stream fits) (ap (λ p. p.1) e)

abbrev RefusedInBlocks : List ℕ → Cause → ℕ → ℕ → ℕ → ℕ → Type 0
RefusedInBlocks stream cause message offset template instruction =
    FirstFault (in_blocks Usual) worked_set stream (record { message = message; offset = offset; template = template; instruction = instruction }) cause

zero_size_refused : RefusedInBlocks (hex "88 F0 81 81 41 C2 FE 00 E4 80") D12 2 9 0 0
zero_size_refused = refused_in_blocks _ (quote 1 100 ∷ []) _ refl empty_second_block

short_block_refused : RefusedInBlocks (hex "87 F0 81 81 41 C2 FE 00 E4") BlockEnd 1 6 1 3
short_block_refused = refused_in_blocks _ [] _ refl block_too_short

open_block_refused : RefusedInBlocks (hex "89 F0 81 81 41 C2 FE 00 E4") Truncated 2 9 0 0
open_block_refused = refused_in_blocks _ (quote 1 100 ∷ []) _ refl unended_block

-- 88 F0 81 81 41 C2 FE 00 E4 without its size: the eight bytes
of_8 : IsUnsigned (hex "88") 8
of_8 = record { entity = (lit≤ tt, lit< tt); short = lit≤ tt; value = refl }

size_left_out : IsWithoutSizes Usual (hex "88 F0 81 81 41 C2 FE 00 E4") (hex "F0 81 81 41 C2 FE 00 E4")
size_left_out = record { blocks = (hex "88", hex "F0 81 81 41 C2 FE 00 E4") ∷ []; sizes = ((of_8, lit< tt), tt); stream_is = refl; plain_is = refl }

-- though each of its entities could be a size, no byte of a block is left out
block_not_left_out : IsWithoutSizes Usual (hex "88 F0 81 81 41 C2 FE 00 E4") [] → ⊥
block_not_left_out h = let none = one_plain Usual Usual (hex "88 F0 81 81 41 C2 FE 00 E4") [] (hex "F0 81 81 41 C2 FE 00 E4") h size_left_out in absurd (omega (arith, ap (λ (z : List ℕ). length z) none))

-- E0 90 85 86 ends between two messages: the place of a read that fails there
between_messages : EndsBetween (plainly Usual) worked_set (hex "E0 90 85 86") (record { message = 2; offset = 4; template = 0; instruction = 0 })
between_messages = record { messages = five_and_six ∷ []; carried = in_mode Usual worked_set (hex "E0 90 85 86") (five_and_six ∷ []) carries_first; place_is = refl }

-- it ends behind its messages, and the place follows from them
ends_behind : (stream : List ℕ) (place : Place) → EndsBetween (plainly Usual) worked_set stream place
    → (messages : List Content) × Carries Usual worked_set stream messages
    × (place ≡ record { message = length messages + 1; offset = length stream; template = 0; instruction = 0 })
ends_behind stream place h = (h.messages, from_mode Usual worked_set stream h.messages h.carried, h.place_is)
