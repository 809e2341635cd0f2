-- The worked rows, computed: what each stream is read as. A refusal is a cause with the message, the offset, the
-- template and the instruction of the piece.
use Rattle.fast_stream.proofs.Common.{Bool, true, false, ◌≡◌, ap, ◌∙◌, ℕ, suc, ℤ, pos, negsuc, List, [], ◌∷◌, map, Option, Some, None, Ok, Err, refl, codes, replicate, cond, eq_by_cmp, Usual, Strict, key_cmp, key_cmp-total, Key, Scalar, U32, I64, Decimal, Ascii, Unicode, Bytes, Dictionary, entity_at, unsigned_at, signed_at, unsigned_nullable_at, signed_nullable_at, ascii_at, ascii_nullable_at, bytes_at, vector_at, behind_length, vector_nullable_at, map_at, integer_at, part_at, units_at, integer_value, decimal_value, unit_value, integer_spelled_at, mantissa_behind, decimal_spelled_at, units_spelled_at, spelled_at, integer_delta_at, mantissa_delta_behind, decimal_delta_at, new_part_behind, unit_delta_at, delta_at, limited_value, integer_sum, ended_value, tail_at, whole_at, predicted_at, row_at, part_checked, field_at, Cause, D2, D4, D5, D6, D7, D9, D12, BlockEnd, R1, R2, R6, R7, R8, R9, Truncated, Limit, Fault, Item, single, group_items, sequence_elements, items_of, elements_of, Content, node_limit, MessageStop, Cursor, field_part_at, body_at, head_at, message_at, Stand, outside, at_start, in_block_at, plainly, in_blocks, StreamReading, messages_at, stream_at, fault_in, is_utf8, chars, identifier_key, Global, Whole, Mantissa}
use Rattle.std.specs.FinMap as finite
use Rattle.fast_value.specs.declared.kind.Part.{Part}
use Rattle.fast_template.proofs.WorkedSet.{opt, legs, bare, grp, slot_of, worked_set}

-- ---- how a row is written

abbrev pub u32 : ℕ → Item
u32 n = single (Some (U32 n))

abbrev pub decimal : ℤ → ℤ → Item
decimal exponent mantissa = single (Some (Decimal exponent mantissa))

abbrev pub text : List ℕ → Item
text s = single (Some (Ascii s))

abbrev pub unicode : List ℕ → Item
unicode s = single (Some (Unicode s))

abbrev pub vector : List ℕ → Item
vector s = single (Some (Bytes s))

abbrev pub absent : Item
absent = single None

abbrev pub group : List Item → Item
group ns = group_items (items_of ns)

abbrev pub sequence : List (List Item) → Item
sequence es = sequence_elements (elements_of (map items_of es))

abbrev pub message : ℕ → List Item → Content
message template ns = record { template = template; items = items_of ns }

-- a message of Quote with Sym="AB", an exponent of -2 and no Qty: its Seq and its mantissa
abbrev pub quote : ℕ → ℕ → Content
quote seq mantissa = message 1 (u32 seq ∷ text (codes "AB") ∷ decimal (negsuc 1) (pos mantissa) ∷ absent ∷ [])

abbrev pub refused : Cause → ℕ → ℕ → ℕ → ℕ → Option Fault
refused cause message offset template instruction = Some (record { cause = cause; place = record { message = message; offset = offset; template = template; instruction = instruction } })

-- the messages of a stream, and its first fault
abbrev answer : List ℕ → StreamReading → List Content × Option Fault
answer stream r = (r.messages, fault_in stream r)

abbrev pub read : List ℕ → List Content × Option Fault
read stream = answer stream (stream_at (plainly Usual) worked_set stream)

-- all that reading is made of: who unfolds this unfolds its line
reading : ℕ
unfolding entity_at unsigned_at signed_at unsigned_nullable_at signed_nullable_at ascii_at ascii_nullable_at bytes_at vector_at behind_length vector_nullable_at map_at integer_at part_at units_at integer_value decimal_value unit_value is_utf8 chars lib.Utf8.encode integer_spelled_at mantissa_behind decimal_spelled_at units_spelled_at spelled_at integer_delta_at mantissa_delta_behind decimal_delta_at new_part_behind unit_delta_at delta_at limited_value integer_sum ended_value tail_at whole_at predicted_at row_at part_checked field_at field_part_at head_at message_at
reading = 0

-- a key of a name, and a dictionary once these values were put
abbrev named : List ℕ → Key
named name = let k : Key = record { slot = 0; scope = Global; name = name; part = Whole } in record k { slot = slot_of k }

abbrev puts : Dictionary → List (Key × Option Scalar) → Dictionary
puts d [] = d
puts d (w ∷ ws) = puts (finite.insert d w.0 w.1) ws

-- a stream of one message more, and one that stops
one_more : (n : ℕ) (d : Dictionary) (b : ℕ) (bytes : List ℕ) {rest : List ℕ} {e : Dictionary} {m : Content} {r : StreamReading}
    → message_at Usual worked_set d (b ∷ bytes) ≡ Ok (m, e, rest) → messages_at (plainly Usual) n worked_set (outside e) rest ≡ r
    → messages_at (plainly Usual) (suc n) worked_set (outside d) (b ∷ bytes) ≡ record { messages = m ∷ r.messages; fault = r.fault }
one_more n d b bytes h t = rw (h, t) refl

last_stop : (n : ℕ) (d : Dictionary) (b : ℕ) (bytes : List ℕ) {s : MessageStop}
    → message_at Usual worked_set d (b ∷ bytes) ≡ Err s → messages_at (plainly Usual) (suc n) worked_set (outside d) (b ∷ bytes) ≡ record { messages = []; fault = Some s }
last_stop n d b bytes h = rw h refl

-- what a dictionary has under a key, where it is empty and where a value was put: a finite map computes by these
absent_there : (q : Key) → finite.get (finite.empty {X = Option Scalar} {R = key_cmp}) q ≡ None
absent_there q = finite.get-empty key_cmp q

put_there : (d : Dictionary) (k : Key) (v : Option Scalar) (q : Key) → finite.get (finite.insert d k v) q ≡ cond (eq_by_cmp key_cmp q k) (Some v) (finite.get d q)
put_there d k v q = finite.get-insert key_cmp-total d k v q

-- the same where so many values were put into an empty one: one step for each look at a row's
-- dictionary, where the two equations above would take one for each value
abbrev no_values : Dictionary
no_values = finite.empty

abbrev hit : Key → Key → Option Scalar → Option (Option Scalar) → Option (Option Scalar)
hit q k v others = cond (eq_by_cmp key_cmp q k) (Some v) others

among_1 : (k1 : Key) (v1 : Option Scalar) (q : Key) → finite.get (finite.insert no_values k1 v1) q ≡ hit q k1 v1 None
among_1 k1 v1 q = put_there no_values k1 v1 q ∙ ap (hit q k1 v1) (absent_there q)

among_2 : (k1 k2 : Key) (v1 v2 : Option Scalar) (q : Key) → finite.get (finite.insert (finite.insert no_values k1 v1) k2 v2) q ≡ hit q k2 v2 (hit q k1 v1 None)
among_2 k1 k2 v1 v2 q = put_there (finite.insert no_values k1 v1) k2 v2 q ∙ ap (hit q k2 v2) (among_1 k1 v1 q)

among_3 : (k1 k2 k3 : Key) (v1 v2 v3 : Option Scalar) (q : Key) → finite.get (finite.insert (finite.insert (finite.insert no_values k1 v1) k2 v2) k3 v3) q ≡ hit q k3 v3 (hit q k2 v2 (hit q k1 v1 None))
among_3 k1 k2 k3 v1 v2 v3 q = put_there (finite.insert (finite.insert no_values k1 v1) k2 v2) k3 v3 q ∙ ap (hit q k3 v3) (among_2 k1 k2 v1 v2 q)

among_4 : (k1 k2 k3 k4 : Key) (v1 v2 v3 v4 : Option Scalar) (q : Key) → finite.get (finite.insert (finite.insert (finite.insert (finite.insert no_values k1 v1) k2 v2) k3 v3) k4 v4) q ≡ hit q k4 v4 (hit q k3 v3 (hit q k2 v2 (hit q k1 v1 None)))
among_4 k1 k2 k3 k4 v1 v2 v3 v4 q = put_there (finite.insert (finite.insert (finite.insert no_values k1 v1) k2 v2) k3 v3) k4 v4 q ∙ ap (hit q k4 v4) (among_3 k1 k2 k3 v1 v2 v3 q)

among_5 : (k1 k2 k3 k4 k5 : Key) (v1 v2 v3 v4 v5 : Option Scalar) (q : Key) → finite.get (finite.insert (finite.insert (finite.insert (finite.insert (finite.insert no_values k1 v1) k2 v2) k3 v3) k4 v4) k5 v5) q ≡ hit q k5 v5 (hit q k4 v4 (hit q k3 v3 (hit q k2 v2 (hit q k1 v1 None))))
among_5 k1 k2 k3 k4 k5 v1 v2 v3 v4 v5 q = put_there (finite.insert (finite.insert (finite.insert (finite.insert no_values k1 v1) k2 v2) k3 v3) k4 v4) k5 v5 q ∙ ap (hit q k5 v5) (among_4 k1 k2 k3 k4 v1 v2 v3 v4 q)

among_6 : (k1 k2 k3 k4 k5 k6 : Key) (v1 v2 v3 v4 v5 v6 : Option Scalar) (q : Key) → finite.get (finite.insert (finite.insert (finite.insert (finite.insert (finite.insert (finite.insert no_values k1 v1) k2 v2) k3 v3) k4 v4) k5 v5) k6 v6) q ≡ hit q k6 v6 (hit q k5 v5 (hit q k4 v4 (hit q k3 v3 (hit q k2 v2 (hit q k1 v1 None)))))
among_6 k1 k2 k3 k4 k5 k6 v1 v2 v3 v4 v5 v6 q = put_there (finite.insert (finite.insert (finite.insert (finite.insert (finite.insert no_values k1 v1) k2 v2) k3 v3) k4 v4) k5 v5) k6 v6 q ∙ ap (hit q k6 v6) (among_5 k1 k2 k3 k4 k5 v1 v2 v3 v4 v5 q)

among_7 : (k1 k2 k3 k4 k5 k6 k7 : Key) (v1 v2 v3 v4 v5 v6 v7 : Option Scalar) (q : Key) → finite.get (finite.insert (finite.insert (finite.insert (finite.insert (finite.insert (finite.insert (finite.insert no_values k1 v1) k2 v2) k3 v3) k4 v4) k5 v5) k6 v6) k7 v7) q ≡ hit q k7 v7 (hit q k6 v6 (hit q k5 v5 (hit q k4 v4 (hit q k3 v3 (hit q k2 v2 (hit q k1 v1 None))))))
among_7 k1 k2 k3 k4 k5 k6 k7 v1 v2 v3 v4 v5 v6 v7 q = put_there (finite.insert (finite.insert (finite.insert (finite.insert (finite.insert (finite.insert no_values k1 v1) k2 v2) k3 v3) k4 v4) k5 v5) k6 v6) k7 v7 q ∙ ap (hit q k7 v7) (among_6 k1 k2 k3 k4 k5 k6 v1 v2 v3 v4 v5 v6 q)

among_8 : (k1 k2 k3 k4 k5 k6 k7 k8 : Key) (v1 v2 v3 v4 v5 v6 v7 v8 : Option Scalar) (q : Key) → finite.get (finite.insert (finite.insert (finite.insert (finite.insert (finite.insert (finite.insert (finite.insert (finite.insert no_values k1 v1) k2 v2) k3 v3) k4 v4) k5 v5) k6 v6) k7 v7) k8 v8) q ≡ hit q k8 v8 (hit q k7 v7 (hit q k6 v6 (hit q k5 v5 (hit q k4 v4 (hit q k3 v3 (hit q k2 v2 (hit q k1 v1 None)))))))
among_8 k1 k2 k3 k4 k5 k6 k7 k8 v1 v2 v3 v4 v5 v6 v7 v8 q = put_there (finite.insert (finite.insert (finite.insert (finite.insert (finite.insert (finite.insert (finite.insert no_values k1 v1) k2 v2) k3 v3) k4 v4) k5 v5) k6 v6) k7 v7) k8 v8 q ∙ ap (hit q k8 v8) (among_7 k1 k2 k3 k4 k5 k6 k7 v1 v2 v3 v4 v5 v6 v7 q)

among_9 : (k1 k2 k3 k4 k5 k6 k7 k8 k9 : Key) (v1 v2 v3 v4 v5 v6 v7 v8 v9 : Option Scalar) (q : Key) → finite.get (finite.insert (finite.insert (finite.insert (finite.insert (finite.insert (finite.insert (finite.insert (finite.insert (finite.insert no_values k1 v1) k2 v2) k3 v3) k4 v4) k5 v5) k6 v6) k7 v7) k8 v8) k9 v9) q ≡ hit q k9 v9 (hit q k8 v8 (hit q k7 v7 (hit q k6 v6 (hit q k5 v5 (hit q k4 v4 (hit q k3 v3 (hit q k2 v2 (hit q k1 v1 None))))))))
among_9 k1 k2 k3 k4 k5 k6 k7 k8 k9 v1 v2 v3 v4 v5 v6 v7 v8 v9 q = put_there (finite.insert (finite.insert (finite.insert (finite.insert (finite.insert (finite.insert (finite.insert (finite.insert no_values k1 v1) k2 v2) k3 v3) k4 v4) k5 v5) k6 v6) k7 v7) k8 v8) k9 v9 q ∙ ap (hit q k9 v9) (among_8 k1 k2 k3 k4 k5 k6 k7 k8 v1 v2 v3 v4 v5 v6 v7 v8 q)

-- ---- Presence map, template identifier, and fields of each kind of operator

-- F0 81 81 41 C2 FE 00 E4: Quote Seq=1 Sym="AB" Px=100e-2 Qty=-
pub one_message : read (0xf0 ∷ 0x81 ∷ 0x81 ∷ 0x41 ∷ 0xc2 ∷ 0xfe ∷ 0x00 ∷ 0xe4 ∷ []) ≡ (quote 1 100 ∷ [], None)
unfolding reading
one_message = rw (among_3, among_4) refl

abbrev quoted : Dictionary
quoted = puts finite.empty ((identifier_key, Some (U32 1)) ∷ (named (codes "Seq"), Some (U32 1)) ∷ (named (codes "Sym"), Some (Ascii (codes "AB"))) ∷ (named (codes "Px"), Some (Decimal (negsuc 1) (pos 100))) ∷ (named (codes "Qty"), None) ∷ [])

spelled_out_first : message_at Usual worked_set finite.empty (0xf0 ∷ 0x81 ∷ 0x81 ∷ 0x41 ∷ 0xc2 ∷ 0xfe ∷ 0x00 ∷ 0xe4 ∷ 0xf8 ∷ 0x81 ∷ 0x82 ∷ 0x41 ∷ 0xc2 ∷ 0x80 ∷ 0x81 ∷ 0x80 ∷ []) ≡ Ok (quote 1 100, quoted, 0xf8 ∷ 0x81 ∷ 0x82 ∷ 0x41 ∷ 0xc2 ∷ 0x80 ∷ 0x81 ∷ 0x80 ∷ [])
unfolding reading
spelled_out_first = rw (among_3, among_4) refl

abbrev quoted_again : Dictionary
quoted_again = puts quoted ((identifier_key, Some (U32 1)) ∷ (named (codes "Seq"), Some (U32 2)) ∷ (named (codes "Sym"), Some (Ascii (codes "AB"))) ∷ (named (codes "Px"), Some (Decimal (negsuc 1) (pos 101))) ∷ (named (codes "Qty"), None) ∷ [])

spelled_out_second : message_at Usual worked_set quoted (0xf8 ∷ 0x81 ∷ 0x82 ∷ 0x41 ∷ 0xc2 ∷ 0x80 ∷ 0x81 ∷ 0x80 ∷ []) ≡ Ok (quote 2 101, quoted_again, [])
unfolding reading
spelled_out_second = rw among_8 refl

-- behind these bytes F8 81 82 41 C2 80 81 80: Seq=2 Sym="AB" Px=101e-2 Qty=-, spelled out
pub spelled_out : read (0xf0 ∷ 0x81 ∷ 0x81 ∷ 0x41 ∷ 0xc2 ∷ 0xfe ∷ 0x00 ∷ 0xe4 ∷ 0xf8 ∷ 0x81 ∷ 0x82 ∷ 0x41 ∷ 0xc2 ∷ 0x80 ∷ 0x81 ∷ 0x80 ∷ []) ≡ (quote 1 100 ∷ quote 2 101 ∷ [], None)
spelled_out = ap (answer (0xf0 ∷ 0x81 ∷ 0x81 ∷ 0x41 ∷ 0xc2 ∷ 0xfe ∷ 0x00 ∷ 0xe4 ∷ 0xf8 ∷ 0x81 ∷ 0x82 ∷ 0x41 ∷ 0xc2 ∷ 0x80 ∷ 0x81 ∷ 0x80 ∷ [])) (one_more 16 _ _ _ spelled_out_first (one_more 15 _ _ _ spelled_out_second refl))

left_out_first : message_at Usual worked_set finite.empty (0xf0 ∷ 0x81 ∷ 0x81 ∷ 0x41 ∷ 0xc2 ∷ 0xfe ∷ 0x00 ∷ 0xe4 ∷ 0x80 ∷ 0x80 ∷ 0x81 ∷ []) ≡ Ok (quote 1 100, quoted, 0x80 ∷ 0x80 ∷ 0x81 ∷ [])
unfolding reading
left_out_first = rw (among_3, among_4) refl

left_out_second : message_at Usual worked_set quoted (0x80 ∷ 0x80 ∷ 0x81 ∷ []) ≡ Ok (quote 2 101, quoted_again, [])
unfolding reading
left_out_second = rw (among_5, among_6, among_7, among_8, among_9) refl

-- behind F0 81 81 41 C2 FE 00 E4 the bytes 80 80 81: the same two messages
pub left_out : read (0xf0 ∷ 0x81 ∷ 0x81 ∷ 0x41 ∷ 0xc2 ∷ 0xfe ∷ 0x00 ∷ 0xe4 ∷ 0x80 ∷ 0x80 ∷ 0x81 ∷ []) ≡ (quote 1 100 ∷ quote 2 101 ∷ [], None)
left_out = ap (answer (0xf0 ∷ 0x81 ∷ 0x81 ∷ 0x41 ∷ 0xc2 ∷ 0xfe ∷ 0x00 ∷ 0xe4 ∷ 0x80 ∷ 0x80 ∷ 0x81 ∷ [])) (one_more 11 _ _ _ left_out_first (one_more 10 _ _ _ left_out_second refl))

-- the empty stream: no message
pub nothing : read [] ≡ ([], None)
unfolding reading
nothing = refl

-- 80: no identifier predicted
pub no_identifier : read (0x80 ∷ []) ≡ ([], refused D5 1 1 0 0)
unfolding reading
no_identifier = rw absent_there refl

-- C0 E4: no template has the identifier 100
pub unknown_identifier : read (0xc0 ∷ 0xe4 ∷ []) ≡ ([], refused D9 1 1 0 0)
unfolding reading
unknown_identifier = refl

-- 80 and behind it a good message: the same fault
pub fault_stays : read (0x80 ∷ 0xf0 ∷ 0x81 ∷ 0x81 ∷ 0x41 ∷ 0xc2 ∷ 0xfe ∷ 0x00 ∷ 0xe4 ∷ []) ≡ ([], refused D5 1 1 0 0)
unfolding reading
fault_stays = rw absent_there refl

-- ---- A message that is cut

-- the first byte of F0 81 81 41 C2 FE 00 E4
pub cut_after_one : read (0xf0 ∷ []) ≡ ([], refused Truncated 1 1 0 0)
unfolding reading
cut_after_one = refl

-- the first 2 of F0 81 81 41 C2 FE 00 E4
pub cut_after_two : read (0xf0 ∷ 0x81 ∷ []) ≡ ([], refused Truncated 1 2 1 1)
unfolding reading
cut_after_two = refl

-- the first 3 of F0 81 81 41 C2 FE 00 E4
pub cut_after_three : read (0xf0 ∷ 0x81 ∷ 0x81 ∷ []) ≡ ([], refused Truncated 1 3 1 2)
unfolding reading
cut_after_three = refl

-- the first 4 of F0 81 81 41 C2 FE 00 E4
pub cut_after_four : read (0xf0 ∷ 0x81 ∷ 0x81 ∷ 0x41 ∷ []) ≡ ([], refused Truncated 1 3 1 2)
unfolding reading
cut_after_four = refl

-- the first 5 of F0 81 81 41 C2 FE 00 E4
pub cut_after_five : read (0xf0 ∷ 0x81 ∷ 0x81 ∷ 0x41 ∷ 0xc2 ∷ []) ≡ ([], refused Truncated 1 5 1 3)
unfolding reading
cut_after_five = refl

-- the first 6 of F0 81 81 41 C2 FE 00 E4
pub cut_after_six : read (0xf0 ∷ 0x81 ∷ 0x81 ∷ 0x41 ∷ 0xc2 ∷ 0xfe ∷ []) ≡ ([], refused Truncated 1 5 1 3)
unfolding reading
cut_after_six = rw among_3 refl

-- the first 7 of F0 81 81 41 C2 FE 00 E4
pub cut_after_seven : read (0xf0 ∷ 0x81 ∷ 0x81 ∷ 0x41 ∷ 0xc2 ∷ 0xfe ∷ 0x00 ∷ []) ≡ ([], refused Truncated 1 5 1 3)
unfolding reading
cut_after_seven = rw among_3 refl

-- ---- Overlong forms, and bits that no instruction asks for

-- 00 00 81 for Seq
pub overlong_integer : read (0xf0 ∷ 0x81 ∷ 0x00 ∷ 0x00 ∷ 0x81 ∷ 0x41 ∷ 0xc2 ∷ 0xfe ∷ 0x00 ∷ 0xe4 ∷ []) ≡ (quote 1 100 ∷ [], None)
unfolding reading
overlong_integer = rw (among_3, among_4) refl

-- 70 00 80 for the map
pub overlong_map : read (0x70 ∷ 0x00 ∷ 0x80 ∷ 0x81 ∷ 0x81 ∷ 0x41 ∷ 0xc2 ∷ 0xfe ∷ 0x00 ∷ 0xe4 ∷ []) ≡ (quote 1 100 ∷ [], None)
unfolding reading
overlong_map = rw (among_3, among_4) refl

-- F1 for the map
pub unasked_bit : read (0xf1 ∷ 0x81 ∷ 0x81 ∷ 0x41 ∷ 0xc2 ∷ 0xfe ∷ 0x00 ∷ 0xe4 ∷ []) ≡ (quote 1 100 ∷ [], None)
unfolding reading
unasked_bit = rw (among_3, among_4) refl

-- ---- Delta of a string

abbrev geh6 : Dictionary
geh6 = puts finite.empty ((identifier_key, Some (U32 10)) ∷ (named (codes "S"), Some (Ascii (codes "GEH6"))) ∷ [])

removes_too_much_first : message_at Usual worked_set finite.empty (0xc0 ∷ 0x8a ∷ 0x80 ∷ 0x47 ∷ 0x45 ∷ 0x48 ∷ 0xb6 ∷ 0x80 ∷ 0x82 ∷ 0x4d ∷ 0xb6 ∷ 0x80 ∷ 0xfd ∷ 0x45 ∷ 0xd3 ∷ 0x80 ∷ 0x85 ∷ 0x80 ∷ []) ≡ Ok (message 10 (text (codes "GEH6") ∷ []), geh6, 0x80 ∷ 0x82 ∷ 0x4d ∷ 0xb6 ∷ 0x80 ∷ 0xfd ∷ 0x45 ∷ 0xd3 ∷ 0x80 ∷ 0x85 ∷ 0x80 ∷ [])
unfolding reading
removes_too_much_first = rw among_1 refl

abbrev gem6 : Dictionary
gem6 = puts geh6 ((identifier_key, Some (U32 10)) ∷ (named (codes "S"), Some (Ascii (codes "GEM6"))) ∷ [])

removes_too_much_second : message_at Usual worked_set geh6 (0x80 ∷ 0x82 ∷ 0x4d ∷ 0xb6 ∷ 0x80 ∷ 0xfd ∷ 0x45 ∷ 0xd3 ∷ 0x80 ∷ 0x85 ∷ 0x80 ∷ []) ≡ Ok (message 10 (text (codes "GEM6") ∷ []), gem6, 0x80 ∷ 0xfd ∷ 0x45 ∷ 0xd3 ∷ 0x80 ∷ 0x85 ∷ 0x80 ∷ [])
unfolding reading
removes_too_much_second = rw (among_2, among_3) refl

abbrev esm6 : Dictionary
esm6 = puts gem6 ((identifier_key, Some (U32 10)) ∷ (named (codes "S"), Some (Ascii (codes "ESM6"))) ∷ [])

removes_too_much_third : message_at Usual worked_set gem6 (0x80 ∷ 0xfd ∷ 0x45 ∷ 0xd3 ∷ 0x80 ∷ 0x85 ∷ 0x80 ∷ []) ≡ Ok (message 10 (text (codes "ESM6") ∷ []), esm6, 0x80 ∷ 0x85 ∷ 0x80 ∷ [])
unfolding reading
removes_too_much_third = rw (among_4, among_5) refl

deltas_first : message_at Usual worked_set finite.empty (0xc0 ∷ 0x8a ∷ 0x80 ∷ 0x47 ∷ 0x45 ∷ 0x48 ∷ 0xb6 ∷ 0x80 ∷ 0x82 ∷ 0x4d ∷ 0xb6 ∷ 0x80 ∷ 0xfd ∷ 0x45 ∷ 0xd3 ∷ []) ≡ Ok (message 10 (text (codes "GEH6") ∷ []), geh6, 0x80 ∷ 0x82 ∷ 0x4d ∷ 0xb6 ∷ 0x80 ∷ 0xfd ∷ 0x45 ∷ 0xd3 ∷ [])
unfolding reading
deltas_first = rw among_1 refl

deltas_second : message_at Usual worked_set geh6 (0x80 ∷ 0x82 ∷ 0x4d ∷ 0xb6 ∷ 0x80 ∷ 0xfd ∷ 0x45 ∷ 0xd3 ∷ []) ≡ Ok (message 10 (text (codes "GEM6") ∷ []), gem6, 0x80 ∷ 0xfd ∷ 0x45 ∷ 0xd3 ∷ [])
unfolding reading
deltas_second = rw (among_2, among_3) refl

deltas_third : message_at Usual worked_set gem6 (0x80 ∷ 0xfd ∷ 0x45 ∷ 0xd3 ∷ []) ≡ Ok (message 10 (text (codes "ESM6") ∷ []), esm6, [])
unfolding reading
deltas_third = rw (among_4, among_5) refl

-- S is "GEH6"; two at the end make way for "M6"; two in front for "ES"
pub deltas : read (0xc0 ∷ 0x8a ∷ 0x80 ∷ 0x47 ∷ 0x45 ∷ 0x48 ∷ 0xb6 ∷ 0x80 ∷ 0x82 ∷ 0x4d ∷ 0xb6 ∷ 0x80 ∷ 0xfd ∷ 0x45 ∷ 0xd3 ∷ []) ≡ (message 10 (text (codes "GEH6") ∷ []) ∷ message 10 (text (codes "GEM6") ∷ []) ∷ message 10 (text (codes "ESM6") ∷ []) ∷ [], None)
deltas = ap (answer (0xc0 ∷ 0x8a ∷ 0x80 ∷ 0x47 ∷ 0x45 ∷ 0x48 ∷ 0xb6 ∷ 0x80 ∷ 0x82 ∷ 0x4d ∷ 0xb6 ∷ 0x80 ∷ 0xfd ∷ 0x45 ∷ 0xd3 ∷ [])) (one_more 15 _ _ _ deltas_first (one_more 14 _ _ _ deltas_second (one_more 13 _ _ _ deltas_third refl)))

removes_too_much_fourth : message_at Usual worked_set esm6 (0x80 ∷ 0x85 ∷ 0x80 ∷ []) ≡ Err (record { template = 10; stop = record { cause = D7; instruction = 1; left = 2 } })
unfolding reading
removes_too_much_fourth = rw (among_6, among_7) refl

-- behind them 80 85 80: five of four
pub removes_too_much : read (0xc0 ∷ 0x8a ∷ 0x80 ∷ 0x47 ∷ 0x45 ∷ 0x48 ∷ 0xb6 ∷ 0x80 ∷ 0x82 ∷ 0x4d ∷ 0xb6 ∷ 0x80 ∷ 0xfd ∷ 0x45 ∷ 0xd3 ∷ 0x80 ∷ 0x85 ∷ 0x80 ∷ []) ≡ (message 10 (text (codes "GEH6") ∷ []) ∷ message 10 (text (codes "GEM6") ∷ []) ∷ message 10 (text (codes "ESM6") ∷ []) ∷ [], refused D7 4 16 10 1)
removes_too_much = ap (answer (0xc0 ∷ 0x8a ∷ 0x80 ∷ 0x47 ∷ 0x45 ∷ 0x48 ∷ 0xb6 ∷ 0x80 ∷ 0x82 ∷ 0x4d ∷ 0xb6 ∷ 0x80 ∷ 0xfd ∷ 0x45 ∷ 0xd3 ∷ 0x80 ∷ 0x85 ∷ 0x80 ∷ [])) (one_more 18 _ _ _ removes_too_much_first (one_more 17 _ _ _ removes_too_much_second (one_more 16 _ _ _ removes_too_much_third (last_stop 15 _ _ _ removes_too_much_fourth))))

removes_nothing_in_front_first : message_at Usual worked_set finite.empty (0xc0 ∷ 0x8a ∷ 0x80 ∷ 0x47 ∷ 0x45 ∷ 0x48 ∷ 0xb6 ∷ 0x80 ∷ 0x82 ∷ 0x4d ∷ 0xb6 ∷ 0x80 ∷ 0xfd ∷ 0x45 ∷ 0xd3 ∷ 0x80 ∷ 0xff ∷ 0x80 ∷ []) ≡ Ok (message 10 (text (codes "GEH6") ∷ []), geh6, 0x80 ∷ 0x82 ∷ 0x4d ∷ 0xb6 ∷ 0x80 ∷ 0xfd ∷ 0x45 ∷ 0xd3 ∷ 0x80 ∷ 0xff ∷ 0x80 ∷ [])
unfolding reading
removes_nothing_in_front_first = rw among_1 refl

removes_nothing_in_front_second : message_at Usual worked_set geh6 (0x80 ∷ 0x82 ∷ 0x4d ∷ 0xb6 ∷ 0x80 ∷ 0xfd ∷ 0x45 ∷ 0xd3 ∷ 0x80 ∷ 0xff ∷ 0x80 ∷ []) ≡ Ok (message 10 (text (codes "GEM6") ∷ []), gem6, 0x80 ∷ 0xfd ∷ 0x45 ∷ 0xd3 ∷ 0x80 ∷ 0xff ∷ 0x80 ∷ [])
unfolding reading
removes_nothing_in_front_second = rw (among_2, among_3) refl

removes_nothing_in_front_third : message_at Usual worked_set gem6 (0x80 ∷ 0xfd ∷ 0x45 ∷ 0xd3 ∷ 0x80 ∷ 0xff ∷ 0x80 ∷ []) ≡ Ok (message 10 (text (codes "ESM6") ∷ []), esm6, 0x80 ∷ 0xff ∷ 0x80 ∷ [])
unfolding reading
removes_nothing_in_front_third = rw (among_4, among_5) refl

abbrev esm6_again : Dictionary
esm6_again = puts esm6 ((identifier_key, Some (U32 10)) ∷ (named (codes "S"), Some (Ascii (codes "ESM6"))) ∷ [])

removes_nothing_in_front_fourth : message_at Usual worked_set esm6 (0x80 ∷ 0xff ∷ 0x80 ∷ []) ≡ Ok (message 10 (text (codes "ESM6") ∷ []), esm6_again, [])
unfolding reading
removes_nothing_in_front_fourth = rw (among_6, among_7) refl

-- behind them 80 FF 80: S is "ESM6" again
pub removes_nothing_in_front : read (0xc0 ∷ 0x8a ∷ 0x80 ∷ 0x47 ∷ 0x45 ∷ 0x48 ∷ 0xb6 ∷ 0x80 ∷ 0x82 ∷ 0x4d ∷ 0xb6 ∷ 0x80 ∷ 0xfd ∷ 0x45 ∷ 0xd3 ∷ 0x80 ∷ 0xff ∷ 0x80 ∷ []) ≡ (message 10 (text (codes "GEH6") ∷ []) ∷ message 10 (text (codes "GEM6") ∷ []) ∷ message 10 (text (codes "ESM6") ∷ []) ∷ message 10 (text (codes "ESM6") ∷ []) ∷ [], None)
removes_nothing_in_front = ap (answer (0xc0 ∷ 0x8a ∷ 0x80 ∷ 0x47 ∷ 0x45 ∷ 0x48 ∷ 0xb6 ∷ 0x80 ∷ 0x82 ∷ 0x4d ∷ 0xb6 ∷ 0x80 ∷ 0xfd ∷ 0x45 ∷ 0xd3 ∷ 0x80 ∷ 0xff ∷ 0x80 ∷ [])) (one_more 18 _ _ _ removes_nothing_in_front_first (one_more 17 _ _ _ removes_nothing_in_front_second (one_more 16 _ _ _ removes_nothing_in_front_third (one_more 15 _ _ _ removes_nothing_in_front_fourth refl))))

-- ---- Tail

-- S is "xab", and then x, NUL, b by a tail of NUL and b
pub tail_with_nul : read (0xe0 ∷ 0x88 ∷ 0x78 ∷ 0x61 ∷ 0xe2 ∷ 0xa0 ∷ 0x00 ∷ 0x00 ∷ 0x00 ∷ 0xe2 ∷ []) ≡ (message 8 (text (codes "xab") ∷ []) ∷ message 8 (text (120 ∷ 0 ∷ 98 ∷ []) ∷ []) ∷ [], None)
unfolding reading
tail_with_nul = rw (among_1, among_2, among_3) refl

-- S is absent, and then the initial value "ab" by an empty tail
pub tail_on_empty : read (0xe0 ∷ 0x89 ∷ 0x80 ∷ 0xa0 ∷ 0x00 ∷ 0x80 ∷ []) ≡ (message 9 (absent ∷ []) ∷ message 9 (text (codes "ab") ∷ []) ∷ [], None)
unfolding reading
tail_on_empty = rw (among_2, among_3) refl

abbrev e_acute : Dictionary
e_acute = puts finite.empty ((identifier_key, Some (U32 12)) ∷ (named (codes "S"), Some (Unicode (0xc3 ∷ 0xa9 ∷ []))) ∷ [])

tail_in_a_character_first : message_at Usual worked_set finite.empty (0xe0 ∷ 0x8c ∷ 0x82 ∷ 0xc3 ∷ 0xa9 ∷ 0xa0 ∷ 0x81 ∷ 0xa8 ∷ 0xa0 ∷ 0x81 ∷ 0x41 ∷ []) ≡ Ok (message 12 (unicode (0xc3 ∷ 0xa9 ∷ []) ∷ []), e_acute, 0xa0 ∷ 0x81 ∷ 0xa8 ∷ 0xa0 ∷ 0x81 ∷ 0x41 ∷ [])
unfolding reading
tail_in_a_character_first = rw among_1 refl

abbrev e_grave : Dictionary
e_grave = puts e_acute ((identifier_key, Some (U32 12)) ∷ (named (codes "S"), Some (Unicode (0xc3 ∷ 0xa8 ∷ []))) ∷ [])

tail_in_a_character_second : message_at Usual worked_set e_acute (0xa0 ∷ 0x81 ∷ 0xa8 ∷ 0xa0 ∷ 0x81 ∷ 0x41 ∷ []) ≡ Ok (message 12 (unicode (0xc3 ∷ 0xa8 ∷ []) ∷ []), e_grave, 0xa0 ∷ 0x81 ∷ 0x41 ∷ [])
unfolding reading
tail_in_a_character_second = rw (among_2, among_3) refl

tail_in_a_character_third : message_at Usual worked_set e_grave (0xa0 ∷ 0x81 ∷ 0x41 ∷ []) ≡ Err (record { template = 12; stop = record { cause = R2; instruction = 1; left = 2 } })
unfolding reading
tail_in_a_character_third = rw (among_4, among_5) refl

-- S is C3 A9, then C3 A8, and then C3 41, which is not UTF-8
pub tail_in_a_character : read (0xe0 ∷ 0x8c ∷ 0x82 ∷ 0xc3 ∷ 0xa9 ∷ 0xa0 ∷ 0x81 ∷ 0xa8 ∷ 0xa0 ∷ 0x81 ∷ 0x41 ∷ []) ≡ (message 12 (unicode (0xc3 ∷ 0xa9 ∷ []) ∷ []) ∷ message 12 (unicode (0xc3 ∷ 0xa8 ∷ []) ∷ []) ∷ [], refused R2 3 9 12 1)
tail_in_a_character = ap (answer (0xe0 ∷ 0x8c ∷ 0x82 ∷ 0xc3 ∷ 0xa9 ∷ 0xa0 ∷ 0x81 ∷ 0xa8 ∷ 0xa0 ∷ 0x81 ∷ 0x41 ∷ [])) (one_more 11 _ _ _ tail_in_a_character_first (one_more 10 _ _ _ tail_in_a_character_second (last_stop 9 _ _ _ tail_in_a_character_third)))

-- ---- Increment past the maximum, and a delta past it

abbrev greatest : Dictionary
greatest = puts finite.empty ((identifier_key, Some (U32 2)) ∷ (named (codes "A"), Some (U32 4294967295)) ∷ (named (codes "B"), Some (U32 4294967295)) ∷ [])

wraps_first : message_at Usual worked_set finite.empty (0xe0 ∷ 0x82 ∷ 0x0f ∷ 0x7f ∷ 0x7f ∷ 0x7f ∷ 0xff ∷ 0x0f ∷ 0x7f ∷ 0x7f ∷ 0x7f ∷ 0xff ∷ 0x80 ∷ 0x80 ∷ 0x80 ∷ 0x81 ∷ []) ≡ Ok (message 2 (u32 4294967295 ∷ u32 4294967295 ∷ []), greatest, 0x80 ∷ 0x80 ∷ 0x80 ∷ 0x81 ∷ [])
unfolding reading
wraps_first = rw among_2 refl

abbrev wrapped : Dictionary
wrapped = puts greatest ((identifier_key, Some (U32 2)) ∷ (named (codes "A"), Some (U32 0)) ∷ (named (codes "B"), Some (U32 4294967295)) ∷ [])

wraps_second : message_at Usual worked_set greatest (0x80 ∷ 0x80 ∷ 0x80 ∷ 0x81 ∷ []) ≡ Ok (message 2 (u32 0 ∷ u32 4294967295 ∷ []), wrapped, 0x80 ∷ 0x81 ∷ [])
unfolding reading
wraps_second = rw (among_3, among_4, among_5) refl

wraps_third : message_at Usual worked_set wrapped (0x80 ∷ 0x81 ∷ []) ≡ Err (record { template = 2; stop = record { cause = D2; instruction = 2; left = 1 } })
unfolding reading
wraps_third = rw (among_6, among_7, among_8) refl

-- A=4294967295 B=4294967295; A=0 B=4294967295; and B one more
pub wraps : read (0xe0 ∷ 0x82 ∷ 0x0f ∷ 0x7f ∷ 0x7f ∷ 0x7f ∷ 0xff ∷ 0x0f ∷ 0x7f ∷ 0x7f ∷ 0x7f ∷ 0xff ∷ 0x80 ∷ 0x80 ∷ 0x80 ∷ 0x81 ∷ []) ≡ (message 2 (u32 4294967295 ∷ u32 4294967295 ∷ []) ∷ message 2 (u32 0 ∷ u32 4294967295 ∷ []) ∷ [], refused D2 3 15 2 2)
wraps = ap (answer (0xe0 ∷ 0x82 ∷ 0x0f ∷ 0x7f ∷ 0x7f ∷ 0x7f ∷ 0xff ∷ 0x0f ∷ 0x7f ∷ 0x7f ∷ 0x7f ∷ 0xff ∷ 0x80 ∷ 0x80 ∷ 0x80 ∷ 0x81 ∷ [])) (one_more 16 _ _ _ wraps_first (one_more 15 _ _ _ wraps_second (last_stop 14 _ _ _ wraps_third)))

-- ---- Decimals in parts

abbrev parted : List ℕ → Part → Key
parted name part = let k : Key = record { slot = 0; scope = Global; name = name; part = part } in record k { slot = slot_of k }

abbrev flagged : Dictionary
flagged = puts finite.empty ((identifier_key, Some (U32 3)) ∷ (named (codes "Flag"), Some (U32 5)) ∷ [])

abbrev priced : Dictionary
priced = puts flagged ((identifier_key, Some (U32 3)) ∷ (parted (codes "Px") Mantissa, Some (I64 (pos 942755))) ∷ (named (codes "Flag"), Some (U32 5)) ∷ [])

mantissa_takes_a_bit_first : message_at Usual worked_set finite.empty (0xf0 ∷ 0x83 ∷ 0x80 ∷ 0x85 ∷ 0x90 ∷ 0x39 ∷ 0x45 ∷ 0xa3 ∷ []) ≡ Ok (message 3 (absent ∷ u32 5 ∷ []), flagged, 0x90 ∷ 0x39 ∷ 0x45 ∷ 0xa3 ∷ [])
unfolding reading
mantissa_takes_a_bit_first = rw among_1 refl

mantissa_takes_a_bit_second : message_at Usual worked_set flagged (0x90 ∷ 0x39 ∷ 0x45 ∷ 0xa3 ∷ []) ≡ Ok (message 3 (decimal (pos 2) (pos 942755) ∷ u32 5 ∷ []), priced, [])
unfolding reading
mantissa_takes_a_bit_second = rw (among_2, among_3, among_4) refl

-- The absent exponent leaves the mantissa's bit to Flag: Px=- Flag=5, and then Px=942755e2 Flag=5
pub mantissa_takes_a_bit : read (0xf0 ∷ 0x83 ∷ 0x80 ∷ 0x85 ∷ 0x90 ∷ 0x39 ∷ 0x45 ∷ 0xa3 ∷ []) ≡ (message 3 (absent ∷ u32 5 ∷ []) ∷ message 3 (decimal (pos 2) (pos 942755) ∷ u32 5 ∷ []) ∷ [], None)
mantissa_takes_a_bit = ap (answer (0xf0 ∷ 0x83 ∷ 0x80 ∷ 0x85 ∷ 0x90 ∷ 0x39 ∷ 0x45 ∷ 0xa3 ∷ [])) (one_more 8 _ _ _ mantissa_takes_a_bit_first (one_more 7 _ _ _ mantissa_takes_a_bit_second refl))

exponent_spelled_out_first : message_at Usual worked_set finite.empty (0xf0 ∷ 0x83 ∷ 0x80 ∷ 0x85 ∷ 0xb0 ∷ 0x83 ∷ 0x39 ∷ 0x45 ∷ 0xa3 ∷ []) ≡ Ok (message 3 (absent ∷ u32 5 ∷ []), flagged, 0xb0 ∷ 0x83 ∷ 0x39 ∷ 0x45 ∷ 0xa3 ∷ [])
unfolding reading
exponent_spelled_out_first = rw among_1 refl

exponent_spelled_out_second : message_at Usual worked_set flagged (0xb0 ∷ 0x83 ∷ 0x39 ∷ 0x45 ∷ 0xa3 ∷ []) ≡ Ok (message 3 (decimal (pos 2) (pos 942755) ∷ u32 5 ∷ []), priced, [])
unfolding reading
exponent_spelled_out_second = rw (among_2, among_3, among_4) refl

-- the same with B0 and 83 for an exponent of 2
pub exponent_spelled_out : read (0xf0 ∷ 0x83 ∷ 0x80 ∷ 0x85 ∷ 0xb0 ∷ 0x83 ∷ 0x39 ∷ 0x45 ∷ 0xa3 ∷ []) ≡ (message 3 (absent ∷ u32 5 ∷ []) ∷ message 3 (decimal (pos 2) (pos 942755) ∷ u32 5 ∷ []) ∷ [], None)
exponent_spelled_out = ap (answer (0xf0 ∷ 0x83 ∷ 0x80 ∷ 0x85 ∷ 0xb0 ∷ 0x83 ∷ 0x39 ∷ 0x45 ∷ 0xa3 ∷ [])) (one_more 9 _ _ _ exponent_spelled_out_first (one_more 8 _ _ _ exponent_spelled_out_second refl))

-- an exponent of 64 is refused before a mantissa has come
pub exponent_first : read (0xf0 ∷ 0x81 ∷ 0x81 ∷ 0x41 ∷ 0xc2 ∷ 0x00 ∷ 0xc0 ∷ []) ≡ ([], refused R1 1 5 1 3)
unfolding reading
exponent_first = rw among_3 refl

abbrev fixed_once : Dictionary
fixed_once = puts finite.empty ((identifier_key, Some (U32 15)) ∷ (parted (codes "Px") Mantissa, Some (I64 (pos 100))) ∷ (named (codes "Raw"), Some (Bytes (0x0a ∷ 0xff ∷ []))) ∷ [])

abbrev fixed_twice : Dictionary
fixed_twice = puts fixed_once ((identifier_key, Some (U32 15)) ∷ (parted (codes "Px") Mantissa, Some (I64 (pos 101))) ∷ (named (codes "Raw"), Some (Bytes (0x0a ∷ 0xff ∷ []))) ∷ [])

constant_exponent_first : message_at Usual worked_set finite.empty (0xe0 ∷ 0x8f ∷ 0x00 ∷ 0xe4 ∷ 0x83 ∷ 0x0a ∷ 0xff ∷ 0x80 ∷ 0x81 ∷ []) ≡ Ok (message 15 (decimal (negsuc 1) (pos 100) ∷ vector (0x0a ∷ 0xff ∷ []) ∷ []), fixed_once, 0x80 ∷ 0x81 ∷ [])
unfolding reading
constant_exponent_first = rw (among_1, among_1) refl

constant_exponent_second : message_at Usual worked_set fixed_once (0x80 ∷ 0x81 ∷ []) ≡ Ok (message 15 (decimal (negsuc 1) (pos 101) ∷ vector (0x0a ∷ 0xff ∷ []) ∷ []), fixed_twice, [])
unfolding reading
constant_exponent_second = rw (among_3, among_4, among_4, among_5) refl

-- Px=100e-2 Raw=x0aff, and Px=101e-2 Raw=x0aff
pub constant_exponent : read (0xe0 ∷ 0x8f ∷ 0x00 ∷ 0xe4 ∷ 0x83 ∷ 0x0a ∷ 0xff ∷ 0x80 ∷ 0x81 ∷ []) ≡ (message 15 (decimal (negsuc 1) (pos 100) ∷ vector (0x0a ∷ 0xff ∷ []) ∷ []) ∷ message 15 (decimal (negsuc 1) (pos 101) ∷ vector (0x0a ∷ 0xff ∷ []) ∷ []) ∷ [], None)
constant_exponent = ap (answer (0xe0 ∷ 0x8f ∷ 0x00 ∷ 0xe4 ∷ 0x83 ∷ 0x0a ∷ 0xff ∷ 0x80 ∷ 0x81 ∷ [])) (one_more 9 _ _ _ constant_exponent_first (one_more 8 _ _ _ constant_exponent_second refl))

-- ---- Groups and sequences

-- L=-, L=[], and L=[{P=5} {P=6}]
pub lengths : read (0xc0 ∷ 0x84 ∷ 0x80 ∷ 0x80 ∷ 0x81 ∷ 0x80 ∷ 0x83 ∷ 0x85 ∷ 0x86 ∷ []) ≡ (message 4 (absent ∷ []) ∷ message 4 (sequence [] ∷ []) ∷ message 4 (sequence ((u32 5 ∷ []) ∷ (u32 6 ∷ []) ∷ []) ∷ []) ∷ [], None)
unfolding reading
lengths = rw (among_1, among_1, among_2, among_2) refl

-- Each element has its own map: L=[{Q=5} {Q=5}]
pub maps_of_elements : read (0xc0 ∷ 0x85 ∷ 0x82 ∷ 0xc0 ∷ 0x85 ∷ 0x80 ∷ []) ≡ (message 5 (sequence ((u32 5 ∷ []) ∷ (u32 5 ∷ []) ∷ []) ∷ []) ∷ [], None)
unfolding reading
maps_of_elements = rw (among_1, among_2) refl

-- a length of 65,536
pub too_many_elements : read (0xc0 ∷ 0x84 ∷ 0x04 ∷ 0x00 ∷ 0x81 ∷ []) ≡ ([], refused Limit 1 2 4 1)
unfolding reading
too_many_elements = refl

abbrev grouped : Dictionary
grouped = puts finite.empty ((identifier_key, Some (U32 11)) ∷ (named (codes "A"), Some (U32 5)) ∷ (named (codes "B"), Some (U32 6)) ∷ [])

groups_first : message_at Usual worked_set finite.empty (0xf0 ∷ 0x8b ∷ 0xc0 ∷ 0x85 ∷ 0x86 ∷ 0x80 ∷ 0xa0 ∷ 0x80 ∷ []) ≡ Ok (message 11 (group (u32 5 ∷ []) ∷ u32 6 ∷ []), grouped, 0x80 ∷ 0xa0 ∷ 0x80 ∷ [])
unfolding reading
groups_first = refl

abbrev ungrouped : Dictionary
ungrouped = puts grouped ((identifier_key, Some (U32 11)) ∷ (named (codes "B"), Some (U32 6)) ∷ [])

groups_second : message_at Usual worked_set grouped (0x80 ∷ 0xa0 ∷ 0x80 ∷ []) ≡ Ok (message 11 (absent ∷ u32 6 ∷ []), ungrouped, 0xa0 ∷ 0x80 ∷ [])
unfolding reading
groups_second = rw (among_3, among_4) refl

abbrev grouped_again : Dictionary
grouped_again = puts ungrouped ((identifier_key, Some (U32 11)) ∷ (named (codes "A"), Some (U32 5)) ∷ (named (codes "B"), Some (U32 6)) ∷ [])

groups_third : message_at Usual worked_set ungrouped (0xa0 ∷ 0x80 ∷ []) ≡ Ok (message 11 (group (u32 5 ∷ []) ∷ u32 6 ∷ []), grouped_again, [])
unfolding reading
groups_third = rw (among_5, among_6, among_7) refl

-- Hd={A=5} B=6, Hd=- B=6, and Hd={A=5} B=6
pub groups_there : read (0xf0 ∷ 0x8b ∷ 0xc0 ∷ 0x85 ∷ 0x86 ∷ 0x80 ∷ 0xa0 ∷ 0x80 ∷ []) ≡ (message 11 (group (u32 5 ∷ []) ∷ u32 6 ∷ []) ∷ message 11 (absent ∷ u32 6 ∷ []) ∷ message 11 (group (u32 5 ∷ []) ∷ u32 6 ∷ []) ∷ [], None)
groups_there = ap (answer (0xf0 ∷ 0x8b ∷ 0xc0 ∷ 0x85 ∷ 0x86 ∷ 0x80 ∷ 0xa0 ∷ 0x80 ∷ [])) (one_more 8 _ _ _ groups_first (one_more 7 _ _ _ groups_second (one_more 6 _ _ _ groups_third refl)))

-- ---- One key for two fields

abbrev clashed : Dictionary
clashed = puts finite.empty ((identifier_key, Some (U32 7)) ∷ (named (codes "K"), Some (U32 5)) ∷ (named (codes "K"), Some (Ascii (codes "A"))) ∷ [])

another_type_first : message_at Usual worked_set finite.empty (0xf0 ∷ 0x87 ∷ 0x85 ∷ 0xc1 ∷ 0x80 ∷ []) ≡ Ok (message 7 (u32 5 ∷ text (codes "A") ∷ []), clashed, 0x80 ∷ [])
unfolding reading
another_type_first = refl

another_type_second : message_at Usual worked_set clashed (0x80 ∷ []) ≡ Err (record { template = 7; stop = record { cause = D4; instruction = 1; left = 0 } })
unfolding reading
another_type_second = rw (among_3, among_4) refl

-- A=5 B="A", and then A finds the string
pub another_type : read (0xf0 ∷ 0x87 ∷ 0x85 ∷ 0xc1 ∷ 0x80 ∷ []) ≡ (message 7 (u32 5 ∷ text (codes "A") ∷ []) ∷ [], refused D4 2 5 7 1)
another_type = ap (answer (0xf0 ∷ 0x87 ∷ 0x85 ∷ 0xc1 ∷ 0x80 ∷ [])) (one_more 5 _ _ _ another_type_first (last_stop 4 _ _ _ another_type_second))

-- A=5 B="A", and A=6 B="A", both spelled out
pub another_type_unused : read (0xf0 ∷ 0x87 ∷ 0x85 ∷ 0xc1 ∷ 0xb0 ∷ 0x86 ∷ 0xc1 ∷ []) ≡ (message 7 (u32 5 ∷ text (codes "A") ∷ []) ∷ message 7 (u32 6 ∷ text (codes "A") ∷ []) ∷ [], None)
unfolding reading
another_type_unused = rw among_3 refl

-- A is absent, and B a delta on what it left
pub empty_entry : read (0xc0 ∷ 0x8d ∷ 0x85 ∷ []) ≡ ([], refused D6 1 2 13 2)
unfolding reading
empty_entry = rw (among_1, among_2) refl

-- ---- Copy, constant and default

-- A=5 B=6, and A=7 B=6
pub copied : read (0xe0 ∷ 0x90 ∷ 0x85 ∷ 0x86 ∷ 0xe0 ∷ 0x90 ∷ 0x87 ∷ 0x86 ∷ []) ≡ (message 16 (u32 5 ∷ u32 6 ∷ []) ∷ message 16 (u32 7 ∷ u32 6 ∷ []) ∷ [], None)
unfolding reading
copied = refl

abbrev fourteen : Dictionary
fourteen = puts finite.empty ((identifier_key, Some (U32 14)) ∷ [])

constants_first : message_at Usual worked_set finite.empty (0xe0 ∷ 0x8e ∷ 0x80 ∷ 0x90 ∷ 0x83 ∷ 0x90 ∷ 0x10 ∷ 0x00 ∷ 0x00 ∷ 0x00 ∷ 0x80 ∷ []) ≡ Ok (message 14 (u32 7 ∷ u32 9 ∷ u32 3 ∷ []), fourteen, 0x80 ∷ 0x90 ∷ 0x83 ∷ 0x90 ∷ 0x10 ∷ 0x00 ∷ 0x00 ∷ 0x00 ∷ 0x80 ∷ [])
unfolding reading
constants_first = rw (among_1, among_1, among_1) refl

abbrev fourteen_again : Dictionary
fourteen_again = puts fourteen ((identifier_key, Some (U32 14)) ∷ [])

constants_second : message_at Usual worked_set fourteen (0x80 ∷ 0x90 ∷ 0x83 ∷ 0x90 ∷ 0x10 ∷ 0x00 ∷ 0x00 ∷ 0x00 ∷ 0x80 ∷ []) ≡ Ok (message 14 (u32 7 ∷ absent ∷ u32 3 ∷ []), fourteen_again, 0x90 ∷ 0x83 ∷ 0x90 ∷ 0x10 ∷ 0x00 ∷ 0x00 ∷ 0x00 ∷ 0x80 ∷ [])
unfolding reading
constants_second = rw (among_1, among_2, among_2, among_2) refl

abbrev fourteen_thrice : Dictionary
fourteen_thrice = puts fourteen_again ((identifier_key, Some (U32 14)) ∷ [])

constants_third : message_at Usual worked_set fourteen_again (0x90 ∷ 0x83 ∷ 0x90 ∷ 0x10 ∷ 0x00 ∷ 0x00 ∷ 0x00 ∷ 0x80 ∷ []) ≡ Ok (message 14 (u32 7 ∷ absent ∷ u32 3 ∷ []), fourteen_thrice, 0x90 ∷ 0x10 ∷ 0x00 ∷ 0x00 ∷ 0x00 ∷ 0x80 ∷ [])
unfolding reading
constants_third = rw (among_2, among_3, among_3, among_3) refl

constants_fourth : message_at Usual worked_set fourteen_thrice (0x90 ∷ 0x10 ∷ 0x00 ∷ 0x00 ∷ 0x00 ∷ 0x80 ∷ []) ≡ Err (record { template = 14; stop = record { cause = D2; instruction = 3; left = 5 } })
unfolding reading
constants_fourth = rw among_3 refl

-- K=7 O=9 D=3; twice K=7 O=- D=3; and D past its type
pub constants : read (0xe0 ∷ 0x8e ∷ 0x80 ∷ 0x90 ∷ 0x83 ∷ 0x90 ∷ 0x10 ∷ 0x00 ∷ 0x00 ∷ 0x00 ∷ 0x80 ∷ []) ≡ (message 14 (u32 7 ∷ u32 9 ∷ u32 3 ∷ []) ∷ message 14 (u32 7 ∷ absent ∷ u32 3 ∷ []) ∷ message 14 (u32 7 ∷ absent ∷ u32 3 ∷ []) ∷ [], refused D2 4 6 14 3)
constants = ap (answer (0xe0 ∷ 0x8e ∷ 0x80 ∷ 0x90 ∷ 0x83 ∷ 0x90 ∷ 0x10 ∷ 0x00 ∷ 0x00 ∷ 0x00 ∷ 0x80 ∷ [])) (one_more 11 _ _ _ constants_first (one_more 10 _ _ _ constants_second (one_more 9 _ _ _ constants_third (last_stop 8 _ _ _ constants_fourth))))

-- ---- Entities that do not end

-- F0 81 and ten times 00
pub too_long : read (0xf0 ∷ 0x81 ∷ replicate 10 0x00) ≡ ([], refused Limit 1 2 1 1)
unfolding reading
too_long = refl

-- F0 81 and nine times 00
pub not_whole : read (0xf0 ∷ 0x81 ∷ replicate 9 0x00) ≡ ([], refused Truncated 1 2 1 1)
unfolding reading
not_whole = refl

-- 256 times 00
pub map_too_long : read (replicate 256 0x00) ≡ ([], refused Limit 1 0 0 0)
unfolding reading
map_too_long = refl

-- 255 times 00
pub map_not_whole : read (replicate 255 0x00) ≡ ([], refused Truncated 1 0 0 0)
unfolding reading
map_not_whole = refl

-- ---- The limit of nodes, which is seen with fewer nodes than 65,536: how many may still come, and the bytes

abbrev may_come : ℕ → List ℕ → Cursor
may_come spare bytes = record { dictionary = finite.empty; bits = []; spare = spare; bytes = bytes }

-- a sequence of three elements without fields is four nodes: 83
four_nodes : body_at Usual bare.members (may_come 4 (0x83 ∷ [])) ≡ Ok (items_of (sequence ([] ∷ [] ∷ [] ∷ []) ∷ []), may_come 0 [])
unfolding reading
four_nodes = rw absent_there refl

-- the fourth is refused where three may come, at the sequence's number
three_may_come : body_at Usual bare.members (may_come 3 (0x83 ∷ [])) ≡ Err (record { cause = Limit; instruction = 1; left = 0 })
unfolding reading
three_may_come = refl

-- a node is counted before its bytes are looked at: 83 85, where an element's P would be the fourth
counted_first : body_at Usual legs.members (may_come 2 (0x83 ∷ 0x85 ∷ [])) ≡ Err (record { cause = Limit; instruction = 2; left = 1 })
unfolding reading
counted_first = refl

-- and 83, where an element's P is not there: still the limit
counted_before_the_end : body_at Usual legs.members (may_come 2 (0x83 ∷ [])) ≡ Err (record { cause = Limit; instruction = 2; left = 0 })
unfolding reading
counted_before_the_end = refl

-- ---- Faults inside a group, an element and a decimal in parts

-- F0 8B: the group's map is not there
pub no_map_of_group : read (0xf0 ∷ 0x8b ∷ []) ≡ ([], refused Truncated 1 2 11 1)
unfolding reading
no_map_of_group = refl

-- F0 8B C0: its A is not there
pub no_field_of_group : read (0xf0 ∷ 0x8b ∷ 0xc0 ∷ []) ≡ ([], refused Truncated 1 3 11 2)
unfolding reading
no_field_of_group = refl

-- F0 8B 80: its A is left out, and no value predicts it
pub no_value_in_group : read (0xf0 ∷ 0x8b ∷ 0x80 ∷ []) ≡ ([], refused D5 1 3 11 2)
unfolding reading
no_value_in_group = rw among_1 refl

-- C0 85 82: the first element's map is not there
pub no_map_of_element : read (0xc0 ∷ 0x85 ∷ 0x82 ∷ []) ≡ ([], refused Truncated 1 3 5 1)
unfolding reading
no_map_of_element = refl

-- C0 85 82 C0 85: the second element's is not
pub no_map_of_second_element : read (0xc0 ∷ 0x85 ∷ 0x82 ∷ 0xc0 ∷ 0x85 ∷ []) ≡ ([], refused Truncated 1 5 5 1)
unfolding reading
no_map_of_second_element = refl

-- F0 83 83: the mantissa is not there
pub no_mantissa : read (0xf0 ∷ 0x83 ∷ 0x83 ∷ []) ≡ ([], refused Truncated 1 3 3 1)
unfolding reading
no_mantissa = refl

-- F0 83 83 and behind them 2^63 in ten bytes: no mantissa is so large
pub mantissa_too_large : read (0xf0 ∷ 0x83 ∷ 0x83 ∷ 0x01 ∷ 0x00 ∷ 0x00 ∷ 0x00 ∷ 0x00 ∷ 0x00 ∷ 0x00 ∷ 0x00 ∷ 0x00 ∷ 0x80 ∷ []) ≡ ([], refused R1 1 3 3 1)
unfolding reading
mantissa_too_large = refl

-- C0 10 00 00 00 80: an identifier of 2^32, with no template and no instruction
pub identifier_too_large : read (0xc0 ∷ 0x10 ∷ 0x00 ∷ 0x00 ∷ 0x00 ∷ 0x80 ∷ []) ≡ ([], refused D2 1 1 0 0)
unfolding reading
identifier_too_large = refl

-- ---- Small numbers of nodes, under bits of a map

abbrev under_bits : List Bool → ℕ → List ℕ → Cursor
under_bits bits spare bytes = record { dictionary = finite.empty; bits = bits; spare = spare; bytes = bytes }

-- C0 85 86 under 1 1: the group is a node, its A another
group_counts : body_at Usual grp.members (under_bits (true ∷ true ∷ []) 1 (0xc0 ∷ 0x85 ∷ 0x86 ∷ [])) ≡ Err (record { cause = Limit; instruction = 2; left = 2 })
unfolding reading
group_counts = refl

-- and B the third
third_of_two : body_at Usual grp.members (under_bits (true ∷ true ∷ []) 2 (0xc0 ∷ 0x85 ∷ 0x86 ∷ [])) ≡ Err (record { cause = Limit; instruction = 3; left = 1 })
unfolding reading
third_of_two = refl

-- 86 under 0 1: an absent group is a node
absent_group_counts : body_at Usual grp.members (under_bits (false ∷ true ∷ []) 1 (0x86 ∷ [])) ≡ Err (record { cause = Limit; instruction = 3; left = 1 })
unfolding reading
absent_group_counts = refl

no_node_for_a_group : body_at Usual grp.members (under_bits (false ∷ true ∷ []) 0 (0x86 ∷ [])) ≡ Err (record { cause = Limit; instruction = 1; left = 1 })
unfolding reading
no_node_for_a_group = refl

-- 39 45 A3 under 0 1: a decimal in parts is one node
parts_count_once : body_at Usual opt.members (under_bits (false ∷ true ∷ []) 1 (0x39 ∷ 0x45 ∷ 0xa3 ∷ [])) ≡ Err (record { cause = Limit; instruction = 2; left = 0 })
unfolding reading
parts_count_once = refl

no_node_for_parts : body_at Usual opt.members (under_bits (false ∷ true ∷ []) 0 (0x39 ∷ 0x45 ∷ 0xa3 ∷ [])) ≡ Err (record { cause = Limit; instruction = 1; left = 3 })
unfolding reading
no_node_for_parts = refl

-- a message has at most so many nodes
limit_of_nodes : node_limit ≡ 65536
limit_of_nodes = refl

-- ---- The strict level

abbrev pub read_strictly : List ℕ → List Content × Option Fault
read_strictly stream = answer stream (stream_at (plainly Strict) worked_set stream)

-- F0 81 81 41 C2 FE 00 E4
pub one_message_strictly : read_strictly (0xf0 ∷ 0x81 ∷ 0x81 ∷ 0x41 ∷ 0xc2 ∷ 0xfe ∷ 0x00 ∷ 0xe4 ∷ []) ≡ (quote 1 100 ∷ [], None)
unfolding reading
one_message_strictly = rw (among_3, among_4) refl

-- F0 81 00 00 81 41 C2 FE 00 E4
pub overlong_integer_strictly : read_strictly (0xf0 ∷ 0x81 ∷ 0x00 ∷ 0x00 ∷ 0x81 ∷ 0x41 ∷ 0xc2 ∷ 0xfe ∷ 0x00 ∷ 0xe4 ∷ []) ≡ ([], refused R6 1 2 1 1)
unfolding reading
overlong_integer_strictly = refl

-- 70 00 80 81 81 41 C2 FE 00 E4
pub overlong_map_strictly : read_strictly (0x70 ∷ 0x00 ∷ 0x80 ∷ 0x81 ∷ 0x81 ∷ 0x41 ∷ 0xc2 ∷ 0xfe ∷ 0x00 ∷ 0xe4 ∷ []) ≡ ([], refused R7 1 0 0 0)
unfolding reading
overlong_map_strictly = refl

-- F1 81 81 41 C2 FE 00 E4
pub unasked_bit_strictly : read_strictly (0xf1 ∷ 0x81 ∷ 0x81 ∷ 0x41 ∷ 0xc2 ∷ 0xfe ∷ 0x00 ∷ 0xe4 ∷ []) ≡ ([], refused R8 1 8 1 0)
unfolding reading
unasked_bit_strictly = rw (among_3, among_4) refl

-- F0 81 81 00 C1 FE 00 E4
pub overlong_text_strictly : read_strictly (0xf0 ∷ 0x81 ∷ 0x81 ∷ 0x00 ∷ 0xc1 ∷ 0xfe ∷ 0x00 ∷ 0xe4 ∷ []) ≡ ([], refused R9 1 3 1 2)
unfolding reading
overlong_text_strictly = refl

-- F8 81 81 41 C2 FE 00 E4 00 80
pub overlong_null_strictly : read_strictly (0xf8 ∷ 0x81 ∷ 0x81 ∷ 0x41 ∷ 0xc2 ∷ 0xfe ∷ 0x00 ∷ 0xe4 ∷ 0x00 ∷ 0x80 ∷ []) ≡ ([], refused R6 1 8 1 4)
unfolding reading
overlong_null_strictly = rw among_3 refl

-- F0 81 81 41 C2 7F FE 00 E4
pub overlong_delta_strictly : read_strictly (0xf0 ∷ 0x81 ∷ 0x81 ∷ 0x41 ∷ 0xc2 ∷ 0x7f ∷ 0xfe ∷ 0x00 ∷ 0xe4 ∷ []) ≡ ([], refused R6 1 5 1 3)
unfolding reading
overlong_delta_strictly = refl

-- F8 83 80 85
pub bit_of_no_mantissa_strictly : read_strictly (0xf8 ∷ 0x83 ∷ 0x80 ∷ 0x85 ∷ []) ≡ ([], refused R8 1 4 3 0)
unfolding reading
bit_of_no_mantissa_strictly = refl

-- F8 83 83 39 45 A3 85
pub bit_of_a_mantissa_strictly : read_strictly (0xf8 ∷ 0x83 ∷ 0x83 ∷ 0x39 ∷ 0x45 ∷ 0xa3 ∷ 0x85 ∷ []) ≡ (message 3 (decimal (pos 2) (pos 942755) ∷ u32 5 ∷ []) ∷ [], None)
unfolding reading
bit_of_a_mantissa_strictly = refl

-- ---- Blocks: a size, and as many bytes

abbrev pub read_blocks : List ℕ → List Content × Option Fault
read_blocks stream = answer stream (stream_at (in_blocks Usual) worked_set stream)

abbrev pub read_blocks_strictly : List ℕ → List Content × Option Fault
read_blocks_strictly stream = answer stream (stream_at (in_blocks Strict) worked_set stream)

-- a stream of one message more, and one that stops
block_more : (n : ℕ) (s : Stand) (b : ℕ) (bytes : List ℕ) {rest : List ℕ} {t : Stand} {m : Content} {r : StreamReading}
    → in_block_at Usual worked_set s (b ∷ bytes) ≡ Ok (m, t, rest) → messages_at (in_blocks Usual) n worked_set t rest ≡ r
    → messages_at (in_blocks Usual) (suc n) worked_set s (b ∷ bytes) ≡ record { messages = m ∷ r.messages; fault = r.fault }
block_more n s b bytes h t = rw (h, t) refl

block_stop : (n : ℕ) (s : Stand) (b : ℕ) (bytes : List ℕ) {stop : MessageStop}
    → in_block_at Usual worked_set s (b ∷ bytes) ≡ Err stop → messages_at (in_blocks Usual) (suc n) worked_set s (b ∷ bytes) ≡ record { messages = []; fault = Some stop }
block_stop n s b bytes h = rw h refl

-- nothing
pub no_block : read_blocks ([]) ≡ ([], None)
unfolding reading in_block_at
no_block = refl

-- 88 F0 81 81 41 C2 FE 00 E4
pub one_block : read_blocks (0x88 ∷ 0xf0 ∷ 0x81 ∷ 0x81 ∷ 0x41 ∷ 0xc2 ∷ 0xfe ∷ 0x00 ∷ 0xe4 ∷ []) ≡ (quote 1 100 ∷ [], None)
unfolding reading in_block_at
one_block = rw (among_3, among_4) refl

-- 00 88 F0 81 81 41 C2 FE 00 E4
pub long_size : read_blocks (0x00 ∷ 0x88 ∷ 0xf0 ∷ 0x81 ∷ 0x81 ∷ 0x41 ∷ 0xc2 ∷ 0xfe ∷ 0x00 ∷ 0xe4 ∷ []) ≡ (quote 1 100 ∷ [], None)
unfolding reading in_block_at
long_size = rw (among_3, among_4) refl

-- 00 88 F0 81 81 41 C2 FE 00 E4
pub long_size_strictly : read_blocks_strictly (0x00 ∷ 0x88 ∷ 0xf0 ∷ 0x81 ∷ 0x81 ∷ 0x41 ∷ 0xc2 ∷ 0xfe ∷ 0x00 ∷ 0xe4 ∷ []) ≡ ([], refused R6 1 0 0 0)
unfolding reading in_block_at
long_size_strictly = refl

-- 88 F0 81 81 41 C2 FE 00 E4
pub one_block_strictly : read_blocks_strictly (0x88 ∷ 0xf0 ∷ 0x81 ∷ 0x81 ∷ 0x41 ∷ 0xc2 ∷ 0xfe ∷ 0x00 ∷ 0xe4 ∷ []) ≡ (quote 1 100 ∷ [], None)
unfolding reading in_block_at
one_block_strictly = rw (among_3, among_4) refl

-- 80
pub empty_block : read_blocks (0x80 ∷ []) ≡ ([], refused D12 1 0 0 0)
unfolding reading in_block_at
empty_block = refl

-- 00 80
pub long_zero : read_blocks (0x00 ∷ 0x80 ∷ []) ≡ ([], refused D12 1 0 0 0)
unfolding reading in_block_at
long_zero = refl

-- 00 80
pub long_zero_strictly : read_blocks_strictly (0x00 ∷ 0x80 ∷ []) ≡ ([], refused R6 1 0 0 0)
unfolding reading in_block_at
long_zero_strictly = refl

-- 87 F0 81 81 41 C2 FE 00 E4
pub block_too_short : read_blocks (0x87 ∷ 0xf0 ∷ 0x81 ∷ 0x81 ∷ 0x41 ∷ 0xc2 ∷ 0xfe ∷ 0x00 ∷ 0xe4 ∷ []) ≡ ([], refused BlockEnd 1 6 1 3)
unfolding reading in_block_at
block_too_short = rw among_3 refl

-- 88 F0 81 81 41 C2 FE 00
pub block_cut : read_blocks (0x88 ∷ 0xf0 ∷ 0x81 ∷ 0x81 ∷ 0x41 ∷ 0xc2 ∷ 0xfe ∷ 0x00 ∷ []) ≡ ([], refused Truncated 1 6 1 3)
unfolding reading in_block_at
block_cut = rw among_3 refl

-- 81 C0
pub block_ends_at_once : read_blocks (0x81 ∷ 0xc0 ∷ []) ≡ ([], refused BlockEnd 1 2 0 0)
unfolding reading in_block_at
block_ends_at_once = refl

-- 81 80
pub fault_without_bytes : read_blocks (0x81 ∷ 0x80 ∷ []) ≡ ([], refused D5 1 2 0 0)
unfolding reading in_block_at
fault_without_bytes = rw absent_there refl

-- 85 and ten bytes 00: five of them are in the block
pub block_of_five : read_blocks (0x85 ∷ replicate 10 0x00) ≡ ([], refused BlockEnd 1 1 0 0)
unfolding reading in_block_at
block_of_five = refl

-- ten bytes 00 between blocks
pub size_too_long : read_blocks (replicate 10 0x00) ≡ ([], refused Limit 1 0 0 0)
unfolding reading in_block_at
size_too_long = refl

pub size_not_whole : read_blocks (replicate 9 0x00) ≡ ([], refused Truncated 1 0 0 0)
unfolding reading in_block_at
size_not_whole = refl

two_first : in_block_at Usual worked_set at_start (0x8b ∷ 0xf0 ∷ 0x81 ∷ 0x81 ∷ 0x41 ∷ 0xc2 ∷ 0xfe ∷ 0x00 ∷ 0xe4 ∷ 0x80 ∷ 0x80 ∷ 0x81 ∷ []) ≡ Ok (quote 1 100, record { dictionary = quoted; left = 3 }, 0x80 ∷ 0x80 ∷ 0x81 ∷ [])
unfolding reading in_block_at
two_first = rw (among_3, among_4) refl

two_second : in_block_at Usual worked_set (record { dictionary = quoted; left = 3 }) (0x80 ∷ 0x80 ∷ 0x81 ∷ []) ≡ Ok (quote 2 101, record { dictionary = quoted_again; left = 0 }, [])
unfolding reading in_block_at
two_second = rw (among_5, among_6, among_7, among_8, among_9) refl

-- 8B F0 81 81 41 C2 FE 00 E4 80 80 81
pub two_in_a_block : read_blocks (0x8b ∷ 0xf0 ∷ 0x81 ∷ 0x81 ∷ 0x41 ∷ 0xc2 ∷ 0xfe ∷ 0x00 ∷ 0xe4 ∷ 0x80 ∷ 0x80 ∷ 0x81 ∷ []) ≡ (quote 1 100 ∷ quote 2 101 ∷ [], None)
two_in_a_block = ap (answer (0x8b ∷ 0xf0 ∷ 0x81 ∷ 0x81 ∷ 0x41 ∷ 0xc2 ∷ 0xfe ∷ 0x00 ∷ 0xe4 ∷ 0x80 ∷ 0x80 ∷ 0x81 ∷ [])) (block_more 12 _ _ _ two_first (block_more 11 _ _ _ two_second refl))

blocks_first : in_block_at Usual worked_set at_start (0x88 ∷ 0xf0 ∷ 0x81 ∷ 0x81 ∷ 0x41 ∷ 0xc2 ∷ 0xfe ∷ 0x00 ∷ 0xe4 ∷ 0x83 ∷ 0x80 ∷ 0x80 ∷ 0x81 ∷ []) ≡ Ok (quote 1 100, record { dictionary = quoted; left = 0 }, 0x83 ∷ 0x80 ∷ 0x80 ∷ 0x81 ∷ [])
unfolding reading in_block_at
blocks_first = rw (among_3, among_4) refl

blocks_second : in_block_at Usual worked_set (record { dictionary = quoted; left = 0 }) (0x83 ∷ 0x80 ∷ 0x80 ∷ 0x81 ∷ []) ≡ Ok (quote 2 101, record { dictionary = quoted_again; left = 0 }, [])
unfolding reading in_block_at
blocks_second = rw (among_5, among_6, among_7, among_8, among_9) refl

-- the dictionary goes on from block to block
-- 88 F0 81 81 41 C2 FE 00 E4 83 80 80 81
pub two_blocks : read_blocks (0x88 ∷ 0xf0 ∷ 0x81 ∷ 0x81 ∷ 0x41 ∷ 0xc2 ∷ 0xfe ∷ 0x00 ∷ 0xe4 ∷ 0x83 ∷ 0x80 ∷ 0x80 ∷ 0x81 ∷ []) ≡ (quote 1 100 ∷ quote 2 101 ∷ [], None)
two_blocks = ap (answer (0x88 ∷ 0xf0 ∷ 0x81 ∷ 0x81 ∷ 0x41 ∷ 0xc2 ∷ 0xfe ∷ 0x00 ∷ 0xe4 ∷ 0x83 ∷ 0x80 ∷ 0x80 ∷ 0x81 ∷ [])) (block_more 13 _ _ _ blocks_first (block_more 12 _ _ _ blocks_second refl))

zero_first : in_block_at Usual worked_set at_start (0x88 ∷ 0xf0 ∷ 0x81 ∷ 0x81 ∷ 0x41 ∷ 0xc2 ∷ 0xfe ∷ 0x00 ∷ 0xe4 ∷ 0x80 ∷ []) ≡ Ok (quote 1 100, record { dictionary = quoted; left = 0 }, 0x80 ∷ [])
unfolding reading in_block_at
zero_first = rw (among_3, among_4) refl

zero_second : in_block_at Usual worked_set (record { dictionary = quoted; left = 0 }) (0x80 ∷ []) ≡ Err (record { template = 0; stop = record { cause = D12; instruction = 0; left = 1 } })
unfolding reading in_block_at
zero_second = refl

-- 88 F0 81 81 41 C2 FE 00 E4 80
pub empty_second_block : read_blocks (0x88 ∷ 0xf0 ∷ 0x81 ∷ 0x81 ∷ 0x41 ∷ 0xc2 ∷ 0xfe ∷ 0x00 ∷ 0xe4 ∷ 0x80 ∷ []) ≡ (quote 1 100 ∷ [], refused D12 2 9 0 0)
empty_second_block = ap (answer (0x88 ∷ 0xf0 ∷ 0x81 ∷ 0x81 ∷ 0x41 ∷ 0xc2 ∷ 0xfe ∷ 0x00 ∷ 0xe4 ∷ 0x80 ∷ [])) (block_more 10 _ _ _ zero_first (block_stop 9 _ _ _ zero_second))

over_first : in_block_at Usual worked_set at_start (0x89 ∷ 0xf0 ∷ 0x81 ∷ 0x81 ∷ 0x41 ∷ 0xc2 ∷ 0xfe ∷ 0x00 ∷ 0xe4 ∷ 0x80 ∷ []) ≡ Ok (quote 1 100, record { dictionary = quoted; left = 1 }, 0x80 ∷ [])
unfolding reading in_block_at
over_first = rw (among_3, among_4) refl

over_second : in_block_at Usual worked_set (record { dictionary = quoted; left = 1 }) (0x80 ∷ []) ≡ Err (record { template = 1; stop = record { cause = BlockEnd; instruction = 3; left = 0 } })
unfolding reading in_block_at
over_second = rw (among_5, among_6, among_7) refl

-- 89 F0 81 81 41 C2 FE 00 E4 80
pub message_past_its_block : read_blocks (0x89 ∷ 0xf0 ∷ 0x81 ∷ 0x81 ∷ 0x41 ∷ 0xc2 ∷ 0xfe ∷ 0x00 ∷ 0xe4 ∷ 0x80 ∷ []) ≡ (quote 1 100 ∷ [], refused BlockEnd 2 10 1 3)
message_past_its_block = ap (answer (0x89 ∷ 0xf0 ∷ 0x81 ∷ 0x81 ∷ 0x41 ∷ 0xc2 ∷ 0xfe ∷ 0x00 ∷ 0xe4 ∷ 0x80 ∷ [])) (block_more 10 _ _ _ over_first (block_stop 9 _ _ _ over_second))

unended_first : in_block_at Usual worked_set at_start (0x89 ∷ 0xf0 ∷ 0x81 ∷ 0x81 ∷ 0x41 ∷ 0xc2 ∷ 0xfe ∷ 0x00 ∷ 0xe4 ∷ []) ≡ Ok (quote 1 100, record { dictionary = quoted; left = 1 }, [])
unfolding reading in_block_at
unended_first = rw (among_3, among_4) refl

unended_second : messages_at (in_blocks Usual) 9 worked_set (record { dictionary = quoted; left = 1 }) [] ≡ record { messages = []; fault = Some (record { template = 0; stop = record { cause = Truncated; instruction = 0; left = 0 } }) }
unfolding reading in_block_at
unended_second = refl

-- 89 F0 81 81 41 C2 FE 00 E4
pub unended_block : read_blocks (0x89 ∷ 0xf0 ∷ 0x81 ∷ 0x81 ∷ 0x41 ∷ 0xc2 ∷ 0xfe ∷ 0x00 ∷ 0xe4 ∷ []) ≡ (quote 1 100 ∷ [], refused Truncated 2 9 0 0)
unended_block = ap (answer (0x89 ∷ 0xf0 ∷ 0x81 ∷ 0x81 ∷ 0x41 ∷ 0xc2 ∷ 0xfe ∷ 0x00 ∷ 0xe4 ∷ [])) (block_more 9 _ _ _ unended_first unended_second)
