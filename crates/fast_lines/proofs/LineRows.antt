-- The worked lines of each form, computed, and messages that have none.
use Rattle.fast_lines.proofs.Common.{◌≡◌, ℕ, pos, negsuc, List, [], ◌∷◌, ◌++◌, Option, Some, None, map, refl, codes, digits, encode_with, Instruction, Resolved, group_of, no_instructions, then_instruction, Optional, Int64, Ascii, Unicode, Bytes, Scalar, quote, wrap, opt, legs, bare, tail, grp, uni, const, fixed, first, Content, Text, Json, line_by, value_text}
use Rattle.fast_stream.proofs.Rows.{absent, decimal, group, message, sequence, text, u32, unicode, vector}

-- the text of a message of a template
abbrev shown : Resolved → Content → Option (List ℕ)
shown t m = line_by Text t.name t.members m

abbrev in_json : Resolved → Content → Option (List ℕ)
in_json t m = line_by Json t.name t.members m

-- each text of a table is the one beside it
abbrev AllSo : List (Option (List ℕ) × Option (List ℕ)) → Type 0
AllSo rows = map (λ r. r.0) rows ≡ map (λ r. r.1) rows

-- ---- lines

lines : AllSo (
    (shown quote (message 1 (u32 1 ∷ text (codes "AB") ∷ decimal (negsuc 1) (pos 100) ∷ absent ∷ [])), Some (codes "1 Quote Seq=1 Sym=\"AB\" Px=100e-2 Qty=-\n")) ∷
    (shown wrap (message 2 (u32 0 ∷ u32 4294967295 ∷ [])), Some (codes "2 Wrap A=0 B=4294967295\n")) ∷
    (shown opt (message 3 (absent ∷ u32 5 ∷ [])), Some (codes "3 Opt Px=- Flag=5\n")) ∷
    (shown opt (message 3 (decimal (pos 2) (pos 942755) ∷ u32 5 ∷ [])), Some (codes "3 Opt Px=942755e2 Flag=5\n")) ∷
    (shown legs (message 4 (absent ∷ [])), Some (codes "4 Legs L=-\n")) ∷
    (shown legs (message 4 (sequence [] ∷ [])), Some (codes "4 Legs L=[]\n")) ∷
    (shown legs (message 4 (sequence ((u32 5 ∷ []) ∷ (u32 6 ∷ []) ∷ []) ∷ [])), Some (codes "4 Legs L=[{P=5} {P=6}]\n")) ∷
    (shown bare (message 6 (sequence ([] ∷ [] ∷ []) ∷ [])), Some (codes "6 Bare L=[{} {}]\n")) ∷
    (shown tail (message 8 (text (120 ∷ 0 ∷ 98 ∷ []) ∷ [])), Some (codes "8 Tail S=\"x\\x00b\"\n")) ∷
    (shown grp (message 11 (group (u32 5 ∷ []) ∷ u32 6 ∷ [])), Some (codes "11 Grp Hd={A=5} B=6\n")) ∷
    (shown grp (message 11 (absent ∷ u32 6 ∷ [])), Some (codes "11 Grp Hd=- B=6\n")) ∷
    (shown uni (message 12 (unicode (0xc3 ∷ 0xa9 ∷ []) ∷ [])), Some (codes "12 Uni S=\"\\xc3\\xa9\"\n")) ∷
    (shown const (message 14 (u32 7 ∷ absent ∷ u32 3 ∷ [])), Some (codes "14 Const K=7 O=- D=3\n")) ∷
    (shown fixed (message 15 (decimal (negsuc 1) (pos 100) ∷ vector (0x0a ∷ 0xff ∷ []) ∷ [])), Some (codes "15 Fixed Px=100e-2 Raw=x0aff\n")) ∷
    (shown first (message 16 (u32 5 ∷ u32 6 ∷ [])), Some (codes "16 First A=5 B=6\n")) ∷
    [])
unfolding digits encode_with
lines = refl

-- ---- single values

values : AllSo (
    (value_text Text Int64 (Scalar.I64 (negsuc 41)), Some (codes "-42")) ∷
    (shown fixed (message 15 (decimal (pos 0) (negsuc 0) ∷ absent ∷ [])), Some (codes "15 Fixed Px=-1e0 Raw=-\n")) ∷
    -- a quote, a backslash, a space, `~` and DEL
    (value_text Text Ascii (Scalar.Ascii (0x22 ∷ 0x5c ∷ 0x20 ∷ 0x7e ∷ 0x7f ∷ [])), Some (codes "\"\\x22\\x5c ~\\x7f\"")) ∷
    (value_text Text Ascii (Scalar.Ascii []), Some (codes "\"\"")) ∷
    (value_text Text Bytes (Scalar.Bytes []), Some (codes "x")) ∷
    (line_by Text (codes "Void") no_instructions (message 20 []), Some (codes "20 Void\n")) ∷
    [])
unfolding digits encode_with
values = refl

-- a group of no instructions
abbrev nothing_in : List ℕ → Instruction
nothing_in name = group_of name 1 Optional no_instructions

-- ---- the same in JSON

json : AllSo (
    (in_json quote (message 1 (u32 1 ∷ text (codes "AB") ∷ decimal (negsuc 1) (pos 100) ∷ absent ∷ [])), Some (codes "{\"template\":\"Quote\",\"id\":1,\"fields\":{\"Seq\":1,\"Sym\":\"AB\",\"Px\":100e-2,\"Qty\":null}}\n")) ∷
    (in_json opt (message 3 (decimal (pos 2) (negsuc 942754) ∷ u32 4294967295 ∷ [])), Some (codes "{\"template\":\"Opt\",\"id\":3,\"fields\":{\"Px\":-942755e2,\"Flag\":4294967295}}\n")) ∷
    (in_json legs (message 4 (absent ∷ [])), Some (codes "{\"template\":\"Legs\",\"id\":4,\"fields\":{\"L\":null}}\n")) ∷
    (in_json legs (message 4 (sequence [] ∷ [])), Some (codes "{\"template\":\"Legs\",\"id\":4,\"fields\":{\"L\":[]}}\n")) ∷
    (in_json legs (message 4 (sequence ((u32 5 ∷ []) ∷ (u32 6 ∷ []) ∷ []) ∷ [])), Some (codes "{\"template\":\"Legs\",\"id\":4,\"fields\":{\"L\":[{\"P\":5},{\"P\":6}]}}\n")) ∷
    (in_json bare (message 6 (sequence ([] ∷ [] ∷ []) ∷ [])), Some (codes "{\"template\":\"Bare\",\"id\":6,\"fields\":{\"L\":[{},{}]}}\n")) ∷
    (in_json grp (message 11 (group (u32 5 ∷ []) ∷ u32 6 ∷ [])), Some (codes "{\"template\":\"Grp\",\"id\":11,\"fields\":{\"Hd\":{\"A\":5},\"B\":6}}\n")) ∷
    (in_json grp (message 11 (absent ∷ u32 6 ∷ [])), Some (codes "{\"template\":\"Grp\",\"id\":11,\"fields\":{\"Hd\":null,\"B\":6}}\n")) ∷
    (in_json fixed (message 15 (decimal (negsuc 1) (pos 100) ∷ vector (0x0a ∷ 0xff ∷ []) ∷ [])), Some (codes "{\"template\":\"Fixed\",\"id\":15,\"fields\":{\"Px\":100e-2,\"Raw\":\"0aff\"}}\n")) ∷
    -- a quote, a backslash, a space, `~`, and the control characters around them
    (value_text Json Ascii (Scalar.Ascii (0x22 ∷ 0x5c ∷ 0x20 ∷ 0x7e ∷ 0x00 ∷ 0x1f ∷ 0x7f ∷ [])), Some (codes "\"\\\"\\\\ ~\\u0000\\u001f\\u007f\"")) ∷
    -- bytes above 0x7F
    (value_text Json Unicode (Scalar.Unicode (0x22 ∷ 0xc2 ∷ 0x80 ∷ 0xf4 ∷ 0x8f ∷ 0xbf ∷ 0xbf ∷ [])), Some (codes "\"\\\"" ++ (0xc2 ∷ 0x80 ∷ 0xf4 ∷ 0x8f ∷ 0xbf ∷ 0xbf ∷ []) ++ codes "\"")) ∷
    (value_text Json Ascii (Scalar.Ascii []), Some (codes "\"\"")) ∷
    (value_text Json Bytes (Scalar.Bytes []), Some (codes "\"\"")) ∷
    (value_text Json Int64 (Scalar.I64 (negsuc 9223372036854775807)), Some (codes "-9223372036854775808")) ∷
    (line_by Json (codes "Void") no_instructions (message 20 []), Some (codes "{\"template\":\"Void\",\"id\":20,\"fields\":{}}\n")) ∷
    -- names that are escaped, that stand twice, and that are empty
    (line_by Json (codes "a\"b") (then_instruction (nothing_in (codes "\\")) (then_instruction (nothing_in (codes "\\")) (then_instruction (nothing_in []) no_instructions))) (message 20 (absent ∷ group [] ∷ absent ∷ [])), Some (codes "{\"template\":\"a\\\"b\",\"id\":20,\"fields\":{\"\\\\\":null,\"\\\\\":{},\"\":null}}\n")) ∷
    (in_json first (message 16 (u32 5 ∷ absent ∷ [])), None) ∷  -- absent mandatory
    (value_text Json Ascii (Scalar.Ascii (128 ∷ [])), None) ∷  -- no character
    [])
unfolding digits encode_with
json = refl

-- ---- messages that are not of their template

others : AllSo (
    (shown bare (message 6 []), None) ∷  -- too few
    (shown legs (message 4 (absent ∷ absent ∷ [])), None) ∷  -- too many
    (shown first (message 16 (u32 5 ∷ text (codes "6") ∷ [])), None) ∷  -- of another type
    (shown first (message 16 (u32 5 ∷ absent ∷ [])), None) ∷  -- absent mandatory
    (shown bare (message 6 (absent ∷ [])), None) ∷  -- absent sequence
    (shown first (message 16 (u32 5 ∷ group [] ∷ [])), None) ∷  -- group for field
    (shown legs (message 4 (sequence ((u32 5 ∷ []) ∷ [] ∷ []) ∷ [])), None) ∷  -- element of none
    (value_text Text Ascii (Scalar.Ascii (128 ∷ [])), None) ∷  -- no character
    [])
unfolding digits encode_with
others = refl
