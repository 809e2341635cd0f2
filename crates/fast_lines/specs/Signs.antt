-- The signs of each form of a line (our own).
use Rattle.std.specs.Prelude.{ℕ, ◌==◌, nat_le, Bool, true, false, ◌&&◌, ◌||◌, not, if◌then◌else◌, List, [], ◌∷◌, ◌++◌, codes, decimal}
use Rattle.std.specs.List.{flat_map}
use Rattle.hex.specs.Hex.{encode_lower}
use Rattle.fast_lines.specs.declared.form.Form.{Form}
use Rattle.fast_lines.specs.declared.form.Form.TheVariants.{Text, Json}

-- ---- strings

-- the bytes 0x20 to 0x7E, but for `"` and `\`
abbrev pub is_plain : ℕ → Bool
is_plain c = nat_le 0x20 c && nat_le c 0x7e && not (c == 0x22) && not (c == 0x5c)

-- the control characters of ASCII
abbrev pub is_control : ℕ → Bool
is_control c = not (nat_le 0x20 c) || c == 0x7f

-- a byte of a string: in a text as it is, or `\x` and two hex digits; in JSON a control character as `\u00` and two hex
-- digits, `"` and `\` behind a backslash, and any other byte as it is
abbrev pub unit_text : Form → ℕ → List ℕ
unit_text Text c = if is_plain c then c ∷ [] else codes "\\x" ++ encode_lower (c ∷ [])
unit_text Json c =
    if is_control c then codes "\\u00" ++ encode_lower (c ∷ [])
    else (if c == 0x22 || c == 0x5c then codes "\\" ++ c ∷ [] else c ∷ [])

abbrev pub quoted : Form → List ℕ → List ℕ
quoted form s = codes "\"" ++ flat_map (unit_text form) s ++ codes "\""

-- ---- other values

abbrev pub vector_text : Form → List ℕ → List ℕ
vector_text Text s = codes "x" ++ encode_lower s
vector_text Json s = codes "\"" ++ encode_lower s ++ codes "\""

abbrev pub absent_sign : Form → List ℕ
absent_sign Text = codes "-"
absent_sign Json = codes "null"

-- ---- around values

-- between two instructions, and between two elements
abbrev pub between : Form → List ℕ
between Text = codes " "
between Json = codes ","

-- in front of the value of an instruction of a name
abbrev pub label_text : Form → List ℕ → List ℕ
label_text Text name = name ++ codes "="
label_text Json name = quoted Json name ++ codes ":"

-- in front of the instructions of a template of an identifier and a name
abbrev pub head_text : Form → ℕ → List ℕ → List ℕ
head_text Text id name = decimal id ++ codes " " ++ name
head_text Json id name = codes "{\"template\":" ++ quoted Json name ++ codes ",\"id\":" ++ decimal id ++ codes ",\"fields\":{"

-- whether the first of them has in front of it what stands between two
abbrev pub is_led : Form → Bool
is_led Text = true
is_led Json = false

-- behind them
abbrev pub ending : Form → List ℕ
ending Text = codes "\n"
ending Json = codes "}}\n"

-- what stands between two where it is due
abbrev pub lead : Form → Bool → List ℕ
lead form false = []
lead form true = between form
