-- Lines of words, computed: what is found of each.
use Rattle.fast_request.proofs.Common.{◌≡◌, List, [], ◌∷◌, Bool, true, false, Option, None, Some, refl, codes, Text, first_of, one_of, clap_on_literals, command_named, rows_among, Show, Check, Canon, Usual, Strict, Blocks, Flags, Task, task_named}

abbrev of : Text → List Text → Option Text
of id words = first_of id (rows_among None words)

abbrev flag : Text → List Text → Option Text
flag id words = one_of id (rows_among None words)

-- fastcat show --templates t.json
abbrev plain : List Text
plain = codes "fastcat" ∷ codes "show" ∷ codes "--templates" ∷ codes "t.json" ∷ []

plain_command : of (codes "command") plain ≡ Some (codes "show")
unfolding rows_among clap_on_literals
plain_command = refl

plain_templates : of (codes "templates") plain ≡ Some (codes "t.json")
unfolding rows_among clap_on_literals
plain_templates = refl

plain_input : of (codes "input") plain ≡ None
unfolding rows_among clap_on_literals
plain_input = refl

plain_hex : flag (codes "hex") plain ≡ Some (codes "false")
unfolding rows_among clap_on_literals
plain_hex = refl

-- fastcat --hex check s.hex --templates=t.json
abbrev mixed : List Text
mixed = codes "fastcat" ∷ codes "--hex" ∷ codes "check" ∷ codes "s.hex" ∷ codes "--templates=t.json" ∷ []

mixed_command : of (codes "command") mixed ≡ Some (codes "check")
unfolding rows_among clap_on_literals
mixed_command = refl

mixed_templates : of (codes "templates") mixed ≡ Some (codes "t.json")
unfolding rows_among clap_on_literals
mixed_templates = refl

mixed_input : of (codes "input") mixed ≡ Some (codes "s.hex")
unfolding rows_among clap_on_literals
mixed_input = refl

mixed_hex : flag (codes "hex") mixed ≡ Some (codes "true")
unfolding rows_among clap_on_literals
mixed_hex = refl

mixed_strict : flag (codes "strict") mixed ≡ Some (codes "false")
unfolding rows_among clap_on_literals
mixed_strict = refl

-- fastcat canon --strict --templates t.json
abbrev strict : List Text
strict = codes "fastcat" ∷ codes "canon" ∷ codes "--strict" ∷ codes "--templates" ∷ codes "t.json" ∷ []

strict_flag : flag (codes "strict") strict ≡ Some (codes "true")
unfolding rows_among clap_on_literals
strict_flag = refl

strict_blocks : flag (codes "blocks") strict ≡ Some (codes "false")
unfolding rows_among clap_on_literals
strict_blocks = refl

-- fastcat --blocks canon --templates t.json
abbrev blocks : List Text
blocks = codes "fastcat" ∷ codes "--blocks" ∷ codes "canon" ∷ codes "--templates" ∷ codes "t.json" ∷ []

blocks_flag : flag (codes "blocks") blocks ≡ Some (codes "true")
unfolding rows_among clap_on_literals
blocks_flag = refl

blocks_strict : flag (codes "strict") blocks ≡ Some (codes "false")
unfolding rows_among clap_on_literals
blocks_strict = refl

-- fastcat show --json --templates t.json --explain
abbrev explained : List Text
explained = codes "fastcat" ∷ codes "show" ∷ codes "--json" ∷ codes "--templates" ∷ codes "t.json" ∷ codes "--explain" ∷ []

explained_json : flag (codes "json") explained ≡ Some (codes "true")
unfolding rows_among clap_on_literals
explained_json = refl

explained_flag : flag (codes "explain") explained ≡ Some (codes "true")
unfolding rows_among clap_on_literals
explained_flag = refl

explained_hex : flag (codes "hex") explained ≡ Some (codes "false")
unfolding rows_among clap_on_literals
explained_hex = refl

check_named : command_named (codes "check") ≡ Some Check
check_named = refl

-- and no word of another name is a command
none_named : command_named (codes "Show") ≡ None
none_named = refl

-- fastcat show --packets --keep-going --templates t.json
abbrev packets : List Text
packets = codes "fastcat" ∷ codes "show" ∷ codes "--packets" ∷ codes "--keep-going" ∷ codes "--templates" ∷ codes "t.json" ∷ []

packets_flag : flag (codes "packets") packets ≡ Some (codes "true")
unfolding rows_among clap_on_literals
packets_flag = refl

packets_keep_going : flag (codes "keep-going") packets ≡ Some (codes "true")
unfolding rows_among clap_on_literals
packets_keep_going = refl

packets_blocks : flag (codes "blocks") packets ≡ Some (codes "false")
unfolding rows_among clap_on_literals
packets_blocks = refl

plain_packets : flag (codes "packets") plain ≡ Some (codes "false")
unfolding rows_among clap_on_literals
plain_packets = refl

-- ---- what words and flags ask for: strict, blocks, packets, keep-going

abbrev flags : Bool → Bool → Bool → Bool → Flags
flags strict blocks packets keep_going = record { strict = strict; blocks = blocks; packets = packets; keep_going = keep_going }

stream_asked : task_named (codes "canon") (flags true true false false) ≡ Some (Task.Stream Canon (record { level = Strict; framing = Blocks }))
stream_asked = refl

recording_asked : task_named (codes "show") (flags true false true true) ≡ Some (Task.Recording Show (record { level = Strict; keep_going = true }))
recording_asked = refl

recording_stops : task_named (codes "canon") (flags false false true false) ≡ Some (Task.Recording Canon (record { level = Usual; keep_going = false }))
recording_stops = refl

-- no packets of blocks, nowhere to go on without packets, and no canonical recording behind a refused one
blocks_refused : task_named (codes "check") (flags false true true false) ≡ None
blocks_refused = refl

going_refused : task_named (codes "check") (flags false false false true) ≡ None
going_refused = refl

canon_refused : task_named (codes "canon") (flags false false true true) ≡ None
canon_refused = refl

lines_asked : task_named (codes "write") (flags true true false false) ≡ Some (Task.Write false)
lines_asked = refl

lines_in_packets_asked : task_named (codes "write") (flags false false true false) ≡ Some (Task.Write true)
lines_in_packets_asked = refl

lines_going_refused : task_named (codes "write") (flags false false false true) ≡ None
lines_going_refused = refl
