-- What a command line asks for: the words that the program knows, as its parser has them, and what the parser finds of
-- each in a line (our own).
use Rattle.std.specs.Prelude.{◌≡◌, ◌≢◌, ◌&&◌, ◌||◌, ℕ, List, Bool, true, false, codes, Option, None, Some, option_and_then, option_map, if◌then◌else◌}
use Rattle.std.specs.Str.{bytes_eq}
use Rattle.clap.specs.Words.{App, Row, Rule, Text, first_of, matches_of, new_app, new_rule, one_of, with_rule}
use Rattle.clap.specs.Simple.{on_top}
use Rattle.clap.specs.declared.builder.ArgAction.TheVariants.{SetTrue}
use Rattle.clap.specs.declared.builder.value_parser.ValueParser.{ValueParser}
use Rattle.fast_wire.specs.declared.level.Level.{Level}
use Rattle.fast_wire.specs.declared.level.Level.TheVariants.{Usual, Strict}
use Rattle.fast_stream.specs.declared.mode.Framing.{Framing}
use Rattle.fast_stream.specs.declared.mode.Framing.TheVariants.{Plain, Blocks}
use Rattle.fast_command.specs.declared.command.Command.{Command}
use Rattle.fast_command.specs.declared.command.Command.TheVariants.{Show, Check, Canon}
use Rattle.fast_lines.specs.declared.form.Form.{Form}
use Rattle.fast_request.specs.declared.request.Flags.{Flags}
use Rattle.fast_request.specs.declared.request.Request.{Request}
use Rattle.fast_request.specs.declared.request.Task.{Task}

-- ---- the words

-- the command, which has to be there, among these words
abbrev pub command_rule : Option ValueParser → Rule
command_rule among = record (new_rule (codes "command")) { value_names = 1; required = true; parser = among }

-- the file of the stream
abbrev pub input_rule : Rule
input_rule = record (new_rule (codes "input")) { value_names = 1 }

-- --templates FILE, which has to be there
abbrev pub templates_rule : Rule
templates_rule = record (new_rule (codes "templates")) { long = Some (codes "templates"); value_names = 1; required = true }

-- a flag, as --hex
abbrev pub flag_rule : Text → Rule
flag_rule name = record (new_rule name) { long = Some name; action = Some SetTrue }

-- fastcat, with --help and --version
abbrev pub bare_app : App
bare_app = on_top (λ s. record s { has_version = true }) (new_app (codes "fastcat"))

-- COMMAND [FILE] --templates FILE
abbrev pub with_files_lem : Option ValueParser → App → App
with_files_lem among app = with_rule (with_rule (with_rule app (command_rule among)) input_rule) templates_rule

-- [--hex] [--strict] [--blocks] [--packets] [--keep-going]
abbrev pub with_ways_lem : App → App
with_ways_lem app =
    with_rule (with_rule (with_rule (with_rule (with_rule app (flag_rule (codes "hex"))) (flag_rule (codes "strict")))
    (flag_rule (codes "blocks"))) (flag_rule (codes "packets"))) (flag_rule (codes "keep-going"))

-- .. [--json] [--explain]
abbrev pub with_flags_lem : App → App
with_flags_lem app =
    with_rule (with_rule (with_ways_lem app) (flag_rule (codes "json"))) (flag_rule (codes "explain"))

abbrev pub line_among : Option ValueParser → App
line_among among = with_flags_lem (with_files_lem among bare_app)

-- what is found in these words of each that the program knows
unfoldable pub rows_among : Option ValueParser → List Text → List Row
rows_among among words = matches_of (line_among among) words

-- ---- what is asked for

-- what is done, what is shown of a message and the names of the files; the one without a name is the standard input
pub record Asked : Type 0 where
  pub task : Task
  pub templates : Option (List ℕ)
  pub hex : Bool
  pub form : Form
  pub explain : Bool
  pub input : Option (List ℕ)

abbrev pub asked_by : Request → Asked
asked_by r = record {
  task = r.task;
  templates = option_map (λ name. name.now) r.templates;
  hex = r.hex;
  form = r.form;
  explain = r.explain;
  input = option_map (λ name. name.now) r.input;
}

-- ---- what is found of them

abbrev pub command_named : Text → Option Command
command_named word =
    if bytes_eq word (codes "show") then Some Show
    else if bytes_eq word (codes "check") then Some Check
    else if bytes_eq word (codes "canon") then Some Canon
    else None

-- the file of a word; - is none, but the standard input
abbrev pub file_named : Text → Option Text
file_named word = if bytes_eq word (codes "-") then None else Some word

-- whether a flag is set
abbrev pub IsFlag : Option Text → Bool → Type 0
IsFlag found flag = (found ≡ Some (codes "true") → flag ≡ true) × (found ≡ Some (codes "false") → flag ≡ false) × (found ≡ None → flag ≡ false)

abbrev pub level_by : Bool → Level
level_by false = Usual
level_by true = Strict

abbrev pub framing_by : Bool → Framing
framing_by false = Plain
framing_by true = Blocks

abbrev pub is_json : Form → Bool
is_json Form.Text = false
is_json Form.Json = true

abbrev pub is_canon : Command → Bool
is_canon Show = false
is_canon Check = false
is_canon Canon = true

-- over a stream there is no packet behind which to go on
abbrev pub over_stream : Command → Flags → Option Task
over_stream command flags =
    if flags.keep_going then None
    else Some (Task.Stream command (record { level = level_by flags.strict; framing = framing_by flags.blocks }))

-- packets have no blocks; and a recording with a refused packet has no canonical one, so canon does not go on behind it
abbrev pub over_packets : Command → Flags → Option Task
over_packets command flags =
    if flags.blocks || (flags.keep_going && is_canon command) then None
    else Some (Task.Recording command (record { level = level_by flags.strict; keep_going = flags.keep_going }))

abbrev pub command_task : Flags → Command → Option Task
command_task flags command = if flags.packets then over_packets command flags else over_stream command flags

-- of lines no packet is refused behind which to go on
abbrev pub over_lines : Flags → Option Task
over_lines flags = if flags.keep_going then None else Some (Task.Write flags.packets)

-- what a word and the flags ask for; none where they cannot stand together
abbrev pub task_named : Text → Flags → Option Task
task_named word flags =
    if bytes_eq word (codes "write") then over_lines flags
    else option_and_then (command_task flags) (command_named word)

-- these flags are found
pub record FindsFlags (rows : List Row) (flags : Flags) : Type 0 where
  pub strict_is : IsFlag (one_of (codes "strict") rows) flags.strict
  pub blocks_is : IsFlag (one_of (codes "blocks") rows) flags.blocks
  pub packets_is : IsFlag (one_of (codes "packets") rows) flags.packets
  pub keep_going_is : IsFlag (one_of (codes "keep-going") rows) flags.keep_going

-- what is found in the words is what is asked for
pub record Finds (rows : List Row) (asked : Asked) : Type 0 where
  pub word : Text
  pub command_word : first_of (codes "command") rows ≡ Some word
  pub flags : Flags
  pub flags_are : FindsFlags rows flags
  pub task_is : task_named word flags ≡ Some asked.task
  pub templates_word : Text
  pub templates_given : first_of (codes "templates") rows ≡ Some templates_word
  pub templates_are : file_named templates_word ≡ asked.templates
  pub hex_is : IsFlag (one_of (codes "hex") rows) asked.hex
  pub json_is : IsFlag (one_of (codes "json") rows) (is_json asked.form)
  pub explain_is : IsFlag (one_of (codes "explain") rows) asked.explain
  pub input_is : option_and_then file_named (first_of (codes "input") rows) ≡ asked.input
  pub one_is_a_file : asked.templates ≡ None → asked.input ≢ None

-- the words ask for this
abbrev pub AsksFor : List Text → Asked → Type 0
AsksFor words asked = (among : Option ValueParser) × Finds (rows_among among words) asked
