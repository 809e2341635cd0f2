-- How a call reads and shows, by the word that C gives (our own).
use Rattle.std.specs.Prelude.{ℕ, ◌-◌, ◌/◌, ◌%◌, nat_eq, if◌then◌else◌, Option, None, Some, option_map}
use Rattle.fast_wire.specs.declared.level.Level.{Level}
use Rattle.fast_wire.specs.declared.level.Level.TheVariants.{Usual, Strict}
use Rattle.fast_stream.specs.declared.mode.Framing.{Framing}
use Rattle.fast_stream.specs.declared.mode.Mode.{Mode}
use Rattle.fast_stream.specs.declared.mode.Framing.TheVariants.{Plain, Blocks}
use Rattle.fast_lines.specs.declared.form.Form.{Form}
use Rattle.fast_lines.specs.declared.form.Form.TheVariants.{Text, Json}
use Rattle.fast_slices.specs.declared.way.Reading.{Reading}
use Rattle.fast_slices.specs.declared.way.Way.{Way}

abbrev pub stream_by : Level → Framing → Reading
stream_by level framing = Reading.Stream (record { level = level; framing = framing })

-- 1 for the strict level, and 2 for blocks or 8 for packets
abbrev pub reading_of : ℕ → Option Reading
reading_of word =
    if nat_eq word 0 then Some (stream_by Usual Plain)
    else if nat_eq word 1 then Some (stream_by Strict Plain)
    else if nat_eq word 2 then Some (stream_by Usual Blocks)
    else if nat_eq word 3 then Some (stream_by Strict Blocks)
    else if nat_eq word 8 then Some (Reading.Recording Usual)
    else if nat_eq word 9 then Some (Reading.Recording Strict)
    else None

abbrev pub way_by : Form → ℕ → Option Way
way_by form rest = option_map (λ reading. record { reading = reading; form = form }) (reading_of rest)

-- and 4 for lines in JSON; none where a word has other bits, or blocks and packets
abbrev pub way_of : ℕ → Option Way
way_of word = if nat_eq (word / 4 % 2) 1 then way_by Json (word - 4) else way_by Text word

-- the mode of a stream that a word says alone
abbrev pub mode_in : Option Reading → Option Mode
mode_in (Some (Reading.Stream mode)) = Some mode
mode_in (Some (Reading.Recording level)) = None
mode_in None = None

abbrev pub stream_mode_of : ℕ → Option Mode
stream_mode_of word = mode_in (reading_of word)
