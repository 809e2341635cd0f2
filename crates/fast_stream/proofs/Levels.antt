-- What is carried at a level is carried at the usual one.
use Rattle.fast_stream.proofs.Common.{ℕ, zero, suc, Bool, List, [], ◌∷◌, Level, Usual, Strict, Resolved, Form, form_usually, Content, Dictionary, Framing, Plain, Blocks, Mode, MapAt, MessageForm, Stand, outside, at_start, IsSize, Opens}
use Rattle.fast_stream.specs.Modes.{FormIn, Carries, CarriesFrom}
use Rattle.fast_stream.proofs.Weaker.{message_weaker}

map_usually : (level : Level) (bits left : List Bool) (bytes : List ℕ) → MapAt level bits left bytes → MapAt Usual bits left bytes
map_usually Usual bits left bytes h = h
map_usually Strict bits left bytes h = h.0.1

in_template_usually : (level : Level) (set : List Resolved) (d : Dictionary) (bytes : List ℕ) (m : Content) (after : Dictionary) → MessageForm level set d bytes m after → MessageForm Usual set d bytes m after
in_template_usually level set d bytes m after = message_weaker (Form level) (Form Usual) (MapAt level) (MapAt Usual) (form_usually level) (map_usually level) set d bytes m after

pub size_usually : (level : Level) (size : List ℕ) (room : ℕ) → IsSize level size room → IsSize Usual size room
size_usually Usual size room h = h
size_usually Strict size room h = h.1

opens_usually : (level : Level) (left room : ℕ) (size : List ℕ) → Opens level left size room → Opens Usual left size room
opens_usually level zero room size h = (size_usually level size room h.0, h.1)
opens_usually level (suc left) room size h = h

next_usually : (framing : Framing) (level : Level) (set : List Resolved) (s : Stand) (bytes : List ℕ) (m : Content) (after : Stand) → FormIn framing level set s bytes m after → FormIn framing Usual set s bytes m after
next_usually Plain level set s bytes m after h = (in_template_usually level set s.dictionary bytes m after.dictionary h.0, h.1)
next_usually Blocks level set s bytes m after h = record {
  room = h.room;
  size = h.size;
  form = h.form;
  parts = h.parts;
  opens = opens_usually level s.left h.room h.size h.opens;
  message = in_template_usually level set s.dictionary h.form m after.dictionary h.message;
  within = h.within;
}

abbrev pub usually : Framing → Mode
usually framing = record { level = Usual; framing = framing }

pub from_usually : (mode : Mode) (set : List Resolved) (messages : List Content) (s after : Stand) (bytes : List ℕ) → CarriesFrom mode set s bytes messages after → CarriesFrom (usually mode.framing) set s bytes messages after
from_usually mode set [] s after bytes h = h
from_usually mode set (m ∷ ms) s after bytes h =
    record { between = h.between; front = h.front; back = h.back; parts = h.parts; first = next_usually mode.framing mode.level set s h.front m h.between h.first; second = from_usually mode set ms h.between after h.back h.second }

pub carried_usually : (mode : Mode) (set : List Resolved) (stream : List ℕ) (messages : List Content) → Carries mode set stream messages → Carries (usually mode.framing) set stream messages
carried_usually mode set stream messages h = (h.0, from_usually mode set messages at_start (outside h.0) stream h.1)
