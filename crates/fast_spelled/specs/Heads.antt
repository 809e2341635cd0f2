-- What a line says as far as it is read (our own).
use Rattle.std.specs.Prelude.{◌≡◌, ℕ, List, codes, Option, Some, None, is_some, option_and_then, Bool, true, false}
use Rattle.std.specs.Str.{bytes_eq}
use Rattle.json.specs.Json.{Json, null, number, string, object, Members, member}
use Rattle.fast_template.specs.TemplateSets.{TemplateList}
use Rattle.fast_stream.specs.Nodes.{Content}
use Rattle.fast_spelled.specs.declared.head.Said.{Said}
use Rattle.fast_spelled.specs.declared.head.Said.TheVariants.{Nothing, Null, Text}
use Rattle.fast_spelled.specs.declared.head.Head.{Head}
use Rattle.fast_spelled.specs.declared.head.LineHead.{LineHead}
use Rattle.fast_spelled.specs.declared.head.LinePart.{LinePart}
use Rattle.fast_spelled.specs.declared.head.LinePart.TheVariants.{Template, Id, Fields}
use Rattle.fast_spelled.specs.Members.{first_named, without_first}
use Rattle.fast_spelled.specs.Numbered.{numbered_by}
use Rattle.fast_spelled.specs.Spelled.{template_by, fields_of, if_no_more, message_by}

-- ---- the members of a line

abbrev pub name_of_part : LinePart → List ℕ
name_of_part Template = codes "template"
name_of_part Id = codes "id"
name_of_part Fields = codes "fields"

-- a name that no member of a line has
pub record IsNoPart (name : List ℕ) : Type 0 where
  pub no_template : bytes_eq name (codes "template") ≡ false
  pub no_id : bytes_eq name (codes "id") ≡ false
  pub no_fields : bytes_eq name (codes "fields") ≡ false

-- ---- those that were there, and those that are to come

abbrev pub first_or : Option Json → List ℕ → Members → Json
first_or (Some j) name ms = j
first_or None name ms = first_named name ms

abbrev pub without_more : Option Json → List ℕ → Members → Members
without_more (Some j) name ms = ms
without_more None name ms = without_first name ms

abbrev pub others_behind : Option Json → Option Json → Option Json → Members → Members
others_behind name id fields ms = without_more fields (codes "fields") (without_more id (codes "id") (without_more name (codes "template") ms))

-- the message of a line that had these members, and has others to come
abbrev pub message_behind : TemplateList → Option Json → Option Json → Option Json → Members → Option Content
message_behind set name id fields ms =
    if_no_more (others_behind name id fields ms) (option_and_then (λ t. fields_of t (first_or fields (codes "fields") ms)) (template_by set (first_or name (codes "template") ms) (first_or id (codes "id") ms)))

-- ---- what the code knows of them

abbrev pub there : (List ℕ → Json) → Said → Option Json
there make Nothing = None
there make Null = Some null
there make (Text s) = Some (make s.now)

-- in the end what was not there is as null
abbrev pub said : (List ℕ → Json) → Said → Json
said make Nothing = null
said make Null = null
said make (Text s) = make s.now

-- a head goes with the fields that were there, or with none
abbrev pub HasSeen : Head → Option Json → Type 0
HasSeen head fields = is_some fields ≡ head.has_fields

abbrev pub message_after : TemplateList → Head → Option Json → Members → Option Content
message_after set head fields ms = message_behind set (there string head.name) (there number head.id) fields ms

-- one member on: the head before, with the fields before and the member, and the head after it
pub record TakesPart (part : LinePart) (old : Head) (fields : Option Json) (j : Json) (new : Head) : Type 0 where
  pub now : Option Json
  pub has_seen : HasSeen new now
  pub same_message : (set : TemplateList) (ms : Members) → message_after set old fields (member (name_of_part part) j ms) ≡ message_after set new now ms
  pub same_fields : (ms : Members) → first_or fields (codes "fields") (member (name_of_part part) j ms) ≡ first_or now (codes "fields") ms

-- the fields stand for the message's items, in the template that a head names
abbrev pub message_of_head : TemplateList → Head → Json → Option Content
message_of_head set head fields = option_and_then (λ t. fields_of t fields) (template_by set (said string head.name) (said number head.id))

-- ---- a line with its packet, or without

-- the members of a line but the one that says its packet, where lines say that
abbrev pub kept : Bool → Option Json → Members → Members
kept true packet ms = without_more packet (codes "packet") ms
kept false packet ms = ms

-- it stands for no message
abbrev pub StandsForNone : Bool → TemplateList → Json → Type 0
StandsForNone true set j = numbered_by set j ≡ None
StandsForNone false set j = message_by set j ≡ None

-- this is the head of a line
pub record IsHead (packets : Bool) (j : Json) (line : LineHead) : Type 0 where
  pub members : Members
  pub is : j ≡ object members
  pub message : (set : TemplateList) → message_by set (object (kept packets None members)) ≡ message_of_head set line.head (first_named (codes "fields") members)
  pub packet : first_named (codes "packet") members ≡ said number line.packet
