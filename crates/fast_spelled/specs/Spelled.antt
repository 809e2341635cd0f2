-- Which message a line of JSON stands for (our own).
use Rattle.std.specs.Prelude.{◌≡◌, ℕ, ◌==◌, if◌then◌else◌, Bool, true, List, [], ◌∷◌, codes, find, ◌⊎◌, ◌||◌, Option, Some, None, option_map, option_and_then, IsUtf8}
use Rattle.std.specs.Str.{bytes_eq}
use Rattle.std.specs.List.{list_all}
use Rattle.json.specs.Json.{Json, null, number, string, array, object, Items as Listed, no_items as none_listed, item as listed, Members, no_members, member, document}
use Rattle.fast_value.specs.InitialValues.{value_of_text}
use Rattle.fast_value.specs.declared.kind.Kind.{Kind}
use Rattle.fast_value.specs.declared.kind.Part.{Part}
use Rattle.fast_value.specs.declared.kind.Presence.{Presence}
use Rattle.fast_value.specs.declared.kind.Presence.TheVariants.{Mandatory, Optional}
use Rattle.fast_value.specs.declared.scalar.Scalar.{Scalar}
use Rattle.fast_value.specs.declared.scalar.Scalar.TheVariants.{U32}
use Rattle.fast_template.specs.Resolved.{Instruction, whole_field, field_in_parts, group_of, sequence_of, Instructions, no_instructions, then_instruction, resolved_of}
use Rattle.fast_template.specs.declared.resolved.FlatTemplate.{FlatTemplate}
use Rattle.fast_template.specs.TemplateSets.{TemplateList, template_of}
use Rattle.fast_stream.specs.Nodes.{Item, single, group_items, sequence_elements, Items, no_items, then_item, Elements, no_elements, then_element, Content}
use Rattle.fast_spelled.specs.Numbers.{number_value, string_value}
use Rattle.fast_spelled.specs.Members.{first_named, without_first}

-- ---- values

-- the value of a type that JSON is
abbrev pub json_value : Kind → Json → Option Scalar
json_value k (number text) = number_value k text
json_value k (string text) = string_value k text
json_value k j = None

abbrev pub json_field : Kind → Json → Option Item
json_field k j = option_map (λ v. single (Some v)) (json_value k j)

-- null stands for what is optional and left out
abbrev pub left_out : Presence → Option Item
left_out Mandatory = None
left_out Optional = Some (single None)

abbrev pub name_in : Instruction → List ℕ
name_in (whole_field name i presence whole) = name
name_in (field_in_parts name i presence exponent mantissa) = name
name_in (group_of name i presence members) = name
name_in (sequence_of name i presence length members) = name

abbrev pub presence_in : Instruction → Presence
presence_in (whole_field name i presence whole) = presence
presence_in (field_in_parts name i presence exponent mantissa) = presence
presence_in (group_of name i presence members) = presence
presence_in (sequence_of name i presence length members) = presence

-- ---- what JSON stands for

-- an object, and a list of objects, of which the first argument says what the members stand for
abbrev pub group_by : (Members → Option Items) → Json → Option Item
group_by members (object ms) = option_map group_items (members ms)
group_by members j = None

abbrev pub element_by : (Members → Option Items) → Json → Option Items
element_by members (object ms) = members ms
element_by members j = None

abbrev pub elements_by : (Members → Option Items) → Listed → Option Elements
elements_by members none_listed = Some no_elements
elements_by members (listed j js) =
    option_and_then (λ ns. option_map (then_element ns) (elements_by members js)) (element_by members j)

abbrev pub sequence_by : (Members → Option Items) → Json → Option Item
sequence_by members (array js) = option_map sequence_elements (elements_by members js)
sequence_by members j = None

-- what is not null
abbrev pub or_left_out : Presence → (Json → Option Item) → Json → Option Item
or_left_out presence there null = left_out presence
or_left_out presence there j = there j

abbrev mutual
  -- what stands for an instruction
  pub item_by : Instruction → Json → Option Item
  item_by (whole_field name i presence whole) j = or_left_out presence (json_field whole.kind) j
  item_by (field_in_parts name i presence exponent mantissa) j = or_left_out presence (json_field Kind.Decimal) j
  item_by (group_of name i presence members) j = or_left_out presence (group_by (λ ms. items_by members ms)) j
  item_by (sequence_of name i presence length members) j = or_left_out presence (sequence_by (λ ms. items_by members ms)) j

  -- For each instruction in its order the first member of its name that is left, or null; in the end none is left. So
  -- members come in any order, but for those of one name.
  pub items_by : Instructions → Members → Option Items
  items_by no_instructions no_members = Some no_items
  items_by no_instructions (member k j ms) = None
  items_by (then_instruction i is) ms =
      option_and_then (λ n. option_map (then_item n) (items_by is (without_first (name_in i) ms))) (item_by i (first_named (name_in i) ms))

-- ---- a line

-- a name or none, and an identifier or none, are of a template
abbrev pub is_named : List ℕ → FlatTemplate → Bool
is_named name t = bytes_eq t.name name

abbrev pub if_named : List ℕ → Option FlatTemplate → Option FlatTemplate
if_named name (Some t) = if is_named name t then Some t else None
if_named name None = None

abbrev pub of_id : TemplateList → Option Scalar → Option FlatTemplate
of_id set (Some (U32 id)) = template_of id set
of_id set v = None

abbrev pub template_by : TemplateList → Json → Json → Option FlatTemplate
template_by set (string name) null = find (is_named name) set.templates
template_by set null (number text) = of_id set (value_of_text Part.Whole Kind.UInt32 text)
template_by set (string name) (number text) = if_named name (of_id set (value_of_text Part.Whole Kind.UInt32 text))
template_by set name id = None

abbrev pub content_if : Option ℕ → Option Items → Option Content
content_if (Some id) (Some ns) = Some (record { template = id; items = ns })
content_if id ns = None

abbrev pub fields_of : FlatTemplate → Json → Option Content
fields_of t (object ms) = content_if t.id (items_by (resolved_of t).members ms)
fields_of t j = None

abbrev pub if_no_more : Members → Option Content → Option Content
if_no_more no_members m = m
if_no_more (member k j ms) m = None

-- what is left of an object without the three members of a line
abbrev pub others : Members → Members
others ms = without_first (codes "fields") (without_first (codes "id") (without_first (codes "template") ms))

-- an object of `template` or `id` or both, and `fields`, in any order
abbrev pub message_by : TemplateList → Json → Option Content
message_by set (object ms) =
    if_no_more (others ms) (option_and_then (λ t. fields_of t (first_named (codes "fields") ms)) (template_by set (first_named (codes "template") ms) (first_named (codes "id") ms)))
message_by set j = None

-- a line, with its line feed or without, stands for a message
pub record Spells (set : TemplateList) (line : List ℕ) (m : Content) : Type 0 where
  pub utf8 : IsUtf8 line
  pub read : option_and_then (message_by set) (document line) ≡ Some m

-- ---- lines

-- a line of blanks alone is passed
abbrev pub is_blank : ℕ → Bool
is_blank c = (c == 32) || (c == 9) || (c == 10) || (c == 13)

-- the lines of a text, each with its line feed; the last may have none
abbrev pub in_front : ℕ → List (List ℕ) → List (List ℕ)
in_front c [] = (c ∷ []) ∷ []
in_front c (line ∷ lines) = (c ∷ line) ∷ lines

abbrev pub lines_of : List ℕ → List (List ℕ)
lines_of [] = []
lines_of (c ∷ cs) = if c == 10 then (c ∷ []) ∷ lines_of cs else in_front c (lines_of cs)

-- lines stand for messages
abbrev pub Spell : TemplateList → List (List ℕ) → List Content → Type 0
Spell set [] ms = ms ≡ []
Spell set (line ∷ lines) ms =
    ((list_all is_blank line ≡ true) × Spell set lines ms)
    ⊎ ((m : Content) × (rest : List Content) × (ms ≡ m ∷ rest) × Spells set line m × Spell set lines rest)
