-- The line of a message of any template, in each form (our own).
use Rattle.std.specs.Prelude.{ℕ, ℤ, ◌&&◌, if◌then◌else◌, List, [], ◌∷◌, ◌++◌, codes, decimal, Option, Some, None, option_map}
use Rattle.std.specs.Fmt.{signed_decimal}
use Rattle.fast_value.specs.Scalar.{is_of}
use Rattle.fast_value.specs.declared.kind.Kind.{Kind}
use Rattle.fast_value.specs.declared.kind.Presence.{Presence}
use Rattle.fast_value.specs.declared.kind.Presence.TheVariants.{Mandatory, Optional}
use Rattle.fast_value.specs.declared.scalar.Scalar.{Scalar}
use Rattle.fast_value.specs.declared.scalar.Scalar.TheVariants.{U32, I32, U64, I64, Decimal, Ascii, Unicode, Bytes}
use Rattle.fast_template.specs.Resolved.{Instruction, whole_field, field_in_parts, group_of, sequence_of, Instructions, no_instructions, then_instruction, resolved_of}
use Rattle.fast_template.specs.declared.resolved.FlatTemplate.{FlatTemplate}
use Rattle.fast_template.specs.TemplateSets.{TemplateList, template_of}
use Rattle.fast_field.specs.Refusals.{has_characters}
use Rattle.fast_stream.specs.Nodes.{Item, single, group_items, sequence_elements, Items, no_items, then_item, Elements, no_elements, then_element, Content}
use Rattle.fast_lines.specs.declared.form.Form.{Form}
use Rattle.fast_lines.specs.Signs.{absent_sign, between, ending, head_text, is_led, label_text, lead, quoted, vector_text}

-- ---- values

abbrev pub decimal_text : ℤ → ℤ → List ℕ
decimal_text mantissa exponent = signed_decimal mantissa ++ codes "e" ++ signed_decimal exponent

abbrev pub scalar_text : Form → Scalar → List ℕ
scalar_text form (U32 n) = decimal n
scalar_text form (I32 z) = signed_decimal z
scalar_text form (U64 n) = decimal n
scalar_text form (I64 z) = signed_decimal z
scalar_text form (Decimal exponent mantissa) = decimal_text mantissa exponent
scalar_text form (Ascii s) = quoted form s
scalar_text form (Unicode s) = quoted form s
scalar_text form (Bytes s) = vector_text form s

-- what is told of a field's value, or of one that is absent
abbrev pub said_text : Form → Option Scalar → List ℕ
said_text form (Some v) = scalar_text form v
said_text form None = absent_sign form

-- ---- what a message has for an instruction, or none where it is of another shape, type or presence

-- one text behind another, where both are there
abbrev pub joined : Option (List ℕ) → Option (List ℕ) → Option (List ℕ)
joined (Some s) (Some t) = Some (s ++ t)
joined s t = None

-- only an optional field, group or sequence can be left out
abbrev pub absent_text : Form → Presence → Option (List ℕ)
absent_text form Mandatory = None
absent_text form Optional = Some (absent_sign form)

-- a value of the field's type, of ASCII with characters up to 127
abbrev pub value_text : Form → Kind → Scalar → Option (List ℕ)
value_text form k v = if is_of k v && has_characters v then Some (scalar_text form v) else None

abbrev pub field_text : Form → Kind → Presence → Item → Option (List ℕ)
field_text form k p (single (Some v)) = value_text form k v
field_text form k p (single None) = absent_text form p
field_text form k p n = None

abbrev pub braced : Option (List ℕ) → Option (List ℕ)
braced = option_map (λ members. codes "{" ++ members ++ codes "}")

abbrev pub bracketed : Option (List ℕ) → Option (List ℕ)
bracketed = option_map (λ elements. codes "[" ++ elements ++ codes "]")

-- a group, of whose items the second argument is the text
abbrev pub group_text : Form → (Items → Option (List ℕ)) → Presence → Item → Option (List ℕ)
group_text form members p (group_items ns) = braced (members ns)
group_text form members p (single None) = absent_text form p
group_text form members p n = None

-- elements, each as a group, with a text in front of the first and the sign between two in front of each other one
abbrev pub elements_text : Form → (Items → Option (List ℕ)) → List ℕ → Elements → Option (List ℕ)
elements_text form members before no_elements = Some []
elements_text form members before (then_element ns es) =
    joined (option_map (λ element. before ++ element) (braced (members ns))) (elements_text form members (between form) es)

abbrev pub sequence_text : Form → (Items → Option (List ℕ)) → Presence → Item → Option (List ℕ)
sequence_text form members p (sequence_elements es) =
    bracketed (elements_text form members [] es)
sequence_text form members p (single None) = absent_text form p
sequence_text form members p n = None

-- what stands in front of the value of an instruction
abbrev pub label : Form → Instruction → List ℕ
label form (whole_field name number presence whole) = label_text form name
label form (field_in_parts name number presence exponent mantissa) = label_text form name
label form (group_of name number presence members) = label_text form name
label form (sequence_of name number presence length members) = label_text form name

-- the label and the value, with a text in front
abbrev pub labelled : Form → List ℕ → Instruction → Option (List ℕ) → Option (List ℕ)
labelled form before i = option_map (λ text. before ++ label form i ++ text)

abbrev mutual
  -- the value that stands behind the label
  pub node_text : Form → Instruction → Item → Option (List ℕ)
  node_text form (whole_field name number presence whole) n = field_text form whole.kind presence n
  node_text form (field_in_parts name number presence exponent mantissa) n = field_text form Kind.Decimal presence n
  node_text form (group_of name number presence members) n =
      group_text form (λ ns. members_text form [] members ns) presence n
  node_text form (sequence_of name number presence length members) n =
      sequence_text form (λ ns. members_text form [] members ns) presence n

  -- the label and the value of each instruction, with a text in front of the first and the sign between two in front of
  -- each other one
  pub members_text : Form → List ℕ → Instructions → Items → Option (List ℕ)
  members_text form before no_instructions no_items = Some []
  members_text form before (then_instruction i is) (then_item n ns) =
      joined (labelled form before i (node_text form i n)) (members_text form (between form) is ns)
  members_text form before is ns = None

abbrev pub member_text : Form → List ℕ → Instruction → Item → Option (List ℕ)
member_text form before i n = labelled form before i (node_text form i n)

-- ---- the line

-- in a text the template's identifier and name, NAME=VALUE of each instruction with a space in front, and a line feed;
-- in JSON an object of the name, the identifier and the object of the instructions, and a line feed
abbrev pub line_by : Form → List ℕ → Instructions → Content → Option (List ℕ)
line_by form name members m =
    option_map (λ text. head_text form m.template name ++ text ++ ending form)
    (members_text form (lead form (is_led form)) members m.items)

abbrev pub line_if : Form → Option FlatTemplate → Content → Option (List ℕ)
line_if form (Some t) m = line_by form t.name (resolved_of t).members m
line_if form None m = None

-- the line of a message; none where its template is not in the set, or it is not a message of its template
abbrev pub line_in : Form → TemplateList → Content → Option (List ℕ)
line_in form set m = line_if form (template_of m.template set) m

-- the lines of messages, one behind another; none where a message has none
abbrev pub lines_in : Form → TemplateList → List Content → Option (List ℕ)
lines_in form set [] = Some []
lines_in form set (m ∷ ms) = joined (line_in form set m) (lines_in form set ms)

-- ---- a check

-- what a check says that ended well: the messages, the bytes read and the canonical bytes
abbrev pub ok_text : ℕ → ℕ → ℕ → List ℕ
ok_text messages read canonical =
    codes "ok messages=" ++ decimal messages ++ codes " bytes=" ++ decimal read ++ codes " canonical=" ++ decimal canonical ++ codes "\n"
