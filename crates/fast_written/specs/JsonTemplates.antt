-- The templates that a template text stands for, or the place where its shape is at fault.
-- Own: FAST 1.1, Appendix 3, Template Definition Schemas, has the same in XML.
use Rattle.std.specs.declared.alloc.Global.{Global}
use Rattle.std.specs.declared.vec.Vec.{Vec}
use Rattle.fast_written.specs.LoadFaults.{want_of_memory}
use Rattle.std.specs.Prelude.{◌⊎◌, map, nat_lt, ◌^◌, ◌∷◌, ◌+◌, ◌&&◌, ℕ, ◌||◌, nat_eq, Bool, List, [], codes, if◌then◌else◌, is_some, Option, Some, None, unwrap_or, option_map, option_and_then, Result, Ok, Err, ◌≡◌, option_to_list}
use Rattle.std.specs.Option.{option_map_or, option_or}
use Rattle.std.specs.Ordering.{nat_cmp, match_ordering}
use Rattle.std.specs.Cmp.Lexicographic.{pointwise, slice_cmp}
use Rattle.serde_json.specs.Data.{Data, array, object, Items, no_items, item, Members, no_members, member}
use Rattle.serde_json.specs.Find.{get, as_str, as_number, as_u64}
use Rattle.fast_value.specs.declared.kind.Kind.{Kind}
use Rattle.fast_value.specs.declared.kind.Presence.{Presence}
use Rattle.fast_value.specs.declared.kind.Presence.TheVariants.{Mandatory, Optional}
use Rattle.fast_value.specs.declared.kind.Operator.{Operator}
use Rattle.fast_written.specs.declared.profile.Word.{Word}
use Rattle.fast_written.specs.declared.profile.Row.{Row}
use Rattle.fast_written.specs.declared.from_data.Form.{Form}
use Rattle.fast_written.specs.Written.{written_template_of}
use Rattle.fast_written.specs.declared.written.Template.{Template}
use Rattle.fast_written.specs.declared.from_data.Unread.{Unread}
use Rattle.fast_written.specs.Written.{WrittenTemplate, WrittenOperation, Surroundings, WrittenInstruction, WrittenInstructions, written_field, written_parts, written_group, written_sequence, written_reference, no_written, then_written}
use Rattle.fast_written.specs.LoadFaults.{fault_at}
use Rattle.fast_written.specs.Names.{is_name}
use Rattle.fast_written.specs.declared.fault.LoadCause.{LoadCause}
use Rattle.fast_written.specs.declared.fault.LoadFault.{LoadFault}
use Rattle.std.specs.List.{list_all}
use Rattle.fast_written.specs.Profile.{word_text, fits}
use Rattle.fast_written.specs.LoadFaults.{next_number}

-- ---- what stands under a key

abbrev pub text_at : Word → Data → Option (List ℕ)
text_at w d = option_and_then as_str (get (word_text w) d)

abbrev pub has : Word → Data → Bool
has w d = is_some (get (word_text w) d)

abbrev pub name_in : Data → List ℕ
name_in d = unwrap_or (text_at Word.Name d) []

abbrev pub around_in : Data → Surroundings
around_in d = record { dictionary = text_at Word.Dictionary d; type_ref = text_at Word.TypeRef d }

-- ---- words

abbrev pub is_word : List ℕ → List ℕ → Bool
is_word w text = pointwise nat_eq text w

abbrev pub form_named : List ℕ → Option Form
form_named text =
    if is_word (codes "int32") text then Some Form.Int32
    else if is_word (codes "uInt32") text then Some Form.UInt32
    else if is_word (codes "int64") text then Some Form.Int64
    else if is_word (codes "uInt64") text then Some Form.UInt64
    else if is_word (codes "decimal") text then Some Form.Decimal
    else if is_word (codes "string") text then Some Form.Text
    else if is_word (codes "byteVector") text then Some Form.Bytes
    else if is_word (codes "group") text then Some Form.Group
    else if is_word (codes "sequence") text then Some Form.Sequence
    else if is_word (codes "templateRef") text then Some Form.Reference
    else None

abbrev pub presence_named : List ℕ → Option Presence
presence_named text =
    if is_word (codes "mandatory") text then Some Mandatory
    else if is_word (codes "optional") text then Some Optional
    else None

abbrev pub charset_named : List ℕ → Option Kind
charset_named text =
    if is_word (codes "ascii") text then Some Kind.Ascii
    else if is_word (codes "unicode") text then Some Kind.Unicode
    else None

abbrev pub operator_named : List ℕ → Option Operator
operator_named text =
    if is_word (codes "constant") text then Some Operator.Constant
    else if is_word (codes "default") text then Some Operator.Default
    else if is_word (codes "copy") text then Some Operator.Copy
    else if is_word (codes "increment") text then Some Operator.Increment
    else if is_word (codes "delta") text then Some Operator.Delta
    else if is_word (codes "tail") text then Some Operator.Tail
    else None

-- mandatory, and ASCII, where nothing is said
abbrev pub presence_in : Data → Option Presence
presence_in d = option_map_or presence_named (text_at Word.Presence d) (Some Mandatory)

abbrev pub charset_in : Data → Option Kind
charset_in d = option_map_or charset_named (text_at Word.Charset d) (Some Kind.Ascii)

abbrev pub form_in : Data → Option Form
form_in d = option_and_then form_named (text_at Word.Kind d)

-- ---- operators

abbrev pub plain : WrittenOperation
plain = record { operator = Operator.Plain; initial = None; dictionary = None; key = None }

-- what may stand beside an operator stands there
abbrev pub says_more : Data → Bool
says_more d = has Word.Value d || has Word.Dictionary d || has Word.Key d

abbrev pub operation_of_word : Data → Option Operator → Option WrittenOperation
operation_of_word d named = option_map (λ o. record { operator = o; initial = text_at Word.Value d; dictionary = text_at Word.Dictionary d; key = text_at Word.Key d }) named

-- without an operator nothing may stand beside it
abbrev pub operation_in : Data → Option WrittenOperation
operation_in d = option_map_or (λ text. operation_of_word d (operator_named text)) (text_at Word.Operator d) (if says_more d then None else Some plain)

-- the operator of an exponent, a mantissa or a length: an object of its own, or as if it were empty
abbrev pub part_in : Row → Word → Data → Option WrittenOperation
part_in r w d = option_map_or (λ inner. if fits r inner then operation_in inner else None) (get (word_text w) d) (Some plain)

abbrev pub length_name_in : Data → Option (List ℕ)
length_name_in d = option_and_then (text_at Word.Name) (get (word_text Word.Length) d)

-- ---- instructions without members

abbrev pub field_in : Kind → Data → Option WrittenInstruction
field_in k d = option_and_then (λ presence. option_map (written_field (name_in d) k presence) (operation_in d)) (presence_in d)

abbrev pub parts_in : Data → Option WrittenInstruction
parts_in d =
    if has Word.Operator d || says_more d then None
    else option_and_then (λ presence. option_and_then (λ exponent. option_map (written_parts (name_in d) presence exponent) (part_in Row.Part Word.Mantissa d)) (part_in Row.Part Word.Exponent d)) (presence_in d)

-- one of exponent and mantissa makes separate operators
abbrev pub decimal_in : Data → Option WrittenInstruction
decimal_in d = if has Word.Exponent d || has Word.Mantissa d then parts_in d else field_in Kind.Decimal d

abbrev pub leaf_in : Form → Data → Option WrittenInstruction
leaf_in Form.Int32 d = field_in Kind.Int32 d
leaf_in Form.UInt32 d = field_in Kind.UInt32 d
leaf_in Form.Int64 d = field_in Kind.Int64 d
leaf_in Form.UInt64 d = field_in Kind.UInt64 d
leaf_in Form.Decimal d = decimal_in d
leaf_in Form.Text d = option_and_then (λ k. field_in k d) (charset_in d)
leaf_in Form.Bytes d = field_in Kind.Bytes d
leaf_in Form.Reference d = Some (written_reference (name_in d))
leaf_in f d = None

-- the row of the table that an instruction has to fit
abbrev pub row_of_form : Form → Row
row_of_form Form.Text = Row.Text
row_of_form Form.Decimal = Row.Decimal
row_of_form Form.Group = Row.Group
row_of_form Form.Sequence = Row.Sequence
row_of_form Form.Reference = Row.Reference
row_of_form f = Row.Field

-- ---- instructions, with the number of the one after them, or the number of the one at fault

abbrev pub Read : Type 0 → Type 0
Read A = Result (A × ℕ) ℕ

abbrev pub leaf : ℕ → Option WrittenInstruction → Read WrittenInstruction
leaf n None = Err n
leaf n (Some i) = Ok (i, next_number n)

abbrev pub around_members : (WrittenInstructions → WrittenInstruction) → Read WrittenInstructions → Read WrittenInstruction
around_members f (Ok p) = Ok (f p.0, p.1)
around_members f (Err n) = Err n

abbrev pub group_in : Data → ℕ → Read WrittenInstructions → Read WrittenInstruction
group_in d n inside = option_map_or (λ presence. around_members (written_group (name_in d) presence (around_in d)) inside) (presence_in d) (Err n)

abbrev pub sequence_in : Data → ℕ → Read WrittenInstructions → Read WrittenInstruction
sequence_in d n inside =
    option_map_or (λ presence. option_map_or (λ length. around_members (written_sequence (name_in d) presence (around_in d) (length_name_in d) length) inside) (part_in Row.Length Word.Length d) (Err n)) (presence_in d) (Err n)

abbrev pub of_form : Form → Data → ℕ → Read WrittenInstructions → Read WrittenInstruction
of_form Form.Group d n inside = group_in d n inside
of_form Form.Sequence d n inside = sequence_in d n inside
of_form f d n inside = leaf n (leaf_in f d)

-- an instruction's own shape comes before that of its members
abbrev pub one_of : Data → ℕ → Read WrittenInstructions → Read WrittenInstruction
one_of d n inside = option_map_or (λ f. if fits (row_of_form f) d then of_form f d n inside else Err n) (form_in d) (Err n)

abbrev pub before_others : WrittenInstruction → Read WrittenInstructions → Read WrittenInstructions
before_others i (Err n) = Err n
before_others i (Ok q) = Ok (then_written i q.0, q.1)

abbrev pub then_others : Read WrittenInstruction → (ℕ → Read WrittenInstructions) → Read WrittenInstructions
then_others (Err n) others = Err n
then_others (Ok p) others = before_others p.0 (others p.1)

abbrev mutual
  pub read_one : Data → ℕ → Read WrittenInstruction
  read_one (object ms) n = one_of (object ms) n (read_inside ms (next_number n))
  read_one d n = Err n

  -- what stands under the key of instructions
  pub read_inside : Members → ℕ → Read WrittenInstructions
  read_inside no_members n = Ok (no_written, n)
  read_inside (member key d ms) n = match_ordering (slice_cmp nat_cmp (word_text Word.Instructions) key) (read_inside ms n) (read_all d n) (read_inside ms n)

  pub read_all : Data → ℕ → Read WrittenInstructions
  read_all (array ds) n = read_items ds n
  read_all d n = Ok (no_written, n)

  pub read_items : Items → ℕ → Read WrittenInstructions
  read_items no_items n = Ok (no_written, n)
  read_items (item d ds) n = then_others (read_one d n) (read_items ds)

-- ---- templates

-- what stands under the key of instructions, where it stands
abbrev pub members_in : Data → ℕ → Read WrittenInstructions
members_in d n = option_map_or (λ e. read_all e n) (get (word_text Word.Instructions) d) (Ok (no_written, n))

abbrev pub id_of : Option ℕ → Option ℕ
id_of None = None
id_of (Some n) = if nat_lt n (2 ^ 32) then Some n else None

abbrev pub id_in : Data → Option ℕ
id_in d = id_of (option_and_then as_u64 (option_and_then as_number (get (word_text Word.Id) d)))

-- a dictionary of the text is put on each template that names none
abbrev pub template_with : Option (List ℕ) → Data → WrittenInstructions → WrittenTemplate
template_with default d members =
    record { name = name_in d; id = id_in d; around = record { dictionary = option_or (text_at Word.Dictionary d) default; type_ref = text_at Word.TypeRef d }; members = members }

abbrev pub template_of_members : Option (List ℕ) → Data → Read WrittenInstructions → Result WrittenTemplate ℕ
template_of_members default d (Err n) = Err n
template_of_members default d (Ok p) = Ok (template_with default d p.0)

abbrev pub read_template : Option (List ℕ) → Data → Result WrittenTemplate ℕ
read_template default d = if fits Row.Template d then template_of_members default d (members_in d 1) else Err 0

abbrev pub then_templates : ℕ → Result WrittenTemplate ℕ → Result (List WrittenTemplate) LoadFault → Result (List WrittenTemplate) LoadFault
then_templates t (Err i) others = Err (fault_at LoadCause.S1 t i)
then_templates t (Ok w) (Err fault) = Err fault
then_templates t (Ok w) (Ok ws) = Ok (w ∷ ws)

-- the templates of a list, which are numbered from t on
abbrev pub read_templates : Option (List ℕ) → Items → ℕ → Result (List WrittenTemplate) LoadFault
read_templates default no_items t = Ok []
read_templates default (item d ds) t = then_templates t (read_template default d) (read_templates default ds (t + 1))

abbrev pub templates_under : Option (List ℕ) → Option Data → Result (List WrittenTemplate) LoadFault
templates_under default (Some (array ds)) = read_templates default ds 1
templates_under default d = Err (fault_at LoadCause.S1 0 0)

-- The templates of a text's data: of the text as a whole its object's shape and the name of its dictionary come first.
abbrev pub templates_of : Data → Result (List WrittenTemplate) LoadFault
templates_of d =
    if fits Row.Top d && list_all is_name (option_to_list (text_at Word.Dictionary d)) then templates_under (text_at Word.Dictionary d) (get (word_text Word.Templates) d)
    else Err (fault_at LoadCause.S1 0 0)

-- ---- what a reader in a program answers: the same, or want of memory

abbrev pub ReadsAs : {A B : Type 0} → (A → B) → Result (A × ℕ) Unread → Read B → Type 0
ReadsAs f (Ok p) spec = spec ≡ Ok (f p.0, p.1)
ReadsAs f (Err (Unread.At n)) spec = spec ≡ Err n
ReadsAs f (Err Unread.Memory) spec = Unit {0}

abbrev pub ReadsTemplate : Result Template Unread → Result WrittenTemplate ℕ → Type 0
ReadsTemplate (Ok template) spec = spec ≡ Ok (written_template_of template)
ReadsTemplate (Err (Unread.At n)) spec = spec ≡ Err n
ReadsTemplate (Err Unread.Memory) spec = Unit {0}

abbrev pub ReadsTemplates : Result (Vec Template Global) LoadFault → Result (List WrittenTemplate) LoadFault → Type 0
ReadsTemplates (Ok templates) spec = spec ≡ Ok (map written_template_of templates.items)
ReadsTemplates (Err fault) spec = (spec ≡ Err fault) ⊎ (fault ≡ want_of_memory)

abbrev pub fault_of_unread : Unread → ℕ → LoadFault
fault_of_unread (Unread.At n) t = record { cause = LoadCause.S1; template = t; instruction = n }
fault_of_unread Unread.Memory t = want_of_memory
