-- The definitions of `specs/` on the templates of the worked rows: each row computes.
use Rattle.fast_load.proofs.Common.{◌≡◌, ◌≢◌, ℕ, zero, suc, ◌-◌, ◌^◌, List, [], ◌∷◌, length, Option, Some, None, Bool, true, false, pos, negsuc, refl, sym, ap, subst, ◌∙◌, ◌<◌, get_or, lit<, lit≤, arith, codes, Contains, option_map_or, Kind, Presence, Mandatory, Optional, Operator, Plain, Constant, Default, Copy, Increment, Delta, Tail, Part, Whole, Exponent, Mantissa, Length, Scalar, Scope, Key, FieldPart, value_of_text, WrittenOperation, Surroundings, WrittenInstruction, written_field, written_parts, written_group, written_sequence, written_reference, written_list, WrittenTemplate, Instruction, Instructions, whole_field, field_in_parts, group_of, sequence_of, instructions_of, no_instructions, then_instruction, numbered, keys_of, size_of, depth_of, needs_bit, has_map, context_of, flat_list, Before, names_well_made, name_new, id_new, operator_allowed, constant_has_value, default_has_value, value_spelled, reference_known, off_cycles, nests_little, sum_small, Fails, directly, IsTemplateAt, HaveTypedParts, IsNumbered, AreSound, identifier_key, by, by_value, by_key, nothing_around, template, quote, wrap, opt, legs, marks, bare, clash, tail, init, delta, common, grp, uni, empty, const, fixed, first}
use Rattle.fast_value.specs.declared.kind.Kind.TheVariants.{Int32, UInt32, Int64, Decimal, Ascii, Unicode, Bytes}
use Rattle.fast_value.specs.declared.key.Scope.TheVariants.{Global, Template, Typed, User}
use Rattle.fast_load.proofs.WorkedLists.{common_list}

-- the flat list of the template at a place, numbered; slots are still to be given
abbrev flat : ℕ → WrittenTemplate → Instructions
flat place t = numbered 1 (flat_list common_list (context_of place t) t.members)

-- a global key of a name, and of an internal part
abbrev named : List ℕ → Key
named name = record { slot = 0; scope = Global; name = name; part = Whole }

abbrev internal : List ℕ → Part → Key
internal name part = record { slot = 0; scope = Global; name = name; part = part }

abbrev part_at : ℕ → Part → Kind → Presence → Operator → Option Scalar → Key → FieldPart
part_at number part kind presence operator initial key = record { number = number; part = part; kind = kind; presence = presence; operator = operator; initial = initial; key = key }

-- a field under its own name, and under a key
abbrev field : ℕ → List ℕ → Kind → Presence → Operator → Option Scalar → Instruction
field number name kind presence operator initial = whole_field name number presence (part_at number Whole kind presence operator initial (named name))

abbrev field_under : ℕ → List ℕ → Kind → Presence → Operator → List ℕ → Instruction
field_under number name kind presence operator key = whole_field name number presence (part_at number Whole kind presence operator None (named key))

-- ---- flat lists, with keys and numbers

quote_is : flat 1 quote ≡ instructions_of (
    field 1 (codes "Seq") UInt32 Mandatory Increment None
    ∷ field 2 (codes "Sym") Ascii Mandatory Copy None
    ∷ field 3 (codes "Px") Decimal Mandatory Delta None
    ∷ field 4 (codes "Qty") UInt32 Optional Copy None
    ∷ [])
quote_is = refl

wrap_is : flat 2 wrap ≡ instructions_of (field 1 (codes "A") UInt32 Mandatory Increment None ∷ field 2 (codes "B") UInt32 Mandatory Delta None ∷ [])
wrap_is = refl

-- A decimal in parts has one number, and internal keys of its own.
opt_is : flat 3 opt ≡ instructions_of (
    field_in_parts (codes "Px") 1 Optional
    (part_at 1 Exponent Int32 Optional Default (Some (Scalar.I32 (pos 2))) (internal (codes "Px") Exponent))
    (part_at 1 Mantissa Int64 Mandatory Copy None (internal (codes "Px") Mantissa))
    ∷ field 2 (codes "Flag") UInt32 Mandatory Copy None
    ∷ [])
opt_is = refl

-- A length without a name has an internal key; its sequence is numbered before the members.
legs_is : flat 4 legs ≡ instructions_of (
    sequence_of (codes "L") 1 Optional (part_at 1 Length UInt32 Optional Plain None (internal (codes "L") Length))
    (instructions_of (field 2 (codes "P") UInt32 Mandatory Plain None ∷ []))
    ∷ [])
legs_is = refl

marks_is : flat 5 marks ≡ instructions_of (
    sequence_of (codes "L") 1 Mandatory (part_at 1 Length UInt32 Mandatory Plain None (internal (codes "L") Length))
    (instructions_of (field 2 (codes "Q") UInt32 Mandatory Copy None ∷ []))
    ∷ [])
marks_is = refl

bare_is : flat 6 bare ≡ instructions_of (sequence_of (codes "L") 1 Mandatory (part_at 1 Length UInt32 Mandatory Plain None (internal (codes "L") Length)) no_instructions ∷ [])
bare_is = refl

clash_is : flat 7 clash ≡ instructions_of (field_under 1 (codes "A") UInt32 Mandatory Copy (codes "K") ∷ field_under 2 (codes "B") Ascii Mandatory Copy (codes "K") ∷ [])
clash_is = refl

tail_is : flat 8 tail ≡ instructions_of (field 1 (codes "S") Ascii Optional Tail None ∷ [])
tail_is = refl

init_is : flat 9 init ≡ instructions_of (field 1 (codes "S") Ascii Optional Tail (Some (Scalar.Ascii (codes "ab"))) ∷ [])
init_is = refl

delta_is : flat 10 delta ≡ instructions_of (field 1 (codes "S") Ascii Mandatory Delta None ∷ [])
delta_is = refl

-- A reference stands for the instructions of its template, numbered where they stand.
grp_is : flat 12 grp ≡ instructions_of (
    group_of (codes "Hd") 1 Optional (instructions_of (field 2 (codes "A") UInt32 Mandatory Copy None ∷ []))
    ∷ field 3 (codes "B") UInt32 Mandatory Copy None
    ∷ [])
grp_is = refl

uni_is : flat 13 uni ≡ instructions_of (field 1 (codes "S") Unicode Mandatory Tail None ∷ [])
uni_is = refl

empty_is : flat 14 empty ≡ instructions_of (field_under 1 (codes "A") UInt32 Optional Copy (codes "K") ∷ field_under 2 (codes "B") UInt32 Mandatory Delta (codes "K") ∷ [])
empty_is = refl

const_is : flat 15 const ≡ instructions_of (
    field 1 (codes "K") UInt32 Mandatory Constant (Some (Scalar.U32 7))
    ∷ field 2 (codes "O") UInt32 Optional Constant (Some (Scalar.U32 9))
    ∷ field 3 (codes "D") UInt32 Mandatory Default (Some (Scalar.U32 3))
    ∷ [])
const_is = refl

fixed_is : flat 16 fixed ≡ instructions_of (
    field_in_parts (codes "Px") 1 Mandatory
    (part_at 1 Exponent Int32 Mandatory Constant (Some (Scalar.I32 (negsuc 1))) (internal (codes "Px") Exponent))
    (part_at 1 Mantissa Int64 Mandatory Delta None (internal (codes "Px") Mantissa))
    ∷ field 2 (codes "Raw") Bytes Optional Copy None
    ∷ [])
fixed_is = refl

first_is : flat 17 first ≡ instructions_of (field 1 (codes "A") UInt32 Mandatory Plain None ∷ field 2 (codes "B") UInt32 Mandatory Copy None ∷ [])
first_is = refl

-- ---- bits and maps

-- the bits that the instructions directly in a list ask for first
abbrev bits : Instructions → List Bool
bits no_instructions = []
bits (then_instruction i is) = needs_bit i ∷ bits is

quote_bits : bits (flat 1 quote) ≡ true ∷ true ∷ false ∷ true ∷ []
quote_bits = refl

wrap_bits : bits (flat 2 wrap) ≡ true ∷ false ∷ []
wrap_bits = refl

opt_bits : bits (flat 3 opt) ≡ true ∷ true ∷ []
opt_bits = refl

-- A sequence's length without an operator asks for none, and nor does its plain member; a copy does.
legs_map : has_map (flat 4 legs) ≡ false
legs_map = refl

-- what is inside the first group or sequence of a list
abbrev inside_first : Instructions → Instructions
inside_first no_instructions = no_instructions
inside_first (then_instruction (whole_field name number presence whole) is) = no_instructions
inside_first (then_instruction (field_in_parts name number presence exponent mantissa) is) = no_instructions
inside_first (then_instruction (group_of name number presence members) is) = members
inside_first (then_instruction (sequence_of name number presence length members) is) = members

leg_map : has_map (inside_first (flat 4 legs)) ≡ false
leg_map = refl

mark_map : has_map (inside_first (flat 5 marks)) ≡ true
mark_map = refl

-- An optional group asks for a bit around it, and has a map of its own for its member's.
grp_bits : bits (flat 12 grp) ≡ true ∷ true ∷ []
grp_bits = refl

grp_map : has_map (inside_first (flat 12 grp)) ≡ true
grp_map = refl

-- A mandatory constant asks for none, an optional one and a default for one each.
const_bits : bits (flat 15 const) ≡ false ∷ true ∷ true ∷ []
const_bits = refl

fixed_bits : bits (flat 16 fixed) ≡ false ∷ true ∷ []
fixed_bits = refl

-- A list whose only bit is a mantissa's has a map, though the decimal's first part asks for none.
abbrev mantissa_alone : WrittenTemplate
mantissa_alone = template (codes "M") None (written_parts (codes "Px") Mandatory (by Delta) (by Copy) ∷ [])

mantissa_bits : bits (flat 1 mantissa_alone) ≡ false ∷ []
mantissa_bits = refl

mantissa_map : has_map (flat 1 mantissa_alone) ≡ true
mantissa_map = refl

-- ---- keys

-- the keys of a template's instructions, written as the second of a list
abbrev keys : WrittenTemplate → List Key
keys t = keys_of (flat 2 t)

abbrev key_in : Scope → List ℕ → Part → Key
key_in scope name part = record { slot = 0; scope = scope; name = name; part = part }

abbrev in_dictionary : List ℕ → WrittenOperation
in_dictionary dictionary = record { operator = Copy; initial = None; dictionary = Some dictionary; key = None }

abbrev around_with : List ℕ → List ℕ → Surroundings
around_with dictionary type_ref = record { dictionary = Some dictionary; type_ref = Some type_ref }

-- Each word for a dictionary; `template` is the place of the template in its list.
words_is : keys (template (codes "T") None (
    written_field (codes "a") UInt32 Mandatory (in_dictionary (codes "global"))
    ∷ written_field (codes "b") UInt32 Mandatory (in_dictionary (codes "template"))
    ∷ written_field (codes "c") UInt32 Mandatory (in_dictionary (codes "type"))
    ∷ written_field (codes "d") UInt32 Mandatory (in_dictionary (codes "mine"))
    ∷ []))
    ≡ key_in Global (codes "a") Whole ∷ key_in (Template 2) (codes "b") Whole ∷ key_in (Typed (codes "any")) (codes "c") Whole ∷ key_in (User (codes "mine")) (codes "d") Whole ∷ []
words_is = refl

-- The innermost element's name holds, and a sequence's names hold for its length too.
innermost_is : keys (template (codes "T") None (
    written_sequence (codes "L") Mandatory (around_with (codes "type") (codes "Legs")) None (by Copy) (written_list (
    written_field (codes "a") UInt32 Mandatory (by Copy)
    ∷ written_group (codes "G") Mandatory (record { dictionary = None; type_ref = Some (codes "any") }) (written_list (
    written_field (codes "b") UInt32 Mandatory (by Copy)
    ∷ written_field (codes "c") UInt32 Mandatory (in_dictionary (codes "mine"))
    ∷ []))
    ∷ []))
    ∷ written_field (codes "d") UInt32 Mandatory (by Copy)
    ∷ []))
    ≡ key_in (Typed (codes "Legs")) (codes "L") Length
    ∷ key_in (Typed (codes "Legs")) (codes "a") Whole
    ∷ key_in (Typed (codes "any")) (codes "b") Whole
    ∷ key_in (User (codes "mine")) (codes "c") Whole
    ∷ key_in Global (codes "d") Whole
    ∷ []
innermost_is = refl

-- A length with a name has the key of a field of that name.
length_is : keys (template (codes "T") None (
    written_sequence (codes "L") Mandatory nothing_around (Some (codes "N")) (by Copy) (written_list [])
    ∷ written_field (codes "N") UInt32 Mandatory (by Copy)
    ∷ []))
    ≡ key_in Global (codes "N") Whole ∷ key_in Global (codes "N") Whole ∷ []
length_is = refl

-- Both parts of a decimal have one key, where it is given to both.
shared_is : keys (template (codes "T") None (written_parts (codes "Px") Mandatory (by_key Copy (codes "K")) (by_key Copy (codes "K")) ∷ []))
    ≡ key_in Global (codes "K") Whole ∷ key_in Global (codes "K") Whole ∷ []
shared_is = refl

-- A reference's instructions keep the key of where they were written: in the eleventh template.
referred_is : keys_of (flat_list (λ _. flat_list (λ _. no_instructions) (context_of 11 common) (written_list (written_field (codes "B") UInt32 Mandatory (in_dictionary (codes "template")) ∷ []))) (context_of 12 grp) grp.members)
    ≡ key_in Global (codes "A") Whole ∷ key_in (Template 11) (codes "B") Whole ∷ []
referred_is = refl

-- ---- texts of initial values

abbrev whole_value : Kind → List ℕ → Option Scalar
whole_value kind text = value_of_text Whole kind text

greatest_is : whole_value UInt32 (codes "4294967295") ≡ Some (Scalar.U32 (2 ^ 32 - 1))
greatest_is = refl

past_greatest_is : whole_value UInt32 (codes "4294967296") ≡ None
past_greatest_is = refl

no_number_is : whole_value UInt32 (codes "x") ≡ None
no_number_is = refl

zeros_is : whole_value UInt32 (codes "007") ≡ Some (Scalar.U32 7)
zeros_is = refl

minus_zero_is : whole_value UInt32 (codes "-0") ≡ Some (Scalar.U32 0)
minus_zero_is = refl

negative_is : whole_value UInt32 (codes "-1") ≡ None
negative_is = refl

least_is : whole_value Int32 (codes "-2147483648") ≡ Some (Scalar.I32 (negsuc (2 ^ 31 - 1)))
least_is = refl

minus_alone_is : whole_value Int64 (codes "-") ≡ None
minus_alone_is = refl

plus_is : whole_value Int64 (codes "+1") ≡ None
plus_is = refl

nothing_is : whole_value Int64 [] ≡ None
nothing_is = refl

decimal_is : whole_value Decimal (codes "100e-2") ≡ Some (Scalar.Decimal (negsuc 1) (pos 100))
decimal_is = refl

zero_decimal_is : whole_value Decimal (codes "00e-0") ≡ Some (Scalar.Decimal (pos 0) (pos 0))
zero_decimal_is = refl

no_exponent_is : whole_value Decimal (codes "100") ≡ None
no_exponent_is = refl

capital_is : whole_value Decimal (codes "1E2") ≡ None
capital_is = refl

great_exponent_is : whole_value Decimal (codes "1e64") ≡ None
great_exponent_is = refl

exponent_part_is : value_of_text Exponent Int32 (codes "63") ≡ Some (Scalar.I32 (pos 63))
exponent_part_is = refl

exponent_past_is : value_of_text Exponent Int32 (codes "64") ≡ None
exponent_past_is = refl

-- A length's initial value is any uInt32, also one that no stream can use.
great_length_is : value_of_text Length UInt32 (codes "65536") ≡ Some (Scalar.U32 65536)
great_length_is = refl

bytes_are : whole_value Bytes (codes "0aFF") ≡ Some (Scalar.Bytes (10 ∷ 255 ∷ []))
bytes_are = refl

odd_bytes_are : whole_value Bytes (codes "0aF") ≡ None
odd_bytes_are = refl

no_bytes_are : whole_value Bytes [] ≡ Some (Scalar.Bytes [])
no_bytes_are = refl

beyond_ascii_is : whole_value Ascii (195 ∷ 169 ∷ []) ≡ None
beyond_ascii_is = refl

unicode_is : whole_value Unicode (195 ∷ 169 ∷ []) ≡ Some (Scalar.Unicode (195 ∷ 169 ∷ []))
unicode_is = refl

-- ---- the order of load checks

-- Names come before duplicates, these before the checks of operators, those before references, and these before cycles.
names_first : Before (names_well_made 9 9) (name_new 1)
names_first = refl

duplicates_then : Before (id_new 9) (operator_allowed 1 1 0)
duplicates_then = refl

operators_then : Before (value_spelled 9 9 1) (reference_known 1 1)
operators_then = refl

references_then : Before (reference_known 9 9) (off_cycles 1)
references_then = refl

cycles_then : Before (off_cycles 9) (nests_little 1)
cycles_then = refl

-- All of an exponent comes before its mantissa, and of one part S2, S4, S5 and then S3.
exponent_first : Before (value_spelled 1 1 0) (operator_allowed 1 1 1)
exponent_first = refl

rank_first : Before (operator_allowed 1 1 0) (constant_has_value 1 1 0)
rank_first = refl

rank_second : Before (constant_has_value 1 1 0) (default_has_value 1 1 0)
rank_second = refl

rank_third : Before (default_has_value 1 1 0) (value_spelled 1 1 0)
rank_third = refl

-- A template's name comes before its identifier, and before the next one's name.
name_before_id : Before (name_new 2) (id_new 2)
name_before_id = refl

id_before_next : Before (id_new 2) (name_new 3)
id_before_next = refl

-- Too many of one template come before too deep of the next.
sum_before_depth : Before (sum_small 1) (nests_little 2)
sum_before_depth = refl

-- ---- load rows

-- a template of one field
abbrev of_field : Kind → Presence → WrittenOperation → List WrittenTemplate
of_field kind presence operation = template (codes "T") (Some 1) (written_field (codes "F") kind presence operation ∷ []) ∷ []

increment_of_text : Fails (of_field Ascii Mandatory (by Increment)) (operator_allowed 1 1 0)
increment_of_text = (_, (_, (_, refl, refl), refl), refl)

value_no_number : Fails (of_field UInt32 Mandatory (by_value Copy (codes "x"))) (value_spelled 1 1 0)
value_no_number = (_, _, (_, (_, refl, refl), refl), refl, refl)

constant_alone : Fails (of_field UInt32 Mandatory (by Constant)) (constant_has_value 1 1 0)
constant_alone = (_, (_, (_, refl, refl), refl), refl, refl)

default_alone : Fails (of_field UInt32 Mandatory (by Default)) (default_has_value 1 1 0)
default_alone = (_, (_, (_, refl, refl), refl), refl, refl, refl)

same_name : Fails (template (codes "A") None [] ∷ template (codes "A") None [] ∷ []) (name_new 2)
same_name = (1, _, _, lit< tt, refl, refl, refl)

same_id : Fails (template (codes "A") (Some 1) [] ∷ template (codes "B") (Some 1) [] ∷ []) (id_new 2)
same_id = (1, _, _, lit< tt, refl, refl, refl, refl)

-- A refers to A
self_reference : Fails (template (codes "A") None (written_reference (codes "A") ∷ []) ∷ []) (off_cycles 1)
self_reference = directly 1 (1, _, refl, (_, refl, refl))

-- A refers to Nobody
unknown_name : Fails (template (codes "A") None (written_reference (codes "Nobody") ∷ []) ∷ []) (reference_known 1 1)
unknown_name = (codes "Nobody", (_, refl, refl), others) where
  others : (u : ℕ) (w : WrittenTemplate) → IsTemplateAt (template (codes "A") None (written_reference (codes "Nobody") ∷ []) ∷ []) u w → w.name ≢ codes "Nobody"
  others zero w is = absurd (cc is)
  others (suc zero) w is = λ e. let names : codes "A" ≡ codes "Nobody" = ap (λ o. option_map_or (λ v. v.name) o []) is ∙ e in absurd (cc names)
  others (suc (suc u)) w is = absurd (cc is)

-- groups, each in the one before
abbrev nested : ℕ → WrittenInstruction
nested zero = written_field (codes "F") UInt32 Mandatory (by Plain)
nested (suc n) = written_group (codes "G") Mandatory nothing_around (written_list (nested n ∷ []))

eight_levels : depth_of (flat 1 (template (codes "T") None (nested 8 ∷ []))) ≡ 8
eight_levels = refl

nine_levels : depth_of (flat 1 (template (codes "T") None (nested 9 ∷ []))) ≡ 9
nine_levels = refl

-- Depth is carried through references: one level around a template of eight.
levels_referred : depth_of (flat_list (λ _. flat 2 (template (codes "U") None (nested 8 ∷ []))) (context_of 1 grp)
    (written_list (written_group (codes "G") Mandatory nothing_around (written_list (written_reference (codes "U") ∷ [])) ∷ []))) ≡ 9
levels_referred = refl

-- A group counts one, and so does each instruction inside it; what a reference stands for counts where it stands.
grp_size : size_of (flat 12 grp) ≡ 3
grp_size = refl

-- ---- what is true of every set

-- a field with an initial value, and one without, of a type that its operator applies to
init_typed : HaveTypedParts (flat 9 init)
init_typed = (
  record {
    part_is = refl;
    kind_is = refl;
    presence_is = refl;
    typed = record {
      operator_applies = refl;
      initial_fits = (refl, refl, (lit≤ tt, (lit< tt, (lit< tt, tt))));
      constant_has_value = λ e. refl;
      default_has_value = λ e f. refl;
    };
  },
  tt,
)

wrap_typed : HaveTypedParts (flat 2 wrap)
wrap_typed = (
  record { part_is = refl; kind_is = refl; presence_is = refl; typed = record { operator_applies = refl; initial_fits = tt; constant_has_value = λ e. absurd (cc e); default_has_value = λ e f. absurd (cc e) } },
  (
    record { part_is = refl; kind_is = refl; presence_is = refl; typed = record { operator_applies = refl; initial_fits = tt; constant_has_value = λ e. absurd (cc e); default_has_value = λ e f. absurd (cc e) } },
    tt,
  ),
)

grp_numbered : IsNumbered (flat 12 grp)
grp_numbered = refl

-- The set of no template is sound: its only slot is the identifier's.
only_identifier : (k : Key) → Contains (identifier_key ∷ []) k → identifier_key ≡ k
only_identifier k found = let first : found.0 ≡ 0 = omega (arith, found.1) in ap (λ i. get_or (identifier_key ∷ []) i k) (sym first) ∙ found.2

no_template : AreSound [] 1
no_template = record {
  few = lit≤ tt;
  distinct = λ i j d below within. absurd (omega (arith, within));
  typed = tt;
  in_order = tt;
  shallow = tt;
  small = lit≤ tt;
  slotted = record {
    below = λ k found. subst (λ l. l.slot < 1) (only_identifier k found) (lit< tt);
    one_slot = λ k l found there same. ap (λ m. m.slot) (sym (only_identifier k found) ∙ only_identifier l there);
    one_key = λ k l found there same.
        let equal : k ≡ l = sym (only_identifier k found) ∙ only_identifier l there in
        (ap (λ m. m.scope) equal, ap (λ m. m.name) equal, ap (λ m. m.part) equal);
    each_used = λ n below. (0, lit< tt, omega (arith, below));
  };
}
