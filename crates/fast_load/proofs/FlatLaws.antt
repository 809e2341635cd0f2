-- Lists of resolved instructions, one after another.
use Rattle.fast_load.proofs.Common.{◌≡◌, ◌<◌, ◌≤◌, ◌+◌, ◌∷◌, ◌++◌, [], ℕ, List, map, drop, get_or, length, Option, option_map, String, Vec, string_bytes, refl, sym, ap, ◌∙◌, Global, option_map_or, slice_get_past, drop_more, drop_all, Kind, Presence, Operation, Instruction-F, fold-roll-Instruction, FieldPart, Flat, FlatTemplate, WrittenInstruction, written_field, written_parts, written_group, written_sequence, written_step, written_list, written_of, operation_of, Instructions, whole_field, field_in_parts, group_of, sequence_of, no_instructions, then_instruction, joined, instructions_of, list_of, instruction_of, field_is, parts_are, group_is, sequence_is, list_at, Context, inside, flat_list, flat_one, field_part, exponent_part, mantissa_part, length_part}
use Rattle.fast_written.specs.declared.written.Instruction.{Instruction}
use Rattle.fast_written.specs.declared.written.Instruction.TheVariants as written
use Rattle.fast_template.specs.declared.resolved.Flat.TheVariants as flat
use Rattle.fast_template.specs.Resolved as resolved

pub joined_assoc : (a b c : Instructions) → joined (joined a b) c ≡ joined a (joined b c)
joined_assoc no_instructions b c = refl
joined_assoc (then_instruction i is) b c = ap (then_instruction i) (joined_assoc is b c)

pub joined_none : (a : Instructions) → joined a no_instructions ≡ a
joined_none no_instructions = refl
joined_none (then_instruction i is) = ap (then_instruction i) (joined_none is)

pub list_of_append : (fs gs : List Flat) → list_of (fs ++ gs) ≡ joined (list_of fs) (list_of gs)
list_of_append [] gs = refl
list_of_append (f ∷ fs) gs = ap (then_instruction (instruction_of f)) (list_of_append fs gs)

pub list_of_push : (fs : List Flat) (f : Flat) → list_of (fs ++ f ∷ []) ≡ joined (list_of fs) (then_instruction (instruction_of f) no_instructions)
list_of_push fs f = list_of_append fs (f ∷ [])

-- nothing stands past the lists
pub placed_none : (lists : List FlatTemplate) (fs : List Flat) (place : ℕ) → length lists ≤ place → list_of fs ≡ joined (list_of fs) (list_at lists place)
placed_none lists fs place past = sym (ap (λ o. joined (list_of fs) (option_map_or (λ (t : FlatTemplate). list_of t.members.items) o no_instructions)) (slice_get_past lists place past) ∙ joined_none (list_of fs))

-- one instruction more is put in
pub flat_more : (stands : List ℕ → Instructions) (c : Context) (is : List Instruction) (old new : List Flat) (all : Instructions) (d : Instruction) (i : ℕ) → i < length is → d ≡ get_or is i d → list_of new ≡ joined (list_of old) (flat_one stands c (written_of d)) → joined (list_of old) (flat_list stands c (written_list (map written_of (drop i is)))) ≡ all → joined (list_of new) (flat_list stands c (written_list (map written_of (drop (i + 1) is)))) ≡ all
flat_more stands c is old new all d i inside at made h =
    let rest : Instructions = flat_list stands c (written_list (map written_of (drop (i + 1) is))) in
    let split : drop i is ≡ d ∷ drop (i + 1) is = drop_more is i d inside ∙ ap (λ e. e ∷ drop (i + 1) is) (sym at) in
    ap (λ l. joined l rest) made
    ∙ joined_assoc (list_of old) (flat_one stands c (written_of d)) rest
    ∙ ap (λ l. joined (list_of old) (flat_list stands c (written_list (map written_of l)))) (sym split)
    ∙ h

-- the last was put in
pub flat_end : (stands : List ℕ → Instructions) (c : Context) (is : List Instruction) (new : List Flat) (all : Instructions) (i : ℕ) → length is ≤ i → joined (list_of new) (flat_list stands c (written_list (map written_of (drop i is)))) ≡ all → list_of new ≡ all
flat_end stands c is new all i le h = sym (joined_none (list_of new)) ∙ ap (λ l. joined (list_of new) (flat_list stands c (written_list (map written_of l)))) (sym (drop_all i is le)) ∙ h

-- ---- the same instruction once more

pub group_again : (f : Flat) (name n : List ℕ) (number : ℕ) (presence : Presence) (members made : Vec Flat Global) → f ≡ flat.Group name number presence members → n ≡ name → map instruction_of made.items ≡ map instruction_of members.items → instruction_of (flat.Group n number presence made) ≡ instruction_of f
group_again f name n number presence members made is named same =
    group_is n number presence made
    ∙ (λ i. group_of (named i) number presence (instructions_of (same i)))
    ∙ sym (group_is name number presence members)
    ∙ ap instruction_of (sym is)

pub sequence_again : (f : Flat) (name n : List ℕ) (number : ℕ) (presence : Presence) (part p : FieldPart) (members made : Vec Flat Global) → f ≡ flat.Sequence name number presence part members → n ≡ name → p ≡ part → map instruction_of made.items ≡ map instruction_of members.items → instruction_of (flat.Sequence n number presence p made) ≡ instruction_of f
sequence_again f name n number presence part p members made is named parted same =
    sequence_is n number presence p made
    ∙ (λ i. sequence_of (named i) number presence (parted i) (instructions_of (same i)))
    ∙ sym (sequence_is name number presence part members)
    ∙ ap instruction_of (sym is)

pub field_made : (name n : List ℕ) (presence : Presence) (whole made : FieldPart) → n ≡ name → made ≡ whole → instruction_of (flat.Field n 0 presence made) ≡ whole_field name 0 presence whole
field_made name n presence whole made named is = field_is n 0 presence made ∙ (λ i. whole_field (named i) 0 presence (is i))

pub parts_made : (name n : List ℕ) (presence : Presence) (exponent mantissa e m : FieldPart) → n ≡ name → e ≡ exponent → m ≡ mantissa → instruction_of (flat.Parts n 0 presence e m) ≡ field_in_parts name 0 presence exponent mantissa
parts_made name n presence exponent mantissa e m named is_e is_m = parts_are n 0 presence e m ∙ (λ i. field_in_parts (named i) 0 presence (is_e i) (is_m i))

written_field_is : (name : String Global) (kind : Kind) (presence : Presence) (operation : Operation) → written_of (written.Field name kind presence operation) ≡ written_field (string_bytes name) kind presence (operation_of operation)
written_field_is name kind presence operation = ap written_of (sym (written.rolls-Field name kind presence operation)) ∙ fold-roll-Instruction WrittenInstruction written_step (Instruction-F.Field name kind presence operation)

written_parts_are : (name : String Global) (presence : Presence) (exponent mantissa : Operation) → written_of (written.Parts name presence exponent mantissa) ≡ written_parts (string_bytes name) presence (operation_of exponent) (operation_of mantissa)
written_parts_are name presence exponent mantissa = ap written_of (sym (written.rolls-Parts name presence exponent mantissa)) ∙ fold-roll-Instruction WrittenInstruction written_step (Instruction-F.Parts name presence exponent mantissa)

written_group_is : (name : String Global) (presence : Presence) (dictionary type_ref : Option (String Global)) (members : Vec Instruction Global) → written_of (written.Group name presence dictionary type_ref members) ≡ written_group (string_bytes name) presence (record { dictionary = option_map string_bytes dictionary; type_ref = option_map string_bytes type_ref }) (written_list (map written_of members.items))
written_group_is name presence dictionary type_ref members = ap written_of (sym (written.rolls-Group name presence dictionary type_ref members)) ∙ fold-roll-Instruction WrittenInstruction written_step (Instruction-F.Group name presence dictionary type_ref members)

written_sequence_is : (name : String Global) (presence : Presence) (dictionary type_ref length_name : Option (String Global)) (len : Operation) (members : Vec Instruction Global) → written_of (written.Sequence name presence dictionary type_ref length_name len members) ≡ written_sequence (string_bytes name) presence (record { dictionary = option_map string_bytes dictionary; type_ref = option_map string_bytes type_ref }) (option_map string_bytes length_name) (operation_of len) (written_list (map written_of members.items))
written_sequence_is name presence dictionary type_ref length_name len members = ap written_of (sym (written.rolls-Sequence name presence dictionary type_ref length_name len members)) ∙ fold-roll-Instruction WrittenInstruction written_step (Instruction-F.Sequence name presence dictionary type_ref length_name len members)

-- ---- one instruction is put in

pushed : (fs new : List Flat) (f : Flat) (i : resolved.Instruction) → new ≡ fs ++ f ∷ [] → instruction_of f ≡ i → list_of new ≡ joined (list_of fs) (then_instruction i no_instructions)
pushed fs new f i e is = ap list_of e ∙ list_of_push fs f ∙ ap (λ j. joined (list_of fs) (then_instruction j no_instructions)) is

pub field_put : (stands : List ℕ → Instructions) (c : Context) (fs new : List Flat) (f : Flat) (m : Instruction) (name : String Global) (text : List ℕ) (kind : Kind) (presence : Presence) (operation : Operation) → m ≡ written.Field name kind presence operation → text ≡ string_bytes name → instruction_of f ≡ whole_field text 0 presence (field_part c text kind presence (operation_of operation)) → new ≡ fs ++ f ∷ [] → list_of new ≡ joined (list_of fs) (flat_one stands c (written_of m))
field_put stands c fs new f m name text kind presence operation is same made e =
    pushed fs new f _ e (made ∙ ap (λ n. whole_field n 0 presence (field_part c n kind presence (operation_of operation))) same)
    ∙ ap (λ w. joined (list_of fs) (flat_one stands c w)) (sym (ap written_of is ∙ written_field_is name kind presence operation))

pub parts_put : (stands : List ℕ → Instructions) (c : Context) (fs new : List Flat) (f : Flat) (m : Instruction) (name : String Global) (text : List ℕ) (presence : Presence) (exponent mantissa : Operation) → m ≡ written.Parts name presence exponent mantissa → text ≡ string_bytes name → instruction_of f ≡ field_in_parts text 0 presence (exponent_part c text presence (operation_of exponent)) (mantissa_part c text (operation_of mantissa)) → new ≡ fs ++ f ∷ [] → list_of new ≡ joined (list_of fs) (flat_one stands c (written_of m))
parts_put stands c fs new f m name text presence exponent mantissa is same made e =
    pushed fs new f _ e (made ∙ ap (λ n. field_in_parts n 0 presence (exponent_part c n presence (operation_of exponent)) (mantissa_part c n (operation_of mantissa))) same)
    ∙ ap (λ w. joined (list_of fs) (flat_one stands c w)) (sym (ap written_of is ∙ written_parts_are name presence exponent mantissa))

pub group_put : (stands : List ℕ → Instructions) (c d : Context) (fs new inner : List Flat) (f : Flat) (m : Instruction) (name : String Global) (text : List ℕ) (presence : Presence) (dictionary type_ref : Option (String Global)) (members : Vec Instruction Global) → m ≡ written.Group name presence dictionary type_ref members → text ≡ string_bytes name → d ≡ inside c (record { dictionary = option_map string_bytes dictionary; type_ref = option_map string_bytes type_ref }) → list_of inner ≡ flat_list stands d (written_list (map written_of members.items)) → instruction_of f ≡ group_of text 0 presence (list_of inner) → new ≡ fs ++ f ∷ [] → list_of new ≡ joined (list_of fs) (flat_one stands c (written_of m))
group_put stands c d fs new inner f m name text presence dictionary type_ref members is same around within made e =
    pushed fs new f _ e (made ∙ ap (λ n. group_of n 0 presence (list_of inner)) same ∙ ap (group_of (string_bytes name) 0 presence) (within ∙ ap (λ x. flat_list stands x (written_list (map written_of members.items))) around))
    ∙ ap (λ w. joined (list_of fs) (flat_one stands c w)) (sym (ap written_of is ∙ written_group_is name presence dictionary type_ref members))

pub sequence_put : (stands : List ℕ → Instructions) (c d : Context) (fs new inner : List Flat) (f : Flat) (m : Instruction) (name : String Global) (text : List ℕ) (presence : Presence) (dictionary type_ref length_name : Option (String Global)) (len : Operation) (part : FieldPart) (members : Vec Instruction Global) → m ≡ written.Sequence name presence dictionary type_ref length_name len members → text ≡ string_bytes name → d ≡ inside c (record { dictionary = option_map string_bytes dictionary; type_ref = option_map string_bytes type_ref }) → list_of inner ≡ flat_list stands d (written_list (map written_of members.items)) → part ≡ length_part d text presence (option_map string_bytes length_name) (operation_of len) → instruction_of f ≡ sequence_of text 0 presence part (list_of inner) → new ≡ fs ++ f ∷ [] → list_of new ≡ joined (list_of fs) (flat_one stands c (written_of m))
sequence_put stands c d fs new inner f m name text presence dictionary type_ref length_name len part members is same around within length_is made e =
    pushed fs new f _ e (made ∙ ap (λ p. sequence_of text 0 presence p (list_of inner)) length_is ∙ ap (λ n. sequence_of n 0 presence (length_part d n presence (option_map string_bytes length_name) (operation_of len)) (list_of inner)) same
    ∙ ap (sequence_of (string_bytes name) 0 presence (length_part d (string_bytes name) presence (option_map string_bytes length_name) (operation_of len))) within
    ∙ ap (λ x. sequence_of (string_bytes name) 0 presence (length_part x (string_bytes name) presence (option_map string_bytes length_name) (operation_of len)) (flat_list stands x (written_list (map written_of members.items)))) around)
    ∙ ap (λ w. joined (list_of fs) (flat_one stands c w)) (sym (ap written_of is ∙ written_sequence_is name presence dictionary type_ref length_name len members))
