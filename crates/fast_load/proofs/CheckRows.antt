-- The checks of a load at their limits: what fails, what does not, in which order, and how it is answered.
use Rattle.fast_load.proofs.Common.{◌≡◌, ◌<◌, ◌+◌, ℕ, zero, suc, List, [], ◌∷◌, length, map, nat_eq, if◌then◌else◌, Option, Some, None, true, false, refl, sym, ap, subst, ◌∙◌, lit<, arith, codes, slice_get, option_and_then, IsSome, option_map_or, pointwise, UInt32, Presence, Mandatory, Optional, Default, Copy, LoadFault, LoadCause, WrittenOperation, Surroundings, WrittenInstruction, WrittenInstructions, written_field, written_parts, written_group, written_sequence, written_reference, written_list, no_written, then_written, WrittenTemplate, WrittenPart, parts_of, listed, Instructions, no_instructions, joined, size_of, depth_of, Context, context_of, flat_one, flat_list, AreFlatLists, want_of_memory, is_name, by, nothing_around, template}
use Rattle.fast_load.specs.LoadChecks.{from_one, IsTemplateAt, IsInstructionAt, IsPartAt, HasNames, names_of, names_in, Refers, Leads, directly, onwards, size_up_to, Check, few_templates, names_well_made, name_new, id_new, operator_allowed, constant_has_value, default_has_value, value_spelled, reference_known, off_cycles, nests_little, sum_small, Fails, turn_of, Before, fault_of, IsAccepted, IsFirstFault}

-- ---- names

times : ℕ → ℕ → List ℕ
times zero c = []
times (suc n) c = c ∷ times n c

short_names : map is_name ([] ∷ (32 ∷ []) ∷ (33 ∷ []) ∷ (126 ∷ []) ∷ (127 ∷ []) ∷ (65 ∷ 32 ∷ []) ∷ []) ≡ false ∷ false ∷ true ∷ true ∷ false ∷ false ∷ []
short_names = refl

long_names : map is_name (times 255 65 ∷ times 256 65 ∷ []) ≡ true ∷ false ∷ []
unfolding times
long_names = refl

abbrev named_by : List ℕ → List ℕ → WrittenOperation
named_by dictionary key = record { operator = Copy; initial = None; dictionary = Some dictionary; key = Some key }

abbrev surroundings : Surroundings
surroundings = record { dictionary = Some (codes "D"); type_ref = Some (codes "T") }

-- each name that a template, a field, a decimal in parts, a group, a sequence and a reference have
names_of_template : names_of (record { name = codes "A"; id = None; around = surroundings; members = no_written }) ≡ codes "A" ∷ codes "D" ∷ codes "T" ∷ []
names_of_template = refl

names_in_field : names_in (written_field (codes "F") UInt32 Mandatory (named_by (codes "D") (codes "K"))) ≡ codes "F" ∷ codes "D" ∷ codes "K" ∷ []
names_in_field = refl

names_in_parts : names_in (written_parts (codes "F") Mandatory (named_by (codes "D") (codes "K")) (named_by (codes "E") (codes "L"))) ≡ codes "F" ∷ codes "D" ∷ codes "K" ∷ codes "E" ∷ codes "L" ∷ []
names_in_parts = refl

names_in_group : names_in (written_group (codes "G") Mandatory surroundings (written_list (written_reference (codes "A") ∷ []))) ≡ codes "G" ∷ codes "D" ∷ codes "T" ∷ []
names_in_group = refl

names_in_sequence : names_in (written_sequence (codes "S") Mandatory surroundings (Some (codes "N")) (named_by (codes "E") (codes "K")) no_written) ≡ codes "S" ∷ codes "D" ∷ codes "T" ∷ codes "N" ∷ codes "E" ∷ codes "K" ∷ []
names_in_sequence = refl

names_in_reference : names_in (written_reference (codes "A")) ≡ codes "A" ∷ []
names_in_reference = refl

-- a template's own name, and a key
bad_name : Fails (template (32 ∷ []) None [] ∷ []) (names_well_made 1 0)
bad_name = (_, (_, refl, refl), refl)

bad_key : Fails (template (codes "A") None (written_field (codes "F") UInt32 Mandatory (named_by (codes "D") []) ∷ []) ∷ []) (names_well_made 1 1)
bad_key = (_, (_, (_, refl, refl), refl), refl)

-- ---- places

-- Templates and instructions are counted from 1.
counted_from_one : map (from_one {A = ℕ} (7 ∷ 8 ∷ [])) (0 ∷ 1 ∷ 2 ∷ 3 ∷ []) ≡ None ∷ Some 7 ∷ Some 8 ∷ None ∷ []
counted_from_one = refl

abbrev leaf : List ℕ → WrittenInstruction
leaf name = written_field name UInt32 Mandatory (by Copy)

-- depth first, a group or sequence before its members
listed_is : listed (written_list (
    written_group (codes "G") Mandatory nothing_around (written_list (leaf (codes "a") ∷ written_reference (codes "R") ∷ []))
    ∷ written_sequence (codes "S") Mandatory nothing_around None (by Copy) (written_list (leaf (codes "b") ∷ []))
    ∷ written_parts (codes "P") Mandatory (by Copy) (by Copy)
    ∷ []))
    ≡ written_group (codes "G") Mandatory nothing_around (written_list (leaf (codes "a") ∷ written_reference (codes "R") ∷ []))
    ∷ leaf (codes "a")
    ∷ written_reference (codes "R")
    ∷ written_sequence (codes "S") Mandatory nothing_around None (by Copy) (written_list (leaf (codes "b") ∷ []))
    ∷ leaf (codes "b")
    ∷ written_parts (codes "P") Mandatory (by Copy) (by Copy)
    ∷ []
listed_is = refl

-- ---- how each check is answered

abbrev fault : LoadCause → ℕ → ℕ → LoadFault
fault c t i = record { cause = c; template = t; instruction = i }

answers : map fault_of (few_templates ∷ names_well_made 7 8 ∷ name_new 7 ∷ id_new 7 ∷ operator_allowed 7 8 1 ∷ constant_has_value 7 8 1 ∷ default_has_value 7 8 1 ∷ value_spelled 7 8 1 ∷ reference_known 7 8 ∷ off_cycles 7 ∷ nests_little 7 ∷ sum_small 7 ∷ [])
    ≡ fault LoadCause.TooMany 0 0 ∷ fault LoadCause.S1 7 8 ∷ fault LoadCause.DuplicateName 7 0 ∷ fault LoadCause.DuplicateId 7 0 ∷ fault LoadCause.S2 7 8 ∷ fault LoadCause.S4 7 8 ∷ fault LoadCause.S5 7 8 ∷ fault LoadCause.S3 7 8 ∷ fault LoadCause.D8 7 8 ∷ fault LoadCause.Cycle 7 0 ∷ fault LoadCause.TooDeep 7 0 ∷ fault LoadCause.TooMany 7 0 ∷ []
answers = refl

great_numbers : fault_of (names_well_made 4294967296 4294967297) ∷ fault_of (names_well_made 4294967295 4294967294) ∷ [] ≡ fault LoadCause.S1 4294967295 4294967295 ∷ fault LoadCause.S1 4294967295 4294967294 ∷ []
great_numbers = refl

memory : want_of_memory ≡ fault LoadCause.Memory 0 0
memory = refl

-- ---- the order

turns : map turn_of (few_templates ∷ names_well_made 7 8 ∷ name_new 7 ∷ id_new 7 ∷ operator_allowed 7 8 9 ∷ constant_has_value 7 8 9 ∷ default_has_value 7 8 9 ∷ value_spelled 7 8 9 ∷ reference_known 7 8 ∷ off_cycles 7 ∷ nests_little 7 ∷ sum_small 7 ∷ [])
    ≡ (0 ∷ []) ∷ (1 ∷ 7 ∷ 8 ∷ []) ∷ (2 ∷ 7 ∷ 0 ∷ []) ∷ (2 ∷ 7 ∷ 1 ∷ []) ∷ (3 ∷ 7 ∷ 8 ∷ 9 ∷ 0 ∷ []) ∷ (3 ∷ 7 ∷ 8 ∷ 9 ∷ 1 ∷ []) ∷ (3 ∷ 7 ∷ 8 ∷ 9 ∷ 2 ∷ []) ∷ (3 ∷ 7 ∷ 8 ∷ 9 ∷ 3 ∷ []) ∷ (4 ∷ 7 ∷ 8 ∷ []) ∷ (5 ∷ 7 ∷ []) ∷ (6 ∷ 7 ∷ 0 ∷ []) ∷ (6 ∷ 7 ∷ 1 ∷ []) ∷ []
turns = refl

depth_before_sum : Before (nests_little 2) (sum_small 2)
depth_before_sum = refl

few_first : Before few_templates (names_well_made 1 0)
few_first = refl

-- ---- the number of templates

many : ℕ → List WrittenTemplate
many zero = []
many (suc n) = template (codes "A") None [] ∷ many n

length-many : (n : ℕ) → length (many n) ≡ n
unfolding many
length-many zero = refl
length-many (suc n) = ap suc (length-many n)

too_many : Fails (many 65536) few_templates
too_many = subst (λ n. 65535 < n) (sym (length-many 65536)) (lit< tt)

as_many_as_may : ¬ (Fails (many 65535) few_templates)
as_many_as_may fails = let less : 65535 < 65535 = subst (λ n. 65535 < n) (length-many 65535) fails in absurd (omega (arith, less))

-- ---- duplicates

-- Two templates without an identifier do not share one, and no template is its own double.
abbrev nameless : List WrittenTemplate
nameless = template (codes "A") None [] ∷ template (codes "B") None [] ∷ []

no_ids : ¬ (Fails nameless (id_new 2))
no_ids fails =
    let none : None ≡ fails.2.id = ap (λ o. option_map_or (λ x. x.id) o None) fails.5 in
    absurd (cc (subst IsSome (sym none) fails.7))

-- ---- parts and instructions at their places

abbrev instruction_at : List WrittenTemplate → ℕ → ℕ → Option WrittenInstruction
instruction_at ts t i = option_and_then (λ w. from_one (listed w.members) i) (from_one ts t)

instruction_is : (ts : List WrittenTemplate) (t i : ℕ) (written : WrittenInstruction) → IsInstructionAt ts t i written → instruction_at ts t i ≡ Some written
instruction_is ts t i written at = ap (option_and_then (λ w. from_one (listed w.members) i)) at.1 ∙ at.2

abbrev part_at : List WrittenTemplate → ℕ → ℕ → ℕ → Option WrittenPart
part_at ts t i part = option_and_then (λ written. slice_get (parts_of written) part) (instruction_at ts t i)

part_is : (ts : List WrittenTemplate) (t i part : ℕ) (p : WrittenPart) → IsPartAt ts t i part p → part_at ts t i part ≡ Some p
part_is ts t i part p at = ap (option_and_then (λ written. slice_get (parts_of written) part)) (instruction_is ts t i at.0 at.1) ∙ at.2

abbrev of_field : Presence → WrittenOperation → List WrittenTemplate
of_field presence operation = template (codes "T") None (written_field (codes "F") UInt32 presence operation ∷ []) ∷ []

-- An optional default needs no value, nor does a mandatory copy.
optional_default : ¬ (Fails (of_field Optional (by Default)) (default_has_value 1 1 0))
optional_default fails =
    let presence : Optional ≡ fails.0.presence = ap (λ o. option_map_or (λ p. p.presence) o Optional) (part_is (of_field Optional (by Default)) 1 1 0 fails.0 fails.1) in
    absurd (cc (presence ∙ fails.3))

copy_alone : ¬ (Fails (of_field Mandatory (by Copy)) (default_has_value 1 1 0))
copy_alone fails =
    let operator : Copy ≡ fails.0.operation.operator = ap (λ o. option_map_or (λ p. p.operation.operator) o Copy) (part_is (of_field Mandatory (by Copy)) 1 1 0 fails.0 fails.1) in
    absurd (cc (operator ∙ fails.2))

-- ---- cycles

-- the first leads to the second, which is on a cycle
abbrev loops : List WrittenTemplate
loops = template (codes "A") None (written_reference (codes "Bee") ∷ []) ∷ template (codes "Bee") None (written_reference (codes "Bee") ∷ []) ∷ []

abbrev referred : WrittenInstruction → List ℕ
referred (written_field name kind presence operation) = []
referred (written_parts name presence exponent mantissa) = []
referred (written_group name presence around members) = []
referred (written_sequence name presence around length_name length members) = []
referred (written_reference name) = name

to_second : (u : ℕ) (w : WrittenTemplate) → codes "Bee" ≡ w.name → from_one loops u ≡ Some w → u ≡ 2
to_second zero w names is = absurd (cc is)
to_second (suc zero) w names is = let first : codes "A" ≡ w.name = ap (λ o. option_map_or (λ x. x.name) o []) is in absurd (cc (first ∙ sym names))
to_second (suc (suc zero)) w names is = refl
to_second (suc (suc (suc u))) w names is = absurd (cc is)

name_at : (t i : ℕ) (name : List ℕ) → instruction_at loops t i ≡ Some (written_reference name) → codes "Bee" ≡ name
name_at zero i name is = absurd (cc is)
name_at (suc zero) zero name is = absurd (cc is)
name_at (suc zero) (suc zero) name is = ap (λ o. option_map_or referred o []) is
name_at (suc zero) (suc (suc i)) name is = absurd (cc is)
name_at (suc (suc zero)) zero name is = absurd (cc is)
name_at (suc (suc zero)) (suc zero) name is = ap (λ o. option_map_or referred o []) is
name_at (suc (suc zero)) (suc (suc i)) name is = absurd (cc is)
name_at (suc (suc (suc t))) i name is = absurd (cc is)

refers_to_second : (t u : ℕ) → Refers loops t u → u ≡ 2
refers_to_second t u r = to_second u r.1 (name_at t r.0 r.1.name (instruction_is loops t r.0 (written_reference r.1.name) r.3)) r.2

leads_to_second : (t v : ℕ) → Leads loops t v → v ≡ 2
leads_to_second t v (directly u r) = refers_to_second t u r
leads_to_second t v (onwards u w l r) = refers_to_second u w r

off_the_cycle : ¬ (Fails loops (off_cycles 1))
off_the_cycle leads = absurd (cc (leads_to_second 1 1 leads))

on_the_cycle : Fails loops (off_cycles 2)
on_the_cycle = directly 2 (1, _, refl, (_, refl, refl))

-- ---- levels and sizes

-- groups, each in the one before
abbrev nested : ℕ → WrittenInstruction
nested zero = leaf (codes "F")
nested (suc n) = written_group (codes "G") Mandatory nothing_around (written_list (nested n ∷ []))

abbrev eight : WrittenTemplate
eight = template (codes "T") None (nested 8 ∷ [])

eight_levels : ¬ (Fails (eight ∷ []) (nests_little 1))
eight_levels fails =
    let same : eight ≡ fails.1 = ap (λ o. option_map_or (λ v. v) o eight) fails.3 in
    let depth : depth_of (fails.0 fails.1.name) ≡ 8 = ap (λ v. depth_of (fails.0 v.name)) (sym same) ∙ ap depth_of (fails.2 0 eight refl) in
    let less : 8 < 8 = subst (λ n. 8 < n) depth fails.4 in
    absurd (omega (arith, less))

fields : ℕ → WrittenInstructions
fields zero = no_written
fields (suc n) = then_written (leaf (codes "F")) (fields n)

same-fields : (f g : List ℕ → Instructions) (c : Context) (n : ℕ) → flat_list f c (fields n) ≡ flat_list g c (fields n)
unfolding fields
same-fields f g c zero = refl
same-fields f g c (suc n) = ap (λ is. joined (flat_one f c (leaf (codes "F"))) is) (same-fields f g c n)

size-fields : (f : List ℕ → Instructions) (c : Context) (n : ℕ) → size_of (flat_list f c (fields n)) ≡ n
unfolding fields
size-fields f c zero = refl
size-fields f c (suc n) = omega (arith, size-fields f c n)

-- two templates of so many fields each
abbrev of_fields : List ℕ → ℕ → WrittenTemplate
of_fields name n = record { name = name; id = None; around = nothing_around; members = fields n }

abbrev two : ℕ → ℕ → List WrittenTemplate
two m n = of_fields (codes "A") m ∷ of_fields (codes "Bee") n ∷ []

abbrev lists_of_two : ℕ → ℕ → List ℕ → Instructions
lists_of_two m n name = if pointwise nat_eq name (codes "A") then flat_list (λ other. no_instructions) (context_of 1 (of_fields (codes "A") m)) (fields m) else flat_list (λ other. no_instructions) (context_of 2 (of_fields (codes "Bee") n)) (fields n)

two_are_flat : (m n : ℕ) → AreFlatLists (two m n) (lists_of_two m n)
two_are_flat m n zero t is =
    let same : of_fields (codes "A") m ≡ t = ap (λ o. option_map_or (λ v. v) o t) is in
    subst (λ v. lists_of_two m n v.name ≡ flat_list (lists_of_two m n) (context_of 1 v) v.members) same (same-fields (λ other. no_instructions) (lists_of_two m n) _ m)
two_are_flat m n (suc zero) t is =
    let same : of_fields (codes "Bee") n ≡ t = ap (λ o. option_map_or (λ v. v) o t) is in
    subst (λ v. lists_of_two m n v.name ≡ flat_list (lists_of_two m n) (context_of 2 v) v.members) same (same-fields (λ other. no_instructions) (lists_of_two m n) _ n)
two_are_flat m n (suc (suc i)) t is = absurd (cc is)

size-two : (m n : ℕ) (stands : List ℕ → Instructions) → AreFlatLists (two m n) stands → size_up_to stands (two m n) ≡ m + n
size-two m n stands are =
    let first : size_of (stands (codes "A")) ≡ m = ap size_of (are 0 (of_fields (codes "A") m) refl) ∙ size-fields stands _ m in
    let second : size_of (stands (codes "Bee")) ≡ n = ap size_of (are 1 (of_fields (codes "Bee") n) refl) ∙ size-fields stands _ n in
    omega (arith, first, second)

-- The instructions of a template count with those of the templates before it.
sum_past : Fails (two 32768 32768) (sum_small 2)
sum_past = (lists_of_two 32768 32768, of_fields (codes "Bee") 32768, two_are_flat 32768 32768, refl, subst (λ n. 65535 < n) (sym (size-two 32768 32768 (lists_of_two 32768 32768) (two_are_flat 32768 32768))) (lit< tt))

sum_at_limit : ¬ (Fails (two 32768 32767) (sum_small 2))
sum_at_limit fails =
    let less : 65535 < 65535 = subst (λ n. 65535 < n) (size-two 32768 32767 fails.0 fails.2) fails.4 in
    absurd (omega (arith, less))

first_alone : ¬ (Fails (two 32768 32768) (sum_small 1))
first_alone fails =
    let first : size_of (fails.0 (codes "A")) ≡ 32768 = ap size_of (fails.2 0 (of_fields (codes "A") 32768) refl) ∙ size-fields fails.0 _ 32768 in
    let less : 65535 < 32768 + 0 = subst (λ n. 65535 < n + 0) first fails.4 in
    absurd (omega (arith, less))

-- ---- the first fault, and none

none_at : (t : ℕ) (w : WrittenTemplate) → IsTemplateAt [] t w → ⊥
none_at zero w is = absurd (cc is)
none_at (suc t) w is = absurd (cc is)

no_names : (t i : ℕ) (names : List (List ℕ)) → HasNames [] t i names → ⊥
no_names t zero names (w, at, are) = none_at t w at
no_names t (suc i) names (written, at, are) = none_at t at.0 at.1

-- No template at all is accepted.
none_accepted : IsAccepted []
none_accepted few_templates fails = absurd (omega (arith, fails))
none_accepted (names_well_made t i) fails = no_names t i fails.0 fails.1
none_accepted (name_new t) fails = none_at t fails.2 fails.5
none_accepted (id_new t) fails = none_at t fails.2 fails.5
none_accepted (operator_allowed t i part) fails = none_at t fails.1.1.0 fails.1.1.1
none_accepted (constant_has_value t i part) fails = none_at t fails.1.1.0 fails.1.1.1
none_accepted (default_has_value t i part) fails = none_at t fails.1.1.0 fails.1.1.1
none_accepted (value_spelled t i part) fails = none_at t fails.2.1.0 fails.2.1.1
none_accepted (reference_known t i) fails = none_at t fails.1.0 fails.1.1
none_accepted (off_cycles t) (directly u r) = none_at u r.1 r.2
none_accepted (off_cycles t) (onwards u v l r) = none_at t r.1 r.2
none_accepted (nests_little t) fails = none_at t fails.1 fails.3
none_accepted (sum_small t) fails = none_at t fails.1 fails.3

abbrev unnamed : List WrittenTemplate
unnamed = template [] None [] ∷ []

unnamed_first : (c : Check) → Before c (names_well_made 1 0) → ¬ (Fails unnamed c)
unnamed_first few_templates before fails = absurd (omega (arith, fails))
unnamed_first (names_well_made zero zero) before fails = absurd (cc fails.1.1)
unnamed_first (names_well_made zero (suc i)) before fails = absurd (cc fails.1.1.1)
unnamed_first (names_well_made (suc zero) zero) before fails = absurd (cc before)
unnamed_first (names_well_made (suc zero) (suc i)) before fails = absurd (cc (instruction_is unnamed 1 (suc i) fails.1.0 fails.1.1))
unnamed_first (names_well_made (suc (suc t)) zero) before fails = absurd (cc fails.1.1)
unnamed_first (names_well_made (suc (suc t)) (suc i)) before fails = absurd (cc fails.1.1.1)
unnamed_first (name_new t) before fails = absurd (cc before)
unnamed_first (id_new t) before fails = absurd (cc before)
unnamed_first (operator_allowed t i part) before fails = absurd (cc before)
unnamed_first (constant_has_value t i part) before fails = absurd (cc before)
unnamed_first (default_has_value t i part) before fails = absurd (cc before)
unnamed_first (value_spelled t i part) before fails = absurd (cc before)
unnamed_first (reference_known t i) before fails = absurd (cc before)
unnamed_first (off_cycles t) before fails = absurd (cc before)
unnamed_first (nests_little t) before fails = absurd (cc before)
unnamed_first (sum_small t) before fails = absurd (cc before)

unnamed_fault : IsFirstFault unnamed (fault LoadCause.S1 1 0)
unnamed_fault = record { check = names_well_made 1 0; fails = (_, (_, refl, refl), refl); first = unnamed_first; answered = refl }
