-- What is written and what it is resolved to: rows.
use Rattle.fast_load.proofs.Common.{◌≡◌, ℕ, zero, suc, List, [], ◌∷◌, nat_eq, if◌then◌else◌, Some, None, refl, ap, subst, codes, option_map_or, pointwise, Kind, Mandatory, Optional, Operator, Part, Key, WrittenOperation, written_field, written_parts, written_group, written_sequence, written_list, WrittenTemplate, Instruction, Instructions, whole_field, field_in_parts, group_of, sequence_of, instructions_of, no_instructions, then_instruction, context_of, flat_list, AreFlatLists, AreResolved, nothing_around, common, grp}
use Rattle.fast_value.specs.declared.key.Scope.TheVariants.{Global}

abbrev copied : WrittenOperation
copied = record { operator = Operator.Copy; initial = None; dictionary = None; key = None }

-- A flat list has no numbers yet: each is 0.
abbrev unnumbered : List Instruction → List ℕ
unnumbered [] = []
unnumbered (whole_field name number presence whole ∷ is) = number ∷ whole.number ∷ unnumbered is
unnumbered (field_in_parts name number presence exponent mantissa ∷ is) = number ∷ exponent.number ∷ mantissa.number ∷ unnumbered is
unnumbered (group_of name number presence members ∷ is) = number ∷ unnumbered is
unnumbered (sequence_of name number presence length members ∷ is) = number ∷ length.number ∷ unnumbered is

abbrev ones_of : Instructions → List Instruction
ones_of no_instructions = []
ones_of (then_instruction i is) = i ∷ ones_of is

none_numbered : unnumbered (ones_of (flat_list (λ other. no_instructions) (context_of 1 common) (written_list (
    written_field (codes "A") Kind.UInt32 Mandatory copied
    ∷ written_parts (codes "B") Mandatory copied copied
    ∷ written_group (codes "C") Mandatory nothing_around (written_list [])
    ∷ written_sequence (codes "D") Mandatory nothing_around None copied (written_list [])
    ∷ []))))
    ≡ 0 ∷ 0 ∷ 0 ∷ 0 ∷ 0 ∷ 0 ∷ 0 ∷ 0 ∷ []
none_numbered = refl

abbrev pair : List WrittenTemplate
pair = common ∷ grp ∷ []

abbrev lists : List ℕ → Instructions
lists name = if pointwise nat_eq name (codes "Common") then flat_list (λ other. no_instructions) (context_of 1 common) common.members else flat_list (λ other. flat_list (λ third. no_instructions) (context_of 1 common) common.members) (context_of 2 grp) grp.members

lists_are_flat : AreFlatLists pair lists
lists_are_flat zero t is = let same : common ≡ t = ap (λ o. option_map_or (λ v. v) o t) is in subst (λ v. lists v.name ≡ flat_list lists (context_of 1 v) v.members) same refl
lists_are_flat (suc zero) t is = let same : grp ≡ t = ap (λ o. option_map_or (λ v. v) o t) is in subst (λ v. lists v.name ≡ flat_list lists (context_of 2 v) v.members) same refl
lists_are_flat (suc (suc i)) t is = absurd (cc is)

abbrev field : ℕ → List ℕ → ℕ → Instruction
field number name slot = whole_field name number Mandatory (record { number = number; part = Part.Whole; kind = Kind.UInt32; presence = Mandatory; operator = Operator.Copy; initial = None; key = record { slot = slot; scope = Global; name = name; part = Part.Whole } })

abbrev slot_of : Key → ℕ
slot_of k = if pointwise nat_eq k.name (codes "B") then 1 else 2

pair_is : AreResolved pair (
    record { id = None; name = codes "Common"; members = instructions_of (field 1 (codes "B") 1 ∷ []) }
    ∷ record { id = Some 11; name = codes "Grp"; members = instructions_of (group_of (codes "Hd") 1 Optional (instructions_of (field 2 (codes "A") 2 ∷ [])) ∷ field 3 (codes "B") 1 ∷ []) }
    ∷ [])
pair_is = (lists, slot_of, lists_are_flat, (record { same_id = refl; same_name = refl; members_are = refl }, (record { same_id = refl; same_name = refl; members_are = refl }, tt)))
