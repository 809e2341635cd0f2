-- The parts of a sound set of templates are field parts.
use Rattle.fast_field.proofs.Common.{List, [], ◌∷◌, sym, subst, refl, AllByRecursion, Instruction, Instructions, whole_field, field_in_parts, group_of, sequence_of, no_instructions, then_instruction, Resolved, IsPartOf, HasTypedParts, HaveTypedParts, TemplateList, templates_in, IsSound, Kind, Part, Presence, FieldPart, IsKindOfPart, IsFieldPart, HasDefault, EachPart, EachPartIn}

pub has_default : (i : FieldPart) → IsFieldPart i → HasDefault i
has_default i is = is.typed.default_has_value

part_is : (pt : Part) (k : Kind) (p : Presence) (i : FieldPart) → IsKindOfPart pt k → IsPartOf pt k p i → IsFieldPart i
part_is pt k p i kind is =
    let of_kind = subst (λ (l : Kind). IsKindOfPart pt l) (sym is.kind_is) kind in record { typed = is.typed; kind_of_part = subst (λ (q : Part). IsKindOfPart q i.kind) (sym is.part_is) of_kind }

mutual
  part_of_one : (instruction : Instruction) → HasTypedParts instruction → EachPart IsFieldPart instruction
  part_of_one (whole_field name number presence whole) h = part_is Part.Whole whole.kind presence whole tt h
  part_of_one (field_in_parts name number presence exponent mantissa) h = (part_is Part.Exponent Kind.Int32 _ exponent refl h.0, part_is Part.Mantissa Kind.Int64 _ mantissa refl h.1)
  part_of_one (group_of name number presence members) h = part_of_each members h
  part_of_one (sequence_of name number presence length members) h = (part_is Part.Length Kind.UInt32 _ length refl h.0, part_of_each members h.1)

  part_of_each : (members : Instructions) → HaveTypedParts members → EachPartIn IsFieldPart members
  part_of_each no_instructions h = tt
  part_of_each (then_instruction i is) h = (part_of_one i h.0, part_of_each is h.1)

in_each : (templates : List Resolved) → AllByRecursion (λ t. HaveTypedParts t.members) templates → AllByRecursion (λ t. EachPartIn IsFieldPart t.members) templates
in_each [] h = tt
in_each (t ∷ ts) h = (part_of_each t.members h.0, in_each ts h.1)

pub parts_of_sets : (set : TemplateList) → IsSound set → AllByRecursion (λ t. EachPartIn IsFieldPart t.members) (templates_in set)
parts_of_sets set is = in_each (templates_in set) is.typed
