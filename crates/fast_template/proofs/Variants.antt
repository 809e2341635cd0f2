-- What the fold of an instruction as it lies in memory gives, for each variant.
use Rattle.fast_template.proofs.Common.{◌≡◌, ℕ, List, Vec, sym, ap, ◌∙◌, Presence, FieldPart, Flat, Flat-F, fold-roll-Flat, whole_field, field_in_parts, group_of, sequence_of, list_of, instruction_of, flat_step}
use Rattle.std.specs.declared.alloc.Global.{Global}
use Rattle.fast_template.specs.declared.resolved.Flat.TheVariants as flat
use Rattle.fast_template.specs.Resolved as resolved

pub field_is : (name : List ℕ) (number : ℕ) (presence : Presence) (whole : FieldPart) → instruction_of (flat.Field name number presence whole) ≡ whole_field name number presence whole
field_is name number presence whole = ap instruction_of (sym (flat.rolls-Field name number presence whole)) ∙ fold-roll-Flat resolved.Instruction flat_step (Flat-F.Field name number presence whole)

pub parts_are : (name : List ℕ) (number : ℕ) (presence : Presence) (exponent mantissa : FieldPart) → instruction_of (flat.Parts name number presence exponent mantissa) ≡ field_in_parts name number presence exponent mantissa
parts_are name number presence exponent mantissa = ap instruction_of (sym (flat.rolls-Parts name number presence exponent mantissa)) ∙ fold-roll-Flat resolved.Instruction flat_step (Flat-F.Parts name number presence exponent mantissa)

pub group_is : (name : List ℕ) (number : ℕ) (presence : Presence) (members : Vec Flat Global) → instruction_of (flat.Group name number presence members) ≡ group_of name number presence (list_of members.items)
group_is name number presence members = ap instruction_of (sym (flat.rolls-Group name number presence members)) ∙ fold-roll-Flat resolved.Instruction flat_step (Flat-F.Group name number presence members)

pub sequence_is : (name : List ℕ) (number : ℕ) (presence : Presence) (part : FieldPart) (members : Vec Flat Global) → instruction_of (flat.Sequence name number presence part members) ≡ sequence_of name number presence part (list_of members.items)
sequence_is name number presence part members = ap instruction_of (sym (flat.rolls-Sequence name number presence part members)) ∙ fold-roll-Flat resolved.Instruction flat_step (Flat-F.Sequence name number presence part members)
