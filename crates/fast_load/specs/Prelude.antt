-- What the definitions of this crate cite from elsewhere, passed on from one place. Declares nothing.
pub use Rattle.fast_value.specs.InitialValues.{value_of_text}
pub use Rattle.fast_value.specs.Key.{key_cmp}
pub use Rattle.fast_value.specs.declared.key.Key.{Key}
pub use Rattle.fast_value.specs.declared.key.Scope.{Scope}
pub use Rattle.fast_value.specs.declared.kind.Kind.{Kind}
pub use Rattle.fast_value.specs.declared.kind.Kind.TheVariants.{Int32, Int64, UInt32}
pub use Rattle.fast_value.specs.declared.kind.Operator.{Operator}
pub use Rattle.fast_value.specs.declared.kind.Operator.TheVariants.{Constant, Default}
pub use Rattle.fast_value.specs.declared.kind.Part.{Part}
pub use Rattle.fast_value.specs.declared.kind.Part.TheVariants.{Exponent, Length, Mantissa, Whole}
pub use Rattle.fast_value.specs.declared.kind.Presence.{Presence}
pub use Rattle.fast_value.specs.declared.kind.Presence.TheVariants.{Mandatory}
pub use Rattle.fast_value.specs.declared.scalar.Scalar.{Scalar}
pub use Rattle.fast_written.specs.LoadFaults.{fault_at, next_number, want_of_memory}
pub use Rattle.fast_written.specs.Names.{is_name}
pub use Rattle.fast_written.specs.Written.{Surroundings, WrittenInstruction, WrittenInstructions, WrittenOperation, WrittenPart, WrittenTemplate, listed, listed_one, no_written, parts_of, then_written, written_field, written_group, written_list, written_of, written_parts, written_reference, written_sequence, written_template_of}
pub use Rattle.fast_written.specs.declared.fault.LoadCause.{LoadCause}
pub use Rattle.fast_written.specs.declared.fault.LoadCause.TheVariants.{D8, DuplicateId, DuplicateName, S2, S3, S4, S5, TooDeep, TooMany}
pub use Rattle.fast_written.specs.declared.fault.LoadFault.{LoadFault}
pub use Rattle.fast_written.specs.declared.written.Instruction.{Instruction}
pub use Rattle.fast_written.specs.declared.written.Template.{Template}
pub use Rattle.fast_template.specs.Resolved.{Instructions, Resolved, depth_of, field_in_parts, group_of, joined, list_of, no_instructions, numbered, sequence_of, size_of, then_instruction, whole_field, with_keys}
pub use Rattle.fast_template.specs.TemplateSets.{TemplateList, applies, has_id, identifier_key, templates_in}
pub use Rattle.fast_template.specs.declared.resolved.FieldPart.{FieldPart}
pub use Rattle.fast_template.specs.declared.resolved.FlatTemplate.{FlatTemplate}
