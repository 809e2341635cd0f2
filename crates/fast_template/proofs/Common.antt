-- What the proofs of this crate cite from elsewhere, passed on from one place. Declares nothing.
pub use Rattle.std.proofs.Common.{AllPairs, Bool, Contains, IfSome, IsSome, List, None, Option, Some, Vec, [], ap, arith, codes, false, if◌then◌else◌, length, lit<, lit≤, map, nat_eq, nat_lt, negsuc, not, pos, refl, slice_index_or, subst, suc, sym, true, true≢false, zero, ℕ, ◌&&◌, ◌+◌, ◌<◌, ◌||◌, ◌∙◌, ◌∷◌, ◌≡◌, ◌≤◌}
pub use Rattle.std.proofs.lemmas.Bool.{ltb-true}
pub use Rattle.std.proofs.lemmas.List.Kept.{AllPairs-cons}
pub use Rattle.std.proofs.lemmas.List.Sums.{AllPass-from_list_all}
pub use Rattle.std.proofs.lemmas.Map.Views.{Contains-from_any}
pub use Rattle.std.specs.Cmp.{Equal-is, tied_itself, unsigned_Decides}
pub use Rattle.std.specs.Cmp.Lexicographic.{nat_list_eq_equiv, pointwise}
pub use Rattle.std.specs.List.{AllByRecursion, list_all, list_any}
pub use Rattle.std.specs.Ordering.{is_eq}
pub use Rattle.fast_value.specs.Key.{key_cmp, key_cmp-exact, key_cmp-total}
pub use Rattle.fast_value.specs.declared.key.Key.{Key}
pub use Rattle.fast_value.specs.declared.key.Scope.TheVariants.{Global}
pub use Rattle.fast_value.specs.declared.kind.Kind.{Kind}
pub use Rattle.fast_value.specs.declared.kind.Kind.TheVariants.{Ascii, Bytes, Decimal, Int32, Int64, UInt32, Unicode}
pub use Rattle.fast_value.specs.declared.kind.Operator.{Operator}
pub use Rattle.fast_value.specs.declared.kind.Operator.TheVariants.{Constant, Copy, Default, Delta, Increment, Plain, Tail}
pub use Rattle.fast_value.specs.declared.kind.Part.{Part}
pub use Rattle.fast_value.specs.declared.kind.Part.TheVariants.{Exponent, Length, Mantissa, Whole}
pub use Rattle.fast_value.specs.declared.kind.Presence.{Presence}
pub use Rattle.fast_value.specs.declared.kind.Presence.TheVariants.{Mandatory, Optional}
pub use Rattle.fast_value.specs.declared.scalar.Scalar.{Scalar}
pub use Rattle.fast_template.specs.Resolved.{Instruction, Instructions, Resolved, depth_of, field_in_parts, flat_step, group_of, has_map, instruction_of, instructions_of, keys_of, list_of, no_instructions, numbered, sequence_of, size_of, takes_bit, whole_field, with_keys}
pub use Rattle.fast_template.specs.TemplateSets.{AreSound, Differ, HasSlots, HaveTypedParts, IsInitial, IsPartOf, IsSound, NamesSame, TemplateList, applies, identifier_key, is_in_part, keys_in, keys_of_all, size_of_all}
pub use Rattle.fast_template.specs.declared.resolved.FieldPart.{FieldPart}
pub use Rattle.fast_template.specs.declared.resolved.Flat.{Flat}
pub use Rattle.fast_template.specs.declared.resolved.Flat.TheFolds.{fold-roll-Flat}
pub use Rattle.fast_template.specs.declared.resolved.Flat.TheOpen.{Flat-F}
