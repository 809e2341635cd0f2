-- What the proofs of this crate cite from elsewhere, passed on from one place. Declares nothing.
pub use Rattle.std.proofs.Common.{◌*◌, Err, List, None, Ok, Option, Result, Some, [], ap, arith, codes, drop, get_or, inl, inr, length, map, min, option_map, refl, rules, subst, sym, ℕ, ◌++◌, ◌+◌, ◌<◌, ◌∙◌, ◌∷◌, ◌≡◌, ◌≤◌, ◌⊎◌}
pub use Rattle.std.proofs.lemmas.List.{append-nil, append_assoc, drop_all, drop_more, map_push}
pub use Rattle.std.specs.Cmp.Lexicographic.{slice_cmp}
pub use Rattle.std.specs.Option.{option_map_or}
pub use Rattle.std.specs.Ordering.{match_ordering, nat_cmp}
pub use Rattle.std.specs.declared.alloc.Global.{Global}
pub use Rattle.std.specs.declared.cmp.Ordering.{Ordering}
pub use Rattle.std.specs.declared.cmp.Ordering.TheVariants.{Equal, Greater, Less}
pub use Rattle.std.specs.declared.vec.Vec.{Vec}
pub use Rattle.json.proofs.Trees.{item_smaller, view-Array}
pub use Rattle.serde_json.specs.Data.{Data, Members, array, boolean, member, no_members, null, number, object, string}
pub use Rattle.serde_json.specs.Find.{get, get_member}
pub use Rattle.json.specs.Tree.{items_tokens, json_tokens}
pub use Rattle.json.specs.Value.{items_view, value_view}
pub use Rattle.json.specs.declared.value.Value.{Value}
pub use Rattle.fast_value.specs.declared.kind.Kind.TheVariants.{Ascii, Bytes, Decimal, UInt32, Unicode}
pub use Rattle.fast_value.specs.declared.kind.Operator.{Operator}
pub use Rattle.fast_value.specs.declared.kind.Operator.TheVariants.{Constant, Copy, Default, Delta, Increment, Plain, Tail}
pub use Rattle.fast_value.specs.declared.kind.Presence.TheVariants.{Mandatory, Optional}
pub use Rattle.fast_written.specs.JsonTemplates.{Read, ReadsAs, ReadsTemplate, before_others, fault_of_unread, members_in, one_of, read_all, read_inside, read_items, read_one, read_template, read_templates, then_others, then_templates}
pub use Rattle.fast_written.specs.JsonData.{data_in, data_of, items_in}
pub use Rattle.fast_written.specs.LoadFaults.{fault_at, next_number, want_of_memory}
pub use Rattle.fast_written.specs.Profile.{word_text}
pub use Rattle.fast_written.specs.Written.{Surroundings, WrittenInstruction, WrittenInstructions, WrittenOperation, WrittenTemplate, no_written, then_written, written_field, written_group, written_list, written_of, written_parts, written_reference, written_sequence, written_template_of}
pub use Rattle.fast_written.specs.declared.fault.LoadCause.{LoadCause}
pub use Rattle.fast_written.specs.declared.fault.LoadFault.{LoadFault}
pub use Rattle.fast_written.specs.declared.from_data.Unread.{Unread}
pub use Rattle.fast_written.specs.declared.profile.Word.{Word}
pub use Rattle.fast_written.specs.declared.written.Instruction.{Instruction}
