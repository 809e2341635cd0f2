-- What the proofs of this crate cite from elsewhere, passed on from one place. Declares nothing.
pub use Rattle.std.proofs.Common.{Bool, Err, List, None, Ok, Option, Result, Some, [], ap, append_assoc, ap₂, arith, codes, cond, decimal, drop, eqb, false, get_or, inl, inr, length, length-drop, map, negsuc, option_map, pos, refl, replicate, rules, slice_index, subst, suc, sym, take, take-take, true, zero, ℕ, ◌%◌, ◌&&◌, ◌*◌, ◌++◌, ◌+◌, ◌-◌, ◌/◌, ◌<◌, ◌^◌, ◌∙◌, ◌∷◌, ◌≡◌, ◌≢◌, ◌≤◌}
pub use Rattle.std.proofs.Math.Seq.{drop-append-add, drop-append_seam, take-append-add, take-length}
pub use Rattle.std.proofs.lemmas.Bool.{and_parts, cases_lt}
pub use Rattle.std.proofs.lemmas.Bool.Decides.{nat_tests}
pub use Rattle.std.proofs.lemmas.Fmt.{length-decimal-le}
pub use Rattle.std.proofs.lemmas.Grind.{flat_map-append}
pub use Rattle.std.proofs.lemmas.List.{append-nil, drop-drop, drop-take, drop_all, drop_more, length-take-le, take-append-drop, take-append-le, take_all}
pub use Rattle.std.proofs.lemmas.List.Concat.{flat_map-cons}
pub use Rattle.std.proofs.lemmas.Result.{err_from_is_err_and}
pub use Rattle.std.proofs.lemmas.Simd.{bitmask_splat, length-chunk, length-put_chunk, none_from_empty_mask, put_chunk_is, zip2_splat, zip2_splat_left}
unfoldable pub use Rattle.std.specs.Fmt.{digits}
pub use Rattle.std.specs.Global.{Global, Vec}
pub use Rattle.std.specs.List.{flat_map, list_all}
pub use Rattle.std.specs.declared.alloc.AllocError.{AllocError}
pub use Rattle.std.specs.formers.vec.Vec.{mapped}
pub use lib.Dec.{T, ltb}
pub use lib.Lanes.{chunk, mask_l, put_chunk, top, zip2}
pub use mathlib.Core.Former.{this}
pub use mir.Syntax.{w8}
pub use Rattle.hex.specs.Hex.{encode_lower, lower_digits}
unfoldable pub use Rattle.hex.specs.Hex.{encode_with}
pub use Rattle.fast_value.specs.declared.kind.Kind.TheVariants.{Ascii, Bytes, Int64, Unicode}
pub use Rattle.fast_value.specs.declared.kind.Presence.{Presence}
pub use Rattle.fast_value.specs.declared.kind.Presence.TheVariants.{Optional}
pub use Rattle.fast_value.specs.declared.scalar.Scalar.{Scalar}
pub use Rattle.fast_template.proofs.WorkedSet.{bare, const, first, fixed, grp, legs, opt, quote, tail, uni, wrap}
pub use Rattle.fast_template.specs.Resolved.{Instruction, Resolved, flat_step, group_of, instruction_of, list_of, no_instructions, then_instruction}
pub use Rattle.fast_template.specs.declared.resolved.FieldPart.{FieldPart}
pub use Rattle.fast_template.specs.declared.resolved.Flat.{Flat, fold-roll-Flat}
pub use Rattle.fast_template.specs.declared.resolved.Flat.TheOpen.{Flat-F}
pub use Rattle.fast_template.specs.declared.resolved.Flat.TheVariants.{rolls-Sequence}
pub use Rattle.fast_stream.specs.Nodes.{Content, Item, Items, elements_of, item_of, items_in, items_of, node_step, sequence_elements}
pub use Rattle.fast_stream.specs.declared.message.Node.{Node, fold_out-Node}
pub use Rattle.fast_stream.specs.declared.message.Node.TheVariants.{Sequence, outs-Sequence}
pub use Rattle.fast_lines.specs.Digits.{eight_digits, four_digits, two_digits}
pub use Rattle.fast_lines.specs.Lines.{bracketed, elements_text, joined, label, line_by, member_text, members_text, node_text, sequence_text, value_text}
pub use Rattle.fast_lines.specs.Signs.{between, is_plain, quoted, unit_text}
pub use Rattle.fast_lines.specs.Written.{Adds, Extends, Shows, Writes}
pub use Rattle.fast_lines.specs.declared.form.Form.{Form}
pub use Rattle.fast_lines.specs.declared.form.Form.TheVariants.{Json, Text}
pub use Rattle.fast_lines.specs.declared.lines.ShowFault.{ShowFault}
pub use Rattle.fast_lines.specs.declared.lines.ShowFault.TheVariants.{Memory, Mismatch}
