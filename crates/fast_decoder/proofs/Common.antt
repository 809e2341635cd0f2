-- What the proofs of this crate cite from elsewhere, passed on from one place. Declares nothing.
pub use Rattle.std.proofs.Common.{false, List, true, None, Option, Result, Some, [], ap, append-nil, append_assoc, arith, inl, inr, length, length-append, length-take, map, refl, reverse, rules, subst, sym, take, ℕ, ◌++◌, ◌+◌, ◌-◌, ◌<◌, ◌∙◌, ◌∷◌, ◌≡◌, ◌≢◌, ◌≤◌}
pub use Rattle.std.proofs.lemmas.List.{nil_from_length, reverse-append, reverse-reverse}
pub use Rattle.std.proofs.lemmas.Result.{IfErr-weaker, IfOk-weaker, err_from_is_err_and, on_ok_weaker}
pub use Rattle.std.specs.Global.{Vec}
pub use Rattle.std.specs.Result.{is_ok}
pub use Rattle.std.specs.Io.KnownBytes.{Consumes, IsAtEnd, Keeps}
pub use Rattle.fast_io.specs.Counts.{counted}
pub use Rattle.fast_template.specs.Resolved.{Resolved}
pub use Rattle.fast_template.specs.TemplateSets.{templates_in}
pub use Rattle.fast_value.specs.declared.kind.Part.{Part}
pub use Rattle.fast_dictionary.specs.Dictionary.{Dictionary, set_entry, set_entry-there}
pub use Rattle.fast_dictionary.specs.declared.entries.Entries.{Ghosts}
pub use Rattle.fast_stream.proofs.Causes.{IsOfBytes, of_mode}
pub use Rattle.fast_stream.specs.Blocks.{Stand, at_start}
pub use Rattle.fast_stream.specs.Modes.{CarriesFrom, FirstFault}
pub use Rattle.fast_stream.specs.Nodes.{Content, Item, content_of, single}
pub use Rattle.fast_stream.specs.declared.fault.Cause.{Cause}
pub use Rattle.fast_stream.specs.declared.fault.Fault.{Fault}
pub use Rattle.fast_stream.specs.declared.message.Message.{Message}
pub use Rattle.fast_stream.specs.declared.mode.Framing.{Framing}
pub use Rattle.fast_stream.specs.declared.mode.Mode.{Mode}
pub use Rattle.fast_stream.specs.declared.place.Place.{Place}
pub use Rattle.fast_take.proofs.Within.{taken_within}
pub use Rattle.fast_walk.proofs.PartTaking.{stopped, taken_as}
pub use Rattle.fast_walk.proofs.Passings.{took_of}
pub use Rattle.fast_walk.proofs.Telling.{kept_hold, told_part}
pub use Rattle.fast_walk.proofs.Walking.{none_mapped}
pub use Rattle.fast_walk.specs.OpenSegments.{Next, at_instruction}
pub use Rattle.fast_walk.specs.Received.{Received, behind}
pub use Rattle.fast_walk.specs.declared.traversal.Traversal.{Traversal}
pub use Rattle.fast_machine.proofs.Followings.{all_carried, follows_behind, has_kept}
pub use Rattle.fast_machine.proofs.Runs.{carried_of}
pub use Rattle.fast_machine.specs.Following.{FollowsAt, IsCutAt, Refused, mode_of}
pub use Rattle.fast_machine.specs.Standing.{Carried}
pub use Rattle.fast_decoder.specs.Built.{IsBuilt, IsNextBuilt, with_whole}
pub use Rattle.fast_decoder.specs.declared.builder.Builder.{Builder}
pub use Rattle.fast_decoder.specs.Calls.{IsSameStream, ReadsOn, reader_of}
pub use Rattle.fast_machine.specs.Inputs.{Causes, HasReached, IsCaused, IsFaultOf, OnFault, Reader, Reads, RefusedBy, Refuses, told_by}
pub use Rattle.fast_decoder.specs.Inputs.{Follows, Repeats, Stands, waiting_in}
pub use Rattle.fast_decoder.specs.declared.decoder.Decoder.{Decoder}
pub use Rattle.fast_decoder.specs.declared.input.MessageInputStream.{MessageInputStream}
pub use Rattle.fast_machine.specs.declared.reached.Reached.{Reached}
