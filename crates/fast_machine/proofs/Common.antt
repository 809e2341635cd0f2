-- What the proofs of this crate cite from elsewhere, passed on from one place. Declares nothing.
pub use Rattle.std.proofs.Common.{Bool, Err, IfNone, IfSome, List, None, Ok, Option, Result, Some, [], ap, append-nil, append_assoc, arith, drop, false, inl, inr, length, length-append, length-drop, length-take, min, nat_le, refl, rules, subst, suc, sym, take, take-append-drop, true, zero, ℕ, ◌++◌, ◌+◌, ◌-◌, ◌<◌, ◌^◌, ◌∙◌, ◌∷◌, ◌≡◌, ◌≢◌, ◌≤◌, ◌⊎◌}
pub use Rattle.std.proofs.Math.Seq.{take-length}
pub use Rattle.std.proofs.lemmas.Bool.{cases_lt}
pub use Rattle.std.proofs.lemmas.List.{append_cancel_right, drop-append-le, drop-drop, drop-take, drop_all, drop_at, nil_from_length, take-append-le, take-take, take_all, take_at, take_rest}
pub use Rattle.std.specs.List.{AllByRecursion}
pub use Rattle.fast_wire.proofs.Calls.{all_bytes}
pub use Rattle.fast_wire.proofs.Readers.{ok_is}
pub use Rattle.fast_wire.specs.Reader.{IsBytes}
pub use Rattle.fast_wire.specs.Reading.{EntityFault}
pub use Rattle.fast_wire.specs.declared.fault.WireFault.{WireFault}
pub use Rattle.fast_wire.specs.declared.level.Level.{Level}
pub use Rattle.fast_wire.specs.declared.level.Level.TheVariants.{Strict, Usual}
pub use Rattle.fast_value.specs.declared.key.Key.{Key}
pub use Rattle.fast_template.specs.Resolved.{Resolved}
pub use Rattle.fast_template.specs.TemplateSets.{HaveTypedParts, IsSound, TemplateList, templates_in}
pub use Rattle.fast_dictionary.specs.Dictionary.{Dictionary}
pub use Rattle.fast_dictionary.specs.declared.entries.Entries.{Ghosts}
pub use Rattle.fast_stream.proofs.BlockReaders.{drop_front, fits_append, fits_drop, fits_take, other_cause, take_front}
pub use Rattle.fast_stream.proofs.BlockSizes.{size_found, size_refused, size_stop}
pub use Rattle.fast_stream.proofs.BlockSteps.{InWindow, in_window, size_alone, stops_in_size, stops_in_window}
pub use Rattle.fast_stream.proofs.Framings.{from_mode_from, in_mode_from}
pub use Rattle.fast_stream.proofs.MessageReaders.{message_found, message_reader}
pub use Rattle.fast_stream.proofs.ModeReaders.{next_reader, next_some}
pub use Rattle.fast_stream.proofs.Runs.{carries_on, carries_one}
pub use Rattle.fast_stream.specs.Blocks.{IsSize, Opens, SizeFault, Stand, at_start, block_cause, outside, size_at}
unfoldable pub use Rattle.fast_stream.specs.Blocks.{in_block_at}
pub use Rattle.fast_stream.specs.Faults.{MessageStop, cause_of_wire, place_of}
pub use Rattle.fast_stream.specs.Modes.{Carries, CarriesFrom, FirstFault, GoesOn, bare, next_at, plainly}
pub use Rattle.fast_stream.specs.Nodes.{Content}
pub use Rattle.fast_stream.specs.Readers.{IsNextReader}
unfoldable pub use Rattle.fast_stream.specs.Reading.{message_at}
pub use Rattle.fast_stream.specs.declared.fault.Cause.{Cause}
pub use Rattle.fast_stream.specs.declared.fault.Cause.TheVariants.{BlockEnd, Memory, Truncated}
pub use Rattle.fast_stream.specs.declared.fault.Fault.{Fault}
pub use Rattle.fast_stream.specs.declared.mode.Framing.{Framing}
pub use Rattle.fast_stream.specs.declared.mode.Framing.TheVariants.{Blocks, Plain}
pub use Rattle.fast_stream.specs.declared.mode.Mode.{Mode}
pub use Rattle.fast_stream.specs.declared.place.Place.{Place}
pub use Rattle.fast_walk.proofs.Lacking.{both_unstopped, lacking_stops}
pub use Rattle.fast_walk.proofs.ShortWalks.{want_of_bytes}
pub use Rattle.fast_walk.proofs.Steps.{exit_is, with_none}
pub use Rattle.fast_walk.proofs.Telling.{empty_kept}
pub use Rattle.fast_walk.specs.Lacks.{AreUnstopped, Lacks, StopsShort}
pub use Rattle.fast_walk.specs.Messages.{IsSameSet, MessageRead, MessageStops}
pub use Rattle.fast_walk.specs.OpenSegments.{Reading}
pub use Rattle.fast_walk.specs.Received.{Received, behind}
pub use Rattle.fast_walk.specs.Told.{KeepScalars}
pub use Rattle.fast_walk.specs.Traversals.{CanGoOn, ContinuesAt, begun_at, begun_of, stop_of}
pub use Rattle.fast_walk.specs.Walks.{reads_on}
pub use Rattle.fast_walk.specs.declared.halt.Halt.{Halt}
pub use Rattle.fast_walk.specs.declared.halt.HaltedBy.{HaltedBy}
pub use Rattle.fast_walk.specs.declared.lack.Lack.{Lack}
pub use Rattle.fast_walk.specs.declared.traversal.Stage.{Stage}
pub use Rattle.fast_walk.specs.declared.traversal.Traversal.{Traversal}
pub use Rattle.fast_machine.specs.Calls.{AnswersNone, FollowsAll, FollowsBehind, IsFault, IsFaultOf, IsSameStream, KeepsFault, LeavesMessage, ReadsNext, StandsAt}
pub use Rattle.fast_machine.specs.Ends.{IsLong}
pub use Rattle.fast_machine.specs.Following.{Counts, Follows, FollowsAt, IsCutAt, IsHeld, Refused, Waits, mode_of}
pub use Rattle.fast_machine.specs.Runs.{Forgets, Front, Having, LeadsOn, ReadsOn, ReadsRun, Run, RunStands, RunStops, Standing, Unfinished}
pub use Rattle.fast_machine.specs.Standing.{Behind, BetweenBlocks, Carried, GoesIn, HasAll, Onward, Stands, StopsBehind, framed_as}
pub use Rattle.fast_machine.specs.declared.machine.Machine.{Machine}
pub use Rattle.fast_machine.specs.declared.messages.Progress.{Progress}
