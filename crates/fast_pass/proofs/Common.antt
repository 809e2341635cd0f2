-- What the proofs of this crate cite from elsewhere, passed on from one place. Declares nothing.
pub use Rattle.std.proofs.Common.{Err, List, None, Ok, Option, Result, [], ap, append-nil, append_assoc, arith, cond, drop, false, inl, inr, length, length-append, length-drop, length-take, min, refl, subst, sym, take, take-append-drop, ℕ, ◌++◌, ◌+◌, ◌-◌, ◌<◌, ◌∙◌, ◌∷◌, ◌≡◌, ◌≤◌, ◌⊎◌}
pub use Rattle.std.proofs.lemmas.List.{take_all, take_rest}
pub use Rattle.std.proofs.lemmas.Result.{MatchResult-weaker, err_from_is_err_and}
pub use Rattle.std.specs.Io.KnownBytes.{Keeps}
pub use Rattle.fast_io.proofs.Outputs.{Appends-kept, Appends-nil, Appends-trans}
pub use Rattle.fast_io.specs.Counts.{counted_by}
pub use Rattle.fast_io.specs.Traffic.{Taken}
pub use Rattle.fast_template.specs.Resolved.{Resolved}
pub use Rattle.fast_template.specs.TemplateSets.{templates_in}
pub use Rattle.fast_dictionary.specs.Dictionary.{Dictionary}
pub use Rattle.fast_dictionary.specs.declared.entries.Entries.{Ghosts}
pub use Rattle.fast_stream.specs.Blocks.{at_start}
pub use Rattle.fast_stream.specs.Nodes.{Content}
pub use Rattle.fast_stream.specs.declared.fault.Fault.{Fault}
pub use Rattle.fast_stream.specs.declared.mode.Mode.{Mode}
pub use Rattle.fast_walk.specs.Received.{handed_on}
pub use Rattle.fast_machine.proofs.Calls.{same_on}
pub use Rattle.fast_machine.proofs.Followings.{all_carried, follows_behind, has_kept}
pub use Rattle.std.proofs.Math.Seq.{take-add}
pub use Rattle.fast_machine.proofs.Runs.{carried_of}
pub use Rattle.fast_machine.specs.Calls.{FollowsTaken, IsSameStream}
pub use Rattle.fast_machine.specs.Following.{Follows, mode_of}
pub use Rattle.fast_machine.specs.Standing.{Carried}
pub use Rattle.fast_machine.specs.declared.machine.Machine.{Machine}
pub use Rattle.fast_machine.proofs.Inputs.{caused_by_end, caused_by_feed, caused_by_read, caused_by_turns, causes_on, causes_weaker, empty_read, failed_read, more_read, none_read, of_bytes, one_read, reached_carried, reached_with, refused_by_bytes, refused_by_read, refused_by_turns}
pub use Rattle.fast_machine.specs.Inputs.{IsCaused, Reader, Reads, Refuses, told_by}
pub use Rattle.fast_machine.specs.declared.reached.Reached.{Reached}
pub use Rattle.fast_pass.specs.Passed.{Passes, PassesBy, PassesFront}
pub use Rattle.fast_pass.specs.Relays.{Break, Goes, GoesOn, HandsOn, HasMade, IsOfBytes, Making, Relays, StandsStill, Step, Way, answer_of, farther, handing, outset}
pub use Rattle.fast_pass.specs.declared.fault.CanonFault.{CanonFault}
pub use Rattle.fast_pass.specs.declared.stop.Stop.{Stop}
pub use Rattle.fast_pass.specs.declared.summary.Summary.{Summary}
