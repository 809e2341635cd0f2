-- What the definitions of this crate cite from elsewhere, passed on from one place. Declares nothing.
pub use Rattle.fast_wire.specs.Reader.{IsBytes}
pub use Rattle.fast_wire.specs.declared.level.Level.{Level}
pub use Rattle.fast_value.specs.declared.key.Key.{Key}
pub use Rattle.fast_template.specs.Resolved.{Instruction, Instructions, Resolved, group_of, no_instructions, sequence_of, then_instruction}
pub use Rattle.fast_template.specs.TemplateSets.{IsSound, TemplateList, templates_in}
pub use Rattle.fast_dictionary.specs.Dictionary.{Dictionary}
pub use Rattle.fast_dictionary.specs.declared.entries.Entries.{Ghosts}
pub use Rattle.fast_stream.specs.Blocks.{Opens, Stand, at_start}
pub use Rattle.fast_stream.specs.Faults.{MessageStop}
pub use Rattle.fast_stream.specs.Modes.{Carries, EndsBetween, FirstFault}
pub use Rattle.fast_stream.specs.Nodes.{Content}
unfoldable pub use Rattle.fast_stream.specs.Reading.{message_at}
pub use Rattle.fast_stream.specs.Streams.{CarriesFrom}
pub use Rattle.fast_stream.specs.declared.fault.Cause.{Cause}
pub use Rattle.fast_stream.specs.declared.fault.Cause.TheVariants.{Memory, Truncated}
pub use Rattle.fast_stream.specs.declared.fault.Fault.{Fault}
pub use Rattle.fast_stream.specs.declared.mode.Framing.{Framing}
pub use Rattle.fast_stream.specs.declared.mode.Framing.TheVariants.{Blocks, Plain}
pub use Rattle.fast_stream.specs.declared.mode.Mode.{Mode}
pub use Rattle.fast_stream.specs.declared.place.Place.{Place}
pub use Rattle.fast_walk.specs.Lacks.{Lacks}
pub use Rattle.fast_walk.specs.Messages.{CanRead, IsSameSet}
pub use Rattle.fast_walk.specs.OneProof.{IsTold-prop, short-prop, true-prop}
pub use Rattle.fast_walk.specs.OpenSegments.{Inside, Next, Reading, Waiting, at_element, in_group, in_sequence}
pub use Rattle.fast_walk.specs.Received.{Received}
pub use Rattle.fast_walk.specs.Awaited.{IsAwaitedAt}
pub use Rattle.fast_walk.specs.Traversals.{CanGoOn, Continues, IsReadyAt, ServesAll, begun_of, stop_of}
pub use Rattle.fast_walk.specs.Walks.{AreAllServed, AreServed, IsInsideServed, IsNextServed, IsServed}
pub use Rattle.fast_walk.specs.declared.halt.Halt.{Halt}
pub use Rattle.fast_walk.specs.declared.lack.Lack.{Lack}
pub use Rattle.fast_walk.specs.declared.traversal.Stage.{Stage}
pub use Rattle.fast_walk.specs.declared.traversal.Traversal.{Traversal}
pub use Rattle.fast_walk.specs.declared.walk.Walk.{Walk}
