-- What is kept may go to another thread.
use denote.RattleType.{RattleType}
use denote.Ref.{NamedLft}
use denote.Param.Send.{IsSend, IsSync, sendable, struct_send}
use denote.Struct.Declared.{shape}
use Rattle.std.proofs.Crossing.{crosses}
use Rattle.std.proofs.MapsCrossing.{crosses as maps}
use Rattle.fast_value.proofs.key.Name.TheSendSync as name
use Rattle.fast_value.proofs.kind.Presence.TheSendSync as presence
use Rattle.fast_template.proofs.resolved.FieldPart.TheSendSync as part
use Rattle.fast_template.proofs.resolved.Flat.TheLaws.TheKnot.{crosses as flat, crosses_both as flat_both}
use Rattle.fast_template.specs.contracts.resolved.Flat as Flat
use Rattle.fast_template.specs.contracts.set.TemplateSet as Set
use Rattle.fast_wire.proofs.presence_map.Bits.TheSendSync as bits
use Rattle.fast_wire.proofs.level.Level.TheSendSync as level
use Rattle.fast_walk.proofs.traversal.Stage.TheSendSync as stage
use Rattle.fast_walk.specs.contracts.last.Found as Found
use Rattle.fast_walk.specs.contracts.last.Last as Last
use Rattle.fast_walk.specs.contracts.walk.Frame as Frame
use Rattle.fast_walk.specs.contracts.walk.Inside as Inside
use Rattle.fast_walk.specs.contracts.walk.Next as Next
use Rattle.fast_walk.specs.contracts.walk.Sequel as Sequel
use Rattle.fast_walk.specs.contracts.walk.Walk as Walk
use Rattle.fast_walk.specs.contracts.traversal.Traversal as Traversal
use Rattle.std.proofs.option.Option.TheSendSync as option
use Rattle.fast_stream.proofs.fault.Fault.TheSendSync as fault
use Rattle.fast_stream.proofs.mode.Framing.TheSendSync as framing
use Rattle.fast_walk.proofs.halt.HaltedBy.TheSendSync as halted
use Rattle.fast_walk.specs.declared.receiver.Receiver.{Ghosts as ReceiverGhosts}
use Rattle.fast_dictionary.specs.declared.entries.Entries.{Ghosts as EntriesGhosts}
use Rattle.fast_dictionary.proofs.entry.Entry.TheSendSync as entry
use Rattle.fast_dictionary.specs.contracts.slots.SlotEntries as SlotEntries
use Rattle.fast_machine.specs.contracts.machine.Machine as Machine
use Rattle.fast_tape.proofs.builder.TapeBuilder.TheSendSync as builder
use Rattle.fast_tape.specs.contracts.builder.TapeBuilder as TapeBuilder
use Rattle.fast_tape.specs.contracts.builder.TapeBuilderReceiver.TheImpl as receiving
use Rattle.fast_tape.specs.contracts.reader.TapeReader as TapeReader
use Rattle.fast_writer.proofs.segment.Segment.TheSendSync as segment
use Rattle.fast_nodes.proofs.journal.Journal.TheSendSync as journal
use Rattle.fast_encoder.specs.contracts.encoder.Encoder as Encoder
use Rattle.fast_untape.specs.contracts.writer.TapeWriter as TapeWriter
use base.Fml.{Lft}
use Rattle.fast_kept.specs.Lending.{room_row}
use Rattle.fast_kept.specs.contracts.lent.Lent as Lent
use Rattle.fast_kept.specs.contracts.shared.SharedSet as Shared

-- what an instruction is made of
ruleset parts = (name.the_send, name.the_sync, presence.the_send, presence.the_sync, part.the_send, part.the_sync, part.the_field_send, part.the_field_sync)

flat_send : IsSend Flat.the_row
flat_send = search (flat, flat_both, parts, sendable, crosses) depth 20 fits 20000

flat_sync : IsSync Flat.the_row
flat_sync = search (flat, flat_both, parts, sendable, crosses) depth 20 fits 20000

set_send : IsSend Set.the_row
set_send = search (sendable, crosses, maps, flat_send, name.the_send) depth 20

set_sync : IsSync Set.the_row
set_sync = search (sendable, crosses, maps, flat_sync, name.the_sync) depth 20

sequel_send : (κ : NamedLft) → IsSend (Sequel.the_field κ).row
sequel_send κ = search (sendable, flat_sync) depth 10

inside_send : (κ : NamedLft) → IsSend (Inside.the_field κ).row
inside_send κ = search (sendable, sequel_send) depth 10

next_send : (κ : NamedLft) → IsSend (Next.the_field κ).row
next_send κ = search (sendable, sequel_send, part.the_sync) depth 10

frame_send : (κ : NamedLft) → IsSend (Frame.the_row κ)
frame_send κ = search (sendable, bits.the_send, flat_sync, inside_send) depth 10

walk_send : (κ : NamedLft) → IsSend (Walk.the_field κ).row
walk_send κ = search (sendable, crosses, flat_sync, bits.the_send, next_send, frame_send) depth 20 fits 20000

found_send : (κ : NamedLft) → IsSend (Found.the_field κ).row
found_send κ = search (sendable, crosses, flat_sync, name.the_sync) depth 20

last_send : (κ : NamedLft) → IsSend (Last.the_field κ).row
last_send κ = search (sendable, crosses, found_send) depth 20

traversal_send : (κ : NamedLft) → IsSend (Traversal.the_field κ).row
traversal_send κ = search (sendable, crosses, set_sync, last_send, walk_send, parts, level.the_field_send, stage.the_field_send) depth 20 fits 20000

-- ---- readers and writers

slots_send : (κ : NamedLft) → IsSend (SlotEntries.the_row κ)
slots_send κ = search (sendable, crosses, set_sync, entry.the_send) depth 20

machine_send : (κ : NamedLft) (R E : RattleType) (r : ReceiverGhosts R.Denot) (e : EntriesGhosts E.Denot) → IsSend R → IsSend E → IsSend (Machine.the_field κ R E r e).row
machine_send κ R E r e receiver entries = struct_send (shape (Machine.the_type κ R E r e))
    (search (sendable, crosses), (traversal_send κ, (search (sendable, framing.the_field_send), (search (sendable, receiver), (search (sendable, entries), (search (sendable, crosses), (search (sendable, crosses), (search (sendable, crosses), (search (sendable, crosses), (search (sendable, crosses, option.the_send) depth 20, (search (sendable, option.the_field_send, fault.the_send) depth 20, (search (sendable, halted.the_field_send), (search (sendable, crosses), (search (sendable, crosses), tt))))))))))))))

reader_send : (κ : NamedLft) (E : RattleType) (e : EntriesGhosts E.Denot) → IsSend E → IsSend (TapeReader.the_field κ E e).row
reader_send κ E e entries = struct_send (shape (TapeReader.the_type κ E e)) (machine_send κ TapeBuilder.the_row E receiving.ghosts e builder.the_send entries, tt)

encoder_send : (κ : NamedLft) (E : RattleType) (e : EntriesGhosts E.Denot) → IsSend E → IsSend (Encoder.the_field κ E e).row
encoder_send κ E e entries = search (sendable, crosses, set_sync, parts, journal.the_field_send, segment.the_field_send, entries) depth 20 fits 20000

writer_send : (κ : NamedLft) (E : RattleType) (e : EntriesGhosts E.Denot) → IsSend E → IsSend (TapeWriter.the_field κ E e).row
writer_send κ E e entries = struct_send (shape (TapeWriter.the_type κ E e)) (search (sendable, crosses), (search (sendable, set_sync), (encoder_send κ E e entries, (search (sendable, crosses), tt))))

-- ---- what is lent, and what is kept

lent_send : (κ : NamedLft) → IsSend (Lent.the_row κ)
lent_send κ = search (sendable, crosses, reader_send, writer_send, slots_send) depth 20 fits 20000

pub room_send : (κ : Lft) → IsSend (room_row κ)
room_send κ = search (sendable, crosses, option.the_send, lent_send) depth 20

pub shared_send : IsSend Shared.the_row
shared_send = search (sendable, crosses, set_send, set_sync) depth 20
