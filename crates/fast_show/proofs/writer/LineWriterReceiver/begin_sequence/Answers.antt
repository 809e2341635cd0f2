use Rattle.fast_show.proofs.Common.{None, arith, refl, UInt32, Length, sequence_of, single}
use Rattle.fast_show.proofs.ToldFields.{absent_said}
use Rattle.fast_show.proofs.Writing.{has_length, has_said}
use Rattle.fast_show.proofs.writer.LineWriterReceiver.begin_sequence.Goals as goal

pub returns-in_ok-tell_absent-in-None-default-clause-goes : goal.returns-in_ok-tell_absent-in-None-default-clause-goes
returns-in_ok-tell_absent-in-None-default-clause-goes g c =
    let took = rw (c.in-None-default.is-0) at c.in_ok-next.ensures.takes.1 in
    let said = absent_said c.args.level c.args.part.now c.args.presence c.args.bit (g.E.Entries.contents c.args.entries.now) (g.E.Entries.contents c.take_length.new.entries) c.args.bytes.now c.args.at c.in_ok-next.field-0.1 Length UInt32
    (λ k. omega (arith, c.type_inv.bytes k)) c.requires.bit refl c.requires.told c.requires.presence took c.in_ok-tell_absent-in-None-default.ensures in
    (took, λ number members is o next first. has_said (sequence_of c.args.name.now number c.args.presence c.args.part.now members) (single None) next first refl said)

pub returns-in_ok-open_under-in-Some-default-clause-goes : goal.returns-in_ok-open_under-in-Some-default-clause-goes
returns-in_ok-open_under-in-Some-default-clause-goes g c =
    (rw (c.in-Some-default.is-0) at c.in_ok-next.ensures.takes.1, λ number members is o next first. has_length c.in-Some-default.length next first c.in_ok-open_under-in-Some-default.ensures)
