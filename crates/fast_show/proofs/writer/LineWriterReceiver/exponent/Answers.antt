use Rattle.fast_show.proofs.Common.{None, Some, arith, refl, rules, Int32, Exponent, I32, field_in_parts, single}
use Rattle.fast_show.proofs.ToldFields.{absent_said}
use Rattle.fast_show.proofs.Writing.{has_exponent, has_said}
use Rattle.fast_show.proofs.writer.LineWriterReceiver.exponent.Goals as goal

pub returns-in_ok-tell_absent-in-None-default-clause-goes : goal.returns-in_ok-tell_absent-in-None-default-clause-goes
returns-in_ok-tell_absent-in-None-default-clause-goes g c =
    let took = rw (c.in-None-default.is-0) at c.in_ok-next.ensures.takes.1 in
    let said = absent_said c.args.level c.args.part.now c.args.presence c.args.bit (g.E.Entries.contents c.args.entries.now) (g.E.Entries.contents c.take_exponent.new.entries) c.args.bytes.now c.args.at c.in_ok-next.field-0.1 Exponent Int32
    (λ k. omega (arith, c.type_inv.bytes k)) c.requires.bit refl c.requires.told c.requires.presence took c.in_ok-tell_absent-in-None-default.ensures in
    (None, took, refl, λ number mantissa is o next first. has_said (field_in_parts c.args.name.now number c.args.presence c.args.part.now mantissa) (single None) next first refl said)

pub returns-in_ok-label-in-Some-default-clause-goes : goal.returns-in_ok-label-in-Some-default-clause-goes
returns-in_ok-label-in-Some-default-clause-goes g c =
    let e = c.in-Some-default.exponent in
    (Some (I32 e), rw (c.in-Some-default.is-0) at c.in_ok-next.ensures.takes.1, (e, refl), λ number mantissa is o next first. has_exponent next first c.in_ok-label-in-Some-default.ensures (search rules))
