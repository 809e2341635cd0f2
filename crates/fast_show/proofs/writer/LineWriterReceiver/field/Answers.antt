use Rattle.fast_show.proofs.Common.{refl, IfOk-weaker, whole_field, single}
use Rattle.fast_show.proofs.Writing.{has_said}
use Rattle.fast_show.proofs.writer.LineWriterReceiver.field.Goals as goal

pub returns-clause-goes : goal.returns-clause-goes
returns-clause-goes g c = IfOk-weaker c.tell.result _ _
    (λ n r. (r.0, r.1, λ number is o next first. has_said (whole_field c.args.name.now number c.args.presence c.args.part.now) (single r.0) next first refl r.2)) c.tell.ensures.told
