use Rattle.fast_writer.proofs.Common.{refl, sym, ap, ◌∙◌, inl, next_bit}
use Rattle.fast_writer.proofs.Drafting.{later_is}
use Rattle.fast_writer.proofs.Opened.{drafts_left_out}
use Rattle.fast_writer.proofs.Awaiting.{awaited}
use Rattle.fast_writer.proofs.writer.WriterReceiver.left_out.Goals as goal

pub returns-clause-has : goal.returns-clause-has
returns-clause-has c = λ presence members is o d next first optional h.
    let was = c.requires.awaits in
    let a = awaited c.args.self.now.run was.0 was.1 was.3 in
    rw (c.pass.ensures.around, c.pass.ensures.inner)
    (drafts_left_out next first optional (record { left = later_is c.args.self.now.run.draft.inner.left; map = inl (sym was.2 ∙ ap next_bit (sym a.left), refl) }) refl h)
