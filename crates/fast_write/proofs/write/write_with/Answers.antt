use Rattle.std.proofs.Common.{[], Err, refl, arith, ◌∙◌, subst}
use Rattle.fast_machine.proofs.Inputs.{none_read}
use Rattle.fast_write.specs.declared.fault.WriteFault.TheVariants as refusal
use Rattle.fast_write.specs.Written.{FlushesOnce}
use Rattle.fast_write.specs.Ways.{here}
use Rattle.fast_write.proofs.Finishing.{flushed_so}
use Rattle.fast_write.proofs.Going.{goes_at_first, still_caused}
use Rattle.fast_write.proofs.write.write_with.Goals as goal

pub returns-in-Err-clause-answer : goal.returns-in-Err-clause-answer
returns-in-Err-clause-answer g c =
    let r = c.refuse_memory.ensures in
    (0, [], none_read _, omega arith, r.answer c.args.numbered c.args.set.now _, still_caused (Err refusal.Memory) c.refuse_memory.result _ _ _ r.answers tt)

pub returns-clause-answer : goal.returns-clause-answer
returns-clause-answer g c =
    let t = c.take_all-answer.ensures in
    let a = t.answer (g.W.ByteOutput.taken c.args.writer.now) (goes_at_first _ _ c.new-2.ensures.empty c.new-5.ensures.items c.new-4.ensures.items refl refl c.new-6.ensures.items) in
    let written = c.finish.ensures.answer (g.R.ByteInput.left c.take_all-answer.new.reader) (g.W.ByteOutput.taken c.args.writer.now) a.1 a.4 in
    (a.0, a.1, a.2, a.3, rw (t.same.numbered, t.same.form, t.same.set) at written, still_caused c.take_all-answer.result c.finish.result _ _ _ c.finish.ensures.answers a.5)

pub returns-clause-flush : goal.returns-clause-flush
returns-clause-flush g c = λ plain.
    let t = c.take_all-answer.ensures in
    let a = t.answer (g.W.ByteOutput.taken c.args.writer.now) (goes_at_first _ _ c.new-2.ensures.empty c.new-5.ensures.items c.new-4.ensures.items refl refl c.new-6.ensures.items) in
    subst (λ n. FlushesOnce c.finish.result n (g.W.ByteOutput.flushes c.finish.new.writer)) t.flushes (flushed_so (here c.take_all-answer.new.way) _ _ _ a.1 c.take_all-answer.result c.finish.result _ _ (t.same.numbered ∙ plain) a.4 c.finish.ensures.answers c.finish.ensures.flush)
