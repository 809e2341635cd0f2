use Rattle.fast_writer.proofs.Common.{inl, inr, refl, sym, ◌∙◌}
use Rattle.fast_writer.proofs.Drafting.{one_further}
use Rattle.fast_writer.proofs.run.Run.mark.Goals as goal

pub returns-else-bit-clause-marked : goal.returns-else-bit-clause-marked
returns-else-bit-clause-marked c = λ bytes. rw (c.if-needed.true) (record {
  left = one_further c.args.self.now.draft.inner.left c.args.self.now.passed;
  map = inl (
    elim c.else-bit.either [
      | inl sent ↦ sent.1 ∙ sym sent.0 ∙ c.requires.bit c.if-needed.true
      | inr low ↦ c.requires.lower c.if-needed.true low ∙ sym low ∙ c.requires.bit c.if-needed.true
    ],
    refl,
  );
})
