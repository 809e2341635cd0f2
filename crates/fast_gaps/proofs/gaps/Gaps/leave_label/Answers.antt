use Rattle.std.proofs.Common.{◌-◌, refl}
use Rattle.fast_gaps.specs.Gaps.{texts_in}
use Rattle.fast_gaps.specs.declared.gap.Gap.{Gap}
use Rattle.fast_gaps.proofs.Filled.{closed_by_one, texts_by_one}
use Rattle.fast_gaps.proofs.gaps.Gaps.leave_label.Goals as goal

pub invariant_of-self-2 : goal.invariant_of-self-2
invariant_of-self-2 c =
    let old = c.args.self.now in
    let label = Gap.Label c.args.name.now in
    let pushed = rw (c.in_ok-copy.ensures) at c.in_ok-push.ensures.items in
    record {
      closed_is = closed_by_one old.placed.items c.push.new.self.items label old.closed c.args.written pushed old.closed_is c.requires;
      texts_are = texts_by_one old.placed.items c.push.new.self.items (record { behind = c.args.written - old.closed; gap = label }) (texts_in old.texts) (texts_in old.texts) pushed old.texts_are (λ slot. refl);
    }
