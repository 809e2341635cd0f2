use Rattle.std.proofs.Common.{◌-◌}
use Rattle.fast_gaps.specs.Gaps.{texts_in}
use Rattle.fast_gaps.proofs.Filled.{closed_by_one, texts_by_one}
use Rattle.fast_gaps.proofs.gaps.Gaps.leave_text.Goals as goal

pub invariant_of-self-in-Ok-Some : goal.invariant_of-self-in-Ok-Some
invariant_of-self-in-Ok-Some c =
    let old = c.args.self.now in
    let gap = c.in-Ok-Some.gap in
    let made = rw (c.in-Ok-Some.field-0-is) at c.in-Ok-Some.ensures.gap in
    record {
      closed_is = closed_by_one old.placed.items c.push.new.self.items gap old.closed c.args.written c.in_default.ensures.items old.closed_is c.requires;
      texts_are = texts_by_one old.placed.items c.push.new.self.items (record { behind = c.args.written - old.closed; gap = gap }) (texts_in old.texts) (texts_in c.text_gap.new.texts) c.in_default.ensures.items old.texts_are made.1;
    }
