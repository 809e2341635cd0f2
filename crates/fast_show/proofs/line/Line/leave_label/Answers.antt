use Rattle.fast_show.proofs.Common.{arith, Gap, filled_by_one}
use Rattle.fast_show.proofs.line.Line.leave_label.Goals as goal

pub returns-clause-text : goal.returns-clause-text
returns-clause-text c = λ form.
    let old = c.args.self.now in
    filled_by_one form old.gaps.placed.items c.leave_label.new.self.placed.items (Gap.Label c.args.name.now) old.text old.gaps.closed c.len.result c.in_ok-leave_label.ensures.left old.gaps.closed_is (let few = old.within in let size = c.len.ensures in omega (arith, few, size)) c.len.ensures
