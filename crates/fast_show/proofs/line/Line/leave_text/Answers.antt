use Rattle.fast_show.proofs.Common.{arith, ap, ◌∙◌, ◌++◌, filled, no_texts, filled_by_one}
use Rattle.fast_show.proofs.line.Line.leave_text.Goals as goal

pub returns-then-branch-clause-left : goal.returns-then-branch-clause-left
returns-then-branch-clause-left c = λ yes form.
    let old = c.args.self.now in
    let left = c.in_ok-leave_text.ensures.left c.if-branch.true in
    filled_by_one form old.gaps.placed.items c.leave_text.new.self.placed.items left.0 old.text old.gaps.closed c.len.result left.1 old.gaps.closed_is (let few = old.within in let size = c.len.ensures in omega (arith, few, size)) c.len.ensures
    ∙ ap (λ x. filled form old.gaps.placed.items no_texts old.text ++ x) (left.2 form)
