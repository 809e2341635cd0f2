use Rattle.std.proofs.Common.{rules, None, ◌≡◌, ◌<◌, length}
use Rattle.fast_take.proofs.VectorTexts.{first_gives}
use Rattle.fast_take.proofs.judged_vector.judge_first.Goals as goal

pub returns-clause-gives : goal.returns-clause-gives
returns-clause-gives c =
    let i = c.args.instr.now in
    let some : 0 < length c.args.part.now = search rules in
    let none : i.initial ≡ None = search rules in
    rw (c.requires.entry, c.in_ok-value.ensures) (first_gives i c.args.part.now c.requires.kind c.requires.part c.requires.operator none (c.are_text.ensures c.if-not-are_text.false) some)
