use Rattle.fast_take.proofs.LevelsAlike.{pair_as_usual}
use Rattle.fast_take.proofs.judged_decimal.judge_decimal.Goals as goal

pub returns-in-Some-clause-usual : goal.returns-in-Some-clause-usual
returns-in-Some-clause-usual c = λ found.
    pair_as_usual c.args.level c.args.instr.now _ _ c.args.bytes.now c.args.at c.in-Some.next c.requires.kind c.requires.typed c.in-Some.ensures.stands
