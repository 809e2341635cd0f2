use Rattle.std.proofs.Common.{arith}
use Rattle.fast_take.proofs.LevelsAlike.{vector_cut_as_usual}
use Rattle.fast_take.proofs.judged_vector.judge_difference.Goals as goal

pub returns-in-Some-judge_vector_delta-clause-usual : goal.returns-in-Some-judge_vector_delta-clause-usual
returns-in-Some-judge_vector_delta-clause-usual c = λ found.
    let sent = c.in-Some.ensures in
    let part = c.in-Some-judge_vector_delta.ensures.length in
    vector_cut_as_usual c.args.level c.args.instr.now _ part.1 c.args.bytes.now c.args.at c.in-Some.first c.in-Some.middle part.0 c.requires.kind c.requires.operator (omega (arith, sent.place)) part.2
    (c.is_refused.ensures c.if-is_refused.false) sent.stands part.3
