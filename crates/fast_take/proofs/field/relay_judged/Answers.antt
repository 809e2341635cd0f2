use Rattle.std.proofs.Common.{Some}
use Rattle.fast_take.proofs.AtOnce.{usually_taken}
use Rattle.fast_take.proofs.field.relay_judged.Goals as goal

pub returns-in-Some : goal.returns-in-Some
returns-in-Some c = λ before was.
    let t = c.in-Some.ensures.taken c.args.instr.now before c.args.entry.now was in
    (Some t.0, usually_taken (c.requires.usual c.in-Some.ensures.judged) t.1)
