use Rattle.fast_take.proofs.AtOnce.{told_took}
use Rattle.fast_take.proofs.at_once.take_judged.Goals as goal

pub returns : goal.returns
returns c =
    let judge = c.judge-judged in
    let tell = c.tell_judged in
    let i = c.args.instr.now in
    let old = c.args.entry.now in
    let new = judge.new.entry in
    let bytes = c.args.bytes.now in
    let at = c.args.at in
    told_took c.args.level i old new bytes at judge.result tell.new.aside tell.result judge.ensures.usual judge.ensures.judged
    (rw (tell.ensures.unkept) judge.ensures.aside) tell.ensures.judged (tell.ensures.taken i old new judge.ensures.judged)
