use Rattle.fast_take.proofs.AtOnce.{best_took}
use Rattle.fast_take.proofs.TakenIntegers.{usually_took}
use Rattle.fast_take.proofs.at_once.take_respelled.Goals as goal

pub returns : goal.returns
returns c =
    let b = c.in_ok-best in
    let tell = c.tell_best in
    usually_took (c.reads_as_usual.ensures c.if-not-reads_as_usual.false)
    (best_took c.args.instr.now c.args.entry.now c.find_best.new.entry c.args.bytes.now c.args.at b.best tell.new.aside tell.result b.ensures.judged b.ensures.absent tell.ensures.place tell.ensures.first tell.ensures.there tell.ensures.bit (tell.ensures.form c.args.bytes.now))
