use Rattle.std.proofs.Common.{Some, ap, sym, ◌∙◌, arith}
use Rattle.fast_take.proofs.NumberRelaying.{constant_stands}
use Rattle.fast_take.proofs.judged.judge_constant.Goals as goal

pub returns-in-Some : goal.returns-in-Some
returns-in-Some c =
    let i = c.args.instr.now in
    let e = c.args.entry.now in
    let v = c.value.result.now in
    let yes = c.if-can_begin.true in
    record {
      place = omega arith;
      within = c.requires.place;
      gives = (v, constant_stands i e v c.args.bytes.now c.args.at c.requires.operator (c.in-Some.is ∙ ap Some (sym c.value.ensures)) (c.can_begin.ensures.kind yes) (c.can_begin.ensures.within yes));
    }
