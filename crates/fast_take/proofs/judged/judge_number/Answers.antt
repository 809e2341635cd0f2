use Rattle.fast_take.proofs.Common.{w64, FitsSigned, rules, refl, to_z-of_z, LeavesWhole, NumberGives}
use Rattle.fast_take.proofs.NumberJudging.{found_as}
use Rattle.fast_take.proofs.NumberRelaying.{added_gives, whole_gives}
use Rattle.fast_take.proofs.judged.judge_number.Goals as goal

pub returns-then-add : goal.returns-then-add
returns-then-add c =
    let i = c.args.instr.now in
    let z = c.args.number in
    let fits : FitsSigned w64 z = search rules in
    let adds = rw (to_z-of_z w64 z fits, c.requires.part) at (c.add.ensures.added c.if-add.true) in
    (refl, added_gives c.args.kind i c.args.entry.now c.add.new.entry z c.requires.kind c.in-Delta.is adds)

pub returns-in_default : goal.returns-in_default
returns-in_default c =
    let i = c.args.instr.now in
    let z = c.args.number in
    let old = c.args.entry.now in
    let new = c.judge_whole.new.entry in
    let fits : FitsSigned w64 z = search rules in
    found_as c.judge_whole.result c.args.next (λ bit. LeavesWhole bit c.args.kind i.part i old new z) (λ bit. NumberGives bit c.args.kind i old new z) _
    (λ bit l. whole_gives bit c.args.kind i old new z c.requires.kind l) (rw (to_z-of_z w64 z fits, c.requires.part) at c.judge_whole.ensures)
