use Rattle.std.proofs.Common.{◌%◌, arith}
use Rattle.fast_draft.proofs.Cutting.{clears_inside, clears_none, weight_is}
use Rattle.fast_draft.proofs.map.clear_behind.Goals as goal

pub returns-then-asked-map : goal.returns-then-asked-map
returns-then-asked-map c =
    rw (weight_is 7 (c.args.asked % 7) (omega arith)) (clears_inside c.args.map.now c.args.asked (omega arith))

pub returns : goal.returns
returns c = clears_none c.args.map.now c.args.asked c.requires.some (omega arith)
