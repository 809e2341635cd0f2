use Rattle.std.proofs.Common.{◌-◌, rules}
use Rattle.fast_draft.proofs.Cutting.{cuts, last_stop, group_below}
use Rattle.fast_draft.proofs.map.cut_map.Goals as goal

pub overflow_sub-map-2 : goal.overflow_sub-map-2
overflow_sub-map-2 c = last_stop c.args.map.now c.requires.entity

pub returns : goal.returns
returns c = cuts c.args.map.now c.clear_behind-most.new.map c.args.asked c.clear_behind-most.result c.needed-used.result c.requires.entity c.requires.few c.clear_behind-most.ensures c.needed-used.ensures

pub overflow_add-map : goal.overflow_add-map
overflow_add-map c =
    let b = group_below c.args.map.now c.clear_behind-most.new.map c.args.asked c.clear_behind-most.result (c.needed-used.result - 1) c.requires.entity c.clear_behind-most.ensures in
    search rules
