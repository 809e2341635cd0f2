use Rattle.std.proofs.Common.{arith}
use Rattle.fast_wire.proofs.WordForms.{group_not_zero, groups_zero, lowest_place}
use Rattle.fast_wire.proofs.map_builder.zero_groups.Goals as goal

pub returns-clause-few : goal.returns-clause-few
returns-clause-few c = let below = lowest_place c.args.groups c.requires.some c.requires.nine in omega arith

pub returns-clause-zeros : goal.returns-clause-zeros
returns-clause-zeros c = groups_zero c.args.groups c.requires.some c.requires.nine

pub returns-clause-last : goal.returns-clause-last
returns-clause-last c = group_not_zero c.args.groups c.requires.some c.requires.nine
