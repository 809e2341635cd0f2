use Rattle.fast_load.proofs.Common.{◌≡◌, map, rules, leveled, leveled_of, written_list, written_of}
use Rattle.fast_load.proofs.InOrderLaws.{found_in_order}
use Rattle.fast_load.proofs.in_order.in_order.Goals as goal

pub returns-clause-listed : goal.returns-clause-listed
returns-clause-listed c =
    let all : map leveled_of c.loop-front.list.items ≡ leveled 0 (written_list (map written_of c.args.members.now)) = search rules in
    found_in_order c.loop-front.list.items (written_list (map written_of c.args.members.now)) all
