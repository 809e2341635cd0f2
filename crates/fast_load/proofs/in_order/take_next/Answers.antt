use Rattle.fast_load.proofs.Common.{◌++◌, map, ap, leveled, leveled_of, written_list, written_of}
use Rattle.fast_load.proofs.InOrderLaws.{none_in, none_less, none_taken, taken_less, taken_one}
use Rattle.fast_load.proofs.in_order.take_next.Goals as goal

pub returns-in_default-clause-same : goal.returns-in_default-clause-same
returns-in_default-clause-same c = ap (λ xs. map leveled_of c.args.list.now.items ++ xs) (none_taken c.args.pile.now.items c.args.front (none_in c.args.front c.in_default.ensures.cases))

pub returns-in_default-clause-less : goal.returns-in_default-clause-less
returns-in_default-clause-less c = none_less c.args.pile.now.items c.args.front (none_in c.args.front c.in_default.ensures.cases)

pub returns-clause-same : goal.returns-clause-same
returns-clause-same c =
    let front = c.args.front in
    taken_one c.args.list.now.items c.push.new.self.items c.args.pile.now.items c.push-2.new.self.items c.enter.new.pile.items _ front _
    (c.in_ok-push.ensures.items, c.in_ok-push-2.ensures.items, c.in_ok-enter.ensures.same, ap (λ is. leveled front.level (written_list (map written_of is))) c.in-Some.ensures.cases.0)

pub returns-clause-less : goal.returns-clause-less
returns-clause-less c =
    let front = c.args.front in
    taken_less c.args.list.now.items c.push.new.self.items c.args.pile.now.items c.push-2.new.self.items c.enter.new.pile.items _ front _
    (c.in_ok-push.ensures.items, c.in_ok-push-2.ensures.items, c.in_ok-enter.ensures.same, ap (λ is. leveled front.level (written_list (map written_of is))) c.in-Some.ensures.cases.0)
    c.in_ok-enter.ensures.few
