use Rattle.fast_order.proofs.Common.{◌≡◌, ◌<◌, ◌-◌, length, Some, arith, sym, ◌∙◌, subst, true, rules, slice_get, State, state_of}
use Rattle.fast_order.proofs.SearchGroups.{IsJudged}
use Rattle.fast_order.proofs.SearchTurns.{turn_left, turn_closed, place_within, node_within, opened_within, judged_by_size, judged_by_reference}
use Rattle.fast_order.proofs.order.Search.leave.Goals.{then-visit-len, else-visit-len}
use Rattle.fast_order.proofs.order.Search.leave.Goals as goal

pub overflow_sub-len : goal.overflow_sub-len
overflow_sub-len c =
    let k : c.args.visit.place < length c.args.self.now.opened.items = place_within c.args.references.now (state_of c.args.self.now) c.args.visit c.requires.stands in
    omega (arith, k, c.len.ensures)

pub refers_to_itself-on_cycle-requires : goal.refers_to_itself-on_cycle-requires
refers_to_itself-on_cycle-requires c = node_within c.args.references.now (state_of c.args.self.now) c.args.visit c.requires.stands

pub close-requires-clause-start_within : goal.close-requires-clause-start_within
close-requires-clause-start_within c =
    let k : c.args.visit.place < length c.args.self.now.opened.items = place_within c.args.references.now (state_of c.args.self.now) c.args.visit c.requires.stands in
    omega (arith, k)

pub close-requires-clause-marked : goal.close-requires-clause-marked
close-requires-clause-marked c = opened_within c.args.references.now (state_of c.args.self.now) c.args.visit c.requires.stands

pub returns-in_ok-close : goal.returns-in_ok-close
returns-in_ok-close c =
    let s : State = state_of c.args.self.now in
    let last : slice_get s.starts (length s.starts - 1) ≡ Some c.args.visit.place = subst (λ l. slice_get l (length l - 1) ≡ Some c.args.visit.place) c.deref.ensures.value (c.is_last.ensures.0 c.if-is_last.true) in
    let so : IsJudged c.args.references.now s c.args.visit.place c.if-visit-len.on_cycle = elim c.if-visit-len.branch [
      | then-visit-len w ↦ judged_by_size c.args.references.now s c.args.visit c.if-visit-len.on_cycle c.requires.stands (let k = w.if-visit-len.true in let m = c.len.ensures in omega (arith, k, m)) (let k = w.if-visit-len.true in let t : c.if-visit-len.on_cycle ≡ true = search rules in t)
      | else-visit-len w ↦ judged_by_reference c.args.references.now s c.args.visit c.if-visit-len.on_cycle w.refers_to_itself-on_cycle.result c.requires.stands (let k = w.if-visit-len.false in let m = c.len.ensures in omega (arith, k, m)) w.on_cycle-is w.refers_to_itself-on_cycle.ensures
    ] in
    turn_closed c.args.references.now s (state_of c.close.new.self) c.args.visit c.if-visit-len.on_cycle c.in_ok-close.ensures c.requires.followed last so c.requires.stands

pub returns-else-is_last : goal.returns-else-is_last
returns-else-is_last c =
    let s : State = state_of c.args.self.now in
    turn_left c.args.references.now s c.args.visit c.requires.followed (λ e. absurd (cc (sym c.if-is_last.false ∙ c.is_last.ensures.1 (subst (λ l. slice_get l (length l - 1) ≡ Some c.args.visit.place) (sym c.deref.ensures.value) e)))) c.requires.stands
