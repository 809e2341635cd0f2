use Rattle.fast_load.proofs.Common.{◌≡◌, ◌∷◌, map, ap, sym, ◌∙◌, arith, level_inside, leveled, written_list, written_of}
use Rattle.fast_load.proofs.InOrderLaws.{entered}
use Rattle.fast_load.proofs.in_order.enter.Goals as goal

pub returns-in_ok-push-in-Some-clause-same : goal.returns-in_ok-push-in-Some-clause-same
returns-in_ok-push-in-Some-clause-same c =
    let found = c.args.found in
    let level : c.min.result ≡ level_inside found.level = omega (arith, c.saturating_add.ensures, c.min.ensures) in
    entered c.args.pile.now.items c.push.new.self.items _ _ _ c.in_ok-push-in-Some.ensures.items
    (c.in-Some.ensures found.level ∙ ap (λ n. (found.level, written_of found.instruction.now) ∷ leveled n (written_list (map written_of c.in-Some.members.now))) (sym level))
