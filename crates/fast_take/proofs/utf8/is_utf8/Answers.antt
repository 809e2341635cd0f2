use Rattle.std.proofs.lemmas.List.{take_rest}
use Rattle.fast_take.proofs.Utf8Steps.{both, by_rest}
use Rattle.fast_take.proofs.utf8.is_utf8.Goals as goal

pub returns-then-next-at : goal.returns-then-next-at
returns-then-next-at c =
    let rest = rw take_rest at c.is_utf8_by_call-then-next-at.ensures in
    let all = by_rest c.args.units.now c.loop-at.at c.loop-at.invariant in
    (λ t. all.0 (rest.0 t), λ u. rest.1 (all.1 u))

pub loop-at-preserved : goal.loop-at-preserved
loop-at-preserved c = both c.args.units.now 0 _ _ c.loop-at.invariant c.skip_short-next.ensures
