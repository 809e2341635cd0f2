use Rattle.std.proofs.Common.{◌∙◌, ◌++◌, ◌∷◌, [], ap, Bool, List}
use Rattle.fast_wire.proofs.MarkedWords.{marked_push}
use Rattle.fast_wire.proofs.map_builder.MapBuilder.push.Goals as goal

pub returns-then-self-lt-FULL-clause-pushed : goal.returns-then-self-lt-FULL-clause-pushed
returns-then-self-lt-FULL-clause-pushed c =
    let old = c.self.inside in
    marked_push old.long.items old.word c.from.result c.args.bit (c.self.invariant.1 c.if-self-lt-FULL.true) c.self.invariant.0 c.if-self-lt-FULL.true c.from.ensures
    ∙ ap (λ (l : List Bool). l ++ c.args.bit ∷ []) c.self.view_is
