use Rattle.std.proofs.Common.{eq-eqb, sym, ◌∙◌}
use Rattle.std.proofs.lemmas.Bool.{eqb-true}
use Rattle.fast_write.specs.Ways.{here}
use Rattle.fast_write.proofs.Going.{all_stand, last_ends, open_short}
use Rattle.fast_write.proofs.way.Way.end.Goals as goal

pub returns-then-is_empty-clause-finishes : goal.returns-then-is_empty-clause-finishes
returns-then-is_empty-clause-finishes g c = λ left before input ended go. record { ended = ended; stands = all_stand go (sym c.args.self.now.begun.ok.0 ∙ eqb-true _ 0 (sym c.if-is_empty.ensures)) }

pub returns-clause-finishes : goal.returns-clause-finishes
returns-clause-finishes g c = λ left before input ended go.
    last_ends go (λ none. cc (eq-eqb c.args.self.now.begun.len 0 (c.args.self.now.begun.ok.0 ∙ none), c.if-is_empty.ensures)) (here c.end_line.new.self) _ left c.end_line.result c.end_line.ensures.same ended (c.end_line.ensures.ends before go.lines go.stands (open_short go))
