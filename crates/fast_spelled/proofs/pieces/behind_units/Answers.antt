use Rattle.std.proofs.Common.{sym, ◌∙◌}
use Rattle.fast_spelled.proofs.Fronts.{plain_units}
use Rattle.fast_spelled.proofs.pieces.behind_units.Goals as goal

pub returns-then-all_stand : goal.returns-then-all_stand
returns-then-all_stand c = rw (plain_units c.args.text.now (sym c.all_stand.ensures ∙ c.if-all_stand.true)) c.behind.ensures
