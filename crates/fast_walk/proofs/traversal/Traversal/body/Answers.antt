use Rattle.std.proofs.Common.{Ok, Err, refl}
use Rattle.fast_walk.proofs.Steps.{exit_is}
use Rattle.fast_walk.proofs.Messages.{end_refused, message_ends, read_behind, walk_halts, walk_step}
use Rattle.fast_walk.proofs.traversal.Traversal.body.Goals as goal

pub returns-in_err-next-clause-reads : goal.returns-in_err-next-clause-reads
returns-in_err-next-clause-reads g c =
    rw (exit_is c.from_residual.result c.from_residual.ensures.1) (walk_halts _ _ c.requires.stage c.in_err-next.ensures.runs.0 c.run.ensures.keeps c.in_err-next.ensures.runs.1)

pub returns-in-Ok-finish-clause-reads : goal.returns-in-Ok-finish-clause-reads
returns-in-Ok-finish-clause-reads g c =
    let o = c.in_ok-next.ensures.runs in
    read_behind _ _ _ (Ok _) (walk_step c.args.self.now.identifier_is c.args.self.now.found c.requires.stage (o.0.from, o.0.within) c.run.ensures.keeps o.0.goes) (message_ends c.requires.stage o.1 o.0.within o.0.on.kept refl c.in-Ok.ensures.clear c.in-Ok-finish.ensures.stands (refl, refl))

pub returns-in-Err-clause-reads : goal.returns-in-Err-clause-reads
returns-in-Err-clause-reads g c =
    let o = c.in_ok-next.ensures.runs in
    let h = c.in-Err.ensures in
    read_behind _ _ _ (Err _) (walk_step c.args.self.now.identifier_is c.args.self.now.found c.requires.stage (o.0.from, o.0.within) c.run.ensures.keeps o.0.goes)
    (end_refused c.requires.stage o.1 o.0.within refl refl (λ set ms d k. k) (λ other. (h.refused.0, h.refused.1, h.message o.1.1, h.refused.2)))
