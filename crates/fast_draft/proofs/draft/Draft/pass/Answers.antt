use Rattle.fast_draft.proofs.Passing.{goes_ahead}
use Rattle.fast_draft.proofs.draft.Draft.pass.Goals as goal

pub returns-clause-inner : goal.returns-clause-inner
returns-clause-inner c =
    let d = c.self.inside in rw (← c.self.view_is) (goes_ahead d.out.items d.inner c.args.count c.min.result c.min.ensures c.self.invariant.inner)
