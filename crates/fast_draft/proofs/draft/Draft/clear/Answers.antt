use Rattle.std.proofs.Common.{◌∙◌, ap}
use Rattle.fast_draft.proofs.Passing.{is_cleared}
use Rattle.fast_draft.proofs.draft.Draft.clear.Goals as goal

pub invariant_of-self : goal.invariant_of-self
invariant_of-self c =
    let d = c.self.inside in let e = is_cleared d.around.items d.inner c.clear_next.new.level d.out.items c.clear_next.new.out.items c.self.invariant c.clear_next.ensures.cleared in e.sound

pub returns-clause-around : goal.returns-clause-around
returns-clause-around c =
    let d = c.self.inside in let e = is_cleared d.around.items d.inner c.clear_next.new.level d.out.items c.clear_next.new.out.items c.self.invariant c.clear_next.ensures.cleared in
    e.around ∙ ap (λ s. s.around) c.self.view_is

pub returns-clause-inner : goal.returns-clause-inner
returns-clause-inner c =
    let d = c.self.inside in let e = is_cleared d.around.items d.inner c.clear_next.new.level d.out.items c.clear_next.new.out.items c.self.invariant c.clear_next.ensures.cleared in
    rw (← c.self.view_is) e.inner
