use Rattle.fast_machine.proofs.Common.{◌≡◌, ℕ, length, subst, rules, templates_in, IsHeld, mode_of}
use Rattle.fast_machine.proofs.Followings.{are_held}
use Rattle.fast_machine.proofs.machine.Machine.held.Goals as goal

pub returns-clause-waits : goal.returns-clause-waits
returns-clause-waits g c = λ none before fed messages follows.
    let now = c.args.self.now in
    let at = rw (none) at follows.at in
    let size : length now.held.items ≡ c.len.result = search rules in
    subst (λ (n : ℕ). IsHeld (mode_of now) (templates_in now.traversal.set.now) fed now.fed n) size (are_held now.framing now.left _ now.traversal now.held.items now.waiting fed messages now.fed c.set_is_sound.ensures.typed follows.counts.fed_is at)
