use Rattle.std.proofs.Common.{◌≡◌, rules, ◌++◌, ◌∷◌, [], vec_len, vec_capacity}
use Rattle.fast_draft.specs.Standing.{memory_of}
use Rattle.fast_draft.proofs.Leaving.{is_left, leaves}
use Rattle.fast_draft.proofs.draft.Draft.leave.Goals as goal

pub invariant_of-self : goal.invariant_of-self
invariant_of-self c =
    let d = c.self.inside in
    let cut : d.around.items ≡ c.pop.new.self.items ++ c.in-Some.level ∷ [] = search rules in
    let left = is_left c.pop.new.self.items c.in-Some.level d.inner c.end.ensures.ends.map d.out.items c.end.new.out.items (rw (← cut) c.self.invariant) c.end.ensures.ends.out in left.sound

pub returns-clause-left : goal.returns-clause-left
returns-clause-left c =
    let d = c.self.inside in
    let cut : d.around.items ≡ c.pop.new.self.items ++ c.in-Some.level ∷ [] = search rules in
    leaves c.pop.new.self.items c.in-Some.level d.inner d.out.items c.end.new.out.items (memory_of (vec_capacity d.out) (vec_len d.out) (vec_capacity d.around)) c.args.self.now (rw (← cut) c.self.view_is) (rw (← cut) c.self.invariant) c.end.ensures.ends
