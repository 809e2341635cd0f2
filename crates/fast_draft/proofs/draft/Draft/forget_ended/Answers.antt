use Rattle.std.proofs.Common.{◌≡◌, ◌∙◌, sym, ap, arith, length, map, rules}
use Rattle.fast_draft.specs.Standing.{nearer}
use Rattle.fast_draft.proofs.Places.{ended_long, first_before}
use Rattle.fast_draft.proofs.Nearer.{forgotten}
use Rattle.fast_draft.proofs.draft.Draft.forget_ended.Goals as goal

pub overflow_sub-self : goal.overflow_sub-self
overflow_sub-self c =
    let d = c.self.inside in
    let is = sym (ended_long d.out.items d.around.items d.inner c.self.invariant) ∙ ap (λ s. length s.around.ended) c.self.view_is in
    omega (arith, c.first_place-count.ensures, is, first_before d.out.items d.around.items d.inner.place c.self.invariant.around)

pub invariant_of-self : goal.invariant_of-self
invariant_of-self c =
    let d = c.self.inside in
    let levels : c.move_nearer.new.levels ≡ map (nearer c.first_place-count.result) d.around.items = search rules in
    let all : d.around.len ≡ length d.around.items = search rules in
    let f = forgotten c.first_place-count.result d.out.items d.around.items c.move_nearer.new.levels d.around.len d.inner c.args.self.now.around c.self.invariant (ap (λ s. s.around) c.self.view_is) c.first_place-count.ensures levels all in
    rw (c.remove.ensures.items, f.levels) f.near.sound

pub returns-clause-ended : goal.returns-clause-ended
returns-clause-ended c =
    let d = c.self.inside in
    let levels : c.move_nearer.new.levels ≡ map (nearer c.first_place-count.result) d.around.items = search rules in
    let all : d.around.len ≡ length d.around.items = search rules in
    let f = forgotten c.first_place-count.result d.out.items d.around.items c.move_nearer.new.levels d.around.len d.inner c.args.self.now.around c.self.invariant (ap (λ s. s.around) c.self.view_is) c.first_place-count.ensures levels all in
    rw (c.remove.ensures.items, f.levels) f.near.first

pub returns-clause-segments : goal.returns-clause-segments
returns-clause-segments c =
    let d = c.self.inside in
    let levels : c.move_nearer.new.levels ≡ map (nearer c.first_place-count.result) d.around.items = search rules in
    let all : d.around.len ≡ length d.around.items = search rules in
    let f = forgotten c.first_place-count.result d.out.items d.around.items c.move_nearer.new.levels d.around.len d.inner c.args.self.now.around c.self.invariant (ap (λ s. s.around) c.self.view_is) c.first_place-count.ensures levels all in
    rw (c.remove.ensures.items, f.levels, ← c.self.view_is) f.near.around

pub returns-clause-inner : goal.returns-clause-inner
returns-clause-inner c =
    let d = c.self.inside in
    let levels : c.move_nearer.new.levels ≡ map (nearer c.first_place-count.result) d.around.items = search rules in
    let all : d.around.len ≡ length d.around.items = search rules in
    let f = forgotten c.first_place-count.result d.out.items d.around.items c.move_nearer.new.levels d.around.len d.inner c.args.self.now.around c.self.invariant (ap (λ s. s.around) c.self.view_is) c.first_place-count.ensures levels all in
    rw (c.remove.ensures.items, ← c.self.view_is) f.near.inner
