use Rattle.std.proofs.Common.{◌<◌, length, rules, sym, ap, arith}
use Rattle.fast_gaps.specs.Gaps.{texts_in}
use Rattle.fast_gaps.proofs.Filled.{gap_passed}
use Rattle.fast_gaps.proofs.rest.Rest.tell_gap.Goals as goal

pub returns-clause-same : goal.returns-clause-same
returns-clause-same g c =
    let old = c.args.self.now in
    let placed = c.in-Some.placed.now in
    let size = ap (λ gs. length gs) c.deref.ensures.value in
    let read = c.in-Some.ensures.lookup.3 in
    let within : old.next < length old.placed.items = omega (arith, size, read) in
    gap_passed g.S.Escape.form old.placed.items old.next old.at (length c.front_of-front.result.now) placed (texts_in old.texts) (texts_in c.fill.new.texts) (texts_in c.pass.new.texts) old.text c.args.out.now.items c.fill.new.out.items c.extend_from_slice-2.new.self.items
    within (sym (rw (c.deref.ensures.value) at c.in-Some.ensures.lookup.1)) (ap (λ xs. length xs) (search rules)) (search rules) (search rules) c.fill.ensures.same c.pass.ensures
