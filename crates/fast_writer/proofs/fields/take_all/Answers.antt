use Rattle.fast_writer.proofs.Common.{◌≡◌, ◌-◌, None, Some, arith, length, refl, ◌∙◌, Kind, Part, told_part}
use Rattle.fast_writer.proofs.Takings.{ahead, left_on, served_ahead, took_mantissa, took_next, took_none}
use Rattle.fast_writer.proofs.fields.take_all.Goals as goal

pub pieces-init : goal.pieces-init
pieces-init g c =
    let none : length c.args.rest.now - length c.args.rest.now ≡ 0 = omega arith in
    rw none (record { within = omega arith; others = refl; run = c.requires.run; left = rw (c.requires.none) (c.requires.left); few = rw (c.requires.none) (omega arith); around = refl; took = took_none c.requires.served c.requires.kept; same_keys = refl })

pub first_part-requires : goal.first_part-requires
first_part-requires g c =
    let inv = c.pieces.invariant in
    let front = ahead c.args.rest.now inv.within inv.others c.in-Some.ensures.value in
    let serves = g.E.Entries.serves c.pieces.entries in
    (serves, (served_ahead serves front inv.took.served).0)

pub take_part-requires-clause-part : goal.take_part-requires-clause-part
take_part-requires-clause-part g c =
    let inv = c.pieces.invariant in
    let front = ahead c.args.rest.now inv.within inv.others c.in-Some.ensures.value in
    let serves = g.E.Entries.serves c.pieces.entries in
    let first = c.in-Some-default-None in
    told_part Part.Whole first.whole.now.kind first.whole.now tt (rw (first.field-0-1-is) at (first.ensures.served serves (served_ahead serves front inv.took.served).0).1)

pub pieces-preserved-in-Part : goal.pieces-preserved-in-Part
pieces-preserved-in-Part g c =
    let inv = c.pieces.invariant in
    let front = ahead c.args.rest.now inv.within inv.others c.in-Some.ensures.value in
    let first = c.in-Some-default-None in
    let one = c.take_part.ensures in
    let taken = c.in-Part.ensures.taken in
    record {
      within = front.fewer;
      others = rw (front.next) front.later_is;
      run = taken.run;
      left = left_on taken inv.left;
      few = rw (front.next) (omega (arith, inv.few, one.few));
      around = one.around ∙ inv.around;
      took = rw (front.next, one.same_keys)
          (took_next None None front taken inv.took (rw (first.field-0-1-is) at first.ensures.begins) refl tt);
      same_keys = one.same_keys ∙ inv.same_keys;
    }

pub pieces-preserved : goal.pieces-preserved
pieces-preserved g c =
    let inv = c.pieces.invariant in
    let front = ahead c.args.rest.now inv.within inv.others c.in-Some.ensures.value in
    let first = c.in-Some-default-Some in
    let one = c.take_part-in-Some-default-Some.ensures in
    let taken = c.in-Part-false.ensures.taken in
    record {
      within = front.fewer;
      others = rw (front.next) front.later_is;
      run = taken.run;
      left = left_on taken inv.left;
      few = rw (front.next) (omega (arith, inv.few, one.few));
      around = one.around ∙ inv.around;
      took = rw (front.next, one.same_keys)
          (took_next (Some first.mantissa) None front taken inv.took (rw (first.field-0-1-is) at first.ensures.begins) (rw (c.in-Part-false.field-0-test) refl) tt);
      same_keys = one.same_keys ∙ inv.same_keys;
    }

pub pieces-preserved-in-Part-take_part : goal.pieces-preserved-in-Part-take_part
pieces-preserved-in-Part-take_part g c =
    let inv = c.pieces.invariant in
    let front = ahead c.args.rest.now inv.within inv.others c.in-Some.ensures.value in
    let serves = g.E.Entries.serves c.pieces.entries in
    let first = c.in-Some-default-Some in
    let m = Some first.mantissa in
    let one = c.take_part-in-Some-default-Some.ensures in
    let two = c.take_part-in-Part-true.ensures in
    let last = c.in-Part-take_part.ensures.taken in
    let next = (rw (first.field-0-1-is) at (first.ensures.served serves (served_ahead serves front inv.took.served).0)).2 in
    record {
      within = front.fewer;
      others = rw (front.next) front.later_is;
      run = last.run;
      left = left_on last (left_on c.in-Part-true.ensures.taken inv.left);
      few = rw (front.next) (omega (arith, inv.few, one.few, two.few));
      around = two.around ∙ one.around ∙ inv.around;
      took = rw (front.next, two.same_keys, one.same_keys)
          (took_mantissa last
          (took_next m m front c.in-Part-true.ensures.taken inv.took (rw (first.field-0-1-is) at first.ensures.begins) (rw (c.in-Part-true.field-0-test) refl) next));
      same_keys = two.same_keys ∙ one.same_keys ∙ inv.same_keys;
    }

pub returns-in-Elsewhere-take_part-2-clause-took : goal.returns-in-Elsewhere-take_part-2-clause-took
returns-in-Elsewhere-take_part-2-clause-took g c =
    let inv = c.pieces.invariant in
    let front = ahead c.args.rest.now inv.within inv.others c.in-Some.ensures.value in
    let serves = g.E.Entries.serves c.args.entries.now in
    let first = c.in-Some-default-Some in
    let m = Some first.mantissa in
    let same = c.in-Elsewhere-take_part-2.ensures.taken in
    let took = rw (inv.same_keys) at inv.took in
    let next = (rw (first.field-0-1-is) at (first.ensures.served serves (served_ahead serves front took.served).0)).2 in
    rw (front.next, same.same, same.segment, same.left, same.run.place)
    (took_next m m front c.in-Part-true.ensures.taken took (rw (first.field-0-1-is) at first.ensures.begins) (rw (c.in-Part-true.field-0-test) refl) next)

pub take_part-requires-in-Part-true-clause-part : goal.take_part-requires-in-Part-true-clause-part
take_part-requires-in-Part-true-clause-part g c =
    let inv = c.pieces.invariant in
    let front = ahead c.args.rest.now inv.within inv.others c.in-Some.ensures.value in
    let serves = g.E.Entries.serves c.pieces.entries in
    let first = c.in-Some-default-Some in
    let next = (rw (first.field-0-1-is) at (first.ensures.served serves (served_ahead serves front inv.took.served).0)).2 in
    told_part Part.Mantissa Kind.Int64 first.mantissa.now refl next.0.1
