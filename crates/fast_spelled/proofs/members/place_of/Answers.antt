use Rattle.std.proofs.Common.{◌<◌, length, get_or, None, sym, ap, ◌∙◌, arith}
use Rattle.std.proofs.lemmas.Bool.{true≢false}
use Rattle.std.specs.Option.{is_some}
use Rattle.std.specs.Str.{bytes_eq}
use Rattle.fast_template.specs.Resolved.{instruction_of}
use Rattle.fast_spelled.specs.Spelled.{name_in}
use Rattle.fast_spelled.proofs.Places.{passed_filled, passed_any, found_one, none_found, none_of, get_or_any}
use Rattle.fast_spelled.proofs.members.place_of.Goals as goal
use Rattle.fast_spelled.proofs.members.place_of.Goals.{else-is_none-via-then-is_none+else-eq, else-is_none-via-else-is_none}

pub loop-place-init : goal.loop-place-init
loop-place-init c = passed_filled c.args.members.now c.args.slots.now c.args.name.now c.args.front c.requires.0 c.requires.1

pub returns-then-eq-clause-some : goal.returns-then-eq-clause-some
returns-then-eq-clause-some c =
    let m = c.index-members-place.result in
    let s = c.index-slots-place.result in
    let inside : c.loop-place.place < length c.args.slots.now = omega (arith, c.loop-place-test.true, c.requires.0) in (
      c.loop-place-test.true,
      none_of (get_or c.args.slots.now c.loop-place.place None) (ap is_some (get_or_any c.args.slots.now c.loop-place.place None s inside ∙ sym c.index-slots-place.is) ∙ c.if-is_none.ensures),
      λ j d. found_one c.args.members.now c.args.slots.now c.args.name.now c.loop-place.place d s c.loop-place-test.true inside
          (ap is_some (sym c.index-slots-place.is) ∙ c.if-is_none.ensures)
          (ap (λ f. bytes_eq c.args.name.now (name_in (instruction_of f))) (get_or_any c.args.members.now c.loop-place.place d m c.loop-place-test.true ∙ sym c.index-members-place.is)
          ∙ ap (bytes_eq c.args.name.now) (sym c.name_of.ensures) ∙ sym c.eq.ensures ∙ c.if-eq.true)
          c.loop-place.invariant j,
    )

pub loop-place-preserved : goal.loop-place-preserved
loop-place-preserved c =
    let s = c.index-slots-place.result in
    let inside : c.loop-place.place < length c.args.slots.now = omega (arith, c.loop-place-test.true, c.requires.0) in
    passed_any c.args.members.now c.args.slots.now c.args.name.now c.loop-place.place c.requires.0 c.loop-place-test.true
    (elim c.else-is_none.branch [
      | else-is_none-via-then-is_none+else-eq w ↦
          λ d free. ap (λ f. bytes_eq c.args.name.now (name_in (instruction_of f))) (get_or_any c.args.members.now c.loop-place.place d w.index-members-place.result c.loop-place-test.true ∙ sym w.index-members-place.is)
          ∙ ap (bytes_eq c.args.name.now) (sym w.name_of.ensures) ∙ sym w.eq.ensures ∙ w.if-eq.false
      | else-is_none-via-else-is_none w ↦
          λ d free. absurd (true≢false (sym (ap is_some (get_or_any c.args.slots.now c.loop-place.place None s inside ∙ sym c.index-slots-place.is) ∙ w.if-is_none.ensures) ∙ free))
    ]) c.loop-place.invariant

pub returns-clause-none : goal.returns-clause-none
returns-clause-none c = λ e j. none_found c.args.members.now c.args.slots.now c.args.name.now c.loop-place.place c.loop-place-test.false c.loop-place.invariant j
