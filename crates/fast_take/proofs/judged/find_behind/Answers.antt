use Rattle.fast_take.proofs.Common.{◌∙◌, sym, arith, bytes_from}
use Rattle.fast_take.proofs.Needless.{one_less, two_less}
use Rattle.fast_take.proofs.Standing.{entity_in, not_overlong}
use Rattle.fast_take.proofs.judged.find_behind.Goals.{then-is_overlong, else-is_overlong}
use Rattle.fast_take.proofs.judged.find_behind.Goals as goal

pub is_overlong-requires-clause-entity : goal.is_overlong-requires-clause-entity
is_overlong-requires-clause-entity c =
    let bytes = c.args.bytes.now in
    let at = c.args.at in
    let h = one_less c.args.unsigned c.args.presence bytes at c.args.next c.args.number (bytes_from bytes at (λ k. omega (arith, c.type_inv.bytes k))) c.requires.place c.requires.within c.requires.spelt c.requires.long in
    entity_in c.args.unsigned c.args.presence c.args.number _ h.1

pub is_overlong-requires-2-clause-entity : goal.is_overlong-requires-2-clause-entity
is_overlong-requires-2-clause-entity c =
    let bytes = c.args.bytes.now in
    let at = c.args.at in
    let h = one_less c.args.unsigned c.args.presence bytes at c.args.next c.args.number (bytes_from bytes at (λ k. omega (arith, c.type_inv.bytes k))) c.requires.place c.requires.within c.requires.spelt c.requires.long in
    elim c.if-is_overlong.branch [
      | then-is_overlong w ↦
          let more = two_less c.args.unsigned c.args.presence bytes at c.args.next c.args.number h.1 (sym c.is_overlong.ensures ∙ w.if-is_overlong.true) in
          rw (w.first-is) (entity_in c.args.unsigned c.args.presence c.args.number _ more.1)
      | else-is_overlong w ↦ rw (w.first-is) (entity_in c.args.unsigned c.args.presence c.args.number _ h.1)
    ]

pub returns-clause-stands : goal.returns-clause-stands
returns-clause-stands c = λ yes.
    let bytes = c.args.bytes.now in
    let at = c.args.at in
    let short = sym c.is_overlong-2.ensures ∙ not_overlong c.is_overlong-2.result yes in
    let h = one_less c.args.unsigned c.args.presence bytes at c.args.next c.args.number (bytes_from bytes at (λ k. omega (arith, c.type_inv.bytes k))) c.requires.place c.requires.within c.requires.spelt c.requires.long in
    elim c.if-is_overlong.branch [
      | then-is_overlong w ↦
          let more = two_less c.args.unsigned c.args.presence bytes at c.args.next c.args.number h.1 (sym c.is_overlong.ensures ∙ w.if-is_overlong.true) in
          record { spelt = c.requires.spelt; form = rw (w.first-is) more.1; short = short }
      | else-is_overlong w ↦ record { spelt = c.requires.spelt; form = rw (w.first-is) h.1; short = short }
    ]
