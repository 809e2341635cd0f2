use Rattle.fast_wire.proofs.Common.{arith, ◌∙◌, sym, ◌≤◌, ◌*◌, length, nat_tests}
use Rattle.fast_wire.proofs.MapBits.{none_left}
use Rattle.fast_wire.proofs.Masks.{none_behind}
use Rattle.fast_wire.proofs.bits.LongBits.is_empty.Goals as goal

pub returns : goal.returns
returns c =
    let place = c.self.inside.place in let bytes = c.self.inside.bytes.items in (
      λ t.
          let past : 7 * length bytes ≤ place = grind (arith, nat_tests, c.len.ensures, t) in sym c.self.view_is ∙ none_left bytes place past,
      λ none.
          let past : 7 * length bytes ≤ place = none_behind bytes place (c.self.view_is ∙ none) in
          grind (arith, nat_tests, past, c.len.ensures, c.self.invariant.1),
    )
