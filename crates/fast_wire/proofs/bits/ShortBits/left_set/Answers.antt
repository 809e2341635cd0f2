use Rattle.fast_wire.proofs.Common.{◌≡◌, ◌∙◌, sym, arith, false≢true}
use Rattle.fast_wire.proofs.Masks.{none_under, set_under, twice_fits}
use Rattle.fast_wire.proofs.bits.ShortBits.left_set.Goals as goal

pub overflow_mul-result : goal.overflow_mul-result
overflow_mul-result c = omega (arith, twice_fits c.self.inside.mask c.self.invariant)

pub returns : goal.returns
returns c =
    let w = c.self.inside.word in let mask = c.self.inside.mask in
    let some : mask ≡ 0 → ⊥ = λ none. false≢true (sym c.if-is_empty.false ∙ c.is_empty.ensures.1 (sym c.self.view_is ∙ rw none (none_under 64 w))) in
    rw (← c.self.view_is) (set_under w mask c.self.invariant some)
