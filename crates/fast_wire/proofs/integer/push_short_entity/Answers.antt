use Rattle.fast_wire.proofs.Common.{◌≡◌, ◌∙◌, ◌-◌, ◌/◌, ◌*◌, ◌^◌, ◌%◌, ◌++◌, ◌∷◌, [], refl, ap, arith, is_ok, true, length, length-append, entity_of}
use Rattle.fast_wire.proofs.UnsignedForms.{entity_step}
use Rattle.fast_wire.proofs.integer.push_short_entity.Goals as goal

pub loop-left-preserved : goal.loop-left-preserved
loop-left-preserved c =
    let ok : is_ok c.push.result ≡ true = rw c.unwrap.ensures refl in
    let grown = rw ok at c.push.ensures.items in
    let inv = c.loop-left.invariant in (
      ap (λ l. l ++ entity_of (c.loop-left.left - 1) c.args.value) grown ∙ entity_step c.loop-left.out.items c.loop-left.left c.args.value c.loop-left-test.true ∙ inv.0,
      (let cap = c.push.ensures.capacity in let long = ap length grown in omega (arith, cap, long, length-append c.loop-left.out.items ((c.args.value / 2 ^ (7 * (c.loop-left.left - 1)) % 128) ∷ []))),
      omega arith,
      omega arith,
    )
