use Rattle.fast_wire.proofs.Common.{◌≡◌, ◌∙◌, ◌-◌, ◌/◌, ◌*◌, ◌^◌, ◌%◌, ◌++◌, ◌∷◌, [], refl, ap, arith, is_ok, true, length, length-append, vec_len, rules, entity_of}
use Rattle.fast_wire.proofs.UnsignedForms.{entity_step, entity_length}
use Rattle.fast_wire.proofs.integer.push_entity.Goals as goal

pub loop-left-preserved : goal.loop-left-preserved
loop-left-preserved c =
    let ok : is_ok c.push.result ≡ true = rw c.unwrap.ensures refl in
    let grown = rw ok at c.push.ensures.items in
    let inv = c.loop-left.invariant in (
      ap (λ l. l ++ entity_of (c.loop-left.left - 1) c.args.value) grown ∙ entity_step c.loop-left.out.items c.loop-left.left c.args.value c.loop-left-test.true ∙ inv.0,
      (let cap = c.push.ensures.capacity in let long = ap length grown in omega (arith, cap, long, length-append c.loop-left.out.items ((c.args.value / 2 ^ (7 * (c.loop-left.left - 1)) % 128) ∷ []))),
      omega arith,
      omega arith,
    )

pub returns-clause-len : goal.returns-clause-len
returns-clause-len c =
    let ok : is_ok c.push-2.result ≡ true = rw c.unwrap-2.ensures refl in
    let grown = rw ok at c.push-2.ensures.len in
    let v = c.args.value in let left = c.loop-left.left in
    let all = ap length c.loop-left.invariant.0 in
    let before : vec_len c.loop-left.out ≡ length c.loop-left.out.items = search rules in
    let entry : vec_len c.args.out.now ≡ length c.args.out.now.items = search rules in
    omega (arith, length-append c.loop-left.out.items (entity_of left v), length-append c.args.out.now.items (entity_of c.args.size v), entity_length left v, entity_length c.args.size v)

pub returns-clause-items : goal.returns-clause-items
returns-clause-items c = search rules
