use Rattle.fast_wire.proofs.Common.{◌≡◌, ◌∙◌, ◌-◌, ◌+◌, ◌*◌, ◌∷◌, [], refl, ap, arith, is_ok, true, length, length-append, err_from_is_err_and}
use Rattle.fast_wire.proofs.MapForms.{map_length, map_step}
use Rattle.fast_wire.proofs.presence_map.append_map.Goals as goal

pub loop-i-preserved : goal.loop-i-preserved
loop-i-preserved c =
    let ok : is_ok c.push.result ≡ true = rw c.unwrap.ensures refl in
    let grown = rw ok at c.push.ensures.items in
    let i = c.loop-i.i in let n = c.args.size in let bits = c.args.bits.now in
    let here : n - (i + 1) ≡ n - i - 1 = omega arith in
    let on : 7 * (i + 1) ≡ 7 * i + 7 = omega arith in
    let group = c.group_at.ensures.value in
    let long = ap length grown in let cap = c.push.ensures.capacity in (
      rw (grown, group, here, on) (map_step c.loop-i.out.items bits (n - i) (7 * i) (omega arith)) ∙ c.loop-i.invariant.0,
      omega (arith, cap, long, length-append c.loop-i.out.items (c.group_at.result ∷ [])),
    )

pub returns-in_err-reserve : goal.returns-in_err-reserve
returns-in_err-reserve c =
    let p = err_from_is_err_and c.from_residual.result c.from_residual.ensures.1 in
    rw (p.1, p.2) (record { ok = tt; err = (refl, c.in_err-reserve.ensures.items, omega (arith, map_length c.args.size c.args.bits.now 0, c.in_err-reserve.ensures.full)) })
