use Rattle.fast_wire.proofs.Common.{◌≡◌, ◌+◌, ◌-◌, ◌*◌, ◌%◌, ◌<◌, ◌≤◌, length, get_or, take, drop, refl, ap, ◌∙◌, arith, rules, length-take, length-drop, below_more, w64, to_z-of_z, SFits, unsigned_of, under_sign}
use Rattle.fast_wire.proofs.ShortIntegers.{byte_behind, first_under, front_bound, short_found, step_is, under_fits, value_more}
use Rattle.fast_wire.proofs.short_integer.longer_entity.Goals as goal

pub loop-i-init : goal.loop-i-init
loop-i-init c =
    let bytes = c.args.bytes.now in let at = c.args.at in
    let window = take 9 (drop at bytes) in
    let one : at + 1 - at ≡ 1 = omega arith in
    let some : 0 < length window = omega (arith, length-take 9 (drop at bytes), length-drop at bytes, c.requires.within) in
    let here : at + 0 ≡ at = omega arith in
    let byte : get_or window 0 0 ≡ get_or bytes at 0 = byte_behind bytes at 9 0 (omega arith) ∙ ap (λ k. get_or bytes k 0) here in
    let low = c.requires.longer in
    let fits : SFits w64 c.group_number-number.result = search rules in (
      omega arith,
      rw (one, to_z-of_z w64 c.group_number-number.result fits) (c.group_number-number.ensures ∙ first_under c.args.negative window (get_or bytes at 0) some low byte),
      λ k p. let zero_k : k ≡ 0 = omega arith in rw (zero_k, byte) low,
    )

pub overflow_mul-result : goal.overflow_mul-result
overflow_mul-result c =
    let rest = drop c.args.at c.args.bytes.now in
    let long = length-take 9 rest in let left = length-drop c.args.at c.args.bytes.now in let end = c.min-end.ensures in let test = c.loop-i-test.true in
    let after = c.loop-i.invariant.0 in
    under_fits c.args.negative (c.loop-i.i - c.args.at) _ _ (omega arith) (front_bound 9 (c.loop-i.i - c.args.at) rest (omega arith)) c.loop-i.invariant.1

pub overflow_mul-number : goal.overflow_mul-number
overflow_mul-number c =
    let rest = drop c.args.at c.args.bytes.now in
    let long = length-take 9 rest in let left = length-drop c.args.at c.args.bytes.now in let end = c.min-end.ensures in let test = c.loop-i-test.true in
    let after = c.loop-i.invariant.0 in
    under_fits c.args.negative (c.loop-i.i - c.args.at) _ _ (omega arith) (front_bound 9 (c.loop-i.i - c.args.at) rest (omega arith)) c.loop-i.invariant.1

pub returns-then-byte-ge-STOP_BIT : goal.returns-then-byte-ge-STOP_BIT
returns-then-byte-ge-STOP_BIT c =
    let bytes = c.args.bytes.now in let at = c.args.at in let j = c.loop-i.i - at in
    let rest = drop at bytes in let window = take 9 rest in
    let long = length-take 9 rest in let left = length-drop at bytes in let end = c.min-end.ensures in let test = c.loop-i-test.true in
    let after = c.loop-i.invariant.0 in
    let here : at + j ≡ c.loop-i.i = omega arith in
    let next : at + j + 1 ≡ c.loop-i.i + 1 = omega arith in
    let few : j ≤ 8 = omega arith in
    let byte : get_or window j 0 ≡ get_or bytes c.loop-i.i 0 = byte_behind bytes at 9 j (omega arith) ∙ ap (λ k. get_or bytes k 0) here in
    let fits = (c.type_inv.bytes c.loop-i.i).fits in let high = c.if-byte-ge-STOP_BIT.true in
    let group = get_or bytes c.loop-i.i 0 - 128 in
    let low : group ≡ get_or window j 0 % 128 = omega arith in
    let count : c.loop-i.i + 1 - at ≡ j + 1 = omega arith in
    record {
      spelled = unsigned_of (take j window) * 128 + group;
      short = rw (← next) (short_found bytes at 9 j (unsigned_of (take j window)) group (λ k. omega (arith, c.type_inv.bytes k)) (omega arith) refl low
          (record { within = omega arith; stop = omega arith; before = c.loop-i.invariant.2 }));
      value = rw count (step_is c.args.negative j (unsigned_of (take j window)) group _ c.from.result few (front_bound 9 j rest (omega arith)) (omega arith) c.loop-i.invariant.1 c.from.ensures);
    }

pub loop-i-preserved : goal.loop-i-preserved
loop-i-preserved c =
    let bytes = c.args.bytes.now in let at = c.args.at in let j = c.loop-i.i - at in
    let rest = drop at bytes in let window = take 9 rest in
    let long = length-take 9 rest in let left = length-drop at bytes in let end = c.min-end.ensures in let test = c.loop-i-test.true in
    let after = c.loop-i.invariant.0 in
    let here : at + j ≡ c.loop-i.i = omega arith in
    let count : c.loop-i.i + 1 - at ≡ j + 1 = omega arith in
    let few : j ≤ 8 = omega arith in
    let byte : get_or window j 0 ≡ get_or bytes c.loop-i.i 0 = byte_behind bytes at 9 j (omega arith) ∙ ap (λ k. get_or bytes k 0) here in
    let low = c.if-byte-ge-STOP_BIT.false in
    let group : get_or bytes c.loop-i.i 0 ≡ get_or window j 0 % 128 = omega arith in (
      omega arith,
      rw count (step_is c.args.negative j (unsigned_of (take j window)) (get_or bytes c.loop-i.i 0) _ c.from-in-loop-i.result few (front_bound 9 j rest (omega arith)) low c.loop-i.invariant.1 c.from-in-loop-i.ensures
          ∙ ap (under_sign c.args.negative (j + 1)) (value_more window j (unsigned_of (take j window)) (get_or bytes c.loop-i.i 0) (omega arith) refl group)),
      rw count (below_more _ _ c.loop-i.invariant.2 (omega arith)),
    )

pub returns : goal.returns
returns c =
    let end = c.min-end.ensures in let test = c.loop-i-test.false in let after = c.loop-i.invariant.0 in
    λ k h. c.loop-i.invariant.2 k (omega (arith, length-take 9 (drop c.args.at c.args.bytes.now), length-drop c.args.at c.args.bytes.now))
