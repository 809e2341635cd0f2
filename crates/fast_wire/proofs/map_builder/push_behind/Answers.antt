use Rattle.fast_wire.proofs.Common.{◌≡◌, ◌∙◌, ◌-◌, ◌/◌, ◌%◌, ◌^◌, ◌++◌, ◌∷◌, [], nat_eq, refl, ap, arith, is_ok, true, length, length-append, append-nil, sym, rules, word_bits}
use Rattle.fast_wire.proofs.WordForms.{bits_step}
use Rattle.fast_wire.proofs.MarkedWords.{empty_is, kept_long, kept_word}
use Rattle.fast_wire.proofs.map_builder.push_behind.Goals as goal
use Rattle.fast_wire.proofs.map_builder.push_behind.Goals.{then-is_empty+in_ok-reserve+else-loop-left-test, else-is_empty}

pub loop-left-preserved : goal.loop-left-preserved
loop-left-preserved c =
    let ok : is_ok c.push.result ≡ true = rw c.unwrap.ensures refl in
    let grown = rw ok at c.push.ensures.items in
    let left = c.loop-left.left in let w = c.args.word in
    let some = c.loop-left-test.true in
    let inv = c.loop-left.invariant in (
      ap (λ l. l ++ word_bits (left - 1) w) grown ∙ bits_step c.loop-left.long.items left w (omega arith) ∙ inv.0,
      (let cap = c.push.ensures.capacity in let long = ap length grown in omega (arith, cap, long, length-append c.loop-left.long.items (nat_eq (w / 2 ^ (left - 1) % 2) 1 ∷ []))),
    )

pub returns-clause-pushed : goal.returns-clause-pushed
returns-clause-pushed c =
    c.in_ok-push.ensures.items ∙ ap (λ l. l ++ c.args.bit ∷ []) (elim c.if-is_empty.branch [
      | then-is_empty+in_ok-reserve+else-loop-left-test w ↦
          let long : length c.args.long.now.items ≡ 0 = search rules in
          let none : c.args.long.now.items ≡ [] = empty_is c.args.long.now.items long in
          let past = w.loop-left-test.false in
          let last : w.loop-left.left ≡ 0 = omega arith in
          ap (λ v. v.items) w.long-is ∙ sym (append-nil w.loop-left.long.items) ∙ (rw last at w.loop-left.invariant.0)
          ∙ ap (λ n. word_bits n c.args.word) w.marked_count-count.ensures.count ∙ sym (kept_word c.args.long.now.items c.args.word none)
      | else-is_empty w ↦
          let some : length c.args.long.now.items ≡ 0 → ⊥ = search rules in
          ap (λ v. v.items) w.long-is ∙ sym (kept_long c.args.long.now.items c.args.word (λ none. some (ap length none)))
    ])
