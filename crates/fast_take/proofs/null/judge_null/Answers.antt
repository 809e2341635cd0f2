use Rattle.fast_take.proofs.Common.{rules, ◌≡◌, ◌+◌, ℕ, [], ◌∷◌, Some, ap, ◌∙◌, arith, Optional, true, false}
use Rattle.fast_take.proofs.NullRelaying.{null_byte, null_judged}
use Rattle.fast_take.proofs.Ranges.{byte_range, range_none}
use Rattle.fast_take.proofs.null.judge_null.Goals as goal
use Rattle.fast_take.proofs.null.judge_null.Goals.{then-bit, else-bit}

pub returns-clause-judged : goal.returns-clause-judged
returns-clause-judged c =
    let i = c.args.instr.now in
    let bytes = c.args.bytes.now in
    let at = c.args.at in
    let there = c.begins_with_null.ensures.within c.if-not-begins_with_null.false in
    let null = c.begins_with_null.ensures.null c.if-not-begins_with_null.false in
    let found = c.in_ok-bit.ensures in
    let optional : i.presence ≡ Optional = search rules in
    elim c.if-bit.branch [
      | then-bit w ↦
          let sent = byte_range bytes at there ∙ ap (λ (x : ℕ). x ∷ []) (null_byte bytes at there null) in
          rw (w.if-bit.true, w.first-is, w.entry-is)
          (null_judged true i c.args.entry.now w.keep_absent.new.entry bytes at at there null optional (λ none. absurd cc) (record { entry = w.keep_absent.ensures; left_out = rw w.if-bit.true at found.bit }) (omega arith) sent)
      | else-bit w ↦
          let whole = found.operator (ap (λ b. Some b) w.if-bit.false) in
          rw (w.if-bit.false, w.first-is, w.entry-is)
          (null_judged false i c.args.entry.now c.args.entry.now bytes at (at + 1) there null optional (λ _. whole) (rw w.if-bit.false at found.bit) (omega arith) (range_none bytes (at + 1)))
    ]
