use Rattle.fast_take.proofs.Common.{◌≡◌, ◌+◌, ◌∷◌, ◌∙◌, ap, drop, slice_range, arith, ℕ, drop_more, drop_split}
use Rattle.fast_take.proofs.PlainTexts.{behind_zero}
use Rattle.fast_take.proofs.characters.find_behind_zero.Goals as goal

pub returns-in_ok-plain_ascii_end-clause-plain : goal.returns-in_ok-plain_ascii_end-clause-plain
returns-in_ok-plain_ascii_end-clause-plain c =
    let bytes = c.args.bytes.now in
    let at = c.args.at in
    let next = c.in_ok-plain_ascii_end.field-0 in
    let parts : drop at bytes ≡ 0 ∷ drop (at + 1) bytes = drop_more bytes at 0 c.if-at-bytes.true ∙ ap (λ (x : ℕ). x ∷ drop (at + 1) bytes) c.if-bytes-at-eq0.true in
    rw parts (behind_zero (drop (at + 1) bytes) (slice_range bytes (at + 1) next) (drop next bytes) (drop_split bytes (at + 1) next (omega (arith, c.in_ok-plain_ascii_end.ensures.place))) c.in_ok-plain_ascii_end.ensures.plain)
