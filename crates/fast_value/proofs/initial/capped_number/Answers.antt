use Rattle.fast_value.proofs.Common.{◌≡◌, ◌<◌, ◌+◌, ◌-◌, ◌*◌, ◌^◌, rules, length, drop, min, fold, get_or, sym, ap, ◌∙◌, drop_more}
use Rattle.fast_value.proofs.NumberLaws.{capped_fold}
use Rattle.fast_value.proofs.initial.capped_number.Goals as goal

pub loop-digit-preserved : goal.loop-digit-preserved
loop-digit-preserved c =
    let within : c.loop-digit.digit-index < length c.args.digits.now = search rules in
    let next : c.min-number.result ≡ min (10 * c.loop-digit.number + (get_or c.args.digits.now c.loop-digit.digit-index 0 - 48)) (2 ^ 64) = search rules in (
      ap (λ n. min (fold (λ n d. 10 * n + (d - 48)) n (drop (c.loop-digit.digit-index + 1) c.args.digits.now)) (2 ^ 64)) next
          ∙ capped_fold (drop (c.loop-digit.digit-index + 1) c.args.digits.now) (10 * c.loop-digit.number + (get_or c.args.digits.now c.loop-digit.digit-index 0 - 48))
          ∙ ap (λ ds. min (fold (λ n d. 10 * n + (d - 48)) c.loop-digit.number ds) (2 ^ 64)) (sym (drop_more c.args.digits.now c.loop-digit.digit-index 0 within))
          ∙ c.loop-digit.invariant.0,
      search rules,
    )
