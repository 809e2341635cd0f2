use Rattle.fast_wire.proofs.Common.{◌≡◌, ℕ, Option, Some, None, MatchOption, false, arith, rules, get_or_default, is_some}
use Rattle.fast_wire.proofs.ascii.check_characters.Goals as goal

pub returns-then-is_some : goal.returns-then-is_some
returns-then-is_some c = search rules

none_found : (P : Type 0) (Q : ℕ → Type 0) (found : Option ℕ) → MatchOption found P Q → is_some found ≡ false → P
none_found P Q None h e = h
none_found P Q (Some i) h e = absurd cc

pub returns : goal.returns
returns c =
    let free = none_found _ _ c.find_stop.result c.find_stop.ensures (search rules) in
    (λ k d within. rw (get_or_default c.args.text.now k d 0 within) (free k within), omega arith)
