use Rattle.std.proofs.Common.{◌≡◌, ◌++◌, codes, decimal, rules, arith, sym, ap, ◌∙◌, append_assoc}
use Rattle.fast_spelled.proofs.shown.read_numbered.Goals as goal

pub returns : goal.returns
returns c =
    let n = c.in_ok-number.number in
    let rest = c.in_ok-left-2.left.now in
    let first : c.args.line.now ≡ codes "{\"packet\":" ++ c.in_ok-left.left.now = search rules in
    record {
      some = omega (arith, c.if-number-eq0.false);
      few = search rules;
      rest = rest;
      is = first ∙ ap (λ l. codes "{\"packet\":" ++ l) (c.in_ok-number.ensures ∙ ap (λ l. decimal n ++ l) c.in_ok-left-2.ensures ∙ sym (append_assoc (decimal n) (codes ",") rest));
      own = c.in_ok-message.ensures;
    }
