use Rattle.std.proofs.Common.{◌≡◌, ◌-◌, ◌∙◌, ap, length, rules, vec_len}
use Rattle.std.proofs.Math.ListN.{set}
use Rattle.fast_tape.proofs.Lying.{counted}
use Rattle.fast_tape.proofs.open.count_own.Goals as goal

pub returns : goal.returns
returns c = λ before own header is at.
    let many : c.in-Ok.own ≡ length c.args.nodes.now.items - c.args.start - 1 = c.in-Ok.ensures.1 ∙ ap (λ n. n - c.args.start - 1) (c.len-count.ensures ∙ (let same : vec_len c.args.nodes.now ≡ length c.args.nodes.now.items = search rules in same)) in
    ap (set c.args.nodes.now.items c.args.start) c.with_length.ensures
    ∙ counted c.args.nodes.now.items c.args.start c.in-Ok.own c.index.result.now c.index.ensures many before own header is at
