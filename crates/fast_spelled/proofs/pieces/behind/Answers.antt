use Rattle.std.proofs.Common.{◌-◌, ◌≤◌, ◌++◌, length, drop, sym, ap, ◌∙◌, arith}
use Rattle.std.proofs.lemmas.List.{length-drop, take_all}
use Rattle.std.proofs.lemmas.Slice.Eq.{starts_is}
use Rattle.std.specs.Cmp.{unsigned_Decides}
use Rattle.fast_spelled.proofs.pieces.behind.Goals as goal

pub returns-then-starts_with : goal.returns-then-starts_with
returns-then-starts_with c =
    let bytes = c.args.bytes.now in
    let text = c.args.text.now in
    let many : length (drop (length text) bytes) ≤ length bytes - length text = omega (arith, length-drop (length text) bytes) in
    (starts_is unsigned_Decides bytes text c.starts_with.result c.starts_with.ensures.value).0 c.if-starts_with.true
    ∙ ap (λ l. text ++ l) (sym (take_all (length bytes - length text) (drop (length text) bytes) many))
