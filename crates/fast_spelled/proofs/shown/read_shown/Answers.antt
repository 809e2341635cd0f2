use Rattle.std.proofs.Common.{◌≡◌, ◌∷◌, rules}
use Rattle.fast_spelled.proofs.shown.read_shown.Goals as goal

pub returns : goal.returns
returns c =
    let first : c.args.line.now ≡ 123 ∷ c.in_ok-left.left.now = search rules in
    rw first c.read_named.ensures
