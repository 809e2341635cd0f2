use Rattle.fast_nodes.proofs.Common.{rules, ◌≡◌, [], ◌∷◌, ◌++◌, Change}
use Rattle.fast_nodes.proofs.Changes.{value_put}
use Rattle.fast_nodes.proofs.journal.Journal.put.Goals as goal

pub returns : goal.returns
returns g c =
    let change : Change = record { part = c.args.part; before = c.in_ok-before.before } in
    let items : c.push.new.self.items ≡ c.args.self.now.changes.items ++ change ∷ [] = search rules in
    value_put change c.put_value.ensures.same_keys items c.requires.served c.in_ok-before.ensures.put
