use Rattle.fast_dictionary.proofs.Common.{◌≡◌, None, rules, ap, ◌∙◌, lookup, is_at, key_cmp, Undefined, from_pairs, set_entry}
use Rattle.fast_dictionary.proofs.OrderedMaps.{held_is}
use Rattle.fast_dictionary.proofs.map.hold.Goals as goal

pub returns-in_ok-set-clause-same : goal.returns-in_ok-set-clause-same
returns-in_ok-set-clause-same c =
    let none : lookup (is_at (key_cmp c.args.key.now)) c.args.entries.now.entries ≡ None = search rules in
    held_is c.args.entries.now c.args.key.now (from_pairs c.set.new.entries.entries)
    (c.in_ok-set.ensures.ok ∙ ap (λ k. set_entry (from_pairs c.args.entries.now.entries) k Undefined) c.in_ok-copy.ensures)
    none
