use Rattle.fast_dictionary.proofs.Common.{sym, ◌∙◌, ap, entry_at}
use Rattle.fast_dictionary.proofs.OrderedMaps.{entry_or, entry_is}
use Rattle.fast_dictionary.proofs.map.MapEntriesEntries.get.Goals as goal

pub returns-in-None : goal.returns-in-None
returns-in-None c =
    ap entry_or c.in-None.ensures.value
    ∙ sym (entry_is c.self.inside.entries.entries c.args.key.now)
    ∙ ap (λ d. entry_at d c.args.key.now) c.self.view_is

pub returns-in-Some : goal.returns-in-Some
returns-in-Some c =
    c.view.ensures
    ∙ ap entry_or c.in-Some.ensures.value
    ∙ sym (entry_is c.self.inside.entries.entries c.args.key.now)
    ∙ ap (λ d. entry_at d c.args.key.now) c.self.view_is
