use Rattle.fast_dictionary.proofs.Common.{sym, ap, ◌∙◌, refl, is_some, true≢false, entry_at, set_entry}
use Rattle.fast_dictionary.proofs.OrderedMaps.{entry_or, entry_is, insert_is}
use Rattle.fast_dictionary.proofs.map.MapEntriesEntries.entry_mut.Goals as goal

pub returns-in-Err : goal.returns-in-Err
returns-in-Err c = (
  (refl, λ w is. absurd (true≢false (sym is)), (c.hold.ensures.same ∙ c.self.view_is, refl)),
  record {
    writes_back = tt;
    value = tt;
    refused = ap (λ d. entry_at d c.args.key.now) (sym c.self.view_is) ∙ entry_is c.self.inside.entries.entries c.args.key.now ∙ ap entry_or c.in-Err.ensures.refused;
    granted = refl;
  },
)

pub returns-in-Some : goal.returns-in-Some
returns-in-Some c =
    let same = c.hold.ensures.same ∙ c.self.view_is in (
      (refl, λ w is. (insert_is c.hold.new.entries (c.get_mut.follows.lender w) c.args.key.now w ((c.get_mut.follows.holds w).3 (sym (ap is_some c.in-Some.ensures.value))) ∙ ap (λ d. set_entry d c.args.key.now w) same, refl), tt),
      record {
        writes_back = tt;
        value = ap entry_or c.in-Some.ensures.value ∙ sym (entry_is c.hold.new.entries.entries c.args.key.now) ∙ ap (λ d. entry_at d c.args.key.now) same;
        refused = tt;
        granted = tt;
      },
    )
