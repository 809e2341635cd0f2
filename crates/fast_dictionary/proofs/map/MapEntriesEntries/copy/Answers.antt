use Rattle.fast_dictionary.proofs.Common.{◌≡◌, ◌∷◌, [], ◌++◌, sym, ◌∙◌, ap, Dictionary, from_pairs, set_entry}
use Rattle.fast_dictionary.proofs.OrderedMaps.{onto, onto-append, onto_empty}
use Rattle.fast_dictionary.proofs.map.MapEntriesEntries.copy.Goals as goal

pub loop-key-init : goal.loop-key-init
loop-key-init c =
    let whole : c.into_iter-key-iterator.result.iter ≡ c.self.inside.entries.entries = ap (λ r. r.iter) c.into_iter-key-iterator.ensures.into_iter_gives ∙ c.rev-key-items.ensures.source ∙ c.iter.ensures.rest in
    ap (λ es. onto c.into_iter-key-iterator.result.iter (from_pairs es)) c.new-entries.ensures.empty
    ∙ ap (λ es. onto es (from_pairs [])) whole
    ∙ onto_empty c.self.inside.entries.entries
    ∙ c.self.view_is

pub loop-key-preserved : goal.loop-key-preserved
loop-key-preserved c =
    let before : Dictionary = from_pairs c.loop-key.entries.entries in
    let left : c.loop-key.key-iterator.iter ≡ c.next.new.self.iter ++ (c.in-Some.key.now, c.in-Some.entry.now) ∷ [] = c.in-Some.ensures.steps in
    let done : from_pairs c.set.new.entries.entries ≡ set_entry before c.in-Some.key.now c.in-Some.entry.now =
    c.in_ok-set.ensures.ok ∙ ap (λ k. set_entry before k c.in_ok-entry.entry) c.in_ok-copy.ensures ∙ ap (λ v. set_entry before c.in-Some.key.now v) (c.in_ok-entry.ensures ∙ c.view.ensures) in
    ap (λ m. onto c.next.new.self.iter m) done
    ∙ sym (onto-append c.next.new.self.iter ((c.in-Some.key.now, c.in-Some.entry.now) ∷ []) before)
    ∙ ap (λ es. onto es before) (sym left)
    ∙ c.loop-key.invariant
