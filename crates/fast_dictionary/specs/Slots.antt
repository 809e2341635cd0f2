-- Entries by the slots of a set's keys.
-- Own: the standard says which entries there are, not how they are kept.
use Rattle.std.specs.Prelude.{◌≡◌, ◌<◌, ℕ, Bool, IsTrue, List, map, slice_index_or}
use Rattle.std.specs.List.{list_any}
use Rattle.std.specs.Ordering.{eq_by_cmp}
use Rattle.fast_value.specs.Key.{key_cmp}
use Rattle.fast_value.specs.declared.key.Key.{Key}
use Rattle.fast_template.specs.TemplateSets.{TemplateList, keys_in}
use Rattle.fast_dictionary.specs.declared.entry.Entry.{Entry}
use Rattle.fast_dictionary.specs.declared.entry.Entry.TheVariants.{Undefined}
use Rattle.fast_dictionary.specs.Dictionary.{Dictionary, from_pairs}

-- a key of the set
abbrev pub is_key_in : TemplateList → Key → Bool
is_key_in set k = list_any (eq_by_cmp key_cmp k) (keys_in set)

-- each key with the entry in its slot
abbrev pub pairs_in : List Key → List Entry → List (Key × Entry)
pairs_in keys entries = map (λ k. (k, slice_index_or entries k.slot Undefined)) keys

-- what entries by slots are to callers: under each key of the set, the entry in its slot
abbrev pub dictionary_in : TemplateList → List Entry → Dictionary
dictionary_in set entries = from_pairs (pairs_in (keys_in set) entries)

-- Each key of the set has a slot below their number, and no other key of the set has it.
abbrev pub AreBelow : TemplateList → Type 0
AreBelow set = (k : Key) → IsTrue (is_key_in set k) → k.slot < set.slots

abbrev pub HaveOwnSlots : TemplateList → Type 0
HaveOwnSlots set = (k l : Key) → IsTrue (is_key_in set k) → IsTrue (is_key_in set l) → k.slot ≡ l.slot → IsTrue (eq_by_cmp key_cmp k l)

-- every slot has an undefined entry
abbrev pub AllUndefined : List Entry → Type 0
AllUndefined entries = (n : ℕ) → slice_index_or entries n Undefined ≡ Undefined
