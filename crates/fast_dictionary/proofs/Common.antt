-- What the proofs of this crate cite from elsewhere, passed on from one place. Declares nothing.
pub use Rattle.std.proofs.Common.{Bool, Contains, IsTrue, List, None, Option, Some, [], ap, arith, cond, false, is_some, length, refl, rules, slice_index_or, slice_set, suc, sym, true, true≢false, unwrap_or, vec_len, zero, ℕ, ◌++◌, ◌<◌, ◌||◌, ◌∙◌, ◌∷◌, ◌≡◌, ◌≢◌}
pub use Rattle.std.proofs.lemmas.Grind.{common_steps}
pub use Rattle.std.proofs.lemmas.List.{get_or-set_other, get_or-set_same, get_or_default}
pub use Rattle.std.proofs.lemmas.Map.Views.{Contains-from_any, list_any-from_Contains}
pub use Rattle.std.specs.BTreeMap.{BTreeMap, Updates, is_at}
pub use Rattle.std.specs.Cmp.{Equal-is, eq_by_cmp_equiv, tied_itself}
pub use Rattle.std.specs.List.{list_any}
pub use Rattle.std.specs.Map.{lookup}
pub use Rattle.std.specs.Ordering.{eq_by_cmp, is_eq}
pub use Rattle.std.specs.declared.cmp.Ordering.{Ordering}
pub use Rattle.std.specs.declared.cmp.Ordering.TheVariants.{Equal, Greater, Less}
pub use Rattle.fast_value.specs.Key.{key_cmp, key_cmp-exact, key_cmp-total}
pub use Rattle.fast_value.specs.declared.key.Key.{Key}
pub use Rattle.fast_template.proofs.SlotLaws.{same_slot_same_key}
pub use Rattle.fast_template.specs.TemplateSets.{IsSound, TemplateList, keys_in}
pub use Rattle.fast_dictionary.specs.Dictionary.{Dictionary, entry_at, entry_at-empty, entry_at-set_entry, from_pairs, same_dictionary, set_entry, set_entry-there}
pub use Rattle.fast_dictionary.specs.Slots.{AllUndefined, AreBelow, HaveOwnSlots, dictionary_in, is_key_in, pairs_in}
pub use Rattle.fast_dictionary.specs.declared.entry.Entry.{Entry}
pub use Rattle.fast_dictionary.specs.declared.entry.Entry.TheVariants.{Undefined}
