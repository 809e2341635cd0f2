use Rattle.std.proofs.Common.{◌≡◌, ◌<◌, rules, length, slice_index_or, refl, sym, ◌∙◌}
use Rattle.std.proofs.lemmas.List.{get_or_default}
use Rattle.fast_dictionary.specs.declared.entry.Entry.TheVariants.{Undefined}
use Rattle.fast_dictionary.proofs.SlotMaps.{under_key, set_in_slot}
use Rattle.fast_recording.proofs.entries.PacketEntriesEntries.entry_mut.Goals as goal

pub returns : goal.returns
returns c =
    let below : c.args.key.now.slot < length c.args.self.now.entries.items = search rules in
    let there : c.index_mut.result.now ≡ slice_index_or c.args.self.now.entries.items c.args.key.now.slot c.index_mut.result.now = search rules in (
      (refl, λ w is. (set_in_slot c.args.self.now.set.now c.args.self.now.entries.items c.args.key.now w c.args.self.now.own_slots below c.requires, refl), tt),
      record {
        writes_back = tt;
        value = there ∙ get_or_default c.args.self.now.entries.items c.args.key.now.slot _ Undefined below ∙ sym (under_key c.args.self.now.set.now c.args.self.now.entries.items c.args.key.now c.requires);
        refused = tt;
        granted = tt;
      },
    )
