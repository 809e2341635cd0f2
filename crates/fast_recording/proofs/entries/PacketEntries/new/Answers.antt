use Rattle.std.specs.Cmp.{eq_by_cmp_equiv}
use Rattle.std.proofs.lemmas.Map.Views.{list_any-from_Contains}
use Rattle.fast_value.specs.Key.{key_cmp-total}
use Rattle.fast_template.specs.TemplateSets.{keys_in}
use Rattle.fast_dictionary.proofs.SlotMaps.{are_below, have_own_slots, undefined_is_empty}
use Rattle.fast_recording.proofs.entries.PacketEntries.new.Goals as goal

pub invariant_of-result-clause-below : goal.invariant_of-result-clause-below
invariant_of-result-clause-below c = are_below c.args.set.now c.slots-slots.ensures.sound

pub invariant_of-result-clause-own_slots : goal.invariant_of-result-clause-own_slots
invariant_of-result-clause-own_slots c = have_own_slots c.args.set.now c.slots-slots.ensures.sound

pub invariant_of-result-clause-noted : goal.invariant_of-result-clause-noted
invariant_of-result-clause-noted c = λ n none. c.loop.invariant.1 n

pub returns-clause-empty : goal.returns-clause-empty
returns-clause-empty c = undefined_is_empty c.args.set.now c.loop.entries.items c.loop.invariant.1

pub returns-clause-serves_all : goal.returns-clause-serves_all
returns-clause-serves_all c = λ k found. list_any-from_Contains (eq_by_cmp_equiv key_cmp-total) k (keys_in c.args.set.now) found
