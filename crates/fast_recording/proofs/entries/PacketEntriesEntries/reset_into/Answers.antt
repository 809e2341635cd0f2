use Rattle.fast_dictionary.proofs.SlotMaps.{undefined_is_empty}
use Rattle.fast_recording.proofs.entries.PacketEntriesEntries.reset_into.Goals as goal

pub returns-clause-cleared : goal.returns-clause-cleared
returns-clause-cleared c = undefined_is_empty c.args.self.now.set.now _ c.undefine.ensures.undefined
