use Rattle.fast_template.proofs.SlotLaws.{same_slot_same_key}
use Rattle.fast_template.proofs.laws.a_slot_has_one_key.Goals as goal

pub returns : goal.returns
returns c = same_slot_same_key
