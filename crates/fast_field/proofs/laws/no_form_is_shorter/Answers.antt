use Rattle.fast_field.proofs.BestValues.{none_shorter}
use Rattle.fast_field.proofs.OneBest.{shortest_are_one}
use Rattle.fast_field.proofs.laws.no_form_is_shorter.Goals as goal

pub returns : goal.returns
returns c = record { least = none_shorter; same = shortest_are_one }
