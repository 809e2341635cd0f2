use Rattle.std.proofs.Common.{ap, ◌∙◌}
use Rattle.serde_json.specs.Find.{get}
use Rattle.fast_written.specs.JsonData.{data_in}
use Rattle.fast_written.proofs.DataLaws.{looked_up, smaller_of}
use Rattle.fast_written.proofs.data.member.Goals as goal

pub returns-clause-value : goal.returns-clause-value
returns-clause-value c = looked_up c.get.result c.text_of_word.result.now c.args.object.now c.get.ensures ∙ ap (λ name. get name (data_in c.args.object.now)) c.text_of_word.ensures

pub returns-clause-smaller : goal.returns-clause-smaller
returns-clause-smaller c = smaller_of c.get.result c.text_of_word.result.now c.args.object.now c.get.ensures
