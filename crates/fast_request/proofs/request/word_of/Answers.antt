use Rattle.fast_request.proofs.Common.{◌∙◌, found_of, first_value-rows}
use Rattle.fast_request.proofs.request.word_of.Goals as goal

pub returns : goal.returns
returns c = c.get_str.ensures ∙ first_value-rows (found_of c.args.matches.now) c.args.id.now
