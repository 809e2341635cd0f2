use Rattle.std.proofs.Common.{rules}
use Rattle.fast_build.proofs.load.TemplateSetLoad.from_json.Goals as goal

pub returns-clause-read : goal.returns-clause-read
returns-clause-read c = λ d utf8 is. let read = c.templates_in_text.ensures.read d utf8 is in search (rules, read) depth 3
