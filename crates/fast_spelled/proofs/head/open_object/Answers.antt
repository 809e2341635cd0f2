use Rattle.std.proofs.Common.{ap, ◌∙◌, ◌∷◌}
use Rattle.json.specs.Reads.{token_of}
use Rattle.fast_spelled.proofs.Heads.{opens_object}
use Rattle.fast_spelled.proofs.head.open_object.Goals as goal

pub returns-in-Some-BeginObject-clause-read : goal.returns-in-Some-BeginObject-clause-read
returns-in-Some-BeginObject-clause-read c = λ j rest e.
    opens_object j rest c.args.reader.now c.next.new.self e (c.in-Some-BeginObject.ensures.value ∙ ap (λ t. token_of t ∷ c.next.new.self) c.in-Some-BeginObject.field-0-is)
