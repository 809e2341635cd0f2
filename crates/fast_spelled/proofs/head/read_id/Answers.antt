use Rattle.std.proofs.Common.{ap, ◌∙◌, ◌∷◌, Some}
use Rattle.json.specs.Reads.{token_of}
use Rattle.fast_spelled.proofs.Heads.{reads_null, reads_number}
use Rattle.fast_spelled.proofs.head.read_id.Goals as goal

pub returns-in-Some-Number-clause-read : goal.returns-in-Some-Number-clause-read
returns-in-Some-Number-clause-read c = λ j rest e.
    let x = reads_number j rest c.args.reader.now c.next.new.self c.in-Some-Number.digits.now e (c.in-Some-Number.ensures.value ∙ ap (λ t. token_of t ∷ c.next.new.self) c.in-Some-Number.field-0-is) in
    (ap Some x.0, x.1)

pub returns-in-Some-Null-clause-read : goal.returns-in-Some-Null-clause-read
returns-in-Some-Null-clause-read c = λ j rest e.
    let x = reads_null j rest c.args.reader.now c.next.new.self e (c.in-Some-Null.ensures.value ∙ ap (λ t. token_of t ∷ c.next.new.self) c.in-Some-Null.field-0-is) in
    (ap Some x.0, x.1)
