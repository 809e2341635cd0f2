use Rattle.std.proofs.Common.{ap, ◌∙◌, ◌∷◌, Some}
use Rattle.json.specs.Reads.{token_of}
use Rattle.fast_spelled.proofs.Heads.{reads_number}
use Rattle.fast_spelled.proofs.head.read_packet.Goals as goal

pub returns-in-Some-Number-clause-read : goal.returns-in-Some-Number-clause-read
returns-in-Some-Number-clause-read c = λ j rest e.
    let x = reads_number j rest c.args.reader.now c.next.new.self c.in-Some-Number.digits.now e (c.in-Some-Number.ensures.value ∙ ap (λ t. token_of t ∷ c.next.new.self) c.in-Some-Number.field-0-is) in
    (c.in-Nothing.is, ap Some x.0, x.1)
