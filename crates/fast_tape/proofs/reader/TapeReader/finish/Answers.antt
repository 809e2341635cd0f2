use Rattle.std.proofs.Common.{ap}
use Rattle.fast_tape.proofs.reader.TapeReader.finish.Goals as goal

pub returns-in-Ok-clause-ok : goal.returns-in-Ok-clause-ok
returns-in-Ok-clause-ok g c =
    let ok = c.in-Ok.ensures.ok in
    (ap (λ m. record { machine = m }) ok.0, λ fed messages waiting follows. ok.1 waiting fed messages follows)
