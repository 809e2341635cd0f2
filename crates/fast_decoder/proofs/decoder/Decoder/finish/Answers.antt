use Rattle.fast_decoder.proofs.Common.{[], ap, on_ok_weaker}
use Rattle.fast_decoder.proofs.decoder.Decoder.finish.Goals as goal

pub returns-clause-ok : goal.returns-clause-ok
returns-clause-ok g c =
    on_ok_weaker c.finish.result (λ ok. (ap (λ m. record { machine = m }) ok.0, λ fed messages follows. ok.1 [] fed messages follows)) c.finish.ensures.ok
