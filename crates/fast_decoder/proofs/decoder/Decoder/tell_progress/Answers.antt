use Rattle.fast_decoder.proofs.Common.{[]}
use Rattle.fast_decoder.proofs.decoder.Decoder.tell_progress.Goals as goal

pub returns-clause-unended : goal.returns-clause-unended
returns-clause-unended g c = λ none fed messages follows. c.tell_progress.ensures.unended none [] fed messages follows

pub returns-clause-refused : goal.returns-clause-refused
returns-clause-refused g c = λ fault is fed messages follows. c.tell_progress.ensures.refused fault is [] fed messages follows
