use Rattle.std.proofs.Common.{subst}
use Rattle.fast_stream.proofs.Causes.{IsOfBytes, of_mode}
use Rattle.fast_stream.proofs.laws.faults_are_of_bytes.Goals as goal

pub returns : goal.returns
returns c = λ mode set stream place cause h. let of_bytes = of_mode mode set stream place cause h in (λ e. subst (IsOfBytes mode.level) e of_bytes, λ e. subst (IsOfBytes mode.level) e of_bytes)
