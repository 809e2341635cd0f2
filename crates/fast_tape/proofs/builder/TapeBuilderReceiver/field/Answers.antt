use Rattle.std.proofs.Common.{Result, Ok, Err, IfOk}
use Rattle.fast_tape.proofs.Building.{has_passed, quiet}
use Rattle.fast_tape.proofs.builder.TapeBuilderReceiver.field.Goals as goal

if_came : {A E : Type 0} {P Q : A → Type 0} (r : Result A E) → ((x : A) → P x → Q x) → IfOk r P → IfOk r Q
if_came (Ok x) f p = f x p
if_came (Err e) f p = tt

pub returns-clause-goes : goal.returns-clause-goes
returns-clause-goes g c = if_came c.tell.result
    (λ n told. (told.0, told.1, λ number is o next first has. record { before = has.before; inside = has_passed o is told.0 (quiet next) told.2 has.inside; exponent = tt })) c.tell.ensures.told
