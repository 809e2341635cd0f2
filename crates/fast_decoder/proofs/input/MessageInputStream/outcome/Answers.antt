use Rattle.std.proofs.Common.{[], arith, append-nil}
use Rattle.fast_machine.proofs.Inputs.{refused_by_turns}
use Rattle.fast_decoder.proofs.input.MessageInputStream.outcome.Goals as goal

pub returns-in-End-clause-tells : goal.returns-in-End-clause-tells
returns-in-End-clause-tells g c = λ bytes answered stands. (stands, rw (c.in-End.is, c.requires.none, append-nil answered) at stands)

pub returns-in-Fault-clause-tells : goal.returns-in-Fault-clause-tells
returns-in-Fault-clause-tells g c = λ bytes answered stands. (stands, rw (c.in-Fault.is, c.requires.none, append-nil answered) at stands)

pub returns-in-Open-clause-tells : goal.returns-in-Open-clause-tells
returns-in-Open-clause-tells g c = λ bytes answered stands.
    let old = c.args.self.now in
    let at = rw (c.in-Open.is, c.requires.none, append-nil answered) at stands in
    let cut = c.cut-fault.ensures.place at.0.goes_on [] bytes answered at.0.follows in
    let refused = refused_by_turns c.cut-fault.result _ _ old.turns (g.R.ByteInput.left old.reader) _ _ c.cut-fault.ensures.cause cut (omega (arith, c.requires.used_up c.in-Open.is)) in
    rw (c.cut-fault.ensures.same.set, c.cut-fault.ensures.same.mode, c.requires.none, append-nil answered) (refused, refused)
