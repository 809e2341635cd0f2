use Rattle.fast_machine.proofs.Common.{templates_in, stop_of}
use Rattle.fast_machine.proofs.Followings.{memory_refused, fault_refused}
use Rattle.fast_machine.proofs.machine.calls.fault_of.Goals as goal

pub returns-in-Memory-clause-refused : goal.returns-in-Memory-clause-refused
returns-in-Memory-clause-refused c = λ mode t rest bytes ms sound counts short named left carried stops.
    memory_refused c.fault_at.result mode (templates_in t.set.now) bytes ms c.args.fed c.args.messages counts short carried c.fault_at.ensures

pub returns-in_default : goal.returns-in_default
returns-in_default c =
    let r = c.fault_at-in_default.ensures in
    record {
      cause = r.cause_is;
      refused = λ mode t rest bytes ms sound counts short named left carried stops.
          fault_refused c.fault_at-in_default.result mode (templates_in t.set.now) (stop_of t.template c.args.halt rest) bytes ms c.args.fed c.args.messages sound.typed counts short carried (stops (λ e. c.in_default.not-Memory e))
          (λ e. c.in_default.not-Memory e) (rw (left, named) r);
    }
