use Rattle.fast_machine.proofs.Common.{ap, inl, refl, arith, templates_in, mode_of, want_of_bytes}
use Rattle.fast_machine.proofs.Followings.{cut_between}
use Rattle.fast_machine.proofs.machine.Machine.cut.Goals as goal

pub returns-in-Ok-clause-place : goal.returns-in-Ok-clause-place
returns-in-Ok-clause-place g c = λ none before fed messages follows.
    let old = c.args.self.now in
    let ok = c.in-Ok.ensures.ok in
    cut_between (mode_of old) (templates_in old.traversal.set.now) fed messages old.fed old.messages (record { message = c.saturating_add.result; offset = c.finish.new.self.fed; template = 0; instruction = 0 }) follows.counts old.short (ok.1 before fed messages follows)
    (λ small. omega (arith, c.saturating_add.ensures, ap (λ d. d.messages) ok.0, small)) c.in-Ok.ensures.fed refl refl

pub returns-in-Err-clause-place : goal.returns-in-Err-clause-place
returns-in-Err-clause-place g c = λ none before fed messages follows.
    let e = c.in-Err.ensures in
    let t = e.truncated none in
    let r = (rw (e.answer, e.same.set, e.same.mode) at (t.1 before fed messages follows).at).0 in
    record { carried = r.0; behind = r.1; at = inl (rw (t.0) at (r.2 (want_of_bytes c.in-Err.fault.cause t.0))) }
