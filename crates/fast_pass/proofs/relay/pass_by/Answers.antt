use Rattle.fast_pass.proofs.Common.{Appends-kept}
use Rattle.fast_pass.proofs.Relayings.{passes_front}
use Rattle.fast_pass.proofs.relay.pass_by.Goals as goal

pub returns-in-Err-clause-answer : goal.returns-in-Err-clause-answer
returns-in-Err-clause-answer g c = let r = c.in-Ok.ensures.answer in (r.0, r.1, r.2, r.3, passes_front _ _ _ _ c.in-Err.ensures.bytes r.4, tt)

pub returns-then-receiver_refused-clause-answer : goal.returns-then-receiver_refused-clause-answer
returns-then-receiver_refused-clause-answer g c = let r = c.in-Ok.ensures.answer in (r.0, r.1, r.2, r.3, passes_front _ _ _ _ c.in-Ok-flush.ensures.bytes r.4, tt)

pub returns-else-receiver_refused-clause-answer : goal.returns-else-receiver_refused-clause-answer
returns-else-receiver_refused-clause-answer g c =
    let r = rw (c.in-Some.is) at c.in-Ok.ensures.answer in
    let p = r.4 in
    (r.0, r.1, r.2, r.3, record { messages = p.messages; out = p.out; refuses = p.refuses; made = p.made; written = Appends-kept _ _ _ p.out p.written c.in-Ok-flush.ensures.bytes }, r.5)
