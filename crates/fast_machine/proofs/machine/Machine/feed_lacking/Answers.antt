use Rattle.fast_machine.proofs.Common.{inr, arith, all_bytes}
use Rattle.fast_machine.proofs.Calls.{chunk_fed, follows_without_memory}
use Rattle.fast_machine.proofs.Lackings.{still_waits}
use Rattle.fast_machine.proofs.machine.Machine.feed_lacking.Goals as goal

pub returns-in-Err-clause-follows : goal.returns-in-Err-clause-follows
returns-in-Err-clause-follows g c = λ before fed messages follows.
    let f = chunk_fed c.args.self.now c.args.chunk.now c.requires.fault c.requires.size (all_bytes _ (λ k. omega (arith, c.type_inv.chunk k))) before fed messages follows in
    follows_without_memory c.refuse.ensures.fault c.refuse.ensures.keeps before _ _ messages (omega (arith, f.short)) f.counts f.stands

pub returns-in-Ok-clause-follows : goal.returns-in-Ok-clause-follows
returns-in-Ok-clause-follows g c = λ before fed messages follows.
    let old = c.args.self.now in
    let R = g.R.Receiver in
    let f = chunk_fed old c.args.chunk.now c.requires.fault c.requires.size (all_bytes _ (λ k. omega (arith, c.type_inv.chunk k))) before fed messages follows in
    let waits = still_waits R.has R.stands R.keeps old.traversal old.receiver _ before c.args.lack old.framing old.left _ _ messages c.requires.lacks c.requires.room f.stands in
    c.know.ensures.follows before _ messages (record { at = rw (c.requires.fault, c.in-Ok.ensures.items) (f.stands, inr waits); counts = f.counts })
