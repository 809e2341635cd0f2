use Rattle.fast_machine.proofs.Common.{◌∙◌, ℕ, List, None, Some, drop, length, sym, ap, refl, arith, take_rest, Plain, Content}
use Rattle.fast_machine.proofs.Calls.{Finds, finds_fault, finds_waiting}
use Rattle.fast_machine.proofs.PlainReads.{plain_goes}
use Rattle.fast_machine.proofs.machine.Machine.read_plain.Given as given
use Rattle.fast_machine.proofs.machine.Machine.read_plain.Goals as goal
use Rattle.fast_machine.proofs.machine.Machine.read_plain.Goals.{In-Some}

-- what the read found where it stopped
halted : (g : given.Over) (c : In-Some g) → Finds Plain c.args.self.now c.args.bytes.now c.read_messages-progress.result.messages c.saturating_add-self.result (Some c.in-Some.halt) c.args.self.now.left
    c.read_messages-progress.new.traversal c.read_messages-progress.new.receiver (g.E.Entries.contents c.read_messages-progress.new.entries) (drop c.read_messages-progress.result.at c.args.bytes.now)
halted g c = let p = c.read_messages-progress in plain_goes c.args.self.now c.saturating_add-self.result p.ensures.leaves p.ensures.ended c.saturating_add-self.ensures (Some c.in-Some.halt) c.in-Some.is

pub returns-in-None-clause-reads : goal.returns-in-None-clause-reads
returns-in-None-clause-reads g c = (
  λ before fed messages short counts stands.
      let p = c.read_messages-progress in
      let f = (plain_goes c.args.self.now c.saturating_add-self.result p.ensures.leaves p.ensures.ended c.saturating_add-self.ensures None c.in-None.is).found before fed messages short counts stands in
      let none = (rw (c.in-None.is) at p.ensures.leaves.ends).none in
      (f.ended, f.counts, (λ h. let empty = none (omega (arith, f.number_is, ap (λ (xs : List Content). length xs) h)) in empty.0 ∙ sym empty.1), f.leaves),
  tt,
)

pub returns-in-Truncated-clause-reads : goal.returns-in-Truncated-clause-reads
returns-in-Truncated-clause-reads g c =
    finds_waiting _ (halted g (goal.at.returns-in-Truncated-clause-reads g c).In-Some) c.in-Truncated.is (take_rest c.args.bytes.now c.read_messages-progress.result.at) (rw (c.requires.framing) at c.hold.ensures.follows) c.hold.ensures.answer

pub returns-in_default-clause-reads : goal.returns-in_default-clause-reads
returns-in_default-clause-reads g c =
    finds_fault c.fault_of-fault.result _ (halted g (goal.at.returns-in_default-clause-reads g c).In-Some) (λ e. c.in_default.not-Truncated e) c.fault_of-fault.ensures.cause c.read_messages-progress.ensures.leaves.sound
    (ap (λ (xs : List ℕ). length xs) (sym (take_rest c.args.bytes.now c.read_messages-progress.result.at))) (rw (c.template-template.ensures) at c.fault_of-fault.ensures.refused) refl c.requires.nothing.held c.requires.framing refl refl refl refl
