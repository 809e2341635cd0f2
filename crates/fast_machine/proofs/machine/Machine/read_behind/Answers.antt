use Rattle.fast_machine.proofs.Common.{◌≡◌, ◌++◌, ℕ, List, [], Option, Some, None, length, ap, sym, subst, arith, rules, append-nil, nil_from_length, exit_is, ReadsNext, IfNone, want_of_bytes}
use Rattle.fast_machine.proofs.Calls.{follows_without_memory}
use Rattle.fast_machine.proofs.machine.Machine.read_behind.Goals as goal

pub returns-in-Err-clause-reads : goal.returns-in-Err-clause-reads
returns-in-Err-clause-reads g c =
    let r = c.refuse.ensures in (
      r.keeps.kept,
      (λ e. want_of_bytes c.refuse.result.cause e r.fault.cause_is),
      λ before fed messages short counts stands. (
        [],
        rw (append-nil before, append-nil messages)
            (follows_without_memory r.fault r.keeps before (c.args.self.now.held.items ++ c.args.chunk.now) fed messages (omega (arith, short)) counts stands),
      ),
    )

pub returns-then-is_empty-clause-reads : goal.returns-then-is_empty-clause-reads
returns-then-is_empty-clause-reads g c =
    let old = c.args.self.now in
    let zero : length old.held.items ≡ 0 = search rules in
    let all = ap (λ (xs : List ℕ). xs ++ c.args.chunk.now) (nil_from_length old.held.items zero) in
    subst (λ (xs : List ℕ). ReadsNext old.framing old xs c.read.result c.read.new.self) (sym all) c.read.ensures.reads

pub returns-in_err-next-in-Ok-clause-reads : goal.returns-in_err-next-in-Ok-clause-reads
returns-in_err-next-in-Ok-clause-reads g c =
    rw (exit_is c.from_residual.result c.from_residual.ensures.1) (rw (c.deref.ensures.value, c.in-Ok.ensures.items, c.replace-bytes.ensures.value) at c.in_err-next-in-Ok.ensures.reads)

then_none : {A B : Type 0} (place : Option ℕ) → (A → B) → IfNone place A → IfNone place B
then_none None f a = f a
then_none (Some n) f a = tt

pub returns-in_ok-next-in-Ok-clause-reads : goal.returns-in_ok-next-in-Ok-clause-reads
returns-in_ok-next-in-Ok-clause-reads g c =
    let reads = rw (c.deref.ensures.value, c.in-Ok.ensures.items, c.replace-bytes.ensures.value) at c.in_ok-next-in-Ok.ensures.reads in (
      reads.0,
      then_none c.in_ok-next-in-Ok.next (λ w. (
        w.0,
        λ before fed messages short counts stands.
            let f = w.1 before fed messages short counts stands in
            (f.0, record { at = rw c.hold_in.ensures f.1.at; counts = f.1.counts }),
      )) reads.1,
    )
