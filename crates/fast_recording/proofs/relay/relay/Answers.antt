use Rattle.std.proofs.Common.{◌≡◌, ◌++◌, ◌+◌, ◌≤◌, ◌∙◌, List, ℕ, Some, None, arith, drop, take, length, ap, sym, append-nil, append_assoc, take-append-drop}
use Rattle.std.proofs.lemmas.Result.{err_from_is_err_and}
use Rattle.fast_machine.proofs.Inputs.{more_read}
use Rattle.fast_machine.specs.Inputs.{Reads, told_by}
use Rattle.fast_stream.specs.declared.fault.Cause.{Cause}
use Rattle.fast_template.specs.TemplateSets.{templates_in}
use Rattle.fast_machine.proofs.Calls.{same_on}
use Rattle.fast_recording.specs.Made.{WritesMade, numbering_of}
use Rattle.fast_recording.specs.Recorded.{IsUsedUp, by_reader, outputs}
use Rattle.fast_recording.proofs.Flushed.{answers_front, ended_by_bytes, ended_by_reader}
use Rattle.fast_recording.proofs.Readings.{few_read, more_open, one_more, reader_ended, reader_failed}
use Rattle.fast_recording.proofs.Relayed.{breaks_between}
use Rattle.fast_recording.proofs.Untold.{untold_on}
use Rattle.fast_recording.proofs.relay.relay.Goals as goal

pub returns-in_err-ended-clause-answer : goal.returns-in_err-ended-clause-answer
returns-in_err-ended-clause-answer g c =
    let v = c.reads.invariant in
    let m = c.args.manner in
    let set = templates_in c.args.machine.now.traversal.set.now in
    let Writes = WritesMade (numbering_of m.numbered) g.O.PacketOutput.sized g.O.Output.makes set in
    let old = outputs (g.W.ByteOutput.taken c.args.writer.now) (g.T.ByteOutput.taken c.args.teller.now) in
    let front = v.passes.0 in
    let held = c.reads.held.items in
    let p = v.passes.2 in
    let R = g.R.ByteInput in
    let from = told_by R c.args.reader.now in
    let mid = told_by R c.reads.reader in
    let now = told_by R c.read_more.new.reader in
    let one = c.in_err-ended.ensures.reads in
    let got = one.0 in
    let r = more_read from mid now c.reads.reads (front ++ held) got v.passes.1 one.1 in
    let all : Reads from now (c.reads.reads + 1) (front ++ (held ++ got)) = rw (append_assoc front held got) at r in
    let some = c.reads-test.true in
    let bound = few_read front (held ++ got) (c.reads.reads + 1) c.args.turns all.few (omega (arith, some)) c.requires.turns in
    let e = err_from_is_err_and c.from_residual.result c.from_residual.ensures.1 in (
      c.reads.reads + 1,
      front ++ (held ++ got),
      all,
      omega (arith, some),
      rw (e.1) (answers_front m.keep_going m.level set Writes (by_reader (IsUsedUp c.args.turns (c.reads.reads + 1) (front ++ (held ++ got))) from now) c.reads.progress.counts old _ (front ++ (held ++ got)) e.0 (breaks_between m.keep_going m.level set Writes (held ++ got) p)),
    )

pub returns-in-Some-clause-answer : goal.returns-in-Some-clause-answer
returns-in-Some-clause-answer g c =
    let v = c.reads.invariant in
    let m = c.args.manner in
    let set = templates_in c.args.machine.now.traversal.set.now in
    let Writes = WritesMade (numbering_of m.numbered) g.O.PacketOutput.sized g.O.Output.makes set in
    let old = outputs (g.W.ByteOutput.taken c.args.writer.now) (g.T.ByteOutput.taken c.args.teller.now) in
    let front = v.passes.0 in
    let held = c.reads.held.items in
    let p = v.passes.2 in
    let R = g.R.ByteInput in
    let from = told_by R c.args.reader.now in
    let mid = told_by R c.reads.reader in
    let now = told_by R c.read_more.new.reader in
    let one = c.in_ok-ended.ensures.reads in
    let got = one.0 in
    let r = more_read from mid now c.reads.reads (front ++ held) got v.passes.1 one.1 in
    let all : Reads from now (c.reads.reads + 1) (front ++ (held ++ got)) = rw (append_assoc front held got) at r in
    let some = c.reads-test.true in
    let bound = few_read front (held ++ got) (c.reads.reads + 1) c.args.turns all.few (omega (arith, some)) c.requires.turns in
    let on = rw (c.in-Some.is) at c.in_ok-ended.ensures.reads.2 in
    let bytes : c.deref.result.now ≡ held = c.deref.ensures.value ∙ on.1 in
    let none : held ++ got ≡ held = ap (λ (z : List ℕ). held ++ z) on.0 ∙ append-nil held in
    let whole : Reads from now (c.reads.reads + 1) (front ++ c.deref.result.now) = rw (none, ← bytes) at all in
    let bound' = rw (none, ← bytes) at bound in
    let templates = ap (λ x. templates_in x.now) v.same.set in
    let ends = c.end.ensures.ends set old front templates bound' p in (
      c.reads.reads + 1,
      front ++ c.deref.result.now,
      whole,
      omega (arith, some),
      ended_by_reader m.keep_going m.level set Writes (IsUsedUp c.args.turns (c.reads.reads + 1) (front ++ c.deref.result.now)) from now c.in-Some.cause c.end.new.progress.counts old _ (front ++ c.deref.result.now) c.end.result
          (reader_ended from mid now c.in-Some.cause v.still on.2) (reader_failed (IsUsedUp c.args.turns (c.reads.reads + 1) (front ++ c.deref.result.now)) from mid now c.in-Some.cause v.still on.2) ends,
    )

pub returns-in_err-came-clause-answer : goal.returns-in_err-came-clause-answer
returns-in_err-came-clause-answer g c =
    let v = c.reads.invariant in
    let m = c.args.manner in
    let set = templates_in c.args.machine.now.traversal.set.now in
    let Writes = WritesMade (numbering_of m.numbered) g.O.PacketOutput.sized g.O.Output.makes set in
    let old = outputs (g.W.ByteOutput.taken c.args.writer.now) (g.T.ByteOutput.taken c.args.teller.now) in
    let front = v.passes.0 in
    let held = c.reads.held.items in
    let p = v.passes.2 in
    let R = g.R.ByteInput in
    let from = told_by R c.args.reader.now in
    let mid = told_by R c.reads.reader in
    let now = told_by R c.read_more.new.reader in
    let one = c.in_ok-ended.ensures.reads in
    let got = one.0 in
    let r = more_read from mid now c.reads.reads (front ++ held) got v.passes.1 one.1 in
    let all : Reads from now (c.reads.reads + 1) (front ++ (held ++ got)) = rw (append_assoc front held got) at r in
    let some = c.reads-test.true in
    let bound = few_read front (held ++ got) (c.reads.reads + 1) c.args.turns all.few (omega (arith, some)) c.requires.turns in
    let on = rw (c.in-None.is) at c.in_ok-ended.ensures.reads.2 in
    let still = more_open from mid now v.still on.1 in
    let bytes : c.deref-in-reads.result.now ≡ held ++ got = c.deref-in-reads.ensures.value ∙ on.2 in
    let bound' = rw (← bytes) at bound in
    let templates = ap (λ x. templates_in x.now) v.same.set in
    let comes = c.in_err-came.ensures.takes set old front templates bound' p in
    let e = err_from_is_err_and c.from_residual-in_err-came.result c.from_residual-in_err-came.ensures.1 in (
      c.reads.reads + 1,
      front ++ (held ++ got),
      all,
      omega (arith, some),
      rw (e.1) (answers_front m.keep_going m.level set Writes (by_reader (IsUsedUp c.args.turns (c.reads.reads + 1) (front ++ (held ++ got))) from now) c.take_packets.new.progress.counts old _ (front ++ (held ++ got)) e.0 (rw (bytes) at comes)),
    )

pub forget-requires : goal.forget-requires
forget-requires g c =
    let v = c.reads.invariant in
    let m = c.args.manner in
    let set = templates_in c.args.machine.now.traversal.set.now in
    let Writes = WritesMade (numbering_of m.numbered) g.O.PacketOutput.sized g.O.Output.makes set in
    let old = outputs (g.W.ByteOutput.taken c.args.writer.now) (g.T.ByteOutput.taken c.args.teller.now) in
    let front = v.passes.0 in
    let held = c.reads.held.items in
    let p = v.passes.2 in
    let R = g.R.ByteInput in
    let from = told_by R c.args.reader.now in
    let mid = told_by R c.reads.reader in
    let now = told_by R c.read_more.new.reader in
    let one = c.in_ok-ended.ensures.reads in
    let got = one.0 in
    let r = more_read from mid now c.reads.reads (front ++ held) got v.passes.1 one.1 in
    let all : Reads from now (c.reads.reads + 1) (front ++ (held ++ got)) = rw (append_assoc front held got) at r in
    let some = c.reads-test.true in
    let bound = few_read front (held ++ got) (c.reads.reads + 1) c.args.turns all.few (omega (arith, some)) c.requires.turns in
    let on = rw (c.in-None.is) at c.in_ok-ended.ensures.reads.2 in
    let still = more_open from mid now v.still on.1 in
    let bytes : c.deref-in-reads.result.now ≡ held ++ got = c.deref-in-reads.ensures.value ∙ on.2 in
    let bound' = rw (← bytes) at bound in
    let templates = ap (λ x. templates_in x.now) v.same.set in
    let comes = c.in_ok-came.ensures.takes set old front templates bound' p in
    let h = rw (c.in-Open.is) at comes in
    rw (c.deref-in-reads.ensures.value) at h.0

pub reads-preserved : goal.reads-preserved
reads-preserved g c =
    let v = c.reads.invariant in
    let m = c.args.manner in
    let set = templates_in c.args.machine.now.traversal.set.now in
    let Writes = WritesMade (numbering_of m.numbered) g.O.PacketOutput.sized g.O.Output.makes set in
    let old = outputs (g.W.ByteOutput.taken c.args.writer.now) (g.T.ByteOutput.taken c.args.teller.now) in
    let front = v.passes.0 in
    let held = c.reads.held.items in
    let p = v.passes.2 in
    let R = g.R.ByteInput in
    let from = told_by R c.args.reader.now in
    let mid = told_by R c.reads.reader in
    let now = told_by R c.read_more.new.reader in
    let one = c.in_ok-ended.ensures.reads in
    let got = one.0 in
    let r = more_read from mid now c.reads.reads (front ++ held) got v.passes.1 one.1 in
    let all : Reads from now (c.reads.reads + 1) (front ++ (held ++ got)) = rw (append_assoc front held got) at r in
    let some = c.reads-test.true in
    let bound = few_read front (held ++ got) (c.reads.reads + 1) c.args.turns all.few (omega (arith, some)) c.requires.turns in
    let on = rw (c.in-None.is) at c.in_ok-ended.ensures.reads.2 in
    let still = more_open from mid now v.still on.1 in
    let bytes : c.deref-in-reads.result.now ≡ held ++ got = c.deref-in-reads.ensures.value ∙ on.2 in
    let bound' = rw (← bytes) at bound in
    let templates = ap (λ x. templates_in x.now) v.same.set in
    let comes = c.in_ok-came.ensures.takes set old front templates bound' p in
    let h = rw (c.in-Open.is) at comes in
    let e = c.in_ok-came.ensures in
    let at = c.in-Open.at in
    let left : c.forget.new.held.items ≡ drop at c.deref-in-reads.result.now = c.forget.ensures ∙ ap (λ (z : List ℕ). drop at z) (sym c.deref-in-reads.ensures.value) in
    let parts : (front ++ take at c.deref-in-reads.result.now) ++ c.forget.new.held.items ≡ front ++ (held ++ got) =
    ap (λ (z : List ℕ). (front ++ take at c.deref-in-reads.result.now) ++ z) left ∙ append_assoc front (take at c.deref-in-reads.result.now) (drop at c.deref-in-reads.result.now)
    ∙ ap (λ (z : List ℕ). front ++ z) (take-append-drop at c.deref-in-reads.result.now ∙ bytes) in
    record {
      few = omega (arith, some);
      ready = e.ready;
      same = same_on v.same e.same;
      write = e.write ∙ v.write;
      tell = e.tell ∙ v.tell;
      flushes = e.flushes ∙ v.flushes;
      untold = untold_on v.untold e.untold;
      still = still;
      begun = rw (left) h.1;
      passes = (front ++ take at c.deref-in-reads.result.now, rw (parts) all, h.2, rw (parts) (one_more front held got c.reads.reads v.passes.3 on.0));
    }

pub returns-in-End-clause-answer : goal.returns-in-End-clause-answer
returns-in-End-clause-answer g c =
    let v = c.reads.invariant in
    let m = c.args.manner in
    let set = templates_in c.args.machine.now.traversal.set.now in
    let Writes = WritesMade (numbering_of m.numbered) g.O.PacketOutput.sized g.O.Output.makes set in
    let old = outputs (g.W.ByteOutput.taken c.args.writer.now) (g.T.ByteOutput.taken c.args.teller.now) in
    let front = v.passes.0 in
    let held = c.reads.held.items in
    let p = v.passes.2 in
    let R = g.R.ByteInput in
    let from = told_by R c.args.reader.now in
    let mid = told_by R c.reads.reader in
    let now = told_by R c.read_more.new.reader in
    let one = c.in_ok-ended.ensures.reads in
    let got = one.0 in
    let r = more_read from mid now c.reads.reads (front ++ held) got v.passes.1 one.1 in
    let all : Reads from now (c.reads.reads + 1) (front ++ (held ++ got)) = rw (append_assoc front held got) at r in
    let some = c.reads-test.true in
    let bound = few_read front (held ++ got) (c.reads.reads + 1) c.args.turns all.few (omega (arith, some)) c.requires.turns in
    let on = rw (c.in-None.is) at c.in_ok-ended.ensures.reads.2 in
    let still = more_open from mid now v.still on.1 in
    let bytes : c.deref-in-reads.result.now ≡ held ++ got = c.deref-in-reads.ensures.value ∙ on.2 in
    let bound' = rw (← bytes) at bound in
    let templates = ap (λ x. templates_in x.now) v.same.set in
    let comes = c.in_ok-came.ensures.takes set old front templates bound' p in
    let h = rw (c.in-End.is, bytes) at comes in (
      c.reads.reads + 1,
      front ++ (held ++ got),
      all,
      omega (arith, some),
      ended_by_bytes m.keep_going m.level set Writes (IsUsedUp c.args.turns (c.reads.reads + 1) (front ++ (held ++ got))) from now c.take_packets.new.progress.counts old _ (front ++ (held ++ got)) None still h,
    )

pub returns-in-Refused-clause-answer : goal.returns-in-Refused-clause-answer
returns-in-Refused-clause-answer g c =
    let v = c.reads.invariant in
    let m = c.args.manner in
    let set = templates_in c.args.machine.now.traversal.set.now in
    let Writes = WritesMade (numbering_of m.numbered) g.O.PacketOutput.sized g.O.Output.makes set in
    let old = outputs (g.W.ByteOutput.taken c.args.writer.now) (g.T.ByteOutput.taken c.args.teller.now) in
    let front = v.passes.0 in
    let held = c.reads.held.items in
    let p = v.passes.2 in
    let R = g.R.ByteInput in
    let from = told_by R c.args.reader.now in
    let mid = told_by R c.reads.reader in
    let now = told_by R c.read_more.new.reader in
    let one = c.in_ok-ended.ensures.reads in
    let got = one.0 in
    let r = more_read from mid now c.reads.reads (front ++ held) got v.passes.1 one.1 in
    let all : Reads from now (c.reads.reads + 1) (front ++ (held ++ got)) = rw (append_assoc front held got) at r in
    let some = c.reads-test.true in
    let bound = few_read front (held ++ got) (c.reads.reads + 1) c.args.turns all.few (omega (arith, some)) c.requires.turns in
    let on = rw (c.in-None.is) at c.in_ok-ended.ensures.reads.2 in
    let still = more_open from mid now v.still on.1 in
    let bytes : c.deref-in-reads.result.now ≡ held ++ got = c.deref-in-reads.ensures.value ∙ on.2 in
    let bound' = rw (← bytes) at bound in
    let templates = ap (λ x. templates_in x.now) v.same.set in
    let comes = c.in_ok-came.ensures.takes set old front templates bound' p in
    let h = rw (c.in-Refused.is, bytes) at comes in (
      c.reads.reads + 1,
      front ++ (held ++ got),
      all,
      omega (arith, some),
      ended_by_bytes m.keep_going m.level set Writes (IsUsedUp c.args.turns (c.reads.reads + 1) (front ++ (held ++ got))) from now c.take_packets.new.progress.counts old _ (front ++ (held ++ got)) (Some c.in-Refused.refused) still h,
    )

pub returns-clause-answer : goal.returns-clause-answer
returns-clause-answer g c =
    let v = c.reads.invariant in
    let m = c.args.manner in
    let set = templates_in c.args.machine.now.traversal.set.now in
    let Writes = WritesMade (numbering_of m.numbered) g.O.PacketOutput.sized g.O.Output.makes set in
    let old = outputs (g.W.ByteOutput.taken c.args.writer.now) (g.T.ByteOutput.taken c.args.teller.now) in
    let front = v.passes.0 in
    let held = c.reads.held.items in
    let p = v.passes.2 in
    let R = g.R.ByteInput in
    let from = told_by R c.args.reader.now in
    let mid = told_by R c.reads.reader in
    let bytes : c.deref-2.result.now ≡ held = c.deref-2.ensures.value in
    let whole : Reads from mid c.reads.reads (front ++ c.deref-2.result.now) = rw (← bytes) at v.passes.1 in
    let bound = few_read front c.deref-2.result.now c.reads.reads c.args.turns whole.few v.few c.requires.turns in
    let templates = ap (λ x. templates_in x.now) v.same.set in
    let used : c.reads.reads ≡ c.args.turns = let few = v.few in omega (arith, few, c.reads-test.false) in
    let gave : c.args.turns ≤ length (front ++ c.deref-2.result.now) = let some = v.passes.3 in omega (arith, some, used, ap (λ (z : List ℕ). length (front ++ z)) bytes) in
    let ends = c.end-2.ensures.ends set old front templates bound p in (
      c.reads.reads,
      front ++ c.deref-2.result.now,
      whole,
      v.few,
      ended_by_reader m.keep_going m.level set Writes (IsUsedUp c.args.turns c.reads.reads (front ++ c.deref-2.result.now)) from mid Cause.Turns c.end-2.new.progress.counts old _ (front ++ c.deref-2.result.now) c.end-2.result (λ e. absurd cc) (λ e. ((used, gave), v.still)) ends,
    )

pub returns-in-Some-clause-untold : goal.returns-in-Some-clause-untold
returns-in-Some-clause-untold g c = untold_on c.reads.invariant.untold c.end.ensures.untold

pub returns-in_err-came-clause-untold : goal.returns-in_err-came-clause-untold
returns-in_err-came-clause-untold g c = untold_on c.reads.invariant.untold c.in_err-came.ensures.untold

pub returns-in-End-clause-untold : goal.returns-in-End-clause-untold
returns-in-End-clause-untold g c = untold_on c.reads.invariant.untold c.in_ok-came.ensures.untold

pub returns-in-Refused-clause-untold : goal.returns-in-Refused-clause-untold
returns-in-Refused-clause-untold g c = untold_on c.reads.invariant.untold c.in_ok-came.ensures.untold

pub returns-clause-untold : goal.returns-clause-untold
returns-clause-untold g c = untold_on c.reads.invariant.untold c.end-2.ensures.untold
