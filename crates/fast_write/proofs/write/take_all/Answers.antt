use Rattle.std.proofs.Common.{◌≡◌, ◌+◌, ◌<◌, ◌++◌, ◌∙◌, [], None, length, take, refl, ap, arith}
use Rattle.fast_io.specs.Counts.{counted}
use Rattle.fast_machine.proofs.Inputs.{empty_read, failed_read, more_read, none_read, one_read}
use Rattle.fast_write.specs.Ways.{Here, here}
use Rattle.fast_write.proofs.Going.{caused_by_end, caused_by_line, goes_handed, more_none, read_stops, write_stops}
use Rattle.fast_write.proofs.OneLine.{of_write}
use Rattle.fast_write.proofs.write.take_all.Goals as goal

pub loop-reads-init : goal.loop-reads-init
loop-reads-init g c = record {
  few = omega arith;
  room = refl;
  same = record { form = refl; set = refl; numbered = refl };
  errors = refl;
  flushes = refl;
  no_end = refl;
  no_error = refl;
  goes = λ before go. ([], none_read _, go);
}

pub loop-reads-preserved : goal.loop-reads-preserved
loop-reads-preserved g c =
    let v = c.loop-reads.invariant in
    let p = c.in-Ok.ensures in
    let t = c.in-Ok-take_bytes.ensures in
    let h = c.in-Ok-hand_on.ensures in
    let same = c.in-Ok-hand_on.ensures.hands.is in
    let room : length c.pull.new.buf ≡ 4096 = c.pull.auto.buf ∙ v.room in
    let some : 0 < c.in-Ok.count = omega arith in
    record {
      few = omega arith;
      room = room;
      same = record { form = ap (λ (h : Here). h.form) same ∙ t.same.form ∙ v.same.form; set = ap (λ (h : Here). h.set) same ∙ t.same.set ∙ v.same.set; numbered = ap (λ (h : Here). h.numbered) same ∙ t.same.numbered ∙ v.same.numbered };
      errors = h.failed ∙ t.failed ∙ v.errors;
      flushes = h.flushes ∙ t.flushes ∙ v.flushes;
      no_end = p.end.1 some ∙ v.no_end;
      no_error = p.error ∙ v.no_error;
      goes = λ before go.
          let i = v.goes before go in (
            i.0 ++ take c.in-Ok.count c.pull.new.buf,
            more_read _ _ _ c.loop-reads.reads i.0 _ i.1 (one_read _ _ c.in-Ok.count c.pull.new.buf c.pull.ensures.call p.bytes.1 (omega (arith, room))),
            goes_handed (t.comes None before i.0 i.2) (here c.hand_on.new.self) _ h.hands,
          );
    }

pub returns-in-Err-clause-answer : goal.returns-in-Err-clause-answer
returns-in-Err-clause-answer g c = λ before go.
    let v = c.loop-reads.invariant in
    let p = c.in-Err.ensures in
    let i = v.goes before go in (
      c.loop-reads.reads + 1,
      i.0,
      more_none _ _ _ c.loop-reads.reads i.0 i.1 (failed_read _ _ c.pull.ensures.call p.bytes),
      omega arith,
      (read_stops i.2 _).0,
      p.error ∙ ap counted v.no_error,
    )

pub returns-then-count-eq0-clause-answer : goal.returns-then-count-eq0-clause-answer
returns-then-count-eq0-clause-answer g c = λ before go.
    let v = c.loop-reads.invariant in
    let p = c.in-Ok.ensures in
    let none = c.if-count-eq0.true in
    let room : length c.pull.new.buf ≡ 4096 = c.pull.auto.buf ∙ v.room in
    let some : 0 < length c.pull.new.buf = omega (arith, room) in
    let i = v.goes before go in (
      c.loop-reads.reads + 1,
      i.0,
      more_none _ _ _ c.loop-reads.reads i.0 i.1 (empty_read _ _ c.in-Ok.count c.pull.new.buf c.pull.ensures.call p.bytes.1 none),
      omega arith,
      c.end.ensures.finishes _ before i.0 (p.bytes.2 none some) i.2,
      caused_by_end c.end.result _ _ _ (p.end.0 none some ∙ ap counted v.no_end, p.error ∙ v.no_error) c.end.ensures.of_line,
    )

pub returns-in-Err-take_bytes-clause-answer : goal.returns-in-Err-take_bytes-clause-answer
returns-in-Err-take_bytes-clause-answer g c = λ before go.
    let v = c.loop-reads.invariant in
    let p = c.in-Ok.ensures in
    let t = c.in-Err-take_bytes.ensures in
    let room : length c.pull.new.buf ≡ 4096 = c.pull.auto.buf ∙ v.room in
    let i = v.goes before go in (
      c.loop-reads.reads + 1,
      i.0 ++ take c.in-Ok.count c.pull.new.buf,
      more_read _ _ _ c.loop-reads.reads i.0 _ i.1 (one_read _ _ c.in-Ok.count c.pull.new.buf c.pull.ensures.call p.bytes.1 (omega (arith, room))),
      omega arith,
      t.comes _ before i.0 i.2,
      caused_by_line c.in-Err-take_bytes.fault _ _ _ t.of_line,
    )

pub returns-in-Err-hand_on-clause-answer : goal.returns-in-Err-hand_on-clause-answer
returns-in-Err-hand_on-clause-answer g c = λ before go.
    let v = c.loop-reads.invariant in
    let p = c.in-Ok.ensures in
    let t = c.in-Ok-take_bytes.ensures in
    let h = c.in-Err-hand_on.ensures.hands in
    let room : length c.pull.new.buf ≡ 4096 = c.pull.auto.buf ∙ v.room in
    let i = v.goes before go in (
      c.loop-reads.reads + 1,
      i.0 ++ take c.in-Ok.count c.pull.new.buf,
      more_read _ _ _ c.loop-reads.reads i.0 _ i.1 (one_read _ _ c.in-Ok.count c.pull.new.buf c.pull.ensures.call p.bytes.1 (omega (arith, room))),
      omega arith,
      write_stops (t.comes None before i.0 i.2) (here c.hand_on.new.self) _ _ c.in-Err-hand_on.fault h,
      caused_by_line c.in-Err-hand_on.fault _ _ _ (of_write _ h.0),
    )

pub returns-clause-answer : goal.returns-clause-answer
returns-clause-answer g c = λ before go.
    let v = c.loop-reads.invariant in
    let few = v.few in
    let i = v.goes before go in (c.loop-reads.reads, i.0, i.1, few, (read_stops i.2 _).1, (omega (arith, few, c.loop-reads-test.false), v.no_end))
