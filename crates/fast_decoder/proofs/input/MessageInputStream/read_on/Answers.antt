use Rattle.fast_decoder.proofs.Common.{Reached, ℕ, ◌<◌, ◌++◌, [], take, refl, arith, append-nil, length-append, length-take, reader_of, told_by, waiting_in}
use Rattle.fast_machine.proofs.Inputs.{caused_by_end, caused_by_feed, caused_by_read, empty_read, failed_read, of_bytes, one_read, refused_by_bytes, refused_by_read}
use Rattle.fast_decoder.proofs.Inputs.{pushed_waits}
use Rattle.fast_decoder.proofs.input.MessageInputStream.read_on.Goals as goal

pub returns-in-Ok-finish-clause-reads : goal.returns-in-Ok-finish-clause-reads
returns-in-Ok-finish-clause-reads g c =
    let zero = c.in-Ok-eq0.field-0-test in
    let p = c.in-Ok-eq0.ensures in
    record {
      got = [];
      gave = empty_read _ _ _ _ p.call p.bytes.1 zero;
      counted = refl;
      stands = λ bytes answered stands.
          let at = rw (c.requires.reached) at stands in
          let carried = c.in-Ok-finish.ensures.ok.1 bytes (answered ++ waiting_in c.args.self.now.waiting.items) at.0.follows in
          rw (append-nil bytes, c.requires.reached, c.finish.ensures.mode, c.finish.ensures.set) (record { carried = carried; ended = p.bytes.2 zero (omega arith) }, (p.end.0 zero (omega arith), p.error));
    }

pub returns-in-Err-finish-clause-reads : goal.returns-in-Err-finish-clause-reads
returns-in-Err-finish-clause-reads g c =
    let old = c.args.self.now in
    let zero = c.in-Ok-eq0.field-0-test in
    let p = c.in-Ok-eq0.ensures in
    record {
      got = [];
      gave = empty_read _ _ _ _ p.call p.bytes.1 zero;
      counted = refl;
      stands = λ bytes answered stands.
          let at = rw (c.requires.reached) at stands in
          let t = c.in-Err-finish.ensures.truncated at.0.goes_on in
          let after = t.1 bytes (answered ++ waiting_in old.waiting.items) at.0.follows in
          let refused = (rw (c.in-Err-finish.ensures.answer) at after.at).0 in
          rw (append-nil bytes, c.requires.reached) (refused_by_bytes c.in-Err-finish.fault _ _ old.turns _ bytes _ (λ e. p.bytes.2 zero (omega arith)) refused, caused_by_end c.in-Err-finish.fault (reader_of old) (told_by g.R.ByteInput c.pull.new.self) t.0 (p.end.0 zero (omega arith)) p.error);
    }

pub returns-in-Ok-fed-clause-reads : goal.returns-in-Ok-fed-clause-reads
returns-in-Ok-fed-clause-reads g c =
    let p = c.in-Ok.ensures in
    let got = take c.in-Ok.count c.pull.new.buf in
    let some : 0 < c.in-Ok.count = omega arith in
    record {
      got = got;
      gave = one_read _ _ _ _ p.call p.bytes.1 (omega arith);
      counted = refl;
      stands = λ bytes answered stands.
          let at = rw (c.requires.reached, c.requires.none, append-nil answered) at stands in
          let e = c.in-Ok-fed.ensures.follows at.0.goes_on bytes answered at.0.follows in
          let same = pushed_waits c.args.self.now.waiting.items c.feed-fed.new.out.items c.reverse.new.self.items e.0 c.requires.none c.reverse.ensures.items e.1 in
          rw (c.requires.reached, same) ((record { goes_on = c.in-Ok-fed.ensures.answer; follows = e.2 }, omega (arith, length-append {A = ℕ}, length-take {A = ℕ}, some)), (p.error, p.end.1 some));
    }

pub returns-in-Err-fed-clause-reads : goal.returns-in-Err-fed-clause-reads
returns-in-Err-fed-clause-reads g c =
    let p = c.in-Ok.ensures in
    let some : 0 < c.in-Ok.count = omega arith in
    record {
      got = take c.in-Ok.count c.pull.new.buf;
      gave = one_read _ _ _ _ p.call p.bytes.1 (omega arith);
      counted = refl;
      stands = λ bytes answered stands.
          let at = rw (c.requires.reached, c.requires.none, append-nil answered) at stands in
          let e = c.in-Err-fed.ensures.follows at.0.goes_on bytes answered at.0.follows in
          let same = pushed_waits c.args.self.now.waiting.items c.feed-fed.new.out.items c.reverse.new.self.items e.0 c.requires.none c.reverse.ensures.items e.1 in
          let f = c.in-Err-fed.first in
          let more = c.in-Err-fed.ensures.cause at.0.goes_on in
          let refused = (rw (c.in-Err-fed.ensures.answer) at e.2.at).0 in
          rw (c.requires.reached, same) (
            refused_by_bytes f _ _ c.args.self.now.turns _ _ _ (λ is. absurd (more is)) refused,
            caused_by_feed (Reached.Fault f) (reader_of c.args.self.now) (told_by g.R.ByteInput c.pull.new.self) (λ e. absurd cc) (of_bytes f _ _ _ refused.2 more) p.error (p.end.1 some),
          );
    }

pub returns-in-Err-clause-reads : goal.returns-in-Err-clause-reads
returns-in-Err-clause-reads g c =
    let old = c.args.self.now in
    let p = c.in-Err.ensures in
    record {
      got = [];
      gave = failed_read _ _ p.call p.bytes;
      counted = refl;
      stands = λ bytes answered stands.
          let at = rw (c.requires.reached) at stands in
          let e = c.cut.ensures in
          let cut = e.place at.0.goes_on [] bytes (answered ++ waiting_in old.waiting.items) at.0.follows in
          rw (append-nil bytes, c.requires.reached, e.same.set, e.same.mode) (refused_by_read c.cut.result _ _ _ _ _ _ e.cause cut, caused_by_read c.cut.result (reader_of old) (told_by g.R.ByteInput c.pull.new.self) e.cause p.error p.end);
    }
