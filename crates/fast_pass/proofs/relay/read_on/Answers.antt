use Rattle.fast_pass.proofs.Common.{◌<◌, ◌∷◌, [], take, sym, subst, arith, length-take, MatchResult-weaker, Reached, told_by, caused_by_end, caused_by_feed, caused_by_read, empty_read, failed_read, one_read, refused_by_bytes, refused_by_read, handed_on, Relays}
use Rattle.fast_pass.proofs.Relayings.{stays, stops}
use Rattle.fast_pass.proofs.relay.read_on.Goals as goal

pub returns-in-Ok-finish-clause-read : goal.returns-in-Ok-finish-clause-read
returns-in-Ok-finish-clause-read g c =
    let zero = c.in-Ok-eq0.field-0-test in
    let p = c.in-Ok-eq0.ensures in
    let ok = c.in-Ok-finish.ensures.ok in (
      [],
      empty_read _ _ _ _ p.call p.bytes.1 zero,
      λ turns way r. stays _ (subst (λ m. Relays g.O.Output.waiting g.O.Output.makes Reached.End m turns (g.R.ByteInput.left c.pull.new.self) way) (sym ok.0) (record {
        holds = record { carried = ok.1 (handed_on way.handed ∷ way.messages) way.input way.messages r.holds.follows; ended = p.bytes.2 zero (omega arith) };
        made = r.made;
        has = r.has;
        counts = λ e. r.holds.follows.counts;
      })) ((λ h. absurd cc), (p.end.0 zero (omega arith), p.error)),
    )

pub returns-in-Err-finish-clause-read : goal.returns-in-Err-finish-clause-read
returns-in-Err-finish-clause-read g c =
    let zero = c.in-Ok-eq0.field-0-test in
    let p = c.in-Ok-eq0.ensures in (
      [],
      empty_read _ _ _ _ p.call p.bytes.1 zero,
      λ turns way r.
          let t = c.in-Err-finish.ensures.truncated r.holds.unrefused in
          let after = t.1 (handed_on way.handed ∷ way.messages) way.input way.messages r.holds.follows in
          let at = (rw (c.in-Err-finish.ensures.answer) at after.at).0 in
          let refuses = refused_by_bytes c.in-Err-finish.fault _ _ turns (g.R.ByteInput.left c.pull.new.self) _ _ (λ e. p.bytes.2 zero (omega arith)) at in
          stays _ (stops g.met.O.Output.made c.finish.new.self turns _ way c.in-Err-finish.fault refuses after) ((λ h. absurd cc), caused_by_end c.in-Err-finish.fault (told_by g.R.ByteInput c.args.reader.now) (told_by g.R.ByteInput c.pull.new.self) t.0 (p.end.0 zero (omega arith)) p.error),
    )

pub returns-in-Ok-clause-read : goal.returns-in-Ok-clause-read
returns-in-Ok-clause-read g c =
    let R = g.R.ByteInput in
    let p = c.in-Ok.ensures in
    let some : 0 < c.in-Ok.count = omega arith in
    let taken = length-take c.in-Ok.count c.pull.new.buf in
    let few = p.bytes.0 in (
      take c.in-Ok.count c.pull.new.buf,
      one_read _ _ _ _ p.call p.bytes.1 (omega arith),
      MatchResult-weaker c.take_in.result (c.take_in.ensures.takes (R.left c.args.reader.now) (R.left c.pull.new.self)) (λ x goes turns way r.
          let s = goes turns way r in
          record { more = s.more; ended = s.ended; relays = s.relays; written = s.written; size_is = s.size_is; because = ((λ h. omega (arith, some, taken, few)), caused_by_feed x.0 (told_by g.R.ByteInput c.args.reader.now) (told_by g.R.ByteInput c.pull.new.self) s.because.0 s.because.1 p.error (p.end.1 some)) }) (λ e breaks. breaks),
    )

pub returns-in-Err-clause-read : goal.returns-in-Err-clause-read
returns-in-Err-clause-read g c =
    let p = c.in-Err.ensures in
    let cut = c.cut.ensures in (
      [],
      failed_read _ _ p.call p.bytes,
      λ turns way r.
          let before = handed_on way.handed ∷ way.messages in
          let go = r.holds in
          stays _ (stops g.met.O.Output.made c.cut.new.self turns _ way c.cut.result
          (rw (cut.same.set, cut.same.mode) (refused_by_read c.cut.result _ _ _ _ _ _ cut.cause (cut.place go.unrefused before way.input way.messages go.follows)))
          (cut.follows go.unrefused before way.input way.messages go.follows)) ((λ h. absurd cc), caused_by_read c.cut.result (told_by g.R.ByteInput c.args.reader.now) (told_by g.R.ByteInput c.pull.new.self) cut.cause p.error p.end),
    )
