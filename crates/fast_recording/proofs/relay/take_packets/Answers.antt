use Rattle.std.proofs.Common.{◌++◌, ◌-◌, ◌∙◌, List, ℕ, [], arith, refl, inl, inr, drop, take, length, ap, subst}
use Rattle.std.proofs.lemmas.List.{take_rest}
use Rattle.std.proofs.lemmas.Result.{err_from_is_err_and}
use Rattle.fast_template.specs.TemplateSets.{templates_in}
use Rattle.fast_machine.proofs.Calls.{same_on}
use Rattle.fast_recording.specs.Made.{WritesMade, numbering_of}
use Rattle.fast_recording.specs.Passing.{by_bytes}
use Rattle.fast_recording.specs.Recorded.{RecordsAll, RecordsBefore, RecordsFront, outputs}
use Rattle.fast_recording.proofs.Fronts.{few_front, few_step, rest_is, rest_long, step_is, whole_is}
use Rattle.fast_recording.proofs.Held.{held_few}
use Rattle.fast_recording.proofs.Numbered.{nothing_numbered}
use Rattle.fast_recording.proofs.Parts.{size_answered, size_told, size_untold}
use Rattle.fast_recording.proofs.Untold.{untold_on}
use Rattle.fast_recording.proofs.relay.take_packets.Goals as goal

pub returns-in_err-refuse-in-Sizeless-clause-takes : goal.returns-in_err-refuse-in-Sizeless-clause-takes
returns-in_err-refuse-in-Sizeless-clause-takes g c = λ set old front set_is bound p.
    let v = c.packets.invariant in
    let m = c.args.manner in
    let B = c.args.bytes.now in
    let at = c.packets.at in
    let passes = v.passes set old front set_is bound p in
    let Writes = WritesMade (numbering_of m.numbered) g.O.PacketOutput.sized g.O.Output.makes set in
    let place = v.place in
    let fewer = few_front front B at bound place in
    let long = rest_long front B at in
    let now = outputs (g.W.ByteOutput.taken c.packets.writer) (g.T.ByteOutput.taken c.packets.teller) in
    let later = outputs (g.W.ByteOutput.taken c.packets.writer) (g.T.ByteOutput.taken c.refuse.new.teller) in
    let cause = c.in-Sizeless.cause in
    let e = err_from_is_err_and c.from_residual.result c.from_residual.ensures.1 in
    let r = rw (c.place_of_size-place.ensures) at c.in_err-refuse-in-Sizeless.ensures.refuses in
    let broke = size_untold m.keep_going m.level set Writes (λ number at cause. ([], refl, nothing_numbered m.numbered number)) c.packets.progress.counts c.refuse.new.progress.counts old now later (front ++ take at B) (take (length B - at) (drop at B)) cause passes (omega (arith, bound, fewer))
    (omega (arith, long, c.packets-test.true)) c.in-Sizeless.ensures.0 c.in_err-refuse-in-Sizeless.ensures.counts refl _ r in
    rw (e.1) (subst (λ (z : List ℕ). RecordsFront m.keep_going m.level set Writes old later z) (rest_is front B at) broke)

pub returns-in-None-clause-takes : goal.returns-in-None-clause-takes
returns-in-None-clause-takes g c = λ set old front set_is bound p.
    let v = c.packets.invariant in
    let m = c.args.manner in
    let B = c.args.bytes.now in
    let at = c.packets.at in
    let passes = v.passes set old front set_is bound p in
    let Writes = WritesMade (numbering_of m.numbered) g.O.PacketOutput.sized g.O.Output.makes set in
    let place = v.place in
    let fewer = few_front front B at bound place in
    let long = rest_long front B at in
    let now = outputs (g.W.ByteOutput.taken c.packets.writer) (g.T.ByteOutput.taken c.packets.teller) in
    let later = outputs (g.W.ByteOutput.taken c.packets.writer) (g.T.ByteOutput.taken c.refuse.new.teller) in
    let cause = c.in-Sizeless.cause in
    let r = rw (c.in-None.is, c.place_of_size-place.ensures) at c.in_ok-refuse-in-Sizeless.ensures.refuses in
    let told = size_told m.keep_going m.level set Writes (λ number at cause. ([], refl, nothing_numbered m.numbered number)) c.packets.progress.counts c.refuse.new.progress.counts old now later (front ++ take at B) (take (length B - at) (drop at B)) cause passes (omega (arith, bound, fewer))
    (omega (arith, long, c.packets-test.true)) c.in-Sizeless.ensures.0 c.in_ok-refuse-in-Sizeless.ensures.counts refl by_bytes (inr (c.in-Sizeless.ensures.1, tt)) r in
    subst (λ (z : List ℕ). RecordsAll by_bytes m.keep_going m.level set Writes old later z c.refuse.new.progress.counts) (rest_is front B at) told

pub returns-in-Some-clause-takes : goal.returns-in-Some-clause-takes
returns-in-Some-clause-takes g c = λ set old front set_is bound p.
    let v = c.packets.invariant in
    let m = c.args.manner in
    let B = c.args.bytes.now in
    let at = c.packets.at in
    let passes = v.passes set old front set_is bound p in
    let Writes = WritesMade (numbering_of m.numbered) g.O.PacketOutput.sized g.O.Output.makes set in
    let place = v.place in
    let fewer = few_front front B at bound place in
    let long = rest_long front B at in
    let now = outputs (g.W.ByteOutput.taken c.packets.writer) (g.T.ByteOutput.taken c.packets.teller) in
    let later = outputs (g.W.ByteOutput.taken c.packets.writer) (g.T.ByteOutput.taken c.refuse.new.teller) in
    let cause = c.in-Sizeless.cause in
    let r = rw (c.in-Some.is, c.place_of_size-place.ensures) at c.in_ok-refuse-in-Sizeless.ensures.refuses in
    let f = c.in-Some.refused in
    let answered = size_answered m.keep_going m.level set Writes (λ number at cause. ([], refl, nothing_numbered m.numbered number)) c.packets.progress.counts c.refuse.new.progress.counts old now later (front ++ take at B) (take (length B - at) (drop at B)) cause passes (omega (arith, bound, fewer))
    (omega (arith, long, c.packets-test.true)) c.in-Sizeless.ensures.0 c.in_ok-refuse-in-Sizeless.ensures.counts refl by_bytes f (λ e. absurd (c.in-Sizeless.ensures.1 e)) r in
    inl (answered.0, subst (λ (z : List ℕ). RecordsBefore by_bytes m.level set Writes old later z f) (rest_is front B at) answered.1)

pub returns-in_err-take_whole-in-Whole-clause-takes : goal.returns-in_err-take_whole-in-Whole-clause-takes
returns-in_err-take_whole-in-Whole-clause-takes g c = λ set old front set_is bound p.
    let v = c.packets.invariant in
    let m = c.args.manner in
    let B = c.args.bytes.now in
    let at = c.packets.at in
    let end = c.in-Whole.end in
    let passes = v.passes set old front set_is bound p in
    let templates = ap (λ x. templates_in x.now) v.same.set ∙ set_is in
    let e = err_from_is_err_and c.from_residual-in_err-take_whole-in-Whole.result c.from_residual-in_err-take_whole-in-Whole.ensures.1 in
    let broke = c.in_err-take_whole-in-Whole.ensures.takes set old (front ++ take at B) (drop end (take (length B - at) (drop at B))) templates (few_step front B at end bound v.place c.in-Whole.ensures.1) passes in
    rw (e.1, ← whole_is front B at end) broke

pub packets-preserved : goal.packets-preserved
packets-preserved g c =
    let v = c.packets.invariant in
    let m = c.args.manner in
    let B = c.args.bytes.now in
    let at = c.packets.at in
    let e = c.in_ok-take_whole-in-Whole.ensures in
    let end = c.in-Whole.end in
    let inside = c.in-Whole.ensures.1 in
    let place = v.place in
    record {
      place = let long = rest_long [] B at in omega (arith, long, inside, place);
      ready = e.ready;
      same = same_on v.same e.same;
      write = e.write ∙ v.write;
      tell = e.tell ∙ v.tell;
      flushes = e.flushes ∙ v.flushes;
      untold = untold_on v.untold e.untold;
      passes = λ set old front set_is bound p.
          let passes = v.passes set old front set_is bound p in
          let templates = ap (λ x. templates_in x.now) v.same.set ∙ set_is in
          let after = e.takes set old (front ++ take at B) (drop end (take (length B - at) (drop at B))) templates (few_step front B at end bound place inside) passes in
          rw (← step_is front B at end) (rw (c.in-None-2.is) at after);
    }

pub returns-in-Some-2-clause-takes : goal.returns-in-Some-2-clause-takes
returns-in-Some-2-clause-takes g c = λ set old front set_is bound p.
    let v = c.packets.invariant in
    let m = c.args.manner in
    let B = c.args.bytes.now in
    let at = c.packets.at in
    let end = c.in-Whole.end in
    let passes = v.passes set old front set_is bound p in
    let templates = ap (λ x. templates_in x.now) v.same.set ∙ set_is in
    let e = c.in_ok-take_whole-in-Whole.ensures in
    let after = e.takes set old (front ++ take at B) (drop end (take (length B - at) (drop at B))) templates (few_step front B at end bound v.place c.in-Whole.ensures.1) passes in
    rw (← whole_is front B at end) (rw (c.in-Some-2.is) at after)

pub returns-in-Open-clause-few : goal.returns-in-Open-clause-few
returns-in-Open-clause-few g c = rw (take_rest c.args.bytes.now c.packets.at) at (held_few c.args.manner.level _ c.in-Open.behind c.in-Open.ensures)

pub returns-in_err-refuse-in-Sizeless-clause-untold : goal.returns-in_err-refuse-in-Sizeless-clause-untold
returns-in_err-refuse-in-Sizeless-clause-untold g c = untold_on c.packets.invariant.untold c.in_err-refuse-in-Sizeless.ensures.untold

pub returns-in-None-clause-untold : goal.returns-in-None-clause-untold
returns-in-None-clause-untold g c = untold_on c.packets.invariant.untold c.in_ok-refuse-in-Sizeless.ensures.untold

pub returns-in-Some-clause-untold : goal.returns-in-Some-clause-untold
returns-in-Some-clause-untold g c = untold_on c.packets.invariant.untold c.in_ok-refuse-in-Sizeless.ensures.untold

pub returns-in_err-take_whole-in-Whole-clause-untold : goal.returns-in_err-take_whole-in-Whole-clause-untold
returns-in_err-take_whole-in-Whole-clause-untold g c = untold_on c.packets.invariant.untold c.in_err-take_whole-in-Whole.ensures.untold

pub returns-in-Some-2-clause-untold : goal.returns-in-Some-2-clause-untold
returns-in-Some-2-clause-untold g c = untold_on c.packets.invariant.untold c.in_ok-take_whole-in-Whole.ensures.untold
