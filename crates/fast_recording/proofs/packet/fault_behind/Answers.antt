use Rattle.std.proofs.Common.{◌≡◌, List, ◌∷◌, ◌++◌, inr, refl, sym, ap, subst, ◌∙◌}
use Rattle.fast_template.specs.Resolved.{Resolved}
use Rattle.fast_template.specs.TemplateSets.{templates_in}
use Rattle.fast_stream.specs.declared.fault.Cause.{Cause}
use Rattle.fast_stream.specs.declared.mode.Mode.{Mode}
use Rattle.fast_stream.specs.Modes.{Carries, FirstFault, plainly}
use Rattle.fast_walk.specs.Received.{handed_on}
use Rattle.fast_machine.specs.Following.{IsCutAt, Refused}
use Rattle.fast_machine.specs.Inputs.{Refuses}
use Rattle.fast_recording.proofs.Machines.{has_of, is_none, is_open, made_of, plain_mode}
use Rattle.fast_recording.proofs.Streams.{fault_of_bytes, missing_of, stops_of}
use Rattle.fast_recording.proofs.packet.fault_behind.Goals as goal

pub returns-in-Fault-clause-found : goal.returns-in-Fault-clause-found
returns-in-Fault-clause-found g c = λ turns left way r of sound plain.
    let m = c.args.machine.now in
    let f = c.in-Fault.fault in
    let s = rw (c.in-Fault.is) at r in
    let causes = rw (c.in-Fault.is) at of in
    let h : Refuses (plainly m.traversal.level) (templates_in m.traversal.set.now) turns left way.input way.messages f =
    subst (λ (mode : Mode). Refuses mode (templates_in m.traversal.set.now) turns left way.input way.messages f) (plain_mode m plain) s.holds in (
      h.carried,
      h.behind,
      λ other. fault_of_bytes m.traversal.set.now sound m.traversal.level way.input way.messages turns left c.args.cut f causes.1.0 causes.1.1 causes.1.2 other h,
      s.has,
      s.made,
    )

pub returns-in-Some : goal.returns-in-Some
returns-in-Some g c = record {
  found = λ turns left way r of sound plain.
      let m = c.args.machine.now in
      let new = c.cut.new.self in
      let s = rw (is_open c.args.came c.requires.open c.in_default.not-Fault) at r in
      let cut = c.cut.ensures in
      let f = c.cut.result in
      let before = handed_on way.handed ∷ way.messages in
      let place : IsCutAt (plainly m.traversal.level) (templates_in m.traversal.set.now) way.input way.messages f.place =
      subst (λ (mode : Mode). IsCutAt mode (templates_in m.traversal.set.now) way.input way.messages f.place) (plain_mode m plain) (cut.place s.holds.unrefused before way.input way.messages s.holds.follows) in
      let after = cut.follows s.holds.unrefused before way.input way.messages s.holds.follows in
      let set_is : templates_in new.traversal.set.now ≡ templates_in m.traversal.set.now = ap (λ s. templates_in s.now) cut.same.set in (
        place.carried,
        place.behind,
        λ other. rw (c.in-Some.is) (inr (cut.cause, missing_of m.traversal.set.now sound m.traversal.level way.input way.messages f.place place.carried place.behind place.at)),
        has_of new way after,
        subst (λ (ts : List Resolved). g.O.Output.makes ts way.messages (way.handed ++ g.O.Output.waiting new.receiver)) set_is (made_of g.O.Output.waiting g.O.Output.makes g.met.O.Output.made new way after),
      );
  same = c.cut.ensures.same;
}

pub returns-in-Ok : goal.returns-in-Ok
returns-in-Ok g c = record {
  found = λ turns left way r of sound plain.
      let m = c.args.machine.now in
      let s = rw (is_open c.args.came c.requires.open c.in_default.not-Fault) at r in
      let before = handed_on way.handed ∷ way.messages in
      let ok = c.in-Ok.ensures.ok in
      let carries : Carries (plainly m.traversal.level) (templates_in m.traversal.set.now) way.input way.messages =
      subst (λ (mode : Mode). Carries mode (templates_in m.traversal.set.now) way.input way.messages) (plain_mode m plain) (ok.1 before way.input way.messages s.holds.follows) in
      rw (ok.0) (is_none c.args.cut c.in_default-cut.not-Some, carries, s.holds.follows.counts.count_is, s.has, s.made);
  same = c.finish.ensures.same;
}

pub returns-in-Err : goal.returns-in-Err
returns-in-Err g c = record {
  found = λ turns left way r of sound plain.
      let m = c.args.machine.now in
      let new = c.finish.new.self in
      let f = c.in-Err.fault in
      let s = rw (is_open c.args.came c.requires.open c.in_default.not-Fault) at r in
      let before = handed_on way.handed ∷ way.messages in
      let t = c.in-Err.ensures.truncated s.holds.unrefused in
      let after = t.1 before way.input way.messages s.holds.follows in
      let same = c.finish.ensures.same in
      let set_is : templates_in new.traversal.set.now ≡ templates_in m.traversal.set.now = ap (λ s. templates_in s.now) same.set in
      let at = (rw (c.in-Err.ensures.answer) at after.at).0 in
      let by_mode : Refused f (plainly m.traversal.level) (templates_in new.traversal.set.now) way.input way.messages =
      subst (λ (mode : Mode). Refused f mode (templates_in new.traversal.set.now) way.input way.messages) (same.mode ∙ plain_mode m plain) at in
      let refused : Refused f (plainly m.traversal.level) (templates_in m.traversal.set.now) way.input way.messages =
      subst (λ (ts : List Resolved). Refused f (plainly m.traversal.level) ts way.input way.messages) set_is by_mode in
      let first : FirstFault (plainly m.traversal.level) (templates_in m.traversal.set.now) way.input f.place Cause.Truncated =
      subst (λ (cause : Cause). FirstFault (plainly m.traversal.level) (templates_in m.traversal.set.now) way.input f.place cause) t.0 (refused.2 (λ memory. let e : Cause.Truncated ≡ Cause.Memory = sym t.0 ∙ memory in absurd cc)) in (
        refused.0,
        refused.1,
        λ other. rw (is_none c.args.cut c.in_default-cut.not-Some) (Cause.Truncated, stops_of m.traversal.set.now sound m.traversal.level way.input way.messages f.place Cause.Truncated refused.0 refused.1 first, refl),
        has_of new way after,
        subst (λ (ts : List Resolved). g.O.Output.makes ts way.messages (way.handed ++ g.O.Output.waiting new.receiver)) set_is (made_of g.O.Output.waiting g.O.Output.makes g.met.O.Output.made new way after),
      );
  same = c.finish.ensures.same;
}
