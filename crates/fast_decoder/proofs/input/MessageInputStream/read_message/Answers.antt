use Rattle.fast_decoder.proofs.Common.{◌≡◌, ◌++◌, ◌+◌, length, refl, sym, ap, ◌∙◌, rules, append-nil, nil_from_length}
use Rattle.fast_decoder.proofs.Calls.{reads_none, reads_on, same_as, same_on}
use Rattle.fast_machine.proofs.Inputs.{causes_end, causes_weaker}
use Rattle.fast_decoder.proofs.Inputs.{stands_popped}
use Rattle.fast_decoder.proofs.input.MessageInputStream.read_message.Goals as goal

pub reads-init : goal.reads-init
reads-init g c = record { same = same_as _; waits = λ _. refl; closed = λ _. refl; reads = (0, reads_none _) }

pub reads-preserved : goal.reads-preserved
reads-preserved g c =
    let i = c.reads.invariant in
    let more = c.wants_more.ensures.yes c.reads-test.true in
    record {
      same = same_on i.same c.read_on.ensures.same;
      waits = λ some. absurd (some (sym (ap (λ s. s.waiting.items) (i.waits some)) ∙ more.1));
      closed = λ shut. absurd (shut (sym (ap (λ s. s.reached) (i.closed shut)) ∙ more.0));
      reads = (i.reads.0 + 1, reads_on i.reads.1 more.0 c.read_on.ensures.reads);
    }

pub returns-in-Some-clause-read : goal.returns-in-Some-clause-read
returns-in-Some-clause-read g c =
    let l = c.reads.self in
    let i = c.reads.invariant.reads in (
      i.1.got,
      i.0,
      i.1.gave,
      i.1.counted,
      λ bytes answered stands.
          let s = i.1.stands bytes answered stands in
          let t = stands_popped l.reached l.decoder _ _ _ l.turns l.reads (g.R.ByteInput.left l.reader) (bytes ++ i.1.got) answered c.in-Some.ensures.items s.0 in
          (t.0, t.1, causes_weaker _ _ _ _ _ s.1),
    )

pub returns-in-None-clause-read : goal.returns-in-None-clause-read
returns-in-None-clause-read g c =
    let l = c.reads.self in
    let i = c.reads.invariant.reads in
    let o = c.outcome.ensures in
    let size : length l.waiting.items ≡ 0 = search rules in
    let none = nil_from_length l.waiting.items size in
    let same = c.in-None.ensures.items ∙ append-nil c.pop.new.self.items in (
      i.1.got,
      i.0,
      rw (o.reader) i.1.gave,
      o.reads ∙ i.1.counted,
      λ bytes answered stands.
          let s = i.1.stands bytes answered stands in
          let t = o.tells (bytes ++ i.1.got) answered (rw same at s.0) in (
            rw (o.message, append-nil answered) t.0,
            rw (o.message, append-nil answered) t.1,
            rw (o.reader) (causes_end _ l.reached c.outcome.new.self.reached (c.outcome.new.self.reads ≡ c.outcome.new.self.turns) _ _ s.1
                (λ at. o.reads ∙ c.wants_more.ensures.no c.reads-test.false none at ∙ sym o.same.turns) o.open (λ other. ap (λ x. x.reached) (o.closed other))),
          ),
    )

pub returns-in-None-clause-closed : goal.returns-in-None-clause-closed
returns-in-None-clause-closed g c = λ shut none.
    let same = c.reads.invariant.closed shut in
    let stays = c.outcome.ensures.closed (λ at. shut (sym (ap (λ x. x.reached) same) ∙ at)) in (
      ap (λ x. x.reached) stays ∙ ap (λ x. x.reached) same,
      c.outcome.ensures.waiting,
      ap (λ x. x.decoder) stays ∙ ap (λ x. x.decoder) same,
      ap (λ x. x.reader) stays ∙ ap (λ x. x.reader) same,
    )
