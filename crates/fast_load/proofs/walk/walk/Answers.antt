use Rattle.fast_load.proofs.Common.{map, sym, ap, Ok, ◌∙◌, written_list, written_of}
use Rattle.fast_load.proofs.KeptLaws.{kept_more, kept_end}
use Rattle.fast_load.proofs.WalkLaws.{along_end, along_fault, along_more, along_walk}
use Rattle.fast_load.proofs.walk.walk.Goals as goal

pub loop-found-preserved : goal.loop-found-preserved
loop-found-preserved g c = record {
  walked = along_more (g.J.Judge.judges c.args.judge.now) c.deref-found-items.result.now c.found-item.result c.loop-found.found-index c.loop-found.next c.saturating_add-next.result _ c.loop-found-test.true c.found-item.is (sym c.in_ok-cause.ensures.cause ∙ c.in_default.is) c.saturating_add-next.ensures c.loop-found.invariant.walked;
  kept = kept_more (g.J.Judge.keeps c.args.judge.now) c.deref-found-items.result.now c.loop-found.kept.items c.judge.new.kept.items _ c.found-item.result c.loop-found.found-index c.loop-found-test.true c.found-item.is (c.in_ok-cause.ensures.kept (ap Ok c.in_default.is)) c.loop-found.invariant.kept;
}

pub returns-in-Some-clause-walked : goal.returns-in-Some-clause-walked
returns-in-Some-clause-walked g c =
    along_fault (g.J.Judge.judges c.args.judge.now) c.deref-found-items.result.now c.found-item.result c.loop-found.found-index c.loop-found.next c.args.number c.in-Some.cause c.loop-found-test.true c.found-item.is (sym c.in_ok-cause.ensures.cause ∙ c.in-Some.is) c.loop-found.invariant.walked
    ∙ along_walk (g.J.Judge.judges c.args.judge.now) c.deref-found-items.result.now c.in_ok-list.list.items (written_list (map written_of c.args.members.now)) c.args.number c.deref-found-items.ensures.value c.in_ok-list.ensures.listed

pub returns-clause-walked : goal.returns-clause-walked
returns-clause-walked g c =
    along_end (g.J.Judge.judges c.args.judge.now) c.deref-found-items.result.now c.loop-found.found-index c.loop-found.next c.args.number c.loop-found-test.false c.loop-found.invariant.walked
    ∙ along_walk (g.J.Judge.judges c.args.judge.now) c.deref-found-items.result.now c.in_ok-list.list.items (written_list (map written_of c.args.members.now)) c.args.number c.deref-found-items.ensures.value c.in_ok-list.ensures.listed

pub returns-clause-kept : goal.returns-clause-kept
returns-clause-kept g c = kept_end (g.J.Judge.keeps c.args.judge.now) c.deref-found-items.result.now c.in_ok-list.list.items (written_list (map written_of c.args.members.now)) c.loop-found.kept.items c.args.kept.now.items c.loop-found.found-index c.loop-found-test.false c.deref-found-items.ensures.value c.in_ok-list.ensures.listed c.loop-found.invariant.kept
