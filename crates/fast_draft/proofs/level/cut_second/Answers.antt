use Rattle.fast_draft.proofs.TwoBytes.{ends_two}
use Rattle.fast_draft.proofs.level.cut_second.Goals as goal

pub returns-clause-ends : goal.returns-clause-ends
returns-clause-ends c = ends_two c.args.out.now.items c.remove.new.out.items c.args.place c.args.asked c.index.result.now c.min.result c.index.ensures c.min.ensures c.requires.stands c.requires.none c.remove.ensures.items
