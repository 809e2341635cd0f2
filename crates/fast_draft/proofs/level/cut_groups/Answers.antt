use Rattle.fast_draft.specs.Standing.{level_of}
use Rattle.fast_draft.proofs.Ending.{ends_cut}
use Rattle.fast_draft.proofs.level.cut_groups.Goals as goal

pub returns-clause-ends : goal.returns-clause-ends
returns-clause-ends c =
    ends_cut (level_of c.args.place c.args.size c.args.asked) c.args.out.now.items c.cut_there-used.new.out.items c.remove.new.out.items c.cut_there-used.result c.requires.stands c.requires.some c.cut_there-used.ensures.cut c.remove.ensures.items
