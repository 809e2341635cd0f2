use Rattle.fast_spelled.proofs.Looked.{all_names, one_name}
use Rattle.fast_spelled.proofs.names.+names.Goals as goal

pub are_text-loop-member-preserved : goal.are_text-loop-member-preserved
are_text-loop-member-preserved t c = one_name c.args.members.now c.loop-member.member-index c.member-item.result c.loop-member-test.true c.member-item.is c.is_text.ensures c.loop-member.invariant

pub are_text-returns : goal.are_text-returns
are_text-returns t c = all_names c.args.members.now c.loop-member.member-index c.loop-member-test.false c.loop-member.invariant
