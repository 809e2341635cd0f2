use Rattle.fast_load.proofs.Common.{map, ap, ◌∙◌, arith, common_steps, instruction_of}
use Rattle.fast_load.proofs.FlatLaws.{group_again, sequence_again}
use Rattle.fast_load.proofs.flat_lists.+copies.Goals as goal

pub copy_all-loop-flat-preserved : goal.copy_all-loop-flat-preserved
copy_all-loop-flat-preserved t c = grind (arith, common_steps)

pub copy_all-returns : goal.copy_all-returns
copy_all-returns t c = grind (arith, common_steps)

pub copy_one-returns-in_ok-copy_all-in-Group : goal.copy_one-returns-in_ok-copy_all-in-Group
copy_one-returns-in_ok-copy_all-in-Group t c = group_again c.args.flat.now c.in-Group.name c.in_ok-copy-in-Group.field-0 c.in-Group.number c.in-Group.presence c.in-Group.members c.in_ok-copy_all-in-Group.field-0 c.in-Group.is c.in_ok-copy-in-Group.ensures (c.in_ok-copy_all-in-Group.ensures ∙ ap (map instruction_of) c.deref.ensures.value)

pub copy_one-returns-in_ok-copy_all-in-Sequence :
    goal.copy_one-returns-in_ok-copy_all-in-Sequence
copy_one-returns-in_ok-copy_all-in-Sequence t c = sequence_again c.args.flat.now c.in-Sequence.name c.in_ok-copy-in-Sequence.field-0 c.in-Sequence.number c.in-Sequence.presence c.in-Sequence.length c.in_ok-copy_part-in-Sequence.field-0 c.in-Sequence.members c.in_ok-copy_all-in-Sequence.field-0 c.in-Sequence.is c.in_ok-copy-in-Sequence.ensures c.in_ok-copy_part-in-Sequence.ensures (c.in_ok-copy_all-in-Sequence.ensures ∙ ap (map instruction_of) c.deref-in-Sequence.ensures.value)
