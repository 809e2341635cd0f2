use Rattle.fast_load.proofs.Common.{ap, ◌∙◌, UInt32, Length, part_of, context_in, operation_of}
use Rattle.fast_load.proofs.flat_lists.length_of.Goals as goal

pub returns : goal.returns
returns c = c.part_of.ensures (context_in c.args.around) ∙ ap (part_of (context_in c.args.around) Length UInt32 c.args.presence (operation_of c.args.operation.now)) c.in_ok-key.ensures
