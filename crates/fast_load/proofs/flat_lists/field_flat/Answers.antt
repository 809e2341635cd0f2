use Rattle.fast_load.proofs.Common.{ap, ◌∙◌, Whole, part_of, field_part, context_in, key_of, operation_of}
use Rattle.fast_load.proofs.FlatLaws.{field_made}
use Rattle.fast_load.proofs.flat_lists.field_flat.Goals as goal

pub returns : goal.returns
returns c = field_made c.args.name.now c.in_ok-name.name c.args.presence (field_part (context_in c.args.around) c.args.name.now c.args.kind c.args.presence (operation_of c.args.operation.now)) c.part_of.result c.in_ok-name.ensures (c.part_of.ensures (context_in c.args.around) ∙ ap (part_of (context_in c.args.around) Whole c.args.kind c.args.presence (operation_of c.args.operation.now)) (c.in_ok-key.ensures ∙ ap (λ name. key_of (context_in c.args.around) (operation_of c.args.operation.now) name Whole) c.in_ok-name.ensures))
