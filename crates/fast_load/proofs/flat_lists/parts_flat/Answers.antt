use Rattle.fast_load.proofs.Common.{[], ◌∷◌, None, get_or, ap, ◌∙◌, Int32, Int64, Mandatory, Exponent, Mantissa, part_of, exponent_part, mantissa_part, initial_in, context_in, key_of, operation_of}
use Rattle.fast_load.proofs.FlatLaws.{parts_made}
use Rattle.fast_load.proofs.KeptLaws.{first_led, second_led}
use Rattle.fast_load.proofs.flat_lists.parts_flat.Goals as goal

pub part_of-requires : goal.part_of-requires
part_of-requires c = c.in_ok-exponent_initial.ensures.value ∙ first_led (initial_in Exponent Int32 (operation_of c.args.exponent.now)) (initial_in Mantissa Int64 (operation_of c.args.mantissa.now) ∷ []) c.args.initials.now.rest.now None c.requires

pub part_of-requires-2 : goal.part_of-requires-2
part_of-requires-2 c = c.in_ok-mantissa_initial.ensures.value ∙ ap (λ l. get_or l 0 None) c.in_ok-exponent_initial.ensures.rest ∙ second_led (initial_in Exponent Int32 (operation_of c.args.exponent.now)) (initial_in Mantissa Int64 (operation_of c.args.mantissa.now)) [] c.args.initials.now.rest.now None c.requires

pub returns-clause-made : goal.returns-clause-made
returns-clause-made c =
    parts_made c.args.name.now c.in_ok-name.name c.args.presence (exponent_part (context_in c.args.around) c.args.name.now c.args.presence (operation_of c.args.exponent.now)) (mantissa_part (context_in c.args.around) c.args.name.now (operation_of c.args.mantissa.now)) c.part_of.result c.part_of-2.result c.in_ok-name.ensures
    (c.part_of.ensures (context_in c.args.around) ∙ ap (part_of (context_in c.args.around) Exponent Int32 c.args.presence (operation_of c.args.exponent.now)) (c.in_ok-exponent_key.ensures ∙ ap (λ name. key_of (context_in c.args.around) (operation_of c.args.exponent.now) name Exponent) c.in_ok-name.ensures))
    (c.part_of-2.ensures (context_in c.args.around) ∙ ap (part_of (context_in c.args.around) Mantissa Int64 Mandatory (operation_of c.args.mantissa.now)) (c.in_ok-mantissa_key.ensures ∙ ap (λ name. key_of (context_in c.args.around) (operation_of c.args.mantissa.now) name Mantissa) c.in_ok-name.ensures))
