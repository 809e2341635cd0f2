use Rattle.fast_field.proofs.Common.{sym, ap, ◌∙◌, option_copied, entry_of}
use Rattle.fast_field.proofs.BestValues.{operator_allows}
use Rattle.fast_field.proofs.ChosenForms.{left_out_best, null_best, chosen_best, chosen_can, value_can}
use Rattle.fast_field.proofs.plan.choose.Goals as goal

pub returns-then-is_left_out-clause-best : goal.returns-then-is_left_out-clause-best
returns-then-is_left_out-clause-best c =
    left_out_best c.args.instr.now (entry_of c.args.kept) (option_copied c.args.value) c.requires.part c.tell_range.ensures c.in_ok-judge.ensures (sym c.is_left_out.ensures ∙ c.if-is_left_out.true)

pub pieces_of-requires-clause-judged : goal.pieces_of-requires-clause-judged
pieces_of-requires-clause-judged c = operator_allows c.args.instr.now (entry_of c.args.kept) (option_copied c.args.value) c.in_ok-judge.ensures c.in-Some.value.now (ap option_copied c.in-Some.is)

pub pieces_of-requires-clause-value : goal.pieces_of-requires-clause-value
pieces_of-requires-clause-value c = value_can c.args.instr.now (entry_of c.args.kept) (option_copied c.args.value) c.in-Some.value.now (ap option_copied c.in-Some.is) c.requires.part c.tell_range.ensures c.in_ok-judge.ensures

pub returns-in-None-clause-best : goal.returns-in-None-clause-best
returns-in-None-clause-best c = null_best c.args.instr.now (entry_of c.args.kept) (option_copied c.args.value) (ap option_copied c.in-None.is) c.in_ok-judge.ensures (sym c.is_left_out.ensures ∙ c.if-is_left_out.false)

pub returns-in-Some-clause-can : goal.returns-in-Some-clause-can
returns-in-Some-clause-can c =
    chosen_can c.args.instr.now (entry_of c.args.kept) (option_copied c.args.value) c.in-Some.value.now c.pieces_of.result (ap option_copied c.in-Some.is) c.requires.part c.requires.entry c.tell_range.ensures c.in_ok-judge.ensures c.pieces_of.ensures

pub returns-in-Some-clause-best : goal.returns-in-Some-clause-best
returns-in-Some-clause-best c =
    chosen_best c.args.instr.now (entry_of c.args.kept) (option_copied c.args.value) c.in-Some.value.now c.pieces_of.result (ap option_copied c.in-Some.is) c.requires.part c.requires.entry c.tell_range.ensures c.in_ok-judge.ensures
    (sym c.is_left_out.ensures ∙ c.if-is_left_out.false)
    c.pieces_of.ensures
