use Rattle.fast_value.proofs.Common.{arith, sym, ◌∙◌, leb-true}
use Rattle.fast_value.proofs.HexTexts.{spells_by_digits, odd_spells_none, long_spells_none}
use Rattle.fast_value.proofs.initial.spells_bytes.Goals as goal
use Rattle.fast_value.proofs.initial.spells_bytes.Goals.{then-text, else-text}

pub returns-then-text-eq0 : goal.returns-then-text-eq0
returns-then-text-eq0 c = elim c.if-text.branch [
  | then-text w ↦ c.are_hex_digits.ensures ∙ spells_by_digits c.args.text.now w.if-text.true (sym w.value-is ∙ c.if-text-eq0.true)
  | else-text w ↦ let many = w.if-text.false in let few = leb-true _ _ (sym w.value-is ∙ c.if-text-eq0.true) in absurd (omega (arith, many, few))
]

pub returns-else-text-eq0 : goal.returns-else-text-eq0
returns-else-text-eq0 c = elim c.if-text.branch [
  | then-text w ↦ c.if-text-eq0.false ∙ odd_spells_none c.args.text.now w.if-text.true (sym w.value-is ∙ c.if-text-eq0.false)
  | else-text w ↦ c.if-text-eq0.false ∙ long_spells_none c.args.text.now w.if-text.false
]
