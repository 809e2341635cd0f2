use Rattle.std.proofs.Common.{inl, inr, refl}
use Rattle.fast_take.proofs.AtOnce.{whole_part}
use Rattle.fast_take.proofs.at_once.judge.Goals as goal

pub judge_other_kind-requires-clause-whole : goal.judge_other_kind-requires-clause-whole
judge_other_kind-requires-clause-whole c =
    whole_part c.args.instr.now.part c.args.instr.now.kind c.requires.part.kind_of_part
    (elim c.in-Decimal.is [ inl decimal ↦ rw decimal refl | inr some ↦ elim some [ inl ascii ↦ rw ascii refl | inr vector ↦ elim vector [ inl unicode ↦ rw unicode refl | inr bytes ↦ rw bytes refl ] ] ])
