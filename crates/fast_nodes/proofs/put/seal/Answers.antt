use Rattle.std.proofs.Common.{inl, inr, sym, ◌∙◌}
use Rattle.fast_nodes.proofs.put.seal.Goals as goal

pub returns-in-Err-TooLong : goal.returns-in-Err-TooLong
returns-in-Err-TooLong c = record {
  why = elim c.in-Err-TooLong.ensures.refused [
    | inl memory ↦ absurd (let both = sym c.in-Err-TooLong.field-0-is ∙ memory in cc)
    | inr many ↦ inr (c.refuse.ensures, many.1)
  ];
  unchanged = c.in-Err-TooLong.ensures.unchanged;
}
