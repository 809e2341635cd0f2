use Rattle.fast_wire.proofs.Common.{◌≡◌, take, groups}
use Rattle.fast_wire.proofs.plain.is_text_of.Given as goal

abbrev pub invariant-loop-i : goal.invariant-loop-i
invariant-loop-i l = take l.i l.text ≡ take l.i (groups l.form)
