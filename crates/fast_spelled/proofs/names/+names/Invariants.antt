use Rattle.fast_spelled.proofs.Looked.{FromHere}
use Rattle.fast_spelled.proofs.names.+names.Given as goal

abbrev pub invariant-are_text-loop-member : goal.invariant-are_text-loop-member
invariant-are_text-loop-member l = FromHere l.members l.member-index
