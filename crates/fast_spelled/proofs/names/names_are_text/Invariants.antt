use Rattle.fast_spelled.proofs.Looked.{TemplatesFromHere}
use Rattle.fast_spelled.proofs.names.names_are_text.Given as goal

abbrev pub invariant-loop-template : goal.invariant-loop-template
invariant-loop-template l = TemplatesFromHere l.fn.set.templates l.template-index
