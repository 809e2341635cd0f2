use Rattle.std.proofs.Common.{arith, subst, sym}
use Rattle.std.specs.Prelude.{Contains, IfSome}
use Rattle.fast_template.specs.declared.resolved.Flat.{Flat}
use Rattle.fast_template.specs.Resolved.{instruction_of, keys_of_one}
use Rattle.field_tests.proofs.FoundKeys.{key_of_found}
use Rattle.field_tests.proofs.entries.key_at.Goals as goal

pub returns-in-Some : goal.returns-in-Some
returns-in-Some c =
    key_of_found c.args.set.now 1 c.in-Some.template.now c.args.place c.index.result.now c.key_of.result (sym (rw c.in-Some.is at c.find.ensures.value)) (omega arith)
    (subst (λ (f : Flat). IfSome c.key_of.result (λ k. Contains (keys_of_one (instruction_of f)) k.now)) c.index.ensures c.key_of.ensures)
