use Rattle.std.proofs.Common.{sym, subst}
use Rattle.std.specs.Prelude.{IsTrue}
use Rattle.std.specs.Cmp.{eq_by_cmp_equiv}
use Rattle.std.proofs.lemmas.Map.Views.{list_any-from_Contains}
use Rattle.fast_value.specs.Key.{key_cmp-total}
use Rattle.fast_template.specs.TemplateSets.{keys_in}
use Rattle.message_tests.proofs.slots.slots_of.Goals as goal

-- slots serve the keys of their set
pub returns-in-Ok : goal.returns-in-Ok
returns-in-Ok c = λ k found. subst (λ f. IsTrue (f k)) (sym c.in-Ok.ensures.keys) (list_any-from_Contains (eq_by_cmp_equiv key_cmp-total) k (keys_in c.args.on.now.set) found)
