use Rattle.fast_load.proofs.Common.{◌≡◌, take, LeadsToFirst}
use Rattle.fast_load.proofs.id_places.id_places.Given as goal

abbrev pub invariant-loop-template : goal.invariant-loop-template
invariant-loop-template l = record {
  place : l.place ≡ l.template-index;
  lead : LeadsToFirst l.places (take l.template-index l.templates);
}
