-- The keys of lists as they are put together have no slot yet.
use Rattle.fast_load.proofs.Common.{◌≡◌, ◌+◌, ℕ, suc, List, [], ◌∷◌, Option, Some, None, refl, sym, ap, subst, slice_get, AllByRecursion, Part, Key, Scope, WrittenOperation, WrittenInstruction, WrittenInstructions, WrittenTemplate, written_field, written_parts, written_group, written_sequence, written_reference, no_written, then_written, listed, listed_one, Instructions, no_instructions, then_instruction, joined, keys_of, keys_of_one, Context, AreFlatLists, context_of, inside, scope_of, key_named, key_of, length_key, flat_one, flat_list}
use Rattle.fast_load.proofs.AllOf.{all_of_both, all_of_front, all_of_back}

abbrev Bare : Key → Type 0
Bare k = k.slot ≡ 0

abbrev pub AreBare : List Key → Type 0
AreBare = AllByRecursion Bare

bare_named : (scope : Scope) (key : Option (List ℕ)) (name : List ℕ) (part : Part) → (key_named scope key name part).slot ≡ 0
bare_named scope None name part = refl
bare_named scope (Some key) name part = refl

bare_key : (c : Context) (operation : WrittenOperation) (name : List ℕ) (part : Part) → (key_of c operation name part).slot ≡ 0
bare_key c operation name part = bare_named (scope_of c operation) operation.key name part

bare_length : (c : Context) (name : List ℕ) (length_name : Option (List ℕ)) (operation : WrittenOperation) → (length_key c name length_name operation).slot ≡ 0
bare_length c name None operation = bare_key c operation name _
bare_length c name (Some length_name) operation = bare_key c operation length_name _

joined_bare : (is js : Instructions) → AreBare (keys_of is) → AreBare (keys_of js) → AreBare (keys_of (joined is js))
joined_bare no_instructions js a b = b
joined_bare (then_instruction i is) js a b = all_of_both Bare (keys_of_one i) (keys_of (joined is js)) (all_of_front Bare (keys_of_one i) (keys_of is) a) (joined_bare is js (all_of_back Bare (keys_of_one i) (keys_of is) a) b)

-- where a reference leads to is bare
abbrev LeadsToBare : (List ℕ → Instructions) → WrittenInstruction → Type 0
LeadsToBare stands (written_field name kind presence operation) = Unit {0}
LeadsToBare stands (written_parts name presence exponent mantissa) = Unit {0}
LeadsToBare stands (written_group name presence around members) = Unit {0}
LeadsToBare stands (written_sequence name presence around length_name length members) = Unit {0}
LeadsToBare stands (written_reference name) = AreBare (keys_of (stands name))

mutual
  one_bare : (stands : List ℕ → Instructions) (c : Context) (i : WrittenInstruction) → AllByRecursion (LeadsToBare stands) (listed_one i) → AreBare (keys_of (flat_one stands c i))
  one_bare stands c (written_field name kind presence operation) all = (bare_key c operation name _, tt)
  one_bare stands c (written_parts name presence exponent mantissa) all = (bare_key c exponent name _, (bare_key c mantissa name _, tt))
  one_bare stands c (written_group name presence around members) all = all_of_both Bare (keys_of (flat_list stands (inside c around) members)) [] (list_bare stands (inside c around) members all.1) tt
  one_bare stands c (written_sequence name presence around length_name length members) all =
      (bare_length (inside c around) name length_name length, all_of_both Bare (keys_of (flat_list stands (inside c around) members)) [] (list_bare stands (inside c around) members all.1) tt)
  one_bare stands c (written_reference name) all = all.0

  list_bare : (stands : List ℕ → Instructions) (c : Context) (is : WrittenInstructions) → AllByRecursion (LeadsToBare stands) (listed is) → AreBare (keys_of (flat_list stands c is))
  list_bare stands c no_written all = tt
  list_bare stands c (then_written i is) all =
      joined_bare (flat_one stands c i) (flat_list stands c is) (one_bare stands c i (all_of_front (LeadsToBare stands) (listed_one i) (listed is) all)) (list_bare stands c is (all_of_back (LeadsToBare stands) (listed_one i) (listed is) all))

leads_by : (stands : List ℕ → Instructions) (written : WrittenInstruction) → ((name : List ℕ) → written ≡ written_reference name → AreBare (keys_of (stands name))) → LeadsToBare stands written
leads_by stands (written_field name kind presence operation) lead = tt
leads_by stands (written_parts name presence exponent mantissa) lead = tt
leads_by stands (written_group name presence around members) lead = tt
leads_by stands (written_sequence name presence around length_name length members) lead = tt
leads_by stands (written_reference name) lead = lead name refl

all_lead : (stands : List ℕ → Instructions) (is : List WrittenInstruction) → ((i : ℕ) (name : List ℕ) → slice_get is i ≡ Some (written_reference name) → AreBare (keys_of (stands name))) → AllByRecursion (LeadsToBare stands) is
all_lead stands [] lead = tt
all_lead stands (x ∷ xs) lead = (leads_by stands x (λ name is. lead 0 name (ap (λ w. Some w) is)), all_lead stands xs (λ i name at. lead (suc i) name at))

-- The keys of a template's list have no slot, where those of the lists that it refers to have none.
pub template_bare : (templates : List WrittenTemplate) (stands : List ℕ → Instructions) (t : ℕ) (w : WrittenTemplate) → AreFlatLists templates stands → slice_get templates t ≡ Some w
    → ((i : ℕ) (name : List ℕ) → slice_get (listed w.members) i ≡ Some (written_reference name) → AreBare (keys_of (stands name))) → AreBare (keys_of (stands w.name))
template_bare templates stands t w are at lead = subst (λ is. AreBare (keys_of is)) (sym (are t w at)) (list_bare stands (context_of (t + 1) w) w.members (all_lead stands (listed w.members) lead))
