-- Templates have one first fault.
use Rattle.fast_load.proofs.Common.{◌≡◌, ℕ, zero, suc, List, ◌∷◌, refl, sym, ap, ◌∙◌, Ordering, Less, Equal, Greater, nat_cmp, ordering_reverse, nat_cmp-IsAntisymmetric, slice_cmp-IsAntisymmetric, slice_cmp, nat_list_cmp_total, LoadFault, WrittenTemplate, Check, few_templates, names_well_made, name_new, id_new, operator_allowed, constant_has_value, default_has_value, value_spelled, reference_known, off_cycles, nests_little, sum_small, turn_of, fault_of, IsFirstFault}

-- the check of a turn
abbrev check_of : List ℕ → Check
check_of (suc zero ∷ t ∷ i ∷ ns) = names_well_made t i
check_of (suc (suc zero) ∷ t ∷ zero ∷ ns) = name_new t
check_of (suc (suc zero) ∷ t ∷ suc r ∷ ns) = id_new t
check_of (suc (suc (suc zero)) ∷ t ∷ i ∷ p ∷ zero ∷ ns) = operator_allowed t i p
check_of (suc (suc (suc zero)) ∷ t ∷ i ∷ p ∷ suc zero ∷ ns) = constant_has_value t i p
check_of (suc (suc (suc zero)) ∷ t ∷ i ∷ p ∷ suc (suc zero) ∷ ns) = default_has_value t i p
check_of (suc (suc (suc zero)) ∷ t ∷ i ∷ p ∷ suc (suc (suc r)) ∷ ns) = value_spelled t i p
check_of (suc (suc (suc (suc zero))) ∷ t ∷ i ∷ ns) = reference_known t i
check_of (suc (suc (suc (suc (suc zero)))) ∷ t ∷ ns) = off_cycles t
check_of (suc (suc (suc (suc (suc (suc n))))) ∷ t ∷ zero ∷ ns) = nests_little t
check_of (suc (suc (suc (suc (suc (suc n))))) ∷ t ∷ suc r ∷ ns) = sum_small t
check_of ns = few_templates

check_of-turn_of : (c : Check) → check_of (turn_of c) ≡ c
check_of-turn_of few_templates = refl
check_of-turn_of (names_well_made t i) = refl
check_of-turn_of (name_new t) = refl
check_of-turn_of (id_new t) = refl
check_of-turn_of (operator_allowed t i p) = refl
check_of-turn_of (constant_has_value t i p) = refl
check_of-turn_of (default_has_value t i p) = refl
check_of-turn_of (value_spelled t i p) = refl
check_of-turn_of (reference_known t i) = refl
check_of-turn_of (off_cycles t) = refl
check_of-turn_of (nests_little t) = refl
check_of-turn_of (sum_small t) = refl

by_order : (ts : List WrittenTemplate) (f g : LoadFault) (a : IsFirstFault ts f) (b : IsFirstFault ts g) (o : Ordering) → slice_cmp nat_cmp (turn_of a.check) (turn_of b.check) ≡ o → f ≡ g
by_order ts f g a b Less e = absurd (b.first a.check e a.fails)
by_order ts f g a b Equal e =
    let turns : turn_of a.check ≡ turn_of b.check = slice_cmp-IsAntisymmetric nat_cmp-IsAntisymmetric _ _ e in
    let checks : a.check ≡ b.check = sym (check_of-turn_of a.check) ∙ ap check_of turns ∙ check_of-turn_of b.check in
    a.answered ∙ ap fault_of checks ∙ sym b.answered
by_order ts f g a b Greater e = absurd (a.first b.check (nat_list_cmp_total.antisymm (turn_of b.check) (turn_of a.check) ∙ ap ordering_reverse e) b.fails)

pub one_fault : (ts : List WrittenTemplate) (f g : LoadFault) → IsFirstFault ts f → IsFirstFault ts g → f ≡ g
one_fault ts f g a b = by_order ts f g a b _ refl
