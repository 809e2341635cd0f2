-- A set that nests too deep fails that check.
use Rattle.fast_load.proofs.Common.{◌≡◌, ℕ, zero, suc, List, [], ◌∷◌, None, refl, ap, subst, lit<, option_map_or, codes, UInt32, Mandatory, Plain, WrittenInstruction, written_field, written_group, written_list, WrittenTemplate, Instructions, no_instructions, context_of, flat_list, AreFlatLists, nests_little, Fails, by, nothing_around, template}

abbrev nested : ℕ → WrittenInstruction
nested zero = written_field (codes "F") UInt32 Mandatory (by Plain)
nested (suc n) = written_group (codes "G") Mandatory nothing_around (written_list (nested n ∷ []))

abbrev deep : WrittenTemplate
deep = template (codes "T") None (nested 9 ∷ [])

abbrev stands : List ℕ → Instructions
stands name = flat_list (λ _. no_instructions) (context_of 1 deep) deep.members

solution : AreFlatLists (deep ∷ []) stands
solution zero t is = let same : deep ≡ t = ap (λ o. option_map_or (λ v. v) o deep) is in subst (λ v. stands v.name ≡ flat_list stands (context_of 1 v) v.members) same refl
solution (suc i) t is = absurd (cc is)

too_deep : Fails (deep ∷ []) (nests_little 1)
too_deep = (stands, deep, solution, refl, lit< tt)
