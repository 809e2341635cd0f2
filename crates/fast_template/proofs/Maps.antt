-- Bits of lists as they lie in memory.
use Rattle.fast_template.proofs.Common.{◌≡◌, List, [], ◌∷◌, ◌||◌, refl, ap, list_any, Flat, instruction_of, list_of, takes_bit, has_map}

-- a list has a map if some instruction in it takes a bit
pub has_map_any : (flats : List Flat) → has_map (list_of flats) ≡ list_any (λ f. takes_bit (instruction_of f)) flats
has_map_any [] = refl
has_map_any (f ∷ fs) = ap (λ b. takes_bit (instruction_of f) || b) (has_map_any fs)
