-- A shortest presence map is not overlong.
use Rattle.fast_wire.proofs.Common.{◌≡◌, ℕ, zero, suc, ◌+◌, ◌%◌, ◌≤◌, Bool, true, false, List, [], ◌∷◌, ◌++◌, length, refl, sym, ap, ◌∙◌, arith, IsEntity, groups, group_bits, bits_of, bit_at, IsMap, IsWholeMap, BeginsShort, last_is_zero, overlong_map, some_set}
use Rattle.fast_wire.proofs.NotOverlong.{whole_short}

-- the stop bit one byte earlier, and no last group
abbrev one_less : List ℕ → List ℕ
one_less [] = []
one_less (x ∷ []) = []
one_less (x ∷ y ∷ []) = (x + 128) ∷ []
one_less (x ∷ y ∷ z ∷ zs) = x ∷ one_less (y ∷ z ∷ zs)

less_length : (x y : ℕ) (ys : List ℕ) → length (one_less (x ∷ y ∷ ys)) ≡ suc (length ys)
less_length x y [] = refl
less_length x y (z ∷ zs) = ap suc (less_length y z zs)

less_entity : (x y : ℕ) (ys : List ℕ) → IsEntity (x ∷ y ∷ ys) → IsEntity (one_less (x ∷ y ∷ ys))
less_entity x y [] h = let low = h.0 in (omega arith, omega arith)
less_entity x y (z ∷ []) h = (h.0, less_entity y z [] h.1)
less_entity x y (z ∷ z' ∷ zs) h = (h.0, less_entity y z (z' ∷ zs) h.1)

-- seven zeros stand for no bits
no_bit : (i : ℕ) → bit_at (group_bits 0 ++ []) i ≡ false
no_bit zero = refl
no_bit (suc zero) = refl
no_bit (suc (suc zero)) = refl
no_bit (suc (suc (suc zero))) = refl
no_bit (suc (suc (suc (suc zero)))) = refl
no_bit (suc (suc (suc (suc (suc zero))))) = refl
no_bit (suc (suc (suc (suc (suc (suc zero)))))) = refl
no_bit (suc (suc (suc (suc (suc (suc (suc i))))))) = refl

-- behind the same seven bits
behind_group : (g : ℕ) (p q : List Bool) → ((i : ℕ) → bit_at p i ≡ bit_at q i) → (i : ℕ) → bit_at (group_bits g ++ p) i ≡ bit_at (group_bits g ++ q) i
behind_group g p q same zero = refl
behind_group g p q same (suc zero) = refl
behind_group g p q same (suc (suc zero)) = refl
behind_group g p q same (suc (suc (suc zero))) = refl
behind_group g p q same (suc (suc (suc (suc zero)))) = refl
behind_group g p q same (suc (suc (suc (suc (suc zero))))) = refl
behind_group g p q same (suc (suc (suc (suc (suc (suc zero)))))) = refl
behind_group g p q same (suc (suc (suc (suc (suc (suc (suc i))))))) = same i

less_bits : (x y : ℕ) (ys : List ℕ) → IsEntity (x ∷ y ∷ ys) → last_is_zero (groups (y ∷ ys)) ≡ true → (i : ℕ) → bit_at (bits_of (groups (one_less (x ∷ y ∷ ys)))) i ≡ bit_at (bits_of (groups (x ∷ y ∷ ys))) i
less_bits x y [] h e i =
    let none : y % 128 ≡ 0 = grind arith in
    let same : (x + 128) % 128 ≡ x % 128 = omega arith in
    ap (λ g. bit_at (group_bits g ++ []) i) same
    ∙ behind_group (x % 128) [] (group_bits 0 ++ []) (λ j. sym (no_bit j)) i
    ∙ ap (λ g. bit_at (group_bits (x % 128) ++ group_bits g ++ []) i) (sym none)
less_bits x y (z ∷ zs) h e i =
    behind_group (x % 128) (bits_of (groups (one_less (y ∷ z ∷ zs)))) (bits_of (groups (y ∷ z ∷ zs))) (less_bits y z zs h.1 e) i

-- no map of the same bits is shorter
map_short : (bytes : List ℕ) (bits : List Bool) → IsWholeMap bytes bits → ((others : List ℕ) → IsMap others bits → length bytes ≤ length others) → overlong_map bytes ≡ false
map_short [] bits h least = absurd h.entity
map_short (x ∷ []) bits h least = refl
map_short (x ∷ y ∷ ys) bits h least = by_last (last_is_zero (groups (y ∷ ys))) refl
  where
    by_last : (t : Bool) → last_is_zero (groups (y ∷ ys)) ≡ t → t ≡ false
    by_last false e = refl
    by_last true e =
        let long = less_length x y ys in
        let short = h.short in
        let more = least (one_less (x ∷ y ∷ ys)) (record {
          entity = less_entity x y ys h.entity;
          short = omega arith;
          value = λ i. less_bits x y ys h.entity e i ∙ ap (λ (l : List Bool). bit_at l i) (sym h.value);
        }) in
        absurd (omega arith)

pub shortest_map_begins : (bytes : List ℕ) (bits : List Bool) → IsWholeMap bytes bits → ((others : List ℕ) → IsMap others bits → length bytes ≤ length others) → BeginsShort overlong_map bytes
shortest_map_begins bytes bits h least = whole_short overlong_map bytes h.entity (map_short bytes bits h least)

-- where each bit is 0 none is 1
pub none_set : (bits : List Bool) → ((i : ℕ) → bit_at bits i ≡ false) → some_set bits ≡ false
none_set [] none = refl
none_set (true ∷ bits) none = none 0
none_set (false ∷ bits) none = none_set bits (λ i. none (suc i))
