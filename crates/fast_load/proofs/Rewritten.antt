-- A list of instructions that is rewritten from its front, one after another.
use Rattle.fast_load.proofs.Common.{◌≡◌, ◌<◌, ◌≤◌, ◌+◌, ℕ, List, [], ◌∷◌, ◌++◌, length, take, drop, get_or, slice_set, refl, ap, ◌∙◌, arith, take_more_set, drop-set-lt, drop_more, take_all, drop_all, length-set, get_or-set_other, Flat, Instructions, no_instructions, then_instruction, instruction_of, list_of, joined}

pub joined_end : (is : Instructions) → joined is no_instructions ≡ is
joined_end no_instructions = refl
joined_end (then_instruction i is) = ap (then_instruction i) (joined_end is)

joined_one_more : (xs : List Flat) (f : Flat) (js : Instructions) → joined (list_of (xs ++ f ∷ [])) js ≡ joined (list_of xs) (then_instruction (instruction_of f) js)
joined_one_more [] f js = refl
joined_one_more (x ∷ xs) f js = ap (then_instruction (instruction_of x)) (joined_one_more xs f js)

-- the one at i, once it is rewritten, is the last of those that are
pub front_more : (flats : List Flat) (i : ℕ) (f : Flat) (js : Instructions) → i < length flats
    → joined (list_of (take (i + 1) (slice_set flats i f))) js ≡ joined (list_of (take i flats)) (then_instruction (instruction_of f) js)
front_more flats i f js lt = ap (λ l. joined (list_of l) js) (take_more_set flats i f lt) ∙ joined_one_more (take i flats) f js

-- and those behind it are as they were
pub back_stays : (flats : List Flat) (i : ℕ) (f : Flat) → drop (i + 1) (slice_set flats i f) ≡ drop (i + 1) flats
back_stays flats i f = drop-set-lt (i + 1) flats i f (omega arith)

pub back_is : (flats : List Flat) (i : ℕ) (d : Flat) → i < length flats → list_of (drop i flats) ≡ then_instruction (instruction_of (get_or flats i d)) (list_of (drop (i + 1) flats))
back_is flats i d lt = ap list_of (drop_more flats i d lt)

-- at the end all are rewritten
pub all_front : (flats : List Flat) (i : ℕ) → length flats ≤ i → (js : Instructions) → joined (list_of (take i flats)) js ≡ joined (list_of flats) js
all_front flats i le js = ap (λ l. joined (list_of l) js) (take_all i flats le)

pub no_back : (flats : List Flat) (i : ℕ) → length flats ≤ i → list_of (drop i flats) ≡ no_instructions
no_back flats i le = ap list_of (drop_all i flats le)

-- those not yet rewritten are those that were there
pub unvisited_more : (xs ys : List Flat) (i : ℕ) (f : Flat) → (length xs ≡ length ys) × ((k : ℕ) (d : Flat) → i ≤ k → get_or xs k d ≡ get_or ys k d)
    → (length (slice_set xs i f) ≡ length ys) × ((k : ℕ) (d : Flat) → i + 1 ≤ k → get_or (slice_set xs i f) k d ≡ get_or ys k d)
unvisited_more xs ys i f u = (length-set xs i f ∙ u.0, λ k d le. get_or-set_other xs i k f d (λ e. omega (arith, e, le)) ∙ u.1 k d (omega arith))
