-- The first free instruction of a name.
use Rattle.std.proofs.Common.{◌≡◌, ℕ, zero, suc, ◌+◌, ◌<◌, ◌≤◌, true, false, List, [], ◌∷◌, ◌++◌, length, map, take, drop, get_or, set, Option, Some, None, is_some, option_map, ◌⊎◌, inl, inr, refl, sym, ap, ap₂, ◌∙◌, arith, subst, append_assoc}
use Rattle.std.proofs.lemmas.Bool.{cases_eq}
use Rattle.std.proofs.lemmas.List.{drop_more, drop_all, take_more}
use Rattle.std.specs.Str.{bytes_eq}
use Rattle.json.specs.Json.{Json}
use Rattle.fast_template.specs.declared.resolved.Flat.{Flat}
use Rattle.fast_template.specs.Resolved.{Instruction, Instructions, instruction_of, list_of, then_instruction}
use Rattle.fast_stream.specs.declared.message.Node.{Node}
use Rattle.fast_stream.specs.Nodes.{Item, item_of}
use Rattle.fast_spelled.specs.Spelled.{item_by, name_in}
use Rattle.fast_spelled.specs.Slots.{Slots, filled_first}
use Rattle.fast_spelled.specs.Tokens.{AreFilled, slots_of}

-- none before this place is free and of the name
abbrev pub Passed : List Flat → List (Option Node) → List ℕ → ℕ → Type 0
Passed members slots name place = (j : Json)
    → filled_first (list_of members) (slots_of slots) name j
    ≡ option_map (λ rest. slots_of (take place slots) ++ rest) (filled_first (list_of (drop place members)) (slots_of (drop place slots)) name j)

mapped_twice : {A B C : Type 0} (g : B → C) (f : A → B) (h : A → C) (o : Option A) → ((x : A) → g (f x) ≡ h x) → option_map g (option_map f o) ≡ option_map h o
mapped_twice g f h None e = refl
mapped_twice g f h (Some x) e = ap Some (e x)

pub at_first : (members : List Flat) (slots : List (Option Node)) (name : List ℕ) → Passed members slots name 0
at_first members slots name j = as_it_is (filled_first (list_of members) (slots_of slots) name j) where
  as_it_is : (o : Option Slots) → o ≡ option_map (λ rest. [] ++ rest) o
  as_it_is None = refl
  as_it_is (Some x) = refl

map-append : {A B : Type 0} (f : A → B) (xs ys : List A) → map f (xs ++ ys) ≡ map f xs ++ map f ys
map-append f [] ys = refl
map-append f (x ∷ xs) ys = ap (λ l. f x ∷ l) (map-append f xs ys)

pub get_or_any : {A : Type 0} (xs : List A) (i : ℕ) (d e : A) → i < length xs → get_or xs i d ≡ get_or xs i e
get_or_any [] i d e h = absurd (omega arith)
get_or_any (x ∷ xs) zero d e h = refl
get_or_any (x ∷ xs) (suc i) d e h = get_or_any xs i d e (omega arith)

-- not this one
other_one : (i : Instruction) (s : Option Node) (name : List ℕ) (j : Json) → (is_some s ≡ false → bytes_eq name (name_in i) ≡ false)
    → (is : Instructions) (rest : Slots) → filled_first (then_instruction i is) (option_map item_of s ∷ rest) name j ≡ option_map (λ l. option_map item_of s ∷ l) (filled_first is rest name j)
other_one i (Some n) name j h is rest = refl
other_one i None name j h is rest = rw (h refl) refl

pub passed_one : (members : List Flat) (slots : List (Option Node)) (name : List ℕ) (place : ℕ) (d : Flat) (s : Option Node) → place < length members → place < length slots
    → (is_some (get_or slots place s) ≡ false → bytes_eq name (name_in (instruction_of (get_or members place d))) ≡ false) → Passed members slots name place → Passed members slots name (place + 1)
passed_one members slots name place d s p q h before j =
    let m = get_or members place d in
    let t = get_or slots place s in
    let rest = filled_first (list_of (drop (place + 1) members)) (slots_of (drop (place + 1) slots)) name j in
    before j
    ∙ ap₂ (λ a b. option_map (λ r. slots_of (take place slots) ++ r) (filled_first (list_of a) (slots_of b) name j)) (drop_more members place d p) (drop_more slots place s q)
    ∙ ap (option_map (λ r. slots_of (take place slots) ++ r)) (other_one (instruction_of m) t name j h (list_of (drop (place + 1) members)) (slots_of (drop (place + 1) slots)))
    ∙ mapped_twice (λ r. slots_of (take place slots) ++ r) (λ l. option_map item_of t ∷ l) (λ r. slots_of (take (place + 1) slots) ++ r) rest
    (λ x. sym (append_assoc (slots_of (take place slots)) (option_map item_of t ∷ []) x) ∙ ap (λ l. l ++ x) (sym (map-append (option_map item_of) (take place slots) (t ∷ [])) ∙ ap slots_of (sym (take_more slots place s q))))

this_one : (i : Instruction) (s : Option Node) (name : List ℕ) (j : Json) (is : Instructions) (rest : Slots) → is_some s ≡ false → bytes_eq name (name_in i) ≡ true
    → filled_first (then_instruction i is) (option_map item_of s ∷ rest) name j ≡ option_map (λ n. Some n ∷ rest) (item_by i j)
this_one i (Some n) name j is rest free same = absurd (cc free)
this_one i None name j is rest free same = rw same refl

slots_set : (slots : List (Option Node)) (place : ℕ) (n : Item) → place < length slots → set (slots_of slots) place (Some n) ≡ slots_of (take place slots) ++ (Some n ∷ slots_of (drop (place + 1) slots))
slots_set [] place n h = absurd (omega arith)
slots_set (x ∷ xs) zero n h = refl
slots_set (x ∷ xs) (suc place) n h =
    let next : suc (place + 1) ≡ suc place + 1 = omega arith in
    ap (λ l. option_map item_of x ∷ l) (slots_set xs place n (omega arith))
    ∙ ap (λ k. slots_of (take (suc place) (x ∷ xs)) ++ (Some n ∷ slots_of (drop k (x ∷ xs)))) next

pub found_one : (members : List Flat) (slots : List (Option Node)) (name : List ℕ) (place : ℕ) (d : Flat) (s : Option Node) → place < length members → place < length slots
    → is_some (get_or slots place s) ≡ false → bytes_eq name (name_in (instruction_of (get_or members place d))) ≡ true → Passed members slots name place
    → (j : Json) → filled_first (list_of members) (slots_of slots) name j ≡ option_map (λ n. set (slots_of slots) place (Some n)) (item_by (instruction_of (get_or members place d)) j)
found_one members slots name place d s p q free same before j =
    let m = get_or members place d in
    let t = get_or slots place s in
    before j
    ∙ ap₂ (λ a b. option_map (λ r. slots_of (take place slots) ++ r) (filled_first (list_of a) (slots_of b) name j)) (drop_more members place d p) (drop_more slots place s q)
    ∙ ap (option_map (λ r. slots_of (take place slots) ++ r)) (this_one (instruction_of m) t name j (list_of (drop (place + 1) members)) (slots_of (drop (place + 1) slots)) free same)
    ∙ mapped_twice (λ r. slots_of (take place slots) ++ r) (λ n. Some n ∷ slots_of (drop (place + 1) slots)) (λ n. set (slots_of slots) place (Some n)) (item_by (instruction_of m) j) (λ n. sym (slots_set slots place n q))

pub none_found : (members : List Flat) (slots : List (Option Node)) (name : List ℕ) (place : ℕ) → length members ≤ place → Passed members slots name place → (j : Json) → filled_first (list_of members) (slots_of slots) name j ≡ None
none_found members slots name place h all j =
    all j ∙ ap (λ a. option_map (λ r. slots_of (take place slots) ++ r) (filled_first (list_of a) (slots_of (drop place slots)) name j)) (drop_all place members h)

-- ---- those in front that have something

there_inside : (slots : List (Option Node)) (place : ℕ) → is_some (get_or slots place None) ≡ true → place < length slots
there_inside [] place e = absurd (cc e)
there_inside (s ∷ slots) zero e = omega arith
there_inside (s ∷ slots) (suc place) e = omega (arith, there_inside slots place e)

one_passed : (members : List Flat) (slots : List (Option Node)) (name : List ℕ) (place : ℕ) → length slots ≡ length members → is_some (get_or slots place None) ≡ true → place < length members → Passed members slots name place → Passed members slots name (place + 1)
one_passed [] slots name place same full h before = absurd (omega arith)
one_passed (f ∷ fs) slots name place same full h before =
    passed_one (f ∷ fs) slots name place f None h (omega (arith, h, same)) (λ free. absurd (cc (sym full ∙ free))) before

pub passed_filled : (members : List Flat) (slots : List (Option Node)) (name : List ℕ) (front : ℕ) → length slots ≡ length members → AreFilled slots front → Passed members slots name front
passed_filled members slots name zero same full = at_first members slots name
passed_filled members slots name (suc front) same full =
    let own = full front (omega arith) in
    let inside : front < length members = omega (arith, there_inside slots front own, same) in
    let more : front + 1 ≡ suc front = omega arith in
    subst (Passed members slots name) more (one_passed members slots name front same own inside (passed_filled members slots name front same (λ place h. full place (omega (arith, h)))))

-- not this one, whatever stands where there is none
pub passed_any : (members : List Flat) (slots : List (Option Node)) (name : List ℕ) (place : ℕ) → length slots ≡ length members → place < length members
    → ((d : Flat) → is_some (get_or slots place None) ≡ false → bytes_eq name (name_in (instruction_of (get_or members place d))) ≡ false) → Passed members slots name place → Passed members slots name (place + 1)
passed_any [] slots name place same h other before = absurd (omega arith)
passed_any (f ∷ fs) slots name place same h other before = passed_one (f ∷ fs) slots name place f None h (omega (arith, h, same)) (other f) before

pub none_of : (o : Option Node) → is_some o ≡ false → o ≡ None
none_of None e = refl
none_of (Some n) e = absurd (cc e)

pub none_in_front : (slots : List (Option Node)) → AreFilled slots 0
none_in_front slots place h = absurd (omega (arith, h))

pub one_more_filled : (slots : List (Option Node)) (front : ℕ) → AreFilled slots front → is_some (get_or slots front None) ≡ true → AreFilled slots (front + 1)
one_more_filled slots front full own place h = go (cases_eq place front) where
  go : (place ≡ front) ⊎ (place ≡ front → ⊥) → is_some (get_or slots place None) ≡ true
  go (inl e) = ap (λ k. is_some (get_or slots k None)) e ∙ own
  go (inr other) = full place (omega (arith, h, other))

pub fewer_filled : (slots : List (Option Node)) (front fewer : ℕ) → AreFilled slots front → fewer ≤ front → AreFilled slots fewer
fewer_filled slots front fewer full less place h = full place (omega (arith, h, less))

still : (slots : List (Option Node)) (at place : ℕ) (n : Node) → is_some (get_or slots place None) ≡ true → is_some (get_or (set slots at (Some n)) place None) ≡ true
still [] at place n h = h
still (s ∷ slots) zero zero n h = refl
still (s ∷ slots) zero (suc place) n h = h
still (s ∷ slots) (suc at) zero n h = h
still (s ∷ slots) (suc at) (suc place) n h = still slots at place n h

pub still_filled : (slots : List (Option Node)) (front at : ℕ) (n : Node) → AreFilled slots front → AreFilled (set slots at (Some n)) front
still_filled slots front at n full place h = still slots at place n (full place h)
