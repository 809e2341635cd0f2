-- Templates that are given their slots and numbers, one after another.
use Rattle.fast_load.proofs.Common.{◌≡◌, Option, None, true≢false, unwrap_or, ◌⊎◌, inl, inr, ◌<◌, ◌≤◌, ◌+◌, ℕ, zero, suc, List, [], ◌∷◌, ◌++◌, length, take, drop, get_or, slice_set, map, Some, subst, refl, sym, ap, ◌∙◌, arith, Contains-append_right, Contains-append_cases, Contains-push_cases, Contains, IsSome, IfOk, Result, Ok, Err, AllocError, AllByRecursion, BTreeMap, btree_map_len, get, Key, FlatTemplate, key_cmp, Instruction, Instructions, whole_field, field_in_parts, group_of, sequence_of, no_instructions, then_instruction, size_of, size_of_one, keys_of, keys_of_one, numbered, numbered_one, with_keys, with_keys_of_one, Resolved, resolved_of, AreSlots, EntersKeys, settled, slot_in, HasSlots, NamesSame, identifier_key, keys_of_all}
use Rattle.std.proofs.lemmas.List.{map-append, map_push, append_assoc, append-nil, take_more, take_more_set, drop-set-lt, drop_more, take_all, length-set}

-- ---- one template

mutual
  pub size_with_keys : (f : Key → Key) (is : Instructions) → size_of (with_keys f is) ≡ size_of is
  size_with_keys f no_instructions = refl
  size_with_keys f (then_instruction i is) = λ k. size_with_keys_of_one f i k + size_with_keys f is k

  size_with_keys_of_one : (f : Key → Key) (i : Instruction) → size_of_one (with_keys_of_one f i) ≡ size_of_one i
  size_with_keys_of_one f (whole_field name number presence whole) = refl
  size_with_keys_of_one f (field_in_parts name number presence exponent mantissa) = refl
  size_with_keys_of_one f (group_of name number presence members) = ap (λ n. 1 + n) (size_with_keys f members)
  size_with_keys_of_one f (sequence_of name number presence length members) = ap (λ n. 1 + n) (size_with_keys f members)

mutual
  keys_with_keys : (f : Key → Key) (is : Instructions) → keys_of (with_keys f is) ≡ map f (keys_of is)
  keys_with_keys f no_instructions = refl
  keys_with_keys f (then_instruction i is) = (λ k. keys_with_keys_of_one f i k ++ keys_with_keys f is k) ∙ sym (map-append f (keys_of_one i) (keys_of is))

  keys_with_keys_of_one : (f : Key → Key) (i : Instruction) → keys_of_one (with_keys_of_one f i) ≡ map f (keys_of_one i)
  keys_with_keys_of_one f (whole_field name number presence whole) = refl
  keys_with_keys_of_one f (field_in_parts name number presence exponent mantissa) = refl
  keys_with_keys_of_one f (group_of name number presence members) = keys_with_keys f members
  keys_with_keys_of_one f (sequence_of name number presence length members) = ap (λ l. f length.key ∷ l) (keys_with_keys f members)

mutual
  keys_numbered : (n : ℕ) (is : Instructions) → keys_of (numbered n is) ≡ keys_of is
  keys_numbered n no_instructions = refl
  keys_numbered n (then_instruction i is) = λ k. keys_numbered_one n i k ++ keys_numbered (n + size_of_one i) is k

  keys_numbered_one : (n : ℕ) (i : Instruction) → keys_of_one (numbered_one n i) ≡ keys_of_one i
  keys_numbered_one n (whole_field name number presence whole) = refl
  keys_numbered_one n (field_in_parts name number presence exponent mantissa) = refl
  keys_numbered_one n (group_of name number presence members) = keys_numbered (n + 1) members
  keys_numbered_one n (sequence_of name number presence length members) = ap (λ l. length.key ∷ l) (keys_numbered (n + 1) members)

-- a key with its slot
abbrev pub slotted : (Key → ℕ) → Key → Key
slotted slot k = record k { slot = slot k }

pub keys_settled : (slot : Key → ℕ) (rs : List Resolved) → keys_of_all (map (settled slot) rs) ≡ map (slotted slot) (keys_of_all rs)
keys_settled slot [] = refl
keys_settled slot (r ∷ rs) =
    (λ k. (keys_numbered 1 (with_keys (slotted slot) r.members) ∙ keys_with_keys (slotted slot) r.members) k ++ keys_settled slot rs k)
    ∙ sym (map-append (slotted slot) (keys_of r.members) (keys_of_all rs))

-- ---- the slots that they have then

found_from : (f : Key → Key) (ks : List Key) (j : ℕ) (x : Key) → j < length (map f ks) → get_or (map f ks) j x ≡ x → (k : Key) × Contains ks k × (f k ≡ x)
found_from f [] j x lt e = absurd (omega (arith, lt))
found_from f (k ∷ ks) zero x lt e = (k, (0, omega arith, refl), e)
found_from f (k ∷ ks) (suc j) x lt e =
    let at = found_from f ks j x (omega (arith, lt)) e in
    (at.0, Contains-append_right (k ∷ []) ks at.0 at.1, at.2)

has_from : {A B : Type 0} (f : A → B) (ks : List A) (j : ℕ) (k : A) → j < length ks → get_or ks j k ≡ k → Contains (map f ks) (f k)
has_from f [] j k lt e = absurd (omega (arith, lt))
has_from f (x ∷ ks) zero k lt e = (0, omega arith, ap f e)
has_from f (x ∷ ks) (suc j) k lt e = Contains-append_right (f x ∷ []) (map f ks) (f k) (has_from f ks j k (omega (arith, lt)) e)

has_slot : (o : Option ℕ) → IsSome o → (s : ℕ) × (o ≡ Some s)
has_slot None e = absurd (true≢false (sym e))
has_slot (Some s) e = (s, refl)

module _ (m : BTreeMap Key ℕ) (bare : List Key) (are : AreSlots m bare) (no_slot : (k : Key) → Contains bare k → k.slot ≡ 0) where
  abbrev give : Key → Key
  give = slotted (slot_in m)

  names_same : (k l : Key) → Contains bare k → Contains bare l → NamesSame (give k) (give l) → k ≡ l
  names_same k l a b same = λ i. record { slot = (no_slot k a ∙ sym (no_slot l b)) i; scope = same.0 i; name = same.1 i; part = same.2 i }

  slot_is : (k : Key) → Contains bare k → get key_cmp m k ≡ Some (slot_in m k)
  slot_is k found = let s = has_slot (get key_cmp m k) (are.known k found) in s.1 ∙ ap (λ o. Some (unwrap_or o 0)) (sym s.1)

  pub given_slots : HasSlots (map give bare) (btree_map_len m)
  given_slots = record {
    below = λ x found. let k = found_from give bare found.0 x found.1 found.2 in subst (λ y. y.slot < btree_map_len m) k.2 (are.below k.0 (slot_in m k.0) (slot_is k.0 k.1));
    one_slot = λ x y there here same.
        let k = found_from give bare there.0 x there.1 there.2 in
        let l = found_from give bare here.0 y here.1 here.2 in
        let names : NamesSame (give k.0) (give l.0) = subst (λ z. NamesSame z (give l.0)) (sym k.2) (subst (λ z. NamesSame x z) (sym l.2) same) in
        ap (λ z. z.slot) (sym k.2 ∙ ap give (names_same k.0 l.0 k.1 l.1 names) ∙ l.2);
    one_key = λ x y there here same.
        let k = found_from give bare there.0 x there.1 there.2 in
        let l = found_from give bare here.0 y here.1 here.2 in
        let slots : slot_in m k.0 ≡ slot_in m l.0 = ap (λ z. z.slot) k.2 ∙ same ∙ sym (ap (λ z. z.slot) l.2) in
        let equal = are.one_key k.0 l.0 (slot_in m k.0) (slot_is k.0 k.1) (slot_is l.0 l.1 ∙ ap (λ n. Some n) (sym slots)) in
        let z : x ≡ y = sym k.2 ∙ ap give equal ∙ l.2 in
        (ap (λ w. w.scope) z, ap (λ w. w.name) z, ap (λ w. w.part) z);
    each_used = λ n lt.
        let at = are.each_used n lt in
        let slot : slot_in m at.0 ≡ n = ap (λ o. unwrap_or o 0) at.2 in
        let there = has_from give bare at.1.0 at.0 at.1.1 at.1.2 in
        subst (λ s. Contains (map (λ k. k.slot) (map give bare)) s) slot (has_from (λ k. k.slot) (map give bare) there.0 (give at.0) there.1 there.2);
  }

-- ---- whole lists

keys_join_all : (xs : List Resolved) (r : Resolved) → keys_of_all (xs ++ r ∷ []) ≡ keys_of_all xs ++ keys_of r.members
keys_join_all [] r = append-nil (keys_of r.members)
keys_join_all (x ∷ xs) r = ap (λ l. keys_of x.members ++ l) (keys_join_all xs r) ∙ sym (append_assoc (keys_of x.members) (keys_of_all xs) (keys_of r.members))

pub all_more : (ts : List FlatTemplate) (i : ℕ) (d : FlatTemplate) → i < length ts → keys_of_all (map resolved_of (take (i + 1) ts)) ≡ keys_of_all (map resolved_of (take i ts)) ++ keys_of (resolved_of (get_or ts i d)).members
all_more ts i d lt = ap (λ l. keys_of_all (map resolved_of l)) (take_more ts i d lt) ∙ ap keys_of_all (map_push resolved_of (take i ts) (get_or ts i d)) ∙ keys_join_all (map resolved_of (take i ts)) (resolved_of (get_or ts i d))

-- those before i are settled, and the others are as they were
pub record Partly (g : Resolved → Resolved) (now before : List FlatTemplate) (i : ℕ) : Type 0 where
  pub front : map resolved_of (take i now) ≡ map g (map resolved_of (take i before))
  pub back : drop i now ≡ drop i before
  pub long : length now ≡ length before

map_join_by : (g : Resolved → Resolved) (ts : List FlatTemplate) (t : FlatTemplate) → map g (map resolved_of (ts ++ t ∷ [])) ≡ map g (map resolved_of ts) ++ g (resolved_of t) ∷ []
map_join_by g [] t = refl
map_join_by g (x ∷ ts) t = ap (λ l. g (resolved_of x) ∷ l) (map_join_by g ts t)

heads_same : (x y : FlatTemplate) (xs ys : List FlatTemplate) → x ∷ xs ≡ y ∷ ys → (x ≡ y) × (xs ≡ ys)
heads_same x y xs ys e = (cc, cc)

-- the one at i is still as it was
pub at_same : (g : Resolved → Resolved) (now before : List FlatTemplate) (i : ℕ) (d : FlatTemplate) → i < length now → Partly g now before i → get_or now i d ≡ get_or before i d
at_same g now before i d lt p =
    (heads_same (get_or now i d) (get_or before i d) (drop (i + 1) now) (drop (i + 1) before) (sym (drop_more now i d lt) ∙ p.back ∙ drop_more before i d (omega (arith, lt, p.long)))).0

pub settled_more : (g : Resolved → Resolved) (now before : List FlatTemplate) (i : ℕ) (t d : FlatTemplate) → i < length now → Partly g now before i → resolved_of t ≡ g (resolved_of (get_or now i d)) → Partly g (slice_set now i t) before (i + 1)
settled_more g now before i t d lt p is =
    let there : i < length before = omega (arith, lt, p.long) in
    let same = heads_same (get_or now i d) (get_or before i d) (drop (i + 1) now) (drop (i + 1) before) (sym (drop_more now i d lt) ∙ p.back ∙ drop_more before i d there) in
    record {
      front = ap (map resolved_of) (take_more_set now i t lt) ∙ map_push resolved_of (take i now) t ∙ (λ k. p.front k ++ (is ∙ ap (λ z. g (resolved_of z)) same.0) k ∷ []) ∙ sym (map_join_by g (take i before) (get_or before i d)) ∙ ap (λ l. map g (map resolved_of l)) (sym (take_more before i d there));
      back = drop-set-lt (i + 1) now i t (omega arith) ∙ same.1;
      long = length-set now i t ∙ p.long;
    }

pub settled_all : (g : Resolved → Resolved) (now before : List FlatTemplate) (i : ℕ) → length now ≤ i → Partly g now before i → map resolved_of now ≡ map g (map resolved_of before)
settled_all g now before i le p = ap (map resolved_of) (sym (take_all i now le)) ∙ p.front ∙ ap (λ l. map g (map resolved_of l)) (take_all i before (omega (arith, le, p.long)))

pub small_at : (P : Resolved → Type 0) (ts : List FlatTemplate) (i : ℕ) (d : FlatTemplate) → i < length ts → AllByRecursion P (map resolved_of ts) → P (resolved_of (get_or ts i d))
small_at P [] i d lt all = absurd (omega (arith, lt))
small_at P (t ∷ ts) zero d lt all = all.0
small_at P (t ∷ ts) (suc i) d lt all = small_at P ts i d (omega (arith, lt)) all.1

-- ---- the first keys, and all of them

pub enters_all : (m n : BTreeMap Key ℕ) (keys : List Key) → AreSlots m (identifier_key ∷ []) → EntersKeys m n keys → AreSlots n (identifier_key ∷ keys)
enters_all m n keys are enters = enters.slots (identifier_key ∷ []) are

identifier_or : (keys : List Key) → ((k : Key) → Contains keys k → k.slot ≡ 0) → (k : Key) → Contains (identifier_key ∷ []) k ⊎ Contains keys k → k.slot ≡ 0
identifier_or keys bare k (inl found) = only_identifier k (Contains-push_cases [] identifier_key k found) where
  only_identifier : (k : Key) → Contains [] k ⊎ (identifier_key ≡ k) → k.slot ≡ 0
  only_identifier k (inl found) = absurd (omega (arith, found.1))
  only_identifier k (inr same) = ap (λ z. z.slot) (sym same)
identifier_or keys bare k (inr found) = bare k found

-- templates that are settled have the slots of the map
pub settled_slots : (m n : BTreeMap Key ℕ) (rs : List Resolved) → AreSlots m (identifier_key ∷ []) → EntersKeys m n (keys_of_all rs) → ((k : Key) → Contains (keys_of_all rs) k → k.slot ≡ 0)
    → HasSlots (identifier_key ∷ keys_of_all (map (settled (slot_in n)) rs)) (btree_map_len n)
settled_slots m n rs are enters bare =
    let all = enters_all m n (keys_of_all rs) are enters in
    let has = given_slots n (identifier_key ∷ keys_of_all rs) all (λ k found. identifier_or (keys_of_all rs) bare k (Contains-append_cases (identifier_key ∷ []) (keys_of_all rs) k found)) in
    let first : slotted (slot_in n) identifier_key ≡ identifier_key = ap (λ o. record identifier_key { slot = unwrap_or o 0 }) all.identifier in
    subst (λ l. HasSlots l (btree_map_len n)) (λ i. first i ∷ sym (keys_settled (slot_in n) rs) i) has

pub counted_slots : (r : Result ℕ AllocError) (keys : List Key) (n : ℕ) → HasSlots keys n → IfOk r (λ slots. slots ≡ n) → IfOk r (λ slots. HasSlots keys slots)
counted_slots (Ok x) keys n has same = subst (HasSlots keys) (sym same) has
counted_slots (Err e) keys n has same = same
