-- Giving slots to the keys of instructions.
use Rattle.fast_load.proofs.Common.{◌≡◌, Option, Some, None, ◌⊎◌, inl, inr, zero, suc, ◌<◌, ◌+◌, ℕ, List, [], ◌∷◌, ◌++◌, length, take, drop, get_or, slice_set, true≢false, subst, ◌≤◌, refl, sym, ap, ◌∙◌, arith, eq-or-lt_of_le, Key, Global, Presence, FieldPart, Flat, fold-roll-Flat, Flat-F, rolls-Parts, rolls-Sequence, Instruction, Instructions, flat_step, then_instruction, instruction_of, list_of, joined, with_keys, with_keys_of_one, keys_of, keys_of_one, Contains, IsSome, OnOk, Result, Ok, Err, is_eq, Ordering, Less, Equal, Greater, BTreeMap, Updates, btree_map_len, get, Contains-push, Contains-push_cases, Contains-append_left, key_cmp, key_cmp-exact, identifier_key, AreSlots, EntersKeys}
use Rattle.std.proofs.lemmas.List.{append-nil, append_assoc, length-append, take_more}
use Rattle.std.specs.declared.vec.Vec.{Vec}
use Rattle.fast_template.specs.declared.resolved.Flat.TheVariants as flat
use Rattle.fast_load.proofs.Rewritten.{front_more, back_stays, back_is}

none_or_some : (o : Option ℕ) (s : ℕ) → o ≡ None → o ≡ Some s → ⊥
none_or_some None s n e = absurd cc
none_or_some (Some t) s n e = absurd cc

same_some : (a b : ℕ) → Some a ≡ Some b → a ≡ b
same_some a b e = cc

some_is : (o p : Option ℕ) → ((s : ℕ) → o ≡ Some s → p ≡ Some s) → IsSome o → IsSome p
some_is None p go is = absurd (true≢false (sym is))
some_is (Some s) p go is = subst IsSome (sym (go s refl)) refl

less_or_same : (s n : ℕ) → s < n + 1 → (s < n) ⊎ (s ≡ n)
less_or_same s n lt = turned (eq-or-lt_of_le {n = s} {m = n} (omega (arith, lt))) where
  turned : (s ≡ n) ⊎ (s < n) → (s < n) ⊎ (s ≡ n)
  turned (inl e) = inr e
  turned (inr e) = inl e

-- those before i have their keys, and the others have once they are given theirs
abbrev pub partly : (Key → Key) → List Flat → ℕ → Instructions
partly f flats i = joined (list_of (take i flats)) (with_keys f (list_of (drop i flats)))

pub one_more : (g : Key → Key) (flats : List Flat) (i : ℕ) (f d : Flat) → i < length flats → instruction_of f ≡ with_keys_of_one g (instruction_of (get_or flats i d))
    → partly g (slice_set flats i f) (i + 1) ≡ partly g flats i
one_more g flats i f d lt is =
    let rest = with_keys g (list_of (drop (i + 1) flats)) in
    ap (λ l. joined (list_of (take (i + 1) (slice_set flats i f))) (with_keys g (list_of l))) (back_stays flats i f)
    ∙ front_more flats i f rest lt
    ∙ ap (λ j. joined (list_of (take i flats)) (then_instruction j rest)) is
    ∙ ap (λ js. joined (list_of (take i flats)) (with_keys g js)) (sym (back_is flats i d lt))

-- ---- the keys of a list, one instruction more

keys_join : (xs : List Flat) (f : Flat) → keys_of (list_of (xs ++ f ∷ [])) ≡ keys_of (list_of xs) ++ keys_of_one (instruction_of f)
keys_join [] f = append-nil (keys_of_one (instruction_of f))
keys_join (x ∷ xs) f = ap (λ l. keys_of_one (instruction_of x) ++ l) (keys_join xs f) ∙ sym (append_assoc (keys_of_one (instruction_of x)) (keys_of (list_of xs)) (keys_of_one (instruction_of f)))

pub keys_more : (xs : List Flat) (i : ℕ) (d : Flat) → i < length xs → keys_of (list_of (take (i + 1) xs)) ≡ keys_of (list_of (take i xs)) ++ keys_of_one (instruction_of (get_or xs i d))
keys_more xs i d lt = ap (λ l. keys_of (list_of l)) (take_more xs i d lt) ∙ keys_join (take i xs) (get_or xs i d)

pub keys_there : (xs : List Flat) (i : ℕ) (d : Flat) → i < length xs → length (keys_of_one (instruction_of (get_or xs i d))) + length (keys_of (list_of (take i xs))) ≤ length (keys_of (list_of xs))
keys_there [] i d lt = absurd (omega (arith, lt))
keys_there (x ∷ xs) zero d lt = omega (arith, length-append (keys_of_one (instruction_of x)) (keys_of (list_of xs)))
keys_there (x ∷ xs) (suc i) d lt =
    omega (arith, keys_there xs i d (omega (arith, lt)), length-append (keys_of_one (instruction_of x)) (keys_of (list_of xs)), length-append (keys_of_one (instruction_of x)) (keys_of (list_of (take i xs))))

pub no_keys : (m : BTreeMap Key ℕ) → EntersKeys m m []
no_keys m = record { slots = λ keys are. subst (AreSlots m) (sym (append-nil keys)) are; size = omega arith }

pub more_keys : (a b c : BTreeMap Key ℕ) (xs ys : List Key) → EntersKeys a b xs → EntersKeys b c ys → EntersKeys a c (xs ++ ys)
more_keys a b c xs ys e f = record {
  slots = λ keys are. subst (AreSlots c) (append_assoc keys xs ys) (f.slots (keys ++ xs) (e.slots keys are));
  size = omega (arith, e.size, f.size, length-append xs ys);
}

-- ---- one more key

known_there : (m : BTreeMap Key ℕ) (keys : List Key) (k : Key) → IsSome (get key_cmp m k) → AreSlots m keys → (l : Key) → Contains keys l ⊎ (k ≡ l) → IsSome (get key_cmp m l)
known_there m keys k there are l (inl found) = are.known l found
known_there m keys k there are l (inr same) = subst (λ q. IsSome (get key_cmp m q)) same there

-- a key that has a slot keeps it
pub key_there : (m : BTreeMap Key ℕ) (k : Key) → IsSome (get key_cmp m k) → EntersKeys m m (k ∷ [])
key_there m k there = record {
  slots = λ keys are. record {
    identifier = are.identifier;
    known = λ l found. known_there m keys k there are l (Contains-push_cases keys k l found);
    below = are.below;
    one_key = are.one_key;
    each_used = λ s lt. let at = are.each_used s lt in (at.0, Contains-append_left keys (k ∷ []) at.0 at.1, at.2);
  };
  size = omega arith;
}

-- a key that has none is given the number of those before it
module _ (m n : BTreeMap Key ℕ) (k : Key) (none : get key_cmp m k ≡ None) (updates : Updates key_cmp m n k (Some (btree_map_len m))) (longer : btree_map_len n ≡ btree_map_len m + 1) where
  here : get key_cmp n k ≡ Some (btree_map_len m)
  here = updates.1

  by_order : (q : Key) (o : Ordering) → key_cmp k q ≡ o → (k ≡ q) ⊎ (get key_cmp n q ≡ get key_cmp m q)
  by_order q Less e = inr (updates.2 q (ap is_eq e))
  by_order q Equal e = inl (key_cmp-exact k q e)
  by_order q Greater e = inr (updates.2 q (ap is_eq e))

  same_or_other : (q : Key) → (k ≡ q) ⊎ (get key_cmp n q ≡ get key_cmp m q)
  same_or_other q = by_order q (key_cmp k q) refl

  stays_by : (q : Key) (s : ℕ) → get key_cmp m q ≡ Some s → (k ≡ q) ⊎ (get key_cmp n q ≡ get key_cmp m q) → get key_cmp n q ≡ Some s
  stays_by q s was (inl same) = absurd (none_or_some (get key_cmp m q) s (ap (get key_cmp m) (sym same) ∙ none) was)
  stays_by q s was (inr other) = other ∙ was

  stays : (q : Key) (s : ℕ) → get key_cmp m q ≡ Some s → get key_cmp n q ≡ Some s
  stays q s was = stays_by q s was (same_or_other q)

  is_new_by : (q : Key) (s : ℕ) → get key_cmp n q ≡ Some s → (k ≡ q) ⊎ (get key_cmp n q ≡ get key_cmp m q) → ((k ≡ q) × (s ≡ btree_map_len m)) ⊎ (get key_cmp m q ≡ Some s)
  is_new_by q s is (inl same) = inl (same, same_some s (btree_map_len m) (sym is ∙ ap (get key_cmp n) (sym same) ∙ here))
  is_new_by q s is (inr other) = inr (sym other ∙ is)

  is_new : (q : Key) (s : ℕ) → get key_cmp n q ≡ Some s → ((k ≡ q) × (s ≡ btree_map_len m)) ⊎ (get key_cmp m q ≡ Some s)
  is_new q s is = is_new_by q s is (same_or_other q)

  module _ (keys : List Key) (are : AreSlots m keys) where
    known_by : (l : Key) → Contains keys l ⊎ (k ≡ l) → IsSome (get key_cmp n l)
    known_by l (inl found) = some_is (get key_cmp m l) (get key_cmp n l) (stays l) (are.known l found)
    known_by l (inr same) = subst (λ q. IsSome (get key_cmp n q)) same (subst IsSome (sym here) refl)

    below_by : (q : Key) (s : ℕ) → ((k ≡ q) × (s ≡ btree_map_len m)) ⊎ (get key_cmp m q ≡ Some s) → s < btree_map_len n
    below_by q s (inl new) = omega (arith, new.1, longer)
    below_by q s (inr old) = omega (arith, are.below q s old, longer)

    one_by : (q r : Key) (s : ℕ) → ((k ≡ q) × (s ≡ btree_map_len m)) ⊎ (get key_cmp m q ≡ Some s) → ((k ≡ r) × (s ≡ btree_map_len m)) ⊎ (get key_cmp m r ≡ Some s) → q ≡ r
    one_by q r s (inl a) (inl b) = sym a.0 ∙ b.0
    one_by q r s (inl a) (inr b) = absurd (omega (arith, a.1, are.below r s b))
    one_by q r s (inr a) (inl b) = absurd (omega (arith, b.1, are.below q s a))
    one_by q r s (inr a) (inr b) = are.one_key q r s a b

    used_by : (s : ℕ) → (s < btree_map_len m) ⊎ (s ≡ btree_map_len m) → (q : Key) × Contains (keys ++ k ∷ []) q × (get key_cmp n q ≡ Some s)
    used_by s (inl lt) = let at = are.each_used s lt in (at.0, Contains-append_left keys (k ∷ []) at.0 at.1, stays at.0 s at.2)
    used_by s (inr same) = (k, Contains-push keys k, here ∙ ap (λ x. Some x) (sym same))

    new_slots : AreSlots n (keys ++ k ∷ [])
    new_slots = record {
      identifier = stays identifier_key 0 are.identifier;
      known = λ l found. known_by l (Contains-push_cases keys k l found);
      below = λ q s is. below_by q s (is_new q s is);
      one_key = λ q r s is it. one_by q r s (is_new q s is) (is_new r s it);
      each_used = λ s lt. used_by s (less_or_same s (btree_map_len m) (omega (arith, lt, longer)));
    }

  pub key_new : EntersKeys m n (k ∷ [])
  key_new = record { slots = new_slots; size = omega (arith, longer) }

-- ---- calls after one another

pub after_ok : {A E : Type 0} {P Q : Type 0} (r : Result A E) → (P → Q) → OnOk r P → OnOk r Q
after_ok (Ok x) f p = f p
after_ok (Err e) f p = p

-- ---- the keys of an instruction as it lies in memory

pub keys_of_parts : (name : List ℕ) (number : ℕ) (presence : Presence) (exponent mantissa : FieldPart) → keys_of_one (instruction_of (flat.Parts name number presence exponent mantissa)) ≡ exponent.key ∷ mantissa.key ∷ []
keys_of_parts name number presence exponent mantissa =
    ap (λ f. keys_of_one (instruction_of f)) (sym (rolls-Parts name number presence exponent mantissa)) ∙ ap keys_of_one (fold-roll-Flat Instruction flat_step (Flat-F.Parts name number presence exponent mantissa))

pub keys_of_sequence : (name : List ℕ) (number : ℕ) (presence : Presence) (length : FieldPart) (members : Vec Flat Global) → keys_of_one (instruction_of (flat.Sequence name number presence length members)) ≡ length.key ∷ keys_of (list_of members.items)
keys_of_sequence name number presence length members =
    ap (λ f. keys_of_one (instruction_of f)) (sym (rolls-Sequence name number presence length members)) ∙ ap keys_of_one (fold-roll-Flat Instruction flat_step (Flat-F.Sequence name number presence length members))
