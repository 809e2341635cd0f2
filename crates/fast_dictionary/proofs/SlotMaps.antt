-- Entries in slots as a finite map.
use Rattle.fast_dictionary.proofs.Common.{◌≡◌, ◌≢◌, ◌<◌, ℕ, zero, suc, List, [], ◌∷◌, ◌++◌, ◌||◌, length, Bool, true, false, cond, IsTrue, slice_set, refl, sym, ap, ◌∙◌, arith, true≢false, Contains, slice_index_or, list_any, eq_by_cmp, is_eq, Equal-is, tied_itself, Ordering, Less, Equal, Greater, get_or-set_same, get_or-set_other, Contains-from_any, key_cmp, key_cmp-total, key_cmp-exact, Key, TemplateList, IsSound, keys_in, same_slot_same_key, Entry, Undefined, entry_at, entry_at-empty, entry_at-set_entry, set_entry, from_pairs, same_dictionary, is_key_in, pairs_in, dictionary_in, AllUndefined, AreBelow, HaveOwnSlots}
use Rattle.std.specs.FinMap as map

-- the entry in a slot
abbrev in_slot : List Entry → ℕ → Entry
in_slot es n = slice_index_or es n Undefined

-- ---- the keys of a sound set

key_of_set : (set : TemplateList) (k : Key) → IsTrue (is_key_in set k) → Contains (keys_in set) k
key_of_set set k found = Contains-from_any (λ a b e. key_cmp-exact a b ((Equal-is (key_cmp a b)).0 e)) k (keys_in set) found

pub are_below : (set : TemplateList) → IsSound set → AreBelow set
are_below set sound k found = sound.slotted.below k (key_of_set set k found)

pub have_own_slots : (set : TemplateList) → IsSound set → HaveOwnSlots set
have_own_slots set sound k l found there slots =
    ap (λ m. is_eq (key_cmp k m)) (sym (same_slot_same_key set k l sound (key_of_set set k found) (key_of_set set l there) slots)) ∙ ap is_eq (tied_itself key_cmp-total k)

-- ---- what stands under a key

tied : (es : List Entry) (k q : Key) (rest : Bool) (o : Ordering) → key_cmp q k ≡ o
    → cond (is_eq o) (in_slot es k.slot) (cond rest (in_slot es q.slot) Undefined) ≡ cond (is_eq o || rest) (in_slot es q.slot) Undefined
tied es k q rest Less is = refl
tied es k q rest Equal is = ap (λ m. in_slot es m.slot) (sym (key_cmp-exact q k is))
tied es k q rest Greater is = refl

under : (es : List Entry) (q : Key) (ks : List Key) → entry_at (from_pairs (pairs_in ks es)) q ≡ cond (list_any (eq_by_cmp key_cmp q) ks) (in_slot es q.slot) Undefined
under es q [] = entry_at-empty q
under es q (k ∷ ks) =
    entry_at-set_entry (from_pairs (pairs_in ks es)) k (in_slot es k.slot) q
    ∙ ap (cond (is_eq (key_cmp q k)) (in_slot es k.slot)) (under es q ks)
    ∙ tied es k q (list_any (eq_by_cmp key_cmp q) ks) (key_cmp q k) refl

pub under_key : (set : TemplateList) (es : List Entry) (k : Key) → IsTrue (is_key_in set k) → entry_at (dictionary_in set es) k ≡ in_slot es k.slot
under_key set es k found = under es k (keys_in set) ∙ ap (λ b. cond b (in_slot es k.slot) Undefined) found

-- ---- an entry that is set in its slot

abbrev set_in : List Entry → Key → Entry → List Entry
set_in es k e = slice_set es k.slot e

not_in : (b : Bool) (x y : Entry) → b ≡ false → cond b x Undefined ≡ cond b y Undefined
not_in true x y e = absurd (true≢false e)
not_in false x y e = refl

apart : (es : List Entry) (k q : Key) (e : Entry) (b : Bool) → (b ≡ true → q.slot ≢ k.slot) → cond b (in_slot (set_in es k e) q.slot) Undefined ≡ cond b (in_slot es q.slot) Undefined
apart es k q e true other = get_or-set_other es k.slot q.slot e Undefined (other refl)
apart es k q e false other = refl

not_equal : (o : Ordering) → is_eq o ≡ true → o ≡ Less → ⊥
not_equal o e is = true≢false (sym e ∙ ap is_eq is)

not_equal_either : (o : Ordering) → is_eq o ≡ true → o ≡ Greater → ⊥
not_equal_either o e is = true≢false (sym e ∙ ap is_eq is)

set_by : (set : TemplateList) (es : List Entry) (k q : Key) (e : Entry) → HaveOwnSlots set → k.slot < length es → IsTrue (is_key_in set k) → (o : Ordering) → key_cmp q k ≡ o
    → cond (is_key_in set q) (in_slot (set_in es k e) q.slot) Undefined ≡ cond (is_eq o) e (cond (is_key_in set q) (in_slot es q.slot) Undefined)
set_by set es k q e own below found Less is = apart es k q e (is_key_in set q) (λ in_set slots. not_equal (key_cmp q k) (own q k in_set found slots) is)
set_by set es k q e own below found Equal is =
    let same : q ≡ k = key_cmp-exact q k is in
    ap (λ m. cond (is_key_in set m) (in_slot (set_in es k e) m.slot) Undefined) same
    ∙ ap (λ b. cond b (in_slot (set_in es k e) k.slot) Undefined) found
    ∙ get_or-set_same es k.slot e Undefined below
set_by set es k q e own below found Greater is = apart es k q e (is_key_in set q) (λ in_set slots. not_equal_either (key_cmp q k) (own q k in_set found slots) is)

pub set_in_slot : (set : TemplateList) (es : List Entry) (k : Key) (e : Entry) → HaveOwnSlots set → k.slot < length es → IsTrue (is_key_in set k) → dictionary_in set (set_in es k e) ≡ set_entry (dictionary_in set es) k e
set_in_slot set es k e own below found =
    same_dictionary _ _ (λ q.
    under (set_in es k e) q (keys_in set)
    ∙ set_by set es k q e own below found (key_cmp q k) refl
    ∙ ap (cond (is_eq (key_cmp q k)) e) (sym (under es q (keys_in set)))
    ∙ sym (entry_at-set_entry (dictionary_in set es) k e q))

-- ---- all undefined

pub undefined_push : (es : List Entry) → AllUndefined es → AllUndefined (es ++ Undefined ∷ [])
undefined_push [] all zero = refl
undefined_push [] all (suc n) = refl
undefined_push (e ∷ es) all zero = all 0
undefined_push (e ∷ es) all (suc n) = undefined_push es (λ m. all (suc m)) n

pub undefined_all : (es : List Entry) → ((n : ℕ) → n < length es → slice_index_or es n Undefined ≡ Undefined) → AllUndefined es
undefined_all [] each n = refl
undefined_all (e ∷ es) each zero = each 0 (omega arith)
undefined_all (e ∷ es) each (suc n) = undefined_all es (λ m less. each (suc m) (omega (arith, less))) n

chosen : (b : Bool) (x : Entry) → x ≡ Undefined → cond b x Undefined ≡ Undefined
chosen true x is = is
chosen false x is = refl

pub undefined_is_empty : (set : TemplateList) (es : List Entry) → AllUndefined es → dictionary_in set es ≡ map.empty
undefined_is_empty set es all = same_dictionary _ _ (λ q. under es q (keys_in set) ∙ chosen (is_key_in set q) _ (all q.slot) ∙ sym (entry_at-empty q))
