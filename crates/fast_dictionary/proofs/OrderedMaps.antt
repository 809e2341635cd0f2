-- An ordered map of the program as a finite map.
use Rattle.fast_dictionary.proofs.Common.{◌≡◌, Bool, true, false, List, [], ◌∷◌, ◌++◌, Option, Some, None, cond, unwrap_or, refl, sym, ap, ◌∙◌, eq_by_cmp, eq_by_cmp_equiv, lookup, BTreeMap, is_at, Updates, key_cmp, key_cmp-total, Key, Entry, Undefined, Dictionary, entry_at, entry_at-empty, entry_at-set_entry, set_entry, from_pairs, same_dictionary, set_entry-there}

-- what a look-up answers, as an entry
abbrev pub entry_or : Option Entry → Entry
entry_or o = unwrap_or o Undefined

shown : (b : Bool) (e : Entry) (o : Option Entry) → cond b e (entry_or o) ≡ entry_or (cond b (Some e) o)
shown true e o = refl
shown false e o = refl

-- what a look-up finds is what the finite map has
pub entry_is : (es : List (Key × Entry)) (k : Key) → entry_at (from_pairs es) k ≡ entry_or (lookup (is_at (key_cmp k)) es)
entry_is [] k = entry_at-empty k
entry_is (e ∷ es) k =
    entry_at-set_entry (from_pairs es) e.0 e.1 k
    ∙ ap (cond (is_at (key_cmp k) e.0) e.1) (entry_is es k)
    ∙ shown (is_at (key_cmp k) e.0) e.1 (lookup (is_at (key_cmp k)) es)

-- a key that is set in an ordered map is set in the finite map, and no other
pub insert_is : (m n : BTreeMap Key Entry) (k : Key) (e : Entry) → Updates key_cmp m n k (Some e) → from_pairs n.entries ≡ set_entry (from_pairs m.entries) k e
insert_is m n k e updates =
    same_dictionary _ _ (λ q.
    entry_is n.entries q
    ∙ ap entry_or (updates.0 q)
    ∙ sym (shown (eq_by_cmp key_cmp k q) e (lookup (is_at (key_cmp q)) m.entries))
    ∙ ap (λ b. cond b e (entry_or (lookup (is_at (key_cmp q)) m.entries))) ((eq_by_cmp_equiv key_cmp-total).symm k q)
    ∙ ap (cond (eq_by_cmp key_cmp q k) e) (sym (entry_is m.entries q))
    ∙ sym (entry_at-set_entry (from_pairs m.entries) k e q))

-- the dictionary with these entries set, the last of them first
abbrev pub onto : List (Key × Entry) → Dictionary → Dictionary
onto [] d = d
onto (e ∷ es) d = set_entry (onto es d) e.0 e.1

pub onto-append : (xs ys : List (Key × Entry)) (d : Dictionary) → onto (xs ++ ys) d ≡ onto xs (onto ys d)
onto-append [] ys d = refl
onto-append (x ∷ xs) ys d = ap (λ n. set_entry n x.0 x.1) (onto-append xs ys d)

pub onto_empty : (es : List (Key × Entry)) → onto es (from_pairs []) ≡ from_pairs es
onto_empty [] = refl
onto_empty (e ∷ es) = ap (λ n. set_entry n e.0 e.1) (onto_empty es)

-- an undefined entry for a key that was not there changes nothing
pub held_is : (m : BTreeMap Key Entry) (k : Key) (d : Dictionary) → d ≡ set_entry (from_pairs m.entries) k Undefined → lookup (is_at (key_cmp k)) m.entries ≡ None → d ≡ from_pairs m.entries
held_is m k d e none = e ∙ ap (set_entry (from_pairs m.entries) k) (sym (entry_is m.entries k ∙ ap entry_or none)) ∙ set_entry-there (from_pairs m.entries) k
