-- Each key of a template that is found is a key of the set.
use Rattle.std.proofs.Common.{◌≡◌, ℕ, zero, suc, ◌<◌, Bool, true, false, List, [], ◌∷◌, ◌++◌, map, Option, Some, None, length, get_or, arith, sym, subst}
use Rattle.std.specs.Prelude.{Contains, IfSome, find, if◌then◌else◌}
use Rattle.std.specs.Borrow.{Bor}
use Rattle.std.proofs.lemmas.List.Elements.{Contains-append_left, Contains-append_right}
use Rattle.fast_value.specs.declared.key.Key.{Key}
use Rattle.fast_template.specs.declared.resolved.Flat.{Flat}
use Rattle.fast_template.specs.declared.resolved.FlatTemplate.{FlatTemplate}
use Rattle.fast_template.specs.Resolved.{instruction_of, keys_of, keys_of_one, list_of, resolved_of}
use Rattle.fast_template.specs.TemplateSets.{TemplateList, templates_in, keys_of_all, keys_in, identifier_key, has_id, template_of}

abbrev keys_of_template : FlatTemplate → List Key
keys_of_template t = keys_of (list_of t.members.items)

-- where it is the first, and where it is found behind it
chosen : (b : Bool) (x t : FlatTemplate) (ts : List FlatTemplate) (found : Option FlatTemplate) (k : Key) → (found ≡ Some t → Contains (keys_of_all (map resolved_of ts)) k)
    → (if b then Some x else found) ≡ Some t → Contains (keys_of_template t) k → Contains (keys_of_template x ++ keys_of_all (map resolved_of ts)) k
chosen true x t ts found k later e there =
    let same : x ≡ t = cc in
    Contains-append_left (keys_of_template x) (keys_of_all (map resolved_of ts)) k (subst (λ (f : FlatTemplate). Contains (keys_of_template f) k) (sym same) there)
chosen false x t ts found k later e there = Contains-append_right (keys_of_template x) (keys_of_all (map resolved_of ts)) k (later e)

found_in : (ts : List FlatTemplate) (id : ℕ) (t : FlatTemplate) (k : Key) → find (λ f. has_id id f.id) ts ≡ Some t
    → Contains (keys_of_template t) k → Contains (keys_of_all (map resolved_of ts)) k
found_in [] id t k e there = absurd cc
found_in (x ∷ ts) id t k e there = chosen (has_id id x.id) x t ts (find (λ f. has_id id f.id) ts) k (λ e. found_in ts id t k e there) e there

key_found : (set : TemplateList) (id : ℕ) (t : FlatTemplate) (k : Key) → template_of id set ≡ Some t → Contains (keys_of_template t) k → Contains (keys_in set) k
key_found set id t k e found = Contains-append_right (identifier_key ∷ []) (keys_of_all (templates_in set)) k (found_in set.templates id t k e found)

-- ---- the key of one of its instructions

key_in_list : (flats : List Flat) (i : ℕ) (d : Flat) (k : Key) → i < length flats → Contains (keys_of_one (instruction_of (get_or flats i d))) k → Contains (keys_of (list_of flats)) k
key_in_list [] i d k lt found = absurd (omega (arith, lt))
key_in_list (f ∷ fs) zero d k lt found = Contains-append_left (keys_of_one (instruction_of f)) (keys_of (list_of fs)) k found
key_in_list (f ∷ fs) (suc i) d k lt found = Contains-append_right (keys_of_one (instruction_of f)) (keys_of (list_of fs)) k (key_in_list fs i d k (omega (arith, lt)) found)

pub key_of_found : (set : TemplateList) (id : ℕ) (t : FlatTemplate) (i : ℕ) (d : Flat) (r : Option (Bor Key)) → template_of id set ≡ Some t → i < length t.members.items
    → IfSome r (λ k. Contains (keys_of_one (instruction_of (get_or t.members.items i d))) k.now) → IfSome r (λ k. Contains (keys_in set) k.now)
key_of_found set id t i d (Some k) e lt found = key_found set id t k.now e (key_in_list t.members.items i d k.now lt found)
key_of_found set id t i d None e lt found = found
