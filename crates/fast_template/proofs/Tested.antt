-- What a test of each element of a list says, and what tests of keys and of templates decide.
use Rattle.fast_template.proofs.Common.{◌≡◌, ◌<◌, ℕ, List, [], ◌∷◌, ◌&&◌, nat_eq, nat_lt, map, Bool, true, false, not, Option, Some, None, refl, sym, ap, ◌∙◌, zero, suc, arith, true≢false, Contains, AllPairs, slice_index_or, list_all, list_any, is_eq, tied_itself, Equal-is, unsigned_Decides, pointwise, nat_list_eq_equiv, AllPass-from_list_all, ltb-true, AllPairs-cons, Contains-from_any, Key, key_cmp, key_cmp-total, key_cmp-exact, Resolved, NamesSame, HasSlots, Differ}

both_left : (a b : Bool) → (a && b) ≡ true → a ≡ true
both_left true b e = refl
both_left false b e = e

both_right : (a b : Bool) → (a && b) ≡ true → b ≡ true
both_right true b e = e
both_right false b e = absurd (true≢false (sym e))

-- an element of a list whose every element passes a test passes it
pub passes : {A : Type 0} (p : A → Bool) (xs : List A) → list_all p xs ≡ true → (x : A) → Contains xs x → p x ≡ true
passes p xs all x found = ap p (sym found.2) ∙ AllPass-from_list_all p xs all found.0 x found.1

-- ---- slots

-- a key without its slot
abbrev pub bare_key : Key → Key
bare_key k = record k { slot = 0 }

abbrev pub names_tie : Key → Key → Bool
names_tie k l = is_eq (key_cmp (bare_key k) (bare_key l))

same_names : (k l : Key) → names_tie k l ≡ true → NamesSame k l
same_names k l e =
    let equal : bare_key k ≡ bare_key l = key_cmp-exact (bare_key k) (bare_key l) ((Equal-is (key_cmp (bare_key k) (bare_key l))).0 e) in
    (ap (λ m. m.scope) equal, ap (λ m. m.name) equal, ap (λ m. m.part) equal)

names_tie-same : (k l : Key) → NamesSame k l → names_tie k l ≡ true
names_tie-same k l same =
    let equal : bare_key k ≡ bare_key l = (λ i. record { slot = 0; scope = same.0 i; name = same.1 i; part = same.2 i }) in
    ap (λ m. is_eq (key_cmp (bare_key k) m)) (sym equal) ∙ ap is_eq (tied_itself key_cmp-total (bare_key k))

-- two keys have one slot exactly where their names are the same
abbrev pub agree : Bool → Bool → Bool
agree true b = b
agree false b = not b

agreed_slots : (b c : Bool) → agree b c ≡ true → b ≡ true → c ≡ true
agreed_slots true c e is = e
agreed_slots false c e is = absurd (true≢false (sym is))

agreed_names : (b c : Bool) → agree b c ≡ true → c ≡ true → b ≡ true
agreed_names true c e is = refl
agreed_names false true e is = absurd (true≢false (sym e))
agreed_names false false e is = absurd (true≢false (sym is))

-- each number below n passes a test
abbrev pub all_below : (ℕ → Bool) → ℕ → Bool
all_below p zero = true
all_below p (suc n) = p 0 && all_below (λ m. p (suc m)) n

passes_below : (p : ℕ → Bool) (n m : ℕ) → all_below p n ≡ true → m < n → p m ≡ true
passes_below p zero m all less = absurd (omega (arith, less))
passes_below p (suc n) zero all less = both_left (p 0) _ all
passes_below p (suc n) (suc m) all less = passes_below (λ i. p (suc i)) n m (both_right (p 0) _ all) (omega (arith, less))

abbrev pub slots_of : List Key → List ℕ
slots_of keys = map (λ k. k.slot) keys

-- tests of keys decide whether they have slots
pub slotted_by : (keys : List Key) (slots : ℕ) → list_all (λ k. nat_lt k.slot slots) keys ≡ true
    → list_all (λ k. list_all (λ l. agree (names_tie k l) (nat_eq k.slot l.slot)) keys) keys ≡ true
    → all_below (λ n. list_any (nat_eq n) (slots_of keys)) slots ≡ true → HasSlots keys slots
slotted_by keys slots low one used =
    let agrees : (k l : Key) → Contains keys k → Contains keys l → agree (names_tie k l) (nat_eq k.slot l.slot) ≡ true = λ k l found there.
    passes (λ m. agree (names_tie k m) (nat_eq k.slot m.slot)) keys (passes (λ j. list_all (λ m. agree (names_tie j m) (nat_eq j.slot m.slot)) keys) keys one k found) l there in
    record {
      below = λ k found. ltb-true k.slot slots (passes (λ j. nat_lt j.slot slots) keys low k found);
      one_slot = λ k l found there same. (unsigned_Decides k.slot l.slot).0 (agreed_slots _ _ (agrees k l found there) (names_tie-same k l same));
      one_key = λ k l found there same. same_names k l (agreed_names _ _ (agrees k l found there) ((unsigned_Decides k.slot l.slot).1 same));
      each_used = λ n less. Contains-from_any (λ a b e. (unsigned_Decides a b).0 e) n (slots_of keys) (passes_below (λ m. list_any (nat_eq m) (slots_of keys)) slots n used less);
    }

-- ---- templates that differ

abbrev pub same_id : Option ℕ → Option ℕ → Bool
same_id None j = false
same_id (Some m) None = false
same_id (Some m) (Some n) = nat_eq m n

-- the names differ, and the identifiers where both have one
abbrev pub differ : Resolved → Resolved → Bool
differ s t = not (pointwise nat_eq s.name t.name) && not (same_id s.id t.id)

abbrev pub each_differs : List Resolved → Bool
each_differs [] = true
each_differs (t ∷ ts) = list_all (differ t) ts && each_differs ts

untrue : (b : Bool) → not b ≡ true → b ≡ true → ⊥
untrue true e is = true≢false (sym e)
untrue false e is = true≢false (sym is)

same_ids : (m n : Option ℕ) (id : ℕ) → m ≡ Some id → n ≡ Some id → same_id m n ≡ true
same_ids m n id e f = (λ i. same_id (e i) (f i)) ∙ (unsigned_Decides id id).1 refl

differ_so : (s t : Resolved) → differ s t ≡ true → Differ s t
differ_so s t e = (
  λ same. untrue (pointwise nat_eq s.name t.name) (both_left _ _ e) (ap (pointwise nat_eq s.name) (sym same) ∙ nat_list_eq_equiv.refl s.name),
  λ id of_s of_t. untrue (same_id s.id t.id) (both_right (not (pointwise nat_eq s.name t.name)) _ e) (same_ids s.id t.id id of_s of_t),
)

pub all_differ : (ts : List Resolved) → each_differs ts ≡ true → AllPairs Differ ts
all_differ [] e = λ i j d less within. absurd (omega (arith, within))
all_differ (t ∷ ts) e =
    AllPairs-cons Differ t ts (λ k d less. differ_so t (slice_index_or ts k d) (AllPass-from_list_all (differ t) ts (both_left _ _ e) k d less)) (all_differ ts (both_right (list_all (differ t) ts) _ e))
