-- From the masks of bytes that are looked at in one step to the bytes that stand as they are.
use Rattle.fast_lines.proofs.Common.{◌≡◌, ℕ, ◌+◌, ◌++◌, take, ◌%◌, ◌^◌, ◌<◌, ◌≤◌, suc, [], ◌∷◌, cases_lt, eqb, cond, Bool, true, false, List, map, length, get_or, replicate, refl, sym, ap, ◌∙◌, arith, slice_index, inl, inr, nat_tests, zip2_splat, zip2_splat_left, bitmask_splat, length-chunk, none_from_empty_mask, list_all, is_plain, ltb, chunk, zip2, mask_l, top, w8}
use Rattle.std.proofs.lemmas.List.{get_or-append-add, get_or-take}

abbrev mark : (ℕ → ℕ → Bool) → ℕ → ℕ → ℕ
mark t a b = cond (t a b) 255 0

-- the mask of those of n bytes from at on that pass a test beside another byte
abbrev right_mask : (ℕ → ℕ → Bool) → List ℕ → ℕ → ℕ → ℕ → ℕ
right_mask t xs at n y = mask_l (map (top 7) (zip2 (mark t) (chunk at n xs) (replicate n y))) % 2 ^ 64

abbrev left_mask : (ℕ → ℕ → Bool) → List ℕ → ℕ → ℕ → ℕ → ℕ
left_mask t xs at n y = mask_l (map (top 7) (zip2 (mark t) (replicate n y) (chunk at n xs))) % 2 ^ 64

none_right : (t : ℕ → ℕ → Bool) (xs : List ℕ) (at n y : ℕ) → at + n ≤ length xs → n ≤ 64 → right_mask t xs at n y ≡ 0 → (k : ℕ) → at ≤ k → k < at + n → t (get_or xs k 0) y ≡ false
none_right t xs at n y room few none k from to =
    none_from_empty_mask (λ x. t x y) xs at n 0 room (sym (bitmask_splat w8 t (chunk at n xs) n y (length-chunk at n xs room) few) ∙ none) k from to

turned : (t : ℕ → ℕ → Bool) (ys : List ℕ) (n y : ℕ) → length ys ≡ n → zip2 (mark t) (replicate n y) ys ≡ zip2 (mark (λ a b. t b a)) ys (replicate n y)
turned t ys n y long = zip2_splat_left (mark t) y n ys long ∙ sym (zip2_splat (mark (λ a b. t b a)) ys n y long)

none_left : (t : ℕ → ℕ → Bool) (xs : List ℕ) (at n y : ℕ) → at + n ≤ length xs → n ≤ 64 → left_mask t xs at n y ≡ 0 → (k : ℕ) → at ≤ k → k < at + n → t y (get_or xs k 0) ≡ false
none_left t xs at n y room few none =
    none_right (λ a b. t b a) xs at n y room few (sym (ap (λ l. mask_l (map (top 7) l) % 2 ^ 64) (turned t (chunk at n xs) n y (length-chunk at n xs room))) ∙ none)

plain_by : (c : ℕ) → ltb c 0x20 ≡ false → ltb 0x7e c ≡ false → eqb c 0x22 ≡ false → eqb c 0x5c ≡ false → is_plain c ≡ true
plain_by c below above quote slash = grind (arith, nat_tests)

-- where no mask has a bit, each of the bytes stands as it is
pub lanes_plain : (xs : List ℕ) (at n : ℕ) → at + n ≤ length xs → n ≤ 64
    → right_mask ltb xs at n 0x20 ≡ 0 → left_mask ltb xs at n 0x7e ≡ 0 → right_mask eqb xs at n 0x22 ≡ 0 → right_mask eqb xs at n 0x5c ≡ 0
    → (k : ℕ) → at ≤ k → k < at + n → is_plain (slice_index xs k) ≡ true
lanes_plain xs at n room few below above quotes slashes k from to =
    plain_by (get_or xs k 0) (none_right ltb xs at n 0x20 room few below k from to) (none_left ltb xs at n 0x7e room few above k from to)
    (none_right eqb xs at n 0x22 room few quotes k from to) (none_right eqb xs at n 0x5c room few slashes k from to)

pub all_plain : (xs : List ℕ) → ((k : ℕ) → k < length xs → is_plain (slice_index xs k) ≡ true) → list_all is_plain xs ≡ true
all_plain [] each = refl
all_plain (c ∷ rest) each = rw (each 0 (omega arith)) (all_plain rest (λ k less. each (suc k) (omega (arith, less))))

-- bytes that are plain in front of one place and from another on, which is not behind it
pub both_plain : (xs : List ℕ) (m n : ℕ) → ((k : ℕ) → k < m → is_plain (slice_index xs k) ≡ true) → ((k : ℕ) → n ≤ k → k < length xs → is_plain (slice_index xs k) ≡ true) → n ≤ m → list_all is_plain xs ≡ true
both_plain xs m n front back meet = all_plain xs (λ k less. elim (cases_lt k m) [ inl before ↦ front k before | inr behind ↦ back k (omega (arith, behind, meet)) less ])

-- a string of sixteen bytes at most, where the sixteen from its first on are plain
pub laid_plain : (new front t : List ℕ) (at next : ℕ) → take next new ≡ front ++ t → length front ≡ at → next ≡ at + length t
    → length t ≤ 16 → ((k : ℕ) → at ≤ k → k < at + 16 → is_plain (slice_index new k) ≡ true) → list_all is_plain t ≡ true
laid_plain new front t at next is long place few each = all_plain t (λ k less.
    let same : get_or t k 0 ≡ get_or new (at + k) 0 =
    sym (get_or-append-add front t k 0) ∙ ap (λ n. get_or (front ++ t) (n + k) 0) long ∙ ap (λ l. get_or l (at + k) 0) (sym is)
    ∙ get_or-take next new (at + k) 0 (omega (arith, place, less)) in
    ap is_plain same ∙ each (at + k) (omega arith) (omega (arith, less, few)))
