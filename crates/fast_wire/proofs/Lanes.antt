-- From the mask of 16 bytes to the first of them whose high bit is 1.
use Rattle.fast_wire.proofs.Common.{◌≡◌, ℕ, ◌+◌, ◌%◌, ◌^◌, ◌≤◌, leb, eqb, cond, Bool, true, false, not, List, map, length, get_or, replicate, refl, sym, ap, ◌∙◌, arith, eq-eqb, ne_eqb, cond-true, cond-false, nat_tests, zip2_splat_left, map-map, mask_l-mod, length-chunk, first_set_mask_l, run_in_chunk_le, run_in_chunk_fails, run_in_chunk_stops, length-map, prefix_len, IsRun, chunk, zip2, mask_l, top, count_trailing_zeros}

abbrev is_stop : ℕ → Bool
is_stop x = leb 128 x

abbrev mark : ℕ → ℕ → ℕ
mark a b = cond (leb a b) 255 0

-- the mask of the stop bits among the 16 bytes from at on
abbrev stop_mask : List ℕ → ℕ → ℕ
stop_mask xs at = mask_l (map (top 7) (zip2 mark (replicate 16 128) (chunk at 16 xs))) % 2 ^ 64

marked : (x : ℕ) → top 7 (mark 128 x) ≡ is_stop x
marked x = elim (leb 128 x) as (λ b. top 7 (cond b 255 0) ≡ b) [ true ↦ refl | false ↦ refl ]

map_marked : (xs : List ℕ) → map (λ x. top 7 (mark 128 x)) xs ≡ map is_stop xs
map_marked xs = simp marked

mask_is : (xs : List ℕ) (at : ℕ) → at + 16 ≤ length xs → stop_mask xs at ≡ mask_l (map is_stop (chunk at 16 xs))
mask_is xs at room =
    let v = chunk at 16 xs in
    let long : length v ≡ 16 = length-chunk at 16 xs room in
    ap (λ l. mask_l (map (top 7) l) % 2 ^ 64) (zip2_splat_left mark 128 16 v long)
    ∙ ap (λ l. mask_l l % 2 ^ 64) (map-map (top 7) (mark 128) v ∙ map_marked v)
    ∙ mask_l-mod (map is_stop v) 64 (omega (arith, length-map v is_stop))

counted : (xs : List ℕ) (at : ℕ) → at + 16 ≤ length xs
    → cond (eqb (stop_mask xs at) 0) 16 (count_trailing_zeros 64 (stop_mask xs at)) ≡ prefix_len (λ x. not (is_stop x)) (chunk at 16 xs)
counted xs at room =
    let v = chunk at 16 xs in
    ap (λ m. cond (eqb m 0) 16 (count_trailing_zeros 64 m)) (mask_is xs at room) ∙ first_set_mask_l is_stop v 16 (length-chunk at 16 xs room) (omega arith)

run_of : (xs : List ℕ) (at r : ℕ) → at + 16 ≤ length xs → r ≡ prefix_len (λ x. not (is_stop x)) (chunk at 16 xs) → IsRun xs at r
run_of xs at r room e = record {
  within = run_in_chunk_le is_stop xs at 16 r 0 room e;
  before = λ k from to. let t : leb 128 (get_or xs k 0) ≡ false = run_in_chunk_fails is_stop xs at 16 r 0 room e k from to in grind (arith, nat_tests);
  stop = λ less. let t : leb 128 (get_or xs (at + r) 0) ≡ true = run_in_chunk_stops is_stop xs at 16 r 0 room e less in grind (arith, nat_tests);
}

pub run_none : (xs : List ℕ) (at : ℕ) → at + 16 ≤ length xs → stop_mask xs at ≡ 0 → IsRun xs at 16
run_none xs at room none = run_of xs at 16 room (sym (cond-true _ _ _ (eq-eqb _ _ none)) ∙ counted xs at room)

pub run_some : (xs : List ℕ) (at : ℕ) → at + 16 ≤ length xs → (stop_mask xs at ≡ 0 → ⊥) → IsRun xs at (count_trailing_zeros 64 (stop_mask xs at))
run_some xs at room some = run_of xs at _ room (sym (cond-false _ _ _ (ne_eqb _ _ some)) ∙ counted xs at room)
