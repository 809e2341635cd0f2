-- Slices one behind the other, and of one byte.
use Rattle.fast_take.proofs.Common.{◌≡◌, ◌<◌, ◌≤◌, ℕ, ◌+◌, ◌-◌, List, [], ◌∷◌, ◌++◌, length, get_or, take, drop, slice_range, ap, ◌∙◌, arith, drop-drop, take-add, drop_more}

pub range_split : (bytes : List ℕ) (a b c : ℕ) → a ≤ b → b ≤ c → slice_range bytes a c ≡ slice_range bytes a b ++ slice_range bytes b c
range_split bytes a b c le more =
    let all : c - a ≡ (b - a) + (c - b) = omega arith in
    let there : a + (b - a) ≡ b = omega arith in
    ap (λ k. take k (drop a bytes)) all ∙ take-add (b - a) (c - b) (drop a bytes) ∙ ap (λ x. take (b - a) (drop a bytes) ++ take (c - b) x) (drop-drop (b - a) a bytes ∙ ap (λ k. drop k bytes) there)

pub range_none : (bytes : List ℕ) (a : ℕ) → slice_range bytes a a ≡ []
range_none bytes a = let none : a - a ≡ 0 = omega arith in ap (λ k. take k (drop a bytes)) none

pub byte_range : (bytes : List ℕ) (at : ℕ) → at < length bytes → slice_range bytes at (at + 1) ≡ get_or bytes at 0 ∷ []
byte_range bytes at there =
    let one : at + 1 - at ≡ 1 = omega arith in
    ap (λ (n : ℕ). take n (drop at bytes)) one ∙ ap (λ (xs : List ℕ). take 1 xs) (drop_more bytes at 0 there)
