-- Bytes whose stop bits are taken away one after the other.
use Rattle.std.proofs.Common.{◌≡◌, ◌≤◌, ◌<◌, ◌+◌, ◌%◌, ℕ, List, [], ◌∷◌, ◌++◌, length, take, drop, get_or, map, sym, ap, ◌∙◌, arith}
use Rattle.std.proofs.Math.ListN.{set}
use Rattle.std.proofs.lemmas.List.{map_push, take_more, take_more_set, drop-set-lt, drop_more, take_all, length-set}

abbrev pub low : ℕ → ℕ
low b = b % 128

-- those before i have none, and the others are as they were
pub record Cleared (now before : List ℕ) (i : ℕ) : Type 0 where
  pub front : take i now ≡ map low (take i before)
  pub back : drop i now ≡ drop i before
  pub long : length now ≡ length before

heads_same : (x y : ℕ) (xs ys : List ℕ) → x ∷ xs ≡ y ∷ ys → (x ≡ y) × (xs ≡ ys)
heads_same x y xs ys e = (cc, cc)

pub cleared_more : (now before : List ℕ) (i x : ℕ) → i < length now → Cleared now before i → x ≡ get_or now i 0 → Cleared (set now i (x % 128)) before (i + 1)
cleared_more now before i x lt p is =
    let there : i < length before = omega (arith, lt, p.long) in
    let same = heads_same (get_or now i 0) (get_or before i 0) (drop (i + 1) now) (drop (i + 1) before) (sym (drop_more now i 0 lt) ∙ p.back ∙ drop_more before i 0 there) in
    record {
      front = take_more_set now i (x % 128) lt ∙ ap (λ l. l ++ (x % 128) ∷ []) p.front ∙ ap (λ y. map low (take i before) ++ (y % 128) ∷ []) (is ∙ same.0)
          ∙ sym (map_push low (take i before) (get_or before i 0)) ∙ ap (map low) (sym (take_more before i 0 there));
      back = drop-set-lt (i + 1) now i (x % 128) (omega arith) ∙ same.1;
      long = length-set now i (x % 128) ∙ p.long;
    }

pub cleared_all : (now before : List ℕ) (i : ℕ) → length now ≤ i → Cleared now before i → now ≡ map low before
cleared_all now before i le p = sym (take_all i now le) ∙ p.front ∙ ap (map low) (take_all i before (omega (arith, le, p.long)))
