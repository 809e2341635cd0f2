-- Bits that are told to be the same.
use Rattle.fast_writer.proofs.Common.{◌≡◌, ◌≢◌, Bool, true, false, not, List, [], ◌∷◌, ◌++◌, map, refl, ap, and_parts}
use Rattle.fast_draft.specs.Segments.{Segment as Drafted}
use Rattle.fast_writer.specs.Drafts.{is_none, same_bit, same_bits, same_maps}

bit_is : (x y : Bool) → same_bit x y ≡ true → x ≡ y
bit_is true true h = refl
bit_is false false h = refl
bit_is true false h = absurd cc
bit_is false true h = absurd cc

pub bits_are : (xs ys : List Bool) → same_bits xs ys ≡ true → xs ≡ ys
bits_are [] [] h = refl
bits_are (x ∷ xs) (y ∷ ys) h = let p = and_parts (same_bit x y) (same_bits xs ys) h in rw (bit_is x y p.0, bits_are xs ys p.1) refl
bits_are [] (y ∷ ys) h = absurd cc
bits_are (x ∷ xs) [] h = absurd cc

bit_same : (x : Bool) → same_bit x x ≡ true
bit_same true = refl
bit_same false = refl

pub bits_same : (xs : List Bool) → same_bits xs xs ≡ true
bits_same [] = refl
bits_same (x ∷ xs) = rw (bit_same x, bits_same xs) refl

pub maps_are : (xs ys : List (List Bool)) → same_maps xs ys ≡ true → xs ≡ ys
maps_are [] [] h = refl
maps_are (x ∷ xs) (y ∷ ys) h = let p = and_parts (same_bits x y) (same_maps xs ys) h in rw (bits_are x y p.0, maps_are xs ys p.1) refl
maps_are [] (y ∷ ys) h = absurd cc
maps_are (x ∷ xs) [] h = absurd cc

pub maps_same : (xs : List (List Bool)) → same_maps xs xs ≡ true
maps_same [] = refl
maps_same (x ∷ xs) = rw (bits_same x, maps_same xs) refl

pub none_is : {A : Type 0} (xs : List A) → is_none xs ≡ true → xs ≡ []
none_is [] h = refl
none_is (x ∷ xs) h = absurd cc

pub some_is : {A : Type 0} (xs : List A) → not (is_none xs) ≡ true → xs ≢ []
some_is [] h none = absurd cc
some_is (x ∷ xs) h none = absurd cc

-- the segments around, the last apart
pub record Last (ss : List Drafted) (around : List (List Bool)) (b : List Bool) : Type 0 where
  pub fore : List Drafted
  pub last : Drafted
  pub all_is : ss ≡ fore ++ last ∷ []
  pub around_is : map (λ s. s.left) fore ≡ around
  pub left : last.left ≡ b

pub last_of : (ss : List Drafted) (around : List (List Bool)) (b : List Bool) → map (λ s. s.left) ss ≡ around ++ b ∷ [] → Last ss around b
last_of [] [] b h = absurd cc
last_of [] (x ∷ around) b h = absurd cc
last_of (s ∷ []) [] b h = record { fore = []; last = s; all_is = refl; around_is = refl; left = first_is h }
  where
    first_is : s.left ∷ [] ≡ b ∷ [] → s.left ≡ b
    first_is h = cc
last_of (s ∷ r ∷ ss) [] b h = absurd (no_more h)
  where
    no_more : s.left ∷ (r.left ∷ map (λ t. t.left) ss) ≡ b ∷ [] → ⊥
    no_more h = cc
last_of (s ∷ ss) (x ∷ around) b h =
    let tail : map (λ t. t.left) ss ≡ around ++ b ∷ [] = cc in
    let head : s.left ≡ x = cc in
    let l = last_of ss around b tail in
    record { fore = s ∷ l.fore; last = l.last; all_is = ap (λ (k : List Drafted). s ∷ k) l.all_is; around_is = rw (head, l.around_is) refl; left = l.left }
