-- What is laid out in bytes behind the first so many.
use Rattle.fast_lines.proofs.Common.{◌≡◌, ◌≤◌, ◌+◌, ℕ, List, [], ◌∷◌, ◌++◌, length, take, drop, refl, sym, ap, ap₂, ◌∙◌, arith, length-drop, append_assoc, take-take, length-take-le, take-append-drop, take-append-le, take_all, take-append-add, length-chunk, length-put_chunk, chunk, put_chunk}
use Rattle.fast_lines.proofs.Written.{appended_more}
use Rattle.std.proofs.lemmas.Simd.{take_more_put_chunk}

-- what stands in front of what was laid out stays
pub before_laid : (old new s : List ℕ) (at next : ℕ) → at ≤ next → at ≤ length old → take next new ≡ take at old ++ s → take at new ≡ take at old
before_laid old new s at next from within is =
    let long = length-take-le at old within in
    sym (take-take at next new from) ∙ ap (take at) is ∙ take-append-le at (take at old) s (omega (arith, long)) ∙ take-take at at old (omega arith)

-- the same of what stands in front of that
pub shorter : (xs ys : List ℕ) (at next : ℕ) → at ≤ next → take next xs ≡ take next ys → take at xs ≡ take at ys
shorter xs ys at next from is = sym (take-take at next xs from) ∙ ap (take at) is ∙ take-take at next ys from

-- and where that was laid out behind more
pub kept_laid : (old new s : List ℕ) (at from next : ℕ) → at ≤ from → from ≤ next → from ≤ length old → take next new ≡ take from old ++ s
    → take at new ≡ take at old
kept_laid old new s at from next a b within is = shorter new old at from a (before_laid old new s from next b within is)

-- what stands in front of what was stored stays
pub stored_before : (xs ys : List ℕ) (at : ℕ) → at + length ys ≤ length xs → take at (put_chunk at xs ys) ≡ take at xs
stored_before xs ys at room =
    before_laid xs (put_chunk at xs ys) ys at (at + length ys) (omega arith) (omega (arith, room))
    (take_more_put_chunk at xs ys (at + length ys) refl room)

-- a text that is laid out by its first and its last word
pub ends_laid : (xs t : List ℕ) (at n last : ℕ) → last + n ≡ length t → last ≤ n → at + length t ≤ length xs
    → take (at + length t) (put_chunk (at + last) (put_chunk at xs (chunk 0 n t)) (chunk last n t)) ≡ take at xs ++ t
ends_laid xs t at n last all covers room =
    let a = chunk 0 n t in
    let b = chunk last n t in
    let long_a : length a ≡ n = length-chunk 0 n t (omega (arith, all)) in
    let long_b : length b ≡ n = length-chunk last n t (omega (arith, all)) in
    let first = put_chunk at xs a in
    let long : length first ≡ length xs = length-put_chunk at xs a in
    let before : length (take at xs) ≡ at = length-take-le at xs (omega (arith, room)) in
    let front : take (at + last) first ≡ take at xs ++ take last t =
    sym (take-take (at + last) (at + n) first (omega (arith, covers)))
    ∙ ap (take (at + last)) (take_more_put_chunk at xs a (at + n) (omega (arith, long_a)) (omega (arith, all, room)))
    ∙ ap (λ m. take (m + last) (take at xs ++ a)) (sym before)
    ∙ take-append-add (take at xs) a last
    ∙ ap (λ z. take at xs ++ z) (take-take last n t covers) in
    take_more_put_chunk (at + last) first b (at + length t) (omega (arith, long_b, all)) (omega (arith, long, room))
    ∙ ap₂ (λ x y. x ++ y) front (take_all n (drop last t) (omega (arith, all, length-drop last t)))
    ∙ append_assoc (take at xs) (take last t) (drop last t)
    ∙ ap (λ z. take at xs ++ z) (take-append-drop last t)

-- a text between quotes, one after the other
pub quoted_laid : (x a b c s : List ℕ) → a ≡ x ++ (34 ∷ []) → b ≡ a ++ s → c ≡ b ++ (34 ∷ []) → c ≡ x ++ (34 ∷ (s ++ (34 ∷ [])))
quoted_laid x a b c s p q r = appended_more x a c (34 ∷ []) (s ++ (34 ∷ [])) p (appended_more a b c s (34 ∷ []) q r)
