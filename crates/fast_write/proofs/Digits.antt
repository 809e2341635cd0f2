-- Digits of bytes, part by part.
use Rattle.std.proofs.Common.{◌≡◌, ℕ, ◌+◌, ◌-◌, arith, subst, List, [], ◌∷◌, ◌++◌, take, drop, refl, ap, sym, ◌∙◌, Option, append_assoc, take-append-drop}
use Rattle.std.proofs.Math.Seq.{take-add}
use Rattle.std.specs.Io.KnownBytes.{Appends}
use Rattle.hex.specs.Hex.{encode_with, encode_lower}
use Rattle.fast_io.specs.Traffic.{Taken}
use Rattle.fast_io.proofs.Outputs.{Appends-trans}

pub encode-append : (t xs ys : List ℕ) → encode_with t (xs ++ ys) ≡ encode_with t xs ++ encode_with t ys
unfolding encode_with
encode-append t [] ys = refl
encode-append t (x ∷ xs) ys = rw (encode-append t xs ys) refl

-- the next bytes, as they are cut
next : (bytes : List ℕ) (at count : ℕ) → take ((at + count) - at) (drop at bytes) ≡ take count (drop at bytes)
next bytes at count = let e : (at + count) - at ≡ count = omega arith in ap (λ n. take n (drop at bytes)) e

-- the digits of some bytes more
pub digits_on : (a b c : Option (List ℕ)) (bytes made : List ℕ) (at count : ℕ) → Appends a b (encode_lower (take at bytes)) → Appends b c made → made ≡ encode_lower (take ((at + count) - at) (drop at bytes)) → Appends a c (encode_lower (take (at + count) bytes))
digits_on a b c bytes made at count w more is =
    let whole : encode_lower (take at bytes) ++ made ≡ encode_lower (take (at + count) bytes) =
    ap (λ (l : List ℕ). encode_lower (take at bytes) ++ l) (is ∙ ap encode_lower (next bytes at count)) ∙ sym (ap encode_lower (take-add at count bytes) ∙ encode-append _ (take at bytes) (take count (drop at bytes))) in
    subst (Appends a c) whole (Appends-trans a b c (encode_lower (take at bytes)) made w more)

-- or only a front of them
pub digits_front : (a b c : Option (List ℕ)) (bytes made : List ℕ) (at count : ℕ) (rest : List ℕ) → Appends a b (encode_lower (take at bytes)) → Taken b c made rest → made ≡ encode_lower (take ((at + count) - at) (drop at bytes))
    → (left : List ℕ) × Taken a c (encode_lower bytes) left
digits_front a b c bytes made at count rest w t is =
    let before = take at bytes in
    let later = drop count (drop at bytes) in
    let made_is : encode_lower (take count (drop at bytes)) ≡ made = sym (is ∙ ap encode_lower (next bytes at count)) in
    let cut : encode_lower bytes ≡ encode_lower before ++ (made ++ encode_lower later) =
    ap encode_lower (sym (take-append-drop at bytes)) ∙ encode-append _ before (drop at bytes)
    ∙ ap (λ (l : List ℕ). encode_lower before ++ l) (ap encode_lower (sym (take-append-drop count (drop at bytes))) ∙ encode-append _ (take count (drop at bytes)) later ∙ ap (λ (l : List ℕ). l ++ encode_lower later) made_is) in (
      rest ++ encode_lower later,
      record {
        front = encode_lower before ++ t.front;
        parts =
            cut ∙ ap (λ (l : List ℕ). encode_lower before ++ (l ++ encode_lower later)) t.parts ∙ ap (λ (l : List ℕ). encode_lower before ++ l) (append_assoc t.front rest (encode_lower later))
            ∙ sym (append_assoc (encode_lower before) t.front (rest ++ encode_lower later));
        appended = Appends-trans a b c (encode_lower before) t.front w t.appended;
      },
    )
