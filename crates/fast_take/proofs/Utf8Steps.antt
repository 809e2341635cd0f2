-- UTF-8 that is gone over from place to place, and what is left of it.
use Rattle.std.proofs.Common.{◌≡◌, ℕ, ◌+◌, ◌-◌, ◌≤◌, List, length, take, drop, sym, ap, subst, ◌∙◌, arith, drop-drop, take-add, take-append-drop}
use Rattle.fast_take.proofs.Common.{◌↔◌, IsUtf8-append, IsUtf8-drop, IsCharBoundary-from_take, IsUtf8, Skips}

-- one step more
pub further : (bs : List ℕ) (i j n : ℕ) → Skips bs i j → j + n ≤ length bs → IsUtf8 (take n (drop j bs)) → Skips bs i (j + n)
further bs i j n done within next = record {
  onward = let l = done.onward in omega arith;
  within = within;
  utf8 =
      let l = done.onward in
      let sum : (j + n) - i ≡ (j - i) + n = omega arith in
      let place : i + (j - i) ≡ j = omega arith in
      let rest : drop (j - i) (drop i bs) ≡ drop j bs = drop-drop _ _ bs ∙ ap (λ k. drop k bs) place in
      let seam : take ((j + n) - i) (drop i bs) ≡ _ = ap (λ k. take k (drop i bs)) sum ∙ take-add (j - i) n (drop i bs) in
      subst IsUtf8 (sym seam) (IsUtf8-append _ _ done.utf8 (subst (λ xs. IsUtf8 (take n xs)) (sym rest) next));
}

pub both : (bs : List ℕ) (i j k : ℕ) → Skips bs i j → Skips bs j k → Skips bs i k
both bs i j k first second =
    let l = second.onward in
    let end : j + (k - j) ≡ k = omega arith in
    let h = second.within in
    subst (Skips bs i) end (further bs i j (k - j) first (omega arith) second.utf8)

-- behind a front of UTF-8 the rest decides
pub by_rest : (bs : List ℕ) (at : ℕ) → Skips bs 0 at → (IsUtf8 (drop at bs) ↔ IsUtf8 bs)
by_rest bs at done =
    let same : at - 0 ≡ at = omega arith in
    let front : IsUtf8 (take at bs) = subst (λ n. IsUtf8 (take n bs)) same done.utf8 in (
      λ rest. subst IsUtf8 (take-append-drop at bs) (IsUtf8-append (take at bs) (drop at bs) front rest),
      λ all. IsUtf8-drop bs at all (IsCharBoundary-from_take bs at all done.within front),
    )
