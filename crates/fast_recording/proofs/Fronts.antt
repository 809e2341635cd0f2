-- How bytes part at a place.
use Rattle.std.proofs.Common.{List, ℕ, ◌++◌, ◌+◌, ◌-◌, ◌≤◌, ◌≡◌, take, drop, length, sym, ap, ◌∙◌, arith, append_assoc, length-append}
use Rattle.std.proofs.Math.Seq.{take-add}
use Rattle.std.proofs.lemmas.List.{length-drop, length-take, take-append-drop, take_rest}
use Rattle.fast_recording.specs.Passing.{AreFew}

module _ (front bytes : List ℕ) (at : ℕ) where
  -- the bytes from the place on, as a slice of them is
  abbrev pub rest : List ℕ
  rest = take (length bytes - at) (drop at bytes)

  pub rest_is : (front ++ take at bytes) ++ rest ≡ front ++ bytes
  rest_is = append_assoc front (take at bytes) rest ∙ ap (λ (z : List ℕ). front ++ z) (ap (λ (z : List ℕ). take at bytes ++ z) (take_rest bytes at) ∙ take-append-drop at bytes)

  pub rest_long : length rest ≡ length bytes - at
  rest_long = ap (λ (z : List ℕ). length z) (take_rest bytes at) ∙ length-drop at bytes

  pub step_is : (end : ℕ) → (front ++ take at bytes) ++ take end rest ≡ front ++ take (at + end) bytes
  step_is end =
      append_assoc front (take at bytes) (take end rest) ∙ ap (λ (z : List ℕ). front ++ z) (ap (λ (z : List ℕ). take at bytes ++ take end z) (take_rest bytes at) ∙ sym (take-add at end bytes))

  pub whole_is : (end : ℕ) → (front ++ take at bytes) ++ (take end rest ++ drop end rest) ≡ front ++ bytes
  whole_is end = ap (λ (z : List ℕ). (front ++ take at bytes) ++ z) (take-append-drop end rest) ∙ rest_is

  pub few_front : AreFew front bytes → at ≤ length bytes → length (front ++ take at bytes) ≤ length front + length bytes
  few_front bound within = let a = length-append front (take at bytes) in let b = length-take at bytes in omega (arith, a, b, within)

  pub few_step : (end : ℕ) → AreFew front bytes → at ≤ length bytes → end ≤ length rest → AreFew (front ++ take at bytes) (take end rest)
  few_step end bound within inside =
      let a = length-append front (take at bytes) in
      let b = length-take at bytes in
      let c = length-take end rest in
      let d = ap (λ (z : List ℕ). length z) rest_is ∙ length-append front bytes in
      let e = length-append (front ++ take at bytes) rest in
      omega (arith, a, b, c, d, e, bound, within, inside)
