-- What is spelled at a place is read there, and nothing else is.
use Rattle.fast_wire.proofs.Common.{◌≡◌, ℕ, ◌+◌, ◌-◌, ◌≤◌, List, ◌++◌, length, take, drop, Result, Ok, sym, ap, ◌∙◌, arith, length-drop, take-append-drop, drop-drop, Reads, IsReader, WireFault}
use Rattle.fast_wire.proofs.Readers.{done, ok_is}

-- ---- what a reader of a form answers, from what reading gives

module _ {V : Type 0} (read : List ℕ → Result (V × List ℕ) WireFault) (Form : List ℕ → V → Type 0) (is : IsReader WireFault.NeedMore read Form) (bytes : List ℕ) (at : ℕ) where
  -- what is spelled at a place is read there
  pub spelled_here : (next : ℕ) (value : V) → Reads Form bytes at (value, next) → read (drop at bytes) ≡ Ok (value, drop next bytes)
  spelled_here next value h =
      let n = next - at in let below = h.0 in
      let split : drop at bytes ≡ take n (drop at bytes) ++ drop n (drop at bytes) = sym (take-append-drop n (drop at bytes)) in
      let on : at + n ≡ next = omega arith in
      let behind : drop n (drop at bytes) ≡ drop next bytes = drop-drop n at bytes ∙ ap (λ k. drop k bytes) on in
      ap read split ∙ is.again (take n (drop at bytes)) value (drop n (drop at bytes)) h.2 ∙ ap (λ (r : List ℕ). done {F = WireFault} (value, r)) behind

  -- so a call that gave another value, or another place, is none
  pub only_found : (v : V) (n : ℕ) → n ≤ length bytes → read (drop at bytes) ≡ Ok (v, drop n bytes) → (next : ℕ) (value : V) → Reads Form bytes at (value, next) → (v ≡ value) × (n ≡ next)
  only_found v n within e next value h =
      let both = ok_is (v, drop n bytes) (value, drop next bytes) (sym e ∙ spelled_here next value h) in
      let tails : length (drop n bytes) ≡ length (drop next bytes) = ap (λ p. length p.1) both in
      let inside = h.1 in
      (ap (λ p. p.0) both, omega (arith, length-drop n bytes, length-drop next bytes))
