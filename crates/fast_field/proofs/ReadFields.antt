-- What a call that gives what reading gives says of forms.
use Rattle.std.proofs.Common.{◌≡◌, ℕ, suc, ◌+◌, ◌-◌, ◌<◌, ◌≤◌, List, [], ◌∷◌, ◌++◌, length, take, drop, get_or, Result, Ok, Err, sym, ap, subst, ◌∙◌, arith, inl, inr, length-append, length-drop, take-append-drop, drop-drop, get_or-drop}
use Rattle.fast_field.proofs.Common.{slice_range, MatchResult, IfOk, take_at, IsBytes, IsReader, GoesOn, Gives, Fails, Reads, done, ok_is, FieldFault, OrRefused}

pub all_bytes : (xs : List ℕ) → ((k : ℕ) → get_or xs k 0 < 256) → IsBytes xs
all_bytes [] h = tt
all_bytes (x ∷ xs) h = (h 0, all_bytes xs (λ k. h (suc k)))

pub bytes_from : (xs : List ℕ) (at : ℕ) → ((k : ℕ) → get_or xs k 0 < 256) → IsBytes (drop at xs)
bytes_from xs at fits = all_bytes (drop at xs) (λ k. rw get_or-drop (fits (at + k)))

taken : (bytes front : List ℕ) (at next : ℕ) → at ≤ next → next ≤ length bytes → drop at bytes ≡ front ++ drop next bytes → slice_range bytes at next ≡ front
taken bytes front at next le within e =
    let len : length (drop at bytes) ≡ length front + length (drop next bytes) = ap length e ∙ length-append front (drop next bytes) in
    let n : length front ≡ next - at = omega (arith, length-drop at bytes, length-drop next bytes) in
    ap (take (next - at)) e ∙ take_at front (drop next bytes) (next - at) n

module _ {V : Type 0} (read : List ℕ → Result (V × List ℕ) FieldFault) (Form : List ℕ → V → Type 0) (is : IsReader FieldFault.NeedMore read Form) (bytes : List ℕ) (at : ℕ) where
  -- what is read is a form
  pub found_here : (v : V) (next : ℕ) → IsBytes (drop at bytes) → at ≤ next → next ≤ length bytes → read (drop at bytes) ≡ Ok (v, drop next bytes) → Reads Form bytes at (v, next)
  found_here v next fits le within e =
      let t = is.found (drop at bytes) v (drop next bytes) fits e in
      (le, within, subst (λ (b : List ℕ). Form b v) (sym (taken bytes t.front at next le within t.parts)) t.form)

  -- what is spelled at a place is read there
  spelled_here : (next : ℕ) (value : V) → Reads Form bytes at (value, next) → read (drop at bytes) ≡ Ok (value, drop next bytes)
  spelled_here next value h =
      let n = next - at in let below = h.0 in
      let split : drop at bytes ≡ take n (drop at bytes) ++ drop n (drop at bytes) = sym (take-append-drop n (drop at bytes)) in
      let on : at + n ≡ next = omega arith in
      let behind : drop n (drop at bytes) ≡ drop next bytes = drop-drop n at bytes ∙ ap (λ k. drop k bytes) on in
      ap read split ∙ is.again (take n (drop at bytes)) value (drop n (drop at bytes)) h.2 ∙ ap (λ (r : List ℕ). done {F = FieldFault} (value, r)) behind

  only_found : (v : V) (n : ℕ) → n ≤ length bytes → read (drop at bytes) ≡ Ok (v, drop n bytes) → (next : ℕ) (value : V) → Reads Form bytes at (value, next) → (v ≡ value) × (n ≡ next)
  only_found v n within e next value h =
      let both = ok_is {F = FieldFault} (v, drop n bytes) (value, drop next bytes) (sym e ∙ spelled_here next value h) in
      let tails : length (drop n bytes) ≡ length (drop next bytes) = ap (λ p. length p.1) both in
      let inside = h.1 in
      (ap (λ p. p.0) both, omega (arith, length-drop n bytes, length-drop next bytes))

  only_memory : (e : FieldFault) → Fails OrRefused e (read (drop at bytes)) → (next : ℕ) (value : V) → Reads Form bytes at (value, next) → e ≡ FieldFault.Memory
  only_memory e (inl f) next value h = let s = spelled_here next value h in absurd cc
  only_memory e (inr f) next value h = f.0

-- the same of a call's answer, seen by value and place
module _ {X V : Type 0} (read : List ℕ → Result (V × List ℕ) FieldFault) (Form : List ℕ → V → Type 0) (is : IsReader FieldFault.NeedMore read Form) (bytes : List ℕ) (at : ℕ) (view : X → V) (place : X → ℕ) where
  pub call_answers : (r : Result X FieldFault) → IsBytes (drop at bytes) → IfOk r (λ x. (at ≤ place x) × (place x ≤ length bytes)) → Gives OrRefused (λ x. (view x, drop (place x) bytes)) r (read (drop at bytes))
      → MatchResult r (λ x. Reads Form bytes at (view x, place x)) (λ e. Fails OrRefused e (read (drop at bytes)))
  call_answers (Ok x) fits inside gives = found_here read Form is bytes at (view x) (place x) fits inside.0 inside.1 gives
  call_answers (Err e) fits inside gives = gives

  pub call_only : (r : Result X FieldFault) → IfOk r (λ x. (at ≤ place x) × (place x ≤ length bytes)) → Gives OrRefused (λ x. (view x, drop (place x) bytes)) r (read (drop at bytes))
      → (next : ℕ) (value : V) → Reads Form bytes at (value, next) → MatchResult r (λ x. (view x ≡ value) × (place x ≡ next)) (λ e. e ≡ FieldFault.Memory)
  call_only (Ok x) inside gives = only_found read Form is bytes at (view x) (place x) inside.1 gives
  call_only (Err e) inside gives = only_memory read Form is bytes at e gives

-- and what follows the bytes changes nothing
pub call_goes : {X V : Type 0} (read : List ℕ → Result (V × List ℕ) FieldFault) → GoesOn read → (bytes : List ℕ) (at : ℕ) (view : X → V) (place : X → ℕ) (r : Result X FieldFault)
    → Gives OrRefused (λ x. (view x, drop (place x) bytes)) r (read (drop at bytes)) → IfOk r (λ x. (more : List ℕ) → read (drop at bytes ++ more) ≡ Ok (view x, drop (place x) bytes ++ more))
call_goes read goes bytes at view place (Ok x) gives = λ more. goes (drop at bytes) (view x) (drop (place x) bytes) more gives
call_goes read goes bytes at view place (Err e) gives = tt
