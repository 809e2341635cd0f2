-- Messages one after the other, in each mode.
use Rattle.fast_stream.proofs.Common.{List, ℕ, [], ◌∷◌, ◌++◌, refl, sym, ap, subst, ◌∙◌, append_assoc, append-nil, Resolved, Mode, Content, Stand, NextForm, CarriesFrom}

module _ (mode : Mode) (set : List Resolved) where
  -- messages, and more messages behind them
  pub carries_on : (ms ns : List Content) (s t after : Stand) (front back : List ℕ) → CarriesFrom mode set s front ms t → CarriesFrom mode set t back ns after → CarriesFrom mode set s (front ++ back) (ms ++ ns) after
  carries_on [] ns s t after front back h k =
      subst (λ (z : List ℕ). CarriesFrom mode set s (z ++ back) ns after) (sym h.0) (subst (λ (u : Stand). CarriesFrom mode set u back ns after) h.1 k)
  carries_on (m ∷ ms) ns s t after front back h k = record {
    between = h.between;
    front = h.front;
    back = h.back ++ back;
    parts = ap (λ (z : List ℕ). z ++ back) h.parts ∙ append_assoc h.front h.back back;
    first = h.first;
    second = carries_on ms ns h.between t after h.back back h.second k;
  }

  -- one message
  pub carries_one : (s after : Stand) (form : List ℕ) (m : Content) → NextForm mode set s form m after → CarriesFrom mode set s form (m ∷ []) after
  carries_one s after form m h = record { between = after; front = form; back = []; parts = sym (append-nil form); first = h; second = (refl, refl) }
