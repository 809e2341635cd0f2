use Rattle.std.proofs.Common.{◌≡◌, ℕ, zero, suc, ◌<◌, ◌≤◌, ◌==◌, Bool, true, false, not, List, [], ◌∷◌, length, take, slice_index, refl, arith}
use Rattle.std.specs.List.{list_all}
use Rattle.std.proofs.lemmas.Bool.{and_from}
use Rattle.fast_write.specs.Written.{is_no_feed}
use Rattle.fast_write.proofs.lines.line_end.Goals as goal

is_not : (b : Bool) → (b ≡ true → ⊥) → not b ≡ true
is_not true h = absurd (h refl)
is_not false h = refl

-- a front in which no byte is a line feed
clean_front : (bytes : List ℕ) (n : ℕ) → ((k : ℕ) → 0 ≤ k → k < n → slice_index bytes k == 10 ≡ true → ⊥) → n ≤ length bytes → list_all is_no_feed (take n bytes) ≡ true
clean_front bytes zero none fits = refl
clean_front [] (suc n) none fits = refl
clean_front (c ∷ cs) (suc n) none fits =
    and_from _ _ (is_not (c == 10) (none 0 (omega arith) (omega arith))) (clean_front cs n (λ k low high. none (suc k) (omega arith) (omega (arith, high))) (omega (arith, fits)))

pub returns-in-Some-clause-clean : goal.returns-in-Some-clause-clean
returns-in-Some-clause-clean c = let f = c.in-Some.ensures.0 in let inside = f.high in clean_front _ _ f.before (omega (arith, inside))

pub returns-in-None-clause-clean : goal.returns-in-None-clause-clean
returns-in-None-clause-clean c = clean_front _ _ c.in-None.ensures (omega arith)
