-- A map of one group or two that reaches no further than its last 1 is none that the strict level refuses.
use Rattle.fast_walk.proofs.Common.{◌≡◌, ◌≤◌, ◌<◌, ℕ, ◌%◌, Bool, true, false, nat_eq, nat_le, List, [], ◌∷◌, Ok, refl, arith, ◌⊎◌, inl, inr, nat_tests, judge, overlong_map, entity_at, WireFault, Strict, BeginsShortMap}

one : {F : Type 0} (of_wire : WireFault → F) (f : F) (b : ℕ) (bs : List ℕ) → nat_le 128 b ≡ true → judge Strict 256 overlong_map of_wire f (b ∷ bs) ≡ Ok tt
unfolding entity_at
one of_wire f b bs ends = rw ends refl

either : {F : Type 0} (of_wire : WireFault → F) (f : F) (b c : ℕ) (bs : List ℕ) (ends : Bool) → nat_le 128 b ≡ ends → (128 ≤ b) ⊎ ((128 < c) × (c < 256)) → judge Strict 256 overlong_map of_wire f (b ∷ c ∷ bs) ≡ Ok tt
unfolding entity_at
either of_wire f b c bs true is h = one of_wire f b (c ∷ bs) is
either of_wire f b c bs false is (inl h) = grind (arith, nat_tests)
either of_wire f b c bs false is (inr h) =
    let above = h.0 in
    let byte = h.1 in
    let ends : nat_le 128 c ≡ true = grind (arith, nat_tests) in
    let some : nat_eq (c % 128) 0 ≡ false = grind (arith, nat_tests) in
    rw is (rw ends (rw some refl))

pub short_map : {F : Type 0} (of_wire : WireFault → F) (f : F) (bytes : List ℕ) → BeginsShortMap bytes → judge Strict 256 overlong_map of_wire f bytes ≡ Ok tt
short_map of_wire f [] h = absurd h
short_map of_wire f (b ∷ []) h = one of_wire f b [] (grind (arith, nat_tests))
short_map of_wire f (b ∷ c ∷ bs) h = either of_wire f b c bs (nat_le 128 b) refl h
