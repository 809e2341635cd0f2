-- How calls judge a value.
use Rattle.fast_field.proofs.Common.{◌≡◌, ℕ, zero, suc, ◌<◌, Bool, true, false, List, [], ◌∷◌, get_or, refl, arith, MatchBool, nat_lt, nat_tests, are_characters, and_parts, lt-ltb}
use Rattle.std.specs.Str.{IsAscii, IsNotAscii}

each_low : (s : List ℕ) → ((k : ℕ) → get_or s k 0 < 128) → are_characters s ≡ true
each_low [] h = refl
each_low (c ∷ s) h = rw (lt-ltb c 128 (h 0), each_low s (λ k. h (suc k))) refl

low_each : (s : List ℕ) → are_characters s ≡ true → (k : ℕ) → get_or s k 0 < 128
low_each [] h k = omega arith
low_each (c ∷ s) h zero = let w = and_parts (nat_lt c 128) (are_characters s) h in let t = w.0 in grind (arith, nat_tests)
low_each (c ∷ s) h (suc k) = let w = and_parts (nat_lt c 128) (are_characters s) h in low_each s w.1 k

told : (s : List ℕ) (r b : Bool) → are_characters s ≡ b → MatchBool r (IsAscii s) (IsNotAscii s) → r ≡ b
told s true true e h = refl
told s false false e h = refl
told s true false e h = let w = each_low s h in absurd cc
told s false true e h = let low = low_each s e h.0 in absurd (omega (arith, low, h.1))

pub characters_told : (s : List ℕ) (r : Bool) → MatchBool r (IsAscii s) (IsNotAscii s) → r ≡ are_characters s
characters_told s r h = told s r (are_characters s) refl h
