-- Bits that are 1.
use Rattle.fast_writer.proofs.Common.{◌≡◌, ℕ, zero, suc, Bool, true, false, List, [], ◌∷◌, refl, bit_at, has_set}

pub set_at : (bits : List Bool) (i : ℕ) → bit_at bits i ≡ true → has_set bits ≡ true
set_at [] i h = absurd cc
set_at (true ∷ bits) i h = refl
set_at (false ∷ bits) zero h = absurd cc
set_at (false ∷ bits) (suc i) h = set_at bits i h
