-- Bytes in hex digits, by a table of both digits.
use Rattle.fast_lines.proofs.Common.{◌≡◌, ℕ, suc, ◌+◌, ◌-◌, ◌*◌, ◌/◌, ◌%◌, ◌<◌, Bool, true, T, eqb, ◌&&◌, [], ◌∷◌, get_or, arith, inl, inr, encode_lower, lower_digits}
use Rattle.std.proofs.Common.{zero, eq-zero-or-pos, eqb→eq}
use Rattle.fast_lines.proofs.Written.{encode_pair}
use lib.Ieee.Fits.{and_l, and_r}
use Rattle.fast_lines.specs.declared.bytes.TheConstants.{HEX_PAIRS}

abbrev are_pairs : ℕ → Bool
are_pairs zero = true
are_pairs (suc b) =
    (eqb (get_or HEX_PAIRS (b * 2) 0) (get_or lower_digits (b / 16) 0)
    && eqb (get_or HEX_PAIRS (b * 2 + 1) 0) (get_or lower_digits (b % 16) 0)) && are_pairs b

below : (n b : ℕ) → T (are_pairs n) → b < n
    → (get_or HEX_PAIRS (b * 2) 0 ≡ get_or lower_digits (b / 16) 0) × (get_or HEX_PAIRS (b * 2 + 1) 0 ≡ get_or lower_digits (b % 16) 0)
below zero b t h = absurd (omega arith)
below (suc n) b t h =
    elim (eq-zero-or-pos (n - b)) [
      | inl z ↦ let e : b ≡ n = omega arith in let a = and_l _ (are_pairs n) t in rw e (eqb→eq _ _ (and_l _ _ a), eqb→eq _ _ (and_r _ _ a))
      | inr g ↦ below n b (and_r _ (are_pairs n) t) (omega arith)
    ]

-- both digits of a byte
pub hex_pair_at : (b : ℕ) → b < 256 → get_or HEX_PAIRS (b * 2) 0 ∷ get_or HEX_PAIRS (b * 2 + 1) 0 ∷ [] ≡ encode_lower (b ∷ [])
hex_pair_at b h = let p = below 256 b tt h in rw (p.0, p.1) (encode_pair b)
