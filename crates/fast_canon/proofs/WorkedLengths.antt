-- Worked streams beside the canonical bytes of what they carry. Some are longer and some as long, so no law can say
-- that a stream is its own canonical bytes, or that these are fewer.
use Rattle.fast_canon.proofs.Common.{◌≡◌, ◌≢◌, ◌<◌, ℕ, List, [], ◌∷◌, length, get_or, refl, ap, lit<, arith, Usual, worked_set, Content, hex, quote, u32, message, spelled_out, overlong_integer, overlong_map, unasked_bit, copied, carried, IsCanonical, canonical_first, quote_one, canonical_quotes}
use Rattle.fast_stream.specs.Streams.{Carries}

-- a stream and the canonical bytes of its messages
record AreOf (messages : List Content) (stream bytes : List ℕ) : Type 0 where
  carries : Carries Usual worked_set stream messages
  canonical : IsCanonical worked_set messages bytes

abbrev IsLonger : List Content → List ℕ → List ℕ → Type 0
IsLonger messages stream bytes = AreOf messages stream bytes × (length bytes < length stream)

abbrev IsAsLong : List Content → List ℕ → List ℕ → Type 0
IsAsLong messages stream bytes = AreOf messages stream bytes × (length bytes ≡ length stream) × (bytes ≢ stream)

canonical_quote : IsCanonical worked_set (quote 1 100 ∷ []) (hex "F0 81 81 41 C2 FE 00 E4")
canonical_quote = (_, record { between = _; front = hex "F0 81 81 41 C2 FE 00 E4"; back = []; parts = refl; first = quote_one; second = (refl, refl) })

-- fields that their predecessors predict, spelled out
predicted : IsLonger (quote 1 100 ∷ quote 2 101 ∷ []) (hex "F0 81 81 41 C2 FE 00 E4 F8 81 82 41 C2 80 81 80") (hex "F0 81 81 41 C2 FE 00 E4 80 80 81")
predicted = (record { carries = carried _ _ refl spelled_out; canonical = canonical_quotes }, lit< tt)

copies : IsLonger (message 16 (u32 5 ∷ u32 6 ∷ []) ∷ message 16 (u32 7 ∷ u32 6 ∷ []) ∷ []) (hex "E0 90 85 86 E0 90 87 86") (hex "E0 90 85 86 80 87")
copies = (record { carries = carried _ _ refl copied; canonical = canonical_first }, lit< tt)

-- an integer and a map with groups of 0 that they could do without
overlong_number : IsLonger (quote 1 100 ∷ []) (hex "F0 81 00 00 81 41 C2 FE 00 E4") (hex "F0 81 81 41 C2 FE 00 E4")
overlong_number = (record { carries = carried _ _ refl overlong_integer; canonical = canonical_quote }, lit< tt)

wide_map : IsLonger (quote 1 100 ∷ []) (hex "70 00 80 81 81 41 C2 FE 00 E4") (hex "F0 81 81 41 C2 FE 00 E4")
wide_map = (record { carries = carried _ _ refl overlong_map; canonical = canonical_quote }, lit< tt)

-- a bit that no instruction asked for
set_unasked : IsAsLong (quote 1 100 ∷ []) (hex "F1 81 81 41 C2 FE 00 E4") (hex "F0 81 81 41 C2 FE 00 E4")
set_unasked = (record { carries = carried _ _ refl unasked_bit; canonical = canonical_quote }, refl, λ e. let first : 0xf0 ≡ 0xf1 = ap (λ (l : List ℕ). get_or l 0 0) e in absurd (omega (arith, first)))
