-- Lemmas on entities.
use Rattle.fast_wire.proofs.Common.{◌≡◌, ℕ, zero, suc, ◌+◌, ◌-◌, ◌<◌, ◌≤◌, List, [], ◌∷◌, length, get_or, take, drop, slice_range, arith, length-take, length-drop, get_or-take, get_or-drop, take-take, IsEntity, IsFirstStop}

-- the bytes up to the first stop bit are an entity
pub entity_to_stop : (xs : List ℕ) (i : ℕ) → get_or xs i 0 < 256 → IsFirstStop xs i → IsEntity (take (suc i) xs)
entity_to_stop [] i fits h = absurd (omega (arith, h.within))
entity_to_stop (x ∷ xs) zero fits h = (h.stop, fits)
entity_to_stop (x ∷ []) (suc i) fits h = absurd (omega (arith, h.within))
entity_to_stop (x ∷ y ∷ ys) (suc i) fits h =
    (h.before 0 (omega arith), entity_to_stop (y ∷ ys) i fits (record { within = omega (arith, h.within); stop = h.stop; before = λ k p. h.before (suc k) (omega arith) }))

-- so are the bytes from at to the first stop bit in a front of what follows at
pub entity_from : (xs : List ℕ) (at n i : ℕ) → ((k : ℕ) → get_or xs k 0 < 256) → IsFirstStop (take n (drop at xs)) i
    → (i < n) × (at + i + 1 ≤ length xs) × IsEntity (slice_range xs at (at + i + 1))
entity_from xs at n i fits h =
    let in_front : i < n = let w = h.within in omega (arith, length-take n (drop at xs)) in
    let in_rest : at + i + 1 ≤ length xs = let w = h.within in omega (arith, length-take n (drop at xs), length-drop at xs) in
    let le : suc i ≤ n = omega arith in
    let count : at + i + 1 - at ≡ suc i = omega arith in
    let byte : get_or (take n (drop at xs)) i 0 < 256 = rw (get_or-take n (drop at xs) i 0 in_front, get_or-drop at xs i 0) (fits (at + i)) in
    (in_front, in_rest, rw count (rw (← take-take (suc i) n (drop at xs) le) (entity_to_stop (take n (drop at xs)) i byte h)))
