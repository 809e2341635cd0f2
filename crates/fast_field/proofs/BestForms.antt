-- How a form is shown to be the best.
use Rattle.fast_field.proofs.Common.{◌≡◌, ℕ, ◌<◌, ◌≤◌, Bool, true, false, List, [], length, Option, refl, arith, inl, inr, ◌⊎◌, cases_lt, Usual, Operator, FieldPart, Scalar, Entry, Side, at_end, in_front, Cut, uncut, FormOf, FormBy, NoLater, IsBest, ap, bit_rank, side_rank}

-- ---- bit 0

pub bit_zero_row : (o : Operator) (i : FieldPart) (e : Entry) (cut : Cut) (b : List ℕ) (v : Option Scalar) → FormOf Usual o i e false cut b v → (cut ≡ uncut) × (b ≡ [])
bit_zero_row Operator.Plain i e cut b v h = absurd h
bit_zero_row Operator.Delta i e cut b v h = absurd h
bit_zero_row o i e cut b v h = (h.0, h.1)

bit_zero_first : (i : FieldPart) (e : Entry) (v : Option Scalar) (bit : Bool) (cut : Cut) (b : List ℕ) → FormBy Usual i e bit cut b v → NoLater false 0 uncut bit (length b) cut
bit_zero_first i e v true cut b h = inl (omega arith)
bit_zero_first i e v false cut b h = let z = bit_zero_row i.operator i e cut b v h.row in rw (z.0, z.1) (inr (refl, inr (refl, inr (refl, omega arith))))

-- where bit 0 gives the value, that is the best form
pub bit_zero_is_best : (i : FieldPart) (e : Entry) (v : Option Scalar) → FormBy Usual i e false uncut [] v → IsBest i e false [] v
bit_zero_is_best i e v h = record { cut = uncut; form = h; first = bit_zero_first i e v }

-- ---- bit 1

part_decides : (s s' : Side) (part part' : ℕ) → s ≡ at_end → part ≤ part' → (side_rank s < side_rank s') ⊎ ((s ≡ s') × (part ≤ part'))
part_decides s at_end part part' is le = inr (is, le)
part_decides s in_front part part' is le = inl (rw is (omega arith))

-- one that removes at the end comes before those of its length whose new part is no shorter
pub at_end_first : (n n' part : ℕ) (c' : Cut) → n ≤ n' → (n ≡ n' → part ≤ c'.part) → NoLater true n (record { side = at_end; part = part }) true n' c'
at_end_first n n' part c' le parts = elim (cases_lt n n') [
  | inl lt ↦ inr (refl, inl lt)
  | inr ge ↦ let same : n ≡ n' = omega arith in inr (refl, inr (same, part_decides at_end c'.side part c'.part refl (parts same)))
]

-- ---- what comes no later has no more bytes, under the same bit

pub size_le : (bit bit' : Bool) (n n' : ℕ) (c c' : Cut) → bit ≡ bit' → NoLater bit n c bit' n' c' → n ≤ n'
size_le bit bit' n n' c c' e (inl lt) = absurd (omega (arith, lt, ap bit_rank e))
size_le bit bit' n n' c c' e (inr h) = elim h.1 [ inl lt ↦ omega (arith, lt) | inr l ↦ let s = l.0 in omega arith ]
