-- What numbers rest on that are judged as they stand.
use Rattle.fast_take.proofs.Common.{◌≡◌, ◌≤◌, ℕ, Bool, true, false, List, length, drop, slice_range, refl, rules, sym, ap, subst, ◌∙◌, ℤ, Some, IsBytes, is_of, of_integer, scalar_eq-exact, scalar_eq-same, Kind, Operator, Presence, FieldPart, Scalar, Entry, Assigned, next, HasNumber, IsNumber, next_number, left_out_of, overlong_number, integer_of, increased_is, kind_is, number_back, IfFound, Leaves, StandsAt, Spelt, Judged, Stands, Behind, BehindTwo, Given, Elsewhere}
use Rattle.fast_value.specs.contracts.scalar.ScalarPartialEq.TheImpl as scalar_eq
use Rattle.fast_take.proofs.Standing.{standing}

-- ---- what is handed on

pub found_as : (j : Judged) (next : ℕ) (P Q : Bool → Type 0) (other : Type 0) → ((bit : Bool) → P bit → Q bit) → IfFound next j P other → IfFound next j Q other
found_as (Stands n) next P Q other h f = (f.0, h true f.1)
found_as (Given n) next P Q other h f = (f.0, h false f.1)
found_as (Behind n) next P Q other h f = f
found_as (BehindTwo n) next P Q other h f = f
found_as Elsewhere next P Q other h f = f

-- ---- numbers

pub stands_at : (u : Bool) (p : Presence) (bytes : List ℕ) (at next : ℕ) (z : ℤ) → IsBytes (drop at bytes) → at ≤ next → next ≤ length bytes → Spelt u p (drop at bytes) z (drop next bytes) → overlong_number u (slice_range bytes at next) ≡ false → StandsAt u p bytes at next z
stands_at u p bytes at next z fits le within h short = record { spelt = h; form = standing u p bytes at next z fits le within h; short = short }

-- ---- numbers by the one that the entry has

increments : (k : Kind) (i : FieldPart) (e : Entry) (y : ℤ) (w : Scalar) → k ≡ i.kind → i.operator ≡ Operator.Increment → HasNumber k e y → left_out_of i.operator i e (Some w) ≡ (scalar_eq.eq-value).it (of_integer k (next_number k y)) w
increments k i (Assigned v) y w same o h =
    let is : is_of i.kind v ≡ true = subst (λ (x : Kind). is_of x v ≡ true) same (kind_is k v y h) in
    ap (λ (x : Operator). left_out_of x i (Assigned v) (Some w)) o ∙ rw (is, o, increased_is k v y h) refl
increments k i e y w same o h = absurd h

number_next : (i : FieldPart) (old new : Entry) (v : Scalar) → i.operator ≡ Operator.Increment → new ≡ Assigned v → new ≡ next i old (Some v)
number_next i old new v o entry = rw o entry

number_kept : (k : Kind) (e : Entry) (y : ℤ) → HasNumber k e y → IsNumber k y
number_kept k (Assigned v) y h = h.number
number_kept k e y h = absurd h

next_fits : (k : Kind) (y : ℤ) → IsNumber k y → IsNumber k (next_number k y)
next_fits k y h = search rules depth 2

pub increment_gives : (k : Kind) (i : FieldPart) (old new : Entry) (y z : ℤ) → k ≡ i.kind → i.operator ≡ Operator.Increment → HasNumber k old y → next_number k y ≡ z → new ≡ Assigned (of_integer k z) → Leaves false i old new (Some (of_integer k z))
increment_gives k i old new y z same o h is entry = record {
  entry = number_next i old new (of_integer k z) o entry;
  left_out = increments k i old y (of_integer k z) same o h ∙ rw is (scalar_eq-same (of_integer k z));
}

no_same : (v w : Scalar) (b : Bool) → (v ≡ w → ⊥) → (scalar_eq.eq-value).it v w ≡ b → (scalar_eq.eq-value).it v w ≡ false
no_same v w true differ e = absurd (differ (scalar_eq-exact v w e))
no_same v w false differ e = e

pub increment_sends : (k : Kind) (i : FieldPart) (old new : Entry) (y z : ℤ) → k ≡ i.kind → i.operator ≡ Operator.Increment → HasNumber k old y → IsNumber k z → (next_number k y ≡ z → ⊥) → new ≡ Assigned (of_integer k z) → Leaves true i old new (Some (of_integer k z))
increment_sends k i old new y z same o h fits differ entry =
    let v = of_integer k (next_number k y) in
    let w = of_integer k z in
    let follows = next_fits k y (number_kept k old y h) in record {
      entry = number_next i old new w o entry;
      left_out = increments k i old y w same o h ∙ no_same v w ((scalar_eq.eq-value).it v w) (λ e. differ (sym (number_back k (next_number k y) follows) ∙ ap integer_of e ∙ number_back k z fits)) refl;
    }
