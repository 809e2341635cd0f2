-- What decimals that are read at once rest on.
use Rattle.fast_take.proofs.Common.{◌≡◌, ℕ, true, false, List, Ok, refl, sym, subst, ◌∙◌, ℤ, ◌+ℤ◌, ◌-ℤ◌, Some, Usual, signed_at, Value, exponent_in_range, in_range, Kind, Part, Presence, Mandatory, FieldPart, Decimal, Entry, Assigned, ShortestPair, DeltaForm, decimal_delta_at, decimal_spelled_at, decimal_value, delta_at, in_field, integer_at, mantissa_behind, mantissa_delta_behind, spelled_at, whole_at, IsFirst, delta_is_first, IsOfType, Spelt}
use Rattle.fast_field.proofs.ChosenForms.{decimal_value as decimal_is_first}
use Rattle.fast_field.proofs.FieldLaws.{made_back}
use Rattle.fast_take.proofs.NumberRelaying.{added_back, base_is}

-- a number that is spelled is read
signed_read : (bytes rest : List ℕ) (z : ℤ) → Spelt false Mandatory bytes z rest → in_field (signed_at bytes) ≡ Ok (z, rest)
unfolding integer_at
signed_read bytes rest z h = made_back (in_field (signed_at bytes)) (λ z. Value z) z rest (λ x e. cc) h

pub delta_as : (k : Kind) (i : FieldPart) (e : Entry) (bytes : List ℕ) → k ≡ Kind.Decimal → delta_at Usual k i e bytes ≡ decimal_delta_at Usual i e bytes
unfolding delta_at
delta_as Kind.Decimal i e bytes h = refl
delta_as k i e bytes h = absurd cc

pub delta_read : (i : FieldPart) (x m dx dm : ℤ) (bytes mid rest : List ℕ) → i.kind ≡ Kind.Decimal → Spelt false i.presence bytes dx mid → exponent_in_range (x +ℤ dx) ≡ true → Spelt false Mandatory mid dm rest → in_range Kind.Int64 (m +ℤ dm) ≡ true
    → decimal_delta_at Usual i (Assigned (Decimal x m)) bytes ≡ Ok (Some (Decimal (x +ℤ dx) (m +ℤ dm)), rest)
unfolding decimal_delta_at mantissa_delta_behind decimal_value
delta_read i x m dx dm bytes mid rest k exponent near mantissa fits =
    rw (exponent, base_is i (Decimal x m) (rw k refl), near, signed_read mid rest dm mantissa, fits) refl

pub of_type : (k : Kind) (e m : ℤ) → k ≡ Kind.Decimal → exponent_in_range e ≡ true → in_range Kind.Int64 m ≡ true → IsOfType k (Decimal e m)
of_type k e m same near fits = subst (λ (k : Kind). IsOfType k (Decimal e m)) (sym same) (refl, (near, fits))

pub delta_first : (i : FieldPart) (x m dx dm : ℤ) (b : List ℕ) → i.kind ≡ Kind.Decimal → exponent_in_range (x +ℤ dx) ≡ true → in_range Kind.Int64 (m +ℤ dm) ≡ true → ShortestPair i.presence dx dm b
    → IsFirst (λ c b. DeltaForm Usual i (Assigned (Decimal x m)) c b (Some (Decimal (x +ℤ dx) (m +ℤ dm)))) b
delta_first i x m dx dm b k near fits s =
    let base = Decimal x m in
    let v = Decimal (x +ℤ dx) (m +ℤ dm) in
    let one = subst (λ (e : ℤ). ShortestPair i.presence e dm b) (added_back x dx) s in
    let both = subst (λ (z : ℤ). ShortestPair i.presence ((x +ℤ dx) -ℤ x) z b) (added_back m dm) one in
    delta_is_first i (Assigned base) base v b (base_is i base (rw k refl)) (decimal_is_first i.kind i.presence base v b k (of_type i.kind (x +ℤ dx) (m +ℤ dm) k near fits) both)

-- ---- what stands whole

spelled_as : (pt : Part) (k : Kind) (p : Presence) (bytes : List ℕ) → k ≡ Kind.Decimal → spelled_at Usual pt k p bytes ≡ decimal_spelled_at Usual p bytes
unfolding spelled_at
spelled_as pt Kind.Decimal p bytes h = refl
spelled_as pt k p bytes h = absurd cc

spelled_read : (p : Presence) (x m : ℤ) (bytes mid rest : List ℕ) → Spelt false p bytes x mid → exponent_in_range x ≡ true → Spelt false Mandatory mid m rest → in_range Kind.Int64 m ≡ true → decimal_spelled_at Usual p bytes ≡ Ok (Some (Decimal x m), rest)
unfolding decimal_spelled_at mantissa_behind decimal_value
spelled_read p x m bytes mid rest exponent near mantissa fits = rw (exponent, near, signed_read mid rest m mantissa, fits) refl

pub whole_read : (i : FieldPart) (x m : ℤ) (bytes mid rest : List ℕ) → i.kind ≡ Kind.Decimal → Spelt false i.presence bytes x mid → exponent_in_range x ≡ true → Spelt false Mandatory mid m rest → in_range Kind.Int64 m ≡ true → whole_at Usual i bytes ≡ Ok (Some (Decimal x m), rest)
unfolding whole_at
whole_read i x m bytes mid rest k exponent near mantissa fits = spelled_as i.part i.kind i.presence bytes k ∙ spelled_read i.presence x m bytes mid rest exponent near mantissa fits
