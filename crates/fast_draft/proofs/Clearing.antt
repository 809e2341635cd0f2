-- A bit of a map's bytes is cleared.
use Rattle.std.proofs.Common.{◌≡◌, ℕ, zero, suc, ◌-◌, ◌*◌, ◌/◌, ◌%◌, ◌^◌, ◌<◌, ◌≤◌, false, nat_eq, List, [], ◌∷◌, length, get_or, set, refl, sym, ap, ◌∙◌, arith, inl, inr}
use Rattle.std.proofs.lemmas.Bool.{cases_eq, cases_lt}
use Rattle.std.proofs.lemmas.List.{get_or-set_same, get_or-set_other, length-set}
use Rattle.fast_wire.specs.Entity.{IsEntity}
use Rattle.fast_wire.proofs.MapBits.{bit_is}
use Rattle.fast_wire.proofs.MapForms.{past}
use Rattle.fast_draft.specs.Mending.{Clears}

-- a byte less one of its bits
other_bit : (b k m : ℕ) → k < 7 → m < 7 → (m ≡ k → ⊥) → b / 2 ^ k % 2 ≡ 1 → (b - 2 ^ k) % 128 / 2 ^ m % 2 ≡ b % 128 / 2 ^ m % 2
other_bit b zero zero hk hm apart e = absurd (apart refl)
other_bit b zero (suc zero) hk hm apart e = omega arith
other_bit b zero (suc (suc zero)) hk hm apart e = omega arith
other_bit b zero (suc (suc (suc zero))) hk hm apart e = omega arith
other_bit b zero (suc (suc (suc (suc zero)))) hk hm apart e = omega arith
other_bit b zero (suc (suc (suc (suc (suc zero))))) hk hm apart e = omega arith
other_bit b zero (suc (suc (suc (suc (suc (suc zero)))))) hk hm apart e = omega arith
other_bit b (suc zero) zero hk hm apart e = omega arith
other_bit b (suc zero) (suc zero) hk hm apart e = absurd (apart refl)
other_bit b (suc zero) (suc (suc zero)) hk hm apart e = omega arith
other_bit b (suc zero) (suc (suc (suc zero))) hk hm apart e = omega arith
other_bit b (suc zero) (suc (suc (suc (suc zero)))) hk hm apart e = omega arith
other_bit b (suc zero) (suc (suc (suc (suc (suc zero))))) hk hm apart e = omega arith
other_bit b (suc zero) (suc (suc (suc (suc (suc (suc zero)))))) hk hm apart e = omega arith
other_bit b (suc (suc zero)) zero hk hm apart e = omega arith
other_bit b (suc (suc zero)) (suc zero) hk hm apart e = omega arith
other_bit b (suc (suc zero)) (suc (suc zero)) hk hm apart e = absurd (apart refl)
other_bit b (suc (suc zero)) (suc (suc (suc zero))) hk hm apart e = omega arith
other_bit b (suc (suc zero)) (suc (suc (suc (suc zero)))) hk hm apart e = omega arith
other_bit b (suc (suc zero)) (suc (suc (suc (suc (suc zero))))) hk hm apart e = omega arith
other_bit b (suc (suc zero)) (suc (suc (suc (suc (suc (suc zero)))))) hk hm apart e = omega arith
other_bit b (suc (suc (suc zero))) zero hk hm apart e = omega arith
other_bit b (suc (suc (suc zero))) (suc zero) hk hm apart e = omega arith
other_bit b (suc (suc (suc zero))) (suc (suc zero)) hk hm apart e = omega arith
other_bit b (suc (suc (suc zero))) (suc (suc (suc zero))) hk hm apart e = absurd (apart refl)
other_bit b (suc (suc (suc zero))) (suc (suc (suc (suc zero)))) hk hm apart e = omega arith
other_bit b (suc (suc (suc zero))) (suc (suc (suc (suc (suc zero))))) hk hm apart e = omega arith
other_bit b (suc (suc (suc zero))) (suc (suc (suc (suc (suc (suc zero)))))) hk hm apart e = omega arith
other_bit b (suc (suc (suc (suc zero)))) zero hk hm apart e = omega arith
other_bit b (suc (suc (suc (suc zero)))) (suc zero) hk hm apart e = omega arith
other_bit b (suc (suc (suc (suc zero)))) (suc (suc zero)) hk hm apart e = omega arith
other_bit b (suc (suc (suc (suc zero)))) (suc (suc (suc zero))) hk hm apart e = omega arith
other_bit b (suc (suc (suc (suc zero)))) (suc (suc (suc (suc zero)))) hk hm apart e = absurd (apart refl)
other_bit b (suc (suc (suc (suc zero)))) (suc (suc (suc (suc (suc zero))))) hk hm apart e = omega arith
other_bit b (suc (suc (suc (suc zero)))) (suc (suc (suc (suc (suc (suc zero)))))) hk hm apart e = omega arith
other_bit b (suc (suc (suc (suc (suc zero))))) zero hk hm apart e = omega arith
other_bit b (suc (suc (suc (suc (suc zero))))) (suc zero) hk hm apart e = omega arith
other_bit b (suc (suc (suc (suc (suc zero))))) (suc (suc zero)) hk hm apart e = omega arith
other_bit b (suc (suc (suc (suc (suc zero))))) (suc (suc (suc zero))) hk hm apart e = omega arith
other_bit b (suc (suc (suc (suc (suc zero))))) (suc (suc (suc (suc zero)))) hk hm apart e = omega arith
other_bit b (suc (suc (suc (suc (suc zero))))) (suc (suc (suc (suc (suc zero))))) hk hm apart e = absurd (apart refl)
other_bit b (suc (suc (suc (suc (suc zero))))) (suc (suc (suc (suc (suc (suc zero)))))) hk hm apart e = omega arith
other_bit b (suc (suc (suc (suc (suc (suc zero)))))) zero hk hm apart e = omega arith
other_bit b (suc (suc (suc (suc (suc (suc zero)))))) (suc zero) hk hm apart e = omega arith
other_bit b (suc (suc (suc (suc (suc (suc zero)))))) (suc (suc zero)) hk hm apart e = omega arith
other_bit b (suc (suc (suc (suc (suc (suc zero)))))) (suc (suc (suc zero))) hk hm apart e = omega arith
other_bit b (suc (suc (suc (suc (suc (suc zero)))))) (suc (suc (suc (suc zero)))) hk hm apart e = omega arith
other_bit b (suc (suc (suc (suc (suc (suc zero)))))) (suc (suc (suc (suc (suc zero))))) hk hm apart e = omega arith
other_bit b (suc (suc (suc (suc (suc (suc zero)))))) (suc (suc (suc (suc (suc (suc zero)))))) hk hm apart e = absurd (apart refl)
other_bit b (suc (suc (suc (suc (suc (suc (suc k))))))) m hk hm apart e = absurd (omega arith)
other_bit b zero (suc (suc (suc (suc (suc (suc (suc m))))))) hk hm apart e = absurd (omega arith)
other_bit b (suc zero) (suc (suc (suc (suc (suc (suc (suc m))))))) hk hm apart e = absurd (omega arith)
other_bit b (suc (suc zero)) (suc (suc (suc (suc (suc (suc (suc m))))))) hk hm apart e = absurd (omega arith)
other_bit b (suc (suc (suc zero))) (suc (suc (suc (suc (suc (suc (suc m))))))) hk hm apart e = absurd (omega arith)
other_bit b (suc (suc (suc (suc zero)))) (suc (suc (suc (suc (suc (suc (suc m))))))) hk hm apart e = absurd (omega arith)
other_bit b (suc (suc (suc (suc (suc zero))))) (suc (suc (suc (suc (suc (suc (suc m))))))) hk hm apart e = absurd (omega arith)
other_bit b (suc (suc (suc (suc (suc (suc zero)))))) (suc (suc (suc (suc (suc (suc (suc m))))))) hk hm apart e = absurd (omega arith)

this_bit : (b k : ℕ) → k < 7 → b / 2 ^ k % 2 ≡ 1 → ((b - 2 ^ k) % 128 / 2 ^ k % 2 ≡ 0) × (128 ≤ b → 128 ≤ b - 2 ^ k)
this_bit b zero hk e = (omega arith, λ le. omega arith)
this_bit b (suc zero) hk e = (omega arith, λ le. omega arith)
this_bit b (suc (suc zero)) hk e = (omega arith, λ le. omega arith)
this_bit b (suc (suc (suc zero))) hk e = (omega arith, λ le. omega arith)
this_bit b (suc (suc (suc (suc zero)))) hk e = (omega arith, λ le. omega arith)
this_bit b (suc (suc (suc (suc (suc zero))))) hk e = (omega arith, λ le. omega arith)
this_bit b (suc (suc (suc (suc (suc (suc zero)))))) hk e = (omega arith, λ le. omega arith)
this_bit b (suc (suc (suc (suc (suc (suc (suc k))))))) hk e = absurd (omega arith)

no_bit : (b k : ℕ) → k < 7 → (b / 2 ^ k % 2 ≡ 1 → ⊥) → b % 128 / 2 ^ k % 2 ≡ 0
no_bit b zero hk e = grind arith
no_bit b (suc zero) hk e = grind arith
no_bit b (suc (suc zero)) hk e = grind arith
no_bit b (suc (suc (suc zero))) hk e = grind arith
no_bit b (suc (suc (suc (suc zero)))) hk e = grind arith
no_bit b (suc (suc (suc (suc (suc zero))))) hk e = grind arith
no_bit b (suc (suc (suc (suc (suc (suc zero)))))) hk e = grind arith
no_bit b (suc (suc (suc (suc (suc (suc (suc k))))))) hk e = absurd (omega arith)

entity_set : (bs : List ℕ) (q v : ℕ) → q < length bs → IsEntity bs → (get_or bs q 0 < 128 → v < 128) → (128 ≤ get_or bs q 0 → 128 ≤ v) → v ≤ get_or bs q 0 → IsEntity (set bs q v)
entity_set [] q v h e low high small = absurd e
entity_set (b ∷ []) zero v h e low high small = (high e.0, omega (arith, e.1))
entity_set (b ∷ []) (suc q) v h e low high small = absurd (omega arith)
entity_set (b ∷ c ∷ bs) zero v h e low high small = (low e.0, e.1)
entity_set (b ∷ c ∷ bs) (suc zero) v h e low high small = (e.0, entity_set (c ∷ bs) zero v (omega arith) e.1 low high small)
entity_set (b ∷ c ∷ bs) (suc (suc q)) v h e low high small = (e.0, entity_set (c ∷ bs) (suc q) v (omega arith) e.1 low high small)

bit_zero : (x : ℕ) → x ≡ 0 → nat_eq x 1 ≡ false
bit_zero x e = rw e refl

-- bit i is cleared
pub cleared : (bs : List ℕ) (i : ℕ) → i < 7 * length bs → get_or bs (i / 7) 0 / 2 ^ (6 - i % 7) % 2 ≡ 1
    → Clears i bs (set bs (i / 7) (get_or bs (i / 7) 0 - 2 ^ (6 - i % 7)))
cleared bs i h e =
    let q = i / 7 in let k = 6 - i % 7 in let b = get_or bs q 0 in let new = set bs q (b - 2 ^ k) in
    let inside : q < length bs = omega arith in
    let low : k < 7 = omega arith in
    let long : length new ≡ length bs = length-set bs q (b - 2 ^ k) in
    let here : get_or new q 0 ≡ b - 2 ^ k = get_or-set_same bs q (b - 2 ^ k) 0 inside in
    let this = this_bit b k low e in record {
      same_length = long;
      entity = λ en. entity_set bs q (b - 2 ^ k) inside en (λ l. omega arith) this.1 (omega arith);
      bit = sym (bit_is new i (rw long h)) ∙ bit_zero (get_or new q 0 % 128 / 2 ^ k % 2) (ap (λ x. x % 128 / 2 ^ k % 2) here ∙ this.0);
      others = λ j apart.
          elim (cases_lt j (7 * length bs)) [
            | inl less ↦ sym (bit_is new j (rw long less)) ∙ ap (λ x. nat_eq x 1) (same j apart) ∙ bit_is bs j less
            | inr more ↦ past new j (rw long more) ∙ sym (past bs j more)
          ];
    }
  where
    same : (j : ℕ) → (j ≡ i → ⊥) → get_or (set bs (i / 7) (get_or bs (i / 7) 0 - 2 ^ (6 - i % 7))) (j / 7) 0 % 128 / 2 ^ (6 - j % 7) % 2 ≡ get_or bs (j / 7) 0 % 128 / 2 ^ (6 - j % 7) % 2
    same j apart = elim (cases_eq (j / 7) (i / 7)) [
      | inl at ↦
          let inside : i / 7 < length bs = omega arith in
          let differ : 6 - j % 7 ≡ 6 - i % 7 → ⊥ = λ f. apart (omega arith) in
          rw at (ap (λ x. x % 128 / 2 ^ (6 - j % 7) % 2) (get_or-set_same bs (i / 7) (get_or bs (i / 7) 0 - 2 ^ (6 - i % 7)) 0 inside)
          ∙ other_bit (get_or bs (i / 7) 0) (6 - i % 7) (6 - j % 7) (omega arith) (omega arith) differ e)
      | inr far ↦ ap (λ x. x % 128 / 2 ^ (6 - j % 7) % 2) (get_or-set_other bs (i / 7) (j / 7) (get_or bs (i / 7) 0 - 2 ^ (6 - i % 7)) 0 far)
    ]

pub stays_clear : (bs : List ℕ) (i : ℕ) → i < 7 * length bs → (get_or bs (i / 7) 0 / 2 ^ (6 - i % 7) % 2 ≡ 1 → ⊥) → Clears i bs bs
stays_clear bs i h apart = record {
  same_length = refl;
  entity = λ e. e;
  bit = sym (bit_is bs i h) ∙ bit_zero (get_or bs (i / 7) 0 % 128 / 2 ^ (6 - i % 7) % 2) (no_bit (get_or bs (i / 7) 0) (6 - i % 7) (omega arith) apart);
  others = λ j apart. refl;
}
