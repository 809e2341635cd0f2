-- The entity of n groups that spells a number, and that none is shorter.
use Rattle.std.proofs.Common.{◌≡◌, ℕ, zero, suc, ◌+◌, ◌-◌, ◌*◌, ◌/◌, ◌%◌, ◌^◌, ◌<◌, ◌≤◌, List, [], ◌∷◌, ◌++◌, length, refl, sym, ap, ◌∙◌, arith, add-one, append_assoc, inl, inr}
use Rattle.fast_wire.proofs.Common.{pow-suc, pow-zero, pow-le-pow_right, mod-eq_of_lt, cases_lt, mod-pow-add, length-map, IsEntity, groups, unsigned_of, IsUnsigned, IsShortest, entity_of, IsLeastSize}
use Rattle.fast_wire.proofs.Numbers.{pow_bits, number_bound}

pub entity_more : (k v : ℕ) → 1 ≤ k → entity_of (k + 1) v ≡ (v / 128 ^ k % 128) ∷ entity_of k v
entity_more zero v h = absurd (omega arith)
entity_more (suc k) v h = rw add-one refl

pub entity_length : (n v : ℕ) → length (entity_of n v) ≡ n
entity_length zero v = refl
entity_length (suc zero) v = refl
entity_length (suc (suc n)) v = ap suc (entity_length (suc n) v)

pub entity_is : (n v : ℕ) → 0 < n → IsEntity (entity_of n v)
entity_is zero v h = absurd (omega arith)
entity_is (suc zero) v h = (omega arith, omega arith)
entity_is (suc (suc zero)) v h = (omega arith, entity_is (suc zero) v (omega arith))
entity_is (suc (suc (suc n))) v h = (omega arith, entity_is (suc (suc n)) v (omega arith))

-- the n lowest groups of v, as 128 ^ n counts
mod_more : (v n : ℕ) → v % 128 ^ suc n ≡ v / 128 ^ n % 128 * 128 ^ n + v % 128 ^ n
mod_more v n =
    let more : 7 * suc n ≡ 7 + 7 * n = omega arith in
    rw (pow_bits (suc n), pow_bits n, more) (mod-pow-add v 7 (7 * n))

-- one group more of an entity that is written from the front
pub entity_step : (front : List ℕ) (left v : ℕ) → 1 < left → (front ++ (v / 2 ^ (7 * (left - 1)) % 128) ∷ []) ++ entity_of (left - 1) v ≡ front ++ entity_of left v
entity_step front left v h =
    let back : left - 1 + 1 ≡ left = omega arith in
    let more = entity_more (left - 1) v (omega arith) in
    append_assoc front ((v / 2 ^ (7 * (left - 1)) % 128) ∷ []) (entity_of (left - 1) v)
    ∙ ap (λ l. front ++ l) (rw (← pow_bits (left - 1)) (sym more) ∙ ap (λ k. entity_of k v) back)

pub entity_value : (n v : ℕ) → 0 < n → unsigned_of (entity_of n v) ≡ v % 128 ^ n
entity_value zero v h = absurd (omega arith)
entity_value (suc zero) v h = rw (pow-suc 128 0, pow-zero 128) (omega (arith, pow-zero 128))
entity_value (suc (suc n)) v h =
    let ih = entity_value (suc n) v (omega arith) in
    let long : length (groups (entity_of (suc n) v)) ≡ suc n = length-map (entity_of (suc n) v) (λ b. b % 128) ∙ entity_length (suc n) v in
    let group : v / 128 ^ suc n % 128 % 128 ≡ v / 128 ^ suc n % 128 = omega arith in
    rw (mod_more v (suc n), long, group, ih) refl

-- an entity of n groups spells a number below 128 ^ n
pub unsigned_bound : (b : List ℕ) (v : ℕ) → IsUnsigned b v → v < 128 ^ length b
unsigned_bound b v f = rw f.value (number_bound b)

pub entity_some : (b : List ℕ) → IsEntity b → 0 < length b
entity_some [] e = absurd e
entity_some (x ∷ xs) e = omega arith

-- fewer groups than the least size do not hold the number
least_by : (v n : ℕ) (other : List ℕ) → IsLeastSize v n → IsUnsigned other v → n ≤ length other
least_by v n other h f =
    elim (cases_lt (length other) n) [
      | inl less ↦
          let some = entity_some other f.entity in
          let long : 1 < n = omega arith in
          let le : length other ≤ n - 1 = omega arith in
          let top : 128 ^ length other ≤ 128 ^ (n - 1) = pow-le-pow_right {n = 128} (omega arith) le in
          absurd (omega (arith, h.3 long, unsigned_bound other v f))
      | inr le ↦ le
    ]

-- a number of at most ten groups has a form, and the one of least size is a shortest
pub entity_shortest : (v n : ℕ) → IsLeastSize v n → IsShortest IsUnsigned (entity_of n v) v
entity_shortest v n h =
    let low : v % 128 ^ n ≡ v = mod-eq_of_lt h.2 in record {
      form = record { entity = entity_is n v h.0; short = rw (entity_length n v) h.1; value = sym (entity_value n v h.0 ∙ low) };
      least = λ other f. rw (entity_length n v) (least_by v n other h f);
    }
