-- How many groups numbers need.
use Rattle.fast_wire.proofs.Common.{◌≡◌, ℕ, ℤ, zero, suc, ◌+◌, ◌-◌, ◌*◌, ◌^◌, ◌<◌, ◌≤◌, refl, subst, arith, inl, inr, pow-suc, mul_assoc, pow-le-pow_right, mul-le-mul_left, cases_lt, nat_tests, nat_lt, true, false, magnitude, groups_from, unsigned_size, signed_size, IsLeastSize, IsLeastSignedSize}

-- more than n groups are too few for a number that is not below the limit of n groups
step_below : (more limit n : ℕ) → n < limit → groups_from (suc more) limit n ≡ 1
unfolding groups_from
step_below more limit n h = let t : nat_lt n limit ≡ true = grind (arith, nat_tests) in rw t refl

step_above : (more limit n : ℕ) → limit ≤ n → groups_from (suc more) limit n ≡ suc (groups_from more (limit * 128) n)
unfolding groups_from
step_above more limit n h = let t : nat_lt n limit ≡ false = grind (arith, nat_tests) in rw t refl

pub groups_from-positive : (more limit n : ℕ) → 1 ≤ groups_from more limit n
unfolding groups_from
groups_from-positive zero limit n = omega arith
groups_from-positive (suc more) limit n = elim (cases_lt n limit) [
  | inl lt ↦ rw (step_below more limit n lt) (omega arith)
  | inr le ↦ rw (step_above more limit n le) (omega arith)
]

pub groups_from-most : (more limit n : ℕ) → groups_from more limit n ≤ suc more
unfolding groups_from
groups_from-most zero limit n = omega arith
groups_from-most (suc more) limit n = elim (cases_lt n limit) [
  | inl lt ↦ rw (step_below more limit n lt) (omega arith)
  | inr le ↦ rw (step_above more limit n le) (let ih = groups_from-most more (limit * 128) n in omega arith)
]

pub groups_from-grows : (more limit m n : ℕ) → m ≤ n → groups_from more limit m ≤ groups_from more limit n
unfolding groups_from
groups_from-grows zero limit m n le = omega arith
groups_from-grows (suc more) limit m n le = elim (cases_lt m limit) [
  | inl lt ↦ rw (step_below more limit m lt) (groups_from-positive (suc more) limit n)
  | inr ge ↦ rw (step_above more limit m ge, step_above more limit n (omega arith)) (let ih = groups_from-grows more (limit * 128) m n le in omega arith)
]

-- the limit of one group more
next_limit : (c k : ℕ) → c * 128 ^ k * 128 ≡ c * 128 ^ suc k
next_limit c k = rw (pow-suc 128 k) (mul_assoc c (128 ^ k) 128)

-- n groups are the least that hold v, where k + 1 groups hold numbers below c * 128 ^ k
abbrev IsLeastFrom : ℕ → ℕ → ℕ → Type 0
IsLeastFrom c v n = (0 < n) × (v < c * 128 ^ (n - 1)) × (1 < n → c * 128 ^ (n - 2) ≤ v)

least_from : (c more k v : ℕ) → (0 < k → c * 128 ^ (k - 1) ≤ v) → v < c * 128 ^ (k + more) → IsLeastFrom c v (k + groups_from more (c * 128 ^ k) v)
unfolding groups_from
least_from c zero k v low high =
    let e : k + 0 ≡ k = omega arith in
    let back : k + 1 - 1 ≡ k = omega arith in
    let two : k + 1 - 2 ≡ k - 1 = omega arith in
    (omega arith, rw (back, ← e) high, λ h. rw two (low (omega arith)))
least_from c (suc more) k v low high =
    elim (cases_lt v (c * 128 ^ k)) [
      | inl lt ↦
          let back : k + 1 - 1 ≡ k = omega arith in
          let two : k + 1 - 2 ≡ k - 1 = omega arith in
          rw (step_below more (c * 128 ^ k) v lt) (omega arith, rw back lt, λ h. rw two (low (omega arith)))
      | inr ge ↦
          let back : suc k - 1 ≡ k = omega arith in
          let end : k + suc more ≡ suc k + more = omega arith in
          let ih = least_from c more (suc k) v (λ h. rw back ge) (rw (← end) high) in
          let same : k + suc (groups_from more (c * 128 ^ suc k) v) ≡ suc k + groups_from more (c * 128 ^ suc k) v = omega arith in
          rw (step_above more (c * 128 ^ k) v ge, next_limit c k, same) ih
    ]

-- the least is one
least_one : (c v m n : ℕ) → ((a b : ℕ) → a ≤ b → c * 128 ^ a ≤ c * 128 ^ b) → IsLeastFrom c v m → IsLeastFrom c v n → m ≡ n
least_one c v m n up a b =
    elim (cases_lt m n) [
      | inl lt ↦ let w = up (m - 1) (n - 2) (omega arith) in let x = a.1 in let y = b.2 (omega arith) in absurd (omega arith)
      | inr le ↦ elim (cases_lt n m) [
        | inl lt ↦ let w = up (n - 1) (m - 2) (omega arith) in let x = b.1 in let y = a.2 (omega arith) in absurd (omega arith)
        | inr ge ↦ omega arith
      ]
    ]

up : (c a b : ℕ) → a ≤ b → c * 128 ^ a ≤ c * 128 ^ b
up c a b h = mul-le-mul_left c (pow-le-pow_right {n = 128} (omega arith) h)

-- a number that ten groups hold needs as many as its size says
signed_needs : (v : ℤ) → magnitude v < 64 * 128 ^ 9 → IsLeastFrom 64 (magnitude v) (signed_size v)
unfolding signed_size
signed_needs v h =
    let same : 0 + groups_from 9 64 (magnitude v) ≡ groups_from 9 64 (magnitude v) = omega arith in
    subst (λ n. IsLeastFrom 64 (magnitude v) n) same (least_from 64 9 0 (magnitude v) (λ w. absurd (omega arith)) h)

pub signed_least : (v : ℤ) (n : ℕ) → IsLeastSignedSize v n → n ≡ signed_size v
signed_least v n h =
    let few : 64 * 128 ^ (n - 1) ≤ 64 * 128 ^ 9 = let w = h.1 in up 64 (n - 1) 9 (omega arith) in
    least_one 64 (magnitude v) n (signed_size v) (up 64) (h.0, h.2, h.3) (signed_needs v (let w = h.2 in omega arith))

unsigned_needs : (v : ℕ) → v < 128 ^ 10 → IsLeastFrom 128 v (unsigned_size v)
unfolding unsigned_size
unsigned_needs v h =
    let same : 0 + groups_from 9 128 v ≡ groups_from 9 128 v = omega arith in
    subst (λ n. IsLeastFrom 128 v n) same (least_from 128 9 0 v (λ w. absurd (omega arith)) h)

-- 128 ^ n as n groups more
one_more : (n : ℕ) → 128 * 128 ^ n ≡ 128 ^ suc n
one_more n = let e = pow-suc 128 n in omega arith

pub unsigned_least : (v : ℕ) (n : ℕ) → IsLeastSize v n → n ≡ unsigned_size v
unsigned_least v n h =
    let some = h.0 in let few = h.1 in
    let here : suc (n - 1) ≡ n = omega arith in
    let top : 128 ^ n ≤ 128 ^ 10 = pow-le-pow_right {n = 128} (omega arith) few in
    let high : v < 128 * 128 ^ (n - 1) = rw (one_more (n - 1), here) h.2 in
    let low : 1 < n → 128 * 128 ^ (n - 2) ≤ v = λ w. (let back : suc (n - 2) ≡ n - 1 = omega arith in rw (one_more (n - 2), back) (h.3 w)) in
    least_one 128 v n (unsigned_size v) (up 128) (some, high, low) (unsigned_needs v (let w = h.2 in omega arith))

-- so the size is a least one
pub unsigned_fits : (v : ℕ) → v < 128 ^ 10 → IsLeastSize v (unsigned_size v)
unfolding unsigned_size
unsigned_fits v h =
    let n = unsigned_size v in
    let w = unsigned_needs v h in
    let some = w.0 in
    let here : suc (n - 1) ≡ n = omega arith in
    (some, groups_from-most 9 128 v, rw (← here, ← one_more (n - 1)) w.1, λ g. (let back : suc (n - 2) ≡ n - 1 = omega arith in rw (← back, ← one_more (n - 2)) (w.2 g)))

pub signed_fits : (v : ℤ) → magnitude v < 64 * 128 ^ 9 → IsLeastSignedSize v (signed_size v)
unfolding signed_size
signed_fits v h = let w = signed_needs v h in (w.0, groups_from-most 9 64 (magnitude v), w.1, w.2)

pub unsigned_size-grows : (v w : ℕ) → v ≤ w → unsigned_size v ≤ unsigned_size w
unfolding unsigned_size
unsigned_size-grows v w h = groups_from-grows 9 128 v w h

pub signed_size-grows : (v w : ℤ) → magnitude v ≤ magnitude w → signed_size v ≤ signed_size w
unfolding signed_size
signed_size-grows v w h = groups_from-grows 9 64 (magnitude v) (magnitude w) h

pub unsigned_size-most : (v : ℕ) → unsigned_size v ≤ 10
unfolding unsigned_size
unsigned_size-most v = groups_from-most 9 128 v

pub unsigned_size-positive : (v : ℕ) → 0 < unsigned_size v
unfolding unsigned_size
unsigned_size-positive v = groups_from-positive 9 128 v

pub signed_size-most : (v : ℤ) → signed_size v ≤ 10
unfolding signed_size
signed_size-most v = groups_from-most 9 64 (magnitude v)

pub signed_size-positive : (v : ℤ) → 0 < signed_size v
unfolding signed_size
signed_size-positive v = groups_from-positive 9 64 (magnitude v)
