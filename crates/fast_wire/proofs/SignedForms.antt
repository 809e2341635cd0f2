-- The entity of n groups that spells a signed number, and that none is shorter.
use Rattle.fast_wire.proofs.Common.{◌≡◌, ℕ, ℤ, pos, negsuc, zero, suc, ◌+◌, ◌-◌, ◌*◌, ◌/◌, ◌%◌, ◌^◌, ◌<◌, ◌≤◌, List, [], ◌∷◌, length, get_or, refl, sym, ap, ◌∙◌, arith, inl, inr, true, false, ◌-ℤ◌, w128, SFits, lt_z, nat_tests, pow-suc, pow-zero, pow-le-pow_right, mod-eq_of_lt, mul-le-mul_right, cases_lt, length-map, le-div, div_below, pow_pos, ints, groups, magnitude, unsigned_of, signed_of, IsSigned, CanBeSigned, IsShortest, entity_of, IsLeastSignedSize}
use Rattle.fast_wire.proofs.Numbers.{pow_bits, number_bound}
use Rattle.fast_wire.proofs.UnsignedForms.{entity_is, entity_length, entity_value, entity_some}
use Rattle.fast_wire.proofs.SignedNumbers.{signed_below, signed_above}

-- the number whose n groups spell v
abbrev pub lift : ℕ → ℤ → ℕ
lift n (pos a) = a
lift n (negsuc a) = 128 ^ n - 1 - a

power_pos : (n : ℕ) → 0 < 128 ^ n
power_pos n = rw (pow_bits n) (pow_pos (7 * n))

first_group : (k u : ℕ) → get_or (entity_of (suc k) u) 0 0 % 128 ≡ u / 128 ^ k % 128
first_group zero u = let e : u / 1 ≡ u = omega arith in rw (pow-zero 128, e) (omega arith)
first_group (suc k) u = omega arith

-- what the first of k + 1 groups says of a number that they hold
below_half : (k u : ℕ) → u < 64 * 128 ^ k → get_or (entity_of (suc k) u) 0 0 % 128 < 64
below_half k u h = let d = div_below u (128 ^ k) 64 (power_pos k) h in rw (first_group k u) (omega arith)

above_half : (k u : ℕ) → 64 * 128 ^ k ≤ u → u < 128 ^ suc k → 64 ≤ get_or (entity_of (suc k) u) 0 0 % 128
above_half k u h top =
    let low = le-div 64 u (128 ^ k) (power_pos k) h in
    let high : u / 128 ^ k < 128 = div_below u (128 ^ k) 128 (power_pos k) (let e = pow-suc 128 k in omega arith) in
    rw (first_group k u) (omega arith)

minus_is : (u s a : ℕ) → u + suc a ≡ s → negsuc a ≡ pos u -ℤ pos s
minus_is u s a e = omega (arith, ints)

pub spelled : (k : ℕ) (v : ℤ) → magnitude v < 64 * 128 ^ k → v ≡ signed_of (entity_of (suc k) (lift (suc k) v))
spelled k (pos a) h =
    let e = pow-suc 128 k in
    let long : 0 < length (entity_of (suc k) a) = rw (entity_length (suc k) a) (omega arith) in
    let low : a % 128 ^ suc k ≡ a = mod-eq_of_lt (omega arith) in
    sym (signed_above (entity_of (suc k) a) long (below_half k a h) ∙ ap pos (entity_value (suc k) a (omega arith) ∙ low))
spelled k (negsuc a) h =
    let e = pow-suc 128 k in
    let u = 128 ^ suc k - 1 - a in
    let long : 0 < length (entity_of (suc k) u) = rw (entity_length (suc k) u) (omega arith) in
    let top : u < 128 ^ suc k = omega arith in
    let low : u % 128 ^ suc k ≡ u = mod-eq_of_lt top in
    sym (signed_below (entity_of (suc k) u) long (above_half k u (omega arith) top)
    ∙ rw (entity_value (suc k) u (omega arith), low, entity_length (suc k) u) (sym (minus_is u (128 ^ suc k) a (omega arith))))

not_below : (u s : ℕ) (v : ℤ) → u < s → v ≡ pos u -ℤ pos s → magnitude v + suc u ≡ s
not_below u s (pos a) h e = absurd (omega (arith, ints))
not_below u s (negsuc a) h e = omega (arith, ints)

-- a form of n groups holds no more than n groups can
pub signed_bound : (b : List ℕ) (v : ℤ) → IsSigned b v → magnitude v < 64 * 128 ^ (length b - 1)
signed_bound [] v f = absurd f.entity
signed_bound (x ∷ xs) v f =
    let back : length (x ∷ xs) - 1 ≡ length xs = omega arith in
    let rest = number_bound xs in
    let all = number_bound (x ∷ xs) in
    let e = pow-suc 128 (length xs) in
    let same : 128 ^ length (groups xs) ≡ 128 ^ length xs = ap (λ n. 128 ^ n) (length-map xs (λ b. b % 128)) in
    let prod : x % 128 * 128 ^ length (groups xs) ≡ x % 128 * 128 ^ length xs = ap (λ n. x % 128 * n) same in
    rw back (elim (cases_lt (x % 128) 64) [
      | inl less ↦
          let top : x % 128 * 128 ^ length xs ≤ 63 * 128 ^ length xs = mul-le-mul_right (128 ^ length xs) (omega arith) in
          rw (f.value ∙ signed_above (x ∷ xs) (omega arith) less) (omega arith)
      | inr more ↦
          let low : 64 * 128 ^ length xs ≤ x % 128 * 128 ^ length xs = mul-le-mul_right (128 ^ length xs) more in
          let m = not_below (unsigned_of (x ∷ xs)) (128 ^ suc (length xs)) v all (f.value ∙ signed_below (x ∷ xs) (omega arith) more) in
          omega arith
    ])

least_by : (v : ℤ) (n : ℕ) (other : List ℕ) → IsLeastSignedSize v n → IsSigned other v → n ≤ length other
least_by v n other h f =
    elim (cases_lt (length other) n) [
      | inl less ↦
          let some = entity_some other f.entity in
          let long : 1 < n = omega arith in
          let le : length other - 1 ≤ n - 2 = omega arith in
          let top : 128 ^ (length other - 1) ≤ 128 ^ (n - 2) = pow-le-pow_right {n = 128} (omega arith) le in
          absurd (omega (arith, h.3 long, signed_bound other v f))
      | inr le ↦ le
    ]

-- a signed number of at most ten groups has a form, and the one of least size is a shortest
pub signed_shortest : (v : ℤ) (n : ℕ) → IsLeastSignedSize v n → IsShortest IsSigned (entity_of n (lift n v)) v
signed_shortest v zero h = absurd (omega (arith, h.0))
signed_shortest v (suc k) h =
    let back : suc k - 1 ≡ k = omega arith in record {
      form = record { entity = entity_is (suc k) (lift (suc k) v) h.0; short = rw (entity_length (suc k) (lift (suc k) v)) h.1; value = spelled k v (rw back at h.2) };
      least = λ other f. rw (entity_length (suc k) (lift (suc k) v)) (least_by v (suc k) other h f);
    }

pub lift_below : (n : ℕ) (v : ℤ) → lt_z v (pos 0) ≡ true → lift n v ≡ 128 ^ n - 1 - magnitude v
lift_below n (pos a) h = absurd (grind (arith, nat_tests))
lift_below n (negsuc a) h = refl

pub lift_above : (n : ℕ) (v : ℤ) → lt_z v (pos 0) ≡ false → lift n v ≡ magnitude v
lift_above n (pos a) h = refl
lift_above n (negsuc a) h = cc

-- a number that n groups hold is below the span of n groups
pub size_room : (v : ℤ) (n d : ℕ) → IsLeastSignedSize v n → d ≡ magnitude v → d ≤ 128 ^ n - 1
size_room v zero d h e = absurd (omega (arith, h.0))
size_room v (suc k) d h e =
    let back : suc k - 1 ≡ k = omega arith in
    let top = rw back at h.2 in
    let p = pow-suc 128 k in omega arith

-- ten groups hold such numbers
pub signed_most : (b : List ℕ) (v : ℤ) → IsSigned b v → magnitude v < 64 * 128 ^ 9
signed_most b v f =
    let few : length b - 1 ≤ 9 = let s = f.short in omega arith in
    let top : 128 ^ (length b - 1) ≤ 128 ^ 9 = pow-le-pow_right {n = 128} (omega arith) few in
    omega (arith, signed_bound b v f)

pub signed_fit : (v : ℤ) → CanBeSigned v → SFits w128 v
signed_fit (pos n) h = record { sfits = omega (arith, ints) }
signed_fit (negsuc n) h = record { sfits = omega (arith, ints) }
