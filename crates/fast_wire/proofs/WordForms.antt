-- The map of the bits of a word.
use Rattle.fast_wire.proofs.Common.{◌≡◌, ℕ, zero, suc, ◌+◌, ◌-◌, ◌*◌, ◌/◌, ◌%◌, ◌^◌, ◌<◌, ◌≤◌, Bool, true, false, nat_eq, List, [], ◌∷◌, ◌++◌, length, Result, Vec, Global, refl, sym, ap, ap₂, ◌∙◌, arith, inl, inr, append_assoc, add-mul, pow-add, w64, trailing_zeros, cases_lt, true≢false, mod-pow-add, pow_pos, shl-shr, shr-shr, shr_split, shl_below, shl_whole, bit_at-trailing_zeros, bit_at-zero, bit_at_above, bit_at_cat_low, mod-eq_of_lt, mul-pos, zero-mul, groups, HasSetBit, IsMap, bit_at, bits_of, word_bits, unsigned_of, Appends, entity_of, IsShortest, TooManyBits, Writes, WireFault}
use Rattle.fast_wire.proofs.MapForms.{few_none, past}
use Rattle.fast_wire.proofs.Numbers.{pow_bits}
use Rattle.fast_wire.proofs.UnsignedForms.{entity_is, entity_length, entity_some, entity_value}
use Rattle.fast_wire.proofs.WordBits.{map_word, word_set, word_unset}
use Rattle.fast_wire.proofs.Written.{appended}

pub word_length : (n w : ℕ) → length (word_bits n w) ≡ n
word_length zero w = refl
word_length (suc n) w = ap suc (word_length n w)

-- one bit more of a list that is written from the front
pub bits_step : (front : List Bool) (left w : ℕ) → 0 < left → (front ++ nat_eq (w / 2 ^ (left - 1) % 2) 1 ∷ []) ++ word_bits (left - 1) w ≡ front ++ word_bits left w
bits_step front zero w h = absurd (omega arith)
bits_step front (suc n) w h =
    let e : suc n - 1 ≡ n = omega arith in rw e (append_assoc front (nat_eq (w / 2 ^ n % 2) 1 ∷ []) (word_bits n w))

-- one bit more at the end
pub bits_push : (n w b : ℕ) → b ≤ 1 → word_bits (n + 1) (2 * w + b) ≡ word_bits n w ++ nat_eq b 1 ∷ []
bits_push zero w b small =
    let e : 0 + 1 ≡ 1 = omega arith in
    let last : (2 * w + b) / 2 ^ 0 % 2 ≡ b = omega arith in rw (e, last) refl
bits_push (suc n) w b small =
    let e : suc n + 1 ≡ suc (n + 1) = omega arith in
    let f : n + 1 ≡ 1 + n = omega arith in
    let half : (2 * w + b) / 2 ^ 1 ≡ w = omega arith in
    let high : (2 * w + b) / 2 ^ (n + 1) ≡ w / 2 ^ n = rw (f, ← shr-shr (2 * w + b) 1 n, half) refl in
    rw (e, high) (ap (λ l. nat_eq (w / 2 ^ n % 2) 1 ∷ l) (bits_push n w b small))

-- ---- zeros at the end

none_at : (bits : List Bool) (i : ℕ) → (HasSetBit bits → ⊥) → bit_at bits i ≡ false
none_at bits i none = by_bit (bit_at bits i) refl
  where
    by_bit : (b : Bool) → bit_at bits i ≡ b → b ≡ false
    by_bit false e = refl
    by_bit true e = absurd (none (i, e))

multiple : (w m : ℕ) → w * 2 ^ m % 2 ^ m ≡ 0
multiple w m = let split = shr_split (w * 2 ^ m) m in let same = shl-shr w m in omega (arith, rw same at split)

high_bit : (w k m : ℕ) → w * 2 ^ m / 2 ^ (k + m) ≡ w / 2 ^ k
high_bit w k m = let e : k + m ≡ m + k = omega arith in rw (e, ← shr-shr (w * 2 ^ m) m k, shl-shr w m) refl

-- a word that is moved up has zeros behind its bits
pub moved_bits : (k m w i : ℕ) → bit_at (word_bits (k + m) (w * 2 ^ m)) i ≡ bit_at (word_bits k w) i
moved_bits zero m w i =
    let e : 0 + m ≡ m = omega arith in rw e (none_at (word_bits m (w * 2 ^ m)) i (word_unset m (w * 2 ^ m) (multiple w m)))
moved_bits (suc k) m w zero =
    let e : suc k + m ≡ suc (k + m) = omega arith in rw (e, high_bit w k m) refl
moved_bits (suc k) m w (suc i) =
    let e : suc k + m ≡ suc (k + m) = omega arith in rw e (moved_bits k m w i)

-- behind the first m bits
last_bits : (m n w i : ℕ) → bit_at (word_bits (m + n) w) (m + i) ≡ bit_at (word_bits n w) i
last_bits zero n w i = let e : 0 + n ≡ n = omega arith in let f : 0 + i ≡ i = omega arith in rw (e, f) refl
last_bits (suc m) n w i =
    let e : suc m + n ≡ suc (m + n) = omega arith in let f : suc m + i ≡ suc (m + i) = omega arith in rw (e, f) (last_bits m n w i)

-- ---- the shortest map

entity_bits : (n v : ℕ) → 0 < n → v < 128 ^ n → bits_of (groups (entity_of n v)) ≡ word_bits (7 * n) v
entity_bits n v some low =
    let whole : v % 128 ^ n ≡ v = mod-eq_of_lt low in
    sym (map_word (entity_of n v)) ∙ ap (λ k. word_bits (7 * k) (unsigned_of (entity_of n v))) (entity_length n v)
    ∙ ap (word_bits (7 * n)) (entity_value n v some ∙ whole)

-- an entity whose last group is not 0, or that has one group, is the shortest map of its bits
pub word_shortest : (bits : List Bool) (v n : ℕ) → 0 < n → n ≤ 256 → v < 128 ^ n → (1 < n → v % 128 ≡ 0 → ⊥)
    → ((i : ℕ) → bit_at (word_bits (7 * n) v) i ≡ bit_at bits i) → IsShortest IsMap (entity_of n v) bits
word_shortest bits v n some few low last same = record {
  form = record {
    entity = entity_is n v some;
    short = rw (entity_length n v) few;
    value = λ i. ap (λ (l : List Bool). bit_at l i) (entity_bits n v some low) ∙ same i;
  };
  least = λ other f. rw (entity_length n v) (elim (cases_lt (length other) n) [
    | inl less ↦
        let one = entity_some other f.entity in
        let set = word_set 7 v (last (omega arith)) in
        let i = 7 * (n - 1) + set.0 in
        let e : 7 * (n - 1) + 7 ≡ 7 * n = omega arith in
        let here : bit_at (word_bits (7 * n) v) i ≡ true = rw (← e) (last_bits (7 * (n - 1)) 7 v set.0 ∙ set.1) in
        absurd (true≢false (sym here ∙ same i ∙ sym (f.value i) ∙ past other i (omega arith)))
    | inr le ↦ le
  ]);
}

pub word_appended : (old new : Vec ℕ Global) (bits : List Bool) (v n : ℕ) (r : Result (Unit {0}) WireFault) → length bits ≤ 1792 → 0 < n → n ≤ 256 → v < 128 ^ n
    → (1 < n → v % 128 ≡ 0 → ⊥) → ((i : ℕ) → bit_at (word_bits (7 * n) v) i ≡ bit_at bits i) → Appends (entity_of n v) old new r → Writes IsMap TooManyBits old new bits r
word_appended old new bits v n r most some few low last same a =
    appended IsMap TooManyBits old new bits (entity_of n v) r (word_shortest bits v n some few low last same) (λ e f. few_none bits most f.1) a

-- ---- zeros at the end of nine groups

-- two words that are one and the same with zeros behind their bits
pub same_moved : (k n m j w v : ℕ) → k + m ≡ n + j → w * 2 ^ m ≡ v * 2 ^ j → (i : ℕ) → bit_at (word_bits n v) i ≡ bit_at (word_bits k w) i
same_moved k n m j w v long same i =
    sym (moved_bits n j v i) ∙ ap₂ (λ a b. bit_at (word_bits a b) i) (sym long) (sym same) ∙ moved_bits k m w i

-- the groups in front of z groups of 0
pub front_bits : (count word z all : ℕ) → count ≤ 63 → z ≤ 9 → all ≡ word * 2 ^ (63 - count) → all % 128 ^ z ≡ 0
    → (i : ℕ) → bit_at (word_bits (7 * (9 - z)) (all / 2 ^ (7 * z))) i ≡ bit_at (word_bits count word) i
front_bits count word z all few nine is zeros i =
    let zeros' : all % 2 ^ (7 * z) ≡ 0 = rw (← pow_bits z) zeros in
    let back : all / 2 ^ (7 * z) * 2 ^ (7 * z) ≡ all = omega (arith, shr_split all (7 * z), zeros') in
    same_moved count (7 * (9 - z)) (63 - count) (7 * z) word (all / 2 ^ (7 * z)) (omega arith) (sym is ∙ sym back) i

low_zeros : (k n : ℕ) → ((i : ℕ) → i < k → n / 2 ^ i % 2 ≡ 0) → n % 2 ^ k ≡ 0
low_zeros zero n h = omega arith
low_zeros (suc k) n h =
    let more : 1 + k ≡ suc k = omega arith in
    let below : n % 2 ^ k ≡ 0 = low_zeros k n (λ i less. h i (omega arith)) in
    let top : n / 2 ^ k % 2 ≡ 0 = h k (omega arith) in
    let split = mod-pow-add n 1 k in
    rw (← more) (split ∙ rw (top, below) (omega arith))

-- the place of the lowest 1 of a number below 2 ^ 63
pub lowest_place : (n : ℕ) → 0 < n → n < 2 ^ 63 → trailing_zeros w64 n < 63
lowest_place n some nine =
    let t = bit_at-trailing_zeros w64 n some (omega arith) in
    elim (cases_lt (trailing_zeros w64 n) 63) [
      | inl less ↦ less
      | inr more ↦ absurd (let none = bit_at_above n 63 (trailing_zeros w64 n) nine more in omega (arith, t.1, none))
    ]

pub groups_zero : (n : ℕ) → 0 < n → n < 2 ^ 63 → n % 128 ^ (trailing_zeros w64 n / 7) ≡ 0
groups_zero n some nine =
    let t = bit_at-trailing_zeros w64 n some (omega arith) in
    rw (pow_bits (trailing_zeros w64 n / 7)) (low_zeros (7 * (trailing_zeros w64 n / 7)) n (λ i less. t.2 i (omega arith)))

group_bit : (x j : ℕ) → j < 7 → x % 128 ≡ 0 → x / 2 ^ j % 2 ≡ 0
group_bit x j few zeros =
    let e : x / 128 * 2 ^ 7 + 0 ≡ x = omega arith in
    let low = bit_at_cat_low (x / 128) 7 0 j few in
    (rw e at low) ∙ bit_at-zero j

pub group_not_zero : (n : ℕ) → 0 < n → n < 2 ^ 63 → n / 128 ^ (trailing_zeros w64 n / 7) % 128 ≡ 0 → ⊥
group_not_zero n some nine zeros =
    let t = trailing_zeros w64 n in
    let set = bit_at-trailing_zeros w64 n some (omega arith) in
    let none = group_bit (n / 128 ^ (t / 7)) (t - 7 * (t / 7)) (omega arith) zeros in
    let e : 7 * (t / 7) + (t - 7 * (t / 7)) ≡ t = omega arith in
    let same : n / 128 ^ (t / 7) / 2 ^ (t - 7 * (t / 7)) ≡ n / 2 ^ t = rw (pow_bits (t / 7), shr-shr n (7 * (t / 7)) (t - 7 * (t / 7)), e) refl in
    omega (arith, set.1, ap (λ x. x % 2) same, none)

-- ---- nine groups, the first bit at their front

pub nine_groups : (count w : ℕ) → count ≤ 63 → w < 2 ^ count → (w * 2 ^ (63 - count) % 2 ^ 64 ≡ w * 2 ^ (63 - count)) × (w * 2 ^ (63 - count) < 2 ^ 63)
nine_groups count w few low =
    let e : count + (63 - count) ≡ 63 = omega arith in
    (shl_whole w count (63 - count) 64 low (omega arith), rw e at (shl_below w count (63 - count) low))

pub some_kept : (w count : ℕ) → (w * 2 ^ (63 - count) % 2 ^ 64 % 2 ^ 56 ≡ 0 → ⊥) → 0 < w
some_kept w count some = elim (cases_lt 0 w) [
  | inl more ↦ more
  | inr none ↦
      let zero_word : w ≡ 0 = omega arith in
      let product : w * 2 ^ (63 - count) ≡ 0 = rw zero_word (zero-mul (2 ^ (63 - count))) in
      absurd (some (omega (arith, product)))
]

pub some_groups : (w m : ℕ) → 0 < w → 0 < w * 2 ^ m
some_groups w m some = mul-pos some (pow_pos m)

-- a word whose mark, its first 1, was moved to the front of 64 bits
pub marked_up : (w k : ℕ) → k ≤ 63 → 2 ^ k ≤ w → w < 2 ^ k + 2 ^ k
    → (2 ^ 63 ≤ w * 2 ^ (63 - k) % 2 ^ 64) × (w * 2 ^ (63 - k) % 2 ^ 64 - 2 ^ 63 ≡ (w - 2 ^ k) * 2 ^ (63 - k) % 2 ^ 64)
marked_up w k few low high =
    let nine = nine_groups k (w - 2 ^ k) few (omega arith) in
    let places : k + (63 - k) ≡ 63 = omega arith in
    let mark : 2 ^ k * 2 ^ (63 - k) ≡ 2 ^ 63 = rw places at (sym (pow-add 2 k (63 - k))) in
    let parts : 2 ^ k + (w - 2 ^ k) ≡ w = omega arith in
    let sum : w * 2 ^ (63 - k) ≡ 2 ^ 63 + (w - 2 ^ k) * 2 ^ (63 - k) = rw (← mark) (ap (λ x. x * 2 ^ (63 - k)) (sym parts) ∙ add-mul (2 ^ k) (w - 2 ^ k) (2 ^ (63 - k))) in
    rw (sum, nine.0) (omega (arith, nine.1), omega (arith, nine.1))
