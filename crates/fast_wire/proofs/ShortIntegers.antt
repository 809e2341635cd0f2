-- Entities of at most nine bytes, and what reading gives where one stands.
use Rattle.fast_wire.proofs.Common.{◌≡◌, ℕ, ◌+◌, ◌-◌, ◌*◌, ◌%◌, ◌^◌, ◌<◌, ◌≤◌, List, Bool, true, false, length, pos, get_or, take, drop, slice_range, Ok, refl, sym, ap, ◌∙◌, subst, arith, length-take, length-drop, get_or-take, get_or-drop, ℤ, pow-le-pow_right, pow-suc, add-one, w64, nat_le, ◌+ℤ◌, ◌*ℤ◌, SFits, to_z, of_z, ints, to_z-of_z, take-take, IsFirstStop, groups, is_negative, unsigned_of, received_signed, received_unsigned, signed_at, signed_nullable_at, unsigned_at, unsigned_nullable_at, IsShort, IsShortUnder, under_sign}
use Rattle.fast_wire.proofs.Entities.{entity_from}
use Rattle.fast_wire.proofs.FormReaders.{entity_given}
use Rattle.fast_wire.proofs.Numbers.{number_bound, unsigned_more}
use Rattle.fast_wire.proofs.SignedNumbers.{sign_is}
use Rattle.fast_wire.proofs.AsciiForms.{first_byte}

-- a power of 128 of at most eight groups
pub pow_eight : (n : ℕ) → n ≤ 8 → 128 ^ n ≤ 2 ^ 56
pow_eight n h = pow-le-pow_right {n = 128} (omega arith) h

-- one byte more
pub value_more : (w : List ℕ) (i value b : ℕ) → i < length w → value ≡ unsigned_of (take i w) → b ≡ get_or w i 0 % 128 → value * 128 + b ≡ unsigned_of (take (i + 1) w)
value_more w i value b h e f = omega (arith, unsigned_more w i h)

-- the byte that ends it
pub short_found : (bytes : List ℕ) (at n i value b : ℕ) → ((k : ℕ) → get_or bytes k 0 < 256) → n ≤ 9 → value ≡ unsigned_of (take i (take n (drop at bytes)))
    → b ≡ get_or (take n (drop at bytes)) i 0 % 128 → IsFirstStop (take n (drop at bytes)) i → IsShort bytes at (value * 128 + b) (at + i + 1)
short_found bytes at n i value b fits few e f stop =
    let here = entity_from bytes at n i fits stop in
    let count : at + i + 1 - at ≡ i + 1 = omega arith in
    let inside : i + 1 ≤ n = omega (arith, here.0) in
    let same : take (i + 1) (take n (drop at bytes)) ≡ slice_range bytes at (at + i + 1) = rw count (take-take (i + 1) n (drop at bytes) inside) in
    record {
      after = omega arith;
      within = here.1;
      short = omega (arith, here.0);
      entity = here.2;
      value = value_more (take n (drop at bytes)) i value b stop.within e f ∙ ap unsigned_of same;
    }

-- a first byte that ends it
pub one_byte : (bytes : List ℕ) (at b : ℕ) → ((k : ℕ) → get_or bytes k 0 < 256) → at < length bytes → 128 ≤ get_or bytes at 0 → b ≡ get_or bytes at 0 % 128 → IsShort bytes at b (at + 1)
one_byte bytes at b fits within stop e =
    let on : at + 0 ≡ at = omega arith in
    let byte : get_or (take 1 (drop at bytes)) 0 0 ≡ get_or bytes at 0 = get_or-take 1 (drop at bytes) 0 0 (omega arith) ∙ get_or-drop at bytes 0 0 ∙ ap (λ k. get_or bytes k 0) on in
    let first : IsFirstStop (take 1 (drop at bytes)) 0 = record { within = omega (arith, length-take 1 (drop at bytes), length-drop at bytes); stop = rw byte stop; before = λ k p. absurd (omega arith) } in
    let one = short_found bytes at 1 0 0 b fits (omega arith) refl (e ∙ ap (λ x. x % 128) (sym byte)) first in
    let value : 0 * 128 + b ≡ b = omega arith in
    let next : at + 0 + 1 ≡ at + 1 = omega arith in
    subst (λ k. IsShort bytes at b k) next (subst (λ v. IsShort bytes at v (at + 0 + 1)) value one)

-- what reading gives where one stands
pub short_given : (bytes : List ℕ) (at v next : ℕ) → IsShort bytes at v next → unsigned_at (drop at bytes) ≡ Ok (v, drop next bytes)
unfolding unsigned_at
short_given bytes at v next h =
    let a = h.after in let s = h.short in
    rw (entity_given bytes at next 10 (omega arith) h.within (omega arith) h.entity, h.value) refl

pub short_nullable_given : (bytes : List ℕ) (at v next : ℕ) → IsShort bytes at v next → unsigned_nullable_at (drop at bytes) ≡ Ok (received_unsigned v, drop next bytes)
unfolding unsigned_nullable_at
short_nullable_given bytes at v next h = rw (short_given bytes at v next h) refl

-- ---- signed numbers

-- a number of at most eight groups, times 128
pub under_fits : (negative : Bool) (n u : ℕ) (z : ℤ) → n ≤ 8 → u < 128 ^ n → z ≡ under_sign negative n u → SFits w64 (z *ℤ pos 128)
under_fits true n u z few low e = rw e (omega (arith, ints, pow_eight n few))
under_fits false n u z few low e = rw e (omega (arith, ints, pow_eight n few))

-- and a group more
pub more_fits : (negative : Bool) (n u g : ℕ) (z : ℤ) → n ≤ 8 → u < 128 ^ n → g < 128 → z ≡ under_sign negative n u → SFits w64 (z *ℤ pos 128 +ℤ pos g)
more_fits true n u g z few low small e = rw e (omega (arith, ints, pow_eight n few))
more_fits false n u g z few low small e = rw e (omega (arith, ints, pow_eight n few))

pub under_more : (negative : Bool) (n u g : ℕ) (z : ℤ) → z ≡ under_sign negative n u → z *ℤ pos 128 +ℤ pos g ≡ under_sign negative (n + 1) (u * 128 + g)
under_more true n u g z e = rw (e, add-one, pow-suc 128 n) (omega (arith, ints))
under_more false n u g z e = rw e (omega (arith, ints))

-- the same as it is computed
pub step_is : (negative : Bool) (n u g : ℕ) (z b : ℤ) → n ≤ 8 → u < 128 ^ n → g < 128 → z ≡ under_sign negative n u → b ≡ pos g
    → to_z w64 (of_z w64 (to_z w64 (of_z w64 (z *ℤ pos 128)) +ℤ to_z w64 (of_z w64 b))) ≡ under_sign negative (n + 1) (u * 128 + g)
step_is negative n u g z b few low small e f =
    let group : SFits w64 (pos g) = record { sfits = omega arith } in
    rw (f, to_z-of_z w64 (z *ℤ pos 128) (under_fits negative n u z few low e), to_z-of_z w64 (pos g) group)
    (to_z-of_z w64 (z *ℤ pos 128 +ℤ pos g) (more_fits negative n u g z few low small e) ∙ under_more negative n u g z e)

-- the numbers of the first groups, and the byte behind them
pub front_bound : (n i : ℕ) (xs : List ℕ) → i ≤ length (take n xs) → unsigned_of (take i (take n xs)) < 128 ^ i
front_bound n i xs h =
    let long : length (take i (take n xs)) ≡ i = omega (arith, length-take i (take n xs)) in
    subst (λ (k : ℕ). unsigned_of (take i (take n xs)) < 128 ^ k) long (number_bound (take i (take n xs)))

pub byte_behind : (bytes : List ℕ) (at n i : ℕ) → i < n → get_or (take n (drop at bytes)) i 0 ≡ get_or bytes (at + i) 0
byte_behind bytes at n i h = get_or-take n (drop at bytes) i 0 h ∙ get_or-drop at bytes i 0

-- a first group
pub first_under : (negative : Bool) (xs : List ℕ) (b : ℕ) → 0 < length xs → b < 128 → get_or xs 0 0 ≡ b → under_sign negative 1 b ≡ under_sign negative 1 (unsigned_of (take 1 xs))
first_under negative xs b some low e =
    let group : b ≡ get_or xs 0 0 % 128 = omega arith in
    let sum : 0 * 128 + b ≡ b = omega arith in
    ap (under_sign negative 1) (sym sum ∙ value_more xs 0 0 b some refl group)

-- what reading gives where a signed one stands
pub short_signed_given : (bytes : List ℕ) (at : ℕ) (number : ℤ) (next : ℕ) → IsShortUnder (nat_le 64 (get_or bytes at 0 % 128)) bytes at number next
    → signed_at (drop at bytes) ≡ Ok (number, drop next bytes)
unfolding signed_at
short_signed_given bytes at number next h =
    let a = h.short.after in let s = h.short.short in let w = h.short.within in
    let e = slice_range bytes at next in
    let long : length e ≡ next - at = omega (arith, length-take (next - at) (drop at bytes), length-drop at bytes) in
    let some : 0 < length e = omega arith in
    let sign : is_negative (groups e) ≡ nat_le 64 (get_or bytes at 0 % 128) = sign_is e some ∙ ap (λ b. nat_le 64 (b % 128)) (first_byte bytes at next a) in
    rw (entity_given bytes at next 10 (omega arith) w (omega arith) h.short.entity, sign, long, h.value, h.short.value) refl

pub short_signed_nullable_given : (bytes : List ℕ) (at : ℕ) (number : ℤ) (next : ℕ) → IsShortUnder (nat_le 64 (get_or bytes at 0 % 128)) bytes at number next
    → signed_nullable_at (drop at bytes) ≡ Ok (received_signed number, drop next bytes)
unfolding signed_nullable_at
short_signed_nullable_given bytes at number next h = rw (short_signed_given bytes at number next h) refl
