-- Numbers in one byte, which is their shortest form.
use Rattle.fast_take.proofs.Common.{◌≡◌, ℕ, pos, suc, ◌+◌, ◌%◌, ◌<◌, ◌≤◌, Bool, true, false, nat_le, List, length, drop, slice_range, get_or, refl, arith, one_byte, short_given, short_nullable_given, short_signed_given, short_signed_nullable_given, Presence, Mandatory, Optional, integer_at, overlong_number, bytes_from, StandsAt, zero_byte, Spelt, lt-leb}
use Rattle.fast_take.proofs.NumberJudging.{stands_at}
use Rattle.fast_take.proofs.Ranges.{byte_range}

module _ (bytes : List ℕ) (at n : ℕ) (fits : (k : ℕ) → get_or bytes k 0 < 256) (there : at < length bytes) where
  spelt_signed : (p : Presence) → n < 63 → get_or bytes at 0 ≡ zero_byte p + n → Spelt false p (drop at bytes) (pos n) (drop (at + 1) bytes)
  unfolding integer_at
  spelt_signed Mandatory few is =
      let plus : nat_le 64 (get_or bytes at 0 % 128) ≡ false = lt-leb 64 (get_or bytes at 0 % 128) (omega arith) in
      rw (short_signed_given bytes at (pos n) (at + 1) (record { spelled = n; short = one_byte bytes at n fits there (omega arith) (omega arith); value = rw (plus) refl })) refl
  spelt_signed Optional few is =
      let plus : nat_le 64 (get_or bytes at 0 % 128) ≡ false = lt-leb 64 (get_or bytes at 0 % 128) (omega arith) in
      rw (short_signed_nullable_given bytes at (pos (suc n)) (at + 1) (record { spelled = suc n; short = one_byte bytes at (suc n) fits there (omega arith) (omega arith); value = rw (plus) refl })) refl

  spelt_unsigned : (p : Presence) → get_or bytes at 0 ≡ zero_byte p + n → Spelt true p (drop at bytes) (pos n) (drop (at + 1) bytes)
  unfolding integer_at
  spelt_unsigned Mandatory is =
      let byte = fits at in
      rw (short_given bytes at n (at + 1) (one_byte bytes at n fits there (omega arith) (omega arith))) refl
  spelt_unsigned Optional is =
      let byte = fits at in
      rw (short_nullable_given bytes at (suc n) (at + 1) (one_byte bytes at (suc n) fits there (omega arith) (omega arith))) refl

  single : (u : Bool) → overlong_number u (slice_range bytes at (at + 1)) ≡ false
  single true = rw (byte_range bytes at there) refl
  single false = rw (byte_range bytes at there) refl

  pub signed_stands : (p : Presence) → n < 63 → get_or bytes at 0 ≡ zero_byte p + n → StandsAt false p bytes at (at + 1) (pos n)
  signed_stands p few is =
      stands_at false p bytes at (at + 1) (pos n) (bytes_from bytes at fits) (omega arith) (omega arith) (spelt_signed p few is) (single false)

  pub unsigned_stands : (p : Presence) → get_or bytes at 0 ≡ zero_byte p + n → StandsAt true p bytes at (at + 1) (pos n)
  unsigned_stands p is =
      stands_at true p bytes at (at + 1) (pos n) (bytes_from bytes at fits) (omega arith) (omega arith) (spelt_unsigned p is) (single true)

-- the byte of 0 has room above it
pub zero_low : (p : Presence) → zero_byte p ≤ 129
zero_low Mandatory = omega arith
zero_low Optional = omega arith
