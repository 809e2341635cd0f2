-- Nullable integers: what is sent and what is meant, and their readers.
use Rattle.std.proofs.Common.{◌≡◌, ℕ, ℤ, zero, suc, ◌+◌, ◌*◌, ◌^◌, ◌<◌, ◌≤◌, pos, negsuc, refl, sym, ap, subst, ◌∙◌, arith, add-one, inl, inr}
use Rattle.fast_wire.proofs.Common.{magnitude, IsUnsigned, IsSigned, sent_unsigned, sent_signed, received_unsigned, received_signed, IsUnsignedNullable, IsSignedNullable, unsigned_at, signed_at, unsigned_nullable_at, signed_nullable_at, IsReader, WireFault, Nullable, Null, Value, cases_lt}
use Rattle.fast_wire.proofs.Readers.{reader_map, reader_as}
use Rattle.fast_wire.proofs.FormReaders.{unsigned_forms, signed_forms}

pub sent_received : (n : ℕ) → sent_unsigned (received_unsigned n) ≡ n
sent_received zero = refl
sent_received (suc n) = add-one n

pub received_sent : (v : Nullable ℕ) → received_unsigned (sent_unsigned v) ≡ v
received_sent Null = refl
received_sent (Value n) = rw add-one refl

pub sent_received_signed : (z : ℤ) → sent_signed (received_signed z) ≡ z
sent_received_signed (pos zero) = refl
sent_received_signed (pos (suc n)) = ap pos (add-one n)
sent_received_signed (negsuc n) = refl

pub received_sent_signed : (v : Nullable ℤ) → received_signed (sent_signed v) ≡ v
received_sent_signed Null = refl
received_sent_signed (Value (pos n)) = rw add-one refl
received_sent_signed (Value (negsuc n)) = refl

pub unsigned_nullable_forms : IsReader WireFault.NeedMore unsigned_nullable_at IsUnsignedNullable
unfolding unsigned_nullable_at
unsigned_nullable_forms =
    reader_as WireFault.NeedMore unsigned_nullable_at (λ b y. (n : ℕ) × IsUnsigned b n × (received_unsigned n ≡ y)) IsUnsignedNullable
    (λ b y h. subst (λ (n : ℕ). IsUnsigned b n) (sym (sent_received h.0) ∙ ap sent_unsigned h.2) h.1)
    (λ b y h. (sent_unsigned y, h, received_sent y))
    (reader_map WireFault.NeedMore unsigned_at received_unsigned IsUnsigned unsigned_forms)

pub signed_nullable_forms : IsReader WireFault.NeedMore signed_nullable_at IsSignedNullable
unfolding signed_nullable_at
signed_nullable_forms =
    reader_as WireFault.NeedMore signed_nullable_at (λ b y. (n : ℤ) × IsSigned b n × (received_signed n ≡ y)) IsSignedNullable
    (λ b y h. subst (λ (n : ℤ). IsSigned b n) (sym (sent_received_signed h.0) ∙ ap sent_signed h.2) h.1)
    (λ b y h. (sent_signed y, h, received_sent_signed y))
    (reader_map WireFault.NeedMore signed_at received_signed IsSigned signed_forms)

-- a number with a form is what is sent for the value, and not one that was cut off at the largest
pub sent_is : (v z : ℤ) → (magnitude v < 2 ^ 127 → z ≡ v) → (2 ^ 127 ≤ magnitude v → magnitude z + 1 ≡ magnitude v) → magnitude z < 64 * 128 ^ 9 → z ≡ v
sent_is v z small large h = elim (cases_lt (magnitude v) (2 ^ 127)) [
  | inl lt ↦ small lt
  | inr ge ↦ let e = large ge in absurd (omega arith)
]
