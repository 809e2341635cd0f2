-- A length in one byte that no entry keeps, and a number that its entry has afterwards.
use Rattle.fast_take.proofs.Common.{◌≡◌, ℕ, false_from_ne_true, scalar_eq-exact, pos, ◌+◌, ◌<◌, true, false, List, ◌∷◌, [], length, drop, get_or, refl, sym, subst, arith, Some, None, UInt32, Entry, Assigned, Plain, Copy, Length, Presence, Mandatory, Optional, FieldPart, IsFieldNumber, LeavesWhole, zero_byte, RelaysByte, StandsByte, left_out_of, Judges, of_integer, Kind, le-leb}
use Rattle.fast_value.specs.contracts.scalar.ScalarPartialEq.TheImpl as scalar_eq
use Rattle.fast_value.specs.declared.kind.Part.TheVariants.{Whole}
use Rattle.fast_value.specs.declared.scalar.Scalar.TheVariants.{U32}
use Rattle.fast_field.proofs.FieldsWithin.{uint_in_range}
use Rattle.fast_take.proofs.NullRelaying.{null_byte, null_judges}
use Rattle.fast_take.proofs.Ranges.{byte_range}
use Rattle.fast_take.proofs.NumberRelaying.{typed_judges}
use Rattle.fast_take.proofs.OneByte.{unsigned_stands}

length_number : (i : FieldPart) (n : ℕ) → i.part ≡ Length → n < 128 → IsFieldNumber UInt32 i.part (pos n)
length_number i n part few = record { number = record { integer = refl; range = uint_in_range n 4294967295 (omega (arith, few)) }; within = rw (part) (le-leb n 65535 (omega (arith, few))) }

few_above : (p : Presence) (byte n : ℕ) → byte < 256 → byte ≡ zero_byte p + n → n < 128
few_above Mandatory byte n fits is = omega (arith, fits, is)
few_above Optional byte n fits is = omega (arith, fits, is)

pub length_relays : (i : FieldPart) (bytes : List ℕ) (at n : ℕ) → ((k : ℕ) → get_or bytes k 0 < 256) → at < length bytes → i.operator ≡ Plain → i.kind ≡ UInt32 → i.part ≡ Length
    → get_or bytes at 0 ≡ zero_byte i.presence + n → RelaysByte i (Some n) bytes at
length_relays i bytes at n fits there operator kind part is e =
    let l : LeavesWhole true UInt32 i.part i e e (pos n) = record { whole = rw (operator) tt; number = length_number i n part (few_above i.presence (get_or bytes at 0) n (fits at) is); leaves = record { entry = rw (operator) refl; left_out = rw (operator) refl } } in
    let judges = typed_judges true i e e (pos n) bytes at at (at + 1) (rw (sym kind) at l) (rw (kind) (unsigned_stands bytes at n fits there i.presence is)) in
    subst (λ (k : Kind). Judges true (get_or bytes at 0 ∷ []) i e e (Some (of_integer k (pos n))) (drop at bytes) (drop (at + 1) bytes)) kind (rw (byte_range bytes at there) at judges.1)

pub null_length_relays : (i : FieldPart) (bytes : List ℕ) (at : ℕ) → at < length bytes → i.operator ≡ Plain → i.presence ≡ Optional → drop at bytes ≡ 128 ∷ drop (at + 1) bytes → RelaysByte i None bytes at
null_length_relays i bytes at there operator optional null e =
    rw (null_byte bytes at there null, null) (null_judges true i e e (drop (at + 1) bytes) optional (λ none. absurd cc) (record { entry = rw (operator) refl; left_out = rw (operator) refl }))

differ : (m n : ℕ) → (m ≡ n → ⊥) → (scalar_eq.eq-value).it (U32 m) (U32 n) ≡ false
differ m n apart = false_from_ne_true _ (λ e. apart (same_number m n (scalar_eq-exact (U32 m) (U32 n) e)))
  where
    same_number : (m n : ℕ) → U32 m ≡ U32 n → m ≡ n
    same_number m n e = cc

-- bit 0 gives another number than the one that comes
pub other_number : (i : FieldPart) (old : Entry) (m n : ℕ) → i.operator ≡ Copy → i.kind ≡ UInt32 → old ≡ Assigned (U32 m) → (m ≡ n → ⊥) → left_out_of i.operator i old (Some (U32 n)) ≡ false
other_number i old m n operator kind is apart = rw (operator, kind, is) (differ m n apart)

pub number_stands : (i : FieldPart) (old new : Entry) (bytes : List ℕ) (at n : ℕ) → ((k : ℕ) → get_or bytes k 0 < 256) → at < length bytes → i.operator ≡ Copy → i.kind ≡ UInt32 → i.part ≡ Whole → i.presence ≡ Mandatory
    → get_or bytes at 0 ≡ 128 + n → left_out_of i.operator i old (Some (U32 n)) ≡ false → new ≡ Assigned (U32 n) → StandsByte i old new n bytes at
number_stands i old new bytes at n fits there operator kind part presence is out put =
    let few : n < 128 = omega (arith, fits at, is) in
    let number : IsFieldNumber UInt32 i.part (pos n) = record { number = record { integer = refl; range = uint_in_range n 4294967295 (omega (arith, few)) }; within = rw (part) refl } in
    let l : LeavesWhole true UInt32 i.part i old new (pos n) = record { whole = rw (operator) tt; number = number; leaves = record { entry = rw (operator, put) refl; left_out = out } } in
    let judges = typed_judges true i old new (pos n) bytes at at (at + 1) (rw (sym kind) at l) (rw (kind) (unsigned_stands bytes at n fits there i.presence (rw (presence) is))) in
    subst (λ (k : Kind). Judges true (get_or bytes at 0 ∷ []) i old new (Some (of_integer k (pos n))) (drop at bytes) (drop (at + 1) bytes)) kind (rw (byte_range bytes at there) at judges.1)
