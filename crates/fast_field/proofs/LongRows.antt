-- Worked rows of strings too long to be written out.
use Rattle.fast_field.proofs.Common.{◌≡◌, ℕ, ◌-◌, true, false, List, [], ◌∷◌, ◌++◌, length, take, Some, Ok, refl, arith, length-append, length-take, nat_lt, nat_le, nat_tests, take_all, Usual, entity_at, signed_at, ascii_at, Kind, Mandatory, Tail, Ascii, FieldFault, integer_at, part_at, units_at, unit_value, limited_value, new_part_behind, unit_delta_at, delta_at, ended_value, tail_at, row_at, part_checked, field_at, IsFieldFault}
use Rattle.fast_field.proofs.WorkedFields.{field, text, delta_s}

-- one unit more than 65,535: what is made is too long, and not what was removed
one_too_many : (s : List ℕ) → length s ≡ 65535 → IsFieldFault Usual delta_s (text s) true (0x80 ∷ 0xC1 ∷ []) FieldFault.Limit
unfolding field_at row_at delta_at unit_delta_at integer_at signed_at entity_at new_part_behind part_at ascii_at limited_value
one_too_many s long =
    let made : length (take (length s - 0) s ++ (65 ∷ [])) ≡ 65536 = rw (length-append (take (length s - 0) s) (65 ∷ []), length-take (length s - 0) s) (omega arith) in
    let limit : nat_lt 65535 (length (take (length s - 0) s ++ (65 ∷ []))) ≡ true = grind (arith, nat_tests) in
    let there : nat_le 0 (length s) ≡ true = grind (arith, nat_tests) in
    rw (there, limit) refl

-- one unit less is not too long
as_many_as_can_be : (s : List ℕ) → length s ≡ 65534 → field_at Usual delta_s (text s) true (0x80 ∷ 0xC1 ∷ []) ≡ Ok (Some (Ascii (s ++ (65 ∷ []))), [])
unfolding field_at row_at delta_at unit_delta_at integer_at signed_at entity_at new_part_behind part_at ascii_at limited_value unit_value part_checked
as_many_as_can_be s long =
    let all : take (length s - 0) s ≡ s = take_all (length s - 0) s (omega arith) in
    let made : length (s ++ (65 ∷ [])) ≡ 65535 = rw (length-append s (65 ∷ [])) (omega arith) in
    let limit : nat_lt 65535 (length (s ++ (65 ∷ []))) ≡ false = grind (arith, nat_tests) in
    let there : nat_le 0 (length s) ≡ true = grind (arith, nat_tests) in
    rw (there, all, limit) refl

-- a tail of one unit on a base that is too long itself
tail_of_too_many : (s : List ℕ) → length s ≡ 65536 → IsFieldFault Usual (field Kind.Ascii Mandatory Tail) (text s) true (0xC1 ∷ []) FieldFault.Limit
unfolding field_at row_at tail_at units_at part_at ascii_at entity_at ended_value limited_value
tail_of_too_many s long =
    let made : length (take (length s - 1) s ++ (65 ∷ [])) ≡ 65536 = rw (length-append (take (length s - 1) s) (65 ∷ []), length-take (length s - 1) s) (omega arith) in
    let limit : nat_lt 65535 (length (take (length s - 1) s ++ (65 ∷ []))) ≡ true = grind (arith, nat_tests) in
    rw limit refl
