-- Worked rows: forms as short as the best that are not the best, by each of the last two rules.
use Rattle.fast_field.proofs.Common.{◌≡◌, ℕ, ◌≤◌, true, List, [], ◌∷◌, ◌++◌, length, Some, pos, negsuc, refl, sym, ap, ◌∙◌, arith, inl, inr, ℤ, codes, Usual, IsSigned, IsAscii, signed_at, ascii_at, WireFault, one_form, signed_forms, ascii_forms, Kind, Mandatory, Scalar, Ascii, at_end, in_front, Cut, side_of, SpellsCut, FormBy, side_rank, NoLater, IsBest}
use Rattle.fast_field.proofs.WorkedFields.{text, delta_s}

-- which cut bytes make is seen from them
cut_of : (base v : Scalar) (cut : Cut) (front back : List ℕ) (z : ℤ) (s : List ℕ) → IsSigned front z → IsAscii back s → SpellsCut Usual Kind.Ascii Mandatory base cut (front ++ back) v → cut ≡ record { side = side_of z; part = length s }
cut_of base v cut front back z s first second h =
    let one = one_form WireFault.NeedMore signed_at IsSigned signed_forms front h.front back h.back z h.removal first h.removal_form h.parts in
    let whole : back ++ [] ≡ h.back ++ [] = ap (λ (x : List ℕ). x ++ []) one.1 in
    let two = one_form WireFault.NeedMore ascii_at IsAscii ascii_forms back h.back [] [] s h.new_part second h.part_form whole in
    rw (one.0, two.0) h.cut_is

-- what comes no later than nothing removed at the end with no new part, and is as long, is that cut
is_uncut : (n : ℕ) (c : Cut) → NoLater true n c true n (record { side = at_end; part = 0 }) → (c.side ≡ at_end) × (c.part ≤ 0)
is_uncut n c h = elim h [
  | inl lt ↦ absurd (omega (arith, lt))
  | inr h ↦ elim h.1 [
    | inl lt ↦ absurd (omega (arith, lt))
    | inr h ↦ elim h.1 [ inl lt ↦ absurd (omega (arith, lt)) | inr same ↦ same ]
  ]
]

-- "ab" on "ab" with nothing removed and no new part
nothing_at_end : FormBy Usual delta_s (text (codes "ab")) true (record { side = at_end; part = 0 }) (0x80 ∷ 0x80 ∷ []) (Some (Ascii (codes "ab")))
nothing_at_end = record {
  row = (
    Ascii (codes "ab"),
    refl,
    record {
      removal = pos 0;
      new_part = [];
      front = 0x80 ∷ [];
      back = 0x80 ∷ [];
      parts = refl;
      removal_form = record { entity = (omega arith, omega arith); short = omega arith; value = refl };
      is_int32 = refl;
      there = omega arith;
      part_form = record { spelled = record { entity = (omega arith, omega arith); short = omega arith; value = refl }; limit = omega arith };
      value = (omega arith, refl);
      cut_is = refl;
    },
  );
  within = refl;
}

-- none removed in front is as long
not_in_front : in_front ≡ at_end → ⊥
not_in_front e = omega (arith, ap side_rank e)

nothing_in_front : IsBest delta_s (text (codes "ab")) true (0xFF ∷ 0x80 ∷ []) (Some (Ascii (codes "ab"))) → ⊥
nothing_in_front h =
    let row = h.form.row in
    let minus_one : IsSigned (0xFF ∷ []) (negsuc 0) = record { entity = (omega arith, omega arith); short = omega arith; value = refl } in
    let none : IsAscii (0x80 ∷ []) [] = record { spelled = record { entity = (omega arith, omega arith); short = omega arith; value = refl }; limit = omega arith } in
    let cut = cut_of row.0 (Ascii (codes "ab")) h.cut (0xFF ∷ []) (0x80 ∷ []) (negsuc 0) [] minus_one none row.2 in
    let first = is_uncut 2 h.cut (h.first true (record { side = at_end; part = 0 }) (0x80 ∷ 0x80 ∷ []) nothing_at_end) in
    not_in_front (sym (ap (λ (c : Cut). c.side) cut) ∙ first.0)

-- and so is one removed at the end and put there again
one_put_back : IsBest delta_s (text (codes "ab")) true (0x81 ∷ 0xE2 ∷ []) (Some (Ascii (codes "ab"))) → ⊥
one_put_back h =
    let row = h.form.row in
    let one : IsSigned (0x81 ∷ []) (pos 1) = record { entity = (omega arith, omega arith); short = omega arith; value = refl } in
    let b : IsAscii (0xE2 ∷ []) (codes "b") = record { spelled = record { entity = (omega arith, omega arith); short = omega arith; value = refl }; limit = omega arith } in
    let cut = cut_of row.0 (Ascii (codes "ab")) h.cut (0x81 ∷ []) (0xE2 ∷ []) (pos 1) (codes "b") one b row.2 in
    let first = is_uncut 2 h.cut (h.first true (record { side = at_end; part = 0 }) (0x80 ∷ 0x80 ∷ []) nothing_at_end) in
    let part : h.cut.part ≡ 1 = ap (λ (c : Cut). c.part) cut in
    omega (arith, part, first.1)
