-- Worked rows: the form that a writer chooses.
use Rattle.fast_field.proofs.Common.{ℕ, Bool, true, false, List, [], ◌∷◌, Some, None, pos, negsuc, refl, arith, codes, IsTrue, Usual, entity_at, signed_at, ascii_at, ascii_nullable_at, groups_from, signed_size, applies, Kind, Tail, Presence, Mandatory, Optional, U32, I32, Ascii, Unicode, Undefined, Empty, integer_at, part_at, units_at, Form, IsBest, IsFieldPart, value_refusal, FieldRefusal}
use Rattle.fast_field.proofs.BestForms.{bit_zero_is_best}
use Rattle.fast_field.proofs.BestValues.{constant_is_first, best_under_one}
use Rattle.fast_field.proofs.ComputedBest.{delta_row, tail_row, text_is}
use Rattle.fast_field.proofs.Refused.{refused_has_none}
use Rattle.fast_field.proofs.WorkedFields.{field, text, number, quote_seq, quote_sym, quote_qty, opt_px_exponent, fixed_px_exponent, tail_s, init_s, delta_s, uni_s, const_k, const_o, const_d}

-- ---- what bit 0 gives is never sent

seq_one_more : IsBest quote_seq (number 1) false [] (Some (U32 2))
seq_one_more = bit_zero_is_best quote_seq (number 1) (Some (U32 2)) (record { row = (refl, refl, refl); within = refl })

sym_again : IsBest quote_sym (text (codes "AB")) false [] (Some (Ascii (codes "AB")))
sym_again = bit_zero_is_best quote_sym (text (codes "AB")) (Some (Ascii (codes "AB"))) (record { row = (refl, refl, refl); within = refl })

qty_absent_again : IsBest quote_qty Empty false [] None
qty_absent_again = bit_zero_is_best quote_qty Empty None (record { row = (refl, refl, refl); within = tt })

exponent_by_default : IsBest opt_px_exponent Undefined false [] (Some (I32 (pos 2)))
exponent_by_default = bit_zero_is_best opt_px_exponent Undefined (Some (I32 (pos 2))) (record { row = (refl, refl, refl); within = refl })

default_value : IsBest const_d Undefined false [] (Some (U32 3))
default_value = bit_zero_is_best const_d Undefined (Some (U32 3)) (record { row = (refl, refl, refl); within = refl })

constant_left_out : IsBest const_o Undefined false [] None
constant_left_out = bit_zero_is_best const_o Undefined None (record { row = (refl, refl, refl, refl); within = tt })

tail_again : IsBest tail_s (text (codes "xab")) false [] (Some (Ascii (codes "xab")))
tail_again = bit_zero_is_best tail_s (text (codes "xab")) (Some (Ascii (codes "xab"))) (record { row = (refl, refl, refl); within = refl })

-- ---- strings

-- "ESM6" after "ESM6": 80 80 comes before FF 80
same_again : IsBest delta_s (text (codes "ESM6")) true (0x80 ∷ 0x80 ∷ []) (Some (Ascii (codes "ESM6")))
unfolding signed_size groups_from integer_at signed_at part_at ascii_at entity_at
same_again = delta_row Mandatory None (text (codes "ESM6")) (codes "ESM6") (codes "ESM6") (0x80 ∷ []) (0x80 ∷ []) true refl refl refl refl refl refl refl refl refl refl

-- "ESM6" after "GEM6": FD 45 D3 removes two units in front
removed_in_front : IsBest delta_s (text (codes "GEM6")) true (0xFD ∷ 0x45 ∷ 0xD3 ∷ []) (Some (Ascii (codes "ESM6")))
unfolding signed_size groups_from integer_at signed_at part_at ascii_at entity_at
removed_in_front = delta_row Mandatory None (text (codes "GEM6")) (codes "GEM6") (codes "ESM6") (0xFD ∷ []) (0x45 ∷ 0xD3 ∷ []) false refl refl refl refl refl refl refl refl refl refl

-- x NUL b after "xab": 78 00 E2 is a longer tail of fewer bytes than 00 00 00 E2
longer_tail : IsBest tail_s (text (codes "xab")) true (0x78 ∷ 0 ∷ 0xE2 ∷ []) (Some (Ascii (0x78 ∷ 0 ∷ 0x62 ∷ [])))
unfolding units_at ascii_nullable_at entity_at
longer_tail = tail_row Optional None (text (codes "xab")) (codes "xab") (0x78 ∷ 0 ∷ 0x62 ∷ []) (0x78 ∷ 0 ∷ 0xE2 ∷ []) true refl refl refl refl refl refl refl refl

-- "ab" on an empty entry whose base is the initial value "ab": E2 has fewer bytes than the empty tail's 00 80
tail_in_place_of_nothing : IsBest init_s Empty true (0xE2 ∷ []) (Some (Ascii (codes "ab")))
unfolding units_at ascii_nullable_at entity_at
tail_in_place_of_nothing = tail_row Optional (Some (Ascii (codes "ab"))) Empty (codes "ab") (codes "ab") (0xE2 ∷ []) true refl refl refl refl refl refl refl refl

-- ---- a constant is never sent

constant : IsBest const_k Undefined true [] (Some (U32 7))
constant = best_under_one const_k Undefined (Some (U32 7)) [] refl (constant_is_first const_k Undefined (U32 7) refl) refl

optional_constant : IsBest const_o Undefined true [] (Some (U32 9))
optional_constant = best_under_one const_o Undefined (Some (U32 9)) [] refl (constant_is_first const_o Undefined (U32 9) refl) refl

-- ---- no other value of a constant has a form, nor has a tail's that is shorter than its base, or whose base is of
-- another type

whole_constant : IsFieldPart const_k
whole_constant = record {
  typed = record { operator_applies = refl; initial_fits = (refl, refl, omega arith); constant_has_value = λ e. refl; default_has_value = λ e m. absurd cc };
  kind_of_part = tt;
}

constant_exponent : IsFieldPart fixed_px_exponent
constant_exponent = record {
  typed = record { operator_applies = refl; initial_fits = (refl, refl, refl); constant_has_value = λ e. refl; default_has_value = λ e m. absurd cc };
  kind_of_part = refl;
}

tail_part : (k : Kind) (p : Presence) → IsTrue (applies Tail k) → IsFieldPart (field k p Tail)
tail_part k p applies = record {
  typed = record { operator_applies = applies; initial_fits = tt; constant_has_value = λ e. absurd cc; default_has_value = λ e m. absurd cc };
  kind_of_part = tt;
}

other_than_constant : (bit : Bool) (b : List ℕ) → Form Usual const_k Undefined bit b (Some (U32 8)) → ⊥
unfolding value_refusal
other_than_constant = refused_has_none Usual const_k Undefined (Some (U32 8)) FieldRefusal.NotConstant whole_constant tt refl

other_than_constant_exponent : (bit : Bool) (b : List ℕ) → Form Usual fixed_px_exponent Undefined bit b (Some (I32 (negsuc 0))) → ⊥
unfolding value_refusal
other_than_constant_exponent = refused_has_none Usual fixed_px_exponent Undefined (Some (I32 (negsuc 0))) FieldRefusal.D3 constant_exponent tt refl

shorter_than_base : (bit : Bool) (b : List ℕ) → Form Usual tail_s (text (codes "xab")) bit b (Some (Ascii (codes "x"))) → ⊥
unfolding value_refusal
shorter_than_base = refused_has_none Usual tail_s (text (codes "xab")) (Some (Ascii (codes "x"))) FieldRefusal.TooShort (tail_part Kind.Ascii Optional refl) (text_is (codes "xab") refl).1 refl

base_of_another_type : (bit : Bool) (b : List ℕ) → Form Usual uni_s (text (codes "xab")) bit b (Some (Unicode (0xC3 ∷ 0xA9 ∷ []))) → ⊥
unfolding value_refusal
base_of_another_type = refused_has_none Usual uni_s (text (codes "xab")) (Some (Unicode (0xC3 ∷ 0xA9 ∷ []))) FieldRefusal.D4 (tail_part Kind.Unicode Mandatory refl) (text_is (codes "xab") refl).1 refl
