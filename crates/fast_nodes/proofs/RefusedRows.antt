-- Worked rows: why a message is not written, computed by the definition.
use Rattle.fast_nodes.proofs.Common.{◌≡◌, ℕ, true, List, [], ◌∷◌, Option, Some, pos, negsuc, map, refl, codes, nat_lt, length, worked_set, value_refusal, are_characters, Content, u32, decimal, text, absent, message, EncodeCause, EncodeFault, first_refusal, refused}
use Rattle.std.specs.FinMap as finite

-- from entries that are all undefined
abbrev Answers : Content → Option EncodeFault → Type 0
Answers m f = first_refusal worked_set finite.empty m ≡ f

abbrev of_instruction : EncodeCause → ℕ → Option EncodeFault
of_instruction c n = Some (record { cause = c; instruction = n })

abbrev AllAnswer : List (Content × Option EncodeFault) → Type 0
AllAnswer rows = map (λ r. first_refusal worked_set finite.empty r.0) rows ≡ map (λ r. r.1) rows

refused_rows : AllAnswer (
    (message 100 [], Some (refused EncodeCause.D9)) ∷
    (message 1 (u32 1 ∷ text (codes "AB") ∷ decimal (negsuc 1) (pos 100) ∷ []), Some (refused EncodeCause.Mismatch)) ∷
    (message 1 (u32 1 ∷ text (codes "AB") ∷ decimal (pos 64) (pos 1) ∷ absent ∷ []), of_instruction EncodeCause.R1 3) ∷
    (message 14 (u32 8 ∷ absent ∷ u32 3 ∷ []), of_instruction EncodeCause.NotConstant 1) ∷
    (message 15 (decimal (negsuc 0) (pos 100) ∷ absent ∷ []), of_instruction EncodeCause.D3 1) ∷
    (message 1 (absent ∷ text (codes "AB") ∷ decimal (pos 64) (pos 1) ∷ absent ∷ []), Some (refused EncodeCause.Mismatch)) ∷
    [])
unfolding value_refusal
refused_rows = refl

-- the limit of nodes comes before the fields
too_many_units : (s : List ℕ) → are_characters s ≡ true → nat_lt 65535 (length s) ≡ true
    → Answers (message 1 (u32 1 ∷ text s ∷ decimal (pos 64) (pos 1) ∷ absent ∷ [])) (Some (refused EncodeCause.Limit))
unfolding value_refusal
too_many_units s characters long = rw (characters, long) refl

-- and what does not fit comes before both
no_character : (s : List ℕ) → nat_lt 65535 (length s) ≡ true
    → Answers (message 1 (u32 1 ∷ text (128 ∷ s) ∷ decimal (pos 64) (pos 1) ∷ absent ∷ [])) (Some (refused EncodeCause.Mismatch))
unfolding value_refusal
no_character s long = refl
