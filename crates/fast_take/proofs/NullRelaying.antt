-- NULL, read and judged at once.
use Rattle.fast_take.proofs.Common.{◌≡◌, ℕ, Bool, true, false, List, [], ◌∷◌, ◌++◌, Ok, refl, sym, ◌∙◌, arith, None, Usual, IsUnsignedNullable, IsShortest, Null, entity_some, Operator, Optional, FieldPart, Entry, IsBest, field_at, row_at, whole_at, left_out_of, null_best, field_forms, bit_zero_is_best, left_out, SpellsWhole, Judges, Leaves, under, ◌+◌, ◌<◌, length, get_or, drop, ap, drop_more, HasBest, ◌≤◌, slice_range}
use Rattle.fast_field.proofs.BestValues.{unsigned_null}
use Rattle.fast_take.proofs.NumberRelaying.{whole_row}

null_shortest : IsShortest IsUnsignedNullable (128 ∷ []) Null
null_shortest = record { form = unsigned_null; least = λ other h. entity_some other h.entity }

best : (i : FieldPart) (e : Entry) (b : List ℕ) → i.presence ≡ Optional → left_out_of i.operator i e None ≡ false → IsShortest IsUnsignedNullable b Null → IsBest i e true b None
best i e b optional out s = null_best i e None refl (rw optional refl) out b s

read : (i : FieldPart) (e : Entry) (rest : List ℕ) → i.presence ≡ Optional → left_out_of i.operator i e None ≡ false → field_at Usual i e true (128 ∷ rest) ≡ Ok (None, rest)
read i e rest optional out =
    let b = best i e (128 ∷ []) optional out null_shortest in
    (field_forms Usual i e true (λ _. refl) (λ _ mandatory. absurd cc)).again (128 ∷ []) None rest (b.cut, b.form)

-- the same with no look at what bit 0 gives: what is spelled whole is read as without an operator
abbrev plain : FieldPart → FieldPart
plain i = record { number = i.number; part = i.part; kind = i.kind; presence = i.presence; operator = Operator.Plain; key = i.key; initial = i.initial }

as_plain : (i : FieldPart) (e : Entry) (bytes : List ℕ) → SpellsWhole i.operator → row_at Usual i.operator i e true bytes ≡ row_at Usual Operator.Plain (plain i) e true bytes
unfolding whole_at
as_plain i e bytes o = whole_row i.operator i e bytes o ∙ sym (whole_row Operator.Plain (plain i) e bytes tt)

read_plain : (i : FieldPart) (e : Entry) (bytes : List ℕ) → SpellsWhole i.operator → field_at Usual i e true bytes ≡ field_at Usual (plain i) e true bytes
unfolding field_at
read_plain i e bytes o = rw (as_plain i e bytes o) refl

null_read : (i : FieldPart) (e : Entry) (rest : List ℕ) → SpellsWhole i.operator → i.presence ≡ Optional → field_at Usual i e true (128 ∷ rest) ≡ Ok (None, rest)
null_read i e rest o optional = read_plain i e (128 ∷ rest) o ∙ read (plain i) e rest optional refl

pub null_judges : (bit : Bool) (i : FieldPart) (old new : Entry) (rest : List ℕ) → i.presence ≡ Optional → (bit ≡ false → SpellsWhole i.operator) → Leaves bit i old new None → Judges bit (under bit (128 ∷ [])) i old new None (128 ∷ rest) rest
null_judges true i old new rest optional whole l = record {
  read = λ more. read i old (rest ++ more) optional l.left_out;
  entry = l.entry;
  best = best i old (128 ∷ []) optional l.left_out null_shortest;
}
null_judges false i old new rest optional whole l = record {
  read = λ more. null_read i old (rest ++ more) (whole refl) optional;
  entry = l.entry;
  best = bit_zero_is_best i old None (record { row = left_out i.operator i old None l.left_out; within = tt });
}

-- ---- at a place

first_of : List ℕ → ℕ
first_of [] = 0
first_of (x ∷ xs) = x

pub null_byte : (bytes : List ℕ) (at : ℕ) → at < length bytes → drop at bytes ≡ 128 ∷ drop (at + 1) bytes → get_or bytes at 0 ≡ 128
unfolding first_of
null_byte bytes at there h = ap first_of (sym (drop_more bytes at 0 there) ∙ h)

pub null_judged : (bit : Bool) (i : FieldPart) (old new : Entry) (bytes : List ℕ) (at first : ℕ) → at < length bytes → drop at bytes ≡ 128 ∷ drop (at + 1) bytes → i.presence ≡ Optional → (bit ≡ false → SpellsWhole i.operator) → Leaves bit i old new None
    → first ≤ at + 1 → slice_range bytes first (at + 1) ≡ under bit (128 ∷ []) → HasBest i old new bytes at (record { there = false; bit = bit; removal = None; first = first; next = at + 1 })
null_judged bit i old new bytes at first there null optional whole l le sent = record {
  place = omega arith;
  first = le;
  within = omega (arith, there);
  value = None;
  is_there = refl;
  judges = rw (sent, null) (null_judges bit i old new (drop (at + 1) bytes) optional whole l);
}
