-- What those who are told of a field that was taken may rest on.
use Rattle.std.proofs.Common.{◌≡◌, ℕ, Bool, true, false, List, [], ◌++◌, length, drop, Option, Ok, refl, sym, ap, ◌∙◌, append-nil, inl, inr, arith}
use Rattle.fast_wire.specs.declared.level.Level.{Level}
use Rattle.fast_wire.specs.declared.level.Level.TheVariants.{Usual}
use Rattle.fast_wire.specs.Reader.{IsBytes}
use Rattle.fast_wire.proofs.Readers.{done}
use Rattle.fast_value.specs.declared.scalar.Scalar.{Scalar}
use Rattle.fast_template.specs.declared.resolved.FieldPart.{FieldPart}
use Rattle.fast_dictionary.specs.declared.entry.Entry.{Entry}
use Rattle.fast_field.specs.Best.{NoLater}
unfoldable use Rattle.fast_field.specs.FieldReading.{field_at}
use Rattle.fast_field.specs.Parts.{HasDefault, IsBitOf}
use Rattle.fast_field.specs.declared.fault.FieldFault.{FieldFault}
use Rattle.fast_field.specs.Deltas.{Cut}
use Rattle.fast_field.proofs.FieldForms.{field_forms}
use Rattle.fast_field.proofs.FieldsBehave.{read_usually}
use Rattle.fast_take.specs.Takes.{IsTakenAs, IsTook, best_bit, best_form, place_of, value_taken}
use Rattle.fast_take.specs.declared.took.Aside.{Aside}
use Rattle.fast_take.specs.declared.took.Took.{Took}

-- what is read whatever follows is read
pub read_here : (level : Level) (i : FieldPart) (e : Entry) (bit : Bool) (bytes rest : List ℕ) (v : Option Scalar) → ((more : List ℕ) → field_at level i e bit (bytes ++ more) ≡ Ok (v, rest ++ more)) → field_at level i e bit bytes ≡ Ok (v, rest)
read_here level i e bit bytes rest v goes =
    ap (λ (b : List ℕ). field_at level i e bit b) (sym (append-nil bytes)) ∙ goes [] ∙ ap (λ (r : List ℕ). done {F = FieldFault} (v, r)) (append-nil rest)

no_later_low : (best : Bool) (n m : ℕ) (c d : Cut) → NoLater best n c false m d → best ≡ false
no_later_low false n m c d h = refl
no_later_low true n m c d (inl h) = absurd (omega (arith, h))
no_later_low true n m c d (inr h) = absurd (let both = h.0 in cc)

-- what bit 0 gave is best with bit 0
pub best_lower : (level : Level) (i : FieldPart) (old new : Entry) (bit : Bool) (bytes : List ℕ) (at : ℕ) (a : Aside) (t : Took) → IsBitOf i bit → HasDefault i → IsBytes (drop at bytes) → IsTook level i old new bit bytes at a t → bit ≡ false → best_bit bit a t ≡ false
best_lower level i old new true bytes at a t needs default fits h low = absurd cc
best_lower level i old new false bytes at a t needs default fits h low =
    let v = value_taken i new false bytes a t in
    let rest = drop (place_of t) bytes in
    let read = read_usually level i old false (drop at bytes) (v, rest) (read_here level i old false (drop at bytes) rest v h.read) in
    let f = (field_forms Usual i old false needs default).found (drop at bytes) v rest fits read in
    no_later_low (best_bit false a t) (length (best_form bytes at a t)) (length f.front) h.best.cut f.form.0 (h.best.first false f.form.0 f.front f.form.1)

-- wherever its value lies, it was taken
pub taken_as : (level : Level) (i : FieldPart) (old new : Entry) (bit : Bool) (bytes : List ℕ) (at : ℕ) (a : Aside) (t : Took) → IsTook level i old new bit bytes at a t → IsTakenAs level i old new bit bytes at a t (value_taken i new bit bytes a t)
taken_as level i old new bit bytes at a t h = record {
  place = h.place;
  first = h.first;
  read = h.read;
  entry = h.entry;
  there = h.there;
  best = h.best;
}
