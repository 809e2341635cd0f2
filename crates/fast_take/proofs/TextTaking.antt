-- What strings that are read at once rest on.
use Rattle.fast_take.proofs.Common.{◌≡◌, List, ℕ, ◌-◌, ◌++◌, length, take, refl, sym, subst, ◌∙◌, Ok, Some, Usual, groups, IsPlain, Kind, Operator, Part, Ascii, FieldPart, Entry, Assigned, next, units_spelled_at, IsUnitKind, KeepsNothing, Takes, GivesTail}
use Rattle.fast_take.proofs.PlainTexts.{spelled_plain}
use Rattle.fast_take.proofs.NumberRelaying.{leaves, spells_whole, takes, whole_row}
use Rattle.fast_take.proofs.TextRelaying.{tail_row, text_read, whole_within}

-- one that its entry does not keep
pub aside_takes : {i : FieldPart} {e : Entry} {bytes form rest : List ℕ} → i.kind ≡ Kind.Ascii → i.part ≡ Part.Whole → KeepsNothing i.operator → IsPlain bytes form rest → Takes i e e (Ascii (groups form)) bytes rest
aside_takes {i} {e} {bytes} {form} {rest} k whole o h =
    let v = Ascii (groups form) in
    let units : IsUnitKind i.kind = rw k tt in
    takes i e e v bytes rest (whole_within i.part v whole)
    (whole_row i.operator i e bytes (spells_whole i.operator o) ∙ text_read i v bytes rest units (subst (λ (k : Kind). units_spelled_at Usual k i.presence bytes ≡ Ok (Some v, rest)) (sym k) (spelled_plain i.presence bytes form rest h)))
    (sym (leaves i.operator e v o))

pub end_takes : {i : FieldPart} {base bytes form rest : List ℕ} → i.part ≡ Part.Whole → i.operator ≡ Operator.Tail → GivesTail i base bytes form rest
    → Takes i (Assigned (Ascii base)) (Assigned (Ascii (take (length base - length form) base ++ groups form))) (Ascii (take (length base - length form) base ++ groups form)) bytes rest
end_takes {i} {base} {bytes} {form} {rest} whole o h =
    let v = Ascii (take (length base - length form) base ++ groups form) in
    let last : next i (Assigned (Ascii base)) (Some v) ≡ Assigned v = rw o refl in
    takes i (Assigned (Ascii base)) (Assigned v) v bytes rest (whole_within i.part v whole)
    (tail_row i.operator i (Assigned (Ascii base)) bytes o ∙ h.read)
    (sym last)
