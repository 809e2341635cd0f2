-- What strings and vectors that are read and judged at once rest on.
use Rattle.fast_take.proofs.Common.{◌≡◌, ◌<◌, ◌+◌, ◌-◌, ◌++◌, ◌≤◌, true, false, List, ℕ, Ok, length, refl, sym, subst, ◌∙◌, ℤ, Some, IsTrue, Usual, IsShortest, is_of, Kind, Operator, Part, Presence, FieldPart, Scalar, Entry, Assigned, tail_base, Both, IsBestCut, IsBestTail, ShortestPart, ShortestSigned, ShortestUnits, DeltaForm, delta_at, row_at, spelled_at, tail_at, unit_delta_at, units_spelled_at, whole_at, FormOf, within_part, SpellsWhole, left_out_of, Spelled, IsText, units_of, IsUnitKind, IsFirst, tail_is_first, delta_is_first, tail_form_is_first, string_value, few_units, units_form, string_is_shortest, Bool, Leaves, under, Judges, ap, arith, drop, length-append, pos, take, le-leb, length-take-le, Value, scalar_eq-exact, shortest_is_best, tail_size, IsLongestPrefix, ended_by, ended_value, limited_value, new_part_behind, part_at, units_at, Spelt, false_from_ne_true}
use Rattle.fast_value.specs.contracts.scalar.ScalarPartialEq.TheImpl as scalar_eq
use Rattle.std.proofs.lemmas.List.{drop_at}
use Rattle.fast_take.proofs.NumberRelaying.{base_is, delta_out, delta_row, judges, takes, whole_first, whole_row}

pub whole_within : (p : Part) (v : Scalar) → p ≡ Part.Whole → IsTrue (within_part p v)
whole_within p v is = rw is refl

-- ---- what stands whole

spelled_as : (pt : Part) (k : Kind) (p : Presence) (bytes : List ℕ) → IsUnitKind k → spelled_at Usual pt k p bytes ≡ units_spelled_at Usual k p bytes
unfolding spelled_at
spelled_as pt Kind.Ascii p bytes h = refl
spelled_as pt Kind.Unicode p bytes h = refl
spelled_as pt Kind.Bytes p bytes h = refl
spelled_as pt k p bytes h = absurd h

pub text_read : (i : FieldPart) (v : Scalar) (bytes rest : List ℕ) → IsUnitKind i.kind → units_spelled_at Usual i.kind i.presence bytes ≡ Ok (Some v, rest) → whole_at Usual i bytes ≡ Ok (Some v, rest)
unfolding whole_at
text_read i v bytes rest h read = spelled_as i.part i.kind i.presence bytes h ∙ read

text_shortest : (k : Kind) (p : Presence) (v : Scalar) (b : List ℕ) → IsText k v → ShortestUnits k p (units_of v) b → IsShortest (Spelled Usual k p) b (Some v)
text_shortest k p v b h s = string_is_shortest k p v b h.of_units (h.of_kind, h.within) (units_form k p (units_of v) b s)

pub text_judges : (bit : Bool) (i : FieldPart) (old new : Entry) (v : Scalar) (bytes rest form : List ℕ) → i.part ≡ Part.Whole → SpellsWhole i.operator → IsText i.kind v → units_spelled_at Usual i.kind i.presence bytes ≡ Ok (Some v, rest) → Leaves bit i old new (Some v)
    → ShortestUnits i.kind i.presence (units_of v) form → IsTrue (is_of i.kind v) × Judges bit (under bit form) i old new (Some v) bytes rest
text_judges bit i old new v bytes rest form whole o h read l s =
    let within = whole_within i.part v whole in
    judges bit i old new v bytes rest form h.of_kind within (takes i old new v bytes rest within (whole_row i.operator i old bytes o ∙ text_read i v bytes rest h.of_units read) l.entry) l.left_out (whole_first i.operator i old (Some v) form o (text_shortest i.kind i.presence v form h s))

-- ---- deltas

pub text_few : (k : Kind) (v : Scalar) → IsText k v → length (units_of v) ≤ 65535
text_few k v h = few_units v h.within

pub delta_as : (k : Kind) (i : FieldPart) (e : Entry) (bytes : List ℕ) → IsUnitKind k → delta_at Usual k i e bytes ≡ unit_delta_at Usual i e bytes
unfolding delta_at
delta_as Kind.Ascii i e bytes h = refl
delta_as Kind.Unicode i e bytes h = refl
delta_as Kind.Bytes i e bytes h = refl
delta_as k i e bytes h = absurd h

cut_first : (i : FieldPart) (base v : Scalar) (removal : ℤ) (new_part b : List ℕ) → IsText i.kind base → IsText i.kind v → IsBestCut i.kind i.presence (units_of base) (units_of v) removal new_part
    → Both (ShortestSigned i.presence removal) (ShortestPart i.kind new_part) b → IsFirst (λ c b. DeltaForm Usual i (Assigned base) c b (Some v)) b
cut_first i base v removal new_part b h l best s =
    delta_is_first i (Assigned base) base v b (base_is i base h.of_kind)
    (string_value i.kind i.presence base v removal new_part b h.of_units (h.of_kind, h.within) (l.of_kind, l.within) best s)

pub text_delta_judges : (i : FieldPart) (base v : Scalar) (removal : ℤ) (new_part bytes rest form : List ℕ) → i.part ≡ Part.Whole → i.operator ≡ Operator.Delta → IsText i.kind base → IsText i.kind v → unit_delta_at Usual i (Assigned base) bytes ≡ Ok (Some v, rest)
    → IsBestCut i.kind i.presence (units_of base) (units_of v) removal new_part → Both (ShortestSigned i.presence removal) (ShortestPart i.kind new_part) form → IsTrue (is_of i.kind v) × Judges true form i (Assigned base) (Assigned v) (Some v) bytes rest
text_delta_judges i base v removal new_part bytes rest form whole o h l read best s =
    let old = Assigned base in
    let within = whole_within i.part v whole in
    judges true i old (Assigned v) v bytes rest form l.of_kind within
    (takes i old (Assigned v) v bytes rest within (delta_row i.operator i old bytes o ∙ delta_as i.kind i old bytes h.of_units ∙ read) (rw o refl))
    (delta_out i old (Some v) o)
    (subst (λ (o : Operator). IsFirst (λ c b. FormOf Usual o i old true c b (Some v)) form) (sym o) (cut_first i base v removal new_part form h l best s))

-- ---- tails

pub tail_row : (o : Operator) (i : FieldPart) (e : Entry) (bytes : List ℕ) → o ≡ Operator.Tail → row_at Usual o i e true bytes ≡ tail_at Usual i e bytes
unfolding row_at
tail_row Operator.Tail i e bytes o = refl
tail_row o' i e bytes o = absurd cc

-- an entry gives a tail a base, which may be another one than its value
pub tail_judges : (i : FieldPart) (old : Entry) (base v : Scalar) (tail bytes rest form : List ℕ) → i.part ≡ Part.Whole → i.operator ≡ Operator.Tail → tail_base i old ≡ Ok base → IsText i.kind v → tail_at Usual i old bytes ≡ Ok (Some v, rest)
    → left_out_of i.operator i old (Some v) ≡ false → IsBestTail i.kind i.presence (units_of base) (units_of v) tail → ShortestUnits i.kind i.presence tail form → IsTrue (is_of i.kind v) × Judges true form i old (Assigned v) (Some v) bytes rest
tail_judges i old base v tail bytes rest form whole o given l read out best s =
    let within = whole_within i.part v whole in
    judges true i old (Assigned v) v bytes rest form l.of_kind within (takes i old (Assigned v) v bytes rest within (tail_row i.operator i old bytes o ∙ read) (rw o refl)) out
    (subst (λ (o : Operator). IsFirst (λ c b. FormOf Usual o i old true c b (Some v)) form) (sym o) (tail_form_is_first i old base v form given (tail_is_first i.kind i.presence base v tail form l.of_units (l.of_kind, l.within) best s)))

-- ---- what is read on the string or vector that an entry has

pub delta_made : (i : FieldPart) (base v : Scalar) (r : ℕ) (s bytes middle rest : List ℕ) → is_of i.kind base ≡ true → r < 63 → r ≤ length (units_of base) → Spelt false i.presence bytes (pos r) middle → part_at Usual i.kind middle ≡ Ok (s, rest) → limited_value i.kind (take (length (units_of base) - r) (units_of base) ++ s) ≡ Ok v
    → unit_delta_at Usual i (Assigned base) bytes ≡ Ok (Some v, rest)
unfolding unit_delta_at new_part_behind
delta_made i base v r s bytes middle rest is small le removal read made =
    rw (removal, le-leb r 2147483647 (omega (arith, small)), base_is i base is, le-leb r (length (units_of base)) le, read, made) refl

pub tail_made : (i : FieldPart) (base v : Scalar) (s bytes rest : List ℕ) → is_of i.kind base ≡ true → units_at Usual i.kind i.presence bytes ≡ Ok (Value s, rest) → limited_value i.kind (ended_by (units_of base) s) ≡ Ok v → tail_at Usual i (Assigned base) bytes ≡ Ok (Some v, rest)
unfolding tail_at ended_value
tail_made i base v s bytes rest is read made = rw (read, is, made) refl

pub other_end : (i : FieldPart) (base v : Scalar) → i.operator ≡ Operator.Tail → is_of i.kind base ≡ true → (units_of base ≡ units_of v → ⊥) → left_out_of i.operator i (Assigned base) (Some v) ≡ false
other_end i base v o is differ = rw (o, is) (false_from_ne_true ((scalar_eq.eq-value).it base v) (λ e. differ (ap units_of (scalar_eq-exact base v e))))

-- as many units as were there, behind the longest common front
pub end_best : (k : Kind) (p : Presence) (base s : List ℕ) (n : ℕ) → n + length s ≡ length base → IsLongestPrefix base (take n base ++ s) n → (0 < n → tail_size k p (drop n (take n base ++ s)) ≤ tail_size k p (drop (n - 1) (take n base ++ s))) → IsBestTail k p base (take n base ++ s) s
end_best k p base s n size prefix least =
    let v = take n base ++ s in
    let long = length-take-le n base (omega (arith, size)) in
    let whole : length v ≡ length base = omega (arith, length-append (take n base) s, long, size) in
    rw (drop_at (take n base) s n long) at (shortest_is_best k p base v n prefix whole least)
