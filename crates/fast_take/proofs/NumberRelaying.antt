-- What fields that are read and judged at once rest on; here numbers and constants.
use Rattle.fast_take.proofs.Common.{◌≡◌, ℕ, Bool, true, false, not, List, [], Ok, drop, slice_range, refl, sym, subst, ◌∙◌, arith, ℤ, ◌+ℤ◌, ◌-ℤ◌, Option, Some, IsTrue, ints, Usual, is_of, is_integer, in_range, of_integer, Kind, Operator, Part, Presence, FieldPart, Scalar, Entry, Assigned, delta_base, next, next_of, ShortestSigned, DeltaForm, integer_value, integer_spelled_at, spelled_at, integer_sum, integer_delta_at, delta_at, whole_at, row_at, field_at, FormOf, IsWithin, within_part, IsNumber, IsFieldNumber, IsNumberOf, HasNumber, left_out_of, IsShortest, Spelled, integer_of, is_unsigned, IsFirst, whole_is_first, delta_is_first, best_under_one, constant_is_first, left_out, bit_zero_is_best, whole_shortest, number_value, checked_is, field_goes, of_type, of_kind, number_back, within_number, kind_is, number_is, KeepsNothing, SpellsWhole, Spelt, Adds, JudgesFrom, LeavesWhole, NumberGives, StandsFrom, sent_unsigned, under, Judges, Takes}
use Rattle.fast_take.proofs.Ranges.{range_none}
use Rattle.fast_take.proofs.Standing.{shortest_signed, shortest_whole}

-- ---- bit 1

spelled_number : (pt : Part) (k : Kind) (p : Presence) (bytes rest : List ℕ) (z : ℤ) → IsNumber k z → Spelt (is_unsigned k) p bytes z rest → integer_spelled_at Usual pt k p bytes ≡ Ok (Some (of_integer k z), rest)
unfolding integer_spelled_at integer_value
spelled_number pt k p bytes rest z n h = rw (h, n.range) refl

spelled_as : (pt : Part) (k : Kind) (p : Presence) (bytes : List ℕ) → IsTrue (is_integer k) → spelled_at Usual pt k p bytes ≡ integer_spelled_at Usual pt k p bytes
unfolding spelled_at
spelled_as pt Kind.UInt32 p bytes h = refl
spelled_as pt Kind.Int32 p bytes h = refl
spelled_as pt Kind.UInt64 p bytes h = refl
spelled_as pt Kind.Int64 p bytes h = refl
spelled_as pt k p bytes h = absurd cc

pub whole_read : (i : FieldPart) (bytes rest : List ℕ) (z : ℤ) → IsNumber i.kind z → Spelt (is_unsigned i.kind) i.presence bytes z rest → whole_at Usual i bytes ≡ Ok (Some (of_integer i.kind z), rest)
unfolding whole_at
whole_read i bytes rest z n h = spelled_as i.part i.kind i.presence bytes n.integer ∙ spelled_number i.part i.kind i.presence bytes rest z n h

pub whole_row : (o : Operator) (i : FieldPart) (e : Entry) (bytes : List ℕ) → SpellsWhole o → row_at Usual o i e true bytes ≡ whole_at Usual i bytes
unfolding row_at
whole_row Operator.Plain i e bytes h = refl
whole_row Operator.Default i e bytes h = refl
whole_row Operator.Copy i e bytes h = refl
whole_row Operator.Increment i e bytes h = refl
whole_row o i e bytes h = absurd h

pub row_read : (i : FieldPart) (e : Entry) (bytes rest : List ℕ) (v : Option Scalar) → row_at Usual i.operator i e true bytes ≡ Ok (v, rest) → IsWithin i.part v → field_at Usual i e true bytes ≡ Ok (v, rest)
unfolding field_at
row_read i e bytes rest v h within = rw (h, checked_is i.part v within) refl

-- an operator that spells a value whole has the forms of the value itself
pub whole_first : (o : Operator) (i : FieldPart) (e : Entry) (v : Option Scalar) (b : List ℕ) → SpellsWhole o → IsShortest (Spelled Usual i.kind i.presence) b v → IsFirst (λ c b. FormOf Usual o i e true c b v) b
whole_first Operator.Plain i e v b o s = whole_is_first i.kind i.presence v b s
whole_first Operator.Default i e v b o s = whole_is_first i.kind i.presence v b s
whole_first Operator.Copy i e v b o s = whole_is_first i.kind i.presence v b s
whole_first Operator.Increment i e v b o s = whole_is_first i.kind i.presence v b s
whole_first o' i e v b o s = absurd o

pub takes : (i : FieldPart) (old new : Entry) (v : Scalar) (bytes rest : List ℕ) → IsTrue (within_part i.part v) → row_at Usual i.operator i old true bytes ≡ Ok (Some v, rest) → new ≡ next i old (Some v) → Takes i old new v bytes rest
takes i old new v bytes rest within row entry = record {
  read = λ more. field_goes Usual i old true bytes (Some v) rest more (row_read i old bytes rest (Some v) row within);
  entry = entry;
}

-- what is taken is judged: its best form is bit 0 where that gives the value, and else the form that comes first
pub judges : (bit : Bool) (i : FieldPart) (old new : Entry) (v : Scalar) (bytes rest form : List ℕ) → IsTrue (is_of i.kind v) → IsTrue (within_part i.part v) → Takes i old new v bytes rest → left_out_of i.operator i old (Some v) ≡ not bit
    → IsFirst (λ c b. FormOf Usual i.operator i old true c b (Some v)) form → IsTrue (is_of i.kind v) × Judges bit (under bit form) i old new (Some v) bytes rest
judges true i old new v bytes rest form of_kind within t out first = (of_kind, record { read = t.read; entry = t.entry; best = best_under_one i old (Some v) form within first out })
judges false i old new v bytes rest form of_kind within t out first =
    (of_kind, record { read = t.read; entry = t.entry; best = bit_zero_is_best i old (Some v) (record { row = left_out i.operator i old (Some v) out; within = within }) })

constant_row : (o : Operator) (i : FieldPart) (e : Entry) (v : Scalar) (bytes : List ℕ) → o ≡ Operator.Constant → i.initial ≡ Some v → row_at Usual o i e true bytes ≡ Ok (Some v, bytes)
unfolding row_at
constant_row Operator.Constant i e v bytes o initial = rw initial refl
constant_row o' i e v bytes o initial = absurd cc

pub constant_stands : (i : FieldPart) (e : Entry) (v : Scalar) (bytes : List ℕ) (at : ℕ) → i.operator ≡ Operator.Constant → i.initial ≡ Some v → is_of i.kind v ≡ true → IsTrue (within_part i.part v) → JudgesFrom true i e e v bytes at at at
constant_stands i e v bytes at o initial is within =
    rw (range_none bytes at)
    (judges true i e e v (drop at bytes) (drop at bytes) [] is within (takes i e e v (drop at bytes) (drop at bytes) within (constant_row i.operator i e v (drop at bytes) o initial) (rw o refl)) (rw o refl)
    (subst (λ (o : Operator). IsFirst (λ c b. FormOf Usual o i e true c b (Some v)) []) (sym o) (constant_is_first i e v (sym initial))))

typed_takes : (i : FieldPart) (old new : Entry) (z : ℤ) (bytes rest : List ℕ) → SpellsWhole i.operator → IsFieldNumber i.kind i.part z → Spelt (is_unsigned i.kind) i.presence bytes z rest → new ≡ next i old (Some (of_integer i.kind z))
    → Takes i old new (of_integer i.kind z) bytes rest
typed_takes i old new z bytes rest o h read entry =
    takes i old new (of_integer i.kind z) bytes rest (within_number i.kind i.part z h) (whole_row i.operator i old bytes o ∙ whole_read i bytes rest z h.number read) entry

pub typed_judges : (bit : Bool) (i : FieldPart) (old new : Entry) (z : ℤ) (bytes : List ℕ) (at first next : ℕ) → LeavesWhole bit i.kind i.part i old new z → StandsFrom (is_unsigned i.kind) i.presence bytes at first next z
    → JudgesFrom bit i old new (of_integer i.kind z) bytes at first next
typed_judges bit i old new z bytes at first next l s =
    let v = of_integer i.kind z in
    let form = slice_range bytes first next in
    judges bit i old new v (drop at bytes) (drop next bytes) form (of_kind i.kind z l.number.number) (within_number i.kind i.part z l.number)
    (typed_takes i old new z (drop at bytes) (drop next bytes) l.whole l.number s.spelt l.leaves.entry) l.leaves.left_out
    (whole_first i.operator i old (Some v) form l.whole (whole_shortest i.kind i.presence v form (of_type i.kind z l.number.number) (shortest_whole i.kind i.presence z form l.number.number.integer s.form s.short)))

whole_sign : (o : Operator) (k : Kind) → SpellsWhole o → sent_unsigned o k ≡ is_unsigned k
whole_sign Operator.Plain k whole = refl
whole_sign Operator.Default k whole = refl
whole_sign Operator.Copy k whole = refl
whole_sign Operator.Increment k whole = refl
whole_sign o k whole = absurd whole

typed_gives : (bit : Bool) (i : FieldPart) (old new : Entry) (z : ℤ) → LeavesWhole bit i.kind i.part i old new z → NumberGives bit i.kind i old new z
typed_gives bit i old new z l =
    let v = of_integer i.kind z in
    let sign = whole_sign i.operator i.kind l.whole in record {
      takes = λ bytes rest s. (v, typed_takes i old new z bytes rest l.whole l.number (rw sign at s) l.leaves.entry);
      gives = λ bytes at first next s. (v, typed_judges bit i old new z bytes at first next l (rw sign at s));
    }

pub whole_gives : (bit : Bool) (k : Kind) (i : FieldPart) (old new : Entry) (z : ℤ) → k ≡ i.kind → LeavesWhole bit k i.part i old new z → NumberGives bit k i old new z
whole_gives bit k i old new z same = subst (λ (k : Kind). LeavesWhole bit k i.part i old new z → NumberGives bit k i old new z) (sym same) (typed_gives bit i old new z)

-- ---- numbers that no entry keeps

pub leaves : (o : Operator) (e : Entry) (v : Scalar) → KeepsNothing o → next_of o e (Some v) ≡ e
leaves Operator.Plain e v h = refl
leaves Operator.Default e v h = refl
leaves o e v h = absurd h

pub spells_whole : (o : Operator) → KeepsNothing o → SpellsWhole o
spells_whole Operator.Plain h = tt
spells_whole Operator.Default h = tt
spells_whole o h = absurd h

typed_aside : (i : FieldPart) (e : Entry) (z : ℤ) (bytes rest : List ℕ) → KeepsNothing i.operator → IsFieldNumber i.kind i.part z → Spelt (is_unsigned i.kind) i.presence bytes z rest → Takes i e e (of_integer i.kind z) bytes rest
typed_aside i e z bytes rest o h s = typed_takes i e e z bytes rest (spells_whole i.operator o) h s (sym (leaves i.operator e (of_integer i.kind z) o))

pub number_aside : (k : Kind) (i : FieldPart) (e : Entry) (z : ℤ) (bytes rest : List ℕ) → k ≡ i.kind → KeepsNothing i.operator → IsFieldNumber k i.part z → Spelt (is_unsigned k) i.presence bytes z rest → Takes i e e (of_integer k z) bytes rest
number_aside k i e z bytes rest same o = subst (λ (k : Kind). IsFieldNumber k i.part z → Spelt (is_unsigned k) i.presence bytes z rest → Takes i e e (of_integer k z) bytes rest) (sym same) (typed_aside i e z bytes rest o)

-- ---- deltas

pub delta_as : (k : Kind) (i : FieldPart) (e : Entry) (bytes : List ℕ) → IsTrue (is_integer k) → delta_at Usual k i e bytes ≡ integer_delta_at Usual i e bytes
unfolding delta_at
delta_as Kind.UInt32 i e bytes h = refl
delta_as Kind.Int32 i e bytes h = refl
delta_as Kind.UInt64 i e bytes h = refl
delta_as Kind.Int64 i e bytes h = refl
delta_as k i e bytes h = absurd cc

pub base_is : (i : FieldPart) (v : Scalar) → is_of i.kind v ≡ true → delta_base i (Assigned v) ≡ Ok v
base_is i v is = rw is refl

pub delta_read : (i : FieldPart) (e : Entry) (base : Scalar) (bytes rest : List ℕ) (d : ℤ) → delta_base i e ≡ Ok base → IsTrue (in_range i.kind (integer_of base +ℤ d)) → Spelt false i.presence bytes d rest
    → integer_delta_at Usual i e bytes ≡ Ok (Some (of_integer i.kind (integer_of base +ℤ d)), rest)
unfolding integer_delta_at integer_sum integer_value
delta_read i e base bytes rest d is range h = rw (h, is, range) refl

pub delta_row : (o : Operator) (i : FieldPart) (e : Entry) (bytes : List ℕ) → o ≡ Operator.Delta → row_at Usual o i e true bytes ≡ delta_at Usual i.kind i e bytes
unfolding row_at
delta_row Operator.Delta i e bytes o = refl
delta_row o' i e bytes o = absurd cc

pub added_back : (z d : ℤ) → d ≡ (z +ℤ d) -ℤ z
added_back z d = omega (arith, ints)

delta_first : (i : FieldPart) (v : Scalar) (z d : ℤ) (b : List ℕ) → IsNumberOf i.kind v z → IsNumber i.kind (z +ℤ d) → ShortestSigned i.presence d b → IsFirst (λ c b. DeltaForm Usual i (Assigned v) c b (Some (of_integer i.kind (z +ℤ d)))) b
delta_first i v z d b is h s =
    let w = of_integer i.kind (z +ℤ d) in
    let e : d ≡ integer_of w -ℤ integer_of v = rw (number_back i.kind (z +ℤ d) h, number_is i.kind v z is) (added_back z d) in
    delta_is_first i (Assigned v) v w b (base_is i v (kind_is i.kind v z is)) (number_value i.kind i.presence v w b h.integer (of_type i.kind (z +ℤ d) h) (subst (λ (x : ℤ). ShortestSigned i.presence x b) e s))

pub delta_out : (i : FieldPart) (e : Entry) (v : Option Scalar) → i.operator ≡ Operator.Delta → left_out_of i.operator i e v ≡ false
delta_out i e v o = rw o refl

assigned_takes : (i : FieldPart) (v : Scalar) (new : Entry) (z d : ℤ) (bytes rest : List ℕ) → i.operator ≡ Operator.Delta → IsNumberOf i.kind v z → IsFieldNumber i.kind i.part (z +ℤ d) → Spelt false i.presence bytes d rest
    → new ≡ Assigned (of_integer i.kind (z +ℤ d)) → Takes i (Assigned v) new (of_integer i.kind (z +ℤ d)) bytes rest
assigned_takes i v new z d bytes rest o is h read entry =
    let w = of_integer i.kind (z +ℤ d) in
    let n = number_is i.kind v z is in
    let range : IsTrue (in_range i.kind (integer_of v +ℤ d)) = rw n h.number.range in
    let row = delta_row i.operator i (Assigned v) bytes o ∙ delta_as i.kind i (Assigned v) bytes h.number.integer ∙ delta_read i (Assigned v) v bytes rest d (base_is i v (kind_is i.kind v z is)) range read in
    let last : next i (Assigned v) (Some w) ≡ Assigned w = rw o refl in
    takes i (Assigned v) new w bytes rest (within_number i.kind i.part (z +ℤ d) h) (rw n at row) (entry ∙ sym last)

entry_takes : (i : FieldPart) (old new : Entry) (z d : ℤ) (bytes rest : List ℕ) → i.operator ≡ Operator.Delta → HasNumber i.kind old z → IsFieldNumber i.kind i.part (z +ℤ d) → Spelt false i.presence bytes d rest
    → new ≡ Assigned (of_integer i.kind (z +ℤ d)) → Takes i old new (of_integer i.kind (z +ℤ d)) bytes rest
entry_takes i (Assigned v) new z d bytes rest o is h read entry = assigned_takes i v new z d bytes rest o is h read entry
entry_takes i old new z d bytes rest o is h read entry = absurd is

entry_first : (i : FieldPart) (old : Entry) (z d : ℤ) (b : List ℕ) → HasNumber i.kind old z → IsNumber i.kind (z +ℤ d) → ShortestSigned i.presence d b → IsFirst (λ c b. DeltaForm Usual i old c b (Some (of_integer i.kind (z +ℤ d)))) b
entry_first i (Assigned v) z d b is h s = delta_first i v z d b is h s
entry_first i old z d b is h s = absurd is

typed_adds : (i : FieldPart) (old new : Entry) (d : ℤ) → i.operator ≡ Operator.Delta → Adds i.kind i.part d old new → NumberGives true i.kind i old new d
typed_adds i old new d o h =
    let z = h.number +ℤ d in
    let w = of_integer i.kind z in
    let takes : (bytes rest : List ℕ) → Spelt false i.presence bytes d rest → Takes i old new w bytes rest = λ bytes rest s. entry_takes i old new h.number d bytes rest o h.kept h.sum s h.entry in record {
      takes = λ bytes rest s. (w, takes bytes rest (rw o at s));
      gives = λ bytes at first next s.
          let form = slice_range bytes first next in
          let sent = rw (o) at s in (
            w,
            judges true i old new w (drop at bytes) (drop next bytes) form (of_kind i.kind z h.sum.number) (within_number i.kind i.part z h.sum) (takes (drop at bytes) (drop next bytes) sent.spelt)
                (delta_out i old (Some w) o)
                (subst (λ (o : Operator). IsFirst (λ c b. FormOf Usual o i old true c b (Some w)) form) (sym o) (entry_first i old h.number d form h.kept h.sum.number (shortest_signed i.presence d form sent.form sent.short))),
          );
    }

pub added_gives : (k : Kind) (i : FieldPart) (old new : Entry) (d : ℤ) → k ≡ i.kind → i.operator ≡ Operator.Delta → Adds k i.part d old new → NumberGives true k i old new d
added_gives k i old new d same o = subst (λ (k : Kind). Adds k i.part d old new → NumberGives true k i old new d) (sym same) (typed_adds i old new d o)
