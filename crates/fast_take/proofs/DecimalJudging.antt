-- What decimals rest on that are judged as they stand.
use Rattle.fast_take.proofs.Common.{◌≡◌, ℕ, Bool, true, List, drop, slice_range, refl, sym, subst, ◌∙◌, ℤ, ◌+ℤ◌, Some, exponent_in_range, in_range, Kind, Part, Presence, Mandatory, FieldPart, Decimal, Entry, Assigned, ShortestPair, next as next_entry, FormOf, IsFirst, Operator, Usual, Leaves, PairGives, PairStandsFrom, SpellsWhole, whole_shortest}
use Rattle.fast_take.proofs.DecimalRelaying.{delta_as, delta_first, delta_read, of_type, whole_read}
use Rattle.fast_take.proofs.Ranges.{range_split}
use Rattle.fast_take.proofs.Standing.{shortest_signed}
use Rattle.fast_take.proofs.NumberRelaying.{delta_out, delta_row, judges, takes, whole_first, whole_row}
use Rattle.fast_take.proofs.TextRelaying.{whole_within}

pair_shortest : (p : Presence) (bytes : List ℕ) (at first next : ℕ) (x m : ℤ) → PairStandsFrom p bytes at first next x m → ShortestPair p x m (slice_range bytes first next)
pair_shortest p bytes at first next x m s =
    let front = slice_range bytes first s.middle in
    let back = slice_range bytes s.middle next in
    record {
      front = front;
      back = back;
      parts = range_split bytes first s.middle next s.before s.behind;
      first = shortest_signed p x front s.exponent.form s.exponent.short;
      second = shortest_signed Mandatory m back s.mantissa.form s.mantissa.short;
    }

pub decimal_gives : (bit : Bool) (i : FieldPart) (old new : Entry) (x m : ℤ) → i.kind ≡ Kind.Decimal → i.part ≡ Part.Whole → SpellsWhole i.operator → exponent_in_range x ≡ true → in_range Kind.Int64 m ≡ true → Leaves bit i old new (Some (Decimal x m)) → PairGives bit i old new x m
decimal_gives bit i old new x m k p o near fits l = λ bytes at first next s.
    let v = Decimal x m in
    let form = slice_range bytes first next in
    let within = whole_within i.part v p in
    let row = whole_row i.operator i old (drop at bytes) o ∙ whole_read i x m (drop at bytes) (drop s.middle bytes) (drop next bytes) k s.exponent.spelt near s.mantissa.spelt fits in (
      v,
      judges bit i old new v (drop at bytes) (drop next bytes) form (rw k refl) within (takes i old new v (drop at bytes) (drop next bytes) within row l.entry) l.left_out
          (whole_first i.operator i old (Some v) form o (whole_shortest i.kind i.presence v form (of_type i.kind x m k near fits) (pair_shortest i.presence bytes at first next x m s))),
    )

pub decimal_adds : (i : FieldPart) (old new : Entry) (x m dx dm : ℤ) → old ≡ Assigned (Decimal x m) → i.kind ≡ Kind.Decimal → i.operator ≡ Operator.Delta → i.part ≡ Part.Whole → exponent_in_range (x +ℤ dx) ≡ true → in_range Kind.Int64 (m +ℤ dm) ≡ true
    → new ≡ Assigned (Decimal (x +ℤ dx) (m +ℤ dm)) → PairGives true i old new dx dm
decimal_adds i was new x m dx dm is k o p near fits entry = rw is (λ bytes at first next s.
    let old = Assigned (Decimal x m) in
    let v = Decimal (x +ℤ dx) (m +ℤ dm) in
    let form = slice_range bytes first next in
    let within = whole_within i.part v p in
    let row = delta_row i.operator i old (drop at bytes) o ∙ delta_as i.kind i old (drop at bytes) k ∙ delta_read i x m dx dm (drop at bytes) (drop s.middle bytes) (drop next bytes) k s.exponent.spelt near s.mantissa.spelt fits in
    let last : next_entry i old (Some v) ≡ Assigned v = rw o refl in (
      v,
      judges true i old new v (drop at bytes) (drop next bytes) form (rw k refl) within (takes i old new v (drop at bytes) (drop next bytes) within row (entry ∙ sym last)) (delta_out i old (Some v) o)
          (subst (λ (o : Operator). IsFirst (λ c b. FormOf Usual o i old true c b (Some v)) form) (sym o) (delta_first i x m dx dm form k near fits (pair_shortest i.presence bytes at first next dx dm s))),
    ))
