-- What is too short to be read stays so until what it lacks has come.
use Rattle.fast_walk.proofs.Common.{◌≡◌, ℕ, zero, suc, ◌<◌, ◌≤◌, Bool, true, false, List, [], ◌∷◌, ◌++◌, length, Option, Some, None, Ok, Err, refl, sym, ap, subst, ◌∙◌, arith, length-append, inl, inr, ◌-◌, append-nil, nat_le, IfSome, Instruction, Resolved, Instructions, then_instruction, list_of, part_needs_bit, group_of, no_instructions, entry_at, bit_for, Content, Items, Stop, Dictionary, Cursor, Reads, field_part_at, node_at, piece_at, stopped, Truncated, Reading, cursor, message_of, Received, Continues, ContinuesAt, IsOpen, stop_of, HaltedBy, Stage, Traversal, next_of, reads_on, Walk, HasNoStop, judge, overlong_unsigned, entity_at, unsigned_at, signed_at, unsigned_nullable_at, signed_nullable_at, ascii_at, ascii_nullable_at, vector_at, behind_length, vector_nullable_at, Level, Usual, Strict, WireFault, Value, entity_goes, unsigned_goes, unsigned_nullable_goes, bytes_wait, Kind, Operator, Presence, Mandatory, Optional, FieldPart, Entry, FieldFault, field_fault, part_at, units_at, integer_at, integer_spelled_at, decimal_spelled_at, units_spelled_at, spelled_at, integer_delta_at, decimal_delta_at, unit_delta_at, delta_at, tail_at, whole_at, row_at, field_at, Lack, AreUnstopped, EntityLacks, FieldLacks, IsFirst, IsLacking, IsNextPart, IsVectorKind, Lacks, StopsShort, VectorLacks, WalkLacks, Wants, WantsByte, WholeLacks, WholeWaits, IsCount, first_limit, sends, whole_limit, is_unsigned, Part}
use Rattle.fast_walk.proofs.Heads.{content_fails}
use Rattle.fast_walk.specs.declared.walk.Next.TheVariants as next
use Rattle.fast_walk.proofs.Pieces.{number_in}
use Rattle.fast_walk.proofs.Steps.{count_goes, part_stops}
use Rattle.fast_walk.proofs.Walking.{is_instruction, is_mantissa, mantissa_on_stops, piece_stops_on}

-- ---- bytes with no stop bit

pub unstopped : (bytes : List ℕ) → HasNoStop bytes → AreUnstopped bytes
unstopped [] h = tt
unstopped (b ∷ bs) h = (h 0 (omega arith), unstopped bs (λ k below. h (suc k) (omega (arith, below))))

pub both_unstopped : (xs ys : List ℕ) → AreUnstopped xs → AreUnstopped ys → AreUnstopped (xs ++ ys)
both_unstopped [] ys h k = k
both_unstopped (x ∷ xs) ys h k = (h.0, both_unstopped xs ys h.1 k)

-- ---- entities

pub entity_waits : (limit : ℕ) (bytes : List ℕ) → AreUnstopped bytes → length bytes < limit → entity_at limit bytes ≡ Err WireFault.NeedMore
unfolding entity_at
entity_waits zero bytes h short = absurd (omega (arith, short))
entity_waits (suc limit) [] h short = refl
entity_waits (suc limit) (b ∷ bs) h short =
    let low = h.0 in
    let t : nat_le 128 b ≡ false = grind arith in
    rw (t, entity_waits limit bs h.1 (omega (arith, short))) refl

-- ---- what begins with an entity

integer_waits : (level : Level) (u : Bool) (p : Presence) (bytes : List ℕ) → entity_at 10 bytes ≡ Err WireFault.NeedMore → integer_at level u p bytes ≡ Err FieldFault.NeedMore
unfolding integer_at unsigned_at signed_at unsigned_nullable_at signed_nullable_at
integer_waits Usual true Mandatory bytes h = rw h refl
integer_waits Usual false Mandatory bytes h = rw h refl
integer_waits level u p bytes h = rw h refl

-- characters, or the length of a vector
pub units_wait : (level : Level) (k : Kind) (p : Presence) (bytes : List ℕ) → entity_at (whole_limit k) bytes ≡ Err WireFault.NeedMore → units_at level k p bytes ≡ Err FieldFault.NeedMore
unfolding units_at part_at ascii_at ascii_nullable_at vector_at vector_nullable_at unsigned_at unsigned_nullable_at
units_wait Usual Kind.Ascii Mandatory bytes h = rw h refl
units_wait Usual k Mandatory bytes h = rw h refl
units_wait Strict Kind.Ascii p bytes h = rw h refl
units_wait level k p bytes h = rw h refl

whole_waits : (level : Level) (k : Kind) (p : Presence) (bytes : List ℕ) → entity_at (whole_limit k) bytes ≡ Err WireFault.NeedMore → WholeWaits level k p bytes
whole_waits level k p bytes h = record { units = units_wait level k p bytes h; entity = λ _ _. h }

-- ---- vectors

-- a length that is not overlong is none whatever follows
pub length_judged : (bytes more entity rest : List ℕ) → entity_at 10 bytes ≡ Ok (entity, rest) → overlong_unsigned entity ≡ false → judge Strict 10 overlong_unsigned field_fault FieldFault.R6 (bytes ++ more) ≡ Ok tt
length_judged bytes more entity rest h k = rw (entity_goes 10 bytes entity rest more h, k) refl

pub counted_waits : (level : Level) (k : Kind) (p : Presence) (bytes more rest : List ℕ) (n : ℕ) → IsVectorKind k → judge level 10 overlong_unsigned field_fault FieldFault.R6 (bytes ++ more) ≡ Ok tt → n ≤ 65535 → length (rest ++ more) < n
    → IsCount p bytes n rest → units_at level k p (bytes ++ more) ≡ Err FieldFault.NeedMore
unfolding units_at part_at vector_at vector_nullable_at behind_length
counted_waits level k Mandatory bytes more rest n (inl is) fit few short h = rw (is, fit, unsigned_goes bytes n rest more h, bytes_wait n (rest ++ more) few short) refl
counted_waits level k Optional bytes more rest n (inl is) fit few short h = rw (is, fit, unsigned_nullable_goes bytes (Value n) rest more h, bytes_wait n (rest ++ more) few short) refl
counted_waits level k Mandatory bytes more rest n (inr is) fit few short h = rw (is, fit, unsigned_goes bytes n rest more h, bytes_wait n (rest ++ more) few short) refl
counted_waits level k Optional bytes more rest n (inr is) fit few short h = rw (is, fit, unsigned_nullable_goes bytes (Value n) rest more h, bytes_wait n (rest ++ more) few short) refl

-- ---- fields

spelled_waits : (level : Level) (pt : Part) (k : Kind) (p : Presence) (bytes : List ℕ) → WholeWaits level k p bytes → spelled_at level pt k p bytes ≡ Err FieldFault.NeedMore
unfolding spelled_at units_spelled_at decimal_spelled_at integer_spelled_at
spelled_waits level pt Kind.Ascii p bytes w = rw (w.units) refl
spelled_waits level pt Kind.Unicode p bytes w = rw (w.units) refl
spelled_waits level pt Kind.Bytes p bytes w = rw (w.units) refl
spelled_waits level pt Kind.Decimal p bytes w = rw (integer_waits level false p bytes (w.entity (λ e. absurd cc) (λ e. absurd cc))) refl
spelled_waits level pt k p bytes w = rw (integer_waits level (is_unsigned k) p bytes (w.entity (λ e. absurd cc) (λ e. absurd cc))) refl

delta_begins : (level : Level) (k : Kind) (i : FieldPart) (e : Entry) (bytes : List ℕ) → entity_at 10 bytes ≡ Err WireFault.NeedMore → delta_at level k i e bytes ≡ Err FieldFault.NeedMore
unfolding delta_at decimal_delta_at unit_delta_at integer_delta_at
delta_begins level Kind.Ascii i e bytes h = rw (integer_waits level false i.presence bytes h) refl
delta_begins level k i e bytes h = rw (integer_waits level false i.presence bytes h) refl

row_waits : (level : Level) (o : Operator) (i : FieldPart) (e : Entry) (bit : Bool) (bytes : List ℕ) → sends o bit ≡ true → (o ≡ Operator.Delta → ⊥) → WholeWaits level i.kind i.presence bytes → row_at level o i e bit bytes ≡ Err FieldFault.NeedMore
unfolding row_at whole_at tail_at
row_waits level Operator.Delta i e bit bytes s d w = absurd (d refl)
row_waits level Operator.Constant i e bit bytes s d w = absurd cc
row_waits level Operator.Plain i e bit bytes s d w = spelled_waits level i.part i.kind i.presence bytes w
row_waits level Operator.Tail i e true bytes s d w = rw (w.units) refl
row_waits level o i e true bytes s d w = spelled_waits level i.part i.kind i.presence bytes w
row_waits level o i e false bytes s d w = absurd cc

row_begins : (level : Level) (o : Operator) (i : FieldPart) (e : Entry) (bit : Bool) (bytes : List ℕ) → sends o bit ≡ true → entity_at (first_limit o i.kind) bytes ≡ Err WireFault.NeedMore → row_at level o i e bit bytes ≡ Err FieldFault.NeedMore
unfolding row_at
row_begins level Operator.Delta i e bit bytes s h = delta_begins level i.kind i e bytes h
row_begins level o i e bit bytes s h = row_waits level o i e bit bytes s (λ d. absurd cc) (whole_waits level i.kind i.presence bytes h)

-- an entity that has not ended
pub entity_wants : {of limit : ℕ} {bytes : List ℕ} {l : Lack} → EntityLacks of limit bytes l → Wants (entity_at limit) WireFault.NeedMore bytes l
entity_wants {limit = limit} {bytes = bytes} lacks more lacking =
    entity_waits limit (bytes ++ more) (both_unstopped bytes more lacks.begun (lacking.unstopped lacks.until)) (omega (arith, length-append {A = ℕ}, lacks.few, lacking.few))

pub entity_whole : {level : Level} {k : Kind} {p : Presence} {of : ℕ} {bytes : List ℕ} {l : Lack} → EntityLacks of (whole_limit k) bytes l → WholeLacks level k p of bytes l
entity_whole {level} {k} {p} lacks = record { lacks = λ more lacking. whole_waits level k p _ (entity_wants lacks more lacking); number = lacks.number }

-- a vector whose length has come
pub vector_whole : {level : Level} {k : Kind} {p : Presence} {of : ℕ} {bytes : List ℕ} {l : Lack} → VectorLacks level k p of bytes l → WholeLacks level k p of bytes l
vector_whole h = record { lacks = λ more lacking. record { units = h.lacks more lacking; entity = λ u b. absurd (elim h.vector [ inl is ↦ u is | inr is ↦ b is ]) }; number = h.number }

-- a field whose first entity has not ended
pub entity_lacks : {level : Level} {i : FieldPart} {e : Entry} {bit : Bool} {bytes : List ℕ} {l : Lack} → sends i.operator bit ≡ true → EntityLacks i.number (first_limit i.operator i.kind) bytes l → FieldLacks level i e bit bytes l
unfolding field_at
entity_lacks {level} {i} {e} {bit} s lacks = record { lacks = λ more lacking. rw (row_begins level i.operator i e bit _ s (entity_wants lacks more lacking)) refl; number = lacks.number }

-- a field that is no delta
pub whole_lacks : {level : Level} {i : FieldPart} {e : Entry} {bit : Bool} {bytes : List ℕ} {l : Lack} → sends i.operator bit ≡ true → (i.operator ≡ Operator.Delta → ⊥) → WholeLacks level i.kind i.presence i.number bytes l → FieldLacks level i e bit bytes l
unfolding field_at
whole_lacks {level} {i} {e} {bit} s d h = record { lacks = λ more lacking. rw (row_waits level i.operator i e bit _ s d (h.lacks more lacking)) refl; number = h.number }

-- ---- walks

-- where the first part of an instruction waits, it does
piece_waits : (level : Level) (p : FieldPart) (i : Instruction) (is : Instructions) (c k : Cursor) (s : Stop) → IsFirst p (then_instruction i is) → node_at (number_in i) c ≡ Ok k → field_part_at level p k ≡ Err s → piece_at level i c ≡ Err s
piece_waits level p (group_of name number presence members) is c k s first n m = absurd first
piece_waits level p i is c k s first n m = rw (n, first, m) refl

-- and all that is left to be read does
first_lacks : (level : Level) (w : Walk) (d : Dictionary) (part : FieldPart) (is : Instructions) (bytes : List ℕ) (l : Lack) → 0 < w.spare → w.next ≡ next.Instruction → list_of w.rest.now ≡ is → IsFirst part is
    → FieldLacks level part (entry_at d part.key) (bit_for (part_needs_bit part) w.bits) bytes l → WalkLacks level w d bytes l
first_lacks level w d part no_instructions bytes l some is rest first h = absurd first
first_lacks level w d part (then_instruction i others) bytes l some is rest first h = λ o more lacking at.
    let xs = bytes ++ more in
    let waits = part_stops level part d w.bits (w.spare - 1) xs FieldFault.NeedMore (h.lacks more lacking) in
    let piece = piece_waits level part i others (cursor d w.bits w.spare xs) (cursor d w.bits (w.spare - 1) xs) _ first (count_goes (number_in i) w.spare d w.bits xs some) waits in
    let stops = piece_stops_on level o.around o.next o.body i others (cursor d w.bits w.spare xs) _ (is_instruction o.next (at.next ∙ ap next_of is)) (at.rest ∙ rest) piece in
    subst (λ (r : Reads Items). StopsShort l.number (length xs) r) (sym stops) (refl, (sym h.number, refl))

pub next_lacks : (level : Level) (w : Walk) (d : Dictionary) (part : FieldPart) (bytes : List ℕ) (o : Option Lack) → IsNextPart w part
    → IfSome o (FieldLacks level part (entry_at d part.key) (bit_for (part_needs_bit part) w.bits) bytes) → IfSome o (WalkLacks level w d bytes)
next_lacks level w d part bytes None first h = tt
next_lacks level w d part bytes (Some l) (inl first) h = first_lacks level w d part (list_of w.rest.now) bytes l first.0 first.1 refl first.2 h
next_lacks level w d part bytes (Some l) (inr first) h = λ o more lacking here.
    let xs = bytes ++ more in
    let next = is_mantissa o.next _ part (here.next ∙ first) in
    let stops = mantissa_on_stops level o.around o.next next.exponent part o.body (cursor d w.bits w.spare xs) _ next.is (part_stops level part d w.bits w.spare xs FieldFault.NeedMore (h.lacks more lacking)) in
    subst (λ (r : Reads Items). StopsShort l.number (length xs) r) (sym stops) (refl, (sym h.number, refl))

-- a part that is sent lacks the stop bit of its first entity
pub part_opens : (level : Level) (w : Walk) (d : Dictionary) (part : FieldPart) (l : Lack) → IsNextPart w part → sends part.operator (bit_for (part_needs_bit part) w.bits) ≡ true
    → l.most < first_limit part.operator part.kind → l.until_stop ≡ true → l.number ≡ part.number → WalkLacks level w d [] l
part_opens level w d part l first s few until same =
    next_lacks level w d part [] (Some l) first (entity_lacks s (record { few = omega (arith, few); begun = tt; until = until; number = same }))

-- ---- walks that have no byte left

short_stops : (number : ℕ) (bytes : List ℕ) (r : Reads Items) → StopsShort number (length bytes) r → r ≡ stopped number bytes Truncated
short_stops number bytes (Ok x) h = absurd h
short_stops number bytes (Err s) h = ap Err (let is = h.0 in let number_is = h.1.0 in let left_is = h.1.1 in λ i. record { cause = is i; instruction = number_is i; left = left_is i })

pub next_wants : (w : Walk) (part : FieldPart) → IsNextPart w part → sends part.operator (bit_for (part_needs_bit part) w.bits) ≡ true → WantsByte w part.number
next_wants w part first s = λ level d o here.
    let none : Lack = record { number = part.number; most = 0; until_stop = true } in
    let lacks = part_opens level w d part none first s (omega arith) refl refl in
    short_stops part.number [] (reads_on level w d o []) (lacks o [] (record { few = omega arith; unstopped = λ _. tt }) here)

-- ---- messages

-- whatever is still read of the message stops there
pub lacking_stops : {R : Type 0} (has : R → Received → Dictionary → Type 0) (stands keeps : R → List Resolved → List Content → Dictionary → Type 0) (t : Traversal) (r : R) (set : List Resolved) (d start : Dictionary) (before : List Content) (read : List ℕ → Reading) (bytes : List ℕ) (l : Lack)
    → Continues has stands keeps t r set d before start read → Lacks t d bytes l
    → read bytes ≡ Err (stop_of t.template (record { cause = Truncated; number = l.number; by = HaltedBy.Walk }) bytes)
lacking_stops {R} has stands keeps t r set d start before read bytes l goes lacks =
    opened.reads bytes ∙ ap (message_of t.level t.template) (short_stops l.number bytes (reads_on t.level t.walk d opened.received bytes) stops) ∙ content_fails t.level t.template _
  where
    opened : IsOpen has keeps t r set d before start read
    opened = subst (λ (s : Stage). ContinuesAt has stands keeps s t r set d before start read) lacks.0 goes

    none : IsLacking l []
    none = record { few = omega arith; unstopped = λ _. tt }

    stops : StopsShort l.number (length bytes) (reads_on t.level t.walk d opened.received bytes)
    stops = subst (λ (xs : List ℕ). StopsShort l.number (length xs) (reads_on t.level t.walk d opened.received xs)) (append-nil bytes) (lacks.1 opened.received [] none opened.at)
