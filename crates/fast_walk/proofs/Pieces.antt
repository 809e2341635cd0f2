-- How a walk takes a piece, and where it stops at one.
use Rattle.fast_walk.proofs.Common.{◌≡◌, ◌≢◌, ◌≤◌, ◌<◌, ◌-◌, ◌++◌, ◌+◌, ◌*◌, ◌∷◌, [], ℕ, Bool, List, Option, Ok, Err, drop, length, get_or, map, refl, sym, ap, ◌∙◌, arith, Vec, IsTrue, Key, Kind, Part, Presence, Scalar, FieldPart, Flat, fold_out-Flat, Field, Parts, Group, Sequence, outs-Field, outs-Parts, outs-Group, outs-Sequence, Instruction, Instructions, flat_step, instruction_of, whole_field, field_in_parts, group_of, sequence_of, then_instruction, list_of, part_needs_bit, Dictionary, IsKindOfPart, FieldFault, Level, after_bit, bit_for, Stop, cause_of_field, Item, Cursor, field_part_at, node_at, piece_at, stopped, Cause, Inside, Next, all_around, at_instruction, cursor, top_on, CanWalk, Holds, Reaches, Stops, IsTold, KeepScalars, CarriesOpen, Faults, Having, Received, Took, moved, StillAwaits, AwaitsBehind, left_around, AreAllServed, AreServed, At, Begins, HaltsAs, IsBehind, IsNextServed, IsOpened, IsServed, IsWaitingServed, Moves, bare_next, frame_of, next_of, rank_of, reads_on, weight_of, Halt, Frame as FrameNow, Walk as WalkNow, bytes_from, IsBytes, own_map_at, IsOwnMap, IsMapped, slice_range, at_element, in_element, fewer, in_sequence, sequel_of, Sequel}
use Rattle.fast_walk.specs.declared.walk.Next.{Next as NextNow}
use Rattle.fast_walk.specs.declared.walk.Sequel.{Sequel as SequelNow}
use Rattle.fast_walk.proofs.Steps.{count_goes, items_on, part_goes, part_stops}
use Rattle.fast_walk.proofs.Telling.{asked_for, taken_keeps, told_part}
use Rattle.fast_walk.proofs.Walking.{at_element_of, enters, goes_on, is_instruction, left_last, mapped, piece_on, piece_stops_on, served_push}

-- ---- the instruction that is next

pub is_field : {flat : Flat} {name : List ℕ} {number : ℕ} {presence : Presence} {whole : FieldPart} → flat ≡ Field name number presence whole → instruction_of flat ≡ whole_field name number presence whole
is_field {name = name} {number} {presence} {whole} is = ap instruction_of is ∙ fold_out-Flat Instruction flat_step (Field name number presence whole) ∙ rw (outs-Field name number presence whole) refl

pub is_parts : {flat : Flat} {name : List ℕ} {number : ℕ} {presence : Presence} {exponent mantissa : FieldPart} → flat ≡ Parts name number presence exponent mantissa → instruction_of flat ≡ field_in_parts name number presence exponent mantissa
is_parts {name = name} {number} {presence} {exponent} {mantissa} is = ap instruction_of is ∙ fold_out-Flat Instruction flat_step (Parts name number presence exponent mantissa) ∙ rw (outs-Parts name number presence exponent mantissa) refl

pub is_group : {flat : Flat} {name : List ℕ} {number : ℕ} {presence : Presence} (members : Vec Flat) → flat ≡ Group name number presence members → instruction_of flat ≡ group_of name number presence (list_of members.items)
is_group {name = name} {number} {presence} members is = ap instruction_of is ∙ fold_out-Flat Instruction flat_step (Group name number presence members) ∙ rw (outs-Group name number presence members) refl

pub is_sequence : {flat : Flat} {name : List ℕ} {number : ℕ} {presence : Presence} {part : FieldPart} (members : Vec Flat) → flat ≡ Sequence name number presence part members → instruction_of flat ≡ sequence_of name number presence part (list_of members.items)
is_sequence {name = name} {number} {presence} {part} members is = ap instruction_of is ∙ fold_out-Flat Instruction flat_step (Sequence name number presence part members) ∙ rw (outs-Sequence name number presence part members) refl

abbrev pub number_in : Instruction → ℕ
number_in (whole_field name number presence whole) = number
number_in (field_in_parts name number presence exponent mantissa) = number
number_in (group_of name number presence members) = number
number_in (sequence_of name number presence part members) = number

not_counted : (level : Level) (i : Instruction) (c : Cursor) (s : Stop) → node_at (number_in i) c ≡ Err s → piece_at level i c ≡ Err s
not_counted level (whole_field name number presence whole) c s h = rw h refl
not_counted level i c s h = rw h refl

pub weighs : (n : NextNow) → (0 < weight_of n) × (weight_of n ≤ 2)
weighs NextNow.Instruction = (omega arith, omega arith)
weighs n = (omega arith, omega arith)

module _ {serves : Key → Bool} {d : Dictionary} {Awaits : List (List Bool) → List Bool → Bool} {w : WalkNow} where
  pub begins_served : {i : Instruction} {is : Instructions} → CanWalk serves d Awaits w → Begins w i is → IsServed serves i × AreServed serves is
  begins_served can begins = rw (begins.first) at can.ready.rest

  -- it can go on behind a part
  pub part_on : {v : WalkNow} {Later : List (List Bool) → List Bool → Bool} {e : Dictionary} {p : FieldPart} {level asked : Level} {needs bit : Bool} {x : Option Scalar} {bytes rest : List ℕ} {part : Part} {kind : Kind} → CanWalk serves d Awaits w
      → asked ≡ level → needs ≡ part_needs_bit p → bit ≡ bit_for needs w.bits → IsKindOfPart part kind → IsTold part kind p → IsBytes bytes → Took asked p bit d e x bytes rest → AwaitsBehind bit p Awaits Later
      → v.bits ≡ after_bit needs w.bits → v.around.items ≡ w.around.items → IsNextServed serves (next_of v.next) → AreServed serves (list_of v.rest.now) → CanWalk serves e Later v
  part_on {v} {Later} {e} {p} {level} {asked} {needs} {bit} {x} {bytes} {rest} {part} {kind} can l need b of told fits took awaits bits around next rest_served = record {
    ready = record { next = next; rest = rest_served; around = rw around can.ready.around };
    kept = taken_keeps asked p bit d e x bytes rest fits (told_part part kind p of told) (asked_for p needs bit w.bits need b) took can.kept;
    awaited = rw (bits, around, need) (awaits _ w.bits (rw need at b) can.awaited);
  }

-- in a segment that is opened
pub opened_on : {serves : Key → Bool} {d : Dictionary} {Awaits : List (List Bool) → List Bool → Bool} {v : WalkNow} {frames : List FrameNow} {outer own : List Bool} {left number : ℕ} {members is : Instructions} {i : Inside}
    → IsOpened frames outer left number members is i own v → AreServed serves members → IsWaitingServed serves (record { bits = outer; number = number; body = record { rest = is; done = [] }; inside = i })
    → AreAllServed serves (map frame_of frames) → KeepScalars d → IsTrue (Awaits (left_around (map frame_of frames) ++ outer ∷ []) own) → CanWalk serves d Awaits v
opened_on {serves} end members waits served kept awaits = record {
  ready = record { next = rw (end.next) tt; rest = rw (end.rest) members; around = rw (end.around) (served_push serves _ _ served waits) };
  kept = kept;
  awaited = rw (end.bits, left_last _ _ _ end.around) awaits;
}

pub less_opened : (n : NextNow) {v : WalkNow} {frames : List FrameNow} {outer own : List Bool} {left number : ℕ} {members is : Instructions} {i : Inside} → 0 < left → IsOpened frames outer left number members is i own v
    → rank_of v < 4 * left + 2 * length frames + weight_of n
less_opened n some end =
    omega (arith, end.spare, some, weighs n, end.depth, ap weight_of end.next)

pub less_behind : {w v : WalkNow} {needs : Bool} {n : NextNow} {is : Instructions} → 0 < w.spare → IsBehind w v needs n is → rank_of v < rank_of w
less_behind {w} {v} some end =
    omega (arith, end.spare, some, weighs w.next, weighs v.next, ap (λ (fs : List FrameNow). length fs) end.around)

pub part_took : {d e : Dictionary} {p : FieldPart} {level asked : Level} {needs bit : Bool} {x : Option Scalar} {bytes rest : List ℕ} (bits : List Bool) → asked ≡ level → needs ≡ part_needs_bit p → bit ≡ bit_for needs bits
    → Took asked p bit d e x bytes rest → (spare : ℕ) (more : List ℕ) → field_part_at level p (cursor d bits spare (bytes ++ more)) ≡ Ok (x, cursor e (after_bit needs bits) spare (rest ++ more))
part_took {d} {e} {p} {level} {asked} {needs} {bit} {x} {bytes} {rest} bits l need b took spare more =
    rw (took.entry, need) (part_goes level p d bits spare (bytes ++ more) (rest ++ more) x (rw (l, b, need) at took.value more))

pub halts_at : (level : Level) (d : Dictionary) (bytes : List ℕ) (h : Halt) {w : WalkNow} {i : Instruction} {is : Instructions} → Begins w i is → piece_at level i (cursor d w.bits w.spare bytes) ≡ stopped h.number bytes h.cause → HaltsAs level w d bytes h
halts_at level d bytes h {w} {i} {is} begins k o at =
    piece_stops_on level o.around o.next o.body i is (cursor d w.bits w.spare bytes) _ (is_instruction o.next (at.next ∙ ap next_of begins.next)) (at.rest ∙ begins.first) k

module _ {R : Type 0} {level : Level} {Has : Having R} {Awaits : R → List (List Bool) → List Bool → Bool} {w : WalkNow} {r : R} {d : Dictionary} {bytes : List ℕ} {h : Halt} where
  -- ---- where it stops

  -- nothing has changed
  pub stops_here : {serves : Key → Bool} → CanWalk serves d (Awaits r) w → HaltsAs level w d bytes h → Stops level Has Awaits w r d w r d bytes h
  stops_here can halts = record { halts = halts; walk = refl; entries = refl; has = λ o e had. had; awaited = can.awaited }

  -- a node too many
  pub count_stops : {serves : Key → Bool} {j i : Instruction} {is : Instructions} → CanWalk serves d (Awaits r) w → Begins w j is → j ≡ i
      → ((e : Dictionary) (bits : List Bool) (b : List ℕ) → node_at (number_in i) (cursor e bits w.spare b) ≡ stopped h.number b h.cause) → h.cause ≢ Cause.Memory → Stops level Has Awaits w r d w r d bytes h
  count_stops {i = i} can first same stops other = stops_here can (halts_at level d bytes h (rw same at first) (not_counted level i _ _ (stops d w.bits bytes)))

  -- a part that has a fault
  pub fault_stops : {serves : Key → Bool} {s : R} {e : Dictionary} {f : FieldFault} {asked : Level} {needs bit : Bool} (p : FieldPart) → CanWalk serves d (Awaits r) w → asked ≡ level → needs ≡ part_needs_bit p → bit ≡ bit_for needs w.bits
      → h.cause ≡ cause_of_field f → h.number ≡ p.number
      → (f ≢ FieldFault.Memory → Faults asked p bit d e bytes f (CarriesOpen (Has r) (Has s))) → (f ≢ FieldFault.Memory → StillAwaits (Awaits r) (Awaits s))
      → (((spare : ℕ) → field_part_at level p (cursor d w.bits spare bytes) ≡ stopped h.number bytes h.cause) → HaltsAs level w d bytes h)
      → h.cause ≢ Cause.Memory → Stops level Has Awaits w r d w s e bytes h
  fault_stops {serves} {s} {e} {f} p can l n b caused numbered faults awaits halts other =
      let memory : f ≢ FieldFault.Memory = λ is. other (caused ∙ ap cause_of_field is) in
      let stops = faults memory in
      record {
        halts = halts (λ spare. rw (caused, numbered) (part_stops level p d w.bits spare bytes f (rw (l, b, n) at stops.0)));
        walk = refl;
        entries = stops.1;
        has = stops.2;
        awaited = awaits memory _ _ can.awaited;
      }

  -- the first part of an instruction
  pub first_stops : {serves : Key → Bool} {s : R} {e : Dictionary} {f : FieldFault} {asked : Level} {needs bit : Bool} {j i : Instruction} {is : Instructions} (p : FieldPart) → CanWalk serves d (Awaits r) w → Begins w j is → j ≡ i → 0 < w.spare
      → asked ≡ level → needs ≡ part_needs_bit p → bit ≡ bit_for needs w.bits → h.cause ≡ cause_of_field f → h.number ≡ p.number
      → (f ≢ FieldFault.Memory → Faults asked p bit d e bytes f (CarriesOpen (Has r) (Has s))) → (f ≢ FieldFault.Memory → StillAwaits (Awaits r) (Awaits s))
      → ((c k : Cursor) (t : Stop) → node_at (number_in i) c ≡ Ok k → field_part_at level p k ≡ Err t → piece_at level i c ≡ Err t)
      → h.cause ≢ Cause.Memory → Stops level Has Awaits w r d w s e bytes h
  first_stops {i = i} p can first same some l n b caused numbered faults awaits begins =
      fault_stops p can l n b caused numbered faults awaits (λ stops. halts_at level d bytes h (rw same at first) (begins _ _ _ (count_goes (number_in i) w.spare d w.bits bytes some) (stops (w.spare - 1))))

-- ---- where it goes on

-- behind the first part of an instruction
pub moves_on : (level : Level) {R : Type 0} (Has : Having R) (r s : R) (d e : Dictionary) (bytes rest : List ℕ) {w v : WalkNow} {i : Instruction} {is : Instructions} {needs : Bool} {n : NextNow} (next : Next) (f : List Item → List Item)
    → Begins w i is → 0 < w.spare → IsBehind w v needs n is → bare_next next ≡ next_of n
    → ((o : Received) → o.next ≡ at_instruction → o.body.rest ≡ then_instruction i is → Has r o d → Has s (moved o next (record { rest = is; done = f o.body.done }) o.around) e)
    → ((done : List Item) (more : List ℕ) → node_at (number_in i) (cursor d w.bits w.spare (bytes ++ more)) ≡ Ok (cursor d w.bits (w.spare - 1) (bytes ++ more))
    → items_on level is done (piece_at level i (cursor d w.bits w.spare (bytes ++ more))) ≡ top_on level next (record { rest = is; done = f done }) (cursor e (after_bit needs w.bits) (w.spare - 1) (rest ++ more)))
    → Moves level Has w r d v s e bytes rest
moves_on level Has r s d e bytes rest {w} {v} {i} {is} next f begins some end same has reads o at =
    let here = is_instruction o.next (at.0.next ∙ ap next_of begins.next) in
    let first = at.0.rest ∙ begins.first in (
      moved o next (record { rest = is; done = f o.body.done }) o.around,
      (record { next = same ∙ ap next_of (sym end.next); rest = sym end.rest; around = rw (end.around) at.0.around }, has o here first at.1),
      record { set = refl; before = refl; template = refl; members = refl; start = refl },
      λ more. rw (end.bits, end.spare)
          (piece_on level o.around o.next o.body i is _ here first ∙ ap (all_around level o.around) (reads o.body.done more (count_goes (number_in i) w.spare d w.bits _ some))),
    )

module _ {R : Type 0} {level : Level} {Has : Having R} {Awaits : R → List (List Bool) → List Bool → Bool} {serves : Key → Bool} {w v : WalkNow} {r s : R} {d e : Dictionary} {bytes : List ℕ} {at n : ℕ} where
  -- the first part of an instruction
  pub part_takes : {i : Instruction} {is : Instructions} {p : FieldPart} {asked : Level} {needs bit : Bool} {x : Option Scalar} {part : Part} {kind : Kind} {nextNow : NextNow}
      (next : Next) (f : List Item → List Item) → CanWalk serves d (Awaits r) w → Begins w i is → 0 < w.spare → IsBehind w v needs nextNow is → bare_next next ≡ next_of nextNow → asked ≡ level → needs ≡ part_needs_bit p → bit ≡ bit_for needs w.bits
      → IsKindOfPart part kind → IsTold part kind p → ((k : ℕ) → get_or bytes k 0 < 256) → Took asked p bit d e x (drop at bytes) (drop n bytes) → AwaitsBehind bit p (Awaits r) (Awaits s) → IsNextServed serves (next_of nextNow)
      → (at ≤ n) × (n ≤ length bytes)
      → ((o : Received) → o.next ≡ at_instruction → o.body.rest ≡ then_instruction i is → Has r o d → Has s (moved o next (record { rest = is; done = f o.body.done }) o.around) e)
      → ((done : List Item) (c k l : Cursor) → node_at (number_in i) c ≡ Ok k → field_part_at level p k ≡ Ok (x, l) → items_on level is done (piece_at level i c) ≡ top_on level next (record { rest = is; done = f done }) l)
      → Reaches level Has Awaits serves w r d v s e bytes at n × (rank_of v < rank_of w)
  part_takes {is = is} next f can begins some end same l need b of told fits took awaits served place has reads = (
    record {
      from = place.0;
      within = place.1;
      goes = moves_on level Has r s d e (drop at bytes) (drop n bytes) next f begins some end same has (λ done more h. reads done _ _ _ h (part_took w.bits l need b took (w.spare - 1) more));
      on = part_on can l need b of told (bytes_from bytes at fits) took awaits end.bits end.around (rw (end.next) served) (rw (end.rest) (begins_served can begins).1);
    },
    less_behind some end,
  )

-- the first element of a sequence
module _ {R : Type 0} {level : Level} {Has : Having R} {Awaits : R → List (List Bool) → List Bool → Bool} {serves : Key → Bool} {w v : WalkNow} {r s : R} {d : Dictionary} {bytes : List ℕ} {at n : ℕ} where
  pub element_taken : {x : SequelNow} {own : List Bool} → CanWalk serves d (Awaits r) w → w.next ≡ NextNow.Element x → 0 < x.left → 0 < w.spare → (at ≤ n) × (n ≤ length bytes)
      → IsOpened w.around.items w.bits w.spare x.number (list_of x.members.now) (list_of w.rest.now) (in_sequence (fewer (sequel_of x))) own v
      → ((more : List ℕ) → own_map_at level x.number x.own_map (cursor d w.bits (w.spare - 1) (drop at bytes ++ more)) ≡ Ok (cursor d own (w.spare - 1) (drop n bytes ++ more)))
      → IsOwnMap x.own_map (slice_range bytes at n) own
      → ((q : Sequel) (bits : List Bool) (o : Received) → o.next ≡ at_element q → x.number ≡ q.number → IsMapped q.own_map (slice_range bytes at n) → 0 < q.left → Has r o d → Has s (in_element o bits q) d)
      → ((around : List (List Bool)) (has : Bool) (b bits : List Bool) → IsOwnMap has (slice_range bytes at n) bits → IsTrue (Awaits r around b) → IsTrue (Awaits s (around ++ b ∷ []) bits))
      → Reaches level Has Awaits serves w r d v s d bytes at n × (rank_of v < rank_of w)
  element_taken {x} {own} can is some spare place end goes map has awaits =
      let members = rw is at can.ready.next in (
        record {
          from = place.0;
          within = place.1;
          goes = λ o was.
              let a = at_element_of o was.0 is in
              enters level Has w s d o o (drop at bytes) (drop n bytes) a (record { set = refl; before = refl; template = refl; members = refl; start = refl }) (λ b. refl)
              some spare end goes (λ same left. has a.sequel w.bits o a.next (sym (ap (λ (q : Sequel). q.number) a.same)) (mapped _ _ _ _ same map) left was.1);
          on = opened_on end members (can.ready.rest, members) can.ready.around can.kept (awaits _ x.own_map w.bits _ map can.awaited);
        },
        less_opened w.next spare end,
      )

-- ---- one place behind the other

pub reaches_on : {R : Type 0} {level : Level} {Has : Having R} {Awaits : R → List (List Bool) → List Bool → Bool} {serves : Key → Bool} {w v u : WalkNow} {r s t : R} {d e f : Dictionary} {bytes : List ℕ} {at n m : ℕ}
    → Reaches level Has Awaits serves w r d v s e bytes at n → Reaches level Has Awaits serves v s e u t f bytes n m → Reaches level Has Awaits serves w r d u t f bytes at m
reaches_on {level = level} {Has = Has} {w = w} {v = v} {u = u} {r = r} {s = s} {t = t} {d = d} {e = e} {f = f} {bytes = bytes} {at = at} {n = n} {m = m} one more = record {
  from = omega (arith, one.from, more.from);
  within = more.within;
  goes = goes_on (At Has w r d) (At Has v s e) (At Has u t f) (reads_on level w d) (reads_on level v e) (reads_on level u f) (drop at bytes) (drop n bytes) (drop m bytes) one.goes more.goes;
  on = more.on;
}

-- where a piece stops, the walk is as it was, and can go on
pub holds_at : {R : Type 0} {level : Level} {Has : Having R} {Awaits : R → List (List Bool) → List Bool → Bool} {serves : Key → Bool} {w v u : WalkNow} {r s t : R} {d e f : Dictionary} {bytes : List ℕ} {at n : ℕ} {h : Halt}
    → Reaches level Has Awaits serves w r d v s e bytes at n → Stops level Has Awaits v s e u t f (drop n bytes) h → Holds level Has Awaits serves w r d u t f (drop at bytes) (drop n bytes) h
holds_at {level = level} {Has = Has} {w = w} {v = v} {r = r} {s = s} {t = t} {d = d} {e = e} {bytes = bytes} {at = at} {n = n} one stops = record {
  goes = rw (stops.walk, stops.entries)
      (goes_on (At Has w r d) (At Has v s e) (At Has v t e) (reads_on level w d) (reads_on level v e) (reads_on level v e) (drop at bytes) (drop n bytes) (drop n bytes) one.goes
      (λ o at. (o, (at.0, stops.has o e at.1), record { set = refl; before = refl; template = refl; members = refl; start = refl }, λ more. refl)));
  halts = rw (stops.walk, stops.entries) stops.halts;
  on = record { ready = rw (stops.walk) one.on.ready; kept = rw (stops.entries) one.on.kept; awaited = stops.awaited };
}
