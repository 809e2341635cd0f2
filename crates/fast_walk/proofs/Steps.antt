-- How reading goes on from one piece to the next.
use Rattle.fast_walk.proofs.Common.{◌≡◌, ℕ, zero, suc, ◌-◌, ◌<◌, Bool, true, List, [], ◌∷◌, ◌++◌, Option, Some, Result, Ok, Err, refl, sym, ap, ◌∙◌, arith, append-nil, IsErrAnd, Scalar, U32, FieldPart, Instructions, no_instructions, has_map, Dictionary, ◌>>=◌, entity_at, WireFault, entity_goes, judge, verdict, overlong_map, some_set, IsLeftClear, Level, Usual, Strict, Item, group_items, sequence_elements, Items, no_items, then_item, items_of, Elements, no_elements, then_element, elements_of, bit_for, R7, R8, Stop, cause_of_wire, Cursor, Reads, node_at, field_part_at, own_map_at, closing, segment_at, each_at, elements_at, group_at, body_at, items_before, elements_before, Body, Sequel, ended_on, in_group, in_sequence, Waiting, with_item, under_bits, body_on, elements_on, behind_inside, around_on, all_around, part_needs_bit, entry_at, FieldFault, field_at, after_bit, written, cause_of_field, stopped, cursor}

-- what the exit of a `?` hands on
pub exit_is : {T E : Type 0} {e : E} (r : Result T E) → IsErrAnd r (λ x. x ≡ e) → r ≡ Err e
exit_is (Ok x) h = absurd h
exit_is (Err x) h = ap Err h

-- ---- lists of items

pub items_before-more : (done : List Item) (n : Item) (ns : Items) → items_before (done ++ n ∷ []) ns ≡ items_before done (then_item n ns)
items_before-more [] n ns = refl
items_before-more (m ∷ done) n ns = ap (λ (r : Items). then_item m r) (items_before-more done n ns)

pub items_before-end : (done : List Item) → items_before done no_items ≡ items_of done
items_before-end [] = refl
items_before-end (m ∷ done) = ap (λ (r : Items). then_item m r) (items_before-end done)

pub elements_before-more : (done : List Items) (e : Items) (es : Elements) → elements_before (done ++ e ∷ []) es ≡ elements_before done (then_element e es)
elements_before-more [] e es = refl
elements_before-more (m ∷ done) e es = ap (λ (r : Elements). then_element m r) (elements_before-more done e es)

pub elements_before-end : (done : List Items) → elements_before done no_elements ≡ elements_of done
elements_before-end [] = refl
elements_before-end (m ∷ done) = ap (λ (r : Elements). then_element m r) (elements_before-end done)

-- one node more
pub count_goes : (number spare : ℕ) (d : Dictionary) (bits : List Bool) (bytes : List ℕ) → 0 < spare → node_at number (cursor d bits spare bytes) ≡ Ok (cursor d bits (spare - 1) bytes)
count_goes number zero d bits bytes some = absurd (omega (arith, some))
count_goes number (suc spare) d bits bytes some =
    let less : suc spare - 1 ≡ spare = omega arith in
    rw less refl

-- with no byte more
pub with_none : {R : Type 0} (f g : List ℕ → R) (a b : List ℕ) → ((more : List ℕ) → f (a ++ more) ≡ g (b ++ more)) → f a ≡ g b
with_none f g a b h = ap f (sym (append-nil a)) ∙ h [] ∙ ap g (append-nil b)

-- a map that was judged is judged so whatever follows
pub judge_goes : (level : Level) (bytes more : List ℕ) → judge level 256 overlong_map cause_of_wire R7 bytes ≡ Ok tt → judge level 256 overlong_map cause_of_wire R7 (bytes ++ more) ≡ Ok tt
judge_goes Usual bytes more h = refl
judge_goes Strict bytes more h = judged_on (entity_at 256 bytes) refl h
  where
    judged_on : (r : Result (List ℕ × List ℕ) WireFault) → entity_at 256 bytes ≡ r → verdict overlong_map cause_of_wire R7 r ≡ Ok tt → verdict overlong_map cause_of_wire R7 (entity_at 256 (bytes ++ more)) ≡ Ok tt
    judged_on (Err w) k h = absurd cc
    judged_on (Ok e) k h = rw (entity_goes 256 bytes e.0 e.1 more k) h

-- ---- the end of a segment, by its level

-- a fault in it is the fault of the whole
pub end_passes : (level : Level) (number : ℕ) (s : Stop) → ended_on level number (Err s) ≡ Err s
end_passes Usual number s = refl
end_passes Strict number s = refl

-- what stands in it, and its end
pub closed_on : (level : Level) (number : ℕ) (read : Cursor → Reads Items) (c : Cursor) → closing level number read c ≡ ended_on level number (read c)
closed_on Usual number read c = refl
closed_on Strict number read c = refl

-- where no bit is left that nothing asked for
pub clear_goes : (level : Level) (number : ℕ) (ns : Items) (c : Cursor) → IsLeftClear level c.bits → ended_on level number (Ok (ns, c)) ≡ Ok (ns, c)
clear_goes Usual number ns c clear = refl
clear_goes Strict number ns c clear = rw clear refl

-- and where one is left
pub set_stops : (level : Level) (number : ℕ) (ns : Items) (c : Cursor) → level ≡ Strict → some_set c.bits ≡ true → ended_on level number (Ok (ns, c)) ≡ stopped number c.bytes R8
set_stops Usual number ns c strict left = absurd cc
set_stops Strict number ns c strict left = rw left refl

-- with nothing read before
pub from_none : (r : Reads Items) → (r >>= λ x. Ok (items_before [] x.0, x.1)) ≡ r
from_none (Err s) = refl
from_none (Ok x) = refl

module _ (level : Level) where
  -- ---- the stack

  pub all_around-more : (ws : List Waiting) (w : Waiting) (r : Reads Items) → all_around level (ws ++ w ∷ []) r ≡ all_around level ws (around_on level w r)
  all_around-more [] w r = refl
  all_around-more (v ∷ ws) w r = ap (around_on level v) (all_around-more ws w r)

  -- a fault inside is the fault of the whole
  pub all_around-stops : (ws : List Waiting) (s : Stop) → all_around level ws (Err s) ≡ Err s
  all_around-stops [] s = refl
  all_around-stops (w ∷ ws) s = ap (around_on level w) (all_around-stops ws s) ∙ ap (λ (r : Reads Items). r >>= λ ns. behind_inside level w.inside w.body ns.0 (under_bits w.bits ns.1)) (end_passes level w.number s)

  -- a fault at the end of the innermost segment
  pub end_stops : (ws us : List Waiting) (w : Waiting) (number : ℕ) (r : Reads Items) (s : Stop) → ws ≡ us ++ w ∷ [] → number ≡ w.number → ended_on level number r ≡ Err s
      → all_around level ws r ≡ Err s
  end_stops ws us w number r s h k e =
      ap (λ (vs : List Waiting). all_around level vs r) h
      ∙ all_around-more us w r
      ∙ ap (λ (x : Reads Items). all_around level us (x >>= λ ns. behind_inside level w.inside w.body ns.0 (under_bits w.bits ns.1))) (ap (λ (n : ℕ). ended_on level n r) (sym k) ∙ e)
      ∙ all_around-stops us s

  -- ---- one instruction

  abbrev after_items : List Item → Reads Items → Reads Items
  after_items done r = r >>= λ x. Ok (items_before done x.0, x.1)

  abbrev after_item : Item → Reads Items → Reads Items
  after_item n r = r >>= λ x. Ok (then_item n x.0, x.1)

  abbrev pub items_on : Instructions → List Item → Reads Item → Reads Items
  items_on is done r = r >>= λ n. body_on level (record { rest = is; done = done ++ n.0 ∷ [] }) n.1

  after_both : (done : List Item) (n : Item) (r : Reads Items) → after_items done (after_item n r) ≡ after_items (done ++ n ∷ []) r
  after_both done n (Err s) = refl
  after_both done n (Ok x) = ap (λ (y : Items). Ok (y, x.1)) (sym (items_before-more done n x.0))

  -- its item, and the body behind it
  pub after_piece : (is : Instructions) (done : List Item) (r : Reads Item) → after_items done (r >>= λ n. after_item n.0 (body_at level is n.1)) ≡ items_on is done r
  after_piece is done (Err s) = refl
  after_piece is done (Ok n) = after_both done n.0 (body_at level is n.1)

  -- ---- the end of a segment

  -- the end of a group or an element
  pub end_on : (done : List Item) (w : Waiting) (c : Cursor) → IsLeftClear level c.bits
      → around_on level w (body_on level (record { rest = no_instructions; done = done }) c) ≡ behind_inside level w.inside w.body (items_of done) (under_bits w.bits c)
  end_on done w c clear =
      ap (λ (ns : Items). around_on level w (Ok (ns, c))) (items_before-end done)
      ∙ ap (λ (r : Reads Items). r >>= λ ns. behind_inside level w.inside w.body ns.0 (under_bits w.bits ns.1)) (clear_goes level w.number (items_of done) c clear)

  -- the bits around a segment stand as they were behind it
  abbrev back_under : List Bool → Reads Items → Reads Items
  back_under bits r = r >>= λ x. Ok (x.0, under_bits bits x.1)

  abbrev as_group : Reads Items → Reads Item
  as_group r = r >>= λ ns. Ok (group_items ns.0, ns.1)

  group_around : (is : Instructions) (done : List Item) (bits : List Bool) (r : Reads Items)
      → items_on is done (as_group (back_under bits r)) ≡ (r >>= λ ns. behind_inside level in_group (record { rest = is; done = done }) ns.0 (under_bits bits ns.1))
  group_around is done bits (Err s) = refl
  group_around is done bits (Ok x) = refl

  -- a group that is there: its map, and its members
  pub group_on : (number : ℕ) (members is : Instructions) (done : List Item) (c d : Cursor) → own_map_at level number (has_map members) c ≡ Ok d
      → items_on is done (group_at true (segment_at level number (has_map members) (closing level number (λ j. body_at level members j))) c)
      ≡ around_on level (record { bits = c.bits; number = number; body = record { rest = is; done = done }; inside = in_group }) (body_on level (record { rest = members; done = [] }) d)
  group_on number members is done c d h =
      rw (h, closed_on level number (λ j. body_at level members j) d, from_none (body_at level members d)) (group_around is done c.bits (ended_on level number (body_at level members d)))

  abbrev as_sequence : Reads Elements → Reads Item
  as_sequence r = r >>= λ es. Ok (sequence_elements es.0, es.1)

  abbrev elements_then : List Items → Body → Reads Elements → Reads Items
  elements_then done b r = r >>= λ es. body_on level (with_item b (sequence_elements (elements_before done es.0))) es.1

  sequence_then : (is : Instructions) (done : List Item) (r : Reads Elements) → items_on is done (as_sequence r) ≡ elements_then [] (record { rest = is; done = done }) r
  sequence_then is done (Err s) = refl
  sequence_then is done (Ok es) = refl

  -- a length that is there
  pub length_on : (number : ℕ) (members is : Instructions) (n : ℕ) (done : List Item) (c : Cursor)
      → items_on is done (elements_at number (segment_at level number (has_map members) (closing level number (λ j. body_at level members j))) (Some (U32 n), c))
      ≡ elements_on level (record { number = number; own_map = has_map members; members = members; left = n; done = [] }) (record { rest = is; done = done }) c
  length_on number members is n done c = sequence_then is done (each_at number (segment_at level number (has_map members) (closing level number (λ j. body_at level members j))) n c)

  abbrev after_element : Items → Reads Elements → Reads Elements
  after_element ns r = r >>= λ es. Ok (then_element ns es.0, es.1)

  element_then : (done : List Items) (ns : Items) (b : Body) (r : Reads Elements) → elements_then done b (after_element ns r) ≡ elements_then (done ++ ns ∷ []) b r
  element_then done ns b (Err s) = refl
  element_then done ns b (Ok es) = ap (λ (x : Elements). body_on level (with_item b (sequence_elements x)) es.1) (sym (elements_before-more done ns es.0))

  element_around : (s : Sequel) (b : Body) (bits : List Bool) (r : Reads Items)
      → elements_then s.done b (back_under bits r >>= λ x. after_element x.0 (each_at s.number (segment_at level s.number s.own_map (closing level s.number (λ j. body_at level s.members j))) s.left x.1))
      ≡ (r >>= λ ns. behind_inside level (in_sequence s) b ns.0 (under_bits bits ns.1))
  element_around s b bits (Err f) = refl
  element_around s b bits (Ok x) = element_then s.done x.0 b (each_at s.number (segment_at level s.number s.own_map (closing level s.number (λ j. body_at level s.members j))) s.left (under_bits bits x.1))

  -- one element more: it is counted, has a map of its own, and then its members
  pub element_on : (number : ℕ) (own_map : Bool) (members : Instructions) (left : ℕ) (done : List Items) (b : Body) (c d e : Cursor)
      → node_at number c ≡ Ok d → own_map_at level number own_map d ≡ Ok e
      → elements_on level (record { number = number; own_map = own_map; members = members; left = suc left; done = done }) b c
      ≡ around_on level (record { bits = d.bits; number = number; body = b; inside = in_sequence (record { number = number; own_map = own_map; members = members; left = left; done = done }) })
      (body_on level (record { rest = members; done = [] }) e)
  element_on number own_map members left done b c d e h k =
      let s : Sequel = record { number = number; own_map = own_map; members = members; left = left; done = done } in
      rw (h, k, closed_on level number (λ j. body_at level members j) e, from_none (body_at level members e)) (element_around s b d.bits (ended_on level number (body_at level members e)))

  -- the end of a segment
  pub end_goes : (ws us : List Waiting) (w : Waiting) (b : Body) (c : Cursor) → IsLeftClear level c.bits → ws ≡ us ++ w ∷ [] → b.rest ≡ no_instructions
      → all_around level ws (body_on level b c) ≡ all_around level us (behind_inside level w.inside w.body (items_of b.done) (under_bits w.bits c))
  end_goes ws us w b c clear h k =
      rw (h, ap (λ (is : Instructions). body_on level (record { rest = is; done = b.done }) c) k)
      (all_around-more us w (body_on level (record { rest = no_instructions; done = b.done }) c) ∙ ap (λ (r : Reads Items). all_around level us r) (end_on b.done w c clear))

  -- ---- one piece

  -- a part
  pub part_goes : (p : FieldPart) (d : Dictionary) (bits : List Bool) (spare : ℕ) (bytes rest : List ℕ) (v : Option Scalar)
      → field_at level p (entry_at d p.key) (bit_for (part_needs_bit p) bits) bytes ≡ Ok (v, rest)
      → field_part_at level p (cursor d bits spare bytes) ≡ Ok (v, cursor (written p d v) (after_bit (part_needs_bit p) bits) spare rest)
  unfolding field_part_at
  part_goes p d bits spare bytes rest v h = rw h refl

  pub part_stops : (p : FieldPart) (d : Dictionary) (bits : List Bool) (spare : ℕ) (bytes : List ℕ) (f : FieldFault)
      → field_at level p (entry_at d p.key) (bit_for (part_needs_bit p) bits) bytes ≡ Err f
      → field_part_at level p (cursor d bits spare bytes) ≡ stopped p.number bytes (cause_of_field f)
  unfolding field_part_at
  part_stops p d bits spare bytes f h = rw h refl

  -- where some are left, one is
  pub some_left : (s : Sequel) (b : Body) (c : Cursor) → 0 < s.left
      → elements_on level s b c ≡ elements_on level (record { number = s.number; own_map = s.own_map; members = s.members; left = suc (s.left - 1); done = s.done }) b c
  some_left s b c some =
      let one : s.left ≡ suc (s.left - 1) = omega (arith, some) in
      ap (λ (m : ℕ). elements_on level (record { number = s.number; own_map = s.own_map; members = s.members; left = m; done = s.done }) b c) one

  -- the end of the message's own body
  pub whole_goes : (done : List Item) (c : Cursor) → body_on level (record { rest = no_instructions; done = done }) c ≡ Ok (items_of done, c)
  whole_goes done c = ap (λ (ns : Items). Ok (ns, c)) (items_before-end done)
