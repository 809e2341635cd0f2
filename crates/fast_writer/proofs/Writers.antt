-- What has been received of a message is written, call by call.
use Rattle.fast_writer.proofs.Common.{◌≡◌, ◌<◌, ◌≤◌, ℕ, Bool, true, false, List, [], ◌∷◌, ◌++◌, Option, Some, None, refl, sym, ap, subst, ◌∙◌, append-nil, true≢false, ℤ, is_some, or_parts, append_assoc, Scalar, U32, I64, Decimal, I32, Presence, FieldPart, Instruction, Instructions, Resolved, takes_bit, whole_field, field_in_parts, group_of, sequence_of, no_instructions, then_instruction, is_optional, has_map, part_needs_bit, Dictionary, entry_at, IsMap, IsShortest, IsBest, Item, single, items_of, Content, nodes_in, node_limit, group_items, no_elements, sequence_elements, State, PartBy, PieceBy, written, identifier, members_of, Body, with_item, Sequel, Inside, in_group, in_sequence, Waiting, Next, at_instruction, at_mantissa, at_element, fewer, Received, IsExponent, moved, opened, passed, entered, after_exponent, after_length, in_element, after_sequence, ended_in, content_received, exponent_of, length_of, bytes_in, CanonFrom, CanonMessage, IsShortestMap, Segment, IsEmpty, state, Opening, of_message, IsWritten, with_bytes, IsTop, IsBehind, Chain, Waits, IsOpened, IsFinished, Spelt, Asked, Ended, Closes, bits_for, more_of, elements_before-end}
use Rattle.std.specs.FinMap as finite
use Rattle.fast_writer.proofs.Leavings.{closed, no_bits}
use Rattle.fast_writer.proofs.Writings.{Inner, body_is, chain_on, chain_pop, chain_push, element_waits, ended, front_written, group_waits, level_is, new_segment, part_by, piece_written, with_map}

abbrev message_of : Received → Opening
message_of o = of_message o.template o.members o.start

-- what is innermost goes on, whatever is open around it
on_top : {out : List ℕ} {outer : List Segment} {l k : Segment} {o : Received} {d e : Dictionary} {next after : Next} {b : Body} → o.next ≡ next → ((g : Opening) → IsTop next l o.body d g → IsTop after k b e g)
    → IsOpened out outer l o d → IsOpened out outer k (moved o after b o.around) e
on_top {outer = outer} {l} {k} {o} {d} {e} {next} {after} {b} is f has = record {
  before = has.before;
  inside = chain_on (message_of o) o.around outer (IsTop next l o.body d) (IsTop after k b e) f (rw is at has.inside);
}

-- ---- fields

-- a value that is an item of its own
pub has_spelt : {out : List ℕ} {outer : List Segment} {l k : Segment} {o : Received} {p : FieldPart} {is : Instructions} {d e : Dictionary} {v : Option Scalar} (i : Instruction) (n : Item)
    → o.next ≡ at_instruction → o.body.rest ≡ then_instruction i is → ((s t : State) (x : List ℕ) → PartBy IsBest p s x v t → PieceBy IsBest IsShortestMap i s x n t)
    → (takes_bit i ≡ false → part_needs_bit p ≡ false) → e ≡ written p d v → Spelt p (entry_at d p.key) v l k → IsOpened out outer l o d → IsOpened out outer k (passed o is n) e
has_spelt {l = l} {k} {o} {p} {is} {d} {e} {v} i n next first piece takes entry s = on_top next (λ g w.
    let used = bits_for (part_needs_bit p) s.bit in
    let now = piece_written g l i is o.body.done d (written p d v) used s.form n (body_is g l o.body (then_instruction i is) d first w)
    (λ mid later leaves. piece (state d mid) (state (written p d v) later) s.form (part_by p d v s.bit s.form mid later s.needs s.best leaves)) (λ h. no_bits (part_needs_bit p) s.bit (takes h)) in
    rw entry (level_is g (more_of l used s.form) k (record { rest = is; done = o.body.done ++ n ∷ [] }) (written p d v) (sym s.bits) (sym s.own) (sym s.bytes) now))

pub has_field : {out : List ℕ} {outer : List Segment} {l k : Segment} {o : Received} {name : List ℕ} {number : ℕ} {presence : Presence} {p : FieldPart} {is : Instructions} {d e : Dictionary} {v : Option Scalar}
    → o.next ≡ at_instruction → o.body.rest ≡ then_instruction (whole_field name number presence p) is → e ≡ written p d v → Spelt p (entry_at d p.key) v l k
    → IsOpened out outer l o d → IsOpened out outer k (passed o is (single v)) e
has_field {name = name} {number} {presence} {p} {v = v} next first = has_spelt (whole_field name number presence p) (single v) next first (λ s t x h. h) (λ h. h)

pub is_exponent : (z : Option ℤ) (b : Bool) → is_some z ≡ b → IsExponent b (exponent_of z)
is_exponent None true h = absurd cc
is_exponent None false h = refl
is_exponent (Some e) true h = (e, refl)
is_exponent (Some e) false h = absurd cc

pub has_exponent : {out : List ℕ} {outer : List Segment} {l k : Segment} {o : Received} {name : List ℕ} {number : ℕ} {presence : Presence} {p q : FieldPart} {is : Instructions} {d e : Dictionary} (z : Option ℤ)
    → o.next ≡ at_instruction → o.body.rest ≡ then_instruction (field_in_parts name number presence p q) is → e ≡ written p d (exponent_of z) → Spelt p (entry_at d p.key) (exponent_of z) l k
    → IsOpened out outer l o d → IsOpened out outer k (after_exponent o is q (exponent_of z)) e
has_exponent {name = name} {number} {presence} {p} {q} None next first entry s =
    has_spelt (field_in_parts name number presence p q) (single None) next first (λ s t x h. h) (λ h. (or_parts (part_needs_bit p) (part_needs_bit q) h).0) entry s
has_exponent {l = l} {k} {o} {name} {number} {presence} {p} {q} {is} {d} {e} (Some z) next first entry s = on_top next (λ g w. rw entry (record {
  then = λ bit x m needs best.
      let f = written p d (Some (I32 z)) in
      front_written g l k o.body (field_in_parts name number presence p q) p is d (Some (I32 z)) s (bits_for (part_needs_bit q) bit) x (single (Some (Decimal z m))) (written q f (Some (I64 m))) first
      (λ mid t later part leaves. record { between = state f t; front = s.form; back = x; parts = refl; first = part; second = part_by q f (Some (I64 m)) bit x t later needs best leaves })
      (λ h. let t = or_parts (part_needs_bit p) (part_needs_bit q) h in (t.0, no_bits (part_needs_bit q) bit t.1)) w;
}))

pub has_mantissa : {out : List ℕ} {outer : List Segment} {l k : Segment} {o : Received} {z m : ℤ} {q : FieldPart} {d e : Dictionary}
    → o.next ≡ at_mantissa z q → e ≡ written q d (Some (I64 m)) → Spelt q (entry_at d q.key) (Some (I64 m)) l k
    → IsOpened out outer l o d → IsOpened out outer k (passed o o.body.rest (single (Some (Decimal z m)))) e
has_mantissa {l = l} {k} {o} {z} {m} {q} {d} next entry s = on_top next (λ g w.
    let b = with_item o.body (single (Some (Decimal z m))) in
    rw entry
    (level_is g (more_of l (bits_for (part_needs_bit q) s.bit) s.form) k b (written q d (Some (I64 m))) (sym s.bits) (sym s.own) (sym s.bytes) (w.then s.bit s.form m s.needs s.best)))

pub has_length : {out : List ℕ} {outer : List Segment} {l k : Segment} {o : Received} {name : List ℕ} {number : ℕ} {presence : Presence} {p : FieldPart} {members is : Instructions} {d e : Dictionary} (n : Option ℕ)
    → o.next ≡ at_instruction → o.body.rest ≡ then_instruction (sequence_of name number presence p members) is → e ≡ written p d (length_of n) → Spelt p (entry_at d p.key) (length_of n) l k
    → IsOpened out outer l o d → IsOpened out outer k (after_length o number members is n) e
has_length {name = name} {number} {presence} {p} {members} None next first entry s =
    has_spelt (sequence_of name number presence p members) (single None) next first (λ s t x h. h) (λ h. h) entry s
has_length {l = l} {k} {o} {name} {number} {presence} {p} {members} {is} {d} (Some n) next first entry s = on_top next (λ g w. rw entry (record {
  own = refl;
  then = λ y es h count each.
      rw (append-nil k.bits) at (front_written g l k o.body (sequence_of name number presence p members) p is d (Some (U32 n)) s [] y (sequence_elements es) h first
      (λ mid t later part leaves. record { between = state (written p d (Some (U32 n))) t; front = s.form; back = y; parts = refl; first = rw count part; second = (sym leaves, each) })
      (λ q. (q, refl)) w);
}))

-- ---- segments

pub has_left_out : {out : List ℕ} {outer : List Segment} {l k : Segment} {o : Received} {name : List ℕ} {number : ℕ} {presence : Presence} {members is : Instructions} {d : Dictionary}
    → o.next ≡ at_instruction → o.body.rest ≡ then_instruction (group_of name number presence members) is → is_optional presence ≡ true → Asked true false l k
    → IsOpened out outer l o d → IsOpened out outer k (passed o is (single None)) d
has_left_out {l = l} {k} {o} {name} {number} {presence} {members} {is} {d} next first optional asked = on_top next (λ g w.
    level_is g (more_of l (false ∷ []) []) k (record { rest = is; done = o.body.done ++ single None ∷ [] }) d (sym asked.bits) (sym asked.own) (append-nil l.bytes ∙ sym asked.bytes)
    (piece_written g l (group_of name number presence members) is o.body.done d d (false ∷ []) [] (single None) (body_is g l o.body (then_instruction (group_of name number presence members) is) d first w)
    (λ mid later leaves. rw optional (leaves.0, refl, ap (state d) (sym leaves.1))) (λ h. absurd (true≢false (sym optional ∙ h)))))

-- in a segment that has just begun
has_inner : {out : List ℕ} {outer later : List Segment} {l j : Segment} {o : Received} {d : Dictionary} {next : Next} (k : Segment) (w : Waiting) (members : Instructions)
    → o.next ≡ next → later ≡ outer ++ k ∷ [] → ((g : Opening) → IsTop next l o.body d g → IsEmpty (has_map members) j × Waits g k w members d)
    → IsOpened out outer l o d → IsOpened out later j (moved o at_instruction (record { rest = members; done = [] }) (o.around ++ w ∷ [])) d
has_inner {outer = outer} {l = l} {j} {o} {d} {next} k w members at pushed waits has = rw pushed (record {
  before = has.before;
  inside = chain_push (message_of o) o.around outer w k (IsTop at_instruction j (record { rest = members; done = [] }) d)
      (chain_on (message_of o) o.around outer (IsTop next l o.body d) (Inner k w (IsTop at_instruction j (record { rest = members; done = [] }) d))
      (λ g top. (members, d, (waits g top).1, new_segment members d j (waits g top).0)) (rw at at has.inside));
})

pub has_entered : {out : List ℕ} {outer later : List Segment} {l k j : Segment} {o : Received} {name : List ℕ} {number : ℕ} {presence : Presence} {members is : Instructions} {d : Dictionary} {optional : Bool} (bits : List Bool)
    → o.next ≡ at_instruction → o.body.rest ≡ then_instruction (group_of name number presence members) is → optional ≡ is_optional presence → Asked optional true l k
    → later ≡ outer ++ k ∷ [] → IsEmpty (has_map members) j
    → IsOpened out outer l o d → IsOpened out later j (entered o number bits members is) d
has_entered {l = l} {k} {o = o} {name} {number} {presence} {members} {is} {d} bits next first is_it asked pushed empty =
    let w : Waiting = record { bits = bits; number = number; body = record { rest = is; done = o.body.done }; inside = in_group } in
    let bit = rw is_it at asked in
    has_inner k w members next pushed (λ g top. (
      empty,
      λ y ns e segment.
          level_is g (with_bytes (more_of l (bits_for (is_optional presence) true) []) y) (with_bytes k y) (with_item w.body (group_items ns)) e
          (sym bit.bits) (sym bit.own) (ap (λ (t : List ℕ). t ++ y) (append-nil l.bytes ∙ sym bit.bytes))
          (group_waits g l name number presence members is o.body.done bits d (body_is g l o.body (then_instruction (group_of name number presence members) is) d first top) y ns e segment),
    ))

pub has_element : {out : List ℕ} {outer later : List Segment} {l j : Segment} {o : Received} {s : Sequel} {d : Dictionary} {own : Bool} (bits : List Bool)
    → o.next ≡ at_element s → own ≡ s.own_map → 0 < s.left → later ≡ outer ++ l ∷ [] → IsEmpty own j
    → IsOpened out outer l o d → IsOpened out later j (in_element o bits s) d
has_element {l = l} {o = o} {s} {d} bits next is some pushed empty has =
    has_inner l (record { bits = bits; number = s.number; body = o.body; inside = in_sequence (fewer s) }) s.members next pushed
    (λ g top. (rw (is, top.own) at empty, element_waits g l o.body s d bits some top)) has

-- the segment around has what ended
ends_in : {out : List ℕ} {later : List Segment} {next : Segment} {d : Dictionary} (o : Received) (inside : Inside) (ws : List Waiting) (w : Waiting)
    → IsFinished out o.set o.before o.start → Chain (message_of o) ws later (λ h. IsBehind inside h next w.body (items_of o.body.done) d) → IsOpened out later next (ended_in o ws w.body inside) d
ends_in o in_group ws w before c = record { before = before; inside = c }
ends_in o (in_sequence s) ws w before c = record { before = before; inside = c }

pub has_ended : {out : List ℕ} {outer later : List Segment} {l k : Segment} {o : Received} {d : Dictionary} {inside : Inside} (ws : List Waiting) (w : Waiting)
    → o.next ≡ at_instruction → o.body.rest ≡ no_instructions → o.around ≡ ws ++ w ∷ [] → w.inside ≡ inside → Closes outer l later k
    → IsOpened out outer l o d → IsOpened out later k (ended_in o ws w.body inside) d
has_ended {outer = outer} {later} {l} {k} {o} {d} {inside} ws w next rest is inside_is closes has =
    let x = closes.ended.map in
    let m = with_bytes closes.around (x ++ l.bytes) in
    let Left : Inside → Opening → Type 0 = λ n h. IsBehind n h m w.body (items_of o.body.done) d in
    let still = subst (λ (ls : List Segment). Chain (message_of o) o.around ls (IsTop at_instruction l o.body d)) closes.outer_is (rw next at has.inside) in
    let left = chain_on (message_of o) ws later (Inner closes.around w (IsTop at_instruction l o.body d)) (Left w.inside) (λ h t. t.2 (x ++ l.bytes) (items_of o.body.done) d
    (with_map (has_map t.0) t.0 t.1 d l o.body x refl rest (λ own. closes.ended.shortest (t.3.own ∙ own)) (λ own. closes.ended.none (t.3.own ∙ own)) t.3))
    (chain_pop (message_of o) ws later w closes.around (IsTop at_instruction l o.body d) (rw is at still)) in
    rw (closes.next_is, closes.ended.bytes)
    (ends_in {next = m} o inside ws w has.before (subst (λ (n : Inside). Chain (message_of o) ws later (Left n)) inside_is left))

pub has_elements : {out : List ℕ} {outer : List Segment} {l : Segment} {o : Received} {d : Dictionary} {s : Sequel} → o.next ≡ at_element s → s.left ≡ 0
    → IsOpened out outer l o d → IsOpened out outer l (after_sequence o s) d
has_elements {l = l} {s = s} next none = on_top next (λ g w.
    rw (append-nil l.bytes, elements_before-end s.done) at (w.then [] no_elements _ (sym none) (refl, refl)))

-- ---- messages

pub has_opened : {out : List ℕ} {outer : List Segment} {l k : Segment} {set : List Resolved} {ms : List Content} {id : ℕ} {members : Instructions} {d e : Dictionary}
    → outer ≡ [] → IsEmpty true l → e ≡ written identifier d (Some (U32 id)) → Spelt identifier (entry_at d identifier.key) (Some (U32 id)) l k
    → IsFinished out set ms d → IsOpened out outer k (opened set ms id members d) e
has_opened {id = id} {d = d} {e} none empty entry s before = rw (none) (record {
  before = before;
  inside = record {
    so_far = λ all later more ns after leaves body. record {
      between = state e later;
      front = s.form;
      back = more;
      parts = ap (λ (t : List ℕ). t ++ more) (s.bytes ∙ ap (λ (t : List ℕ). t ++ s.form) empty.bytes);
      first = rw (entry) (part_by identifier d (Some (U32 id)) s.bit s.form all later s.needs s.best (rw (s.bits, empty.bits) at leaves));
      second = body;
    };
    own = s.own ∙ empty.own_is;
    asked = λ h. absurd (true≢false h);
    none = λ h. absurd (true≢false h);
  };
})

pub canon_more : (set : List Resolved) (ms : List Content) (m : Content) (a : Dictionary) (front x : List ℕ) (mid after : Dictionary)
    → CanonFrom set a front ms mid → CanonMessage set mid x m after → CanonFrom set a (front ++ x) (ms ++ m ∷ []) after
canon_more set [] m a front x mid after h form = record {
  between = after;
  front = x;
  back = [];
  parts = ap (λ (y : List ℕ). y ++ x) h.0 ∙ sym (append-nil x);
  first = subst (λ (e : Dictionary). CanonMessage set e x m after) h.1 form;
  second = (refl, refl);
}
canon_more set (n ∷ ms) m a front x mid after h form = record {
  between = h.between;
  front = h.front;
  back = h.back ++ x;
  parts = ap (λ (y : List ℕ). y ++ x) h.parts ∙ append_assoc h.front h.back x;
  first = h.first;
  second = canon_more set ms m h.between h.back x mid after h.second form;
}

finished_more : (set : List Resolved) (ms : List Content) (m : Content) (out x : List ℕ) (mid after : Dictionary)
    → IsFinished out set ms mid → CanonMessage set mid x m after → IsFinished (out ++ x) set (ms ++ m ∷ []) after
finished_more set [] m out x mid after h form = absurd h
finished_more set (n ∷ ms) m out x mid after h form =
    rw (sym (append_assoc (bytes_in n.items) out x)) (canon_more set ms m finite.empty (bytes_in n.items ++ out) x mid after h form)

alone : (g : Opening) (ws : List Waiting) (ls : List Segment) (I : Opening → Type 0) → ws ≡ [] → Chain g ws ls I → I g
alone g [] [] I h c = c
alone g [] (l ∷ ls) I h c = absurd c
alone g (w ∷ ws) ls I h c = absurd cc

message_form : (set : List Resolved) (id : ℕ) (members : Instructions) (start d : Dictionary) (l : Segment) (o : Received) (x : List ℕ)
    → o.body.rest ≡ no_instructions → members_of set id ≡ Some members → nodes_in (items_of o.body.done) ≤ node_limit
    → IsShortest IsMap x l.bits → IsWritten (of_message id members start) l o.body d
    → CanonMessage set start (x ++ l.bytes) (record { template = id; items = items_of o.body.done }) d
message_form set id members start d l o x rest known few shortest w =
    let c = closed l.bits x shortest in
    record {
      few = few;
      segment = record {
        bits = c.bits;
        left = c.left;
        map = x;
        body = l.bytes;
        parts = refl;
        map_form = c.map;
        inside = rw (known) (ended (of_message id members start) l o.body d c.bits c.left rest c.leaves w);
      };
    }

pub has_finished : {outer : List Segment} {l : Segment} {o : Received} {d : Dictionary} {out new : List ℕ}
    → o.next ≡ at_instruction → o.body.rest ≡ no_instructions → o.around ≡ [] → members_of o.set o.template ≡ Some o.members → nodes_in (items_of o.body.done) ≤ node_limit
    → Ended l out new → IsOpened out outer l o d → IsFinished new o.set (o.before ++ content_received o ∷ []) d
has_finished {outer} {l} {o} {d} {out} next rest none known few end has =
    let w : IsWritten (message_of o) l o.body d = alone (message_of o) o.around outer (IsTop at_instruction l o.body d) none (rw next at has.inside) in
    rw (end.bytes)
    (finished_more o.set o.before (content_received o) out (end.map ++ l.bytes) o.start d has.before
    (message_form o.set o.template o.members o.start d l o end.map rest known few (end.shortest w.own) w))
