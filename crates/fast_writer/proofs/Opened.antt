-- What has been received of a message is written in a draft, call by call.
use Rattle.fast_writer.proofs.Common.{◌≡◌, ◌<◌, ◌≤◌, ℕ, Bool, true, false, List, [], ◌∷◌, ◌++◌, Option, Some, None, refl, sym, ap, append-nil, ◌∙◌, true≢false, true_from_ne_false, ℤ, or_parts, Scalar, U32, I64, Presence, FieldPart, Instruction, Instructions, Resolved, takes_bit, whole_field, field_in_parts, group_of, sequence_of, no_instructions, then_instruction, is_optional, has_map, part_needs_bit, Dictionary, entry_at, Content, nodes_in, node_limit, items_of, written, identifier, members_of, Body, Sequel, Inside, Waiting, at_instruction, at_mantissa, at_element, Received, opened, passed, entered, after_exponent, after_length, after_sequence, in_element, ended_in, content_received, exponent_of, length_of, single, Decimal, Segment, Opening, IsWritten, Chain, IsOpened, IsFinished, Closes, bits_for, more_of, with_bytes, of_message}
use Rattle.fast_walk.specs.Awaited.{IsMapped}
use Rattle.fast_draft.specs.Segments.{EndsBehind, EndsIn, Segment as Drafted, fresh}
use Rattle.fast_writer.specs.Drafts.{IsDrafted, IsOpenIn, Marked, SpeltIn}
use Rattle.fast_writer.specs.Written.{WaitsMantissa, of_segment}
use Rattle.fast_writer.proofs.Drafting.{begun, ends, marks, popped, pushed, spelt_by, spelt_on}
use Rattle.fast_writer.proofs.Writers.{has_element, has_elements, has_ended, has_entered, has_exponent, has_field, has_finished, has_left_out, has_length, has_mantissa, has_opened}

-- ---- a segment that is asked for a bit has a map of its own

chain_inner : (g : Opening) (ws : List Waiting) (ls : List Segment) {I : Opening → Type 0} → Chain g ws ls I → (h : Opening) × I h
chain_inner g [] [] c = (g, c)
chain_inner g (w ∷ ws) (l ∷ ls) c = chain_inner (of_segment c.0 c.1) ws ls c.3
chain_inner g [] (l ∷ ls) c = absurd c
chain_inner g (w ∷ ws) [] c = absurd c

written_own : (g : Opening) (l : Segment) (b : Body) (i : Instruction) (is : Instructions) (d : Dictionary) → b.rest ≡ then_instruction i is → takes_bit i ≡ true → IsWritten g l b d → l.own ≡ true
written_own g l b i is d first takes w = true_from_ne_false l.own (λ none.
    let bare = w.asked (sym w.own ∙ none) in
    true≢false (sym takes ∙ (or_parts (takes_bit i) (has_map is) (rw first at bare)).0))

pub opened_own : {out : List ℕ} {outer : List Segment} {l : Segment} {o : Received} {d : Dictionary} {i : Instruction} {is : Instructions} → o.next ≡ at_instruction → o.body.rest ≡ then_instruction i is → takes_bit i ≡ true
    → IsOpened out outer l o d → l.own ≡ true
opened_own {outer = outer} {l} {o} {d} {i} {is} next first takes h =
    let c = chain_inner (of_message o.template o.members o.start) o.around outer (rw next at h.inside) in
    written_own c.0 l o.body i is d first takes c.1

some_bits : (xs : List Bool) (b : Bool) → xs ++ b ∷ [] ≡ [] → ⊥
some_bits [] b h = cc
some_bits (x ∷ xs) b h = cc

waits_own : (g : Opening) (l : Segment) (b : Body) (z m : ℤ) (q : FieldPart) (d : Dictionary) {s t : Drafted} → SpeltIn q (entry_at d q.key) (Some (I64 m)) s t → part_needs_bit q ≡ true → WaitsMantissa g l b z q d → l.own ≡ true
waits_own g l b z m q d x needs w = true_from_ne_false l.own (λ none.
    let behind = w.then x.bit x.form m x.needs x.best in
    some_bits l.bits x.bit (rw needs at behind.none (sym behind.own ∙ none)))

mantissa_own : {out : List ℕ} {outer : List Segment} {l : Segment} {o : Received} {d : Dictionary} {q : FieldPart} {z m : ℤ} {s t : Drafted} → SpeltIn q (entry_at d q.key) (Some (I64 m)) s t → o.next ≡ at_mantissa z q
    → IsOpened out outer l o d → part_needs_bit q ≡ true → l.own ≡ true
mantissa_own {outer = outer} {l} {o} {d} {q} {z} {m} x next h needs =
    let c = chain_inner (of_message o.template o.members o.start) o.around outer (rw next at h.inside) in
    waits_own c.0 l o.body z m q d x needs c.1

-- ---- fields

module _ {out : List ℕ} {around : List Drafted} {s t : Drafted} {o : Received} {d e : Dictionary} where
  pub drafts_field : {name : List ℕ} {number : ℕ} {presence : Presence} {p : FieldPart} {is : Instructions} {v : Option Scalar}
      → o.next ≡ at_instruction → o.body.rest ≡ then_instruction (whole_field name number presence p) is → e ≡ written p d v → SpeltIn p (entry_at d p.key) v s t
      → IsOpenIn out around s o d → IsOpenIn out around t (passed o is (single v)) e
  drafts_field next first entry x = spelt_on x (λ outer l h needs. opened_own next first needs h) (λ outer l k spelt h. has_field next first entry spelt h)

  pub drafts_exponent : {name : List ℕ} {number : ℕ} {presence : Presence} {p q : FieldPart} {is : Instructions} (z : Option ℤ)
      → o.next ≡ at_instruction → o.body.rest ≡ then_instruction (field_in_parts name number presence p q) is → e ≡ written p d (exponent_of z) → SpeltIn p (entry_at d p.key) (exponent_of z) s t
      → IsOpenIn out around s o d → IsOpenIn out around t (after_exponent o is q (exponent_of z)) e
  drafts_exponent z next first entry x = spelt_on x (λ outer l h needs. opened_own next first (rw needs refl) h) (λ outer l k spelt h. has_exponent z next first entry spelt h)

  pub drafts_mantissa : {q : FieldPart} {z m : ℤ} → o.next ≡ at_mantissa z q → e ≡ written q d (Some (I64 m)) → SpeltIn q (entry_at d q.key) (Some (I64 m)) s t
      → IsOpenIn out around s o d → IsOpenIn out around t (passed o o.body.rest (single (Some (Decimal z m)))) e
  drafts_mantissa next entry x = spelt_on x (λ outer l h needs. mantissa_own x next h needs) (λ outer l k spelt h. has_mantissa next entry spelt h)

  pub drafts_length : {name : List ℕ} {number : ℕ} {presence : Presence} {p : FieldPart} {members is : Instructions} (n : Option ℕ)
      → o.next ≡ at_instruction → o.body.rest ≡ then_instruction (sequence_of name number presence p members) is → e ≡ written p d (length_of n) → SpeltIn p (entry_at d p.key) (length_of n) s t
      → IsOpenIn out around s o d → IsOpenIn out around t (after_length o number members is n) e
  drafts_length n next first entry x = spelt_on x (λ outer l h needs. opened_own next first needs h) (λ outer l k spelt h. has_length n next first entry spelt h)

-- ---- segments

module _ {out : List ℕ} {around : List Drafted} {s t : Drafted} {o : Received} {d : Dictionary} where
  pub drafts_left_out : {name : List ℕ} {number : ℕ} {presence : Presence} {members is : Instructions}
      → o.next ≡ at_instruction → o.body.rest ≡ then_instruction (group_of name number presence members) is → is_optional presence ≡ true → Marked true false s t → t.bytes ≡ s.bytes
      → IsOpenIn out around s o d → IsOpenIn out around t (passed o is (single None)) d
  drafts_left_out next first optional marked bytes h =
      let l = h.segment in record {
        outer = h.outer;
        segment = more_of l (false ∷ []) [];
        around_drafted = h.around_drafted;
        drafted = marks [] marked (bytes ∙ sym (append-nil s.bytes)) (λ needs. opened_own next first optional h.opened) h.drafted;
        opened = has_left_out next first optional (record { bits = refl; own = refl; bytes = append-nil l.bytes }) h.opened;
      }

  pub drafts_entered : {name : List ℕ} {number : ℕ} {presence : Presence} {members is : Instructions} {optional : Bool} {map : List ℕ} (bits : List Bool)
      → o.next ≡ at_instruction → o.body.rest ≡ then_instruction (group_of name number presence members) is → optional ≡ is_optional presence → Marked optional true s t → t.bytes ≡ s.bytes → IsMapped (has_map members) map
      → IsOpenIn out around s o d → IsOpenIn out (around ++ t ∷ []) (fresh map) (entered o number bits members is) d
  drafts_entered {members = members} {optional = optional} {map = map} bits next first is_it marked bytes mapped h =
      let l = h.segment in
      let k = more_of l (bits_for optional true) [] in record {
        outer = h.outer ++ k ∷ [];
        segment = record { bits = []; own = has_map members; bytes = [] };
        around_drafted = pushed around h.outer h.around_drafted (marks [] marked (bytes ∙ sym (append-nil s.bytes)) (λ needs. opened_own next first (sym is_it ∙ needs) h.opened) h.drafted);
        drafted = begun (has_map members) map mapped;
        opened = has_entered bits next first is_it (record { bits = refl; own = refl; bytes = append-nil l.bytes }) refl (record { bits = refl; own_is = refl; bytes = refl }) h.opened;
      }

module _ {out : List ℕ} {around : List Drafted} {s : Drafted} {o : Received} {d : Dictionary} where
  pub drafts_element : {q : Sequel} {map : List ℕ} (bits : List Bool) → o.next ≡ at_element q → 0 < q.left → IsMapped q.own_map map
      → IsOpenIn out around s o d → IsOpenIn out (around ++ s ∷ []) (fresh map) (in_element o bits q) d
  drafts_element {q = q} {map = map} bits next some mapped h = record {
    outer = h.outer ++ h.segment ∷ [];
    segment = record { bits = []; own = q.own_map; bytes = [] };
    around_drafted = pushed around h.outer h.around_drafted h.drafted;
    drafted = begun q.own_map map mapped;
    opened = has_element bits next refl some refl (record { bits = refl; own_is = refl; bytes = refl }) h.opened;
  }

  pub drafts_elements : {q : Sequel} → o.next ≡ at_element q → q.left ≡ 0 → IsOpenIn out around s o d → IsOpenIn out around s (after_sequence o q) d
  drafts_elements next none h = record { outer = h.outer; segment = h.segment; around_drafted = h.around_drafted; drafted = h.drafted; opened = has_elements next none h.opened }

module _ {out : List ℕ} {around : List Drafted} {s t : Drafted} {o : Received} {d : Dictionary} where
  -- the innermost has ended in the last around it
  pub drafts_ended : {fore : List Drafted} {last : Drafted} {inside : Inside} (ws : List Waiting) (w : Waiting)
      → o.next ≡ at_instruction → o.body.rest ≡ no_instructions → o.around ≡ ws ++ w ∷ [] → w.inside ≡ inside → around ≡ fore ++ last ∷ [] → EndsIn last s t
      → IsOpenIn out around s o d → IsOpenIn out fore t (ended_in o ws w.body inside) d
  drafts_ended {fore} {last} ws w next rest is inside_is all_is ended h =
      let p = popped fore last h.outer (rw all_is at h.around_drafted) in
      let l = h.segment in
      let k = with_bytes p.last (ended.map ++ s.bytes) in
      let closes : Closes h.outer l p.fore k = record {
        around = p.last;
        bytes = p.last.bytes ++ (ended.map ++ s.bytes);
        outer_is = p.all_is;
        next_is = refl;
        ended = ends {old = p.last.bytes} ended.ends refl h.drafted;
      } in record {
        outer = p.fore;
        segment = k;
        around_drafted = p.around;
        drafted = rw (ended.is) (record {
          stands = p.drafted.stands;
          bytes = ap (λ (x : List ℕ). x ++ (ended.map ++ s.bytes)) p.drafted.bytes;
        });
        opened = has_ended ws w next rest is inside_is closes h.opened;
      }

-- ---- messages

module _ {out : List ℕ} {around : List Drafted} {s : Drafted} {o : Received} {d : Dictionary} where
  pub drafts_finished : {new : List ℕ} → o.next ≡ at_instruction → o.body.rest ≡ no_instructions → o.around ≡ [] → members_of o.set o.template ≡ Some o.members → nodes_in (items_of o.body.done) ≤ node_limit
      → EndsBehind s out new → IsOpenIn out around s o d → IsFinished new o.set (o.before ++ content_received o ∷ []) d
  drafts_finished next rest none known few ended h = has_finished next rest none known few (ends ended.ends ended.out h.drafted) h.opened

pub drafts_opened : {out : List ℕ} {around : List Drafted} {s t : Drafted} {set : List Resolved} {ms : List Content} {id : ℕ} {members : Instructions} {d e : Dictionary}
    → around ≡ [] → IsDrafted s (record { bits = []; own = true; bytes = [] }) → e ≡ written identifier d (Some (U32 id)) → SpeltIn identifier (entry_at d identifier.key) (Some (U32 id)) s t
    → IsFinished out set ms d → IsOpenIn out around t (opened set ms id members d) e
drafts_opened none fresh entry x before = rw none (record {
  outer = [];
  segment = more_of (record { bits = []; own = true; bytes = [] }) (bits_for (part_needs_bit identifier) x.bit) x.form;
  around_drafted = tt;
  drafted = marks x.form x.marked x.bytes (λ needs. refl) fresh;
  opened = has_opened refl (record { bits = refl; own_is = refl; bytes = refl }) entry (spelt_by x (record { bits = []; own = true; bytes = [] })) before;
})
