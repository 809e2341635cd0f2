-- What is written stays so, piece by piece.
use Rattle.fast_writer.proofs.Common.{◌≡◌, ◌<◌, ℕ, Bool, true, false, List, [], ◌∷◌, ◌++◌, Option, refl, sym, ap, subst, ◌∙◌, append-nil, arith, or_parts, append_assoc, Scalar, Presence, FieldPart, Instruction, Instructions, group_of, no_instructions, then_instruction, part_needs_bit, is_optional, takes_bit, has_map, Dictionary, entry_at, IsMap, IsShortest, IsBest, Item, group_items, no_items, then_item, items_of, then_element, SegmentBy, PartBy, PieceBy, written, Body, Sequel, in_group, in_sequence, Waiting, fewer, items_before-more, items_before-end, elements_before-more, CanonBody, IsShortestMap}
use Rattle.fast_writer.specs.Written.{Segment, IsEmpty, state, bits_for, Leaves, Opening, of_segment, Whole, IsWritten, more_of, WaitsElements, Waits, Chain, Spelt}
use Rattle.fast_writer.proofs.Leavings.{leaves_split, bit_of, behind_of, no_bits, closed}

-- ---- one item more

pub piece_written : (g : Opening) (l : Segment) (i : Instruction) (is : Instructions) (done : List Item) (d e : Dictionary) (used : List Bool) (x : List ℕ) (n : Item)
    → IsWritten g l (record { rest = then_instruction i is; done = done }) d
    → ((mid later : List Bool) → Leaves used mid later → PieceBy IsBest IsShortestMap i (state d mid) x n (state e later))
    → (takes_bit i ≡ false → used ≡ [])
    → IsWritten g (more_of l used x) (record { rest = is; done = done ++ n ∷ [] }) e
piece_written g l i is done d e used x n w piece none = record {
  so_far = λ all later more ns after leaves body.
      let s = leaves_split l.bits used all later leaves in
      rw (append_assoc l.bytes x more, items_before-more done n ns)
      (w.so_far all s.0 (x ++ more) (then_item n ns) after s.1 (record { between = state e later; front = x; back = more; parts = refl; first = piece s.0 later s.2; second = body }));
  own = w.own;
  asked = λ h. (or_parts (takes_bit i) (has_map is) (w.asked h)).1;
  none = λ h. rw (w.none h, none ((or_parts (takes_bit i) (has_map is) (w.asked h)).0)) refl;
}

pub part_by : (p : FieldPart) (d : Dictionary) (v : Option Scalar) (bit : Bool) (x : List ℕ) (mid later : List Bool) → (part_needs_bit p ≡ false → bit ≡ true)
    → IsBest p (entry_at d p.key) bit x v → Leaves (bits_for (part_needs_bit p) bit) mid later → PartBy IsBest p (state d mid) x v (state (written p d v) later)
part_by p d v bit x mid later needs best leaves =
    rw (bit_of (part_needs_bit p) bit mid later needs leaves, behind_of (part_needs_bit p) bit mid later leaves) (best, refl)

-- the same of a segment that is told by its fields
made : (b c : List Bool) (o p : Bool) (x y : List ℕ) → b ≡ c → o ≡ p → x ≡ y → ◌≡◌ {A = Segment} (record { bits = b; own = o; bytes = x }) (record { bits = c; own = p; bytes = y })
made b c o p x y bits own bytes = rw (bits, own, bytes) refl

pub level_is : (g : Opening) (l k : Segment) (b : Body) (d : Dictionary) → l.bits ≡ k.bits → l.own ≡ k.own → l.bytes ≡ k.bytes → IsWritten g l b d → IsWritten g k b d
level_is g l k b d bits own bytes w = subst (λ (m : Segment). IsWritten g m b d) (made l.bits k.bits l.own k.own l.bytes k.bytes bits own bytes) w

pub body_is : (g : Opening) (l : Segment) (b : Body) (is : Instructions) (d : Dictionary) → b.rest ≡ is → IsWritten g l b d → IsWritten g l (record { rest = is; done = b.done }) d
body_is g l b is d h w = rw (sym h) w

-- ---- the segments around

pub chain_on : (g : Opening) (ws : List Waiting) (ls : List Segment) (I J : Opening → Type 0)
    → ((h : Opening) → I h → J h) → Chain g ws ls I → Chain g ws ls J
chain_on g [] [] I J f c = f g c
chain_on g (w ∷ ws) (l ∷ ls) I J f c = (c.0, c.1, c.2, chain_on (of_segment c.0 c.1) ws ls I J f c.3)
chain_on g ws ls I J f c = absurd c

abbrev pub Inner : Segment → Waiting → (Opening → Type 0) → Opening → Type 0
Inner l w J g = (members : Instructions) × (d : Dictionary) × Waits g l w members d × J (of_segment members d)

pub chain_push : (g : Opening) (ws : List Waiting) (ls : List Segment) (w : Waiting) (l : Segment) (J : Opening → Type 0)
    → Chain g ws ls (Inner l w J) → Chain g (ws ++ w ∷ []) (ls ++ l ∷ []) J
chain_push g [] [] w l J c = c
chain_push g (v ∷ ws) (k ∷ ls) w l J c = (c.0, c.1, c.2, chain_push (of_segment c.0 c.1) ws ls w l J c.3)
chain_push g ws ls w l J c = absurd c

pub chain_pop : (g : Opening) (ws : List Waiting) (ls : List Segment) (w : Waiting) (l : Segment) (J : Opening → Type 0)
    → Chain g (ws ++ w ∷ []) (ls ++ l ∷ []) J → Chain g ws ls (Inner l w J)
chain_pop g [] [] w l J c = c
chain_pop g (v ∷ ws) (k ∷ ls) w l J c = (c.0, c.1, c.2, chain_pop (of_segment c.0 c.1) ws ls w l J c.3)
chain_pop g [] (k ∷ []) w l J c = absurd c.3
chain_pop g [] (k ∷ h ∷ ls) w l J c = absurd c.3
chain_pop g (v ∷ []) [] w l J c = absurd c.3
chain_pop g (v ∷ u ∷ ws) [] w l J c = absurd c.3

-- ---- fields

-- a part in front of the rest of its piece
pub front_written : (g : Opening) (l k : Segment) (b : Body) (i : Instruction) (p : FieldPart) (is : Instructions) (d : Dictionary) (v : Option Scalar) (s : Spelt p (entry_at d p.key) v l k) (more : List Bool) (y : List ℕ) (n : Item) (h : Dictionary)
    → b.rest ≡ then_instruction i is
    → ((mid t later : List Bool) → PartBy IsBest p (state d mid) s.form v (state (written p d v) t) → Leaves more t later → PieceBy IsBest IsShortestMap i (state d mid) (s.form ++ y) n (state h later))
    → (takes_bit i ≡ false → (part_needs_bit p ≡ false) × (more ≡ [])) → IsWritten g l b d → IsWritten g (more_of k more y) (record { rest = is; done = b.done ++ n ∷ [] }) h
front_written g l k b i p is d v s more y n h first piece none w =
    let used = bits_for (part_needs_bit p) s.bit in
    level_is g (more_of l (used ++ more) (s.form ++ y)) (more_of k more y) (record { rest = is; done = b.done ++ n ∷ [] }) h
    (sym (append_assoc l.bits used more) ∙ ap (λ (t : List Bool). t ++ more) (sym s.bits)) (sym s.own) (sym (append_assoc l.bytes s.form y) ∙ ap (λ (t : List ℕ). t ++ y) (sym s.bytes))
    (piece_written g l i is b.done d h (used ++ more) (s.form ++ y) n (body_is g l b (then_instruction i is) d first w)
    (λ mid later leaves.
    let t = leaves_split used more mid later leaves in
    piece mid t.0 later (part_by p d v s.bit s.form mid t.0 s.needs s.best t.1) t.2)
    (λ q. let t = none q in rw (no_bits (part_needs_bit p) s.bit t.0, t.1) refl))

-- ---- groups

pub group_waits : (g : Opening) (l : Segment) (name : List ℕ) (number : ℕ) (presence : Presence) (inner is : Instructions) (done : List Item) (bits : List Bool) (d : Dictionary)
    → IsWritten g l (record { rest = then_instruction (group_of name number presence inner) is; done = done }) d
    → Waits g (more_of l (bits_for (is_optional presence) true) []) (record { bits = bits; number = number; body = record { rest = is; done = done }; inside = in_group }) inner d
group_waits g l name number presence inner is done bits d w y ns e segment =
    rw (append-nil l.bytes)
    (piece_written g l (group_of name number presence inner) is done d e (bits_for (is_optional presence) true) y (group_items ns) w
    (λ mid later leaves. (bit_of (is_optional presence) true mid later (λ h. refl) leaves, sym (behind_of (is_optional presence) true mid later leaves), segment))
    (no_bits (is_optional presence) true))

pub new_segment : (inner : Instructions) (d : Dictionary) (l : Segment) → IsEmpty (has_map inner) l → IsWritten (of_segment inner d) l (record { rest = inner; done = [] }) d
new_segment inner d l empty = record {
  so_far = λ all later more ns after leaves body.
      let same : all ≡ later = rw (empty.bits) at leaves in
      rw (empty.bytes, same) body;
  own = empty.own_is;
  asked = λ h. h;
  none = λ h. empty.bits;
}

-- ---- the end of a segment

-- what is written of a segment, behind its map
pub ended : (g : Opening) (l : Segment) (b : Body) (d : Dictionary) (all left : List Bool) → b.rest ≡ no_instructions → Leaves l.bits all left → IsWritten g l b d
    → Whole g all l.bytes (items_of b.done) (state d left)
ended g l b d all left rest leaves w =
    let whole = (body_is g l b no_instructions d rest w).so_far all left [] no_items (state d left) leaves (refl, refl) in
    rw (append-nil l.bytes, items_before-end b.done) at whole

pub with_map : (has : Bool) (inner : Instructions) (s d : Dictionary) (l : Segment) (b : Body) (x : List ℕ) → has ≡ has_map inner → b.rest ≡ no_instructions
    → (has ≡ true → IsShortest IsMap x l.bits) → (has ≡ false → x ≡ []) → IsWritten (of_segment inner s) l b d
    → SegmentBy IsShortestMap has (λ t z u. CanonBody inner t z (items_of b.done) u) s (x ++ l.bytes) d
with_map true inner s d l b x is rest shortest none w =
    let c = closed l.bits x (shortest refl) in
    record { bits = c.bits; left = c.left; map = x; body = l.bytes; parts = refl; map_form = c.map; inside = ended (of_segment inner s) l b d c.bits c.left rest c.leaves w }
with_map false inner s d l b x is rest shortest none w =
    rw (none refl) (ended (of_segment inner s) l b d [] [] rest (rw (w.none (sym is)) refl) w)

-- ---- sequences

-- in an element
pub element_waits : (g : Opening) (l : Segment) (b : Body) (s : Sequel) (d : Dictionary) (bits : List Bool) → 0 < s.left → WaitsElements g l b s d
    → Waits g l (record { bits = bits; number = s.number; body = b; inside = in_sequence (fewer s) }) s.members d
element_waits g l b s d bits some h y ns e one = record {
  own = h.own;
  then = λ z es f count each.
      rw (append_assoc l.bytes y z, elements_before-more s.done ns es)
      (h.then (y ++ z) (then_element ns es) f (omega (arith, count, some)) (record { between = e; front = y; back = z; parts = refl; first = one; second = each }));
}
