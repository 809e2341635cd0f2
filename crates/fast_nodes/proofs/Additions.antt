-- What is added one behind the other is added at once.
use Rattle.fast_nodes.proofs.Common.{◌≡◌, ℕ, Bool, true, false, List, [], ◌∷◌, ◌++◌, length, Option, Some, None, Ok, Err, inl, inr, arith, refl, sym, ap, ◌∙◌, append-nil, not, append_assoc, Usual, Scalar, U32, Presence, FieldPart, Instructions, group_of, sequence_of, no_instructions, part_needs_bit, is_optional, has_map, Dictionary, entry_at, IsMap, IsShortest, IsBest, NoLater, uncut, left_out_of, left_out, can_be_left_out, Form, Entry, single, group_items, sequence_elements, Items, no_items, Elements, no_elements, then_element, element_count, Content, written, MapAt, bits_taken_are, no_bits_are_taken, body_weaker, Adds, AddsBytes, IsPartPut, IsSealed, NotSealed, Piece, Refuses, both, each_of, in_segment, of_item, of_items, of_message, of_part, segment_of, CanonBody, IsShortestMap, EncodeFault, Segment, state, bits_for, Leaves, IsEmpty, Asked, leaves_split, bit_of, behind_of, closed, part_by}

pub adds_then : {p q : Piece} {d e f : Dictionary} {l k j : Segment} → Adds p d l e k → Adds q e k f j → Adds (both p q) d l f j
adds_then {l} a b = record {
  used = a.used ++ b.used;
  form = a.form ++ b.form;
  bits = b.bits ∙ ap (λ (t : List Bool). t ++ b.used) a.bits ∙ append_assoc l.bits a.used b.used;
  own = b.own ∙ a.own;
  bytes = b.bytes ∙ ap (λ (t : List ℕ). t ++ b.form) a.bytes ∙ append_assoc l.bytes a.form b.form;
  stands = λ all later leaves.
      let r = leaves_split a.used b.used all later leaves in
      record { between = state _ r.0; front = a.form; back = b.form; parts = refl; first = a.stands all r.0 r.1; second = b.stands r.0 later r.2 };
  judged = rw (a.judged) b.judged;
}

pub body_none : {d : Dictionary} {l : Segment} → Adds (of_items no_instructions no_items) d l d l
body_none {d} {l} = record {
  used = [];
  form = [];
  bits = sym (append-nil l.bits);
  own = refl;
  bytes = sym (append-nil l.bytes);
  stands = λ all later leaves. (refl, ap (state d) (sym leaves));
  judged = refl;
}

-- ---- a part

-- the bit of the best form: 0 exactly where the value can be left out
bit_is : (p : FieldPart) (e : Entry) (bit : Bool) (b : List ℕ) (v : Option Scalar) → IsBest p e bit b v → bit ≡ not (left_out_of p.operator p e v)
bit_is p e bit b v best = by_left bit (left_out_of p.operator p e v) refl best
  where
    by_left : (t left : Bool) → left_out_of p.operator p e v ≡ left → IsBest p e t b v → t ≡ not left
    by_left false true is h = refl
    by_left true false is h = refl
    by_left false false is h = absurd (cc (sym is ∙ can_be_left_out p.operator p e h.cut b v h.form.row))
    by_left true true is h = no_later (h.first false uncut [] (record { row = left_out p.operator p e v is; within = h.form.within }))
      where
        no_later : NoLater true (length b) h.cut false 0 uncut → true ≡ false
        no_later (inl lt) = absurd (omega (arith, lt))
        no_later (inr same) = same.0

pub part_added : (d : Dictionary) {p : FieldPart} {v : Option Scalar} {before new : Entry} {l k : Segment} → IsPartPut p v (entry_at d p.key) l before new k → Adds (of_part p v) d l (written p d v) k
part_added d {p} {v} {l} put =
    let s = put.spelt in
    let bit = bit_is p (entry_at d p.key) s.bit s.form v s.best in
    record {
      used = bits_for (part_needs_bit p) s.bit;
      form = s.form;
      bits = s.bits;
      own = s.own;
      bytes = s.bytes;
      stands = λ all later leaves. part_by p d v s.bit s.form all later s.needs s.best leaves;
      judged = rw (put.allowed, s.bits, bit) refl;
    }

-- ---- groups

pub no_group_added : (name : List ℕ) (number : ℕ) (presence : Presence) (members : Instructions) {d : Dictionary} {l k : Segment} → is_optional presence ≡ true → Asked (is_optional presence) false l k
    → Adds (of_item (group_of name number presence members) (single None)) d l d k
no_group_added name number presence members {d} {l} optional asked = record {
  used = bits_for (is_optional presence) false;
  form = [];
  bits = asked.bits;
  own = asked.own;
  bytes = asked.bytes ∙ sym (append-nil l.bytes);
  stands = λ all later leaves. (
    bit_of (is_optional presence) false all later (λ h. absurd (let both : true ≡ false = sym optional ∙ h in cc)) leaves,
    refl,
    ap (state d) (sym (behind_of (is_optional presence) false all later leaves)),
  );
  judged = ap (λ (t : List Bool). Ok (state d t)) (sym asked.bits);
}

pub group_added : (name : List ℕ) (number : ℕ) (presence : Presence) (members : Instructions) (ns : Items) {d e : Dictionary} {l k : Segment} {new : List ℕ} → Asked (is_optional presence) true l k
    → AddsBytes (segment_of members ns) d k.bytes e new
    → Adds (of_item (group_of name number presence members) (group_items ns)) d l e (record { bits = k.bits; own = k.own; bytes = new })
group_added name number presence members ns asked a = record {
  used = bits_for (is_optional presence) true;
  form = a.form;
  bits = asked.bits;
  own = asked.own;
  bytes = a.bytes ∙ ap (λ (t : List ℕ). t ++ a.form) asked.bytes;
  stands = λ all later leaves. (bit_of (is_optional presence) true all later (λ h. refl) leaves, sym (behind_of (is_optional presence) true all later leaves), a.stands);
  judged = rw (a.judged, asked.bits) refl;
}

-- ---- sequences

pub sequence_added : (name : List ℕ) (number : ℕ) (presence : Presence) (p : FieldPart) (members : Instructions) (es : Elements) {d e f : Dictionary} {l k : Segment} {new : List ℕ}
    → Adds (of_part p (Some (U32 (element_count es)))) d l e k → AddsBytes (each_of members es) e k.bytes f new
    → Adds (of_item (sequence_of name number presence p members) (sequence_elements es)) d l f (record { bits = k.bits; own = k.own; bytes = new })
sequence_added name number presence p members es {l = l} a b = record {
  used = a.used;
  form = a.form ++ b.form;
  bits = a.bits;
  own = a.own;
  bytes = b.bytes ∙ ap (λ (t : List ℕ). t ++ b.form) a.bytes ∙ append_assoc l.bytes a.form b.form;
  stands = λ all later leaves. record { between = state _ later; front = a.form; back = b.form; parts = refl; first = a.stands all later leaves; second = (refl, b.stands) };
  judged = rw (a.judged, b.judged) refl;
}

pub elements_none : (members : Instructions) {d : Dictionary} {old : List ℕ} → AddsBytes (each_of members no_elements) d old d old
elements_none members {old} = record { form = []; bytes = sym (append-nil old); stands = (refl, refl); judged = refl }

pub elements_more : (members : Instructions) (ns : Items) (es : Elements) {d e f : Dictionary} {old mid new : List ℕ}
    → AddsBytes (segment_of members ns) d old e mid → AddsBytes (each_of members es) e mid f new → AddsBytes (each_of members (then_element ns es)) d old f new
elements_more members ns es {e = e} {old = old} a b = record {
  form = a.form ++ b.form;
  bytes = b.bytes ∙ ap (λ (t : List ℕ). t ++ b.form) a.bytes ∙ append_assoc old a.form b.form;
  stands = record { between = e; front = a.form; back = b.form; parts = refl; first = a.stands; second = b.stands };
  judged = rw (a.judged) b.judged;
}

-- ---- segments

leaves_all : (used : List Bool) → Leaves used used []
leaves_all [] = refl
leaves_all (b ∷ bits) = (refl, leaves_all bits)

segment_stands : (own : Bool) (p : Piece) (d e : Dictionary) (used : List Bool) (x map : List ℕ)
    → ((all later : List Bool) → Leaves used all later → p.stands (state d all) x (state e later)) → (own ≡ false → used ≡ [])
    → (own ≡ true → IsShortest IsMap map used) → (own ≡ false → map ≡ []) → (in_segment own p).stands d (map ++ x) e
segment_stands true p d e used x map stands asked shortest none =
    let c = closed used map (shortest refl) in
    record { bits = c.bits; left = c.left; map = map; body = x; parts = refl; map_form = c.map; inside = stands c.bits c.left c.leaves }
segment_stands false p d e used x map stands asked shortest none = rw (none refl) (stands [] [] (rw (asked refl) refl))

-- a piece makes a segment; where that has no map, it asks for no bit
added_in : {p : Piece} {own : Bool} {d e : Dictionary} {k l : Segment} {old new : List ℕ} → IsEmpty own k → (a : Adds p d k e l) → (own ≡ false → a.used ≡ [])
    → IsSealed l old new → AddsBytes (in_segment own p) d old e new
added_in {p} {own} {d} {e} {k} {l} {old} empty a asked s =
    let used : l.bits ≡ a.used = a.bits ∙ ap (λ (t : List Bool). t ++ a.used) empty.bits in
    let form : l.bytes ≡ a.form = a.bytes ∙ ap (λ (t : List ℕ). t ++ a.form) empty.bytes in
    let has : l.own ≡ own = a.own ∙ empty.own_is in
    record {
      form = s.ended.map ++ a.form;
      bytes = s.ended.bytes ∙ ap (λ (t : List ℕ). old ++ (s.ended.map ++ t)) form;
      stands = segment_stands own p d e a.used a.form s.ended.map a.stands asked (λ t. rw (used) at (s.ended.shortest (has ∙ t))) (λ t. s.ended.none (has ∙ t));
      judged = rw (rw (empty.bits) at a.judged, rw (has) at s.room) refl;
    }

-- a body that needs no map asks for no bit
none_used : (members : Instructions) (ns : Items) (d e : Dictionary) (used : List Bool) (x : List ℕ) → has_map members ≡ false → CanonBody members (state d used) x ns (state e []) → used ≡ []
none_used members ns d e used x none body =
    let any = body_weaker IsBest (Form Usual) IsShortestMap (MapAt Usual) (λ p entry bit b v best. (best.cut, best.form)) (λ bits left b shortest. shortest.form) members (state d used) x ns (state e []) body in
    sym (rw (no_bits_are_taken members ns none) at (bits_taken_are Usual members (state d used) (state e []) x ns any))

pub segment_added : (members : Instructions) (ns : Items) {d e : Dictionary} {k l : Segment} {old new : List ℕ} → IsEmpty (has_map members) k
    → Adds (of_items members ns) d k e l → IsSealed l old new → AddsBytes (segment_of members ns) d old e new
segment_added members ns {d} {e} empty a s = added_in empty a (λ none. none_used members ns d e a.used a.form none (a.stands a.used [] (leaves_all a.used))) s

pub message_added : (members : Instructions) (m : Content) {d e : Dictionary} {k l : Segment} {old new : List ℕ} → IsEmpty true k
    → Adds (of_message members m) d k e l → IsSealed l old new → AddsBytes (in_segment true (of_message members m)) d old e new
message_added members m empty a s = added_in empty a (λ none. absurd cc) s

-- for which there was no room
pub not_sealed : {p : Piece} {own : Bool} {d e : Dictionary} {k l : Segment} {old new : List ℕ} {f : EncodeFault} → IsEmpty own k → Adds p d k e l → NotSealed l old new f
    → Refuses ((in_segment own p).judge d) f
not_sealed {p} {own} {d} {e} {k} {l} {f = f} empty a s = elim (s.why) [
  | inl memory ↦ inl memory
  | inr full ↦ let has : l.own ≡ own = a.own ∙ empty.own_is in
      inr (rw (rw (empty.bits) at a.judged, rw (has) at full.1) (ap Err (sym full.0)))
]
