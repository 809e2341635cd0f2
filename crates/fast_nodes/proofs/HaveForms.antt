-- A message that is not refused has canonical bytes.
use Rattle.fast_nodes.proofs.Common.{true≢false, ◌≡◌, ℕ, Bool, true, false, ◌&&◌, List, [], ◌++◌, length, drop, Option, Some, None, Result, Ok, Err, refl, sym, ◌∙◌, arith, if◌then◌else◌, and_parts, Scalar, U32, I32, I64, Decimal, FieldPart, Instruction, Instructions, whole_field, field_in_parts, group_of, sequence_of, no_instructions, then_instruction, part_needs_bit, is_optional, has_map, TemplateList, templates_in, IsSound, Dictionary, entry_at, ◌>>=◌, FieldRefusal, next, IsFieldPart, EachPart, EachPartIn, refusal_of, HasRangeOr, best_stands, parts_of_sets, Item, single, group_items, sequence_elements, Items, no_items, then_item, Elements, no_elements, then_element, element_count, Content, State, written, members_of, identifier, members_have, EncodeFault, Adds, AddsBytes, IsPartPut, IsSealed, IsSmall, AreSmall, AreSmallIn, Piece, Whole, both, each_of, in_segment, of_item, of_items, of_message, of_part, segment_of, CanonMessage, item_fits, items_fit, elements_fit, whole_refusal, judged, part_judged, segment_judged, item_judged, items_judged, elements_judged, or_else, error_in, message_refusal, first_refusal, HasRanges, HaveRanges, HaveRangesIn, IsInRange, has_set, Segment, state, bits_for, Asked, IsEmpty, HoldScalars, form_holds, identifier_is, shortest_map, set_at, best_needs}
use Rattle.fast_nodes.proofs.Additions.{adds_then, body_none, part_added, no_group_added, group_added, message_added, sequence_added, elements_none, elements_more, segment_added}
use Rattle.fast_nodes.proofs.Messages.{fitting, written_is}
use Rattle.fast_nodes.proofs.Tries.{small_all}

-- ---- the map of bits that it has room for

sealed_by : (own : Bool) (l : Segment) (old : List ℕ) → l.own ≡ own → (own && has_set (drop 1792 l.bits)) ≡ false → (new : List ℕ) × IsSealed l old new
sealed_by true l old is room =
    let m = shortest_map l.bits (λ many. true≢false (sym (set_at (drop 1792 l.bits) many.0 many.1) ∙ room)) in
    (old ++ (m.0 ++ l.bytes), record { ended = record { map = m.0; bytes = refl; shortest = λ own. m.1; none = λ none. absurd (let both : true ≡ false = sym is ∙ none in cc) }; room = rw (is) room })
sealed_by false l old is room =
    (old ++ ([] ++ l.bytes), record { ended = record { map = []; bytes = refl; shortest = λ own. absurd (let both : false ≡ true = sym is ∙ own in cc); none = λ none. refl }; room = rw (is) refl })

-- ---- what is judged without a refusal

bind_ok : {A B : Type 0} (r : Result A EncodeFault) (f : A → Result B EncodeFault) (x : B) → (r >>= λ y. f y) ≡ Ok x → (y : A) × (r ≡ Ok y) × (f y ≡ Ok x)
bind_ok (Ok y) f x h = (y, refl, h)
bind_ok (Err e) f x h = absurd cc

part_ok : (p : FieldPart) (s : State) (v : Option Scalar) (t : State) (r : Option FieldRefusal) → judged p s v r ≡ Ok t → r ≡ None
part_ok p s v t None h = refl
part_ok p s v t (Some r) h = absurd cc

room_ok : (b : Bool) (f : EncodeFault) (d e : Dictionary) → (if b then Err f else Ok d) ≡ Ok e → b ≡ false
room_ok false f d e h = refl
room_ok true f d e h = absurd cc

-- ---- what is added

record Added (p : Piece) (d : Dictionary) (l : Segment) : Type 0 where
  entries : Dictionary
  level : Segment
  adds : Adds p d l entries level
  holds : HoldScalars entries

record AddedBytes (w : Whole) (d : Dictionary) (old : List ℕ) : Type 0 where
  entries : Dictionary
  bytes : List ℕ
  adds : AddsBytes w d old entries bytes
  holds : HoldScalars entries

add_part : (p : FieldPart) (v : Option Scalar) (d : Dictionary) (l : Segment) (t : State) → IsFieldPart p → HoldScalars d → HasRangeOr v → part_judged p (state d l.bits) v ≡ Ok t
    → Added (of_part p v) d l
add_part p v d l t is holds range h =
    let needs = part_needs_bit p in
    let e = entry_at d p.key in
    let none : refusal_of p e v ≡ None = part_ok p (state d l.bits) v t (refusal_of p e v) h in
    let best = best_stands p e v is (holds p.key) range none in
    let bit = best.0 in
    let k : Segment = record { bits = l.bits ++ bits_for needs bit; own = l.own; bytes = l.bytes ++ best.1 } in
    let put : IsPartPut p v e l e (next p e v) k = record {
      spelt = record { bit = bit; form = best.1; bits = refl; own = refl; bytes = refl; needs = best_needs bit best.2; best = best.2 };
      after = refl;
      before = refl;
      allowed = none;
    } in record { entries = written p d v; level = k; adds = part_added d put; holds = form_holds p d bit best.1 v is holds (best.2.cut, best.2.form) }

-- ---- a segment

abbrev nothing : Bool → Segment
nothing own = record { bits = []; own = own; bytes = [] }

empty : (own : Bool) → IsEmpty own (nothing own)
empty own = record { bits = refl; own_is = refl; bytes = refl }

add_segment : (members : Instructions) (ns : Items) (d : Dictionary) (old : List ℕ) (e : Dictionary)
    → ((l : Segment) (t : State) → items_judged members ns (state d l.bits) ≡ Ok t → Added (of_items members ns) d l)
    → (segment_of members ns).judge d ≡ Ok e → AddedBytes (segment_of members ns) d old
add_segment members ns d old e inside h =
    let f = bind_ok (items_judged members ns (state d [])) (λ s. if has_map members && has_set (drop 1792 s.bits) then Err _ else Ok s.dictionary) e h in
    let a = inside (nothing (has_map members)) f.0 f.1 in
    let room = room_ok (has_map members && has_set (drop 1792 a.level.bits)) _ a.entries e (rw (a.adds.judged) at h) in
    let sealed = sealed_by (has_map members) a.level old a.adds.own room in
    record { entries = a.entries; bytes = sealed.0; adds = segment_added members ns (empty (has_map members)) a.adds sealed.1; holds = a.holds }

-- ---- instructions

added_then : {p q : Piece} {d : Dictionary} {l : Segment} (a : Added p d l) → Added q a.entries a.level → Added (both p q) d l
added_then a b = record { entries = b.entries; level = b.level; adds = adds_then a.adds b.adds; holds = b.holds }

-- a bit more
abbrev with_bit : Segment → Bool → Bool → Segment
with_bit l takes bit = record { bits = l.bits ++ bits_for takes bit; own = l.own; bytes = l.bytes }

bit_asked : (l : Segment) (takes bit : Bool) → Asked takes bit l (with_bit l takes bit)
bit_asked l takes bit = record { bits = refl; own = refl; bytes = refl }

mutual
  add_piece : (i : Instruction) → EachPart IsFieldPart i → (n : Item) → item_fits i n ≡ true → IsSmall n → HasRanges n → (d : Dictionary) (l : Segment) (t : State) → HoldScalars d → item_judged i n (state d l.bits) ≡ Ok t
      → Added (of_item i n) d l
  add_piece (whole_field name number presence whole) is (single v) fits small range d l t holds h = add_part whole v d l t is holds range h
  add_piece (field_in_parts name number presence exponent mantissa) is (single None) fits small range d l t holds h = add_part exponent None d l t is.0 holds tt h
  add_piece (field_in_parts name number presence exponent mantissa) is (single (Some (Decimal e m))) fits small range d l t holds h =
      let f = bind_ok (part_judged exponent (state d l.bits) (Some (I32 e))) (λ u. part_judged mantissa u (Some (I64 m))) t h in
      let first = add_part exponent (Some (I32 e)) d l f.0 is.0 holds range.0 f.1 in
      let second = add_part mantissa (Some (I64 m)) first.entries first.level t is.1 first.holds range.1 (rw (first.adds.judged) at h) in
      added_then first second
  add_piece (group_of name number presence members) is (single None) fits small range d l t holds h =
      let k = with_bit l (is_optional presence) false in
      record { entries = d; level = k; adds = no_group_added name number presence members fits (bit_asked l (is_optional presence) false); holds = holds }
  add_piece (group_of name number presence members) is (group_items ns) fits small range d l t holds h =
      let k = with_bit l (is_optional presence) true in
      let f = bind_ok (segment_judged (has_map members) (λ u. items_judged members ns u) d) (λ e. Ok (state e (l.bits ++ bits_for (is_optional presence) true))) t h in
      let a = add_segment members ns d l.bytes f.0 (λ k' u j. add_body members is ns fits small range d k' u holds j) f.1 in
      record {
        entries = a.entries;
        level = record { bits = k.bits; own = k.own; bytes = a.bytes };
        adds = group_added name number presence members ns (bit_asked l (is_optional presence) true) a.adds;
        holds = a.holds;
      }
  add_piece (sequence_of name number presence length members) is (single None) fits small range d l t holds h = add_part length None d l t is.0 holds tt h
  add_piece (sequence_of name number presence length members) is (sequence_elements es) fits small range d l t holds h =
      let count : Option Scalar = Some (U32 (element_count es)) in
      let f = bind_ok (part_judged length (state d l.bits) count) (λ u. elements_judged members es u.dictionary >>= λ e. Ok (state e u.bits)) t h in
      let first = add_part length count d l f.0 is.0 holds (let few = small.0 in omega (arith, few)) f.1 in
      let g = bind_ok (elements_judged members es first.entries) (λ e. Ok (state e first.level.bits)) t (rw (first.adds.judged) at h) in
      let second = add_elements members is.1 es fits small.1 range first.entries first.level.bytes g.0 first.holds g.1 in
      record {
        entries = second.entries;
        level = record { bits = first.level.bits; own = first.level.own; bytes = second.bytes };
        adds = sequence_added name number presence length members es first.adds second.adds;
        holds = second.holds;
      }
  add_piece i is n fits small range d l t holds h = absurd cc

  add_body : (members : Instructions) → EachPartIn IsFieldPart members → (ns : Items) → items_fit members ns ≡ true → AreSmall ns → HaveRanges ns → (d : Dictionary) (l : Segment) (t : State) → HoldScalars d → items_judged members ns (state d l.bits) ≡ Ok t
      → Added (of_items members ns) d l
  add_body no_instructions is no_items fits small range d l t holds h = record { entries = d; level = l; adds = body_none; holds = holds }
  add_body (then_instruction i is) are (then_item n ns) fits small range d l t holds h =
      let fit = and_parts (item_fits i n) (items_fit is ns) fits in
      let f = bind_ok (item_judged i n (state d l.bits)) (λ u. items_judged is ns u) t h in
      let first = add_piece i are.0 n fit.0 small.0 range.0 d l f.0 holds f.1 in
      let second = add_body is are.1 ns fit.1 small.1 range.1 first.entries first.level t first.holds (rw (first.adds.judged) at h) in
      added_then first second
  add_body members is ns fits small range d l t holds h = absurd cc

  add_elements : (members : Instructions) → EachPartIn IsFieldPart members → (es : Elements) → elements_fit members es ≡ true → AreSmallIn es → HaveRangesIn es → (d : Dictionary) (old : List ℕ) (after : Dictionary) → HoldScalars d
      → elements_judged members es d ≡ Ok after → AddedBytes (each_of members es) d old
  add_elements members is no_elements fits small range d old after holds h = record { entries = d; bytes = old; adds = elements_none members; holds = holds }
  add_elements members is (then_element ns es) fits small range d old after holds h =
      let fit = and_parts (items_fit members ns) (elements_fit members es) fits in
      let f = bind_ok (segment_judged (has_map members) (λ u. items_judged members ns u) d) (λ e. elements_judged members es e) after h in
      let first = add_segment members ns d old f.0 (λ k' u j. add_body members is ns fit.0 small.0 range.0 d k' u holds j) f.1 in
      let second = add_elements members is es fit.1 small.1 range.1 first.entries first.bytes after first.holds (rw (first.adds.judged) at h) in
      record { entries = second.entries; bytes = second.bytes; adds = elements_more members ns es first.adds second.adds; holds = second.holds }

-- ---- messages

both_none : (first later : Option EncodeFault) → or_else first later ≡ None → (first ≡ None) × (later ≡ None)
both_none None later h = (refl, h)
both_none (Some f) later h = absurd cc

no_error : {A : Type 0} (r : Result A EncodeFault) → error_in r ≡ None → (x : A) × (r ≡ Ok x)
no_error (Ok x) h = (x, refl)
no_error (Err f) h = absurd cc

abbrev HasBytes : TemplateList → Dictionary → Content → Type 0
HasBytes set d m = (bytes : List ℕ) × (after : Dictionary) × CanonMessage (templates_in set) d bytes m after

message_bytes : (set : TemplateList) (d : Dictionary) (m : Content) (members : Instructions) (s : State) (after : Dictionary) → members_of (templates_in set) m.template ≡ Some members → EachPartIn IsFieldPart members → HoldScalars d → IsInRange m
    → whole_refusal members m.items ≡ None → (of_message members m).judge (state d []) ≡ Ok s → (in_segment true (of_message members m)).judge d ≡ Ok after → HasBytes set d m
message_bytes set d m members s after named parts holds range whole inside h =
    let id : Option Scalar = Some (U32 m.template) in
    let fit = fitting members m.items whole in
    let f = bind_ok (part_judged identifier (state d []) id) (λ u. items_judged members m.items u) s inside in
    let first = add_part identifier id d (nothing true) f.0 identifier_is holds range.template f.1 in
    let second = add_body members parts m.items fit.fits (small_all m.items fit.large) range.items first.entries first.level s first.holds (rw (first.adds.judged) at inside) in
    let both = added_then first second in
    let room = room_ok (has_set (drop 1792 both.level.bits)) _ both.entries after (rw (both.adds.judged) at h) in
    let sealed = sealed_by true both.level [] both.adds.own room in
    let written = written_is (templates_in set) m members named whole (message_added members m (empty true) both.adds sealed.1) in
    (written.0, both.entries, written.2)

bytes_of : (set : TemplateList) (d : Dictionary) (m : Content) (found : Option Instructions) → members_of (templates_in set) m.template ≡ found → IsSound set → HoldScalars d → IsInRange m
    → message_refusal found d m ≡ None → HasBytes set d m
bytes_of set d m None named sound holds range none = absurd cc
bytes_of set d m (Some members) named sound holds range none =
    let both = both_none (whole_refusal members m.items) (error_in ((in_segment true (of_message members m)).judge d)) none in
    let judged = no_error ((in_segment true (of_message members m)).judge d) both.1 in
    let inside = bind_ok ((of_message members m).judge (state d [])) (λ s. if true && has_set (drop 1792 s.bits) then Err _ else Ok s.dictionary) judged.0 judged.1 in
    message_bytes set d m members inside.0 judged.0 named (members_have (EachPartIn IsFieldPart) (templates_in set) (parts_of_sets set sound) m.template members named) holds range both.0 inside.1 judged.1

-- what is not refused has canonical bytes
pub not_refused_has_bytes : (set : TemplateList) (d : Dictionary) (m : Content) → IsSound set → HoldScalars d → IsInRange m → first_refusal (templates_in set) d m ≡ None
    → (bytes : List ℕ) × (after : Dictionary) × CanonMessage (templates_in set) d bytes m after
not_refused_has_bytes set d m sound holds range none = bytes_of set d m (members_of (templates_in set) m.template) refl sound holds range none
