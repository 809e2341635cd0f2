-- Messages have one list of canonical bytes.
use Rattle.fast_canon.proofs.Common.{◌≡◌, ℕ, Bool, true, false, List, [], ◌∷◌, ◌++◌, Option, Some, None, refl, sym, ap, ap₂, subst, ◌∙◌, Scalar, U32, I32, I64, Decimal, FieldPart, Instruction, Instructions, whole_field, field_in_parts, group_of, sequence_of, no_instructions, then_instruction, part_needs_bit, is_optional, has_map, Resolved, Dictionary, entry_at, IsBest, best_is_one, bit_for, after_bit, State, Then, Each, WithMap, SegmentBy, PartBy, PieceBy, written, Item, single, group_items, sequence_elements, Items, no_items, then_item, Elements, no_elements, then_element, element_count, Content, members_of, identifier, BodyOfBy, IsShortestMap, CanonBody, CanonMessage, CanonFrom}
use Rattle.fast_canon.proofs.AskedBits.{Begins, behind, begins_both, behind_both}
use Rattle.fast_canon.proofs.Stages.{Stage, with_bits}
use Rattle.fast_canon.proofs.PartBits.{one_asked, asked_left, asked_begins}
use Rattle.fast_canon.proofs.ShortestMaps.{one_shortest}

-- Two lists of bytes lead from states with one dictionary to such states, and are the same. Bits asked for are, too.
record AreOne (s t : State) (b : List ℕ) (p q : State) (c : List ℕ) : Type 0 where
  bytes : b ≡ c
  dictionary : t.dictionary ≡ q.dictionary
  asked : List Bool
  begins : Begins asked s.bits
  left : t.bits ≡ behind asked s.bits
  begins_other : Begins asked p.bits
  left_other : q.bits ≡ behind asked p.bits

-- any two such lists, of one stage
abbrev IsOne : Stage → Type 0
IsOne Best = (s t p q : State) (b c : List ℕ) → s.dictionary ≡ p.dictionary → Best s b t → Best p c q → AreOne s t b p q c

abbrev IsOneWhole : (Dictionary → List ℕ → Dictionary → Type 0) → Type 0
IsOneWhole Best = (d e after later : Dictionary) (b c : List ℕ) → d ≡ e → Best d b after → Best e c later → (b ≡ c) × (after ≡ later)

-- ---- one behind the other

same_parts : (b x y c v w : List ℕ) → b ≡ x ++ y → c ≡ v ++ w → x ≡ v → y ≡ w → b ≡ c
same_parts b x y c v w h k first second = h ∙ ap₂ (λ (p q : List ℕ). p ++ q) first second ∙ sym k

one_then : (First Second : Stage) → IsOne First → IsOne Second → IsOne (λ s b t. Then (First s) (λ u y. Second u y t) b)
one_then First Second first second s t p q b c same h k =
    let x = first s h.between p k.between h.front k.front same h.first k.first in
    let y = second h.between t k.between q h.back k.back x.dictionary h.second k.second in record {
      bytes = same_parts b h.front h.back c k.front k.back h.parts k.parts x.bytes y.bytes;
      dictionary = y.dictionary;
      asked = x.asked ++ y.asked;
      begins = begins_both x.asked y.asked s.bits x.begins (subst (Begins y.asked) x.left y.begins);
      left = y.left ∙ ap (behind y.asked) x.left ∙ sym (behind_both x.asked y.asked s.bits);
      begins_other = begins_both x.asked y.asked p.bits x.begins_other (subst (Begins y.asked) x.left_other y.begins_other);
      left_other = y.left_other ∙ ap (behind y.asked) x.left_other ∙ sym (behind_both x.asked y.asked p.bits);
    }

one_whole_then : (First Second : Dictionary → List ℕ → Dictionary → Type 0) → IsOneWhole First → IsOneWhole Second → IsOneWhole (λ d b after. Then (First d) (λ e y. Second e y after) b)
one_whole_then First Second first second d e after later b c same h k =
    let x = first d e h.between k.between h.front k.front same h.first k.first in
    let y = second h.between k.between after later h.back k.back x.1 h.second k.second in
    (same_parts b h.front h.back c k.front k.back h.parts k.parts x.0 y.0, y.1)

-- ---- a part, and a group's bit

one_under_bit : (takes bit : Bool) (Best : Dictionary → List ℕ → Dictionary → Type 0) → IsOneWhole Best
    → IsOne (λ s b t. (bit_for takes s.bits ≡ bit) × (t.bits ≡ after_bit takes s.bits) × Best s.dictionary b t.dictionary)
one_under_bit takes bit Best one s t p q b c same h k =
    let inside = one s.dictionary p.dictionary t.dictionary q.dictionary b c same h.2 k.2 in record {
      bytes = inside.0;
      dictionary = inside.1;
      asked = one_asked takes bit;
      begins = asked_begins takes bit s.bits (sym h.0);
      left = h.1 ∙ sym (asked_left takes bit s.bits);
      begins_other = asked_begins takes bit p.bits (sym k.0);
      left_other = k.1 ∙ sym (asked_left takes bit p.bits);
    }

-- where these bytes stand
one_fixed : (x : List ℕ) (f : Dictionary → Dictionary) → IsOneWhole (λ d b after. (b ≡ x) × (after ≡ f d))
one_fixed x f d e after later b c same h k = (h.0 ∙ sym k.0, h.1 ∙ ap f same ∙ sym k.1)

one_part : (i : FieldPart) (v : Option Scalar) → IsOne (λ s b t. PartBy IsBest i s b v t)
one_part i v s t p q b c same h k =
    let needs = part_needs_bit i in
    let one = best_is_one i (entry_at s.dictionary i.key) (bit_for needs s.bits) (bit_for needs p.bits) b c v h.0
    (subst (λ (d : Dictionary). IsBest i (entry_at d i.key) (bit_for needs p.bits) c v) (sym same) k.0) in
    one_under_bit needs (bit_for needs s.bits) (λ d x after. (x ≡ b) × (after ≡ written i d v)) (one_fixed b (λ d. written i d v)) s t p q b c same
    (refl, ap (λ t. t.bits) h.1, (refl, ap (λ t. t.dictionary) h.1)) (sym one.0, ap (λ t. t.bits) k.1, (sym one.1, ap (λ t. t.dictionary) k.1))

one_left_out : (takes : Bool) → IsOne (λ s b t. (bit_for takes s.bits ≡ false) × (b ≡ []) × (t ≡ record s { bits = after_bit takes s.bits }))
one_left_out takes s t p q b c same h k =
    one_under_bit takes false (λ d b after. (b ≡ []) × (after ≡ d)) (one_fixed [] (λ d. d)) s t p q b c same (h.0, ap (λ t. t.bits) h.2, (h.1, ap (λ t. t.dictionary) h.2)) (k.0, ap (λ t. t.bits) k.2, (k.1, ap (λ t. t.dictionary) k.2))

one_without_bits : (Best : Dictionary → List ℕ → Dictionary → Type 0) → IsOneWhole Best → IsOne (λ s b t. (t.bits ≡ s.bits) × Best s.dictionary b t.dictionary)
one_without_bits Best one s t p q b c same h k = one_under_bit false true Best one s t p q b c same (refl, h.0, h.1) (refl, k.0, k.1)

-- ---- a segment

one_with_map : (Inside : Stage) → IsOne Inside → IsOneWhole (λ d b after. WithMap IsShortestMap Inside d b after)
one_with_map Inside one d e after later b c same h k =
    let x = one (with_bits d h.bits) (with_bits after h.left) (with_bits e k.bits) (with_bits later k.left) h.body k.body same h.inside k.inside in
    let map = one_shortest x.asked h.bits k.bits h.map k.map x.begins x.begins_other
    (subst (λ (l : List Bool). IsShortestMap h.bits l h.map) x.left h.map_form)
    (subst (λ (l : List Bool). IsShortestMap k.bits l k.map) x.left_other k.map_form) in
    (same_parts b h.map h.body c k.map k.body h.parts k.parts map x.bytes, x.dictionary)

one_segment : (has : Bool) (Inside : Stage) → IsOne Inside → IsOneWhole (λ d b after. SegmentBy IsShortestMap has Inside d b after)
one_segment true Inside one d e after later b c same h k = one_with_map Inside one d e after later b c same h k
one_segment false Inside one d e after later b c same h k =
    let x = one (with_bits d []) (with_bits after []) (with_bits e []) (with_bits later []) b c same h k in (x.bytes, x.dictionary)

one_each : (One : Dictionary → List ℕ → Items → Dictionary → Type 0) → ((ns : Items) → IsOneWhole (λ d x e. One d x ns e)) → (es : Elements) → IsOneWhole (λ d b after. Each One d b es after)
one_each One one no_elements d e after later b c same h k = one_fixed [] (λ d. d) d e after later b c same h k
one_each One one (then_element ns es) d e after later b c same h k =
    one_whole_then (λ d x e. One d x ns e) (λ e y after. Each One e y es after) (one ns) (one_each One one es) d e after later b c same h k

-- ---- instructions

mutual
  one_piece : (i : Instruction) (n : Item) → IsOne (λ s b t. PieceBy IsBest IsShortestMap i s b n t)
  one_piece (whole_field name number presence whole) (single v) s t p q b c same h k = one_part whole v s t p q b c same h k
  one_piece (field_in_parts name number presence exponent mantissa) (single None) s t p q b c same h k = one_part exponent None s t p q b c same h k
  one_piece (field_in_parts name number presence exponent mantissa) (single (Some (Decimal e m))) s t p q b c same h k =
      one_then (λ s x u. PartBy IsBest exponent s x (Some (I32 e)) u) (λ u y t. PartBy IsBest mantissa u y (Some (I64 m)) t)
      (one_part exponent (Some (I32 e))) (one_part mantissa (Some (I64 m))) s t p q b c same h k
  one_piece (group_of name number presence members) (single None) s t p q b c same h k = one_left_out (is_optional presence) s t p q b c same h k
  one_piece (group_of name number presence members) (group_items ns) s t p q b c same h k =
      one_under_bit (is_optional presence) true (λ d x e. SegmentBy IsShortestMap (has_map members) (λ u z v. CanonBody members u z ns v) d x e)
      (one_segment (has_map members) (λ u z v. CanonBody members u z ns v) (λ s t p q b c same h k. one_body members ns s t p q b c same h k)) s t p q b c same h k
  one_piece (sequence_of name number presence length members) (single None) s t p q b c same h k = one_part length None s t p q b c same h k
  one_piece (sequence_of name number presence length members) (sequence_elements es) s t p q b c same h k =
      let One : Dictionary → List ℕ → Items → Dictionary → Type 0 = λ d x ns e. SegmentBy IsShortestMap (has_map members) (λ u z v. CanonBody members u z ns v) d x e in
      let count : Option Scalar = Some (U32 (element_count es)) in
      one_then (λ s x u. PartBy IsBest length s x count u) (λ u y t. (t.bits ≡ u.bits) × Each One u.dictionary y es t.dictionary)
      (one_part length count)
      (one_without_bits (λ d y e. Each One d y es e)
      (one_each One (λ ns. one_segment (has_map members) (λ u z v. CanonBody members u z ns v) (λ s t p q b c same h k. one_body members ns s t p q b c same h k)) es))
      s t p q b c same h k
  one_piece i n s t p q b c same h k = absurd h

  one_body : (members : Instructions) (ns : Items) → IsOne (λ s b t. CanonBody members s b ns t)
  one_body no_instructions no_items s t p q b c same h k =
      one_without_bits (λ d b after. (b ≡ []) × (after ≡ d)) (one_fixed [] (λ d. d)) s t p q b c same (ap (λ t. t.bits) h.1, (h.0, ap (λ t. t.dictionary) h.1)) (ap (λ t. t.bits) k.1, (k.0, ap (λ t. t.dictionary) k.1))
  one_body (then_instruction i is) (then_item n ns) s t p q b c same h k =
      one_then (λ s x u. PieceBy IsBest IsShortestMap i s x n u) (λ u y t. CanonBody is u y ns t)
      (λ s t p q b c same h k. one_piece i n s t p q b c same h k) (λ s t p q b c same h k. one_body is ns s t p q b c same h k) s t p q b c same h k
  one_body members ns s t p q b c same h k = absurd h

-- ---- messages

one_body_of : (members : Option Instructions) (ns : Items) → IsOne (λ s b t. BodyOfBy IsBest IsShortestMap members s b ns t)
one_body_of None ns s t p q b c same h k = absurd h
one_body_of (Some members) ns s t p q b c same h k = one_body members ns s t p q b c same h k

pub one_message : (set : List Resolved) (m : Content) → IsOneWhole (λ d b after. CanonMessage set d b m after)
one_message set m d e after later b c same h k =
    let id : Option Scalar = Some (U32 m.template) in
    let First : Stage = λ s y u. PartBy IsBest identifier s y id u in
    let Second : Stage = λ u z t. BodyOfBy IsBest IsShortestMap (members_of set m.template) u z m.items t in
    one_with_map (λ s x t. Then (First s) (λ u z. Second u z t) x) (one_then First Second (one_part identifier id) (one_body_of (members_of set m.template) m.items)) d e after later b c same h.segment k.segment

pub one_canonical : (set : List Resolved) (ms : List Content) (d e after later : Dictionary) (b c : List ℕ) → d ≡ e → CanonFrom set d b ms after → CanonFrom set e c ms later → (b ≡ c) × (after ≡ later)
one_canonical set [] d e after later b c same h k = one_fixed [] (λ d. d) d e after later b c same h k
one_canonical set (m ∷ ms) d e after later b c same h k =
    one_whole_then (λ d x e. CanonMessage set d x m e) (λ e y after. CanonFrom set e y ms after) (one_message set m)
    (λ d e after later b c same h k. one_canonical set ms d e after later b c same h k) d e after later b c same h k
