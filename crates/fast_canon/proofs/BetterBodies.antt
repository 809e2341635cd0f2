-- What a stream carries has canonical bytes, which are no longer.
use Rattle.fast_canon.proofs.Common.{◌≡◌, ℕ, Bool, true, false, List, [], ◌∷◌, length, Option, Some, None, refl, sym, ap, subst, AllByRecursion, Usual, Presence, Mandatory, Optional, Scalar, U32, I32, I64, Decimal, Instruction, Instructions, whole_field, field_in_parts, group_of, sequence_of, no_instructions, then_instruction, is_optional, has_map, Resolved, Dictionary, Form, IsBest, IsFieldPart, EachPart, EachPartIn, bit_for, after_bit, State, Then, Each, SegmentBy, PartBy, PieceBy, BodyBy, Item, single, group_items, sequence_elements, Items, no_items, then_item, element_count, Content, members_of, identifier, MapAt, BodyOfBy, MessageForm, CarriesFrom, members_have, IsShortestMap, CanonMessage, CanonFrom, HoldScalars, identifier_is}
use Rattle.fast_canon.proofs.Stages.{with_bits}
use Rattle.fast_canon.proofs.BetterParts.{IsBetter, IsBetterWhole, better_as, better_under, better_then, whole_then, whole_none, better_part, better_with_map, better_segment, better_each}

-- ---- groups

-- a mandatory group has no bit, and is there
group_bit : (p : Presence) (bit : Bool) (bits : List Bool) → bit_for (is_optional p) bits ≡ bit → is_optional p ≡ false → bit ≡ true
group_bit Mandatory bit bits h none = sym h
group_bit Optional bit bits h none = absurd cc

better_left_out : (p : Presence) (s t : State) (b : List ℕ) → HoldScalars s.dictionary → bit_for (is_optional p) s.bits ≡ false → t ≡ record s { bits = after_bit (is_optional p) s.bits }
    → IsBetter (λ s b t. (bit_for (is_optional p) s.bits ≡ false) × (b ≡ []) × (t ≡ record s { bits = after_bit (is_optional p) s.bits })) s b t
better_left_out p s t b holds unset left =
    let after : t.dictionary ≡ s.dictionary = ap (λ t. t.dictionary) left in
    better_as (λ s x t h. (h.0, h.2.0, λ i. record { dictionary = h.2.1 i; bits = h.1 i }))
    (better_under (is_optional p) false (λ d x e. (x ≡ []) × (e ≡ d)) s t b unset (group_bit p false s.bits unset) (ap (λ t. t.bits) left)
    (whole_none (λ x. (x ≡ []) × (t.dictionary ≡ s.dictionary)) b t.dictionary (refl, after) (subst HoldScalars (sym after) holds)))

-- ---- elements, behind their length

better_elements : (Best : Dictionary → List ℕ → Dictionary → Type 0) (s t : State) (b : List ℕ) → t.bits ≡ s.bits → IsBetterWhole (λ x. Best s.dictionary x t.dictionary) b t.dictionary
    → IsBetter (λ s b t. (t.bits ≡ s.bits) × Best s.dictionary b t.dictionary) s b t
better_elements Best s t b left h = better_as (λ s x t h. (h.1, h.2)) (better_under false true Best s t b refl (λ none. refl) left h)

-- ---- instructions

mutual
  better_piece : (i : Instruction) → EachPart IsFieldPart i → (n : Item) (s : State) (b : List ℕ) (t : State) → HoldScalars s.dictionary → PieceBy (Form Usual) (MapAt Usual) i s b n t
      → IsBetter (λ s b t. PieceBy IsBest IsShortestMap i s b n t) s b t
  better_piece (whole_field name number presence whole) is (single v) s b t holds h = better_part whole v s b t is holds h
  better_piece (field_in_parts name number presence exponent mantissa) is (single None) s b t holds h = better_part exponent None s b t is.0 holds h
  better_piece (field_in_parts name number presence exponent mantissa) is (single (Some (Decimal e m))) s b t holds h =
      let first = better_part exponent (Some (I32 e)) s h.front h.between is.0 holds h.first in
      better_then (λ s x u. PartBy IsBest exponent s x (Some (I32 e)) u) (λ u y t. PartBy IsBest mantissa u y (Some (I64 m)) t) s h.between t b h.front h.back h.parts
      first (better_part mantissa (Some (I64 m)) h.between h.back t is.1 first.holds h.second)
  better_piece (group_of name number presence members) is (single None) s b t holds h = better_left_out presence s t b holds h.0 h.2
  better_piece (group_of name number presence members) is (group_items ns) s b t holds h =
      better_under (is_optional presence) true (λ d x e. SegmentBy IsShortestMap (has_map members) (λ u z v. BodyBy IsBest IsShortestMap members u z ns v) d x e) s t b h.0 (λ none. refl) h.1
      (better_segment (has_map members) (λ u z v. BodyBy (Form Usual) (MapAt Usual) members u z ns v) (λ u z v. BodyBy IsBest IsShortestMap members u z ns v) s.dictionary b t.dictionary
      (λ bits left z o. better_body members is ns (with_bits s.dictionary bits) z (with_bits t.dictionary left) holds o) h.2)
  better_piece (sequence_of name number presence length members) is (single None) s b t holds h = better_part length None s b t is.0 holds h
  better_piece (sequence_of name number presence length members) is (sequence_elements es) s b t holds h =
      let One : Dictionary → List ℕ → Items → Dictionary → Type 0 = λ d x ns e. SegmentBy (MapAt Usual) (has_map members) (λ u z v. BodyBy (Form Usual) (MapAt Usual) members u z ns v) d x e in
      let Best : Dictionary → List ℕ → Items → Dictionary → Type 0 = λ d x ns e. SegmentBy IsShortestMap (has_map members) (λ u z v. BodyBy IsBest IsShortestMap members u z ns v) d x e in
      let count : Option Scalar = Some (U32 (element_count es)) in
      let first = better_part length count s h.front h.between is.0 holds h.first in
      better_then (λ s x u. PartBy IsBest length s x count u) (λ u y t. (t.bits ≡ u.bits) × Each Best u.dictionary y es t.dictionary) s h.between t b h.front h.back h.parts first
      (better_elements (λ d y e. Each Best d y es e) h.between t h.back h.second.0
      (better_each One Best
      (λ d x ns e holds' o. better_segment (has_map members) (λ u z v. BodyBy (Form Usual) (MapAt Usual) members u z ns v) (λ u z v. BodyBy IsBest IsShortestMap members u z ns v) d x e
      (λ bits left z o'. better_body members is.1 ns (with_bits d bits) z (with_bits e left) holds' o') o)
      es h.between.dictionary h.back t.dictionary first.holds h.second.1))
  better_piece i is n s b t holds h = absurd h

  better_body : (members : Instructions) → EachPartIn IsFieldPart members → (ns : Items) (s : State) (b : List ℕ) (t : State) → HoldScalars s.dictionary → BodyBy (Form Usual) (MapAt Usual) members s b ns t
      → IsBetter (λ s b t. BodyBy IsBest IsShortestMap members s b ns t) s b t
  better_body no_instructions is no_items s b t holds h =
      let after : t.dictionary ≡ s.dictionary = ap (λ t. t.dictionary) h.1 in
      better_as (λ s x t h. (h.1.0, λ i. record { dictionary = h.1.1 i; bits = h.0 i }))
      (better_elements (λ d x e. (x ≡ []) × (e ≡ d)) s t b (ap (λ t. t.bits) h.1) (whole_none (λ x. (x ≡ []) × (t.dictionary ≡ s.dictionary)) b t.dictionary (refl, after) (subst HoldScalars (sym after) holds)))
  better_body (then_instruction i is) are (then_item n ns) s b t holds h =
      let first = better_piece i are.0 n s h.front h.between holds h.first in
      better_then (λ s x u. PieceBy IsBest IsShortestMap i s x n u) (λ u y t. BodyBy IsBest IsShortestMap is u y ns t) s h.between t b h.front h.back h.parts
      first (better_body is are.1 ns h.between h.back t first.holds h.second)
  better_body members is ns s b t holds h = absurd h

-- ---- messages

better_body_of : (members : Option Instructions) → ((is : Instructions) → members ≡ Some is → EachPartIn IsFieldPart is) → (ns : Items) (s : State) (b : List ℕ) (t : State) → HoldScalars s.dictionary
    → BodyOfBy (Form Usual) (MapAt Usual) members s b ns t → IsBetter (λ s b t. BodyOfBy IsBest IsShortestMap members s b ns t) s b t
better_body_of None is ns s b t holds h = absurd h
better_body_of (Some members) is ns s b t holds h = better_body members (is members refl) ns s b t holds h

module _ (set : List Resolved) (parts : AllByRecursion (λ t. EachPartIn IsFieldPart t.members) set) where
  pub better_message : (d : Dictionary) (b : List ℕ) (m : Content) (after : Dictionary) → HoldScalars d → MessageForm Usual set d b m after → IsBetterWhole (λ x. CanonMessage set d x m after) b after
  better_message d b m after holds h =
      let id : Option Scalar = Some (U32 m.template) in
      let members = members_of set m.template in
      let better = better_with_map
      (λ s x t. Then (λ y u. PartBy (Form Usual) identifier s y id u) (λ u z. BodyOfBy (Form Usual) (MapAt Usual) members u z m.items t) x)
      (λ s x t. Then (λ y u. PartBy IsBest identifier s y id u) (λ u z. BodyOfBy IsBest IsShortestMap members u z m.items t) x)
      d b after
      (λ bits left x o.
      let first = better_part identifier id (with_bits d bits) o.front o.between identifier_is holds o.first in
      better_then (λ s y u. PartBy IsBest identifier s y id u) (λ u z t. BodyOfBy IsBest IsShortestMap members u z m.items t) (with_bits d bits) o.between (with_bits after left) x o.front o.back o.parts
      first (better_body_of members (members_have (EachPartIn IsFieldPart) set parts m.template) m.items o.between o.back (with_bits after left) first.holds o.second))
      h.segment in
      record { bytes = better.bytes; stands = record { few = h.few; segment = better.stands }; no_longer = better.no_longer; holds = better.holds }

  pub better_stream : (ms : List Content) (d : Dictionary) (b : List ℕ) (after : Dictionary) → HoldScalars d → CarriesFrom Usual set d b ms after → IsBetterWhole (λ x. CanonFrom set d x ms after) b after
  better_stream [] d b after holds h = whole_none (λ x. CanonFrom set d x [] after) b after (refl, h.1) (subst HoldScalars (sym h.1) holds)
  better_stream (m ∷ ms) d b after holds h =
      let first = better_message d h.front m h.between holds h.first in
      whole_then (λ x e. CanonMessage set d x m e) (λ e y. CanonFrom set e y ms after) h.between after b h.front h.back h.parts first (better_stream ms h.between h.back after first.holds h.second)
