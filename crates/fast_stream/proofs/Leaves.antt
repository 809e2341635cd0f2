-- What a message leaves behind it, in the dictionary and of its map, follows from its items alone.
use Rattle.fast_stream.proofs.Common.{◌≡◌, ℕ, Bool, true, false, List, [], ◌∷◌, drop, Option, Some, None, refl, sym, ap, ◌∙◌, drop-drop, ◌||◌, Level, U32, I32, I64, Decimal, Instruction, Instructions, whole_field, field_in_parts, group_of, sequence_of, no_instructions, then_instruction, part_needs_bit, is_optional, has_map, Resolved, takes_bit, Dictionary, Form, Item, single, group_items, sequence_elements, Items, no_items, then_item, Elements, no_elements, then_element, element_count, Content, after_bit, bits_taken, takes_one, takes, Spelling, Mapping, State, Each, written, SegmentBy, PieceBy, BodyBy}
use Rattle.fast_stream.specs.Streams.{members_of, identifier, MapAt, Body, BodyOfBy, MessageFormBy, CarriesBy, CarriesFrom}

-- ---- the dictionary

abbrev mutual
  piece_leaves : Instruction → Dictionary → Item → Dictionary
  piece_leaves (whole_field name number presence whole) d (single v) = written whole d v
  piece_leaves (field_in_parts name number presence exponent mantissa) d (single None) = written exponent d None
  piece_leaves (field_in_parts name number presence exponent mantissa) d (single (Some (Decimal e m))) = written mantissa (written exponent d (Some (I32 e))) (Some (I64 m))
  piece_leaves (group_of name number presence members) d (group_items ns) = body_leaves members d ns
  piece_leaves (sequence_of name number presence length members) d (single v) = written length d v
  piece_leaves (sequence_of name number presence length members) d (sequence_elements es) = each_leaves members (written length d (Some (U32 (element_count es)))) es
  piece_leaves i d n = d

  body_leaves : Instructions → Dictionary → Items → Dictionary
  body_leaves (then_instruction i is) d (then_item n ns) = body_leaves is (piece_leaves i d n) ns
  body_leaves is d ns = d

  each_leaves : Instructions → Dictionary → Elements → Dictionary
  each_leaves members d no_elements = d
  each_leaves members d (then_element ns es) = each_leaves members (body_leaves members d ns) es

abbrev of_leaves : Option Instructions → Dictionary → Items → Dictionary
of_leaves None d ns = d
of_leaves (Some members) d ns = body_leaves members d ns

abbrev message_leaves : List Resolved → Dictionary → Content → Dictionary
message_leaves set d m = of_leaves (members_of set m.template) (written identifier d (Some (U32 m.template))) m.items

abbrev pub messages_leave : List Resolved → Dictionary → List Content → Dictionary
messages_leave set d [] = d
messages_leave set d (m ∷ ms) = messages_leave set (message_leaves set d m) ms

module _ (P : Spelling) (M : Mapping) where
  segment_left : (has : Bool) (Inside : State → List ℕ → State → Type 0) (d : Dictionary) (b : List ℕ) (after e : Dictionary)
      → ((s : State) (x : List ℕ) (t : State) → Inside s x t → s.dictionary ≡ d → t.dictionary ≡ e) → SegmentBy M has Inside d b after → after ≡ e
  segment_left true Inside d b after e left h = left _ h.body _ h.inside refl
  segment_left false Inside d b after e left h = left _ b _ h refl

  mutual
    piece_left : (i : Instruction) (s : State) (b : List ℕ) (n : Item) (after : State) → PieceBy P M i s b n after → after.dictionary ≡ piece_leaves i s.dictionary n
    piece_left (whole_field name number presence whole) s b (single v) after h = ap (λ t. t.dictionary) h.1
    piece_left (field_in_parts name number presence exponent mantissa) s b (single None) after h = ap (λ t. t.dictionary) h.1
    piece_left (field_in_parts name number presence exponent mantissa) s b (single (Some (Decimal e m))) after h =
        ap (λ t. t.dictionary) h.second.1 ∙ ap (λ t. written mantissa t.dictionary (Some (I64 m))) h.first.1
    piece_left (group_of name number presence members) s b (single None) after h = ap (λ t. t.dictionary) h.2
    piece_left (group_of name number presence members) s b (group_items ns) after h =
        segment_left (has_map members) (λ t x u. BodyBy P M members t x ns u) s.dictionary b after.dictionary (body_leaves members s.dictionary ns)
        (λ t x u o e. body_left members t x ns u o ∙ ap (λ d. body_leaves members d ns) e) h.2
    piece_left (sequence_of name number presence length members) s b (single None) after h = ap (λ t. t.dictionary) h.1
    piece_left (sequence_of name number presence length members) s b (sequence_elements es) after h =
        each_left members es h.between.dictionary h.back after.dictionary h.second.1 ∙ ap (λ t. each_leaves members t.dictionary es) h.first.1
    piece_left i s b n after h = absurd h

    body_left : (is : Instructions) (s : State) (b : List ℕ) (ns : Items) (after : State) → BodyBy P M is s b ns after → after.dictionary ≡ body_leaves is s.dictionary ns
    body_left no_instructions s b no_items after h = ap (λ t. t.dictionary) h.1
    body_left (then_instruction i is) s b (then_item n ns) after h =
        body_left is h.between h.back ns after h.second ∙ ap (λ d. body_leaves is d ns) (piece_left i s h.front n h.between h.first)
    body_left is s b ns after h = absurd h

    each_left : (members : Instructions) (es : Elements) (d : Dictionary) (b : List ℕ) (after : Dictionary)
        → Each (λ d' x ns e. SegmentBy M (has_map members) (λ t z u. BodyBy P M members t z ns u) d' x e) d b es after → after ≡ each_leaves members d es
    each_left members no_elements d b after h = h.1
    each_left members (then_element ns es) d b after h =
        each_left members es h.between h.back after h.second
        ∙ ap (λ e. each_leaves members e es) (segment_left (has_map members) (λ t z u. BodyBy P M members t z ns u) d h.front h.between (body_leaves members d ns)
        (λ t x u o e. body_left members t x ns u o ∙ ap (λ d'. body_leaves members d' ns) e) h.first)

  of_left : (members : Option Instructions) (s : State) (b : List ℕ) (ns : Items) (after : State) → BodyOfBy P M members s b ns after
      → after.dictionary ≡ of_leaves members s.dictionary ns
  of_left None s b ns after h = absurd h
  of_left (Some members) s b ns after h = body_left members s b ns after h

  message_left : (set : List Resolved) (d : Dictionary) (b : List ℕ) (m : Content) (after : Dictionary) → MessageFormBy P M set d b m after → after ≡ message_leaves set d m
  message_left set d b m after h =
      let inside = h.segment.inside in
      of_left (members_of set m.template) inside.between inside.back m.items _ inside.second ∙ ap (λ t. of_leaves (members_of set m.template) t.dictionary m.items) inside.first.1

  pub carries_left : (set : List Resolved) (ms : List Content) (d : Dictionary) (b : List ℕ) (after : Dictionary) → CarriesBy P M set d b ms after → after ≡ messages_leave set d ms
  carries_left set [] d b after h = h.1
  carries_left set (m ∷ ms) d b after h =
      carries_left set ms h.between h.back after h.second ∙ ap (λ e. messages_leave set e ms) (message_left set d h.front m h.between h.first)

pub same_dictionary : (level : Level) → (set : List Resolved) (d : Dictionary) (stream other : List ℕ) (messages : List Content) (after later : Dictionary)
    → CarriesFrom level set d stream messages after → CarriesFrom level set d other messages later → after ≡ later
same_dictionary level set d stream other messages after later h k = carries_left (Form level) (MapAt level) set messages d stream after h ∙ sym (carries_left (Form level) (MapAt level) set messages d other later k)

-- ---- the map

after_bit-drop : (needs : Bool) (bits : List Bool) → after_bit needs bits ≡ drop (bits_taken needs) bits
after_bit-drop false bits = refl
after_bit-drop true [] = refl
after_bit-drop true (b ∷ bits) = refl

module _ (P : Spelling) (M : Mapping) where
  piece_bits : (i : Instruction) (s : State) (b : List ℕ) (n : Item) (after : State) → PieceBy P M i s b n after → after.bits ≡ drop (takes_one i n) s.bits
  piece_bits (whole_field name number presence whole) s b (single v) after h = ap (λ t. t.bits) h.1 ∙ after_bit-drop (part_needs_bit whole) s.bits
  piece_bits (field_in_parts name number presence exponent mantissa) s b (single None) after h = ap (λ t. t.bits) h.1 ∙ after_bit-drop (part_needs_bit exponent) s.bits
  piece_bits (field_in_parts name number presence exponent mantissa) s b (single (Some (Decimal e m))) after h =
      ap (λ t. t.bits) h.second.1 ∙ after_bit-drop (part_needs_bit mantissa) h.between.bits
      ∙ ap (drop (bits_taken (part_needs_bit mantissa))) (ap (λ t. t.bits) h.first.1 ∙ after_bit-drop (part_needs_bit exponent) s.bits)
      ∙ drop-drop (bits_taken (part_needs_bit mantissa)) (bits_taken (part_needs_bit exponent)) s.bits
  piece_bits (group_of name number presence members) s b (single None) after h = ap (λ t. t.bits) h.2 ∙ after_bit-drop (is_optional presence) s.bits
  piece_bits (group_of name number presence members) s b (group_items ns) after h = h.1 ∙ after_bit-drop (is_optional presence) s.bits
  piece_bits (sequence_of name number presence length members) s b (single None) after h = ap (λ t. t.bits) h.1 ∙ after_bit-drop (part_needs_bit length) s.bits
  piece_bits (sequence_of name number presence length members) s b (sequence_elements es) after h =
      h.second.0 ∙ ap (λ t. t.bits) h.first.1 ∙ after_bit-drop (part_needs_bit length) s.bits
  piece_bits i s b n after h = absurd h

  body_bits : (is : Instructions) (s : State) (b : List ℕ) (ns : Items) (after : State) → BodyBy P M is s b ns after → after.bits ≡ drop (takes is ns) s.bits
  body_bits no_instructions s b no_items after h = ap (λ t. t.bits) h.1
  body_bits (then_instruction i is) s b (then_item n ns) after h =
      body_bits is h.between h.back ns after h.second ∙ ap (drop (takes is ns)) (piece_bits i s h.front n h.between h.first) ∙ drop-drop (takes is ns) (takes_one i n) s.bits
  body_bits is s b ns after h = absurd h

pub bits_taken_are : (level : Level) → (members : Instructions) (before after : State) (bytes : List ℕ) (items : Items)
    → Body level members before bytes items after → after.bits ≡ drop (takes members items) before.bits
bits_taken_are level members before after bytes items h = body_bits (Form level) (MapAt level) members before bytes items after h

-- ---- a list that asks for no map takes no bits

either_false : (t u : Bool) → (t || u) ≡ false → (t ≡ false) × (u ≡ false)
either_false true u h = absurd cc
either_false false u h = (refl, h)

takes_none : (i : Instruction) (n : Item) → takes_bit i ≡ false → takes_one i n ≡ 0
takes_none (whole_field name number presence whole) n h = rw h refl
takes_none (field_in_parts name number presence exponent mantissa) (single None) h = let e = either_false (part_needs_bit exponent) (part_needs_bit mantissa) h in rw e.0 refl
takes_none (field_in_parts name number presence exponent mantissa) (single (Some v)) h = let e = either_false (part_needs_bit exponent) (part_needs_bit mantissa) h in rw (e.0, e.1) refl
takes_none (field_in_parts name number presence exponent mantissa) (group_items ns) h = let e = either_false (part_needs_bit exponent) (part_needs_bit mantissa) h in rw (e.0, e.1) refl
takes_none (field_in_parts name number presence exponent mantissa) (sequence_elements es) h = let e = either_false (part_needs_bit exponent) (part_needs_bit mantissa) h in rw (e.0, e.1) refl
takes_none (group_of name number presence members) n h = rw h refl
takes_none (sequence_of name number presence length members) n h = rw h refl

pub no_bits_are_taken : (members : Instructions) (items : Items) → has_map members ≡ false → takes members items ≡ 0
no_bits_are_taken no_instructions items h = refl
no_bits_are_taken (then_instruction i is) no_items h = refl
no_bits_are_taken (then_instruction i is) (then_item n ns) h =
    let e = either_false (takes_bit i) (has_map is) h in
    rw (takes_none i n e.0, no_bits_are_taken is ns e.1) refl
