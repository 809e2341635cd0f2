-- What is spelled in one way is spelled in each way that allows it.
use Rattle.fast_stream.proofs.Common.{◌≡◌, ℕ, Bool, true, false, List, [], ◌∷◌, Option, Some, None, Scalar, U32, I32, I64, Decimal, FieldPart, Instruction, Instructions, whole_field, field_in_parts, group_of, sequence_of, no_instructions, then_instruction, has_map, Resolved, Dictionary, Item, single, group_items, sequence_elements, Items, no_items, then_item, Elements, no_elements, then_element, element_count, Content, Spelling, Mapping, IsSpelling, IsMapping, State, Then, Each, WithMap, PartBy, SegmentBy, PieceBy, BodyBy, members_of, identifier, BodyOfBy, MessageFormBy, CarriesBy}

then_weaker : {A : Type 0} (P R : List ℕ → A → Type 0) (Q S : A → List ℕ → Type 0) → ((x : List ℕ) (a : A) → P x a → R x a) → ((a : A) (y : List ℕ) → Q a y → S a y)
    → (b : List ℕ) → Then P Q b → Then R S b
then_weaker P R Q S f g b h = record { between = h.between; front = h.front; back = h.back; parts = h.parts; first = f h.front h.between h.first; second = g h.between h.back h.second }

each_weaker : (One Two : Dictionary → List ℕ → Items → Dictionary → Type 0) → ((d : Dictionary) (b : List ℕ) (ns : Items) (after : Dictionary) → One d b ns after → Two d b ns after)
    → (es : Elements) (d : Dictionary) (b : List ℕ) (after : Dictionary) → Each One d b es after → Each Two d b es after
each_weaker One Two one no_elements d b after h = h
each_weaker One Two one (then_element ns es) d b after h =
    then_weaker (λ x e. One d x ns e) (λ x e. Two d x ns e) (λ e y. Each One e y es after) (λ e y. Each Two e y es after)
    (λ x e o. one d x ns e o) (λ e y o. each_weaker One Two one es e y after o) b h

module _ (P Q : Spelling) (M N : Mapping) (fields : IsSpelling P Q) (maps : IsMapping M N) where
  part_weaker : (p : FieldPart) (s : State) (b : List ℕ) (v : Option Scalar) (after : State) → PartBy P p s b v after → PartBy Q p s b v after
  part_weaker p s b v after h = (fields p _ _ b v h.0, h.1)

  map_weaker : (Inside Other : State → List ℕ → State → Type 0) → ((s : State) (x : List ℕ) (t : State) → Inside s x t → Other s x t)
      → (d : Dictionary) (b : List ℕ) (after : Dictionary) → WithMap M Inside d b after → WithMap N Other d b after
  map_weaker Inside Other f d b after h =
      record { bits = h.bits; left = h.left; map = h.map; body = h.body; parts = h.parts; map_form = maps h.bits h.left h.map h.map_form; inside = f _ h.body _ h.inside }

  segment_weaker : (has : Bool) (Inside Other : State → List ℕ → State → Type 0) → ((s : State) (x : List ℕ) (t : State) → Inside s x t → Other s x t)
      → (d : Dictionary) (b : List ℕ) (after : Dictionary) → SegmentBy M has Inside d b after → SegmentBy N has Other d b after
  segment_weaker true Inside Other f d b after h = map_weaker Inside Other f d b after h
  segment_weaker false Inside Other f d b after h = f _ b _ h

  mutual
    pub piece_weaker : (i : Instruction) (s : State) (b : List ℕ) (n : Item) (after : State) → PieceBy P M i s b n after → PieceBy Q N i s b n after
    piece_weaker (whole_field name number presence whole) s b (single v) after h = part_weaker whole s b v after h
    piece_weaker (field_in_parts name number presence exponent mantissa) s b (single None) after h = part_weaker exponent s b None after h
    piece_weaker (field_in_parts name number presence exponent mantissa) s b (single (Some (Decimal e m))) after h =
        then_weaker (λ x t. PartBy P exponent s x (Some (I32 e)) t) (λ x t. PartBy Q exponent s x (Some (I32 e)) t)
        (λ t y. PartBy P mantissa t y (Some (I64 m)) after) (λ t y. PartBy Q mantissa t y (Some (I64 m)) after)
        (λ x t o. part_weaker exponent s x (Some (I32 e)) t o) (λ t y o. part_weaker mantissa t y (Some (I64 m)) after o) b h
    piece_weaker (group_of name number presence members) s b (single None) after h = h
    piece_weaker (group_of name number presence members) s b (group_items ns) after h = (
      h.0,
      h.1,
      segment_weaker (has_map members) (λ t x u. BodyBy P M members t x ns u) (λ t x u. BodyBy Q N members t x ns u) (λ t x u o. body_weaker members t x ns u o)
          s.dictionary b after.dictionary h.2,
    )
    piece_weaker (sequence_of name number presence length members) s b (single None) after h = part_weaker length s b None after h
    piece_weaker (sequence_of name number presence length members) s b (sequence_elements es) after h =
        let One : Dictionary → List ℕ → Items → Dictionary → Type 0 = λ d x ns e. SegmentBy M (has_map members) (λ t z u. BodyBy P M members t z ns u) d x e in
        let Two : Dictionary → List ℕ → Items → Dictionary → Type 0 = λ d x ns e. SegmentBy N (has_map members) (λ t z u. BodyBy Q N members t z ns u) d x e in
        then_weaker (λ x t. PartBy P length s x (Some (U32 (element_count es))) t) (λ x t. PartBy Q length s x (Some (U32 (element_count es))) t)
        (λ t y. (after.bits ≡ t.bits) × Each One t.dictionary y es after.dictionary) (λ t y. (after.bits ≡ t.bits) × Each Two t.dictionary y es after.dictionary)
        (λ x t o. part_weaker length s x (Some (U32 (element_count es))) t o)
        (λ t y o. (
          o.0,
          each_weaker One Two
              (λ d x ns e o'. segment_weaker (has_map members) (λ t' z u. BodyBy P M members t' z ns u) (λ t' z u. BodyBy Q N members t' z ns u) (λ t' z u o''. body_weaker members t' z ns u o'') d x e o')
              es t.dictionary y after.dictionary o.1,
        )) b h
    piece_weaker i s b n after h = absurd h

    pub body_weaker : (is : Instructions) (s : State) (b : List ℕ) (ns : Items) (after : State) → BodyBy P M is s b ns after → BodyBy Q N is s b ns after
    body_weaker no_instructions s b no_items after h = h
    body_weaker (then_instruction i is) s b (then_item n ns) after h =
        then_weaker (λ x t. PieceBy P M i s x n t) (λ x t. PieceBy Q N i s x n t) (λ t y. BodyBy P M is t y ns after) (λ t y. BodyBy Q N is t y ns after)
        (λ x t o. piece_weaker i s x n t o) (λ t y o. body_weaker is t y ns after o) b h
    body_weaker is s b ns after h = absurd h

  body_of_weaker : (members : Option Instructions) (s : State) (b : List ℕ) (ns : Items) (after : State) → BodyOfBy P M members s b ns after → BodyOfBy Q N members s b ns after
  body_of_weaker None s b ns after h = absurd h
  body_of_weaker (Some members) s b ns after h = body_weaker members s b ns after h

  pub message_weaker : (set : List Resolved) (d : Dictionary) (b : List ℕ) (m : Content) (after : Dictionary) → MessageFormBy P M set d b m after → MessageFormBy Q N set d b m after
  message_weaker set d b m after h =
      let id : Option Scalar = Some (U32 m.template) in
      record {
        few = h.few;
        segment = map_weaker
            (λ s x t. Then (λ y u. PartBy P identifier s y id u) (λ u z. BodyOfBy P M (members_of set m.template) u z m.items t) x)
            (λ s x t. Then (λ y u. PartBy Q identifier s y id u) (λ u z. BodyOfBy Q N (members_of set m.template) u z m.items t) x)
            (λ s x t. then_weaker (λ y u. PartBy P identifier s y id u) (λ y u. PartBy Q identifier s y id u)
            (λ u z. BodyOfBy P M (members_of set m.template) u z m.items t) (λ u z. BodyOfBy Q N (members_of set m.template) u z m.items t)
            (λ y u o. part_weaker identifier s y id u o) (λ u z o. body_of_weaker (members_of set m.template) u z m.items t o) x)
            d b after h.segment;
      }

  pub carries_weaker : (set : List Resolved) (ms : List Content) (d : Dictionary) (b : List ℕ) (after : Dictionary) → CarriesBy P M set d b ms after → CarriesBy Q N set d b ms after
  carries_weaker set [] d b after h = h
  carries_weaker set (m ∷ ms) d b after h =
      then_weaker (λ x e. MessageFormBy P M set d x m e) (λ x e. MessageFormBy Q N set d x m e) (λ e y. CarriesBy P M set e y ms after) (λ e y. CarriesBy Q N set e y ms after)
      (λ x e o. message_weaker set d x m e o) (λ e y o. carries_weaker set ms e y after o) b h
