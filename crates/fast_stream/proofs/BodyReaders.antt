-- The reading functions of pieces and bodies read their forms, and stop exactly at their faults.
use Rattle.fast_stream.proofs.Common.{◌≡◌, ℕ, zero, suc, ◌+◌, ℤ, Bool, true, false, List, [], ◌++◌, length, drop, Option, Some, None, Result, Ok, Err, refl, sym, ap, subst, ◌∙◌, ◌⊎◌, inl, inr, arith, append-nil, zero-add, IsTrue, Level, ◌>>=◌, map_at, WireFault, Kind, Presence, Mandatory, Scalar, U32, I32, U64, I64, Decimal, Ascii, Unicode, Bytes, FieldPart, is_of, Instruction, Instructions, whole_field, field_in_parts, group_of, sequence_of, no_instructions, then_instruction, part_needs_bit, is_optional, has_map, IsTyped, HasTypedParts, HaveTypedParts, Entry, Dictionary, entry_at, FieldFault, Form, HasDefault, field_at, field_forms, Item, single, group_items, sequence_elements, Items, no_items, then_item, Elements, no_elements, then_element, element_count, nodes_of, nodes_in, nodes_in_elements, bit_for, after_bit, takes, Mapping, State, Then, Each, SegmentBy, PieceBy, BodyBy, after_part, MapAt, MapEntity, cause_of_wire, cause_of_field, MapFault, ClosedStops, Stop, StopsAt, PartStops, SegmentStops, Part, Passed, EachStops, PieceStops, BodyStops, Cursor, state_of, Reads, placed, node_at, field_part_at, decimal_of, mantissa_at, segment_at, closing, each_at, elements_at, group_at, behind_bit, piece_at, body_at, cursor, IsPieceReader, Cause, R7, Truncated, judge, overlong_map}
use Rattle.fast_stream.proofs.Leaves.{bits_taken_are}
use Rattle.fast_stream.proofs.Ends.{Closed, closed_at, entity_of, mapped, inside_of, closed_of, closed_bare, as_cause, map_judged, maps_judged, map_refused_at, map_faulty_at}
use Rattle.fast_stream.proofs.PieceReaders.{restore, restored_reader, chosen_reader, bound_again_is, Forms, Stopping, Bound, BoundStops, Made, Given, NeverStops, CountedStops, placed_reader, counted_reader, bound_reader, made_reader, given_reader, reader_as}

module _ (level : Level) where
  -- what is known of the values of a part: they are of its type, and there where it is mandatory
  pub record IsExact (p : FieldPart) : Type 0 where
    pub default : HasDefault p
    pub of_kind : (e : Entry) (bit : Bool) (b : List ℕ) (v : Scalar) → Form level p e bit b (Some v) → IsTrue (is_of p.kind v)
    pub there : p.presence ≡ Mandatory → (e : Entry) (bit : Bool) (b : List ℕ) → Form level p e bit b None → ⊥

  -- ---- a part

  bit_is : (needs : Bool) (bits : List Bool) → needs ≡ false → bit_for needs bits ≡ true
  bit_is true bits e = absurd cc
  bit_is false bits e = refl

  abbrev pub PartStopping : FieldPart → Stopping
  PartStopping p s spare rest stop = PartStops level p s rest stop

  pub part_reader : (p : FieldPart) → IsExact p → IsPieceReader (λ _. 0) (Part level p) (PartStopping p) (field_part_at level p)
  unfolding field_part_at
  part_reader p exact =
      placed_reader FieldFault.NeedMore cause_of_field p.number
      (λ s. field_at level p (entry_at s.dictionary p.key) (bit_for (part_needs_bit p) s.bits))
      (λ s. Form level p (entry_at s.dictionary p.key) (bit_for (part_needs_bit p) s.bits))
      (after_part p) refl
      (λ s. field_forms level p (entry_at s.dictionary p.key) (bit_for (part_needs_bit p) s.bits) (bit_is (part_needs_bit p) s.bits) exact.default)

  -- ---- a decimal in parts

  abbrev IsExponent : Option Scalar → Type 0
  IsExponent None = Unit {0}
  IsExponent (Some (I32 e)) = Unit {0}
  IsExponent (Some v) = ⊥

  abbrev IsMantissa : Option Scalar → Type 0
  IsMantissa (Some (I64 m)) = Unit {0}
  IsMantissa v = ⊥

  abbrev pub IsLength : Option Scalar → Type 0
  IsLength None = Unit {0}
  IsLength (Some (U32 n)) = Unit {0}
  IsLength (Some v) = ⊥

  of_int32 : (v : Scalar) → IsTrue (is_of Kind.Int32 v) → IsExponent (Some v)
  of_int32 (U32 n) h = absurd cc
  of_int32 (I32 z) h = tt
  of_int32 (U64 n) h = absurd cc
  of_int32 (I64 z) h = absurd cc
  of_int32 (Decimal e m) h = absurd cc
  of_int32 (Ascii s) h = absurd cc
  of_int32 (Unicode s) h = absurd cc
  of_int32 (Bytes s) h = absurd cc

  of_int64 : (v : Scalar) → IsTrue (is_of Kind.Int64 v) → IsMantissa (Some v)
  of_int64 (U32 n) h = absurd cc
  of_int64 (I32 z) h = absurd cc
  of_int64 (U64 n) h = absurd cc
  of_int64 (I64 z) h = tt
  of_int64 (Decimal e m) h = absurd cc
  of_int64 (Ascii s) h = absurd cc
  of_int64 (Unicode s) h = absurd cc
  of_int64 (Bytes s) h = absurd cc

  pub of_uint32 : (v : Scalar) → IsTrue (is_of Kind.UInt32 v) → IsLength (Some v)
  of_uint32 (U32 n) h = tt
  of_uint32 (I32 z) h = absurd cc
  of_uint32 (U64 n) h = absurd cc
  of_uint32 (I64 z) h = absurd cc
  of_uint32 (Decimal e m) h = absurd cc
  of_uint32 (Ascii s) h = absurd cc
  of_uint32 (Unicode s) h = absurd cc
  of_uint32 (Bytes s) h = absurd cc

  exponent_possible : (p : FieldPart) → IsExact p → p.kind ≡ Kind.Int32 → (s : State) (b : List ℕ) (v : Option Scalar) (t : State) → Part level p s b v t → IsExponent v
  exponent_possible p exact is s b None t h = tt
  exponent_possible p exact is s b (Some v) t h = of_int32 v (rw is at (exact.of_kind _ _ b v h.0))

  mantissa_possible : (p : FieldPart) → IsExact p → p.kind ≡ Kind.Int64 → p.presence ≡ Mandatory → (s : State) (b : List ℕ) (v : Option Scalar) (t : State) → Part level p s b v t → IsMantissa v
  mantissa_possible p exact is mandatory s b None t h = absurd (exact.there mandatory _ _ b h.0)
  mantissa_possible p exact is mandatory s b (Some v) t h = of_int64 v (rw is at (exact.of_kind _ _ b v h.0))

  length_possible : (p : FieldPart) → IsExact p → p.kind ≡ Kind.UInt32 → (s : State) (b : List ℕ) (v : Option Scalar) (t : State) → Part level p s b v t → IsLength v
  length_possible p exact is s b None t h = tt
  length_possible p exact is s b (Some v) t h = of_uint32 v (rw is at (exact.of_kind _ _ b v h.0))

  -- the nodes of an item but for its own
  abbrev pub nodes_inside : Item → ℕ
  nodes_inside (single v) = 0
  nodes_inside (group_items ns) = nodes_in ns
  nodes_inside (sequence_elements es) = nodes_in_elements es

  nodes_of_is : (n : Item) → nodes_of n ≡ 1 + nodes_inside n
  nodes_of_is (single v) = refl
  nodes_of_is (group_items ns) = refl
  nodes_of_is (sequence_elements es) = refl

  abbrev DecimalOf : ℤ → Option Scalar → Forms Item
  DecimalOf e (Some (I64 m)) = Given (single (Some (Decimal e m)))
  DecimalOf e v = λ s b n t. ⊥

  decimal_reader : (e : ℤ) (v : Option Scalar) → IsMantissa v → IsPieceReader nodes_inside (DecimalOf e v) NeverStops (λ c. decimal_of e (v, c))
  decimal_reader e None h = absurd h
  decimal_reader e (Some (U32 n)) h = absurd h
  decimal_reader e (Some (I32 z)) h = absurd h
  decimal_reader e (Some (U64 n)) h = absurd h
  decimal_reader e (Some (I64 m)) h = given_reader (single (Some (Decimal e m))) nodes_inside refl
  decimal_reader e (Some (Decimal x m)) h = absurd h
  decimal_reader e (Some (Ascii s)) h = absurd h
  decimal_reader e (Some (Unicode s)) h = absurd h
  decimal_reader e (Some (Bytes s)) h = absurd h

  abbrev MantissaOf : FieldPart → Option Scalar → Forms Item
  MantissaOf p None = Given (single None)
  MantissaOf p (Some (I32 e)) = Bound (Part level p) (DecimalOf e)
  MantissaOf p (Some v) = λ s b n t. ⊥

  abbrev MantissaStops : FieldPart → Option Scalar → Stopping
  MantissaStops p None = NeverStops
  MantissaStops p (Some (I32 e)) = BoundStops (λ _. 0) (Part level p) (PartStopping p) (λ v. NeverStops)
  MantissaStops p (Some v) = NeverStops

  mantissa_reader : (p : FieldPart) → IsExact p → p.kind ≡ Kind.Int64 → p.presence ≡ Mandatory → (v : Option Scalar) → IsExponent v
      → IsPieceReader nodes_inside (MantissaOf p v) (MantissaStops p v) (λ c. mantissa_at level p (v, c))
  mantissa_reader p exact is mandatory None h = given_reader (single None) nodes_inside refl
  mantissa_reader p exact is mandatory (Some (U32 n)) h = absurd h
  mantissa_reader p exact is mandatory (Some (I32 e)) h =
      bound_reader (λ _. 0) (λ _ n. nodes_inside n) nodes_inside (Part level p) (DecimalOf e) (PartStopping p) (λ v. NeverStops) IsMantissa (field_part_at level p) (λ v c. decimal_of e (v, c))
      (part_reader p exact) (mantissa_possible p exact is mandatory) (decimal_reader e) (λ x s b y t h. sym (zero-add (nodes_inside y)))
  mantissa_reader p exact is mandatory (Some (U64 n)) h = absurd h
  mantissa_reader p exact is mandatory (Some (I64 z)) h = absurd h
  mantissa_reader p exact is mandatory (Some (Decimal x m)) h = absurd h
  mantissa_reader p exact is mandatory (Some (Ascii s)) h = absurd h
  mantissa_reader p exact is mandatory (Some (Unicode s)) h = absurd h
  mantissa_reader p exact is mandatory (Some (Bytes s)) h = absurd h

  abbrev as_bits : List Bool × Cursor → Reads (List Bool)
  as_bits x = Ok x

  abbrev as_cursor : Cursor → Result Cursor Stop
  as_cursor c = Ok c

  -- the bytes and the bits of a map, whatever is left of it
  abbrev EntityMap : Mapping
  EntityMap bits left bytes = MapEntity level bytes bits

  -- ---- a segment: its map where it has one, and what is inside

  module _ {A : Type 0} (number : ℕ) (nodes : A → ℕ) (Inside : Forms A) (InsideStops : Stopping) (inside : Cursor → Reads A) (is : IsPieceReader nodes Inside InsideStops inside)
      (empty : (s : State) (b : List ℕ) (x : A) (t : State) → Inside s b x t → s.bits ≡ [] → t.bits ≡ []) where
    abbrev pub SegmentForm : Bool → Forms A
    SegmentForm has s b x t = (t.bits ≡ s.bits) × SegmentBy EntityMap has (λ u y w. Inside u y x w) s.dictionary b t.dictionary

    abbrev pub SegmentStopping : Bool → Stopping
    SegmentStopping has s spare rest stop = SegmentStops level number has (λ u y. InsideStops u spare y stop) s.dictionary rest stop

    abbrev under : Dictionary → List Bool → State
    under d bits = record { dictionary = d; bits = bits }

    -- without a map
    blank_reader : IsPieceReader nodes (λ s b x t. Inside (under s.dictionary []) b x t) (λ s spare rest stop. InsideStops (under s.dictionary []) spare rest stop) (λ c. inside (cursor (under c.dictionary []) c.spare c.bytes))
    blank_reader = chosen_reader nodes (λ (x : Bool). Inside) (λ x. InsideStops) (λ x. inside) (λ x. is) (λ s. true) (λ s. under s.dictionary [])

    unmapped_reader : IsPieceReader nodes (SegmentForm false) (SegmentStopping false) (segment_at level number false inside)
    unmapped_reader =
        restored_reader nodes (λ s b x t. Inside (under s.dictionary []) b x t) (λ s b x d. SegmentBy EntityMap false (λ u y w. Inside u y x w) s.dictionary b d)
        (λ s spare rest stop. InsideStops (under s.dictionary []) spare rest stop) (λ c. inside (cursor (under c.dictionary []) c.spare c.bytes)) blank_reader
        (λ s b x u h. subst (λ (bits : List Bool). Inside (under s.dictionary []) b x (under u.dictionary bits)) (empty (under s.dictionary []) b x u h refl) h)
        (λ s b x d h. ([], h))

    -- with one
    abbrev with_bits : State → List Bool → State
    with_bits s bits = under s.dictionary bits

    map_reader : IsPieceReader (λ _. 0) (λ s b bits t. MapEntity level b bits × (t ≡ with_bits s bits))
        (λ s spare rest stop. StopsAt number (λ cause. (f : Cause) × (map_judged level rest ≡ Err f) × (cause ≡ f)) rest stop)
        (λ c. placed (λ (f : Cause). f) number c.bytes (map_judged level c.bytes) >>= λ v. Ok (v.0, cursor (with_bits (state_of c) v.0) c.spare v.1))
    map_reader = placed_reader Truncated (λ (f : Cause). f) number (λ s. map_judged level) (λ s. MapEntity level) with_bits refl (λ s. maps_judged level)

    abbrev MapForm : Forms (List Bool)
    MapForm s b bits t = MapEntity level b bits × (t ≡ with_bits s bits)

    abbrev MapStopping : Stopping
    MapStopping s spare rest stop = StopsAt number (λ cause. (f : Cause) × (map_judged level rest ≡ Err f) × (cause ≡ f)) rest stop

    abbrev reading_map : Cursor → Reads (List Bool)
    reading_map c = placed (λ (f : Cause). f) number c.bytes (map_judged level c.bytes) >>= λ v. as_bits (v.0, cursor (with_bits (state_of c) v.0) c.spare v.1)

    abbrev behind_map : Cursor → Reads A
    behind_map c = reading_map c >>= λ x. inside x.1

    behind_map_reader : IsPieceReader nodes (Bound MapForm (λ _. Inside)) (BoundStops (λ _. 0) MapForm MapStopping (λ _. InsideStops)) behind_map
    behind_map_reader =
        bound_reader (λ _. 0) (λ _ y. nodes y) nodes MapForm (λ _. Inside) MapStopping (λ _. InsideStops) (λ _. Unit {0}) reading_map (λ x. inside)
        map_reader (λ s b x t h. tt) (λ x h. is) (λ x s b y t h. sym (zero-add (nodes y)))

    mapped_same : (c : Cursor) (j : Result (Unit {0}) Cause) (m : Result (List Bool × List ℕ) WireFault)
        → ((placed (λ (f : Cause). f) number c.bytes j >>= λ ok. (placed cause_of_wire number c.bytes m >>= λ v. as_cursor (cursor (with_bits (state_of c) v.0) c.spare v.1))) >>= inside)
        ≡ ((placed (λ (f : Cause). f) number c.bytes (j >>= λ ok. as_cause m) >>= λ v. as_bits (v.0, cursor (with_bits (state_of c) v.0) c.spare v.1)) >>= λ x. inside x.1)
    mapped_same c (Ok u) (Ok v) = refl
    mapped_same c (Ok u) (Err f) = refl
    mapped_same c (Err f) m = refl

    to_mapped : (s : State) (b : List ℕ) (x : A) (u : State) → Bound MapForm (λ _. Inside) s b x u → SegmentBy EntityMap true (λ u y w. Inside u y x w) s.dictionary b u.dictionary
    to_mapped s b x u h = record {
      bits = h.0;
      left = u.bits;
      map = h.1.front;
      body = h.1.back;
      parts = h.1.parts;
      map_form = h.1.first.0;
      inside = subst (λ (t : State). Inside t h.1.back x u) h.1.first.1 h.1.second;
    }

    from_mapped : (s : State) (b : List ℕ) (x : A) (d : Dictionary) → SegmentBy EntityMap true (λ u y w. Inside u y x w) s.dictionary b d → (bits : List Bool) × Bound MapForm (λ _. Inside) s b x (under d bits)
    from_mapped s b x d h = (h.left, (h.bits, record { between = with_bits s h.bits; front = h.map; back = h.body; parts = h.parts; first = (h.map_form, refl); second = h.inside }))

    to_map_stop : (s : State) (spare : ℕ) (rest : List ℕ) (stop : Stop) → BoundStops (λ _. 0) MapForm MapStopping (λ _. InsideStops) s spare rest stop → SegmentStopping true s spare rest stop
    to_map_stop s spare rest stop (inl h) = inl (record { instruction_is = h.instruction_is; left_is = h.left_is; fault = subst (λ (c : Cause). MapFault level rest c) (sym h.fault.2) (map_refused_at level rest h.fault.0 h.fault.1) })
    to_map_stop s spare rest stop (inr h) =
        let same : spare ≡ h.between.spare = h.first.1 ∙ zero-add h.between.spare in
        inr (record { between = h.between.value; front = h.front; back = h.back; parts = h.parts; first = h.first.0.0; second = rw (same, sym h.first.0.1) h.second })

    from_map_stop : (s : State) (spare : ℕ) (rest : List ℕ) (stop : Stop) → SegmentStopping true s spare rest stop → BoundStops (λ _. 0) MapForm MapStopping (λ _. InsideStops) s spare rest stop
    from_map_stop s spare rest stop (inl h) = inl (record { instruction_is = h.instruction_is; left_is = h.left_is; fault = (stop.cause, map_faulty_at level rest stop.cause h.fault, refl) })
    from_map_stop s spare rest stop (inr h) =
        inr (record { between = record { value = h.between; spare = spare; after = with_bits s h.between }; front = h.front; back = h.back; parts = h.parts; first = ((h.first, refl), sym (zero-add spare)); second = h.second })

    mapped_reader : IsPieceReader nodes (SegmentForm true) (SegmentStopping true) (segment_at level number true inside)
    mapped_reader =
        reader_as nodes nodes (SegmentForm true) (SegmentForm true) (BoundStops (λ _. 0) MapForm MapStopping (λ _. InsideStops)) (SegmentStopping true) (λ c. behind_map c >>= restore c.bits) (segment_at level number true inside)
        (λ c. ap (λ (r : Reads A). r >>= restore c.bits) (mapped_same c (judge level 256 overlong_map cause_of_wire R7 c.bytes) (map_at c.bytes))) (λ s b x t h. refl) (λ s b x t h. h) (λ s b x t h. h) to_map_stop from_map_stop
        (restored_reader nodes (Bound MapForm (λ _. Inside)) (λ s b x d. SegmentBy EntityMap true (λ u y w. Inside u y x w) s.dictionary b d) (BoundStops (λ _. 0) MapForm MapStopping (λ _. InsideStops)) behind_map behind_map_reader to_mapped from_mapped)

    pub segment_reader : (has : Bool) → IsPieceReader nodes (SegmentForm has) (SegmentStopping has) (segment_at level number has inside)
    segment_reader true = mapped_reader
    segment_reader false = unmapped_reader

  -- ---- elements, each a node and a segment

  abbrev as_elements : Elements × Cursor → Reads Elements
  as_elements x = Ok x

  -- the nodes of elements but for the first one's own
  nodes_in_elements_less : Elements → ℕ
  nodes_in_elements_less no_elements = 0
  nodes_in_elements_less (then_element ns es) = nodes_in ns + nodes_in_elements es

  state_is : (t s : State) → t.dictionary ≡ s.dictionary → t.bits ≡ s.bits → t ≡ s
  state_is t s d b = ap (λ (x : Dictionary). record { dictionary = x; bits = t.bits }) d ∙ ap (λ (x : List Bool). record { dictionary = s.dictionary; bits = x }) b

  module _ (number : ℕ) (One : Dictionary → List ℕ → Items → Dictionary → Type 0) (OneStops : ℕ → Dictionary → List ℕ → Stop → Type 0) (one : Cursor → Reads Items)
      (is : IsPieceReader nodes_in (λ s b ns t. (t.bits ≡ s.bits) × One s.dictionary b ns t.dictionary) (λ s spare rest stop. OneStops spare s.dictionary rest stop) one) where
    abbrev OneForm : Forms Items
    OneForm s b ns t = (t.bits ≡ s.bits) × One s.dictionary b ns t.dictionary

    abbrev OneStopping : Stopping
    OneStopping s spare rest stop = OneStops spare s.dictionary rest stop

    abbrev pub EachForm : ℕ → Forms Elements
    EachForm n s b es t = (element_count es ≡ n) × (t.bits ≡ s.bits) × Each One s.dictionary b es t.dictionary

    abbrev pub EachStopping : ℕ → Stopping
    EachStopping n s spare rest stop = EachStops number One (λ k d z. OneStops k d z stop) n spare s.dictionary rest stop

    later_elements : Elements → ℕ
    later_elements no_elements = 0
    later_elements (then_element ns es) = nodes_in_elements es

    abbrev NextForm : ℕ → Items → Forms Elements
    NextForm n ns = Made (then_element ns) (EachForm n)

    next_reader : (n : ℕ) → IsPieceReader nodes_in_elements (EachForm n) (EachStopping n) (each_at number one n) → (ns : Items) → Unit {0}
        → IsPieceReader later_elements (NextForm n ns) (EachStopping n) (λ c. each_at number one n c >>= λ rs. Ok (then_element ns rs.0, rs.1))
    unfolding later_elements
    next_reader n rest ns h = made_reader (then_element ns) nodes_in_elements later_elements (λ es. refl) (EachForm n) (EachStopping n) (each_at number one n) rest

    abbrev each_next : ℕ → Cursor → Reads Elements
    each_next n c = one c >>= λ r. (each_at number one n r.1 >>= λ rs. as_elements (then_element r.0 rs.0, rs.1))

    sums : (n : ℕ) (ns : Items) (s : State) (b : List ℕ) (es : Elements) (t : State) → NextForm n ns s b es t → nodes_in_elements_less es ≡ nodes_in ns + later_elements es
    unfolding later_elements nodes_in_elements_less
    sums n ns s b es t h = rw h.1 refl

    next_one_reader : (n : ℕ) → IsPieceReader nodes_in_elements (EachForm n) (EachStopping n) (each_at number one n)
        → IsPieceReader nodes_in_elements_less (Bound OneForm (NextForm n)) (BoundStops nodes_in OneForm OneStopping (λ _. EachStopping n)) (each_next n)
    next_one_reader n rest =
        bound_reader nodes_in (λ _ es. later_elements es) nodes_in_elements_less OneForm (NextForm n) OneStopping (λ _. EachStopping n) (λ _. Unit {0}) one
        (λ ns c. each_at number one n c >>= λ rs. as_elements (then_element ns rs.0, rs.1)) is (λ s b x t h. tt) (next_reader n rest) (sums n)

    each_to : (n : ℕ) (s : State) (b : List ℕ) (es : Elements) (t : State) → Bound OneForm (NextForm n) s b es t → EachForm (suc n) s b es t
    each_to n s b es t h =
        let u = h.1.between in
        let later = h.1.second in
        rw later.1 (
          (let count = later.2.0 in omega arith),
          later.2.1 ∙ h.1.first.0,
          record { between = u.dictionary; front = h.1.front; back = h.1.back; parts = h.1.parts; first = h.1.first.1; second = later.2.2 },
        )

    each_from : (n : ℕ) (s : State) (b : List ℕ) (es : Elements) (t : State) → EachForm (suc n) s b es t → Bound OneForm (NextForm n) s b es t
    each_from n s b no_elements t h = let none = h.0 in absurd (omega arith)
    each_from n s b (then_element ns es) t h = (
      ns,
      record {
        between = record { dictionary = h.2.between; bits = s.bits };
        front = h.2.front;
        back = h.2.back;
        parts = h.2.parts;
        first = (refl, h.2.first);
        second = (es, refl, ((let count = h.0 in omega arith), h.1, h.2.second));
      },
    )

    abbrev NextStopping : ℕ → Stopping
    NextStopping n s spare rest stop =
        OneStops spare s.dictionary rest stop
        ⊎ Then (λ x (p : Passed Items Dictionary). One s.dictionary x p.value p.after × (spare ≡ nodes_in p.value + p.spare)) (λ p y. EachStops number One (λ k d z. OneStops k d z stop) n p.spare p.after y stop) rest

    next_to_stop : (n : ℕ) (s : State) (spare : ℕ) (rest : List ℕ) (stop : Stop) → BoundStops nodes_in OneForm OneStopping (λ _. EachStopping n) s spare rest stop → NextStopping n s spare rest stop
    next_to_stop n s spare rest stop (inl h) = inl h
    next_to_stop n s spare rest stop (inr h) =
        inr (record {
          between = record { value = h.between.value; spare = h.between.spare; after = h.between.after.dictionary };
          front = h.front;
          back = h.back;
          parts = h.parts;
          first = (h.first.0.1, h.first.1);
          second = h.second;
        })

    next_from_stop : (n : ℕ) (s : State) (spare : ℕ) (rest : List ℕ) (stop : Stop) → NextStopping n s spare rest stop → BoundStops nodes_in OneForm OneStopping (λ _. EachStopping n) s spare rest stop
    next_from_stop n s spare rest stop (inl h) = inl h
    next_from_stop n s spare rest stop (inr h) =
        inr (record {
          between = record { value = h.between.value; spare = h.between.spare; after = record { dictionary = h.between.after; bits = s.bits } };
          front = h.front;
          back = h.back;
          parts = h.parts;
          first = ((refl, h.first.0), h.first.1);
          second = h.second;
        })

    each_count : (n : ℕ) (s : State) (b : List ℕ) (es : Elements) (t : State) → EachForm (suc n) s b es t → nodes_in_elements es ≡ 1 + nodes_in_elements_less es
    unfolding nodes_in_elements_less
    each_count n s b no_elements t h = let none = h.0 in absurd (omega arith)
    each_count n s b (then_element ns es) t h = omega arith

    no_element : (s : State) (b : List ℕ) (es : Elements) (t : State) → Given no_elements s b es t → EachForm zero s b es t
    no_element s b es t h = rw (h.1, h.2) (refl, refl, (h.0, refl))

    none_given : (s : State) (b : List ℕ) (es : Elements) (t : State) → EachForm zero s b es t → Given no_elements s b es t
    none_given s b no_elements t h = (h.2.0, refl, state_is t s h.2.1 h.1)
    none_given s b (then_element ns es) t h = let some = h.0 in absurd (omega arith)

    pub each_reader : (n : ℕ) → IsPieceReader nodes_in_elements (EachForm n) (EachStopping n) (each_at number one n)
    each_reader zero =
        reader_as nodes_in_elements nodes_in_elements (Given no_elements) (EachForm zero) NeverStops (EachStopping zero) (λ c. Ok (no_elements, c)) (each_at number one zero)
        (λ c. refl) (λ s b x t h. refl) no_element none_given (λ s spare rest stop h. h) (λ s spare rest stop h. h) (given_reader no_elements nodes_in_elements refl)
    each_reader (suc n) =
        reader_as (λ es. 1 + nodes_in_elements_less es) nodes_in_elements (EachForm (suc n)) (EachForm (suc n)) (CountedStops number (NextStopping n)) (EachStopping (suc n)) (λ c. node_at number c >>= each_next n) (each_at number one (suc n))
        (λ c. bound_again_is (node_at number c) one (λ r. (each_at number one n r.1 >>= λ rs. as_elements (then_element r.0 rs.0, rs.1)))) (each_count n) (λ s b x t h. h) (λ s b x t h. h)
        (λ s spare rest stop h. h) (λ s spare rest stop h. h)
        (counted_reader number nodes_in_elements_less (EachForm (suc n)) (NextStopping n) (each_next n)
        (reader_as nodes_in_elements_less nodes_in_elements_less (Bound OneForm (NextForm n)) (EachForm (suc n)) (BoundStops nodes_in OneForm OneStopping (λ _. EachStopping n)) (NextStopping n) (each_next n) (each_next n)
        (λ c. refl) (λ s b x t h. refl) (each_to n) (each_from n) (next_to_stop n) (next_from_stop n) (next_one_reader n (each_reader n))))

    abbrev pub ElementsOf : Option Scalar → Forms Item
    ElementsOf None = Given (single None)
    ElementsOf (Some (U32 n)) = Made sequence_elements (EachForm n)
    ElementsOf (Some v) = λ s b n t. ⊥

    abbrev pub ElementsStopping : Option Scalar → Stopping
    ElementsStopping (Some (U32 n)) = EachStopping n
    ElementsStopping v = NeverStops

    pub elements_reader : (v : Option Scalar) → IsLength v → IsPieceReader nodes_inside (ElementsOf v) (ElementsStopping v) (λ c. elements_at number one (v, c))
    elements_reader None h = given_reader (single None) nodes_inside refl
    elements_reader (Some (U32 n)) h = made_reader sequence_elements nodes_in_elements nodes_inside (λ es. refl) (EachForm n) (EachStopping n) (each_at number one n) (each_reader n)
    elements_reader (Some (I32 z)) h = absurd h
    elements_reader (Some (U64 n)) h = absurd h
    elements_reader (Some (I64 z)) h = absurd h
    elements_reader (Some (Decimal x m)) h = absurd h
    elements_reader (Some (Ascii s)) h = absurd h
    elements_reader (Some (Unicode s)) h = absurd h
    elements_reader (Some (Bytes s)) h = absurd h

  -- ---- a group, by its bit

  module _ (needs : Bool) (Seg : Forms Items) (SegStops : Stopping) (inside : Cursor → Reads Items) (is : IsPieceReader nodes_in Seg SegStops inside) where
    abbrev passed : State → State
    passed s = record { dictionary = s.dictionary; bits = after_bit needs s.bits }

    abbrev pub Chosen : Bool → Forms Item
    Chosen false = Given (single None)
    Chosen true = Made group_items Seg

    abbrev pub ChosenStops : Bool → Stopping
    ChosenStops false = NeverStops
    ChosenStops true = SegStops

    by_bit : (t : Bool) → IsPieceReader nodes_inside (Chosen t) (ChosenStops t) (group_at t inside)
    by_bit false = given_reader (single None) nodes_inside refl
    by_bit true = made_reader group_items nodes_in nodes_inside (λ ns. refl) Seg SegStops inside is

    pub group_reader : IsPieceReader nodes_inside (λ s. Chosen (bit_for needs s.bits) (passed s)) (λ s. ChosenStops (bit_for needs s.bits) (passed s)) (λ c. group_at (bit_for needs c.bits) inside (behind_bit needs c))
    group_reader = chosen_reader nodes_inside Chosen ChosenStops (λ t. group_at t inside) by_bit (λ s. bit_for needs s.bits) passed

  -- ---- from a segment with its end to one whose map says what is left

  segment_to : (Own : Forms Items) (has : Bool) (d : Dictionary) (b : List ℕ) (x : Items) (e : Dictionary) → SegmentBy EntityMap has (λ u y w. Closed level Own u y x w) d b e → SegmentBy (MapAt level) has (λ u y w. Own u y x w) d b e
  segment_to Own true d b x e h = record { bits = h.bits; left = h.left; map = h.map; body = h.body; parts = h.parts; map_form = mapped Own level h.bits h.map _ (record { dictionary = e; bits = h.left }) h.body x h.map_form h.inside; inside = inside_of Own level _ _ h.body x h.inside }
  segment_to Own false d b x e h = inside_of Own level _ _ b x h

  segment_from : (Own : Forms Items) (has : Bool) (d : Dictionary) (b : List ℕ) (x : Items) (e : Dictionary) → SegmentBy (MapAt level) has (λ u y w. Own u y x w) d b e → SegmentBy EntityMap has (λ u y w. Closed level Own u y x w) d b e
  segment_from Own true d b x e h = record { bits = h.bits; left = h.left; map = h.map; body = h.body; parts = h.parts; map_form = entity_of level h.bits h.left h.map h.map_form; inside = closed_of Own level h.bits h.map _ (record { dictionary = e; bits = h.left }) h.body x h.map_form h.inside }
  segment_from Own false d b x e h = closed_bare Own level _ _ b x refl h

  -- ---- one instruction: from the forms of its readers to those of the page

  -- what comes first has all the bytes, where nothing comes behind it
  whole_is : (b front back : List ℕ) → b ≡ front ++ back → back ≡ [] → b ≡ front
  whole_is b front back parts none = parts ∙ ap (λ (z : List ℕ). front ++ z) none ∙ append-nil front

  module _ (name : List ℕ) (number : ℕ) where
    module _ (presence : Presence) (whole : FieldPart) where
      abbrev Whole : Forms Item
      Whole s b n t = PieceBy (Form level) (MapAt level) (whole_field name number presence whole) s b n t

      field_to : (s : State) (b : List ℕ) (n : Item) (t : State) → Made single (Part level whole) s b n t → Whole s b n t
      field_to s b n t h = rw h.1 h.2

      field_from : (s : State) (b : List ℕ) (n : Item) (t : State) → Whole s b n t → Made single (Part level whole) s b n t
      field_from s b (single v) t h = (v, refl, h)
      field_from s b (group_items ns) t h = absurd h
      field_from s b (sequence_elements es) t h = absurd h

    module _ (presence : Presence) (exponent mantissa : FieldPart) where
      abbrev Parts : Forms Item
      Parts s b n t = PieceBy (Form level) (MapAt level) (field_in_parts name number presence exponent mantissa) s b n t

      mantissa_to : (s : State) (b : List ℕ) (n : Item) (t : State) (e : ℤ) (w : Option Scalar) (h : Then (λ x u. Part level exponent s x (Some (I32 e)) u) (λ u b. Then (λ x k. Part level mantissa u x w k) (λ k b. DecimalOf e w k b n t) b) b) → Parts s b n t
      mantissa_to s b n t e (Some (I64 m)) h =
          let back = h.second in
          let same : h.back ≡ back.front = whole_is h.back back.front back.back back.parts back.second.0 in
          rw (back.second.1, back.second.2) (record { between = h.between; front = h.front; back = h.back; parts = h.parts; first = h.first; second = subst (λ (z : List ℕ). Part level mantissa h.between z (Some (I64 m)) back.between) (sym same) back.first })
      mantissa_to s b n t e None h = absurd h.second.second
      mantissa_to s b n t e (Some (U32 x)) h = absurd h.second.second
      mantissa_to s b n t e (Some (I32 x)) h = absurd h.second.second
      mantissa_to s b n t e (Some (U64 x)) h = absurd h.second.second
      mantissa_to s b n t e (Some (Decimal x m)) h = absurd h.second.second
      mantissa_to s b n t e (Some (Ascii x)) h = absurd h.second.second
      mantissa_to s b n t e (Some (Unicode x)) h = absurd h.second.second
      mantissa_to s b n t e (Some (Bytes x)) h = absurd h.second.second

      parts_to_of : (s : State) (b : List ℕ) (n : Item) (t : State) (v : Option Scalar) → Then (λ x u. Part level exponent s x v u) (λ u b. MantissaOf mantissa v u b n t) b → Parts s b n t
      parts_to_of s b n t None h =
          let same : b ≡ h.front = whole_is b h.front h.back h.parts h.second.0 in
          rw (h.second.1, h.second.2) (subst (λ (z : List ℕ). Part level exponent s z None h.between) (sym same) h.first)
      parts_to_of s b n t (Some (I32 e)) h =
          mantissa_to s b n t e h.second.0 (record { between = h.between; front = h.front; back = h.back; parts = h.parts; first = h.first; second = h.second.1 })
      parts_to_of s b n t (Some (U32 x)) h = absurd h.second
      parts_to_of s b n t (Some (U64 x)) h = absurd h.second
      parts_to_of s b n t (Some (I64 x)) h = absurd h.second
      parts_to_of s b n t (Some (Decimal x m)) h = absurd h.second
      parts_to_of s b n t (Some (Ascii x)) h = absurd h.second
      parts_to_of s b n t (Some (Unicode x)) h = absurd h.second
      parts_to_of s b n t (Some (Bytes x)) h = absurd h.second

      parts_to : (s : State) (b : List ℕ) (n : Item) (t : State) → Bound (Part level exponent) (MantissaOf mantissa) s b n t → Parts s b n t
      parts_to s b n t h = parts_to_of s b n t h.0 h.1

      parts_from : (s : State) (b : List ℕ) (n : Item) (t : State) → Parts s b n t → Bound (Part level exponent) (MantissaOf mantissa) s b n t
      parts_from s b (single None) t h = (None, record { between = t; front = b; back = []; parts = sym (append-nil b); first = h; second = (refl, refl, refl) })
      parts_from s b (single (Some (Decimal e m))) t h = (
        Some (I32 e),
        record {
          between = h.between;
          front = h.front;
          back = h.back;
          parts = h.parts;
          first = h.first;
          second = (Some (I64 m), record { between = t; front = h.back; back = []; parts = sym (append-nil h.back); first = h.second; second = (refl, refl, refl) });
        },
      )
      parts_from s b n t h = absurd h

      abbrev PartsStopping : Stopping
      PartsStopping s spare rest stop =
          PartStops level exponent s rest stop
          ⊎ Then (λ x between. (e : ℤ) × Part level exponent s x (Some (I32 e)) between) (λ between y. PartStops level mantissa between y stop) rest

      abbrev PartsBound : Stopping
      PartsBound = BoundStops (λ _. 0) (Part level exponent) (PartStopping exponent) (MantissaStops mantissa)

      parts_to_behind : (s : State) (spare : ℕ) (rest : List ℕ) (stop : Stop) (v : Option Scalar) (u : State) (k : ℕ) (front back : List ℕ) → rest ≡ front ++ back → Part level exponent s front v u → MantissaStops mantissa v u k back stop → PartsStopping s spare rest stop
      parts_to_behind s spare rest stop (Some (I32 e)) u k front back parts first (inl h) = inr (record { between = u; front = front; back = back; parts = parts; first = (e, first); second = h })
      parts_to_behind s spare rest stop (Some (I32 e)) u k front back parts first (inr h) = absurd h.second
      parts_to_behind s spare rest stop v u k front back parts first h = absurd h

      parts_to_stop : (s : State) (spare : ℕ) (rest : List ℕ) (stop : Stop) → PartsBound s spare rest stop → PartsStopping s spare rest stop
      parts_to_stop s spare rest stop (inl h) = inl h
      parts_to_stop s spare rest stop (inr h) = parts_to_behind s spare rest stop h.between.value h.between.after h.between.spare h.front h.back h.parts h.first.0 h.second

      parts_from_stop : (s : State) (spare : ℕ) (rest : List ℕ) (stop : Stop) → PartsStopping s spare rest stop → PartsBound s spare rest stop
      parts_from_stop s spare rest stop (inl h) = inl h
      parts_from_stop s spare rest stop (inr h) =
          inr (record {
            between = record { value = Some (I32 h.first.0); spare = spare; after = h.between };
            front = h.front;
            back = h.back;
            parts = h.parts;
            first = (h.first.1, sym (zero-add spare));
            second = inl h.second;
          })

    -- groups and sequences, over what their members are
    module _ (presence : Presence) (members : Instructions) where
      abbrev Inside : Forms Items
      Inside s b ns t = BodyBy (Form level) (MapAt level) members s b ns t

      abbrev InsideStops : Stopping
      InsideStops s spare rest stop = ClosedStops level number nodes_in Inside (λ u k b st. BodyStops level members u k b st) s spare rest stop

      abbrev Members : Forms Items
      Members s b ns t = (t.bits ≡ s.bits) × SegmentBy (MapAt level) (has_map members) (λ u y w. Inside u y ns w) s.dictionary b t.dictionary

      abbrev MembersStopping : Stopping
      MembersStopping s spare rest stop = SegmentStops level number (has_map members) (λ u y. InsideStops u spare y stop) s.dictionary rest stop

      abbrev needs : Bool
      needs = is_optional presence

      abbrev behind : State → State
      behind s = record { dictionary = s.dictionary; bits = after_bit needs s.bits }

      abbrev Group : Forms Item
      Group s b n t = PieceBy (Form level) (MapAt level) (group_of name number presence members) s b n t

      abbrev Choice : Bool → Forms Item
      Choice false = Given (single None)
      Choice true = Made group_items Members

      group_to_of : (s : State) (b : List ℕ) (n : Item) (t : State) (bit : Bool) → bit_for needs s.bits ≡ bit → Choice bit (behind s) b n t → Group s b n t
      group_to_of s b n t false is h = rw h.1 (is, h.0, h.2)
      group_to_of s b n t true is h = rw h.1 (is, h.2.0, h.2.1)

      group_from_of : (s : State) (b : List ℕ) (n : Item) (t : State) (bit : Bool) → bit_for needs s.bits ≡ bit → Group s b n t → Choice bit (behind s) b n t
      group_from_of s b (single None) t false is h = (h.1, refl, h.2)
      group_from_of s b (single None) t true is h = let no = h.0 in absurd cc
      group_from_of s b (group_items ns) t false is h = let yes = h.0 in absurd cc
      group_from_of s b (group_items ns) t true is h = (ns, refl, (h.1, h.2))
      group_from_of s b n t bit is h = absurd h

      abbrev ChoiceStops : Bool → Stopping
      ChoiceStops false = NeverStops
      ChoiceStops true = MembersStopping

      abbrev GroupStopping : Stopping
      GroupStopping s spare rest stop = (bit_for needs s.bits ≡ true) × MembersStopping s spare rest stop

      group_to_stop_of : (s : State) (spare : ℕ) (rest : List ℕ) (stop : Stop) (bit : Bool) → bit_for needs s.bits ≡ bit → ChoiceStops bit (behind s) spare rest stop → GroupStopping s spare rest stop
      group_to_stop_of s spare rest stop false is h = absurd h
      group_to_stop_of s spare rest stop true is h = (is, h)

      group_from_stop_of : (s : State) (spare : ℕ) (rest : List ℕ) (stop : Stop) (bit : Bool) → bit_for needs s.bits ≡ bit → GroupStopping s spare rest stop → ChoiceStops bit (behind s) spare rest stop
      group_from_stop_of s spare rest stop false is h = let yes = h.0 in absurd cc
      group_from_stop_of s spare rest stop true is h = h.1

    module _ (presence : Presence) (length : FieldPart) (members : Instructions) where
      abbrev One : Dictionary → List ℕ → Items → Dictionary → Type 0
      One d x ns e = SegmentBy (MapAt level) (has_map members) (λ t z u. BodyBy (Form level) (MapAt level) members t z ns u) d x e

      abbrev OneStops : ℕ → Dictionary → List ℕ → Stop → Type 0
      OneStops k d z stop = SegmentStops level number (has_map members) (λ t w. ClosedStops level number nodes_in (λ u b ns v. BodyBy (Form level) (MapAt level) members u b ns v) (λ u j b st. BodyStops level members u j b st) t k w stop) d z stop

      abbrev Sequence : Forms Item
      Sequence s b n t = PieceBy (Form level) (MapAt level) (sequence_of name number presence length members) s b n t

      abbrev SomeElements : ℕ → Forms Elements
      SomeElements n s b es t = (element_count es ≡ n) × (t.bits ≡ s.bits) × Each One s.dictionary b es t.dictionary

      abbrev ElementsBy : Option Scalar → Forms Item
      ElementsBy None = Given (single None)
      ElementsBy (Some (U32 n)) = Made sequence_elements (SomeElements n)
      ElementsBy (Some v) = λ s b n t. ⊥

      sequence_to_of : (s : State) (b : List ℕ) (n : Item) (t : State) (v : Option Scalar) → Then (λ x u. Part level length s x v u) (λ u b. ElementsBy v u b n t) b → Sequence s b n t
      sequence_to_of s b n t None h =
          let same : b ≡ h.front = whole_is b h.front h.back h.parts h.second.0 in
          rw (h.second.1, h.second.2) (subst (λ (z : List ℕ). Part level length s z None h.between) (sym same) h.first)
      sequence_to_of s b n t (Some (U32 k)) h =
          let elements = h.second.2 in
          rw h.second.1 (record {
            between = h.between;
            front = h.front;
            back = h.back;
            parts = h.parts;
            first = subst (λ (m : ℕ). Part level length s h.front (Some (U32 m)) h.between) (sym elements.0) h.first;
            second = (elements.1, elements.2);
          })
      sequence_to_of s b n t (Some (I32 x)) h = absurd h.second
      sequence_to_of s b n t (Some (U64 x)) h = absurd h.second
      sequence_to_of s b n t (Some (I64 x)) h = absurd h.second
      sequence_to_of s b n t (Some (Decimal x m)) h = absurd h.second
      sequence_to_of s b n t (Some (Ascii x)) h = absurd h.second
      sequence_to_of s b n t (Some (Unicode x)) h = absurd h.second
      sequence_to_of s b n t (Some (Bytes x)) h = absurd h.second

      sequence_to : (s : State) (b : List ℕ) (n : Item) (t : State) → Bound (Part level length) ElementsBy s b n t → Sequence s b n t
      sequence_to s b n t h = sequence_to_of s b n t h.0 h.1

      sequence_from : (s : State) (b : List ℕ) (n : Item) (t : State) → Sequence s b n t → Bound (Part level length) ElementsBy s b n t
      sequence_from s b (single None) t h = (None, record { between = t; front = b; back = []; parts = sym (append-nil b); first = h; second = (refl, refl, refl) })
      sequence_from s b (sequence_elements es) t h = (
        Some (U32 (element_count es)),
        record { between = h.between; front = h.front; back = h.back; parts = h.parts; first = h.first; second = (es, refl, (refl, h.second.0, h.second.1)) },
      )
      sequence_from s b n t h = absurd h

      abbrev ElementStops : Option Scalar → Stopping
      ElementStops (Some (U32 n)) = λ s spare rest stop. EachStops number One (λ k d z. OneStops k d z stop) n spare s.dictionary rest stop
      ElementStops v = NeverStops

      abbrev SequenceStopping : Stopping
      SequenceStopping s spare rest stop =
          PartStops level length s rest stop
          ⊎ Then (λ x (p : Passed ℕ State). Part level length s x (Some (U32 p.value)) p.after × (p.spare ≡ spare))
          (λ p y. EachStops number One (λ k d z. OneStops k d z stop) p.value p.spare p.after.dictionary y stop) rest

      abbrev SequenceBound : Stopping
      SequenceBound = BoundStops (λ _. 0) (Part level length) (PartStopping length) ElementStops

      sequence_to_behind : (s : State) (spare : ℕ) (rest : List ℕ) (stop : Stop) (v : Option Scalar) (u : State) (k : ℕ) (front back : List ℕ) → rest ≡ front ++ back → Part level length s front v u → spare ≡ 0 + k
          → ElementStops v u k back stop → SequenceStopping s spare rest stop
      sequence_to_behind s spare rest stop (Some (U32 n)) u k front back parts first same h =
          inr (record { between = record { value = n; spare = k; after = u }; front = front; back = back; parts = parts; first = (first, sym (same ∙ zero-add k)); second = h })
      sequence_to_behind s spare rest stop v u k front back parts first same h = absurd h

      sequence_to_stop : (s : State) (spare : ℕ) (rest : List ℕ) (stop : Stop) → SequenceBound s spare rest stop → SequenceStopping s spare rest stop
      sequence_to_stop s spare rest stop (inl h) = inl h
      sequence_to_stop s spare rest stop (inr h) = sequence_to_behind s spare rest stop h.between.value h.between.after h.between.spare h.front h.back h.parts h.first.0 h.first.1 h.second

      sequence_from_stop : (s : State) (spare : ℕ) (rest : List ℕ) (stop : Stop) → SequenceStopping s spare rest stop → SequenceBound s spare rest stop
      sequence_from_stop s spare rest stop (inl h) = inl h
      sequence_from_stop s spare rest stop (inr h) =
          inr (record {
            between = record { value = Some (U32 h.between.value); spare = h.between.spare; after = h.between.after };
            front = h.front;
            back = h.back;
            parts = h.parts;
            first = (h.first.0, sym h.first.1 ∙ sym (zero-add h.between.spare));
            second = h.second;
          })

  -- ---- all instructions

  abbrev no_bits : List Bool
  no_bits = []

  no_bits_left : (n : ℕ) → drop n no_bits ≡ no_bits
  no_bits_left zero = refl
  no_bits_left (suc n) = refl

  body_empty : (members : Instructions) (s : State) (b : List ℕ) (ns : Items) (t : State) → BodyBy (Form level) (MapAt level) members s b ns t → s.bits ≡ [] → t.bits ≡ []
  body_empty members s b ns t h none = bits_taken_are level members s t b ns h ∙ ap (λ (bits : List Bool). drop (takes members ns) bits) none ∙ no_bits_left (takes members ns)

  later_items : Items → ℕ
  later_items no_items = 0
  later_items (then_item n ns) = nodes_in ns

  abbrev as_item : Item × Cursor → Reads Item
  as_item x = Ok x

  abbrev as_items : Items × Cursor → Reads Items
  as_items x = Ok x

  closed_empty : (members : Instructions) (s : State) (b : List ℕ) (x : Items) (t : State) → Closed level (λ u c ns w. BodyBy (Form level) (MapAt level) members u c ns w) s b x t → s.bits ≡ [] → t.bits ≡ []
  closed_empty members s b x t h none = body_empty members s b x t (inside_of (λ u c ns w. BodyBy (Form level) (MapAt level) members u c ns w) level s t b x h) none

  module _ (exact : (p : FieldPart) → IsTyped p → IsExact p) where
    abbrev PieceReader : Instruction → Type 0
    PieceReader i = IsPieceReader nodes_of (λ s b n t. PieceBy (Form level) (MapAt level) i s b n t) (λ s spare rest stop. PieceStops level i s spare rest stop) (piece_at level i)

    abbrev BodyReader : Instructions → Type 0
    BodyReader is = IsPieceReader nodes_in (λ s b ns t. BodyBy (Form level) (MapAt level) is s b ns t) (λ s spare rest stop. BodyStops level is s spare rest stop) (body_at level is)

    whole_reader : (name : List ℕ) (number : ℕ) (presence : Presence) (whole : FieldPart) → IsExact whole → PieceReader (whole_field name number presence whole)
    whole_reader name number presence whole is =
        reader_as (λ n. 1 + nodes_inside n) nodes_of (Whole name number presence whole) (Whole name number presence whole) (CountedStops number (PartStopping whole)) (λ s spare rest stop. PieceStops level (whole_field name number presence whole) s spare rest stop)
        (λ c. node_at number c >>= λ k. (field_part_at level whole k >>= λ v. as_item (single v.0, v.1))) (piece_at level (whole_field name number presence whole))
        (λ c. bound_again_is (node_at number c) (field_part_at level whole) (λ v. as_item (single v.0, v.1))) (λ s b n t h. nodes_of_is n) (λ s b n t h. h) (λ s b n t h. h) (λ s spare rest stop h. h) (λ s spare rest stop h. h)
        (counted_reader number nodes_inside (Whole name number presence whole) (PartStopping whole) (λ k. field_part_at level whole k >>= λ v. as_item (single v.0, v.1))
        (reader_as nodes_inside nodes_inside (Made single (Part level whole)) (Whole name number presence whole) (PartStopping whole) (PartStopping whole) (λ k. field_part_at level whole k >>= λ v. as_item (single v.0, v.1)) (λ k. field_part_at level whole k >>= λ v. as_item (single v.0, v.1))
        (λ c. refl) (λ s b n t h. refl) (field_to name number presence whole) (field_from name number presence whole) (λ s spare rest stop h. h) (λ s spare rest stop h. h)
        (made_reader single (λ _. 0) nodes_inside (λ v. refl) (Part level whole) (PartStopping whole) (field_part_at level whole) (part_reader whole is))))

    parts_reader : (name : List ℕ) (number : ℕ) (presence : Presence) (exponent mantissa : FieldPart) → IsExact exponent → exponent.kind ≡ Kind.Int32 → IsExact mantissa → mantissa.kind ≡ Kind.Int64 → mantissa.presence ≡ Mandatory
        → PieceReader (field_in_parts name number presence exponent mantissa)
    parts_reader name number presence exponent mantissa is int32 has int64 mandatory =
        reader_as (λ n. 1 + nodes_inside n) nodes_of (Parts name number presence exponent mantissa) (Parts name number presence exponent mantissa) (CountedStops number (PartsStopping name number presence exponent mantissa))
        (λ s spare rest stop. PieceStops level (field_in_parts name number presence exponent mantissa) s spare rest stop)
        (λ c. node_at number c >>= λ k. (field_part_at level exponent k >>= mantissa_at level mantissa)) (piece_at level (field_in_parts name number presence exponent mantissa))
        (λ c. bound_again_is (node_at number c) (field_part_at level exponent) (mantissa_at level mantissa)) (λ s b n t h. nodes_of_is n) (λ s b n t h. h) (λ s b n t h. h) (λ s spare rest stop h. h) (λ s spare rest stop h. h)
        (counted_reader number nodes_inside (Parts name number presence exponent mantissa) (PartsStopping name number presence exponent mantissa) (λ k. field_part_at level exponent k >>= mantissa_at level mantissa)
        (reader_as nodes_inside nodes_inside (Bound (Part level exponent) (MantissaOf mantissa)) (Parts name number presence exponent mantissa) (PartsBound name number presence exponent mantissa) (PartsStopping name number presence exponent mantissa)
        (λ k. field_part_at level exponent k >>= mantissa_at level mantissa) (λ k. field_part_at level exponent k >>= mantissa_at level mantissa)
        (λ c. refl) (λ s b n t h. refl) (parts_to name number presence exponent mantissa) (parts_from name number presence exponent mantissa) (parts_to_stop name number presence exponent mantissa) (parts_from_stop name number presence exponent mantissa)
        (bound_reader (λ _. 0) (λ _ n. nodes_inside n) nodes_inside (Part level exponent) (MantissaOf mantissa) (PartStopping exponent) (MantissaStops mantissa) IsExponent (field_part_at level exponent) (λ v c. mantissa_at level mantissa (v, c))
        (part_reader exponent is) (exponent_possible exponent is int32) (mantissa_reader mantissa has int64 mandatory) (λ x s b y t h. sym (zero-add (nodes_inside y))))))

    abbrev segment_of : ℕ → Instructions → Cursor → Reads Items
    segment_of number members c = segment_at level number (has_map members) (closing level number (λ k. body_at level members k)) c

    members_reader : (name : List ℕ) (number : ℕ) (presence : Presence) (members : Instructions) → BodyReader members
        → IsPieceReader nodes_in (Members name number presence members) (MembersStopping name number presence members) (segment_of number members)
    members_reader name number presence members inside =
        let Own = Inside name number presence members in
        reader_as nodes_in nodes_in (SegmentForm number nodes_in (Closed level Own) (InsideStops name number presence members) (closing level number (λ c. body_at level members c)) (closed_at number nodes_in Own (λ u k b st. BodyStops level members u k b st) (λ c. body_at level members c) inside level) (closed_empty members) (has_map members))
        (Members name number presence members) (MembersStopping name number presence members) (MembersStopping name number presence members) (segment_of number members) (segment_of number members)
        (λ c. refl) (λ s b x t h. refl) (λ s b x t h. (h.0, segment_to Own (has_map members) s.dictionary b x t.dictionary h.1)) (λ s b x t h. (h.0, segment_from Own (has_map members) s.dictionary b x t.dictionary h.1)) (λ s spare rest stop h. h) (λ s spare rest stop h. h)
        (segment_reader number nodes_in (Closed level Own) (InsideStops name number presence members) (closing level number (λ c. body_at level members c)) (closed_at number nodes_in Own (λ u k b st. BodyStops level members u k b st) (λ c. body_at level members c) inside level) (closed_empty members) (has_map members))

    grouped_reader : (name : List ℕ) (number : ℕ) (presence : Presence) (members : Instructions) → BodyReader members → PieceReader (group_of name number presence members)
    grouped_reader name number presence members inside =
        let needs = is_optional presence in
        let Forms = Members name number presence members in
        let Stops = MembersStopping name number presence members in
        reader_as (λ n. 1 + nodes_inside n) nodes_of (Group name number presence members) (Group name number presence members) (CountedStops number (GroupStopping name number presence members)) (λ s spare rest stop. PieceStops level (group_of name number presence members) s spare rest stop)
        (λ c. node_at number c >>= λ k. group_at (bit_for (is_optional presence) k.bits) (segment_of number members) (behind_bit (is_optional presence) k)) (piece_at level (group_of name number presence members))
        (λ c. refl) (λ s b n t h. nodes_of_is n) (λ s b n t h. h) (λ s b n t h. h) (λ s spare rest stop h. h) (λ s spare rest stop h. h)
        (counted_reader number nodes_inside (Group name number presence members) (GroupStopping name number presence members) (λ k. group_at (bit_for (is_optional presence) k.bits) (segment_of number members) (behind_bit (is_optional presence) k))
        (reader_as nodes_inside nodes_inside (λ s. Choice name number presence members (bit_for (is_optional presence) s.bits) (behind name number presence members s)) (Group name number presence members)
        (λ s. ChoiceStops name number presence members (bit_for (is_optional presence) s.bits) (behind name number presence members s)) (GroupStopping name number presence members)
        (λ k. group_at (bit_for (is_optional presence) k.bits) (segment_of number members) (behind_bit (is_optional presence) k)) (λ k. group_at (bit_for (is_optional presence) k.bits) (segment_of number members) (behind_bit (is_optional presence) k))
        (λ c. refl) (λ s b n t h. refl)
        (λ s b n t h. group_to_of name number presence members s b n t (bit_for (is_optional presence) s.bits) refl h) (λ s b n t h. group_from_of name number presence members s b n t (bit_for (is_optional presence) s.bits) refl h)
        (λ s spare rest stop h. group_to_stop_of name number presence members s spare rest stop (bit_for (is_optional presence) s.bits) refl h) (λ s spare rest stop h. group_from_stop_of name number presence members s spare rest stop (bit_for (is_optional presence) s.bits) refl h)
        (group_reader (is_optional presence) (Members name number presence members) (MembersStopping name number presence members) (segment_of number members) (members_reader name number presence members inside))))

    sequenced_reader : (name : List ℕ) (number : ℕ) (presence : Presence) (length : FieldPart) (members : Instructions) → IsExact length → length.kind ≡ Kind.UInt32 → BodyReader members → PieceReader (sequence_of name number presence length members)
    sequenced_reader name number presence length members is uint32 inside =
        reader_as (λ n. 1 + nodes_inside n) nodes_of (Sequence name number presence length members) (Sequence name number presence length members) (CountedStops number (SequenceStopping name number presence length members))
        (λ s spare rest stop. PieceStops level (sequence_of name number presence length members) s spare rest stop)
        (λ c. node_at number c >>= λ k. (field_part_at level length k >>= elements_at number (segment_of number members))) (piece_at level (sequence_of name number presence length members))
        (λ c. bound_again_is (node_at number c) (field_part_at level length) (elements_at number (segment_of number members))) (λ s b n t h. nodes_of_is n) (λ s b n t h. h) (λ s b n t h. h) (λ s spare rest stop h. h) (λ s spare rest stop h. h)
        (counted_reader number nodes_inside (Sequence name number presence length members) (SequenceStopping name number presence length members) (λ k. field_part_at level length k >>= elements_at number (segment_of number members))
        (reader_as nodes_inside nodes_inside (Bound (Part level length) (ElementsBy name number presence length members)) (Sequence name number presence length members) (SequenceBound name number presence length members) (SequenceStopping name number presence length members)
        (λ k. field_part_at level length k >>= elements_at number (segment_of number members)) (λ k. field_part_at level length k >>= elements_at number (segment_of number members))
        (λ c. refl) (λ s b n t h. refl) (sequence_to name number presence length members) (sequence_from name number presence length members) (sequence_to_stop name number presence length members) (sequence_from_stop name number presence length members)
        (bound_reader (λ _. 0) (λ _ n. nodes_inside n) nodes_inside (Part level length) (ElementsBy name number presence length members) (PartStopping length) (ElementStops name number presence length members) IsLength (field_part_at level length)
        (λ v c. elements_at number (segment_of number members) (v, c)) (part_reader length is) (length_possible length is uint32)
        (elements_reader number (One name number presence length members) (OneStops name number presence length members) (segment_of number members) (members_reader name number presence members inside))
        (λ x s b y t h. sym (zero-add (nodes_inside y))))))

    later_sums : (n : Item) (s : State) (b : List ℕ) (is : Instructions) (ns : Items) (t : State) → Made (then_item n) (λ s b ns t. BodyBy (Form level) (MapAt level) is s b ns t) s b ns t → nodes_in ns ≡ nodes_of n + later_items ns
    unfolding later_items
    later_sums n s b is ns t h = rw h.1 refl

    then_reader : (is : Instructions) → BodyReader is → (n : Item) → IsPieceReader later_items (Made (then_item n) (λ s b ns t. BodyBy (Form level) (MapAt level) is s b ns t)) (λ s spare rest stop. BodyStops level is s spare rest stop) (λ c. body_at level is c >>= λ ns. as_items (then_item n ns.0, ns.1))
    unfolding later_items
    then_reader is rest n = made_reader (then_item n) nodes_in later_items (λ ns. refl) (λ s b ns t. BodyBy (Form level) (MapAt level) is s b ns t) (λ s spare rest stop. BodyStops level is s spare rest stop) (body_at level is) rest

    body_to : (i : Instruction) (is : Instructions) (s : State) (b : List ℕ) (ns : Items) (t : State) → Bound (λ s b n t. PieceBy (Form level) (MapAt level) i s b n t) (λ n. Made (then_item n) (λ s b ns t. BodyBy (Form level) (MapAt level) is s b ns t)) s b ns t
        → BodyBy (Form level) (MapAt level) (then_instruction i is) s b ns t
    body_to i is s b ns t h =
        let later = h.1.second in
        rw later.1 (record { between = h.1.between; front = h.1.front; back = h.1.back; parts = h.1.parts; first = h.1.first; second = later.2 })

    body_from : (i : Instruction) (is : Instructions) (s : State) (b : List ℕ) (ns : Items) (t : State) → BodyBy (Form level) (MapAt level) (then_instruction i is) s b ns t
        → Bound (λ s b n t. PieceBy (Form level) (MapAt level) i s b n t) (λ n. Made (then_item n) (λ s b ns t. BodyBy (Form level) (MapAt level) is s b ns t)) s b ns t
    body_from i is s b no_items t h = absurd h
    body_from i is s b (then_item n ns) t h = (n, record { between = h.between; front = h.front; back = h.back; parts = h.parts; first = h.first; second = (ns, refl, h.second) })

    empty_from : (s : State) (b : List ℕ) (ns : Items) (t : State) → BodyBy (Form level) (MapAt level) no_instructions s b ns t → Given no_items s b ns t
    empty_from s b no_items t h = (h.0, refl, h.1)
    empty_from s b (then_item n ns) t h = absurd h

    mutual
      pub piece_reader : (i : Instruction) → HasTypedParts i → PieceReader i
      piece_reader (whole_field name number presence whole) h = whole_reader name number presence whole (exact whole h.typed)
      piece_reader (field_in_parts name number presence exponent mantissa) h =
          parts_reader name number presence exponent mantissa (exact exponent h.0.typed) h.0.kind_is (exact mantissa h.1.typed) h.1.kind_is h.1.presence_is
      piece_reader (group_of name number presence members) h = grouped_reader name number presence members (body_reader members h)
      piece_reader (sequence_of name number presence length members) h = sequenced_reader name number presence length members (exact length h.0.typed) h.0.kind_is (body_reader members h.1)

      pub body_reader : (is : Instructions) → HaveTypedParts is → BodyReader is
      body_reader no_instructions h =
          reader_as nodes_in nodes_in (Given no_items) (λ s b ns t. BodyBy (Form level) (MapAt level) no_instructions s b ns t) NeverStops (λ s spare rest stop. BodyStops level no_instructions s spare rest stop) (λ c. as_items (no_items, c)) (body_at level no_instructions)
          (λ c. refl) (λ s b ns t g. refl) (λ s b ns t g. rw g.1 (g.0, g.2)) empty_from (λ s spare rest stop g. g) (λ s spare rest stop g. g) (given_reader no_items nodes_in refl)
      body_reader (then_instruction i is) h =
          reader_as nodes_in nodes_in (Bound (λ s b n t. PieceBy (Form level) (MapAt level) i s b n t) (λ n. Made (then_item n) (λ s b ns t. BodyBy (Form level) (MapAt level) is s b ns t))) (λ s b ns t. BodyBy (Form level) (MapAt level) (then_instruction i is) s b ns t)
          (BoundStops nodes_of (λ s b n t. PieceBy (Form level) (MapAt level) i s b n t) (λ s spare rest stop. PieceStops level i s spare rest stop) (λ n s spare rest stop. BodyStops level is s spare rest stop)) (λ s spare rest stop. BodyStops level (then_instruction i is) s spare rest stop)
          (λ c. piece_at level i c >>= λ n. (body_at level is n.1 >>= λ ns. as_items (then_item n.0 ns.0, ns.1))) (body_at level (then_instruction i is))
          (λ c. refl) (λ s b ns t g. refl) (body_to i is) (body_from i is) (λ s spare rest stop g. g) (λ s spare rest stop g. g)
          (bound_reader nodes_of (λ _ ns. later_items ns) nodes_in (λ s b n t. PieceBy (Form level) (MapAt level) i s b n t) (λ n. Made (then_item n) (λ s b ns t. BodyBy (Form level) (MapAt level) is s b ns t))
          (λ s spare rest stop. PieceStops level i s spare rest stop) (λ n s spare rest stop. BodyStops level is s spare rest stop) (λ _. Unit {0}) (piece_at level i) (λ n c. body_at level is c >>= λ ns. as_items (then_item n ns.0, ns.1))
          (piece_reader i h.0) (λ s b n t g. tt) (λ n g. then_reader is (body_reader is h.1) n) (λ n s b ns t g. later_sums n s b is ns t g))
