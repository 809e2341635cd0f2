-- The reading function of messages reads their forms, and stops exactly at their faults.
use Rattle.fast_stream.proofs.Common.{◌≡◌, ◌≢◌, ℕ, ◌+◌, ◌-◌, ◌≤◌, Bool, List, [], ◌++◌, length, Option, Some, None, Result, Ok, Err, refl, sym, ap, subst, ◌∙◌, inl, inr, arith, append_assoc, zero-add, length-append, AllByRecursion, Level, IsBytes, ◌>>=◌, map_at, WireFault, ok_is, bind_ok, at_first, at_second, bind_err, Scalar, U32, I32, U64, I64, Decimal, Ascii, Unicode, Bytes, FieldPart, Instructions, Resolved, IsTyped, HaveTypedParts, Dictionary, value_kind, value_there, D9, R7, Truncated, Items, Content, nodes_in, node_limit, State, members_of, identifier, Body, MessageForm, MapEntity, cause_of_wire, MapFault, ClosedStops, Stop, MessageStop, StopsAt, Part, BodyStops, IdentifierFault, InBody, MessageStops, in_map, in_identifier, in_body, closing, Cursor, state_of, Reads, placed, field_part_at, body_at, Named, known, named_at, head_at, in_template, message_at, cursor, further, further_on, Passes, IsPieceReader, MessagePasses, IsMessageReader, form_usually, Cause, judge, overlong_map}
use Rattle.fast_stream.proofs.FoundMembers.{members_have}
use Rattle.fast_stream.proofs.PieceReaders.{Forms, Stopping, Bound, BoundStops, placed_reader, bound_reader, stop_is, fails_as}
use Rattle.fast_stream.proofs.Ends.{Closed, closed_at, entity_of, mapped, inside_of, closed_of, as_cause, map_judged, maps_judged, map_refused_at, map_faulty_at}
use Rattle.fast_stream.proofs.BodyReaders.{IsExact, PartStopping, part_reader, of_uint32, IsLength, body_reader}

module _ (level : Level) where
  pub is_exact : (p : FieldPart) → IsTyped p → IsExact level p
  is_exact p typed = record { default = typed.default_has_value; of_kind = λ e bit b v h. value_kind p typed e bit b v (form_usually level p e bit b (Some v) h); there = λ m e bit b h. value_there p typed m e bit b (form_usually level p e bit b None h) }

  identifier_typed : IsTyped identifier
  identifier_typed = record { operator_applies = refl; initial_fits = tt; constant_has_value = λ e. absurd cc; default_has_value = λ e m. absurd cc }

  identifier_exact : IsExact level identifier
  identifier_exact = is_exact identifier identifier_typed

  id_part : IsPieceReader (λ _. 0) (Part level identifier) (PartStopping level identifier) (field_part_at level identifier)
  id_part = part_reader level identifier identifier_exact

  is_u32 : (v : Option Scalar) → (s : State) (b : List ℕ) (t : State) → Part level identifier s b v t → IsLength level v
  is_u32 None s b t h = absurd (identifier_exact.there refl _ _ b h.0)
  is_u32 (Some v) s b t h = of_uint32 level v (identifier_exact.of_kind _ _ b v h.0)

  module _ (set : List Resolved) where
    -- ---- the identifier

    abbrev pub IdForm : Forms Named
    IdForm s b named t = Part level identifier s b (Some (U32 named.template)) t × (members_of set named.template ≡ Some named.members)

    abbrev pub IdStopping : Stopping
    IdStopping s spare rest stop = StopsAt 0 (IdentifierFault level set s rest) rest stop

    abbrev pub ident : Cursor → Reads Named
    ident c = field_part_at level identifier c >>= named_at set c.bytes

    abbrev IdPasses : State → ℕ → List ℕ → Named → Cursor → Type 0
    IdPasses s spare bytes named k = Passes (λ (_ : Named). 0) IdForm s spare bytes named k

    abbrev VPasses : State → ℕ → List ℕ → Option Scalar → Cursor → Type 0
    VPasses s spare bytes v k = Passes (λ (_ : Option Scalar). 0) (Part level identifier) s spare bytes v k

    abbrev as_named : Named × Cursor → Reads Named
    as_named x = Ok x

    known_found : (s : State) (spare : ℕ) (bytes : List ℕ) (named : Named) (k c : Cursor) (id : ℕ) (m : Option Instructions) → members_of set id ≡ m → VPasses s spare bytes (Some (U32 id)) c → known id bytes c m ≡ Ok (named, k) → IdPasses s spare bytes named k
    known_found s spare bytes named k c id None is t e = absurd cc
    known_found s spare bytes named k c id (Some members) is t e =
        subst (λ (x : Named × Cursor). IdPasses s spare bytes x.0 x.1) (ok_is {F = Stop} (record { template = id; members = members }, c) (named, k) e)
        (record { front = t.front; parts = t.parts; rest_bytes = t.rest_bytes; form = (t.form, is); counted = t.counted })

    id_found_of : (s : State) (spare : ℕ) (bytes : List ℕ) (named : Named) (k c : Cursor) (v : Option Scalar) → IsLength level v → VPasses s spare bytes v c → named_at set bytes (v, c) ≡ Ok (named, k) → IdPasses s spare bytes named k
    id_found_of s spare bytes named k c None some t e = absurd cc
    id_found_of s spare bytes named k c (Some (U32 id)) some t e = known_found s spare bytes named k c id (members_of set id) refl t e
    id_found_of s spare bytes named k c (Some (I32 x)) some t e = absurd some
    id_found_of s spare bytes named k c (Some (U64 x)) some t e = absurd some
    id_found_of s spare bytes named k c (Some (I64 x)) some t e = absurd some
    id_found_of s spare bytes named k c (Some (Decimal x m)) some t e = absurd some
    id_found_of s spare bytes named k c (Some (Ascii x)) some t e = absurd some
    id_found_of s spare bytes named k c (Some (Unicode x)) some t e = absurd some
    id_found_of s spare bytes named k c (Some (Bytes x)) some t e = absurd some

    id_found : (s : State) (spare : ℕ) (bytes : List ℕ) (named : Named) (k : Cursor) → IsBytes bytes → ident (cursor s spare bytes) ≡ Ok (named, k) → IdPasses s spare bytes named k
    id_found s spare bytes named k fits e =
        let a = bind_ok (field_part_at level identifier (cursor s spare bytes)) (named_at set bytes) (named, k) e in
        let t = id_part.found s spare bytes a.0.0 a.0.1 fits a.1 in
        id_found_of s spare bytes named k a.0.1 a.0.0 (is_u32 a.0.0 s t.front (state_of a.0.1) t.form) t a.2

    id_again : (s t : State) (spare : ℕ) (form rest : List ℕ) (named : Named) → IdForm s form named t → ident (cursor s (0 + spare) (form ++ rest)) ≡ Ok (named, cursor t spare rest)
    id_again s t spare form rest named h = rw (id_part.again s t spare form rest (Some (U32 named.template)) h.0, h.1) refl

    -- no template has the identifier
    known_stops : (s : State) (spare : ℕ) (bytes : List ℕ) (stop : Stop) (c : Cursor) (id : ℕ) (m : Option Instructions) → members_of set id ≡ m → VPasses s spare bytes (Some (U32 id)) c → known id bytes c m ≡ Err stop
        → (record { cause = D9; instruction = 0; left = length bytes } ≡ stop) × (m ≡ None)
    known_stops s spare bytes stop c id None is t e = (cc, refl)
    known_stops s spare bytes stop c id (Some members) is t e = absurd cc

    pub record Unknown (s : State) (spare : ℕ) (bytes : List ℕ) (stop : Stop) : Type 0 where
      pub id : ℕ
      pub behind : Cursor
      pub passes : VPasses s spare bytes (Some (U32 id)) behind
      pub unknown : members_of set id ≡ None
      pub stop_is : record { cause = D9; instruction = 0; left = length bytes } ≡ stop

    unknown_of : (s : State) (spare : ℕ) (bytes : List ℕ) (stop : Stop) (c : Cursor) (v : Option Scalar) → IsLength level v → VPasses s spare bytes v c → named_at set bytes (v, c) ≡ Err stop → (v ≡ None → ⊥) → Unknown s spare bytes stop
    unknown_of s spare bytes stop c None some t e there = absurd (there refl)
    unknown_of s spare bytes stop c (Some (U32 id)) some t e there =
        let u = known_stops s spare bytes stop c id (members_of set id) refl t e in
        record { id = id; behind = c; passes = t; unknown = u.1; stop_is = u.0 }
    unknown_of s spare bytes stop c (Some (I32 x)) some t e there = absurd some
    unknown_of s spare bytes stop c (Some (U64 x)) some t e there = absurd some
    unknown_of s spare bytes stop c (Some (I64 x)) some t e there = absurd some
    unknown_of s spare bytes stop c (Some (Decimal x m)) some t e there = absurd some
    unknown_of s spare bytes stop c (Some (Ascii x)) some t e there = absurd some
    unknown_of s spare bytes stop c (Some (Unicode x)) some t e there = absurd some
    unknown_of s spare bytes stop c (Some (Bytes x)) some t e there = absurd some

    unknown_at : (s : State) (spare : ℕ) (bytes : List ℕ) (stop : Stop) (x : Option Scalar × Cursor) → IsBytes bytes → field_part_at level identifier (cursor s spare bytes) ≡ Ok x → named_at set bytes x ≡ Err stop → Unknown s spare bytes stop
    unknown_at s spare bytes stop x fits g h =
        let t = id_part.found s spare bytes x.0 x.1 fits g in
        unknown_of s spare bytes stop x.1 x.0 (is_u32 x.0 s t.front (state_of x.1) t.form) t h
        (λ none. identifier_exact.there refl _ _ t.front (subst (λ (v : Option Scalar). Part level identifier s t.front v (state_of x.1)) none t.form).0)

    id_stops : (s : State) (spare : ℕ) (bytes : List ℕ) (stop : Stop) → IsBytes bytes → ident (cursor s spare bytes) ≡ Err stop → IdStopping s spare bytes stop
    id_stops s spare bytes stop fits e = elim (bind_err (field_part_at level identifier (cursor s spare bytes)) (named_at set bytes) stop e) [
      | at_first g ↦ let h = id_part.stops s spare bytes stop fits g in record { instruction_is = h.instruction_is; left_is = h.left_is; fault = inl h.fault }
      | at_second x g h ↦
          let u = unknown_at s spare bytes stop x fits g h in
          subst (λ (y : Stop). IdStopping s spare bytes y) u.stop_is
          (record {
            instruction_is = refl;
            left_is = refl;
            fault = inr (refl, record { between = u.id; front = u.passes.front; back = u.behind.bytes; parts = u.passes.parts; first = (state_of u.behind, u.passes.form); second = u.unknown });
          })
    ]

    id_stopped_of : (s : State) (spare : ℕ) (rest : List ℕ) (stop : Stop) → stop.instruction ≡ 0 → stop.left ≡ length rest → IdentifierFault level set s rest stop.cause → ident (cursor s spare rest) ≡ Err stop
    id_stopped_of s spare rest stop number left (inl h) = rw (id_part.stopped s spare rest stop (record { instruction_is = number; left_is = left; fault = h })) refl
    id_stopped_of s spare rest stop number left (inr h) =
        let t = h.1 in
        let read : field_part_at level identifier (cursor s spare rest) ≡ Ok (Some (U32 t.between), cursor t.first.0 spare t.back) =
        rw (t.parts, sym (zero-add spare)) (subst (λ (n : ℕ). field_part_at level identifier (cursor s (0 + spare) (t.front ++ t.back)) ≡ Ok (Some (U32 t.between), cursor t.first.0 n t.back)) (sym (zero-add spare)) (id_part.again s t.first.0 spare t.front t.back (Some (U32 t.between)) t.first.1)) in
        rw (read, t.second) (ap (λ (y : Stop). fails_as {A = Named} y) (stop_is stop D9 0 (length rest) h.0 number left))

    id_stays : (s : State) (spare : ℕ) (bytes more : List ℕ) (stop : Stop) → IsBytes bytes → ident (cursor s spare bytes) ≡ Err stop → stop.cause ≢ Truncated → ident (cursor s spare (bytes ++ more)) ≡ Err (further (length more) stop)
    id_stays s spare bytes more stop fits e other = elim (bind_err (field_part_at level identifier (cursor s spare bytes)) (named_at set bytes) stop e) [
      | at_first g ↦ rw (id_part.stays s spare bytes more stop fits g other) refl
      | at_second x g h ↦
          let u = unknown_at s spare bytes stop x fits g h in
          id_stopped_of s spare (bytes ++ more) (further (length more) stop) (ap (λ (y : Stop). y.instruction) (sym u.stop_is))
          (ap (λ (y : Stop). y.left + length more) (sym u.stop_is) ∙ sym (length-append bytes more))
          (inr (
            ap (λ (y : Stop). y.cause) (sym u.stop_is),
            record {
              between = u.id;
              front = u.passes.front;
              back = u.behind.bytes ++ more;
              parts = ap (λ (z : List ℕ). z ++ more) u.passes.parts ∙ append_assoc u.passes.front u.behind.bytes more;
              first = (state_of u.behind, u.passes.form);
              second = u.unknown;
            },
          ))
    ]

    pub id_reader : IsPieceReader (λ (_ : Named). 0) IdForm IdStopping ident
    id_reader = record { found = id_found; again = id_again; stops = id_stops; stopped = λ s spare rest stop h. id_stopped_of s spare rest stop h.instruction_is h.left_is h.fault; stays = id_stays }

    -- ---- a message's map and its identifier

    abbrev under : Dictionary → List Bool → State
    under d bits = record { dictionary = d; bits = bits }

    abbrev MapForm : Forms (List Bool)
    MapForm s b bits t = MapEntity level b bits × (t ≡ under s.dictionary bits)

    abbrev MapStopping : Stopping
    MapStopping s spare rest stop = StopsAt 0 (λ cause. (f : Cause) × (map_judged level rest ≡ Err f) × (cause ≡ f)) rest stop

    abbrev as_bits : List Bool × Cursor → Reads (List Bool)
    as_bits x = Ok x

    abbrev as_cursor : Cursor → Result Cursor Stop
    as_cursor c = Ok c

    abbrev reading_map : Cursor → Reads (List Bool)
    reading_map c = placed (λ (f : Cause). f) 0 c.bytes (map_judged level c.bytes) >>= λ v. as_bits (v.0, cursor (under c.dictionary v.0) c.spare v.1)

    abbrev HeadForm : Forms Named
    HeadForm = Bound MapForm (λ _. IdForm)

    abbrev HeadStopping : Stopping
    HeadStopping = BoundStops (λ _. 0) MapForm MapStopping (λ _. IdStopping)

    head_reader : IsPieceReader (λ (_ : Named). 0) HeadForm HeadStopping (λ c. reading_map c >>= λ x. ident x.1)
    head_reader =
        bound_reader (λ _. 0) (λ _ _. 0) (λ _. 0) MapForm (λ _. IdForm) MapStopping (λ _. IdStopping) (λ _. Unit {0}) reading_map (λ _. ident)
        (placed_reader Truncated (λ (f : Cause). f) 0 (λ s. map_judged level) (λ s. MapEntity level) (λ s bits. under s.dictionary bits) refl (λ s. maps_judged level))
        (λ s b x t h. tt) (λ x h. id_reader) (λ x s b y t h. refl)

    abbrev start : Dictionary → State
    start d = under d []

    abbrev head : Dictionary → List ℕ → Reads Named
    head d bytes = reading_map (cursor (start d) node_limit bytes) >>= λ x. ident x.1

    head_same : (d : Dictionary) (bytes : List ℕ) (j : Result (Unit {0}) Cause) (m : Result (List Bool × List ℕ) WireFault)
        → ((placed (λ (f : Cause). f) 0 bytes j >>= λ ok. (placed cause_of_wire 0 bytes m >>= λ v. as_cursor (cursor (under d v.0) node_limit v.1))) >>= ident)
        ≡ ((placed (λ (f : Cause). f) 0 bytes (j >>= λ ok. as_cause m) >>= λ v. as_bits (v.0, cursor (under d v.0) node_limit v.1)) >>= λ x. ident x.1)
    head_same d bytes (Ok u) (Ok v) = refl
    head_same d bytes (Ok u) (Err f) = refl
    head_same d bytes (Err f) m = refl

    head_is : (d : Dictionary) (bytes : List ℕ) → head_at level set d bytes ≡ head d bytes
    unfolding head_at
    head_is d bytes = head_same d bytes (judge level 256 overlong_map cause_of_wire R7 bytes) (map_at bytes)

    -- what stands in a message, and its end
    abbrev whole_at : Instructions → Cursor → Reads Items
    whole_at members = closing level 0 (λ j. body_at level members j)

    abbrev Own : Instructions → Forms Items
    Own members s b ns t = Body level members s b ns t

    abbrev WholeBody : Instructions → Forms Items
    WholeBody members = Closed level (Own members)

    abbrev WholeStops : Instructions → State → ℕ → List ℕ → Stop → Type 0
    WholeStops members s spare rest stop = ClosedStops level 0 nodes_in (Own members) (λ u j b st. BodyStops level members u j b st) s spare rest stop

    -- ---- a message

    abbrev Whole : Type 0
    Whole = Content × Dictionary × List ℕ

    abbrev content : ℕ → Items → Content
    content template items = record { template = template; items = items }

    abbrev as_whole : ℕ → Items × Cursor → Result Whole MessageStop
    as_whole template r = Ok (content template r.0, r.1.dictionary, r.1.bytes)

    abbrev behind_head : Named × Cursor → Result Whole MessageStop
    behind_head h = in_template h.0.template (whole_at h.0.members h.1) >>= as_whole h.0.template

    message_is : (d : Dictionary) (bytes : List ℕ) → message_at level set d bytes ≡ (in_template 0 (head d bytes) >>= behind_head)
    unfolding message_at
    message_is d bytes = rw (head_is d bytes) refl

    in_ok : {A : Type 0} (id : ℕ) (r : Result A Stop) (x : A) → in_template id r ≡ Ok x → r ≡ Ok x
    in_ok id (Ok y) x e = let same : y ≡ x = cc in ap (λ z. Ok z) same
    in_ok id (Err s) x e = absurd cc

    in_err : {A : Type 0} (id : ℕ) (r : Result A Stop) (m : MessageStop) → in_template id r ≡ Err m → (s : Stop) × (r ≡ Err s) × (record { template = id; stop = s } ≡ m)
    in_err id (Ok y) m e = absurd cc
    in_err id (Err s) m e = (s, refl, cc)

    module _ (typed : AllByRecursion (λ t. HaveTypedParts t.members) set) where
      abbrev BodyReader : Instructions → Type 0
      BodyReader members = IsPieceReader nodes_in (WholeBody members) (λ s spare rest stop. WholeStops members s spare rest stop) (whole_at members)

      body_of : (id : ℕ) (members : Instructions) → members_of set id ≡ Some members → BodyReader members
      body_of id members is = closed_at 0 nodes_in (Own members) (λ u j b st. BodyStops level members u j b st) (λ j. body_at level members j) (body_reader level is_exact members (members_have HaveTypedParts set typed id members is)) level

      -- a head and the body of its template are a message
      put_together : (d : Dictionary) (front back : List ℕ) (named : Named) (u t : State) (items : Items) → HeadForm (start d) front named u → WholeBody named.members u back items t → nodes_in items ≤ node_limit
          → MessageForm level set d (front ++ back) (content named.template items) t.dictionary
      put_together d front back named u t items h body few =
          let m = h.1 in
          let id = m.second in
          record {
            few = few;
            segment = record {
              bits = h.0;
              left = t.bits;
              map = m.front;
              body = m.back ++ back;
              parts = ap (λ (z : List ℕ). z ++ back) m.parts ∙ append_assoc m.front m.back back;
              map_form = mapped (Own named.members) level h.0 m.front u t back items m.first.0 body;
              inside = record {
                between = u;
                front = m.back;
                back = back;
                parts = refl;
                first = subst (λ (s : State). Part level identifier s m.back (Some (U32 named.template)) u) m.first.1 id.0;
                second = rw id.1 (inside_of (Own named.members) level u t back items body);
              };
            };
          }

      pub message_found : (d : Dictionary) (bytes : List ℕ) (m : Content) (after : Dictionary) (rest : List ℕ) → IsBytes bytes → message_at level set d bytes ≡ Ok (m, after, rest) → MessagePasses level set d bytes m after rest
      message_found d bytes m after rest fits e =
          let a = bind_ok (in_template 0 (head d bytes)) behind_head (m, after, rest) (sym (message_is d bytes) ∙ e) in
          let named = a.0.0 in
          let k = a.0.1 in
          let t = head_reader.found (start d) node_limit bytes named k fits (in_ok 0 (head d bytes) (named, k) a.1) in
          let b = bind_ok (in_template named.template (whole_at named.members k)) (as_whole named.template) (m, after, rest) a.2 in
          let is = t.form.1.second.1 in
          let u = (body_of named.template named.members is).found (state_of k) k.spare k.bytes b.0.0 b.0.1 t.rest_bytes (in_ok named.template (whole_at named.members k) b.0 b.1) in
          let few : nodes_in b.0.0 ≤ node_limit = let n = t.counted in let o = u.counted in omega arith in
          subst (λ (w : Whole). MessagePasses level set d bytes w.0 w.1 w.2) (ok_is {F = MessageStop} (content named.template b.0.0, b.0.1.dictionary, b.0.1.bytes) (m, after, rest) b.2)
          (record {
            front = t.front ++ u.front;
            parts = t.parts ∙ ap (λ (z : List ℕ). t.front ++ z) u.parts ∙ sym (append_assoc t.front u.front b.0.1.bytes);
            rest_bytes = u.rest_bytes;
            form = put_together d t.front u.front named (state_of k) (state_of b.0.1) b.0.0 t.form u.form few;
          })

      pub record Taken (d : Dictionary) (bytes : List ℕ) (m : Content) (after : Dictionary) : Type 0 where
        pub members : Instructions
        pub there : members_of set m.template ≡ Some members
        pub front : List ℕ
        pub back : List ℕ
        pub u : State
        pub left : List Bool
        pub parts : bytes ≡ front ++ back
        pub head_form : HeadForm (start d) front (record { template = m.template; members = members }) u
        pub body_form : WholeBody members u back m.items (under after left)

      take_apart_of : (d : Dictionary) (bytes : List ℕ) (m : Content) (after : Dictionary) (h : MessageForm level set d bytes m after) (o : Option Instructions) → members_of set m.template ≡ o → Taken d bytes m after
      take_apart_of d bytes m after h None is = let body = h.segment.inside.second in absurd (rw is at body)
      take_apart_of d bytes m after h (Some members) is =
          let g = h.segment in
          record {
            members = members;
            there = is;
            front = g.map ++ g.inside.front;
            back = g.inside.back;
            u = g.inside.between;
            left = g.left;
            parts = g.parts ∙ ap (λ (z : List ℕ). g.map ++ z) g.inside.parts ∙ sym (append_assoc g.map g.inside.front g.inside.back);
            head_form = (g.bits, record { between = under d g.bits; front = g.map; back = g.inside.front; parts = refl; first = (entity_of level g.bits g.left g.map g.map_form, refl); second = (g.inside.first, is) });
            body_form = closed_of (Own members) level g.bits g.map g.inside.between (under after g.left) g.inside.back m.items g.map_form (let body = g.inside.second in rw is at body);
          }

      take_apart : (d : Dictionary) (bytes : List ℕ) (m : Content) (after : Dictionary) → MessageForm level set d bytes m after → Taken d bytes m after
      take_apart d bytes m after h = take_apart_of d bytes m after h (members_of set m.template) refl

      pub message_again : (d : Dictionary) (form rest : List ℕ) (m : Content) (after : Dictionary) → MessageForm level set d form m after → message_at level set d (form ++ rest) ≡ Ok (m, after, rest)
      message_again d form rest m after h =
          let t = take_apart d form m after h in
          let few = h.few in
          let spare = node_limit - nodes_in m.items in
          let count : node_limit ≡ nodes_in m.items + spare = omega arith in
          let regrouped : form ++ rest ≡ t.front ++ (t.back ++ rest) = ap (λ (z : List ℕ). z ++ rest) t.parts ∙ append_assoc t.front t.back rest in
          let named : Named = record { template = m.template; members = t.members } in
          let one : head d (t.front ++ (t.back ++ rest)) ≡ Ok (named, cursor t.u node_limit (t.back ++ rest)) = head_reader.again (start d) t.u node_limit t.front (t.back ++ rest) named t.head_form in
          let two : whole_at t.members (cursor t.u (nodes_in m.items + spare) (t.back ++ rest)) ≡ Ok (m.items, cursor (under after t.left) spare rest) = (body_of m.template t.members t.there).again t.u (under after t.left) spare t.back rest m.items t.body_form in
          let three : whole_at t.members (cursor t.u node_limit (t.back ++ rest)) ≡ Ok (m.items, cursor (under after t.left) spare rest) = subst (λ (n : ℕ). whole_at t.members (cursor t.u n (t.back ++ rest)) ≡ Ok (m.items, cursor (under after t.left) spare rest)) (sym count) two in
          message_is d (form ++ rest) ∙ rw (regrouped, one, three) refl

      head_stopped : (d : Dictionary) (bytes : List ℕ) (s : Stop) → HeadStopping (start d) node_limit bytes s → MessageStops level set d bytes (record { template = 0; stop = s })
      head_stopped d bytes s (inl h) = in_map refl (record { instruction_is = h.instruction_is; left_is = h.left_is; fault = subst (λ (c : Cause). MapFault level bytes c) (sym h.fault.2) (map_refused_at level bytes h.fault.0 h.fault.1) })
      head_stopped d bytes s (inr h) =
          let p = h.between in
          in_identifier refl (record {
            between = p.value;
            front = h.front;
            back = h.back;
            parts = h.parts;
            first = h.first.0.0;
            second = subst (λ (u : State). StopsAt 0 (IdentifierFault level set u h.back) h.back s) h.first.0.1 h.second;
          })

      body_stopped : (d : Dictionary) (bytes : List ℕ) (named : Named) (k : Cursor) (s : Stop) → Passes (λ (_ : Named). 0) HeadForm (start d) node_limit bytes named k → whole_at named.members k ≡ Err s
          → MessageStops level set d bytes (record { template = named.template; stop = s })
      body_stopped d bytes named k s t e =
          let m = t.form.1 in
          let is = m.second.1 in
          let count : k.spare ≡ node_limit = sym (t.counted ∙ zero-add k.spare) in
          let stops = (body_of named.template named.members is).stops (state_of k) k.spare k.bytes s t.rest_bytes e in
          in_body (record {
            between = t.form.0;
            front = m.front;
            back = m.back ++ k.bytes;
            parts = t.parts ∙ ap (λ (z : List ℕ). z ++ k.bytes) m.parts ∙ append_assoc m.front m.back k.bytes;
            first = m.first.0;
            second = record {
              members = named.members;
              there = is;
              behind = record {
                between = state_of k;
                front = m.back;
                back = k.bytes;
                parts = refl;
                first = subst (λ (u : State). Part level identifier u m.back (Some (U32 named.template)) (state_of k)) m.first.1 m.second.0;
                second = subst (λ (n : ℕ). WholeStops named.members (state_of k) n k.bytes s) count stops;
              };
            };
          })

      pub message_stops : (d : Dictionary) (bytes : List ℕ) (stop : MessageStop) → IsBytes bytes → message_at level set d bytes ≡ Err stop → MessageStops level set d bytes stop
      message_stops d bytes stop fits e = elim (bind_err (in_template 0 (head d bytes)) behind_head stop (sym (message_is d bytes) ∙ e)) [
        | at_first g ↦
            let h = in_err 0 (head d bytes) stop g in
            subst (λ (m : MessageStop). MessageStops level set d bytes m) h.2 (head_stopped d bytes h.0 (head_reader.stops (start d) node_limit bytes h.0 fits h.1))
        | at_second x g h ↦ elim (bind_err (in_template x.0.template (whole_at x.0.members x.1)) (as_whole x.0.template) stop h) [
          | at_first g2 ↦
              let t = head_reader.found (start d) node_limit bytes x.0 x.1 fits (in_ok 0 (head d bytes) x g) in
              let b = in_err x.0.template (whole_at x.0.members x.1) stop g2 in
              subst (λ (m : MessageStop). MessageStops level set d bytes m) b.2 (body_stopped d bytes x.0 x.1 b.0 t b.1)
          | at_second y g2 h2 ↦ absurd cc
        ]
      ]

      template_is : (m : MessageStop) → m.template ≡ 0 → record { template = 0; stop = m.stop } ≡ m
      template_is m e = rw (sym e) refl

      abbrev failed : MessageStop → Result Whole MessageStop
      failed m = Err m

      head_faulty : (d : Dictionary) (rest : List ℕ) (m : MessageStop) → m.template ≡ 0 → HeadStopping (start d) node_limit rest m.stop → message_at level set d rest ≡ Err m
      head_faulty d rest m template h =
          let stopped : head d rest ≡ Err m.stop = head_reader.stopped (start d) node_limit rest m.stop h in
          message_is d rest ∙ rw stopped (ap failed (template_is m template))

      -- what a message has in its body, behind its head
      pub record Behind (d : Dictionary) (rest : List ℕ) (m : MessageStop) : Type 0 where
        pub members : Instructions
        pub there : members_of set m.template ≡ Some members
        pub front : List ℕ
        pub back : List ℕ
        pub u : State
        pub parts : rest ≡ front ++ back
        pub head_form : HeadForm (start d) front (record { template = m.template; members = members }) u
        pub stops : WholeStops members u node_limit back m.stop

      behind_of : (d : Dictionary) (rest : List ℕ) (m : MessageStop) (bits : List Bool) (front back : List ℕ) → rest ≡ front ++ back → MapEntity level front bits → InBody level set (under d bits) back m → Behind d rest m
      behind_of d rest m bits front back parts map h =
          let g = h.behind in
          record {
            members = h.members;
            there = h.there;
            front = front ++ g.front;
            back = g.back;
            u = g.between;
            parts = parts ∙ ap (λ (z : List ℕ). front ++ z) g.parts ∙ sym (append_assoc front g.front g.back);
            head_form = (bits, record { between = under d bits; front = front; back = g.front; parts = refl; first = (map, refl); second = (g.first, h.there) });
            stops = g.second;
          }

      head_read : (d : Dictionary) (front back : List ℕ) (named : Named) (u : State) → HeadForm (start d) front named u → head d (front ++ back) ≡ Ok (named, cursor u node_limit back)
      head_read d front back named u h = head_reader.again (start d) u node_limit front back named h

      body_faulty : (d : Dictionary) (rest : List ℕ) (m : MessageStop) → Behind d rest m → message_at level set d rest ≡ Err m
      body_faulty d rest m h =
          let named : Named = record { template = m.template; members = h.members } in
          let one : head d (h.front ++ h.back) ≡ Ok (named, cursor h.u node_limit h.back) = head_read d h.front h.back named h.u h.head_form in
          let two : whole_at h.members (cursor h.u node_limit h.back) ≡ Err m.stop = (body_of m.template h.members h.there).stopped h.u node_limit h.back m.stop h.stops in
          message_is d rest ∙ rw (h.parts, one, two) refl

      pub message_stopped : (d : Dictionary) (rest : List ℕ) (m : MessageStop) → MessageStops level set d rest m → message_at level set d rest ≡ Err m
      message_stopped d rest m (in_map t h) =
          head_faulty d rest m t (inl (record { instruction_is = h.instruction_is; left_is = h.left_is; fault = (m.stop.cause, map_faulty_at level rest m.stop.cause h.fault, refl) }))
      message_stopped d rest m (in_identifier t h) =
          head_faulty d rest m t (inr (record {
            between = record { value = h.between; spare = node_limit; after = under d h.between };
            front = h.front;
            back = h.back;
            parts = h.parts;
            first = ((h.first, refl), refl);
            second = h.second;
          }))
      message_stopped d rest m (in_body h) = body_faulty d rest m (behind_of d rest m h.between h.front h.back h.parts h.first h.second)

      head_stays : (d : Dictionary) (bytes more : List ℕ) (s : Stop) → IsBytes bytes → head d bytes ≡ Err s → s.cause ≢ Truncated → message_at level set d (bytes ++ more) ≡ Err (record { template = 0; stop = further (length more) s })
      head_stays d bytes more s fits e other =
          let stays : head d (bytes ++ more) ≡ Err (further (length more) s) = head_reader.stays (start d) node_limit bytes more s fits e other in
          message_is d (bytes ++ more) ∙ rw stays refl

      body_stays : (d : Dictionary) (bytes more front : List ℕ) (named : Named) (k : Cursor) (s : Stop) → bytes ≡ front ++ k.bytes → node_limit ≡ k.spare → HeadForm (start d) front named (state_of k) → IsBytes k.bytes
          → whole_at named.members k ≡ Err s → s.cause ≢ Truncated → message_at level set d (bytes ++ more) ≡ Err (record { template = named.template; stop = further (length more) s })
      body_stays d bytes more front named k s parts count h fits e other =
          let is = h.1.second.1 in
          let regrouped : bytes ++ more ≡ front ++ (k.bytes ++ more) = ap (λ (z : List ℕ). z ++ more) parts ∙ append_assoc front k.bytes more in
          let one : head d (front ++ (k.bytes ++ more)) ≡ Ok (named, cursor (state_of k) node_limit (k.bytes ++ more)) = head_read d front (k.bytes ++ more) named (state_of k) h in
          let stays : whole_at named.members (cursor (state_of k) k.spare (k.bytes ++ more)) ≡ Err (further (length more) s) = (body_of named.template named.members is).stays (state_of k) k.spare k.bytes more s fits e other in
          let two : whole_at named.members (cursor (state_of k) node_limit (k.bytes ++ more)) ≡ Err (further (length more) s) =
          subst (λ (n : ℕ). whole_at named.members (cursor (state_of k) n (k.bytes ++ more)) ≡ Err (further (length more) s)) (sym count) stays in
          message_is d (bytes ++ more) ∙ rw (regrouped, one, two) refl

      pub message_stays : (d : Dictionary) (bytes more : List ℕ) (m : MessageStop) → IsBytes bytes → message_at level set d bytes ≡ Err m → m.stop.cause ≢ Truncated → message_at level set d (bytes ++ more) ≡ Err (further_on (length more) m)
      message_stays d bytes more m fits e other = elim (bind_err (in_template 0 (head d bytes)) behind_head m (sym (message_is d bytes) ∙ e)) [
        | at_first g ↦
            let h = in_err 0 (head d bytes) m g in
            subst (λ (y : MessageStop). message_at level set d (bytes ++ more) ≡ Err (further_on (length more) y)) h.2
            (head_stays d bytes more h.0 fits h.1 (λ c. other (sym (ap (λ (y : MessageStop). y.stop.cause) h.2) ∙ c)))
        | at_second x g h ↦ elim (bind_err (in_template x.0.template (whole_at x.0.members x.1)) (as_whole x.0.template) m h) [
          | at_first g2 ↦
              let t = head_reader.found (start d) node_limit bytes x.0 x.1 fits (in_ok 0 (head d bytes) x g) in
              let b = in_err x.0.template (whole_at x.0.members x.1) m g2 in
              subst (λ (y : MessageStop). message_at level set d (bytes ++ more) ≡ Err (further_on (length more) y)) b.2
              (body_stays d bytes more t.front x.0 x.1 b.0 t.parts (t.counted ∙ zero-add x.1.spare) t.form t.rest_bytes b.1 (λ c. other (sym (ap (λ (y : MessageStop). y.stop.cause) b.2) ∙ c)))
          | at_second y g2 h2 ↦ absurd cc
        ]
      ]

      pub message_reader : IsMessageReader level set
      message_reader = record { found = message_found; again = message_again; stops = message_stops; stopped = message_stopped; stays = message_stays }
