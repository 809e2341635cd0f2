-- Nodes that are written one after the other.
use Rattle.fast_nodes.proofs.Common.{◌≡◌, ◌≤◌, ◌<◌, ◌+◌, ℕ, true, false, List, ◌∷◌, ◌++◌, length, drop, get_or, Some, Ok, Err, inl, inr, Result, refl, sym, ap, ◌∙◌, nat_lt, Vec, and_parts, ltb-false, or_parts, drop_more, drop_all, Flat, U32, ◌>>=◌, Node, Presence, FieldPart, Instructions, instruction_of, list_of, is_optional, has_map, Item, single, group_items, sequence_elements, Items, no_items, then_item, Elements, no_elements, then_element, item_of, items_in, element_count, EncodeFault, Books, CanTry, CanTryOne, CanTryEach, GoesOn, IsPut, IsPutWhole, IsSmall, AreSmall, AreSmallIn, NotPut, Piece, Puts, PutsWhole, Seals, both, each_of, of_item, of_items, of_part, segment_of, item_is_large, has_large, has_large_in, elements_judged, Segment, state, bits_for, Asked, IsEmpty, is_group, is_sequence}
use Rattle.fast_template.specs.declared.resolved.Flat.TheVariants.{Group, Sequence}
use Rattle.fast_stream.specs.declared.message.Node.TheVariants as nodes
use Rattle.fast_nodes.proofs.Additions.{adds_then, body_none, elements_none, elements_more, group_added, not_sealed, segment_added, sequence_added}
use Rattle.fast_nodes.proofs.Changes.{goes_same, goes_then}
use Rattle.fast_nodes.proofs.Views.{count_seen, is_elements, is_items, seen}

-- ---- what is known of each

mutual
  small_one : (n : Item) → item_is_large n ≡ false → IsSmall n
  small_one (single v) h = tt
  small_one (group_items ns) h = small_all ns h
  small_one (sequence_elements es) h = let p = or_parts (nat_lt 65535 (element_count es)) (has_large_in es) h in (ltb-false 65535 (element_count es) p.0, small_each es p.1)

  pub small_all : (ns : Items) → has_large ns ≡ false → AreSmall ns
  small_all no_items h = tt
  small_all (then_item n ns) h = let p = or_parts (item_is_large n) (has_large ns) h in (small_one n p.0, small_all ns p.1)

  small_each : (es : Elements) → has_large_in es ≡ false → AreSmallIn es
  small_each no_elements h = tt
  small_each (then_element ns es) h = let p = or_parts (has_large ns) (has_large_in es) h in (small_all ns p.0, small_each es p.1)

-- ---- one behind the other

pub refused_then : {A B : Type 0} {r : Result A EncodeFault} (later : A → Result B EncodeFault) {a b : Books} {f : EncodeFault} → NotPut r a b f → NotPut (r >>= λ x. later x) a b f
refused_then later h = record { why = elim (h.why) [ inl memory ↦ inl memory | inr why ↦ inr (rw (why) refl) ]; goes = h.goes }

refused_behind : {A B : Type 0} {r : Result A EncodeFault} {x : A} (later : A → Result B EncodeFault) {a b c : Books} {f : EncodeFault} → r ≡ Ok x → GoesOn a b → NotPut (later x) b c f → NotPut (r >>= λ y. later y) a c f
refused_behind later is goes h = record { why = elim (h.why) [ inl memory ↦ inl memory | inr why ↦ inr (rw (is) why) ]; goes = goes_then goes h.goes }

pub puts_then : {p : Piece} (q : Piece) {a b : Books} {l k : Segment} (c : Books) (j : Segment) (r : Result (Unit {0}) EncodeFault) → IsPut p a l b k → Puts q b k c j r → Puts (both p q) a l c j r
puts_then q c j (Ok x) h g = record { adds = adds_then h.adds g.adds; goes = goes_then h.goes g.goes }
puts_then q c j (Err f) h g = refused_behind (λ t. q.judge t) h.adds.judged h.goes g

elements_then : (members : Instructions) (ns : Items) (es : Elements) {a b : Books} {old mid : List ℕ} (c : Books) (new : List ℕ) (r : Result (Unit {0}) EncodeFault)
    → IsPutWhole (segment_of members ns) a old b mid → PutsWhole (each_of members es) b mid c new r → PutsWhole (each_of members (then_element ns es)) a old c new r
elements_then members ns es c new (Ok x) h g = record { adds = elements_more members ns es h.adds g.adds; goes = goes_then h.goes g.goes }
elements_then members ns es c new (Err f) h g = refused_behind (λ d. elements_judged members es d) h.adds.judged h.goes g

-- ---- with others inside

pub segment_put : (members : Instructions) (ns : Items) (old new : List ℕ) (r : Result (Unit {0}) EncodeFault) {a b : Books} {k l : Segment} → IsEmpty (has_map members) k
    → IsPut (of_items members ns) a k b l → Seals l old new r → PutsWhole (segment_of members ns) a old b new r
segment_put members ns old new (Ok x) empty h s = record { adds = segment_added members ns empty h.adds s; goes = h.goes }
segment_put members ns old new (Err f) empty h s = record { why = not_sealed empty h.adds s; goes = h.goes }

pub group_put : {flat : Flat} {node : Node} {name : List ℕ} {number : ℕ} {presence : Presence} (members : Vec Flat) (ns : Vec Node) {l k : Segment} (a b : Books) (new : List ℕ) (r : Result (Unit {0}) EncodeFault)
    → flat ≡ Group name number presence members → node ≡ nodes.Group ns → Asked (is_optional presence) true l k
    → PutsWhole (segment_of (list_of members.items) (items_in ns.items)) a k.bytes b new r
    → Puts (of_item (instruction_of flat) (item_of node)) a l b (record { bits = k.bits; own = k.own; bytes = new }) r
group_put {name} {number} {presence} members ns a b new (Ok x) flat node asked h =
    rw (is_group members flat, is_items ns node) (record { adds = group_added name number presence (list_of members.items) (items_in ns.items) asked h.adds; goes = h.goes })
group_put {presence} members ns {l} a b new (Err f) flat node asked h = rw (is_group members flat, is_items ns node) (refused_then (λ e. Ok (state e (l.bits ++ bits_for (is_optional presence) true))) h)

pub sequence_put : {flat : Flat} {node : Node} {name : List ℕ} {number : ℕ} {presence : Presence} {part : FieldPart} (members : Vec Flat) (es : Vec (Vec Node)) {a b : Books} {l k : Segment} (c : Books) (new : List ℕ) (r : Result (Unit {0}) EncodeFault)
    → flat ≡ Sequence name number presence part members → node ≡ nodes.Sequence es → IsPut (of_part part (Some (U32 (length es.items)))) a l b k
    → PutsWhole (each_of (list_of members.items) (seen es.items)) b k.bytes c new r
    → Puts (of_item (instruction_of flat) (item_of node)) a l c (record { bits = k.bits; own = k.own; bytes = new }) r
sequence_put {name} {number} {presence} {part} members es c new (Ok x) flat node h g =
    rw (is_sequence members flat, is_elements es node) (record { adds = sequence_added name number presence part (list_of members.items) (seen es.items) (rw (count_seen es.items) h.adds) g.adds; goes = goes_then h.goes g.goes })
sequence_put members es {k} c new (Err f) flat node h g =
    rw (is_sequence members flat, is_elements es node, count_seen es.items) (refused_behind (λ t. elements_judged (list_of members.items) (seen es.items) t.dictionary >>= λ e. Ok (state e t.bits)) h.adds.judged h.goes (refused_then (λ e. Ok (state e k.bits)) g))

pub can_each : {flat : Flat} {node : Node} {name : List ℕ} {number : ℕ} {presence : Presence} {part : FieldPart} (members : Vec Flat) (es : Vec (Vec Node)) {a b : Books} (fs : List Flat) (ns : List (Vec Node))
    → flat ≡ Sequence name number presence part members → node ≡ nodes.Sequence es → fs ≡ members.items → ns ≡ es.items → CanTryOne a (instruction_of flat) (item_of node) → GoesOn a b → CanTryEach b (list_of fs) (seen ns)
can_each members es fs ns flat node these those h g =
    let one = rw (is_sequence members flat, is_elements es node) at h in
    rw (these, those) (record { parts = one.parts.1; served = rw (g.same_keys) one.served.1; fits = one.fits; small = one.small.1; holds = g.holds one.holds })

-- ---- nodes in a row

-- From this node on they are left: what is answered of those is answered of all.
pub record NodesLeft (flats : List Flat) (nodes : List Node) (a : Books) (l : Segment) (at : ℕ) (b : Books) (k : Segment) : Type 0 where
  pub ready : CanTry b (list_of (drop at flats)) (items_in (drop at nodes))
  pub on : (c : Books) (j : Segment) (r : Result (Unit {0}) EncodeFault) → Puts (of_items (list_of (drop at flats)) (items_in (drop at nodes))) b k c j r → Puts (of_items (list_of flats) (items_in nodes)) a l c j r

pub next_of : {A : Type 0} (xs : List A) (at : ℕ) (x : A) → at < length xs → x ≡ get_or xs at x → drop at xs ≡ x ∷ drop (at + 1) xs
next_of xs at x inside is = drop_more xs at x inside ∙ ap (λ (y : _). y ∷ drop (at + 1) xs) (sym is)

module _ {flats : List Flat} {nodes : List Node} {a b : Books} {l k : Segment} {at : ℕ} (left : NodesLeft flats nodes a l at b k) where
  pub nodes_end : length flats ≤ at → length nodes ≤ at → IsPut (of_items (list_of flats) (items_in nodes)) a l b k
  nodes_end no_flat no_node = left.on b k (Ok tt) (rw (drop_all at flats no_flat, drop_all at nodes no_node) (record { adds = body_none; goes = goes_same }))

  module _ {f : Flat} {n : Node} (flat : drop at flats ≡ f ∷ drop (at + 1) flats) (node : drop at nodes ≡ n ∷ drop (at + 1) nodes) where
    pub nodes_next : {c : Books} {j : Segment} → IsPut (of_item (instruction_of f) (item_of n)) b k c j → NodesLeft flats nodes a l (at + 1) c j
    nodes_next h =
        let now = rw (flat, node) at left.ready in
        record { ready = record { parts = now.parts.1; served = rw (h.goes.same_keys) now.served.1; fits = (and_parts _ _ now.fits).1; small = now.small.1; holds = h.goes.holds now.holds }; on = λ d m r g. (rw (flat, node) at left.on) d m r (puts_then _ d m r h g) }

-- ---- elements

-- From this element on they are left.
pub record ElementsLeft (members : List Flat) (es : List (Vec Node)) (a : Books) (old : List ℕ) (at : ℕ) (b : Books) (new : List ℕ) : Type 0 where
  pub ready : CanTryEach b (list_of members) (seen (drop at es))
  pub on : (c : Books) (last : List ℕ) (r : Result (Unit {0}) EncodeFault) → PutsWhole (each_of (list_of members) (seen (drop at es))) b new c last r → PutsWhole (each_of (list_of members) (seen es)) a old c last r

module _ {members : List Flat} {es : List (Vec Node)} {a b : Books} {old new : List ℕ} {at : ℕ} (left : ElementsLeft members es a old at b new) where
  pub elements_end : length es ≤ at → IsPutWhole (each_of (list_of members) (seen es)) a old b new
  elements_end end = left.on b new (Ok tt) (rw (drop_all at es end) (record { adds = elements_none (list_of members); goes = goes_same }))

  module _ {e : Vec Node} (here : drop at es ≡ e ∷ drop (at + 1) es) where
    pub can_segment : CanTry b (list_of members) (items_in e.items)
    can_segment =
        let now = rw (here) at left.ready in
        record { parts = now.parts; served = now.served; fits = (and_parts _ _ now.fits).0; small = now.small.0; holds = now.holds }

    pub elements_next : {c : Books} {last : List ℕ} → IsPutWhole (segment_of (list_of members) (items_in e.items)) b new c last → ElementsLeft members es a old (at + 1) c last
    elements_next h =
        let now = rw (here) at left.ready in
        record { ready = record { parts = now.parts; served = rw (h.goes.same_keys) now.served; fits = (and_parts _ _ now.fits).1; small = now.small.1; holds = h.goes.holds now.holds }; on = λ d m r g. (rw (here) at left.on) d m r (elements_then (list_of members) (items_in e.items) (seen (drop (at + 1) es)) d m r h g) }

    pub element_refused : {c : Books} {fault : EncodeFault} → NotPut ((segment_of (list_of members) (items_in e.items)).judge b.entries) b c fault → NotPut (elements_judged (list_of members) (seen es) a.entries) a c fault
    element_refused {c} {fault} h = (rw (here) at left.on) c new (Err fault) (refused_then (λ d. elements_judged (list_of members) (seen (drop (at + 1) es)) d) h)
