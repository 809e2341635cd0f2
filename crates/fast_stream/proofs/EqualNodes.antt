-- `==` of two nodes, and of two messages, is true exactly if their contents are the same.
use denote.Hole.Carrier as Carrier
use Rattle.fast_stream.proofs.Common.{◌≡◌, ◌==◌, ℕ, Some, Bool, true, false, List, [], ◌∷◌, map, refl, sym, ap, ap₂, subst, ◌∙◌, Decides, first_so, second_so, unsigned_Decides, both_true, pointwise, Vec, mapped, false≢true, scalar_eq-exact, scalar_eq-same, Message, Node, Absent, Value, Group', Sequence', roll-Node, out-Node, out-roll-Node, map-Node, fold-roll-Node, fold_out-Node, ind-Node, Node-F, Item, Items, Elements, single, group_items, sequence_elements, no_items, no_elements, then_element, items_of, elements_of, node_step, item_of, items_in, content_of}
use Rattle.std.specs.declared.alloc.Global.{Global}
use Rattle.fast_value.specs.contracts.scalar.ScalarPartialEq.TheImpl as scalar_eq
use Rattle.fast_stream.specs.contracts.message.NodePartialEq.TheImpl as node_eq
use Rattle.fast_stream.specs.contracts.message.NodePartialEq.TheImpl.Laws as node_eq_laws
use Rattle.fast_stream.specs.contracts.message.MessagePartialEq.TheImpl as message_eq
use Rattle.fast_stream.proofs.SameNodes.{alike, items_same}

-- ---- one level

abbrev eq : Node → Node → Bool
eq = (node_eq.eq-value).it

abbrev layer : (Node → Node → Bool) → Node-F Node → Node-F Node → Bool
layer r Node-F.Absent Node-F.Absent = true
layer r (Node-F.Value v) (Node-F.Value w) = (scalar_eq.eq-value).it v w
layer r (Node-F.Group ns) (Node-F.Group ms) = pointwise r ns.items ms.items
layer r (Node-F.Sequence es) (Node-F.Sequence fs) = pointwise (λ e f. pointwise r e.items f.items) es.items fs.items
layer r a b = false

out_layer : (d e : Node) → eq d e ≡ layer eq (out-Node d) (out-Node e)
unfolding out-Node Carrier.out
out_layer Absent Absent = node_eq_laws.is Absent Absent
out_layer Absent (Value t) = node_eq_laws.is Absent (Value t)
out_layer Absent (Group' t th) = node_eq_laws.is Absent (Group' t th)
out_layer Absent (Sequence' t th) = node_eq_laws.is Absent (Sequence' t th)
out_layer (Value s) Absent = node_eq_laws.is (Value s) Absent
out_layer (Value s) (Value t) = node_eq_laws.is (Value s) (Value t)
out_layer (Value s) (Group' t th) = node_eq_laws.is (Value s) (Group' t th)
out_layer (Value s) (Sequence' t th) = node_eq_laws.is (Value s) (Sequence' t th)
out_layer (Group' s sh) Absent = node_eq_laws.is (Group' s sh) Absent
out_layer (Group' s sh) (Value t) = node_eq_laws.is (Group' s sh) (Value t)
out_layer (Group' s sh) (Group' t th) = node_eq_laws.is (Group' s sh) (Group' t th)
out_layer (Group' s sh) (Sequence' t th) = node_eq_laws.is (Group' s sh) (Sequence' t th)
out_layer (Sequence' s sh) Absent = node_eq_laws.is (Sequence' s sh) Absent
out_layer (Sequence' s sh) (Value t) = node_eq_laws.is (Sequence' s sh) (Value t)
out_layer (Sequence' s sh) (Group' t th) = node_eq_laws.is (Sequence' s sh) (Group' t th)
out_layer (Sequence' s sh) (Sequence' t th) = node_eq_laws.is (Sequence' s sh) (Sequence' t th)

-- ---- lists of nodes, where what is to be shown stands beside each node of the first

abbrev Exact : Node → Type 0
Exact b = (c : Node) → Decides (eq b c) (item_of b ≡ item_of c)

abbrev Proved : Type 0
Proved = (b : Node) × Exact b

abbrev nodes : List Proved → List Node
nodes = map (λ e. e.0)

-- an equation of lists, taken apart: `cc` searches long here, where the types of nodes compute
abbrev IsEmpty : List Item → Type 0
IsEmpty [] = Unit {0}
IsEmpty (i ∷ is) = ⊥

abbrev first_or : Item → List Item → Item
first_or d [] = d
first_or d (i ∷ is) = i

abbrev others : List Item → List Item
others [] = []
others (i ∷ is) = is

equal_lists : (ns : List Proved) (ms : List Node) → pointwise eq (nodes ns) ms ≡ true → map item_of (nodes ns) ≡ map item_of ms
equal_lists [] [] e = refl
equal_lists [] (m ∷ ms) e = absurd (false≢true e)
equal_lists (n ∷ ns) [] e = absurd (false≢true e)
equal_lists (n ∷ ns) (m ∷ ms) e = ap₂ (◌∷◌) ((n.1 m).0 (first_so (eq n.0 m) (pointwise eq (nodes ns) ms) e)) (equal_lists ns ms (second_so (eq n.0 m) (pointwise eq (nodes ns) ms) e))

lists_equal : (ns : List Proved) (ms : List Node) → map item_of (nodes ns) ≡ map item_of ms → pointwise eq (nodes ns) ms ≡ true
lists_equal [] [] e = refl
lists_equal [] (m ∷ ms) e = absurd (subst IsEmpty e tt)
lists_equal (n ∷ ns) [] e = absurd (subst IsEmpty (sym e) tt)
lists_equal (n ∷ ns) (m ∷ ms) e = both_true ((n.1 m).1 (ap (first_or (item_of m)) e)) (lists_equal ns ms (ap others e))

-- ---- lists of elements

abbrev without : Vec Proved Global → Vec Node Global
without = mapped (λ e. e.0)

abbrev elements_seen : List (Vec Node Global) → Elements
elements_seen es = elements_of (map (λ e. items_of e.items) (map (mapped {H = Global} item_of) es))

abbrev same_items : Vec Node Global → Vec Node Global → Bool
same_items e f = pointwise eq e.items f.items

abbrev HasNone : Elements → Type 0
HasNone no_elements = Unit {0}
HasNone (then_element is es) = ⊥

abbrev first_element : Elements → Items
first_element no_elements = no_items
first_element (then_element is es) = is

abbrev other_elements : Elements → Elements
other_elements no_elements = no_elements
other_elements (then_element is es) = es

abbrev elements_within : Item → Elements
elements_within (sequence_elements es) = es
elements_within i = no_elements

equal_elements : (es : List (Vec Proved Global)) (fs : List (Vec Node Global)) → pointwise same_items (map without es) fs ≡ true → elements_seen (map without es) ≡ elements_seen fs
equal_elements [] [] e = refl
equal_elements [] (f ∷ fs) e = absurd (false≢true e)
equal_elements (x ∷ xs) [] e = absurd (false≢true e)
equal_elements (x ∷ xs) (f ∷ fs) e =
    let first = same_items (without x) f in
    let rest = pointwise same_items (map without xs) fs in
    ap₂ (λ l m. then_element (items_of l) m) (equal_lists x.items f.items (first_so first rest e)) (equal_elements xs fs (second_so first rest e))

elements_equal : (es : List (Vec Proved Global)) (fs : List (Vec Node Global)) → elements_seen (map without es) ≡ elements_seen fs → pointwise same_items (map without es) fs ≡ true
elements_equal [] [] e = refl
elements_equal [] (f ∷ fs) e = absurd (subst HasNone e tt)
elements_equal (x ∷ xs) [] e = absurd (subst HasNone (sym e) tt)
elements_equal (x ∷ xs) (f ∷ fs) e = both_true (lists_equal x.items f.items (items_same _ _ (ap first_element e))) (elements_equal xs fs (ap other_elements e))

abbrev inner : Node-F Node → Node-F Item
inner = map-Node Node Item item_of

abbrev content : Node-F Node → Item
content z = node_step (inner z)

abbrev known : Node-F Proved → Node-F Node
known = map-Node Proved Node (λ e. e.0)

level : (y : Node-F Proved) (z : Node-F Node) → Decides (layer eq (known y) z) (content (known y) ≡ content z)
level Node-F.Absent Node-F.Absent = (λ e. refl, λ e. refl)
level (Node-F.Value v) (Node-F.Value w) = (λ e. ap (λ x. single (Some x)) (scalar_eq-exact v w e), λ e. subst (λ x. (scalar_eq.eq-value).it v x ≡ true) (alike (inner (Node-F.Value v)) (inner (Node-F.Value w)) e) (scalar_eq-same v))
level (Node-F.Group ns) (Node-F.Group ms) = (λ e. ap (λ l. group_items (items_of l)) (equal_lists ns.items ms.items e), λ e. lists_equal ns.items ms.items (alike (inner (known (Node-F.Group ns))) (inner (Node-F.Group ms)) e))
level (Node-F.Sequence es) (Node-F.Sequence fs) = (λ e. ap sequence_elements (equal_elements es.items fs.items e), λ e. elements_equal es.items fs.items (ap elements_within e))
level a b = (λ e. absurd (false≢true e), λ e. absurd (alike (inner (known a)) (inner b) e))

-- ---- whole nodes

exact : (b : Node) → Exact b
exact = ind-Node Exact (λ x y is c.
    let step = subst (λ z. Decides (layer eq z (out-Node c)) (content z ≡ content (out-Node c))) is (level y (out-Node c)) in
    let outs : eq (roll-Node x) c ≡ layer eq x (out-Node c) = out_layer (roll-Node x) c ∙ ap (λ z. layer eq z (out-Node c)) (out-roll-Node x) in
    let left : item_of (roll-Node x) ≡ content x = fold-roll-Node Item node_step x in
    let right : item_of c ≡ content (out-Node c) = fold_out-Node Item node_step c in
    (λ e. left ∙ step.0 (sym outs ∙ e) ∙ sym right, λ e. outs ∙ step.1 (sym left ∙ e ∙ right)))

abbrev proved : List Node → List Proved
proved = map (λ b. (b, exact b))

nodes_proved : (ns : List Node) → nodes (proved ns) ≡ ns
nodes_proved [] = refl
nodes_proved (n ∷ ns) = ap (λ l. n ∷ l) (nodes_proved ns)

lists_exact : (ns ms : List Node) → Decides (pointwise eq ns ms) (items_in ns ≡ items_in ms)
lists_exact ns ms =
    let all = proved ns in
    let there = subst (λ l. (pointwise eq l ms ≡ true → map item_of l ≡ map item_of ms) × (map item_of l ≡ map item_of ms → pointwise eq l ms ≡ true)) (nodes_proved ns) (equal_lists all ms, lists_equal all ms) in
    (λ e. ap items_of (there.0 e), λ e. there.1 (items_same _ _ e))

pub messages_exact : (a b : Message) → Decides ((message_eq.eq-value).it a b) (content_of a ≡ content_of b)
messages_exact a b =
    let ids = a.template == b.template in
    let fields = pointwise eq a.fields.items b.fields.items in
    let parts = lists_exact a.fields.items b.fields.items in (
      λ e. ap₂ (λ (n : ℕ) (is : Items). record { template = n; items = is }) ((unsigned_Decides a.template b.template).0 (first_so ids fields e)) (parts.0 (second_so ids fields e)),
      λ e. both_true ((unsigned_Decides a.template b.template).1 (ap (λ c. c.template) e)) (parts.1 (ap (λ c. c.items) e)),
    )
