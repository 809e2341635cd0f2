-- What instructions and nodes with others inside are to contracts.
use Rattle.fast_nodes.proofs.Common.{◌≡◌, ◌≢◌, false, suc, sym, List, [], ◌∷◌, Some, None, length, map, ap, ◌∙◌, refl, arith, and_right, Vec, Flat, instruction_of, list_of, Scalar, Node, fold_out-Node, outs-Absent, outs-Value, Item, single, Elements, element_count, node_step, group_items, sequence_elements, elements_of, item_of, items_in, item_fits, items_fit, item_of-group, item_of-sequence}
use Rattle.fast_stream.specs.declared.message.Node.TheVariants as nodes

abbrev pub seen : List (Vec Node) → Elements
seen es = elements_of (map (λ e. items_in e.items) es)

pub count_seen : (es : List (Vec Node)) → element_count (seen es) ≡ length es
count_seen [] = refl
count_seen (e ∷ es) = let h = count_seen es in omega (arith, h)

pub is_items : {node : Node} (ns : Vec Node) → node ≡ nodes.Group ns → item_of node ≡ group_items (items_in ns.items)
is_items ns is = ap item_of is ∙ item_of-group ns

pub is_elements : {node : Node} (es : Vec (Vec Node)) → node ≡ nodes.Sequence es → item_of node ≡ sequence_elements (seen es.items)
is_elements es is = ap item_of is ∙ item_of-sequence es

pub is_absent : {node : Node} → node ≡ nodes.Absent → item_of node ≡ single None
is_absent is = ap item_of is ∙ fold_out-Node Item node_step nodes.Absent ∙ rw (outs-Absent) refl

pub is_value : {node : Node} {v : Scalar} → node ≡ nodes.Value v → item_of node ≡ single (Some v)
is_value {v = v} is = ap item_of is ∙ fold_out-Node Item node_step (nodes.Value v) ∙ rw (outs-Value v) refl

-- ---- what has another number of nodes than of instructions does not fit

pub other_number : (flats : List Flat) (nodes : List Node) → length flats ≢ length nodes → false ≡ items_fit (list_of flats) (items_in nodes)
other_number [] [] h = absurd (h refl)
other_number [] (n ∷ ns) h = refl
other_number (f ∷ fs) [] h = refl
other_number (f ∷ fs) (n ∷ ns) h =
    sym (and_right (item_fits (instruction_of f) (item_of n)) (items_fit (list_of fs) (items_in ns)) (sym (other_number fs ns (λ e. h (ap suc e)))))
