-- What nodes with others inside are to contracts, level by level.
use Rattle.fast_walk.proofs.Common.{◌≡◌, List, [], ◌∷◌, refl, ap, ◌∙◌, map, Vec, Global, mapped, this, Node, fold_out-Node, Item, Items, group_items, sequence_elements, elements_of, items_of, item_of, node_step}
use Rattle.fast_stream.specs.declared.message.Node.TheVariants.{Group, outs-Group, Sequence, outs-Sequence}

pub item_of-group : (ns : Vec Node) → item_of (Group ns) ≡ group_items (items_of (map item_of ns.items))
item_of-group ns = fold_out-Node Item node_step (Group ns) ∙ rw (outs-Group ns) refl

fused : (es : List (Vec Node)) → map (λ v. items_of v.items) (map (mapped {H = Global} ((this {0}).map Node Item item_of)) es) ≡ map (λ v. items_of (map item_of v.items)) es
fused [] = refl
fused (e ∷ es) = ap (λ (rest : List Items). items_of (map item_of e.items) ∷ rest) (fused es)

pub item_of-sequence : (es : Vec (Vec Node)) → item_of (Sequence es) ≡ sequence_elements (elements_of (map (λ v. items_of (map item_of v.items)) es.items))
item_of-sequence es = fold_out-Node Item node_step (Sequence es) ∙ rw (outs-Sequence es) (ap (λ (ns : List Items). sequence_elements (elements_of ns)) (fused es.items))
