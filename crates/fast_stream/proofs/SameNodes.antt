-- What a contract sees of a message is faithful: what is seen as the same is the same but for where it lies in memory.
use Rattle.fast_stream.proofs.Common.{◌≡◌, List, [], ◌∷◌, map, refl, Node-F, Item, items_of, elements_of, node_step, AreAlike}

pub items_same : (ns ms : List Item) → items_of ns ≡ items_of ms → ns ≡ ms
items_same [] [] e = refl
items_same [] (m ∷ ms) e = absurd cc
items_same (n ∷ ns) [] e = absurd cc
items_same (n ∷ ns) (m ∷ ms) e =
    let heads : n ≡ m = cc in
    let tails : items_of ns ≡ items_of ms = cc in
    let rest = items_same ns ms tails in
    cc

each_same : {A : Type 0} (items : A → List Item) (es fs : List A) → elements_of (map (λ e. items_of (items e)) es) ≡ elements_of (map (λ e. items_of (items e)) fs) → map items es ≡ map items fs
each_same items [] [] e = refl
each_same items [] (f ∷ fs) e = absurd cc
each_same items (x ∷ xs) [] e = absurd cc
each_same items (x ∷ xs) (f ∷ fs) e =
    let heads : items_of (items x) ≡ items_of (items f) = cc in
    let tails : elements_of (map (λ e. items_of (items e)) xs) ≡ elements_of (map (λ e. items_of (items e)) fs) = cc in
    let first = items_same (items x) (items f) heads in
    let rest = each_same items xs fs tails in
    cc

pub alike : (a b : Node-F Item) → node_step a ≡ node_step b → AreAlike a b
alike Node-F.Absent Node-F.Absent e = tt
alike Node-F.Absent (Node-F.Value w) e = absurd cc
alike Node-F.Absent (Node-F.Group ms) e = absurd cc
alike Node-F.Absent (Node-F.Sequence fs) e = absurd cc
alike (Node-F.Value v) Node-F.Absent e = absurd cc
alike (Node-F.Value v) (Node-F.Value w) e = cc
alike (Node-F.Value v) (Node-F.Group ms) e = absurd cc
alike (Node-F.Value v) (Node-F.Sequence fs) e = absurd cc
alike (Node-F.Group ns) Node-F.Absent e = absurd cc
alike (Node-F.Group ns) (Node-F.Value w) e = absurd cc
alike (Node-F.Group ns) (Node-F.Group ms) e = let same : items_of ns.items ≡ items_of ms.items = cc in items_same ns.items ms.items same
alike (Node-F.Group ns) (Node-F.Sequence fs) e = absurd cc
alike (Node-F.Sequence es) Node-F.Absent e = absurd cc
alike (Node-F.Sequence es) (Node-F.Value w) e = absurd cc
alike (Node-F.Sequence es) (Node-F.Group ms) e = absurd cc
alike (Node-F.Sequence es) (Node-F.Sequence fs) e = each_same (λ x. x.items) es.items fs.items cc
