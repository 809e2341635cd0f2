-- What nodes say has one content.
use Rattle.std.proofs.Common.{◌≡◌, ℕ, ◌+◌, List, [], ◌∷◌, ◌++◌, length, refl, sym, ap, ap₂, ◌∙◌, arith}
use Rattle.std.proofs.lemmas.List.{length-append}
use Rattle.fast_stream.specs.Nodes.{Item, single, group_items, sequence_elements, Items, no_items, then_item, Elements, no_elements, then_element, element_count, nodes_of, nodes_in, nodes_in_elements, Content}
use Rattle.fast_tape.specs.Tapes.{Head, of_message, of_group, of_sequence, of_element, Mark, segment, marks_of, marks_in, marks_in_elements, marks_of_messages}

-- ---- how many

mutual
  count_of : (i : Item) → length (marks_of i) ≡ nodes_of i
  count_of (single v) = refl
  count_of (group_items is) = let e = count_in is in omega arith
  count_of (sequence_elements es) = let e = count_in_elements es in omega arith

  pub count_in : (is : Items) → length (marks_in is) ≡ nodes_in is
  count_in no_items = refl
  count_in (then_item i is) = length-append (marks_of i) (marks_in is) ∙ ap₂ (λ a b. a + b) (count_of i) (count_in is)

  count_in_elements : (es : Elements) → length (marks_in_elements es) ≡ nodes_in_elements es
  count_in_elements no_elements = refl
  count_in_elements (then_element is es) =
      let e = length-append (marks_in is) (marks_in_elements es) in
      let f = count_in is in
      let g = count_in_elements es in
      omega arith

-- ---- lists with the same front

-- fronts of one length are the same, and so is what is behind them
pub same_fronts : {A : Type 0} → (a b r s : List A) → length a ≡ length b → a ++ r ≡ b ++ s → (a ≡ b) × (r ≡ s)
same_fronts [] [] r s l e = (refl, e)
same_fronts [] (y ∷ b) r s l e = absurd (omega (arith, l))
same_fronts (x ∷ a) [] r s l e = absurd (omega (arith, l))
same_fronts (x ∷ a) (y ∷ b) r s l e =
    let t = same_fronts a b r s (omega (arith, l)) cc in
    let h : x ≡ y = cc in
    (ap₂ (λ p q. p ∷ q) h t.0, t.1)

-- ---- one content

-- the own marks and the rest of two segments of one kind
own_same : (h k : Head) (a b r s : List Mark) → segment h a ++ r ≡ segment k b ++ s → (h ≡ k) × (a ≡ b) × (r ≡ s)
own_same h k a b r s e =
    let l : length a ≡ length b = cc in
    let t = same_fronts a b r s l cc in
    ((cc), t.0, t.1)

count_same : (n m : ℕ) → of_sequence n ≡ of_sequence m → n ≡ m
count_same n m e = cc

none_of : (i : Item) (r : List Mark) → [] ≡ marks_of i ++ r → ⊥
none_of (single v) r e = absurd cc
none_of (group_items is) r e = absurd cc
none_of (sequence_elements es) r e = absurd cc

mutual
  pub item_same : (i j : Item) (r s : List Mark) → marks_of i ++ r ≡ marks_of j ++ s → (i ≡ j) × (r ≡ s)
  item_same (single v) (single w) r s e = let h : v ≡ w = cc in (ap single h, (cc))
  item_same (single v) (group_items js) r s e = absurd cc
  item_same (single v) (sequence_elements fs) r s e = absurd cc
  item_same (group_items is) (single w) r s e = absurd cc
  item_same (group_items is) (group_items js) r s e =
      let t = own_same of_group of_group (marks_in is) (marks_in js) r s e in
      (ap group_items (items_same is js t.1), t.2)
  item_same (group_items is) (sequence_elements fs) r s e = absurd cc
  item_same (sequence_elements es) (single w) r s e = absurd cc
  item_same (sequence_elements es) (group_items js) r s e = absurd cc
  item_same (sequence_elements es) (sequence_elements fs) r s e =
      let t = own_same (of_sequence (element_count es)) (of_sequence (element_count fs)) (marks_in_elements es) (marks_in_elements fs) r s e in
      (ap sequence_elements (elements_same es fs t.1), t.2)

  pub items_same : (is js : Items) → marks_in is ≡ marks_in js → is ≡ js
  items_same no_items no_items e = refl
  items_same no_items (then_item j js) e = absurd (none_of j (marks_in js) e)
  items_same (then_item i is) no_items e = absurd (none_of i (marks_in is) (sym e))
  items_same (then_item i is) (then_item j js) e =
      let t = item_same i j (marks_in is) (marks_in js) e in
      ap₂ then_item t.0 (items_same is js t.1)

  elements_same : (es fs : Elements) → marks_in_elements es ≡ marks_in_elements fs → es ≡ fs
  elements_same no_elements no_elements e = refl
  elements_same no_elements (then_element js fs) e = absurd cc
  elements_same (then_element is es) no_elements e = absurd cc
  elements_same (then_element is es) (then_element js fs) e =
      let t = own_same of_element of_element (marks_in is) (marks_in js) (marks_in_elements es) (marks_in_elements fs) e in
      ap₂ then_element (items_same is js t.1) (elements_same es fs t.2)

pub messages_same : (ms ns : List Content) → marks_of_messages ms ≡ marks_of_messages ns → ms ≡ ns
messages_same [] [] e = refl
messages_same [] (n ∷ ns) e = absurd cc
messages_same (m ∷ ms) [] e = absurd cc
messages_same (m ∷ ms) (n ∷ ns) e =
    let t = own_same (of_message m.template) (of_message n.template) (marks_in m.items) (marks_in n.items) (marks_of_messages ms) (marks_of_messages ns) e in
    let items = items_same m.items n.items t.1 in
    let template : m.template ≡ n.template = cc in
    let h : m ≡ n = rw (template, items) refl in
    ap₂ (λ x xs. x ∷ xs) h (messages_same ms ns t.2)
