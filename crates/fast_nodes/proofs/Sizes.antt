-- How many nodes a sequence leaves, element by element.
use Rattle.fast_nodes.proofs.Common.{◌≡◌, ◌<◌, ◌≤◌, ◌-◌, ◌+◌, inl, inr, ℕ, zero, suc, Bool, true, false, ◌||◌, List, [], ◌∷◌, length, drop, Option, Some, None, refl, ap, ◌∙◌, arith, drop_all, nat_lt, Vec, le-ltb, or_from, or_right, Node, Sequence, item_of, items_in, nodes_in, nodes_in_elements, nodes_of, IsLeft, has_large, has_large_in, item_is_large}
use Rattle.fast_nodes.proofs.Views.{count_seen, is_elements, seen}

-- a sequence by its elements
pub of_sequence : (es : Vec (Vec Node)) (node : Node) (left : ℕ) (r : Option ℕ) → node ≡ Sequence es
    → IsLeft (1 + nodes_in_elements (seen es.items)) (nat_lt 65535 (length es.items) || has_large_in (seen es.items)) left r
    → IsLeft (nodes_of (item_of node)) (item_is_large (item_of node)) left r
of_sequence es node left r is h = rw (is_elements es is, count_seen es.items) h

pub few_enough : (n : ℕ) (b : Bool) → n ≤ 65535 → b ≡ false → (nat_lt 65535 n || b) ≡ false
few_enough n b h none = or_from (nat_lt 65535 n) b (le-ltb 65535 n h) none

pub some_left : (es : List (Vec Node)) (at : ℕ) → at < length es → 1 ≤ nodes_in_elements (seen (drop at es))
some_left [] at h = absurd (omega (arith, h))
some_left (e ∷ es) zero h = omega arith
some_left (e ∷ es) (suc at) h = some_left es at (omega (arith, h))

-- too few are left before an element
pub none_left : (es : List (Vec Node)) (at before left : ℕ) (b : Bool) → at < length es → left ≡ 0 → before + nodes_in_elements (seen (drop at es)) ≡ 1 + nodes_in_elements (seen es) + left
    → IsLeft (1 + nodes_in_elements (seen es)) b before None
none_left es at before left b inside none count = let some = some_left es at inside in inl (omega (arith, some, none, count))

-- or behind it
pub element_refused : (es : List (Vec Node)) (e : Vec Node) (at before left : ℕ) (many : Bool) → drop at es ≡ e ∷ drop (at + 1) es → 1 ≤ left
    → before + nodes_in_elements (seen (drop at es)) ≡ 1 + nodes_in_elements (seen es) + left → has_large_in (seen es) ≡ has_large_in (seen (drop at es))
    → IsLeft (nodes_in (items_in e.items)) (has_large (items_in e.items)) (left - 1) None → IsLeft (1 + nodes_in_elements (seen es)) (many || has_large_in (seen es)) before None
element_refused es e at before left many here some count large (inl few) =
    let now = ap (λ (xs : List (Vec Node)). nodes_in_elements (seen xs)) here in
    inl (omega (arith, some, count, few, now))
element_refused es e at before left many here some count large (inr h) =
    inr (rw (large ∙ ap (λ (xs : List (Vec Node)). has_large_in (seen xs)) here, h) (or_right many true refl))

pub all_left : (es : List (Vec Node)) (at before left : ℕ) → length es ≤ at → length es ≤ 65535
    → before + nodes_in_elements (seen (drop at es)) ≡ 1 + nodes_in_elements (seen es) + left → has_large_in (seen es) ≡ has_large_in (seen (drop at es))
    → IsLeft (1 + nodes_in_elements (seen es)) (nat_lt 65535 (length es) || has_large_in (seen es)) before (Some left)
all_left es at before left end few count large =
    let none = drop_all at es end in
    let n = ap (λ (xs : List (Vec Node)). nodes_in_elements (seen xs)) none in
    (omega (arith, count, n), few_enough (length es) (has_large_in (seen es)) few (large ∙ ap (λ (xs : List (Vec Node)). has_large_in (seen xs)) none))
