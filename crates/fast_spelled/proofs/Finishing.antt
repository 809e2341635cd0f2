-- Slots in the end.
use Rattle.std.proofs.Common.{◌≡◌, ℕ, ◌+◌, ◌<◌, ◌≤◌, List, [], ◌∷◌, ◌++◌, length, drop, get_or, Option, Some, None, option_map, option_and_then, refl, sym, ap, ap₂, ◌∙◌, arith}
use Rattle.std.proofs.lemmas.List.{drop_more, drop_all, drop-drop}
use Rattle.json.specs.Json.{null}
use Rattle.fast_template.specs.declared.resolved.Flat.{Flat}
use Rattle.fast_template.specs.Resolved.{Instruction, whole_field, field_in_parts, group_of, sequence_of, instruction_of, list_of, then_instruction}
use Rattle.fast_stream.specs.declared.message.Node.{Node}
use Rattle.fast_stream.specs.Nodes.{Items, no_items, then_item, item_of, items_in}
use Rattle.fast_spelled.specs.Spelled.{item_by, left_out, presence_in}
use Rattle.fast_spelled.specs.Slots.{finished}
use Rattle.fast_spelled.specs.Tokens.{slots_of}

abbrev pub items_before : List Node → Items → Items
items_before [] rest = rest
items_before (n ∷ ns) rest = then_item (item_of n) (items_before ns rest)

-- so many slots are finished, as these nodes
abbrev pub SoFar : List Flat → List (Option Node) → ℕ → List Node → Type 0
SoFar members slots place nodes = finished (list_of members) (slots_of slots) ≡ option_map (items_before nodes) (finished (list_of (drop place members)) (slots_of (drop place slots)))

pub at_none : (members : List Flat) (slots : List (Option Node)) → SoFar members slots 0 []
at_none members slots = as_it_is (finished (list_of members) (slots_of slots)) where
  as_it_is : (o : Option Items) → o ≡ option_map (items_before []) o
  as_it_is None = refl
  as_it_is (Some x) = refl

before_more : (ns : List Node) (n : Node) (rest : Items) → items_before ns (then_item (item_of n) rest) ≡ items_before (ns ++ n ∷ []) rest
before_more [] n rest = refl
before_more (m ∷ ns) n rest = ap (then_item (item_of m)) (before_more ns n rest)

one_more : (ns : List Node) (n : Node) (o : Option Items) → option_map (items_before ns) (option_map (then_item (item_of n)) o) ≡ option_map (items_before (ns ++ n ∷ [])) o
one_more ns n None = refl
one_more ns n (Some x) = ap Some (before_more ns n x)

pub of_null : (i : Instruction) → item_by i null ≡ left_out (presence_in i)
of_null (whole_field name i presence whole) = refl
of_null (field_in_parts name i presence exponent mantissa) = refl
of_null (group_of name i presence members) = refl
of_null (sequence_of name i presence length members) = refl

pub same_rest : {A : Type 0} (now old : List A) (at : ℕ) → at < length now → at < length old → drop at now ≡ drop at old → drop (at + 1) now ≡ drop (at + 1) old
same_rest now old at p q e = sym (drop-drop 1 at now ∙ ap (λ k. drop k now) (omega arith)) ∙ ap (drop 1) e ∙ drop-drop 1 at old ∙ ap (λ k. drop k old) (omega arith)

pub same_at : {A : Type 0} (now old : List A) (at : ℕ) (d e : A) → at < length now → at < length old → drop at now ≡ drop at old → get_or now at e ≡ d → get_or old at d ≡ d
same_at now old at d e p q same is =
    first_of d (sym (drop_more old at d q) ∙ sym same ∙ drop_more now at e p) ∙ is
  where
    first_of : {A : Type 0} {x y : A} {xs ys : List A} (z : A) → x ∷ xs ≡ y ∷ ys → x ≡ y
    first_of z h = ap (λ l. get_or l 0 z) h

-- what a slot gives, behind nodes
opened : (members : List Flat) (slots : List (Option Node)) (place : ℕ) (nodes : List Node) (d : Flat) (s : Option Node) → place < length members → place < length slots → SoFar members slots place nodes
    → finished (list_of members) (slots_of slots) ≡ option_map (items_before nodes) (finished (then_instruction (instruction_of (get_or members place d)) (list_of (drop (place + 1) members))) (option_map item_of (get_or slots place s) ∷ slots_of (drop (place + 1) slots)))
opened members slots place nodes d s p q before =
    before ∙ ap₂ (λ a b. option_map (items_before nodes) (finished (list_of a) (slots_of b))) (drop_more members place d p) (drop_more slots place s q)

pub with_node : (members : List Flat) (slots : List (Option Node)) (place : ℕ) (nodes : List Node) (n : Node) (d : Flat) → place < length members → place < length slots → get_or slots place (Some n) ≡ Some n → SoFar members slots place nodes
    → SoFar members slots (place + 1) (nodes ++ n ∷ [])
with_node members slots place nodes n d p q is before =
    let is_of = instruction_of (get_or members place d) in
    let rest = finished (list_of (drop (place + 1) members)) (slots_of (drop (place + 1) slots)) in
    opened members slots place nodes d (Some n) p q before
    ∙ ap (λ s. option_map (items_before nodes) (finished (then_instruction is_of (list_of (drop (place + 1) members))) (option_map item_of s ∷ slots_of (drop (place + 1) slots)))) is
    ∙ one_more nodes n rest

pub with_absent : (members : List Flat) (slots : List (Option Node)) (place : ℕ) (nodes : List Node) (n : Node) (d : Flat) → place < length members → place < length slots → get_or slots place None ≡ None
    → left_out (presence_in (instruction_of (get_or members place d))) ≡ Some (item_of n) → SoFar members slots place nodes → SoFar members slots (place + 1) (nodes ++ n ∷ [])
with_absent members slots place nodes n d p q is out before =
    let is_of = instruction_of (get_or members place d) in
    let rest = finished (list_of (drop (place + 1) members)) (slots_of (drop (place + 1) slots)) in
    opened members slots place nodes d None p q before
    ∙ ap (λ s. option_map (items_before nodes) (finished (then_instruction is_of (list_of (drop (place + 1) members))) (option_map item_of s ∷ slots_of (drop (place + 1) slots)))) is
    ∙ ap (λ o. option_map (items_before nodes) (option_and_then (λ x. option_map (then_item x) rest) o)) (of_null is_of ∙ out)
    ∙ one_more nodes n rest

pub with_none : (members : List Flat) (slots : List (Option Node)) (place : ℕ) (nodes : List Node) (d : Flat) → place < length members → place < length slots → get_or slots place None ≡ None
    → left_out (presence_in (instruction_of (get_or members place d))) ≡ None → SoFar members slots place nodes → finished (list_of members) (slots_of slots) ≡ None
with_none members slots place nodes d p q is out before =
    let is_of = instruction_of (get_or members place d) in
    let rest = finished (list_of (drop (place + 1) members)) (slots_of (drop (place + 1) slots)) in
    opened members slots place nodes d None p q before
    ∙ ap (λ s. option_map (items_before nodes) (finished (then_instruction is_of (list_of (drop (place + 1) members))) (option_map item_of s ∷ slots_of (drop (place + 1) slots)))) is
    ∙ ap (λ o. option_map (items_before nodes) (option_and_then (λ x. option_map (then_item x) rest) o)) (of_null is_of ∙ out)

whole : (ns : List Node) → items_before ns no_items ≡ items_in ns
whole [] = refl
whole (n ∷ ns) = ap (then_item (item_of n)) (whole ns)

pub at_end : (members : List Flat) (slots : List (Option Node)) (place : ℕ) (nodes : List Node) → length members ≤ place → length slots ≡ length members → SoFar members slots place nodes → finished (list_of members) (slots_of slots) ≡ Some (items_in nodes)
at_end members slots place nodes h same before =
    before ∙ ap₂ (λ a b. option_map (items_before nodes) (finished (list_of a) (slots_of b))) (drop_all place members h) (drop_all place slots (omega (arith, h, same))) ∙ ap Some (whole nodes)
