-- How many nodes are read, and how many are left.
use Rattle.std.proofs.Common.{◌≡◌, ◌⊎◌, ℕ, zero, suc, ◌+◌, ◌<◌, ◌≤◌, Bool, true, false, cond, List, [], ◌∷◌, ◌++◌, length, map, get_or, set, Option, Some, None, Result, Ok, Err, MatchResult, option_map, option_and_then, refl, sym, ap, ◌∙◌, inl, inr, arith}
use Rattle.std.specs.Global.{Vec}
use Rattle.std.specs.Str.{bytes_eq}
use Rattle.json.specs.Token.{Token}
use Rattle.json.specs.Json.{Json, Items as Listed, Members, no_members, member}
use Rattle.fast_value.specs.declared.kind.Presence.{Presence}
use Rattle.fast_value.specs.declared.kind.Presence.TheVariants.{Mandatory, Optional}
use Rattle.fast_template.specs.declared.resolved.Flat.{Flat}
use Rattle.fast_template.specs.Resolved.{Instruction, Instructions, no_instructions, then_instruction, list_of}
use Rattle.fast_stream.specs.declared.message.Node.{Node}
use Rattle.fast_stream.specs.Nodes.{Item, single, group_items, sequence_elements, Items, then_item, Elements, no_elements, then_element, item_of, items_in, elements_of, nodes_of, nodes_in, nodes_in_elements}
use Rattle.fast_spelled.specs.declared.fault.LineFault.{LineFault}
use Rattle.fast_spelled.specs.declared.fault.LineCause.TheVariants.{Memory, Limit}
use Rattle.fast_spelled.specs.Spelled.{item_by, items_by, element_by, left_out, presence_in, name_in}
use Rattle.fast_spelled.specs.Slots.{Slots, empty_slots, filled, filled_first, finished}
use Rattle.fast_spelled.specs.Tokens.{IsRead, Refuses, slots_of}
use Rattle.fast_spelled.proofs.Answering.{refused_by, refused_over}
use Rattle.fast_spelled.proofs.Filling.{filled_is}
use Rattle.fast_spelled.proofs.Finishing.{of_null}
use Rattle.fast_spelled.proofs.Steps.{By, Next, Opened, elements_before, elements_more, element_refused, whole_elements, Named, member_refused}

-- ---- slots

-- how many nodes slots have: what has none has one, as it is absent in the end
abbrev pub costs : Slots → ℕ
costs [] = 0
costs (None ∷ slots) = 1 + costs slots
costs (Some n ∷ slots) = nodes_of n + costs slots

at_least_one : (n : Item) → 1 ≤ nodes_of n
at_least_one (single v) = omega arith
at_least_one (group_items ns) = omega arith
at_least_one (sequence_elements es) = omega arith

abbrev nodes_or : ℕ → Option Items → ℕ
nodes_or d None = d
nodes_or d (Some ns) = nodes_in ns

with_item : (n : Item) (o : Option Items) (k : ℕ) → ((ms : Items) → o ≡ Some ms → nodes_in ms ≡ k) → (ns : Items) → option_map (then_item n) o ≡ Some ns → nodes_in ns ≡ nodes_of n + k
with_item n None k h ns e = absurd (cc e)
with_item n (Some ms) k h ns e = sym (ap (nodes_or 0) e) ∙ ap (λ x. nodes_of n + x) (h ms refl)

with_absent : (p : Presence) (o : Option Items) (k : ℕ) → ((ms : Items) → o ≡ Some ms → nodes_in ms ≡ k) → (ns : Items) → option_and_then (λ n. option_map (then_item n) o) (left_out p) ≡ Some ns → nodes_in ns ≡ 1 + k
with_absent Mandatory o k h ns e = absurd (cc e)
with_absent Optional o k h ns e = with_item (single None) o k h ns e

pub finished_costs : (is : Instructions) (slots : Slots) (ns : Items) → finished is slots ≡ Some ns → nodes_in ns ≡ costs slots
finished_costs no_instructions [] ns e = sym (ap (nodes_or 0) e)
finished_costs no_instructions (None ∷ slots) ns e = absurd (cc e)
finished_costs no_instructions (Some n ∷ slots) ns e = absurd (cc e)
finished_costs (then_instruction i is) [] ns e = absurd (cc e)
finished_costs (then_instruction i is) (Some n ∷ slots) ns e = with_item n (finished is slots) (costs slots) (λ ms. finished_costs is slots ms) ns e
finished_costs (then_instruction i is) (None ∷ slots) ns e =
    with_absent (presence_in i) (finished is slots) (costs slots) (λ ms. finished_costs is slots ms) ns (sym (ap (option_and_then (λ n. option_map (then_item n) (finished is slots))) (of_null i)) ∙ e)

-- a member that is put costs what it has
abbrev costs_or : ℕ → Option Slots → ℕ
costs_or d None = d
costs_or d (Some slots) = costs slots

own_cost : (slots : Slots) (o : Option Item) (next : Slots) → option_map (λ n. Some n ∷ slots) o ≡ Some next → 1 + costs slots ≤ costs next
own_cost slots None next e = absurd (cc e)
own_cost slots (Some n) next e = omega (arith, at_least_one n, ap (costs_or 0) e)

other_cost : (s : Option Item) (slots : Slots) (o : Option Slots) → ((rest : Slots) → o ≡ Some rest → costs slots ≤ costs rest) → (next : Slots) → option_map (λ rest. s ∷ rest) o ≡ Some next → costs (s ∷ slots) ≤ costs next
other_cost s slots None h next e = absurd (cc e)
other_cost None slots (Some rest) h next e = omega (arith, h rest refl, ap (costs_or 0) e)
other_cost (Some n) slots (Some rest) h next e = omega (arith, h rest refl, ap (costs_or 0) e)

one_or_other : (b : Bool) (slots : Slots) (o : Option Item) (q : Option Slots) → ((rest : Slots) → q ≡ Some rest → costs slots ≤ costs rest) → (next : Slots)
    → cond b (option_map (λ n. Some n ∷ slots) o) (option_map (λ rest. None ∷ rest) q) ≡ Some next → 1 + costs slots ≤ costs next
one_or_other true slots o q h next e = own_cost slots o next e
one_or_other false slots o q h next e = other_cost None slots q h next e

first_costs : (is : Instructions) (slots : Slots) (name : List ℕ) (j : Json) (next : Slots) → filled_first is slots name j ≡ Some next → costs slots ≤ costs next
first_costs no_instructions slots name j next e = absurd (cc e)
first_costs (then_instruction i is) [] name j next e = absurd (cc e)
first_costs (then_instruction i is) (None ∷ slots) name j next e =
    one_or_other (bytes_eq name (name_in i)) slots (item_by i j) (filled_first is slots name j) (λ rest. first_costs is slots name j rest) next e
first_costs (then_instruction i is) (Some n ∷ slots) name j next e = other_cost (Some n) slots (filled_first is slots name j) (λ rest. first_costs is slots name j rest) next e

behind_first : (slots : Slots) (o : Option Slots) (f : Slots → Option Items) (ns : Items) → ((next : Slots) → o ≡ Some next → costs slots ≤ costs next) → ((next : Slots) → f next ≡ Some ns → costs next ≤ nodes_in ns)
    → option_and_then f o ≡ Some ns → costs slots ≤ nodes_in ns
behind_first slots None f ns h later e = absurd (cc e)
behind_first slots (Some next) f ns h later e = omega (arith, h next refl, later next e)

pub filled_costs : (is : Instructions) (slots : Slots) (ms : Members) (ns : Items) → filled is slots ms ≡ Some ns → costs slots ≤ nodes_in ns
filled_costs is slots no_members ns e = omega (arith, finished_costs is slots ns e)
filled_costs is slots (member k j ms) ns e =
    behind_first slots (filled_first is slots k j) (λ next. filled is next ms) ns (λ next. first_costs is slots k j next) (λ next. filled_costs is next ms ns) e

empty_costs : (flats : List Flat) → costs (empty_slots (list_of flats)) ≡ length flats
empty_costs [] = refl
empty_costs (f ∷ fs) = omega (arith, empty_costs fs)

pub new_costs : (flats : List Flat) (slots : List (Option Node)) → slots_of slots ≡ empty_slots (list_of flats) → costs (slots_of slots) ≡ length flats
new_costs flats slots e = ap costs e ∙ empty_costs flats

-- an object has a node for each instruction at least
pub object_costs : (flats : List Flat) (ms : Members) (ns : Items) → items_by (list_of flats) ms ≡ Some ns → length flats ≤ nodes_in ns
object_costs flats ms ns e = omega (arith, empty_costs flats, filled_costs (list_of flats) (empty_slots (list_of flats)) ms ns (filled_is (list_of flats) ms ∙ e))

set_costs : (slots : Slots) (place : ℕ) (n : Item) → place < length slots → get_or slots place None ≡ None → costs (set slots place (Some n)) + 1 ≡ costs slots + nodes_of n
set_costs [] place n h e = absurd (omega arith)
set_costs (None ∷ slots) zero n h e = omega arith
set_costs (Some m ∷ slots) zero n h e = absurd (cc e)
set_costs (None ∷ slots) (suc place) n h e = omega (arith, set_costs slots place n (omega arith) e)
set_costs (Some m ∷ slots) (suc place) n h e = omega (arith, set_costs slots place n (omega arith) e)

free_slot : (slots : List (Option Node)) (place : ℕ) → place < length slots → get_or slots place None ≡ None → get_or (slots_of slots) place None ≡ None
free_slot [] place h e = absurd (omega arith)
free_slot (None ∷ slots) zero h e = refl
free_slot (Some n ∷ slots) zero h e = absurd (cc e)
free_slot (s ∷ slots) (suc place) h e = free_slot slots place (omega arith) e

slots_length : (slots : List (Option Node)) → length (slots_of slots) ≡ length slots
slots_length [] = refl
slots_length (s ∷ slots) = omega (arith, slots_length slots)

pub put_costs : (slots : List (Option Node)) (place : ℕ) (n : Item) → place < length slots → get_or slots place None ≡ None → costs (set (slots_of slots) place (Some n)) + 1 ≡ costs (slots_of slots) + nodes_of n
put_costs slots place n h e = set_costs (slots_of slots) place n (omega (arith, h, slots_length slots)) (free_slot slots place h e)

-- ---- a member

over : (is : Instructions) (slots : Slots) (place : ℕ) (more : Members) (o : Option Item) (before left : ℕ) → ((n : Item) → costs (set slots place (Some n)) + 1 ≡ costs slots + nodes_of n) → before ≡ costs slots + left
    → ((n : Item) → o ≡ Some n → 1 + left < nodes_of n) → (ns : Items) → option_and_then (λ next. filled is next more) (option_map (λ n. set slots place (Some n)) o) ≡ Some ns → before < nodes_in ns
over is slots place more None before left sets counted h ns e = absurd (cc e)
over is slots place more (Some n) before left sets counted h ns e =
    omega (arith, sets n, counted, h n refl, filled_costs is (set slots place (Some n)) more ns e)

-- a member that is refused refuses the object
pub member_refuses : {is : Instructions} {ms : Members} {rest after : List Token} {slots : List (Option Node)} {name : List ℕ} → (x : Named is ms rest after slots name) → (i : Instruction) (place before left : ℕ) (f : LineFault)
    → filled_first is (slots_of slots) name x.one ≡ option_map (λ v. set (slots_of slots) place (Some v)) (item_by i x.one) → place < length slots → get_or slots place None ≡ None → before ≡ costs (slots_of slots) + left
    → Refuses nodes_of (1 + left) (item_by i x.one) f → Refuses nodes_in before (items_by is ms) f
member_refuses {is = is} {slots = slots} x i place before left f put inside free counted h =
    refused_by f (λ p. member_refused x i place put p)
    (λ more ns e. over is (slots_of slots) place x.more (item_by i x.one) before left (λ n. put_costs slots place n inside free) counted more ns
    (sym (ap (option_and_then (λ next. filled is next x.more)) put) ∙ sym x.so_far ∙ e))
    h

-- one that is read leaves so many
pub member_counted : (slots : List (Option Node)) (place : ℕ) (n : Node) (before left after : ℕ) → place < length slots → get_or slots place None ≡ None → before ≡ costs (slots_of slots) + left → 1 + left ≡ nodes_of (item_of n) + after
    → slots_of (set slots place (Some n)) ≡ set (slots_of slots) place (Some (item_of n)) → before ≡ costs (slots_of (set slots place (Some n))) + after
member_counted slots place n before left after inside free counted h same = omega (arith, put_costs slots place (item_of n) inside free, counted, h, ap costs same)

object_over : (flats : List Flat) (ms : Members) (left : ℕ) → left < length flats → (ns : Items) → items_by (list_of flats) ms ≡ Some ns → left < nodes_in ns
object_over flats ms left h ns e = omega (arith, h, object_costs flats ms ns e)

-- there are not even nodes enough for the instructions
pub object_refuses : (flats : List Flat) (ms : Members) (left : ℕ) (f : LineFault) → f.cause ≡ Limit → left < length flats → Refuses nodes_in left (items_by (list_of flats) ms) f
object_refuses flats ms left f limit h = refused_over f limit (object_over flats ms left h)

-- the end of an object
none_finished : (is : Instructions) (ms : Members) (slots : Slots) (before : ℕ) (f : LineFault) → items_by is ms ≡ finished is slots → (f.cause ≡ Memory) ⊎ (finished is slots ≡ None) → Refuses nodes_in before (items_by is ms) f
none_finished is ms slots before f e (inl c) = inl c
none_finished is ms slots before f e (inr p) = inr (inl (e ∙ p))

pub finished_members : (r : Result (Vec Node) LineFault) (is : Instructions) (ms : Members) (slots : Slots) (after rest : List Token) (before left : ℕ) → items_by is ms ≡ finished is slots → after ≡ rest → before ≡ costs slots + left
    → MatchResult r (λ ns. finished is slots ≡ Some (items_in ns.items)) (λ f. (f.cause ≡ Memory) ⊎ (finished is slots ≡ None))
    → MatchResult r (λ ns. IsRead nodes_in before (items_by is ms) (items_in ns.items) left × (after ≡ rest)) (λ f. Refuses nodes_in before (items_by is ms) f)
finished_members (Ok ns) is ms slots after rest before left e f counted h = ((e ∙ h, omega (arith, counted, finished_costs is slots (items_in ns.items) h)), f)
finished_members (Err g) is ms slots after rest before left e f counted h = none_finished is ms slots before g e h

-- ---- elements

-- how many nodes elements have
abbrev pub done_nodes : List (Vec Node) → ℕ
done_nodes done = nodes_in_elements (elements_before done no_elements)

behind : (done : List (Vec Node)) (rest : Elements) → nodes_in_elements (elements_before done rest) ≡ done_nodes done + nodes_in_elements rest
behind [] rest = omega arith
behind (v ∷ vs) rest = omega (arith, behind vs rest)

abbrev elements_or : ℕ → Option Elements → ℕ
elements_or d None = d
elements_or d (Some es) = nodes_in_elements es

more_nodes : (done : List (Vec Node)) (o : Option Items) (q : Option Elements) (k : ℕ) → ((ns : Items) → o ≡ Some ns → k ≤ nodes_in ns) → (es : Elements)
    → option_map (elements_before done) (option_and_then (λ ns. option_map (then_element ns) q) o) ≡ Some es → done_nodes done + (1 + k) ≤ nodes_in_elements es
more_nodes done None q k h es e = absurd (cc e)
more_nodes done (Some ns) None k h es e = absurd (cc e)
more_nodes done (Some ns) (Some rest) k h es e = omega (arith, h ns refl, behind done (then_element ns rest), ap (elements_or 0) e)

element_over : {is : Instructions} {js : Listed} {rest reader : List Token} {done : List (Vec Node)} → (x : Next is js rest reader done) → (before left : ℕ) → before ≡ done_nodes done + left → left < 1 → (es : Elements) → By is js ≡ Some es → before < nodes_in_elements es
element_over {is = is} {done = done} x before left counted h es e =
    omega (arith, counted, h, more_nodes done (element_by (λ ms. items_by is ms) x.one) (By is x.more) 0 (λ ns p. omega arith) es (sym x.so_far ∙ e))

-- there is not even one node for an element
pub element_refuses : {is : Instructions} {js : Listed} {rest reader : List Token} {done : List (Vec Node)} → (x : Next is js rest reader done) → (before left : ℕ) (f : LineFault) → before ≡ done_nodes done + left → f.cause ≡ Limit → left < 1
    → Refuses nodes_in_elements before (By is js) f
element_refuses x before left f counted limit h = refused_over f limit (element_over x before left counted h)

members_over : {is : Instructions} {js : Listed} {rest after : List Token} {done : List (Vec Node)} → (x : Opened is js rest after done) → (before left : ℕ) → before ≡ done_nodes done + (1 + left) → ((ns : Items) → items_by is x.members ≡ Some ns → left < nodes_in ns)
    → (es : Elements) → By is js ≡ Some es → before < nodes_in_elements es
members_over {is = is} {done = done} x before left counted h es e =
    omega (arith, counted, more_nodes done (items_by is x.members) (By is x.more) (suc left) (λ ns p. omega (arith, h ns p)) es (sym x.so_far ∙ e))

-- an element that is refused refuses the sequence
pub members_refuse : {is : Instructions} {js : Listed} {rest after : List Token} {done : List (Vec Node)} → (x : Opened is js rest after done) → (before left : ℕ) (f : LineFault) → before ≡ done_nodes done + (1 + left)
    → Refuses nodes_in left (items_by is x.members) f → Refuses nodes_in_elements before (By is js) f
members_refuse x before left f counted h = refused_by f (λ p. element_refused x p) (λ more. members_over x before left counted more) h

-- one that is read leaves so many
pub element_counted : (done : List (Vec Node)) (v : Vec Node) (before left after : ℕ) → before ≡ done_nodes done + (1 + left) → left ≡ nodes_in (items_in v.items) + after → before ≡ done_nodes (done ++ v ∷ []) + after
element_counted done v before left after counted h =
    omega (arith, counted, h, behind done (then_element (items_in v.items) no_elements), ap nodes_in_elements (elements_more done v no_elements))

pub all_counted : (done : List (Vec Node)) (before left : ℕ) → before ≡ done_nodes done + left → before ≡ nodes_in_elements (elements_of (map (λ v. items_in v.items) done)) + left
all_counted done before left counted = omega (arith, counted, ap nodes_in_elements (whole_elements done))

-- ---- a sequence

abbrev item_or : ℕ → Option Item → ℕ
item_or d None = d
item_or d (Some n) = nodes_of n

sequence_over : (o : Option Elements) (k : ℕ) → ((es : Elements) → o ≡ Some es → k < nodes_in_elements es) → (n : Item) → option_map sequence_elements o ≡ Some n → 1 + k < nodes_of n
sequence_over None k h n e = absurd (cc e)
sequence_over (Some es) k h n e = omega (arith, h es refl, ap (item_or 0) e)

pub sequence_refuses : (i : Option Item) (o : Option Elements) (before left : ℕ) (f : LineFault) → i ≡ option_map sequence_elements o → left ≡ before → Refuses nodes_in_elements left o f → Refuses nodes_of (1 + before) i f
sequence_refuses i o before left f is same h =
    refused_by f (λ p. is ∙ ap (option_map sequence_elements) p) (λ more n e. omega (arith, same, sequence_over o left more n (sym is ∙ e))) h
