-- Messages, without where they lie in memory.
-- FAST 1.1, Templates, Application Messages. The limit of nodes is this project's own.
use Rattle.std.specs.Prelude.{◌≡◌, ℕ, ◌+◌, List, [], ◌∷◌, map, Option, Some, None}
use Rattle.fast_value.specs.declared.scalar.Scalar.{Scalar}
use Rattle.fast_stream.specs.declared.message.Message.{Message}
use Rattle.fast_stream.specs.declared.message.Node.{Node, fold-Node}
use Rattle.fast_stream.specs.declared.message.Node.TheOpen.{Node-F}

-- What a message has for one instruction: a value or none, the items of a group, or the elements of a sequence.
-- An absent group or sequence is `single None`.
mutual
  pub data Item : Type 0 where
    single : Option Scalar → Item
    group_items : Items → Item
    sequence_elements : Elements → Item

  pub data Items : Type 0 where
    no_items : Items
    then_item : Item → Items → Items

  pub data Elements : Type 0 where
    no_elements : Elements
    then_element : Items → Elements → Elements

abbrev pub items_of : List Item → Items
items_of [] = no_items
items_of (n ∷ ns) = then_item n (items_of ns)

abbrev pub elements_of : List Items → Elements
elements_of [] = no_elements
elements_of (e ∷ es) = then_element e (elements_of es)

abbrev pub element_count : Elements → ℕ
element_count no_elements = 0
element_count (then_element ns es) = 1 + element_count es

-- ---- what the types of the program are to contracts

-- one level, with what is inside already seen
abbrev pub node_step : Node-F Item → Item
node_step Node-F.Absent = single None
node_step (Node-F.Value v) = single (Some v)
node_step (Node-F.Group ns) = group_items (items_of ns.items)
node_step (Node-F.Sequence es) = sequence_elements (elements_of (map (λ e. items_of e.items) es.items))

-- two nodes of one level are the same but for where they lie in memory
abbrev pub AreAlike : Node-F Item → Node-F Item → Type 0
AreAlike Node-F.Absent Node-F.Absent = Unit {0}
AreAlike (Node-F.Value v) (Node-F.Value w) = v ≡ w
AreAlike (Node-F.Group ns) (Node-F.Group ms) = ns.items ≡ ms.items
AreAlike (Node-F.Sequence es) (Node-F.Sequence fs) = map (λ e. e.items) es.items ≡ map (λ e. e.items) fs.items
AreAlike a b = ⊥

abbrev pub item_of : Node → Item
item_of = fold-Node Item node_step

abbrev pub items_in : List Node → Items
items_in nodes = items_of (map item_of nodes)

-- a message: the identifier of its template, and an item for each instruction
pub record Content : Type 0 where
  pub template : ℕ
  pub items : Items

abbrev pub content_of : Message → Content
content_of m = record { template = m.template; items = items_in m.fields.items }

-- ---- how many nodes

-- A field, a group and a sequence is one node, also where it is absent, and so is each element of a sequence.
abbrev mutual
  pub nodes_of : Item → ℕ
  nodes_of (single v) = 1
  nodes_of (group_items ns) = 1 + nodes_in ns
  nodes_of (sequence_elements es) = 1 + nodes_in_elements es

  pub nodes_in : Items → ℕ
  nodes_in no_items = 0
  nodes_in (then_item n ns) = nodes_of n + nodes_in ns

  pub nodes_in_elements : Elements → ℕ
  nodes_in_elements no_elements = 0
  nodes_in_elements (then_element ns es) = 1 + nodes_in ns + nodes_in_elements es

abbrev pub node_limit : ℕ
node_limit = 65536
