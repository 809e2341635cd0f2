-- What the reader's answers come to.
use Rattle.std.proofs.Common.{◌≡◌, ◌⊎◌, ℕ, ◌+◌, ◌<◌, List, [], ◌∷◌, ◌++◌, map, Option, Some, None, Result, Ok, Err, MatchResult, option_map, refl, sym, ap, ap₂, ◌∙◌, inl, inr, arith}
use Rattle.std.specs.Global.{Global, Vec}
use Rattle.std.specs.formers.vec.Vec.{mapped}
use mathlib.Core.Former.{this}
use Rattle.json.specs.Token as token
use Rattle.json.specs.Token.{Token}
use Rattle.json.specs.Reads.{token_of}
use Rattle.json.specs.declared.token.Token.{Token as RustToken}
use Rattle.json.specs.declared.token.Token.TheVariants as rust
use Rattle.json.specs.Json.{Json, null, boolean, number, string, array, object, Items as Listed, Members}
use Rattle.json.specs.Tree.{items_tokens}
use Rattle.fast_value.specs.declared.kind.Kind.{Kind}
use Rattle.fast_value.specs.declared.kind.Presence.{Presence}
use Rattle.fast_template.specs.declared.resolved.FieldPart.{FieldPart}
use Rattle.fast_template.specs.declared.resolved.Flat.{Flat, fold-roll-Flat}
use Rattle.fast_template.specs.declared.resolved.Flat.TheOpen.{Flat-F}
use Rattle.fast_template.specs.declared.resolved.Flat.TheVariants as flat
use Rattle.fast_template.specs.Resolved.{Instruction, whole_field, field_in_parts, group_of, sequence_of, Instructions, flat_step, instruction_of, list_of}
use Rattle.fast_stream.specs.declared.message.Node.{Node, fold_out-Node}
use Rattle.fast_stream.specs.declared.message.Node.TheVariants as node
use Rattle.fast_value.specs.declared.scalar.Scalar.{Scalar}
use Rattle.fast_stream.specs.Nodes.{Item, single, nodes_of, group_items, sequence_elements, Items, item_of, items_of, items_in, elements_of, node_step}
use Rattle.fast_spelled.specs.declared.fault.LineFault.{LineFault}
use Rattle.fast_spelled.specs.declared.fault.LineCause.TheVariants.{Memory, Limit}
use Rattle.fast_spelled.specs.Spelled.{item_by, items_by, elements_by, json_field, json_value, or_left_out}
use Rattle.fast_spelled.specs.Tokens.{IsRead, Refuses, first_token}
use Rattle.fast_spelled.proofs.Steps.{Next, first_first, rest_tokens}

-- ---- refusals

pub refused_so : {A : Type 0} {nodes : A → ℕ} {before : ℕ} {o : Option A} (f : LineFault) → o ≡ None → Refuses nodes before o f
refused_so f p = inr (inl p)

pub refused_over : {A : Type 0} {nodes : A → ℕ} {before : ℕ} {o : Option A} (f : LineFault) → f.cause ≡ Limit → ((a : A) → o ≡ Some a → before < nodes a) → Refuses nodes before o f
refused_over f limit more = inr (inr (limit, more))

pub refused_by : {A B : Type 0} {nodes : A → ℕ} {counts : B → ℕ} {before left : ℕ} {o : Option A} {q : Option B} (f : LineFault) → (o ≡ None → q ≡ None) → (((a : A) → o ≡ Some a → before < nodes a) → (b : B) → q ≡ Some b → left < counts b)
    → Refuses nodes before o f → Refuses counts left q f
refused_by f none over (inl c) = inl c
refused_by f none over (inr (inl p)) = inr (inl (none p))
refused_by f none over (inr (inr more)) = inr (inr (more.0, over more.1))

-- ---- tokens

pub element_there : {is : Instructions} {js : Listed} {rest reader : List Token} {done : List (Vec Node)} → Next is js rest reader done → reader ≡ [] → ⊥
element_there {rest = rest} x e = cc (sym e ∙ x.stands ∙ ap (λ l. l ++ (items_tokens x.more ++ rest)) (first_first x.one))

pub begins_object : (t : RustToken) → token_of t ≡ token.begin_object → t ≡ rust.BeginObject
begins_object rust.BeginObject e = refl
begins_object rust.EndObject e = absurd (cc e)
begins_object rust.BeginArray e = absurd (cc e)
begins_object rust.EndArray e = absurd (cc e)
begins_object (rust.Key s) e = absurd (cc e)
begins_object (rust.String s) e = absurd (cc e)
begins_object (rust.Number s) e = absurd (cc e)
begins_object (rust.Bool b) e = absurd (cc e)
begins_object rust.Null e = absurd (cc e)
begins_object rust.Bad e = absurd (cc e)

pub is_null : (t : RustToken) → token_of t ≡ token.null → t ≡ rust.Null
is_null rust.BeginObject e = absurd (cc e)
is_null rust.EndObject e = absurd (cc e)
is_null rust.BeginArray e = absurd (cc e)
is_null rust.EndArray e = absurd (cc e)
is_null (rust.Key s) e = absurd (cc e)
is_null (rust.String s) e = absurd (cc e)
is_null (rust.Number s) e = absurd (cc e)
is_null (rust.Bool b) e = absurd (cc e)
is_null rust.Null e = refl
is_null rust.Bad e = absurd (cc e)

-- ---- instructions and nodes as contracts see them

pub of_field : (name : List ℕ) (n : ℕ) (p : Presence) (whole : FieldPart) → instruction_of (flat.Field name n p whole) ≡ whole_field name n p whole
of_field name n p whole = ap instruction_of (sym (flat.rolls-Field name n p whole)) ∙ fold-roll-Flat Instruction flat_step (Flat-F.Field name n p whole)

pub of_parts : (name : List ℕ) (n : ℕ) (p : Presence) (e m : FieldPart) → instruction_of (flat.Parts name n p e m) ≡ field_in_parts name n p e m
of_parts name n p e m = ap instruction_of (sym (flat.rolls-Parts name n p e m)) ∙ fold-roll-Flat Instruction flat_step (Flat-F.Parts name n p e m)

pub of_group : (name : List ℕ) (n : ℕ) (p : Presence) (members : Vec Flat) → instruction_of (flat.Group name n p members) ≡ group_of name n p (list_of members.items)
of_group name n p members = ap instruction_of (sym (flat.rolls-Group name n p members)) ∙ fold-roll-Flat Instruction flat_step (Flat-F.Group name n p members)

pub of_sequence : (name : List ℕ) (n : ℕ) (p : Presence) (l : FieldPart) (members : Vec Flat) → instruction_of (flat.Sequence name n p l members) ≡ sequence_of name n p l (list_of members.items)
of_sequence name n p l members = ap instruction_of (sym (flat.rolls-Sequence name n p l members)) ∙ fold-roll-Flat Instruction flat_step (Flat-F.Sequence name n p l members)

fused : (es : List (Vec Node)) → map (λ v. items_of v.items) (map (mapped {H = Global} ((this {0}).map Node Item item_of)) es) ≡ map (λ v. items_in v.items) es
fused [] = refl
fused (e ∷ es) = ap (λ (rest : List Items). items_in e.items ∷ rest) (fused es)

pub node_sequence : (es : Vec (Vec Node)) → item_of (node.Sequence es) ≡ sequence_elements (elements_of (map (λ v. items_in v.items) es.items))
node_sequence es = fold_out-Node Item node_step (node.Sequence es) ∙ rw (node.outs-Sequence es) (ap (λ (ns : List Items). sequence_elements (elements_of ns)) (fused es.items))

pub node_group : (ns : Vec Node) → item_of (node.Group ns) ≡ group_items (items_in ns.items)
node_group ns = fold_out-Node Item node_step (node.Group ns) ∙ rw (node.outs-Group ns) refl

-- ---- a field

there : (p : Presence) (g : Json → Option Item) (j : Json) → (j ≡ null → ⊥) → or_left_out p g j ≡ g j
there p g null h = absurd (h refl)
there p g (boolean b) h = refl
there p g (number s) h = refl
there p g (string s) h = refl
there p g (array js) h = refl
there p g (object ms) h = refl

pub not_null : (t : RustToken) (j : Json) → token_of t ≡ first_token j → (t ≡ rust.Null → ⊥) → j ≡ null → ⊥
not_null t j e h n = h (is_null t (e ∙ ap first_token n))

field_rest : (k : Kind) (j : Json) (n : Item) → json_field k j ≡ Some n → rest_tokens j ≡ []
field_rest k null n e = refl
field_rest k (boolean b) n e = refl
field_rest k (number s) n e = refl
field_rest k (string s) n e = refl
field_rest k (array js) n e = absurd (cc e)
field_rest k (object ms) n e = absurd (cc e)

abbrev nodes_or : ℕ → Option Item → ℕ
nodes_or d None = d
nodes_or d (Some n) = nodes_of n

one_node : (o : Option Scalar) (n : Item) → option_map (λ v. single (Some v)) o ≡ Some n → nodes_of n ≡ 1
one_node None n e = absurd (cc e)
one_node (Some v) n e = sym (ap (nodes_or 1) e)

none_there : (f : LineFault) (k : Kind) (i : Instruction) (j : Json) (before : ℕ) → item_by i j ≡ json_field k j → (f.cause ≡ Memory) ⊎ (json_field k j ≡ None) → Refuses nodes_of before (item_by i j) f
none_there f k i j before same (inl c) = inl c
none_there f k i j before same (inr p) = inr (inl (same ∙ p))

-- what is answered of JSON, behind which so many nodes are left
abbrev pub ReadsNode : Result Node LineFault → ℕ → Option Item → ℕ → List Token → List Token → Type 0
ReadsNode r before o left after rest = MatchResult r (λ n. IsRead nodes_of before o (item_of n) left × (after ≡ rest)) (λ f. Refuses nodes_of before o f)

abbrev pub ReadsField : Result Node LineFault → Kind → Json → Type 0
ReadsField r k j = MatchResult r (λ n. json_field k j ≡ Some (item_of n)) (λ f. (f.cause ≡ Memory) ⊎ (json_field k j ≡ None))

field_node : (r : Result Node LineFault) (k : Kind) (i : Instruction) (j : Json) (after rest : List Token) (before left : ℕ) → left ≡ before → item_by i j ≡ json_field k j → after ≡ rest_tokens j ++ rest → ReadsField r k j
    → ReadsNode r (1 + before) (item_by i j) left after rest
field_node (Ok n) k i j after rest before left stays same e h =
    ((same ∙ h, omega (arith, stays, one_node (json_value k j) (item_of n) h)), e ∙ ap (λ l. l ++ rest) (field_rest k j (item_of n) h))
field_node (Err f) k i j after rest before left stays same e h = none_there f k i j (1 + before) same h

pub whole_node : (r : Result Node LineFault) (f : Flat) (name : List ℕ) (n : ℕ) (p : Presence) (whole : FieldPart) (t : RustToken) (j : Json) (after rest : List Token) (before left : ℕ) → f ≡ flat.Field name n p whole → token_of t ≡ first_token j → (t ≡ rust.Null → ⊥)
    → after ≡ rest_tokens j ++ rest → left ≡ before → ReadsField r whole.kind j → ReadsNode r (1 + before) (item_by (instruction_of f) j) left after rest
whole_node r f name n p whole t j after rest before left is first other e stays h =
    field_node r whole.kind (instruction_of f) j after rest before left stays (ap (λ i. item_by i j) (ap instruction_of is ∙ of_field name n p whole) ∙ there p (json_field whole.kind) j (not_null t j first other)) e h

pub parts_node : (r : Result Node LineFault) (f : Flat) (name : List ℕ) (n : ℕ) (p : Presence) (x m : FieldPart) (t : RustToken) (j : Json) (after rest : List Token) (before left : ℕ) → f ≡ flat.Parts name n p x m → token_of t ≡ first_token j → (t ≡ rust.Null → ⊥)
    → after ≡ rest_tokens j ++ rest → left ≡ before → ReadsField r Kind.Decimal j → ReadsNode r (1 + before) (item_by (instruction_of f) j) left after rest
parts_node r f name n p x m t j after rest before left is first other e stays h =
    field_node r Kind.Decimal (instruction_of f) j after rest before left stays (ap (λ i. item_by i j) (ap instruction_of is ∙ of_parts name n p x m) ∙ there p (json_field Kind.Decimal) j (not_null t j first other)) e h

-- ---- a group, and a sequence

pub record AnObject (j : Json) : Type 0 where
  pub members : Members
  pub is : j ≡ object members

pub an_object : (j : Json) → token.begin_object ≡ first_token j → AnObject j
an_object null e = absurd (cc e)
an_object (boolean b) e = absurd (cc e)
an_object (number s) e = absurd (cc e)
an_object (string s) e = absurd (cc e)
an_object (array js) e = absurd (cc e)
an_object (object ms) e = record { members = ms; is = refl }

pub record AnArray (j : Json) : Type 0 where
  pub items : Listed
  pub is : j ≡ array items

pub an_array : (j : Json) → token.begin_array ≡ first_token j → AnArray j
an_array null e = absurd (cc e)
an_array (boolean b) e = absurd (cc e)
an_array (number s) e = absurd (cc e)
an_array (string s) e = absurd (cc e)
an_array (array js) e = record { items = js; is = refl }
an_array (object ms) e = absurd (cc e)

pub group_is : (f : Flat) (name : List ℕ) (n : ℕ) (p : Presence) (members : Vec Flat) (j : Json) (ms : Members) → f ≡ flat.Group name n p members → j ≡ object ms → item_by (instruction_of f) j ≡ option_map group_items (items_by (list_of members.items) ms)
group_is f name n p members j ms is e = ap₂ item_by (ap instruction_of is ∙ of_group name n p members) e

pub sequence_is : (f : Flat) (name : List ℕ) (n : ℕ) (p : Presence) (l : FieldPart) (members : Vec Flat) (j : Json) (js : Listed) → f ≡ flat.Sequence name n p l members → j ≡ array js
    → item_by (instruction_of f) j ≡ option_map sequence_elements (elements_by (λ ms. items_by (list_of members.items) ms) js)
sequence_is f name n p l members j js is e = ap₂ item_by (ap instruction_of is ∙ of_sequence name n p l members) e
