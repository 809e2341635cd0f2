-- What is read of a line as it is shown, from its front.
use Rattle.std.proofs.Common.{◌≡◌, ℕ, ◌+◌, ◌*◌, ◌<◌, ◌≤◌, ◌^◌, nat_lt, true, Bool, IsAscii, List, [], ◌∷◌, ◌++◌, length, drop, get_or, map, suc, Option, Some, None, option_map, IfSome, codes, decimal, refl, sym, ap, ap₂, ◌∙◌, subst, arith, append_assoc}
use Rattle.std.proofs.ByRecursion.{All-from_ascii}
use Rattle.std.proofs.lemmas.Bool.{and_parts, and_from, ltb-true, lt-ltb}
use Rattle.std.proofs.lemmas.List.{drop_more, drop_all}
use Rattle.std.specs.Global.{Vec}
use Rattle.std.specs.List.{AllByRecursion, flat_map, list_all}
use Rattle.hex.specs.Hex.{encode_lower}
unfoldable use Rattle.hex.specs.Hex.{encode_with}
use Rattle.fast_value.specs.declared.kind.Kind.{Kind}
use Rattle.fast_value.specs.declared.kind.Presence.{Presence}
use Rattle.fast_value.specs.declared.scalar.Scalar.{Scalar}
use Rattle.fast_value.specs.declared.scalar.Scalar.TheVariants.{Ascii, Unicode}
use Rattle.fast_field.specs.Refusals.{are_characters}
use Rattle.fast_template.specs.declared.resolved.FieldPart.{FieldPart}
use Rattle.fast_template.specs.declared.resolved.Flat.{Flat}
use Rattle.fast_template.specs.declared.resolved.Flat.TheVariants as flat
use Rattle.fast_template.specs.declared.resolved.FlatTemplate.{FlatTemplate}
use Rattle.fast_template.specs.Resolved.{Instruction, whole_field, field_in_parts, group_of, sequence_of, Instructions, then_instruction, instruction_of, list_of, resolved_of}
use Rattle.fast_template.specs.TemplateSets.{IsSound, TemplateList, template_of}
use Rattle.fast_stream.specs.declared.message.Node.{Node, fold_out-Node}
use Rattle.fast_stream.specs.declared.message.Node.TheVariants as node
use Rattle.fast_stream.specs.Nodes.{Item, single, sequence_elements, Items, no_items, then_item, Elements, no_elements, then_element, Content, item_of, items_in, elements_of, node_step, nodes_of, nodes_in, nodes_in_elements, node_limit}
use Rattle.fast_lines.specs.declared.form.Form.TheVariants.{Json}
use Rattle.fast_lines.specs.Lines.{absent_text, braced, bracketed, elements_text, joined, label, labelled, line_if, members_text, node_text, value_text}
use Rattle.fast_lines.specs.Signs.{head_text, label_text, lead, unit_text}
use Rattle.fast_spelled.specs.declared.shown.Left.{Left}
use Rattle.fast_spelled.specs.Shown.{IsLineOf, IsShown, Stands, is_plain_unit}
use Rattle.fast_spelled.specs.Spelled.{name_in, presence_in}
use Rattle.fast_spelled.specs.Within.{HasScalars, HaveScalars, HaveScalarsIn}
use Rattle.fast_spelled.proofs.Answering.{node_sequence, of_sequence}
use Rattle.fast_spelled.proofs.Fronts.{plain_units}
use Rattle.fast_spelled.proofs.Texts.{same_given}

-- ---- strings

characters : (s : List ℕ) → AllByRecursion (λ c. c < 128) s → are_characters s ≡ true
characters [] h = refl
characters (c ∷ s) h = and_from _ _ (lt-ltb c 128 h.0) (characters s h.1)

pub ascii_shown : (k : Kind) (v s : List ℕ) → k ≡ Kind.Ascii → v ≡ s → list_all is_plain_unit s ≡ true → IsAscii s → value_text Json k (Ascii v) ≡ Some (34 ∷ (s ++ (34 ∷ [])))
ascii_shown k v s kind same plain few = rw (kind, same, characters s (All-from_ascii s few), plain_units s plain) refl

pub unicode_shown : (k : Kind) (v s : List ℕ) → k ≡ Kind.Unicode → v ≡ s → list_all is_plain_unit s ≡ true → value_text Json k (Unicode v) ≡ Some (34 ∷ (s ++ (34 ∷ [])))
unicode_shown k v s kind same plain = rw (kind, same, plain_units s plain) refl

pub all_ascii : (s : List ℕ) → list_all (λ c. nat_lt c 128) s ≡ true → AllByRecursion (λ c. c < 128) s
all_ascii [] e = tt
all_ascii (c ∷ s) e =
    let p = and_parts (nat_lt c 128) (list_all (λ c. nat_lt c 128) s) e in
    (ltb-true c 128 p.0, all_ascii s p.1)

pub all_bytes : (s : List ℕ) → ((k : ℕ) → get_or s k 0 < 256) → AllByRecursion (λ c. c < 256) s
all_bytes [] h = tt
all_bytes (c ∷ s) h = (h 0, all_bytes s (λ k. h (suc k)))

pub two_each : (s : List ℕ) → length (encode_lower s) ≡ 2 * length s
unfolding encode_with
two_each [] = refl
two_each (b ∷ s) = omega (arith, two_each s)

-- ---- one behind the other

pub front_of : {A : Type 0} {s : List ℕ} {n : ℕ} {a b : Left} → IsShown (Some s) A n a b → a.bytes.now ≡ s ++ b.bytes.now
front_of {s = s} {b = b} x = x.stands.is ∙ ap (λ l. l ++ b.bytes.now) (sym (same_given s x.stands.front x.stands.there))

pub stands_behind : {t : Option (List ℕ)} (s : List ℕ) {a b c : List ℕ} → a ≡ s ++ b → Stands t b c → Stands (option_map (λ x. s ++ x) t) a c
stands_behind s {c = c} e x = record {
  front = s ++ x.front;
  there = ap (option_map (λ y. s ++ y)) x.there;
  is = e ∙ ap (λ l. s ++ l) x.is ∙ sym (append_assoc s x.front c);
}

pub stands_joined : {s t : Option (List ℕ)} {a b c : List ℕ} → Stands s a b → Stands t b c → Stands (joined s t) a c
stands_joined {c = c} x y = record {
  front = x.front ++ y.front;
  there = ap₂ joined x.there y.there;
  is = x.is ∙ ap (λ l. x.front ++ l) y.is ∙ sym (append_assoc x.front y.front c);
}

pub stands_as : {s t : Option (List ℕ)} {a b : List ℕ} → t ≡ s → Stands s a b → Stands t a b
stands_as e x = record { front = x.front; there = e ∙ x.there; is = x.is }

pub shown_between : {A : Type 0} (o w : List ℕ) (t : Option (List ℕ)) {n : ℕ} {a b c d : Left} → IsShown (Some o) (Unit {0}) 0 a b → IsShown t A n b c → IsShown (Some w) (Unit {0}) 0 c d → IsShown (option_map (λ x. o ++ x ++ w) t) A n a d
shown_between o w t {d = d} x y z = record {
  stands = record {
    front = o ++ y.stands.front ++ w;
    there = ap (option_map (λ u. o ++ u ++ w)) y.stands.there;
    is = front_of x ∙ ap (λ l. o ++ l) (y.stands.is ∙ ap (λ l. y.stands.front ++ l) (front_of z)) ∙ sym (append_assoc o y.stands.front (w ++ d.bytes.now)) ∙ sym (append_assoc (o ++ y.stands.front) w d.bytes.now);
  };
  so = y.so;
  count = omega (arith, x.count, y.count, z.count);
}

pub shown_as : {A B : Type 0} {s t : Option (List ℕ)} {n m : ℕ} {a b c : Left} → IsShown (Some []) (Unit {0}) 1 a b → IsShown s A n b c → t ≡ s → (A → B) → m ≡ 1 + n → IsShown t B m a c
shown_as x y e so many = record {
  stands = record { front = y.stands.front; there = e ∙ y.stands.there; is = front_of x ∙ y.stands.is };
  so = so y.so;
  count = omega (arith, x.count, y.count, many);
}

-- ---- a node

absent_is : (i : Instruction) → node_text Json i (single None) ≡ absent_text Json (presence_in i)
absent_is (whole_field name n presence whole) = refl
absent_is (field_in_parts name n presence exponent mantissa) = refl
absent_is (group_of name n presence members) = refl
absent_is (sequence_of name n presence length members) = refl

pub label_is : (i : Instruction) → label Json i ≡ label_text Json (name_in i)
label_is (whole_field name n presence whole) = refl
label_is (field_in_parts name n presence exponent mantissa) = refl
label_is (group_of name n presence members) = refl
label_is (sequence_of name n presence length members) = refl

-- a node is so of an instruction
abbrev pub IsNode : Instruction → Item → Left → Left → Type 0
IsNode i n a b = IsShown (node_text Json i n) (HasScalars n) (nodes_of n) a b

absent_so : (i : Instruction) (n : Item) (a b c : Left) → IsShown (Some []) (Unit {0}) 1 a b → IsShown (absent_text Json (presence_in i)) (n ≡ single None) 0 b c → IsNode i n a c
absent_so i n a b c x y = shown_as x y (ap (node_text Json i) y.so ∙ absent_is i) (λ e. subst HasScalars (sym e) tt) (ap nodes_of y.so)

pub absent_shown : (i : Instruction) (p : Presence) (r : Option Node) (a b c : Left) → p ≡ presence_in i → IsShown (Some []) (Unit {0}) 1 a b → IfSome r (λ n. IsShown (absent_text Json p) (item_of n ≡ single None) 0 b c) → IfSome r (λ n. IsNode i (item_of n) a c)
absent_shown i p None a b c e x y = tt
absent_shown i p (Some n) a b c e x y = absent_so i (item_of n) a b c x (subst (λ q. IsShown (absent_text Json q) (item_of n ≡ single None) 0 b c) e y)

pub node_value : (v : Scalar) → item_of (node.Value v) ≡ single (Some v)
node_value v = fold_out-Node Item node_step (node.Value v) ∙ rw (node.outs-Value v) refl

pub of_item : (i j : Instruction) (n m : Item) (a b : Left) → i ≡ j → n ≡ m → IsNode j m a b → IsNode i n a b
of_item i j n m a b e f x = subst (λ k. IsNode k n a b) (sym e) (subst (λ k. IsNode j k a b) (sym f) x)

-- ---- the items of instructions

abbrev pub before_items : List Node → Items → Items
before_items [] ns = ns
before_items (n ∷ done) ns = then_item (item_of n) (before_items done ns)

pub done_items : (done : List Node) → before_items done no_items ≡ items_in done
done_items [] = refl
done_items (n ∷ done) = ap (then_item (item_of n)) (done_items done)

more_items : (done : List Node) (n : Node) (ns : Items) → before_items (done ++ (n ∷ [])) ns ≡ before_items done (then_item (item_of n) ns)
more_items [] n ns = refl
more_items (m ∷ done) n ns = ap (then_item (item_of m)) (more_items done n ns)

scalars_more : (done : List Node) (n : Node) → HaveScalars (items_in done) → HasScalars (item_of n) → HaveScalars (items_in (done ++ (n ∷ [])))
scalars_more [] n h own = (own, tt)
scalars_more (m ∷ done) n h own = (h.0, scalars_more done n h.1 own)

nodes_more : (done : List Node) (n : Node) → nodes_in (items_in (done ++ (n ∷ []))) ≡ nodes_in (items_in done) + nodes_of (item_of n)
nodes_more [] n = omega arith
nodes_more (m ∷ done) n = omega (arith, nodes_more done n)

-- with what is read of these instructions, all are read
pub record ItemsGo (all more : Instructions) (done : List Node) (led : Bool) (old new : Left) : Type 0 where
  pub text : (ns : Items) (r : List ℕ) → Stands (members_text Json (lead Json led) more ns) new.bytes.now r → Stands (members_text Json [] all (before_items done ns)) old.bytes.now r
  pub so : HaveScalars (items_in done)
  pub count : old.nodes ≡ nodes_in (items_in done) + new.nodes

pub items_begin : (is : Instructions) (done : List Node) (a : Left) → done ≡ [] → ItemsGo is is done Bool.false a a
items_begin is done a e = subst (λ d. ItemsGo is is d Bool.false a a) (sym e) (record { text = λ ns r s. s; so = tt; count = omega arith })

items_step : (all is : Instructions) (i : Instruction) (done : List Node) (n : Node) (led : Bool) (name : List ℕ) (a b c d e : Left) → ItemsGo all (then_instruction i is) done led a b → IsShown (Some (lead Json led)) (Unit {0}) 0 b c → name ≡ name_in i → IsShown (Some (label_text Json name)) (Unit {0}) 0 c d → IsNode i (item_of n) d e
    → ItemsGo all is (done ++ (n ∷ [])) true a e
items_step all is i done n led name a b c d e go x named y z = record {
  text = λ ns r s.
      let own : Stands (labelled Json (lead Json led) i (node_text Json i (item_of n))) b.bytes.now e.bytes.now = record {
        front = lead Json led ++ label Json i ++ z.stands.front;
        there = ap (labelled Json (lead Json led) i) z.stands.there;
        is = front_of x ∙ ap (λ l. lead Json led ++ l) (front_of y ∙ ap₂ (λ l m. l ++ m) (ap (label_text Json) named ∙ sym (label_is i)) z.stands.is)
            ∙ sym (append_assoc (lead Json led) (label Json i) (z.stands.front ++ e.bytes.now)) ∙ sym (append_assoc (lead Json led ++ label Json i) z.stands.front e.bytes.now);
      } in
      stands_as (ap (members_text Json [] all) (more_items done n ns)) (go.text (then_item (item_of n) ns) r (stands_joined own s));
  so = scalars_more done n go.so z.so;
  count = omega (arith, go.count, x.count, y.count, z.count, nodes_more done n);
}

pub items_next : (members : List Flat) (at : ℕ) (m : Flat) (done more : List Node) (n : Node) (led : Bool) (name : List ℕ) (a b c d e : Left) → at < length members → m ≡ get_or members at m → ItemsGo (list_of members) (list_of (drop at members)) done led a b
    → IsShown (Some (lead Json led)) (Unit {0}) 0 b c → name ≡ name_in (instruction_of m) → IsShown (Some (label_text Json name)) (Unit {0}) 0 c d → IsNode (instruction_of m) (item_of n) d e → more ≡ done ++ (n ∷ [])
    → ItemsGo (list_of members) (list_of (drop (at + 1) members)) more true a e
items_next members at m done more n led name a b c d e inside is go x named y z pushed =
    let here : drop at members ≡ m ∷ drop (at + 1) members = drop_more members at m inside ∙ ap (λ (f : Flat). f ∷ drop (at + 1) members) (sym is) in
    subst (λ l. ItemsGo (list_of members) (list_of (drop (at + 1) members)) l true a e) (sym pushed)
    (items_step (list_of members) (list_of (drop (at + 1) members)) (instruction_of m) done n led name a b c d e (subst (λ l. ItemsGo (list_of members) (list_of l) done led a b) here go) x named y z)

pub items_end : (members : List Flat) (at : ℕ) (done : List Node) (led : Bool) (a b : Left) → length members ≤ at → ItemsGo (list_of members) (list_of (drop at members)) done led a b → IsShown (members_text Json [] (list_of members) (items_in done)) (HaveScalars (items_in done)) (nodes_in (items_in done)) a b
items_end members at done led a b past go =
    let last = subst (λ l. ItemsGo (list_of members) (list_of l) done led a b) (drop_all at members past) go in record {
      stands = stands_as (ap (members_text Json [] (list_of members)) (sym (done_items done))) (last.text no_items b.bytes.now (record { front = []; there = refl; is = refl }));
      so = go.so;
      count = go.count;
    }

-- ---- the elements of a sequence

abbrev pub elements_in : List (Vec Node) → Elements
elements_in es = elements_of (map (λ v. items_in v.items) es)

abbrev pub texts_in : Instructions → List ℕ → Elements → Option (List ℕ)
texts_in is before es = elements_text Json (λ ns. members_text Json [] is ns) before es

abbrev pub before_elements : List (Vec Node) → Elements → Elements
before_elements [] es = es
before_elements (v ∷ done) es = then_element (items_in v.items) (before_elements done es)

pub done_elements : (done : List (Vec Node)) → before_elements done no_elements ≡ elements_in done
done_elements [] = refl
done_elements (v ∷ done) = ap (then_element (items_in v.items)) (done_elements done)

more_elements : (done : List (Vec Node)) (v : Vec Node) (es : Elements) → before_elements (done ++ (v ∷ [])) es ≡ before_elements done (then_element (items_in v.items) es)
more_elements [] v es = refl
more_elements (w ∷ done) v es = ap (then_element (items_in w.items)) (more_elements done v es)

scalars_in_more : (done : List (Vec Node)) (v : Vec Node) → HaveScalarsIn (elements_in done) → HaveScalars (items_in v.items) → HaveScalarsIn (elements_in (done ++ (v ∷ [])))
scalars_in_more [] v h own = (own, tt)
scalars_in_more (w ∷ done) v h own = (h.0, scalars_in_more done v h.1 own)

nodes_in_more : (done : List (Vec Node)) (v : Vec Node) → nodes_in_elements (elements_in (done ++ (v ∷ []))) ≡ nodes_in_elements (elements_in done) + (1 + nodes_in (items_in v.items))
nodes_in_more [] v = omega arith
nodes_in_more (w ∷ done) v = omega (arith, nodes_in_more done v)

pub record ElementsGo (is : Instructions) (done : List (Vec Node)) (led : Bool) (old new : Left) : Type 0 where
  pub text : (es : Elements) (r : List ℕ) → Stands (texts_in is (lead Json led) es) new.bytes.now r → Stands (texts_in is [] (before_elements done es)) old.bytes.now r
  pub so : HaveScalarsIn (elements_in done)
  pub count : old.nodes ≡ nodes_in_elements (elements_in done) + new.nodes

pub elements_begin : (is : Instructions) (done : List (Vec Node)) (a : Left) → done ≡ [] → ElementsGo is done Bool.false a a
elements_begin is done a e = subst (λ d. ElementsGo is d Bool.false a a) (sym e) (record { text = λ es r s. s; so = tt; count = omega arith })

pub elements_next : (is : Instructions) (done more : List (Vec Node)) (v : Vec Node) (led : Bool) (a b c d e : Left) → ElementsGo is done led a b → IsShown (Some (lead Json led)) (Unit {0}) 0 b c → IsShown (Some []) (Unit {0}) 1 c d
    → IsShown (braced (members_text Json [] is (items_in v.items))) (HaveScalars (items_in v.items)) (nodes_in (items_in v.items)) d e → more ≡ done ++ (v ∷ []) → ElementsGo is more true a e
elements_next is done more v led a b c d e go x y z pushed =
    subst (λ l. ElementsGo is l true a e) (sym pushed) (record {
      text = λ es r s.
          let own = stands_behind (lead Json led) (front_of x ∙ ap (λ l. lead Json led ++ l) (front_of y)) z.stands in
          stands_as (ap (texts_in is []) (more_elements done v es)) (go.text (then_element (items_in v.items) es) r (stands_joined own s));
      so = scalars_in_more done v go.so z.so;
      count = omega (arith, go.count, x.count, y.count, z.count, nodes_in_more done v);
    })

pub elements_end : (is : Instructions) (done : List (Vec Node)) (led : Bool) (a b : Left) → ElementsGo is done led a b → IsShown (texts_in is [] (elements_in done)) (HaveScalarsIn (elements_in done)) (nodes_in_elements (elements_in done)) a b
elements_end is done led a b go = record {
  stands = stands_as (ap (texts_in is []) (sym (done_elements done))) (go.text no_elements b.bytes.now (record { front = []; there = refl; is = refl }));
  so = go.so;
  count = go.count;
}

pub elements_shown : (is : Instructions) (done : List (Vec Node)) (a b c d : Left) → IsShown (Some (91 ∷ [])) (Unit {0}) 0 a b → IsShown (texts_in is [] (elements_in done)) (HaveScalarsIn (elements_in done)) (nodes_in_elements (elements_in done)) b c → IsShown (Some (93 ∷ [])) (Unit {0}) 0 c d
    → IsShown (bracketed (texts_in is [] (elements_in done))) (HaveScalarsIn (elements_in done)) (nodes_in_elements (elements_in done)) a d
elements_shown is done a b c d x y z = shown_between (codes "[") (codes "]") (texts_in is [] (elements_in done)) x y z

pub sequence_shown : (f : Flat) (name : List ℕ) (n : ℕ) (p : Presence) (l : FieldPart) (members : Vec Flat) (es : Vec (Vec Node)) (a b c : Left) → f ≡ flat.Sequence name n p l members → IsShown (Some []) (Unit {0}) 1 a b
    → IsShown (bracketed (texts_in (list_of members.items) [] (elements_in es.items))) (HaveScalarsIn (elements_in es.items)) (nodes_in_elements (elements_in es.items)) b c → IsNode (instruction_of f) (item_of (node.Sequence es)) a c
sequence_shown f name n p l members es a b c is x y =
    of_item (instruction_of f) (sequence_of name n p (l) (list_of members.items)) (item_of (node.Sequence es)) (sequence_elements (elements_in es.items)) a c (ap instruction_of is ∙ of_sequence name n p l members) (node_sequence es)
    (shown_as x y refl (λ h. h) refl)

-- ---- the line

-- what stands in front of the items is the head
head_is : (id : ℕ) (name text last : List ℕ) → head_text Json id name ++ text ++ last ≡ codes "{\"template\":\"" ++ (flat_map (unit_text Json) name ++ (34 ∷ (codes ",\"id\":" ++ (decimal id ++ (codes ",\"fields\":{" ++ (text ++ last))))))
head_is id name text last = simp append_assoc refl

-- a line whose pieces stand one behind the other is the one that is shown of a message
pub line_shown : (set : TemplateList) (t : FlatTemplate) (m : Content) (line name behind_name behind_id behind_digits bytes left : List ℕ) (a b : Left) → IsSound set → template_of m.template set ≡ Some t → m.template < 2 ^ 32 → t.name ≡ name → list_all is_plain_unit name ≡ true
    → line ≡ codes "{\"template\":\"" ++ behind_name → behind_name ≡ name ++ (34 ∷ behind_id) → behind_id ≡ codes ",\"id\":" ++ behind_digits → behind_digits ≡ decimal m.template ++ left → left ≡ codes ",\"fields\":{" ++ bytes
    → a.bytes.now ≡ bytes → a.nodes ≡ node_limit → IsShown (members_text Json [] (resolved_of t).members m.items) (HaveScalars m.items) (nodes_in m.items) a b → b.bytes.now ≡ codes "}}\n" → IsLineOf set line m
line_shown set t m line name behind_name behind_id behind_digits bytes left a b sound there small own plain first second third fourth fifth here many x last =
    let text = x.stands.front in
    let whole : line ≡ head_text Json m.template name ++ text ++ codes "}}\n" =
    first ∙ ap (λ l. codes "{\"template\":\"" ++ l) (second ∙ ap (λ l. name ++ (34 ∷ l)) (third ∙ ap (λ l. codes ",\"id\":" ++ l) (fourth ∙ ap (λ l. decimal m.template ++ l) (fifth ∙ ap (λ l. codes ",\"fields\":{" ++ l) (sym here ∙ x.stands.is ∙ ap (λ l. text ++ l) last)))))
    ∙ ap (λ l. codes "{\"template\":\"" ++ (l ++ (34 ∷ (codes ",\"id\":" ++ (decimal m.template ++ (codes ",\"fields\":{" ++ (text ++ codes "}}\n"))))))) (sym (plain_units name plain))
    ∙ sym (head_is m.template name text (codes "}}\n")) in
    record {
      sound = sound;
      within = record { template = small; items = x.so };
      shown = ap (λ o. line_if Json o m) there ∙ ap (option_map (λ u. head_text Json m.template t.name ++ u ++ codes "}}\n")) x.stands.there ∙ ap (λ n. Some (head_text Json m.template n ++ text ++ codes "}}\n")) own ∙ ap Some (sym whole);
      small = omega (arith, x.count, many);
    }
