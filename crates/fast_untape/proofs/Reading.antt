-- What nodes are read as, by the instructions of a template.
use Rattle.std.proofs.Common.{◌≡◌, ℕ, ◌+◌, ◌-◌, ◌<◌, ◌≤◌, suc, Bool, true, false, List, [], ◌∷◌, ◌++◌, length, take, drop, Option, Some, None, refl, sym, ap, ap₂, subst, ◌∙◌, append_assoc, append-nil, length-drop, arith, ◌&&◌}
use Rattle.std.proofs.lemmas.List.{drop-drop, length-take-le, take_all, take-append-drop}
use Rattle.std.proofs.Math.Seq.{take-add, take-append_seam}
use Rattle.fast_value.specs.declared.scalar.Scalar.{Scalar}
use Rattle.fast_value.specs.declared.kind.Presence.{Presence}
use Rattle.fast_template.specs.declared.resolved.FieldPart.{FieldPart}
use Rattle.fast_template.specs.Resolved.{Instruction, Instructions, whole_field, field_in_parts, group_of, sequence_of, no_instructions, then_instruction}
use Rattle.fast_stream.specs.Nodes.{Item, single, group_items, sequence_elements, Items, no_items, then_item, Elements, no_elements, then_element, element_count, items_of, elements_of}
use Rattle.fast_nodes.specs.FirstRefusal.{item_fits, items_fit, elements_fit}
use Rattle.fast_nodes.specs.Ranges.{HaveRanges, HaveRangesIn}
use Rattle.fast_tape.specs.declared.node.TapeNode.{TapeNode}
use Rattle.fast_tape.specs.Tapes.{Head, Mark, SayAll, Says, opens, tells, segment, of_group, of_sequence, of_element, long_node, group_kind, sequence_kind, element_kind, marks_in, marks_in_elements, marks_of}
use Rattle.fast_tape.proofs.Marks.{item_same}
use Rattle.fast_tape.proofs.Nodes.{as_many, marks_same, say_both}
use Rattle.fast_untape.specs.Reading.{AreSoMany, SayFirst, SaysNoValue, Unfit, UnfitAll, UnfitEach}

-- ---- what stands in front

-- nodes that say something begin with the first, which says the first of it
abbrev pub FrontOf : List ℕ → TapeNode → List TapeNode → List TapeNode → List TapeNode → Mark → List Mark → Type 0
FrontOf bytes first behind own b m ms = (rest : List TapeNode) × (own ≡ first ∷ rest) × (behind ≡ rest ++ b) × Says bytes m first × SayAll bytes ms rest

pub front_of : (bytes : List ℕ) (first : TapeNode) (behind own b : List TapeNode) (m : Mark) (ms : List Mark) → first ∷ behind ≡ own ++ b → SayAll bytes (m ∷ ms) own → FrontOf bytes first behind own b m ms
front_of bytes first behind [] b m ms join says = absurd says
front_of bytes first behind (x ∷ rest) b m ms join says =
    let same : first ≡ x = cc in
    (rest, ap (λ y. y ∷ rest) (sym same), cc, rw same says.0, says.1)

-- no item is said by no node
says_some : (bytes : List ℕ) (n : Item) → SayAll bytes (marks_of n) [] → ⊥
says_some bytes (single v) says = says
says_some bytes (group_items ns) says = says
says_some bytes (sequence_elements es) says = says

pub unfit_nothing : (bytes : List ℕ) (i : Instruction) → Unfit bytes [] i
unfit_nothing bytes i n [] b ranges join says = absurd (says_some bytes n says)
unfit_nothing bytes i n (x ∷ own) b ranges join says = absurd cc

-- ---- a node of its own

pub single_first : (bytes : List ℕ) (first : TapeNode) (behind : List TapeNode) (v : Option Scalar) (n : Item) → n ≡ single v → Says bytes (tells v) first → SayFirst bytes (first ∷ behind) 1 (marks_of n)
single_first bytes first behind v n is says = rw is (record { within = omega arith; says = (says, tt) })

pub unfit_field : (bytes : List ℕ) (first : TapeNode) (behind : List TapeNode) (name : List ℕ) (number : ℕ) (presence : Presence) (part : FieldPart) → SaysNoValue bytes first → Unfit bytes (first ∷ behind) (whole_field name number presence part)
unfit_field bytes first behind name number presence part nothing (single v) own b ranges join says = absurd (nothing v ranges (front_of bytes first behind own b (tells v) [] join says).3)
unfit_field bytes first behind name number presence part nothing (group_items ns) own b ranges join says = refl
unfit_field bytes first behind name number presence part nothing (sequence_elements es) own b ranges join says = refl

pub unfit_parts : (bytes : List ℕ) (first : TapeNode) (behind : List TapeNode) (name : List ℕ) (number : ℕ) (presence : Presence) (exponent mantissa : FieldPart) → SaysNoValue bytes first → Unfit bytes (first ∷ behind) (field_in_parts name number presence exponent mantissa)
unfit_parts bytes first behind name number presence exponent mantissa nothing (single v) own b ranges join says = absurd (nothing v ranges (front_of bytes first behind own b (tells v) [] join says).3)
unfit_parts bytes first behind name number presence exponent mantissa nothing (group_items ns) own b ranges join says = refl
unfit_parts bytes first behind name number presence exponent mantissa nothing (sequence_elements es) own b ranges join says = refl

-- ---- a header and its own nodes

pub first_own : {A : Type 0} (own behind : List A) → own ≡ take (length own) behind → length own ≤ length behind → (rest b : List A) → behind ≡ rest ++ b → length rest ≡ length own → rest ≡ own
first_own own behind is le rest b join same = sym (take-append_seam rest b) ∙ ap (λ n. take n (rest ++ b)) same ∙ ap (λ l. take (length own) l) (sym join) ∙ sym is

pub take_own : (first : TapeNode) (behind own : List TapeNode) → own ≡ take (length own) behind → take (length own + 1) (first ∷ behind) ≡ first ∷ own
take_own first behind own own_is =
    let more : length own + 1 ≡ suc (length own) = omega arith in
    ap (λ n. take n (first ∷ behind)) more ∙ ap (λ l. first ∷ l) (sym own_is)

pub headed_first : (bytes : List ℕ) (first : TapeNode) (behind own : List TapeNode) (h : Head) (ms : List Mark) (n : Item) → marks_of n ≡ segment h ms → Says bytes (opens h (length own)) first → own ≡ take (length own) behind → length own ≤ length behind → SayAll bytes ms own
    → SayFirst bytes (first ∷ behind) (length own + 1) (marks_of n)
headed_first bytes first behind own h ms n is header own_is le says =
    rw is (record {
      within = omega (arith, le);
      says = subst (λ l. SayAll bytes (segment h ms) l) (sym (take_own first behind own own_is))
          (subst (λ k. Says bytes (opens h k) first) (as_many bytes ms own says) header, says);
    })

pub unfit_group : (bytes : List ℕ) (first : TapeNode) (behind : List TapeNode) (name : List ℕ) (number : ℕ) (presence : Presence) (members : Instructions) → (Says bytes (tells None) first → ⊥)
    → ((ns : Items) (rest b : List TapeNode) → HaveRanges ns → behind ≡ rest ++ b → first ≡ long_node group_kind first.instruction 0 (length rest) → SayAll bytes (marks_in ns) rest → items_fit members ns ≡ false)
    → Unfit bytes (first ∷ behind) (group_of name number presence members)
unfit_group bytes first behind name number presence members present inside (single None) own b ranges join says = absurd (present (front_of bytes first behind own b (tells None) [] join says).3)
unfit_group bytes first behind name number presence members present inside (single (Some v)) own b ranges join says = refl
unfit_group bytes first behind name number presence members present inside (sequence_elements es) own b ranges join says = refl
unfit_group bytes first behind name number presence members present inside (group_items ns) own b ranges join says =
    let f = front_of bytes first behind own b (opens of_group (length (marks_in ns))) (marks_in ns) join says in
    inside ns f.0 b ranges f.2 (f.3 ∙ ap (λ l. long_node group_kind first.instruction 0 l) (sym (as_many bytes (marks_in ns) f.0 f.4))) f.4

pub unfit_sequence : (bytes : List ℕ) (first : TapeNode) (behind : List TapeNode) (name : List ℕ) (number : ℕ) (presence : Presence) (part : FieldPart) (members : Instructions) → (Says bytes (tells None) first → ⊥)
    → ((es : Elements) (rest b : List TapeNode) → HaveRangesIn es → behind ≡ rest ++ b → first ≡ long_node sequence_kind first.instruction (element_count es) (length rest) → SayAll bytes (marks_in_elements es) rest → elements_fit members es ≡ false)
    → Unfit bytes (first ∷ behind) (sequence_of name number presence part members)
unfit_sequence bytes first behind name number presence part members present inside (single None) own b ranges join says = absurd (present (front_of bytes first behind own b (tells None) [] join says).3)
unfit_sequence bytes first behind name number presence part members present inside (single (Some v)) own b ranges join says = refl
unfit_sequence bytes first behind name number presence part members present inside (group_items ns) own b ranges join says = refl
unfit_sequence bytes first behind name number presence part members present inside (sequence_elements es) own b ranges join says =
    let f = front_of bytes first behind own b (opens (of_sequence (element_count es)) (length (marks_in_elements es))) (marks_in_elements es) join says in
    inside es f.0 b ranges f.2 (f.3 ∙ ap (λ l. long_node sequence_kind first.instruction (element_count es) l) (sym (as_many bytes (marks_in_elements es) f.0 f.4))) f.4

-- the nodes behind a header that are its own
pub own_is : (first : TapeNode) (behind own rest b : List TapeNode) (kind instruction number other : ℕ) → first ≡ long_node kind first.instruction number (length own) → own ≡ take (length own) behind → length own ≤ length behind → behind ≡ rest ++ b
    → first ≡ long_node kind instruction other (length rest) → rest ≡ own
own_is first behind own rest b kind instruction number other header is le join again =
    let long : length own ≡ length rest = ap (λ (m : TapeNode). m.length) (sym header ∙ again) in
    first_own own behind is le rest b join (sym long)

-- ---- items in a row

-- Whatever items the nodes are that are of the shape of the instructions: those that are left are of the shape of what is left of
-- these.
abbrev pub Leaves : List ℕ → List TapeNode → Instructions → List TapeNode → Instructions → Type 0
Leaves bytes nodes members left rest =
    (ns : Items) → HaveRanges ns → SayAll bytes (marks_in ns) nodes → items_fit members ns ≡ true → (ms : Items) × SayAll bytes (marks_in ms) left × HaveRanges ms × (items_fit rest ms ≡ true)

pub leaves_all : (bytes : List ℕ) (nodes : List TapeNode) (members : Instructions) → Leaves bytes nodes members nodes members
leaves_all bytes nodes members ns ranges says fits = (ns, says, ranges, fits)

and_both : (a b : Bool) → (a && b) ≡ true → (a ≡ true) × (b ≡ true)
and_both true true h = (refl, refl)
and_both true false h = absurd cc
and_both false b h = absurd cc

pub is_false : (b : Bool) → (b ≡ true → ⊥) → b ≡ false
is_false true h = absurd (h refl)
is_false false h = refl

-- what the nodes say, split where the first of it ends
says_split : (bytes : List ℕ) (ms ks : List Mark) (ns : List TapeNode) → SayAll bytes (ms ++ ks) ns → SayAll bytes ms (take (length ms) ns) × SayAll bytes ks (drop (length ms) ns)
says_split bytes [] ks ns says = (tt, says)
says_split bytes (m ∷ ms) ks [] says = absurd says
says_split bytes (m ∷ ms) ks (n ∷ ns) says = let t = says_split bytes ms ks ns says.1 in ((says.0, t.0), t.1)

length_first : (bytes : List ℕ) (nodes : List TapeNode) (count : ℕ) (marks : List Mark) → SayFirst bytes nodes count marks → length marks ≡ count
length_first bytes nodes count marks f = sym (as_many bytes marks (take count nodes) f.says) ∙ length-take-le count nodes f.within

-- of an item that was read, what is behind it is what was said behind it
behind_item : (bytes : List ℕ) (left : List TapeNode) (i n : Item) (ms : Items) (count : ℕ) → SayFirst bytes left count (marks_of i) → SayAll bytes (marks_of n ++ marks_in ms) left → (n ≡ i) × SayAll bytes (marks_in ms) (drop count left)
behind_item bytes left i n ms count f says =
    let t = says_split bytes (marks_of n) (marks_in ms) left says in
    let whole : SayAll bytes (marks_of n ++ marks_in ms) (take count left ++ drop count left) = subst (λ l. SayAll bytes (marks_of n ++ marks_in ms) l) (sym (take-append-drop count left)) says in
    let long = length_first bytes left count (marks_of i) f in
    let same = fronts bytes (marks_of i) (take count left) (drop count left) (marks_of n ++ marks_in ms) f.says whole in
    let one = item_same n i (marks_in ms) same.0 same.1 in
    (one.0, subst (λ ks. SayAll bytes ks (drop count left)) (sym one.1) same.2)
  where
    -- what is said in front is what is said of the nodes in front
    fronts : (bytes : List ℕ) (ms : List Mark) (ns os : List TapeNode) (ks : List Mark) → SayAll bytes ms ns → SayAll bytes ks (ns ++ os) → (rest : List Mark) × (ks ≡ ms ++ rest) × SayAll bytes rest os
    fronts bytes [] [] os ks a b = (ks, refl, b)
    fronts bytes [] (n ∷ ns) os ks a b = absurd a
    fronts bytes (m ∷ ms) [] os ks a b = absurd a
    fronts bytes (m ∷ ms) (n ∷ ns) os [] a b = absurd b
    fronts bytes (m ∷ ms) (n ∷ ns) os (k ∷ ks) a b =
        let t = fronts bytes ms ns os ks a.1 b.1 in
        let one = marks_same bytes (m ∷ []) (k ∷ []) (n ∷ []) (a.0, tt) (b.0, tt) in
        let head : m ≡ k = cc in
        (t.0, ap₂ (λ x xs. x ∷ xs) (sym head) t.1, t.2)

-- an item was read: the rest is left
pub leaves_item : (bytes : List ℕ) (nodes left : List TapeNode) (members rest : Instructions) (i : Instruction) (n : Item) (count : ℕ) → Leaves bytes nodes members left (then_instruction i rest) → SayFirst bytes left count (marks_of n) → Leaves bytes nodes members (drop count left) rest
leaves_item bytes nodes left members rest i n count leaves f ns ranges says fits = go (leaves ns ranges says fits)
  where
    go : (ms : Items) × SayAll bytes (marks_in ms) left × HaveRanges ms × (items_fit (then_instruction i rest) ms ≡ true) → (ks : Items) × SayAll bytes (marks_in ks) (drop count left) × HaveRanges ks × (items_fit rest ks ≡ true)
    go (no_items, a, b, c) = absurd cc
    go (then_item m ms, a, b, c) = (ms, (behind_item bytes left n m ms count f a).1, b.1, (and_both (item_fits i m) (items_fit rest ms) c).1)

-- no item is of the shape: none of them are
pub unfit_here : (bytes : List ℕ) (nodes left : List TapeNode) (members rest : Instructions) (i : Instruction) → Leaves bytes nodes members left (then_instruction i rest) → Unfit bytes left i → UnfitAll bytes nodes members
unfit_here bytes nodes left members rest i leaves unfit ns ranges says = is_false (items_fit members ns) (λ fits. go (leaves ns ranges says fits))
  where
    go : (ms : Items) × SayAll bytes (marks_in ms) left × HaveRanges ms × (items_fit (then_instruction i rest) ms ≡ true) → ⊥
    go (no_items, a, b, c) = cc
    go (then_item m ms, a, b, c) =
        let t = says_split bytes (marks_of m) (marks_in ms) left a in
        let never = unfit m (take (length (marks_of m)) left) (drop (length (marks_of m)) left) b.0 (sym (take-append-drop (length (marks_of m)) left)) t.0 in
        let yes = (and_both (item_fits i m) (items_fit rest ms) c).0 in cc

-- nodes are left, and no instruction
pub unfit_end : (bytes : List ℕ) (nodes left : List TapeNode) (members : Instructions) → Leaves bytes nodes members left no_instructions → 0 < length left → UnfitAll bytes nodes members
unfit_end bytes nodes left members leaves some ns ranges says = is_false (items_fit members ns) (λ fits. go (leaves ns ranges says fits))
  where
    no_more : (l : List TapeNode) → 0 < length l → SayAll bytes [] l → ⊥
    no_more [] less h = omega (arith, less)
    no_more (x ∷ l) less h = h

    go : (ms : Items) × SayAll bytes (marks_in ms) left × HaveRanges ms × (items_fit no_instructions ms ≡ true) → ⊥
    go (no_items, a, b, c) = no_more left some a
    go (then_item m ms, a, b, c) = cc

-- ---- elements in a row

abbrev pub LeavesEach : List ℕ → List TapeNode → Instructions → List TapeNode → ℕ → Type 0
LeavesEach bytes nodes members left count =
    (es : Elements) → HaveRangesIn es → SayAll bytes (marks_in_elements es) nodes → elements_fit members es ≡ true
    → (fs : Elements) × SayAll bytes (marks_in_elements fs) left × HaveRangesIn fs × (elements_fit members fs ≡ true) × (element_count es ≡ count + element_count fs)

pub leaves_each : (bytes : List ℕ) (nodes : List TapeNode) (members : Instructions) → LeavesEach bytes nodes members nodes 0
leaves_each bytes nodes members es ranges says fits = (es, says, ranges, fits, omega arith)

-- the first element of some, in these nodes
abbrev FirstElement : List ℕ → Instructions → TapeNode → List TapeNode → ℕ → ℕ → Type 0
FirstElement bytes members first behind total count =
    (ns : Items) × (gs : Elements) × (first ≡ long_node element_kind first.instruction 0 (length (marks_in ns))) × SayAll bytes (marks_in ns) (take (length (marks_in ns)) behind) × SayAll bytes (marks_in_elements gs) (drop (length (marks_in ns)) behind)
    × HaveRanges ns × HaveRangesIn gs × (items_fit members ns ≡ true) × (elements_fit members gs ≡ true) × (total ≡ count + (1 + element_count gs))

first_element : (bytes : List ℕ) (members : Instructions) (first : TapeNode) (behind : List TapeNode) (total count : ℕ)
    → (fs : Elements) × SayAll bytes (marks_in_elements fs) (first ∷ behind) × HaveRangesIn fs × (elements_fit members fs ≡ true) × (total ≡ count + element_count fs) → FirstElement bytes members first behind total count
first_element bytes members first behind total count (no_elements, a, b, c, d) = absurd a
first_element bytes members first behind total count (then_element ns gs, a, b, c, d) =
    let t = says_split bytes (marks_in ns) (marks_in_elements gs) behind a.1 in
    let f = and_both (items_fit members ns) (elements_fit members gs) c in
    (ns, gs, a.0, t.0, t.1, b.0, b.1, f.0, f.1, d)

header_length : (first : TapeNode) (kind a b m n : ℕ) → first ≡ long_node kind first.instruction a m → first ≡ long_node kind first.instruction b n → m ≡ n
header_length first kind a b m n h k = ap (λ (x : TapeNode). x.length) (sym h ∙ k)

-- an element was read: the rest is left
pub leaves_element : (bytes : List ℕ) (nodes : List TapeNode) (members : Instructions) (first : TapeNode) (behind : List TapeNode) (own count : ℕ) → LeavesEach bytes nodes members (first ∷ behind) count → first ≡ long_node element_kind first.instruction first.number own
    → LeavesEach bytes nodes members (drop own behind) (count + 1)
leaves_element bytes nodes members first behind own count leaves header es ranges says fits =
    let f = first_element bytes members first behind (element_count es) count (leaves es ranges says fits) in
    let long : length (marks_in f.0) ≡ own = header_length first element_kind 0 first.number (length (marks_in f.0)) own f.2 header in
    (f.1, subst (λ k. SayAll bytes (marks_in_elements f.1) (drop k behind)) long f.4, f.6, f.8, omega (arith, f.9))

-- no element of the shape is there
pub unfit_element : (bytes : List ℕ) (nodes : List TapeNode) (members : Instructions) (first : TapeNode) (behind own : List TapeNode) (count : ℕ) → LeavesEach bytes nodes members (first ∷ behind) count → first ≡ long_node element_kind first.instruction first.number (length own)
    → own ≡ take (length own) behind → UnfitAll bytes own members → UnfitEach bytes nodes members
unfit_element bytes nodes members first behind own count leaves header own_is unfit es ranges says = is_false (elements_fit members es) (λ fits.
    let f = first_element bytes members first behind (element_count es) count (leaves es ranges says fits) in
    let long : length (marks_in f.0) ≡ length own = header_length first element_kind 0 first.number (length (marks_in f.0)) (length own) f.2 header in
    let there : SayAll bytes (marks_in f.0) own = subst (λ l. SayAll bytes (marks_in f.0) l) (ap (λ k. take k behind) long ∙ sym own_is) f.3 in
    let never = unfit f.0 f.5 there in
    let yes = f.7 in cc)

pub unfit_header : (bytes : List ℕ) (nodes : List TapeNode) (members : Instructions) (first : TapeNode) (behind : List TapeNode) (count : ℕ) → LeavesEach bytes nodes members (first ∷ behind) count
    → ((own b : List TapeNode) → first ≡ long_node element_kind first.instruction 0 (length own) → behind ≡ own ++ b → ⊥) → UnfitEach bytes nodes members
unfit_header bytes nodes members first behind count leaves none es ranges says = is_false (elements_fit members es) (λ fits.
    let f = first_element bytes members first behind (element_count es) count (leaves es ranges says fits) in
    let k = length (marks_in f.0) in
    let own = take k behind in
    let long : length own ≡ k = as_many bytes (marks_in f.0) own f.3 in
    none own (drop k behind) (f.2 ∙ ap (λ n. long_node element_kind first.instruction 0 n) (sym long)) (sym (take-append-drop k behind)))

pub so_many : (bytes : List ℕ) (nodes : List TapeNode) (members : Instructions) (count : ℕ) → LeavesEach bytes nodes members [] count → AreSoMany bytes nodes members count
so_many bytes nodes members count leaves es ranges says fits = go (leaves es ranges says fits)
  where
    go : (fs : Elements) × SayAll bytes (marks_in_elements fs) [] × HaveRangesIn fs × (elements_fit members fs ≡ true) × (element_count es ≡ count + element_count fs) → element_count es ≡ count
    go (no_elements, a, b, c, d) = omega (arith, d)
    go (then_element ns gs, a, b, c, d) = absurd a

-- ---- what was read so far

pub items_more : (done : List Item) (n : Item) → marks_in (items_of (done ++ n ∷ [])) ≡ marks_in (items_of done) ++ marks_of n
items_more [] n = append-nil (marks_of n)
items_more (i ∷ done) n = ap (λ ms. marks_of i ++ ms) (items_more done n) ∙ sym (append_assoc (marks_of i) (marks_in (items_of done)) (marks_of n))

pub elements_more : (done : List Items) (ns : Items) → marks_in_elements (elements_of (done ++ ns ∷ [])) ≡ marks_in_elements (elements_of done) ++ segment of_element (marks_in ns)
elements_more [] ns = append-nil (segment of_element (marks_in ns))
elements_more (e ∷ done) ns = ap (λ ms. segment of_element (marks_in e) ++ ms) (elements_more done ns) ∙ sym (append_assoc (segment of_element (marks_in e)) (marks_in_elements (elements_of done)) (segment of_element (marks_in ns)))

pub count_elements : (es : List Items) → element_count (elements_of es) ≡ length es
count_elements [] = refl
count_elements (e ∷ es) = let h = count_elements es in omega (arith, h)

pub says_behind : (bytes : List ℕ) (ms ks : List Mark) (nodes : List TapeNode) (at more : ℕ) → SayAll bytes ms (take at nodes) → SayAll bytes ks (take more (drop at nodes)) → SayAll bytes (ms ++ ks) (take (at + more) nodes)
says_behind bytes ms ks nodes at more a b = subst (λ l. SayAll bytes (ms ++ ks) l) (sym (take-add at more nodes)) (say_both bytes ms ks (take at nodes) (take more (drop at nodes)) a b)

-- an element behind its header
pub says_element : (bytes : List ℕ) (first : TapeNode) (behind own : List TapeNode) (ms : List Mark) → first ≡ long_node element_kind first.instruction 0 (length own) → own ≡ take (length own) behind → SayAll bytes ms own → SayAll bytes (segment of_element ms) (take (length own + 1) (first ∷ behind))
says_element bytes first behind own ms header own_is says =
    subst (λ l. SayAll bytes (segment of_element ms) l) (sym (take_own first behind own own_is))
    (header ∙ ap (λ k. long_node element_kind first.instruction 0 k) (as_many bytes ms own says), says)

pub all_left : (nodes : List TapeNode) (at : ℕ) → take (length nodes - at) (drop at nodes) ≡ drop at nodes
all_left nodes at = take_all (length nodes - at) (drop at nodes) (omega (arith, length-drop at nodes))

pub drop_own : (first : TapeNode) (behind nodes : List TapeNode) (at own : ℕ) → drop at nodes ≡ first ∷ behind → drop own behind ≡ drop (at + (own + 1)) nodes
drop_own first behind nodes at own split =
    let more : own + 1 ≡ suc own = omega arith in
    sym (sym (drop-drop (own + 1) at nodes) ∙ ap (λ l. drop (own + 1) l) split ∙ ap (λ n. drop n (first ∷ behind)) more)

none_there : (xs : List TapeNode) → length xs ≡ 0 → xs ≡ []
none_there [] h = refl
none_there (x ∷ xs) h = absurd (omega (arith, h))

pub none_left : (nodes : List TapeNode) (at : ℕ) → length (take (length nodes - at) (drop at nodes)) ≡ 0 → drop at nodes ≡ []
none_left nodes at h = none_there (drop at nodes) (ap (λ (l : List TapeNode). length l) (sym (all_left nodes at)) ∙ h)
