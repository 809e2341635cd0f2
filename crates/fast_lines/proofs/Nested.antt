-- Texts of lists of nodes, from their front on.
use Rattle.fast_lines.proofs.Common.{◌≡◌, ◌≢◌, ◌<◌, ◌+◌, ℕ, suc, List, [], ◌∷◌, ◌++◌, Option, Some, None, length, drop, get_or, map, Result, Ok, Err, refl, sym, ap, ◌∙◌, codes, append-nil, drop_more, Vec, Global, mapped, this, Flat, fold-roll-Flat, Flat-F, rolls-Sequence, FieldPart, Presence, Instruction, flat_step, instruction_of, list_of, Node, fold_out-Node, Sequence, outs-Sequence, Item, Items, sequence_elements, item_of, items_of, items_in, elements_of, node_step, Form, between, bracketed, elements_text, joined, member_text, members_text, node_text, sequence_text, Adds, Shows, ShowFault}
use Rattle.fast_template.specs.declared.resolved.Flat.TheVariants as flat
use Rattle.fast_lines.proofs.Written.{extends_by, joined_none, shows_err, shows_no_first, shows_then}

-- one list is longer than the other
pub lengths_differ : (form : Form) (before : List ℕ) (flats : List Flat) (nodes : List Node) → length nodes ≢ length flats → members_text form before (list_of flats) (items_in nodes) ≡ None
lengths_differ form before [] [] h = absurd (h refl)
lengths_differ form before [] (n ∷ ns) h = refl
lengths_differ form before (f ∷ fs) [] h = refl
lengths_differ form before (f ∷ fs) (n ∷ ns) h =
    ap (joined (member_text form before (instruction_of f) (item_of n))) (lengths_differ form (between form) fs ns (λ e. h (ap suc e)))
    ∙ joined_none (member_text form before (instruction_of f) (item_of n))

-- ---- steps of the two loops

pub next_of : {A : Type 0} (xs : List A) (at : ℕ) (x : A) → at < length xs → x ≡ get_or xs at x → drop at xs ≡ x ∷ drop (at + 1) xs
next_of xs at x inside is = drop_more xs at x inside ∙ ap (λ (y : _). y ∷ drop (at + 1) xs) (sym is)

-- From here on a text is left: what is answered of that is answered of all.
pub record Left (all rest : Option (List ℕ)) (old now : List ℕ) : Type 0 where
  pub on : (r : Result Unit ShowFault) (new : List ℕ) → Shows rest r now new → Shows all r old new

pub left_end : {all : Option (List ℕ)} {old now : List ℕ} → Left all (Some []) old now → Adds all old now
left_end {now = now} left = left.on (Ok tt) now (record { line = []; there = refl; appended = sym (append-nil now) })

pub left_next : {all s t : Option (List ℕ)} {old now new : List ℕ} → Left all (joined s t) old now → Adds s now new → Left all t old new
left_next {t = t} left x = record { on = λ r last h. left.on r last (shows_then t last r x h) }

pub left_stop : {all : Option (List ℕ)} (s t : Option (List ℕ)) {old now : List ℕ} (new : List ℕ) (e : ShowFault) → Left all (joined s t) old now → Shows s (Err e) now new → Shows all (Err e) old new
left_stop s t {now = now} new e left h = left.on (Err e) new (shows_no_first s t now new e h)

-- the texts of elements of instructions
abbrev pub texts : Form → List Flat → List ℕ → List (Vec Node) → Option (List ℕ)
texts form members lead es = elements_text form (λ ns. members_text form [] (list_of members) ns) lead (elements_of (map (λ v. items_in v.items) es))

-- ---- what the constructors of the program are

pub node_text-sequence : (form : Form) (name : List ℕ) (number : ℕ) (presence : Presence) (length : FieldPart) (members : Vec Flat) (n : Item)
    → node_text form (instruction_of (flat.Sequence name number presence length members)) n ≡ sequence_text form (λ ns. members_text form [] (list_of members.items) ns) presence n
node_text-sequence form name number presence length members n =
    ap (λ f. node_text form (instruction_of f) n) (sym (rolls-Sequence name number presence length members)) ∙ ap (λ i. node_text form i n) (fold-roll-Flat Instruction flat_step (Flat-F.Sequence name number presence length members))

pub shows_bracketed_err : (t : Option (List ℕ)) (a b c : List ℕ) (f : ShowFault) (r : Result Unit ShowFault) → r ≡ Err f → b ≡ a ++ codes "[" → Shows t (Err f) b c → Shows (bracketed t) r a c
shows_bracketed_err t a b c f r e x w = rw e (shows_err (λ s. codes "[" ++ s ++ codes "]") t a b c f (extends_by a b (codes "[") x) w)

-- ---- a sequence as contracts see it, with its elements seen

fused : (es : List (Vec Node)) → map (λ v. items_of v.items) (map (mapped {H = Global} ((this {0}).map Node Item item_of)) es) ≡ map (λ v. items_in v.items) es
fused [] = refl
fused (e ∷ es) = ap (λ (rest : List Items). items_in e.items ∷ rest) (fused es)

pub item_of-sequence : (es : Vec (Vec Node)) → item_of (Sequence es) ≡ sequence_elements (elements_of (map (λ v. items_in v.items) es.items))
item_of-sequence es = fold_out-Node Item node_step (Sequence es) ∙ rw (outs-Sequence es) (ap (λ (ns : List Items). sequence_elements (elements_of ns)) (fused es.items))
