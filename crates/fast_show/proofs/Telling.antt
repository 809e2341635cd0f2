-- What is told stays so, piece by piece.
use Rattle.fast_show.proofs.Common.{◌≡◌, ℕ, Bool, true, false, List, [], ◌∷◌, ◌++◌, Option, Some, None, option_map, refl, sym, ap, subst, ◌∙◌, append_assoc, append-nil, codes, Presence, Instruction, Instructions, group_of, no_instructions, then_instruction, Item, group_items, sequence_elements, no_items, then_item, items_of, then_element, items_before, Body, Sequel, in_group, in_sequence, Waiting, fewer, items_before-more, items_before-end, elements_before-more, Form, between, label_text, lead, braced, bracketed, elements_text, joined, label, labelled, members_text, node_text, Line, behind_text, Opening, whole_text, Tells, TellsElements, IsBehind, behind_brace, Waits, Within}

-- ---- texts

-- the first text of those joined stands with what is in front of it
pub joined_behind : (x a : List ℕ) (r : Option (List ℕ)) → behind_text x (joined (Some a) r) ≡ behind_text (x ++ a) r
joined_behind x a None = refl
joined_behind x a (Some b) = ap Some (sym (append_assoc x a b))

-- what stands behind a text
pub text_behind : (before : List ℕ) (o : Option (List ℕ)) (after : List ℕ) → behind_text before o ≡ Some after → (text : List ℕ) × (o ≡ Some text) × (after ≡ before ++ text)
text_behind before (Some t) after e = (t, refl, (let same : before ++ t ≡ after = cc in sym same))
text_behind before None after e = absurd cc

-- ---- one item more

-- an item whose text is put behind what was written
pub item_told : (form : Form) (g : Opening) (l k : Line) (i : Instruction) (is : Instructions) (done : List Item) (n : Item) (text : List ℕ)
    → node_text form i n ≡ Some text → k.text ≡ l.text ++ ((lead form l.led ++ label form i) ++ text) → k.led ≡ true
    → Tells form g l (record { rest = then_instruction i is; done = done }) → Tells form g k (record { rest = is; done = done ++ n ∷ [] })
item_told form g l k i is done n text there told led t = record {
  so_far = λ ns.
      ap (whole_text form g) (items_before-more done n ns) ∙ t.so_far (then_item n ns)
      ∙ ap (λ o. behind_text l.text (joined (labelled form (lead form l.led) i o) (members_text form (between form) is ns))) there
      ∙ joined_behind l.text ((lead form l.led ++ label form i) ++ text) (members_text form (between form) is ns)
      ∙ rw (told, led) refl;
}

pub body_is : (form : Form) (g : Opening) (l : Line) (b : Body) (is : Instructions) → b.rest ≡ is → Tells form g l b → Tells form g l (record { rest = is; done = b.done })
body_is form g l b is h t = rw (sym h) t

-- ---- the segments around

pub within_on : (form : Form) (g : Opening) (ws : List Waiting) (I J : Opening → Type 0) → ((h : Opening) → I h → J h) → Within form g ws I → Within form g ws J
within_on form g [] I J f c = f g c
within_on form g (w ∷ ws) I J f c = (c.0, c.1, within_on form c.0 ws I J f c.2)

abbrev pub Inner : Form → Waiting → (Opening → Type 0) → Opening → Type 0
Inner form w J g = (h : Opening) × Waits form g w h × J h

pub within_push : (form : Form) (g : Opening) (ws : List Waiting) (w : Waiting) (J : Opening → Type 0) → Within form g ws (Inner form w J) → Within form g (ws ++ w ∷ []) J
within_push form g [] w J c = c
within_push form g (v ∷ ws) w J c = (c.0, c.1, within_push form c.0 ws w J c.2)

pub within_pop : (form : Form) (g : Opening) (ws : List Waiting) (w : Waiting) (J : Opening → Type 0) → Within form g (ws ++ w ∷ []) J → Within form g ws (Inner form w J)
within_pop form g [] w J c = c
within_pop form g (v ∷ ws) w J c = (c.0, c.1, within_pop form c.0 ws w J c.2)

-- ---- groups

-- what is written of a segment that has just begun
abbrev pub begun : Line → Instructions → Opening
begun k members = record { start = k.text; led = false; members = members }

pub new_segment : (form : Form) (k : Line) (members : Instructions) → k.led ≡ false → Tells form (begun k members) k (record { rest = members; done = [] })
new_segment form k members led = record { so_far = λ ns. rw (led) refl }

-- a text in braces, behind a label or a space
in_braces : (x a t : List ℕ) → (x ++ (a ++ codes "{")) ++ (t ++ codes "}") ≡ x ++ (a ++ (codes "{" ++ t ++ codes "}"))
in_braces x a t = append_assoc x (a ++ codes "{") (t ++ codes "}") ∙ ap (λ y. x ++ y) (append_assoc a (codes "{") (t ++ codes "}"))

pub group_waits : (form : Form) (g : Opening) (l k : Line) (b : Body) (name : List ℕ) (number : ℕ) (presence : Presence) (members is : Instructions) (bits : List Bool)
    → b.rest ≡ then_instruction (group_of name number presence members) is → k.text ≡ l.text ++ ((lead form l.led ++ label_text form name) ++ codes "{")
    → Tells form g l b → Waits form g (record { bits = bits; number = number; body = record { rest = is; done = b.done }; inside = in_group }) (begun k members)
group_waits form g l k b name number presence members is bits first told t ns text there =
    item_told form g l (behind_brace k.text text) (group_of name number presence members) is b.done (group_items ns) (codes "{" ++ text ++ codes "}") (ap braced there)
    (ap (λ x. x ++ (text ++ codes "}")) told ∙ in_braces l.text (lead form l.led ++ label_text form name) text) refl (body_is form g l b _ first t)

-- ---- the end of a segment

-- the whole text of a segment that has ended
pub ended : (form : Form) (g : Opening) (l : Line) (b : Body) → b.rest ≡ no_instructions → Tells form g l b
    → (text : List ℕ) × (members_text form (lead form g.led) g.members (items_of b.done) ≡ Some text) × (l.text ≡ g.start ++ text)
ended form g l b rest t =
    let e = ap (whole_text form g) (sym (items_before-end b.done)) ∙ (body_is form g l b no_instructions rest t).so_far no_items in
    let x = text_behind g.start (members_text form (lead form g.led) g.members (items_of b.done)) (l.text ++ []) e in
    (x.0, x.1, sym (append-nil l.text) ∙ x.2)

-- behind a segment, in the one that waited for it
pub segment_left : (form : Form) (g : Opening) (us ws : List Waiting) (w : Waiting) (l k : Line) (b : Body)
    → b.rest ≡ no_instructions → us ≡ ws ++ w ∷ [] → k.text ≡ l.text ++ codes "}" → k.led ≡ true
    → Within form g us (λ h. Tells form h l b) → Within form g ws (λ h. IsBehind form w.inside h k w.body (items_of b.done))
segment_left form g us ws w l k b rest is told led c =
    within_on form g ws (Inner form w (λ h. Tells form h l b)) (λ h. IsBehind form w.inside h k w.body (items_of b.done)) (λ h t.
    let x = ended form t.0 l b rest t.2 in
    subst (λ (m : Line). IsBehind form w.inside h m w.body (items_of b.done)) (sym (line_is k t.0.start x.0 (told ∙ ap (λ y. y ++ codes "}") x.2 ∙ append_assoc t.0.start x.0 (codes "}")) led)) (t.1 (items_of b.done) x.0 x.1))
    (within_pop form g ws w (λ h. Tells form h l b) (rw is at c))
  where
    line_is : (m : Line) (start text : List ℕ) → m.text ≡ start ++ (text ++ codes "}") → m.led ≡ true → m ≡ behind_brace start text
    line_is m start text e f = made m.text (start ++ (text ++ codes "}")) m.led true e f
      where
        made : (x y : List ℕ) (p q : Bool) → x ≡ y → p ≡ q → ◌≡◌ {A = Line} (record { text = x; led = p }) (record { text = y; led = q })
        made x y p q e f = rw (e, f) refl

-- ---- sequences

-- a text behind a bracket, with the rest
pub bracket_behind : (form : Form) (x a : List ℕ) (i : Instruction) (o r : Option (List ℕ))
    → behind_text x (joined (labelled form a i (bracketed o)) r) ≡ behind_text (x ++ ((a ++ label form i) ++ codes "[")) (joined (option_map (λ t. t ++ codes "]") o) r)
bracket_behind form x a i None None = refl
bracket_behind form x a i None (Some u) = refl
bracket_behind form x a i (Some t) None = refl
bracket_behind form x a i (Some t) (Some u) =
    let l = a ++ label form i in
    let v = (t ++ codes "]") ++ u in
    ap Some
    (ap (λ y. x ++ y) (append_assoc l (codes "[" ++ t ++ codes "]") u)
    ∙ sym (append_assoc x (l ++ codes "[") v ∙ ap (λ y. x ++ y) (append_assoc l (codes "[") v)))

-- the text of one element, and of those behind it
element_behind : (x a t : List ℕ) (o r : Option (List ℕ))
    → behind_text x (joined (option_map (λ y. y ++ codes "]") (joined (option_map (λ y. a ++ y) (braced (Some t))) o)) r)
    ≡ behind_text ((x ++ (a ++ codes "{")) ++ (t ++ codes "}")) (joined (option_map (λ y. y ++ codes "]") o) r)
element_behind x a t None None = refl
element_behind x a t None (Some u) = refl
element_behind x a t (Some s) None = refl
element_behind x a t (Some s) (Some u) =
    let e = a ++ (codes "{" ++ t ++ codes "}") in
    ap Some
    (ap (λ y. x ++ y) (ap (λ y. y ++ u) (append_assoc e s (codes "]")) ∙ append_assoc e (s ++ codes "]") u)
    ∙ sym (append_assoc x e ((s ++ codes "]") ++ u))
    ∙ ap (λ y. y ++ ((s ++ codes "]") ++ u)) (sym (append_assoc x (a ++ codes "{") (t ++ codes "}") ∙ ap (λ y. x ++ y) (append_assoc a (codes "{") (t ++ codes "}")))))

pub element_waits : (form : Form) (g : Opening) (l k : Line) (b : Body) (s : Sequel) (bits : List Bool) → k.text ≡ l.text ++ (lead form l.led ++ codes "{")
    → TellsElements form g l b s → Waits form g (record { bits = bits; number = s.number; body = b; inside = in_sequence (fewer s) }) (begun k s.members)
element_waits form g l k b s bits told t ns text there = record {
  so_far = λ es more.
      let o = elements_text form (λ ns. members_text form [] s.members ns) (between form) es in
      let r = members_text form (between form) b.rest more in
      ap (λ x. whole_text form g (items_before b.done (then_item (sequence_elements x) more))) (elements_before-more s.done ns es)
      ∙ t.so_far (then_element ns es) more
      ∙ ap (λ x. behind_text l.text (joined (option_map (λ y. y ++ codes "]") (joined (option_map (λ y. lead form l.led ++ y) (braced x)) o)) r)) there
      ∙ element_behind l.text (lead form l.led) text o r
      ∙ ap (λ x. behind_text (x ++ (text ++ codes "}")) (joined (option_map (λ y. y ++ codes "]") o) r)) (sym told);
}
