-- What has been received of a message is told, call by call.
use Rattle.fast_show.proofs.Common.{◌≡◌, ℕ, Bool, true, false, List, [], ◌∷◌, ◌++◌, Option, Some, None, option_map, refl, sym, ap, ap₂, subst, ◌∙◌, append_assoc, append-nil, ℤ, codes, find, I32, Decimal, Presence, Optional, FieldPart, Instructions, Resolved, TemplateList, field_in_parts, group_of, sequence_of, no_instructions, then_instruction, is_optional, Instruction, has_id, single, Items, items_of, Content, Item, elements_of, no_elements, sequence_elements, then_item, members_of, fewer, Sequel, Inside, in_group, in_sequence, Waiting, Next, at_instruction, at_mantissa, at_element, Body, items_before, Received, passed, entered, after_exponent, after_length, in_element, after_sequence, ended_in, content_received, bytes_in, moved, Form, ending, head_text, is_led, label_text, lead, between, absent_text, decimal_text, joined, members_text, elements_text, label, node_text, elements_before-end, items_before-more}
use Rattle.fast_show.specs.Told.{HasLines, HasTold, Waits, IsTold, line_as, line_of_set, lines_of_set, Line, Opening, Tells, IsTop, IsBehind, Within, message_opening, name_if, Puts, Said, behind_text, whole_text}
use Rattle.fast_show.proofs.Telling.{body_is, bracket_behind, item_told, joined_behind, within_on, within_push, Inner, begun, element_waits, ended, group_waits, new_segment, segment_left}

abbrev message_of : Form → Received → Opening
message_of form o = message_opening form o.set o.template o.members

-- what is innermost goes on, whatever is open around it
on_top : {form : Form} {out : List ℕ} {own : TemplateList} {z y : ℤ} {l k : Line} {o : Received} {next after : Next} {b : Body}
    → o.next ≡ next → ((g : Opening) → IsTop form z next g l o.body → IsTop form y after g k b)
    → HasTold form out own z l o → HasTold form out own y k (moved o after b o.around)
on_top {form} {z = z} {y} {l} {k} {o} {next} {after} {b} is f has = record {
  before = has.before;
  inside = within_on form (message_of form o) o.around (λ g. IsTop form z next g l o.body) (λ g. IsTop form y after g k b) f (rw is at has.inside);
}

-- ---- fields

-- an item behind its label
pub has_said : {form : Form} {out : List ℕ} {own : TemplateList} {z : ℤ} {l k : Line} {name : List ℕ} {o : Received} {is : Instructions} (i : Instruction) (n : Item)
    → o.next ≡ at_instruction → o.body.rest ≡ then_instruction i is
    → label form i ≡ label_text form name → Said form name (node_text form i n) l k → HasTold form out own z l o → HasTold form out own z k (passed o is n)
has_said {form} {l = l} {k} {o = o} {is} i n next first named s = on_top next
    (λ g t. item_told form g l k i is o.body.done n s.text s.there (rw named s.told) s.led (body_is form g l o.body _ first t))

-- behind the label of a decimal
pub has_exponent : {form : Form} {out : List ℕ} {own : TemplateList} {z y e : ℤ} {l k : Line} {o : Received} {name : List ℕ} {number : ℕ} {presence : Presence} {p q : FieldPart} {is : Instructions}
    → o.next ≡ at_instruction → o.body.rest ≡ then_instruction (field_in_parts name number presence p q) is
    → Puts (lead form l.led ++ label_text form name) true l k → y ≡ e
    → HasTold form out own z l o → HasTold form out own y k (after_exponent o is q (Some (I32 e)))
has_exponent {form} {e = e} {l} {k} {o} {name} {is = is} next first put same = on_top next (λ g t. (
  same,
  record {
    led = put.led_is;
    so_far = λ m ns.
        let r = members_text form (between form) is ns in
        let text = decimal_text m e in
        (body_is form g l o.body _ first t).so_far (then_item (single (Some (Decimal e m))) ns)
        ∙ joined_behind l.text ((lead form l.led ++ label_text form name) ++ text) r
        ∙ ap (λ x. behind_text x r) (sym (append_assoc l.text (lead form l.led ++ label_text form name) text) ∙ ap (λ x. x ++ text) (sym put.told))
        ∙ sym (joined_behind k.text text r);
  },
))

pub has_mantissa : {form : Form} {out : List ℕ} {own : TemplateList} {z e : ℤ} {l k : Line} {o : Received} {q : FieldPart} (m : ℤ)
    → o.next ≡ at_mantissa e q → k.text ≡ l.text ++ decimal_text m z → k.led ≡ l.led
    → HasTold form out own z l o → HasTold form out own z k (passed o o.body.rest (single (Some (Decimal e m))))
has_mantissa {form} {e = e} {l} {o = o} m next told led = on_top next (λ g t. record {
  so_far = λ ns.
      let r = members_text form (between form) o.body.rest ns in
      ap (whole_text form g) (items_before-more o.body.done (single (Some (Decimal e m))) ns) ∙ t.1.so_far m ns ∙ joined_behind l.text (decimal_text m e) r
      ∙ rw (told, t.0, led, t.1.led) refl;
})

pub has_length : {form : Form} {out : List ℕ} {own : TemplateList} {z : ℤ} {l k : Line} {o : Received} {name : List ℕ} {number : ℕ} {presence : Presence} {p : FieldPart} {members is : Instructions} (n : ℕ)
    → o.next ≡ at_instruction → o.body.rest ≡ then_instruction (sequence_of name number presence p members) is
    → Puts ((lead form l.led ++ label_text form name) ++ codes "[") false l k
    → HasTold form out own z l o → HasTold form out own z k (after_length o number members is (Some n))
has_length {form} {l = l} {o = o} {name} {number} {presence} {p} {members} {is} n next first put = on_top next (λ g t. record {
  so_far = λ es ns.
      (body_is form g l o.body _ first t).so_far (then_item (sequence_elements es) ns)
      ∙ bracket_behind form l.text (lead form l.led) (sequence_of name number presence p members) (elements_text form (λ ns. members_text form [] members ns) [] es) (members_text form (between form) is ns)
      ∙ rw (put.told, put.led_is) refl;
})

-- ---- segments

pub has_left_out : {form : Form} {out : List ℕ} {own : TemplateList} {z : ℤ} {l k : Line} {o : Received} {name : List ℕ} {number : ℕ} {presence : Presence} {members is : Instructions}
    → o.next ≡ at_instruction → o.body.rest ≡ then_instruction (group_of name number presence members) is → is_optional presence ≡ true → Said form name (absent_text form Optional) l k
    → HasTold form out own z l o → HasTold form out own z k (passed o is (single None))
has_left_out {name = name} {number} {presence = Optional} {members} next first optional s = has_said (group_of name number Optional members) (single None) next first refl s
has_left_out next first optional s = absurd cc

-- in a segment that has just begun
has_inner : {form : Form} {out : List ℕ} {own : TemplateList} {z : ℤ} {l k : Line} {o : Received} {next : Next} (w : Waiting) (members : Instructions)
    → o.next ≡ next → k.led ≡ false → ((g : Opening) → IsTop form z next g l o.body → Waits form g w (begun k members))
    → HasTold form out own z l o → HasTold form out own z k (moved o at_instruction (record { rest = members; done = [] }) (o.around ++ w ∷ []))
has_inner {form} {z = z} {l} {k} {o} {next} w members is led waits has =
    let J : Opening → Type 0 = λ h. Tells form h k (record { rest = members; done = [] }) in
    record {
      before = has.before;
      inside = within_push form (message_of form o) o.around w J
          (within_on form (message_of form o) o.around (λ g. IsTop form z next g l o.body) (Inner form w J) (λ h t. (begun k members, waits h t, new_segment form k members led)) (rw is at has.inside));
    }

pub has_entered : {form : Form} {out : List ℕ} {own : TemplateList} {z : ℤ} {l k : Line} {o : Received} {name : List ℕ} {number : ℕ} {presence : Presence} {members is : Instructions} (bits : List Bool)
    → o.next ≡ at_instruction → o.body.rest ≡ then_instruction (group_of name number presence members) is
    → Puts ((lead form l.led ++ label_text form name) ++ codes "{") false l k
    → HasTold form out own z l o → HasTold form out own z k (entered o number bits members is)
has_entered {form} {l = l} {k} {o} {name} {number} {presence} {members} {is} bits next first put =
    has_inner (record { bits = bits; number = number; body = record { rest = is; done = o.body.done }; inside = in_group }) members next put.led_is
    (λ g t. group_waits form g l k o.body name number presence members is bits first put.told t)

pub has_element : {form : Form} {out : List ℕ} {own : TemplateList} {z : ℤ} {l k : Line} {o : Received} {s : Sequel} (bits : List Bool)
    → o.next ≡ at_element s → Puts (lead form l.led ++ codes "{") false l k
    → HasTold form out own z l o → HasTold form out own z k (in_element o bits s)
has_element {form} {l = l} {k} {o} {s} bits next put =
    has_inner (record { bits = bits; number = s.number; body = o.body; inside = in_sequence (fewer s) }) s.members next put.led_is (λ g t. element_waits form g l k o.body s bits put.told t)

ends_in : {form : Form} {out : List ℕ} {own : TemplateList} {z : ℤ} {k : Line} (o : Received) (inside : Inside) (ws : List Waiting) (w : Waiting) → HasLines form out own o.set o.before
    → Within form (message_of form o) ws (λ h. IsBehind form inside h k w.body (items_of o.body.done)) → HasTold form out own z k (ended_in o ws w.body inside)
ends_in o in_group ws w before c = record { before = before; inside = c }
ends_in o (in_sequence s) ws w before c = record { before = before; inside = c }

pub has_ended : {form : Form} {out : List ℕ} {own : TemplateList} {z : ℤ} {l k : Line} {o : Received} {inside : Inside} (ws : List Waiting) (w : Waiting)
    → o.next ≡ at_instruction → o.body.rest ≡ no_instructions → o.around ≡ ws ++ w ∷ [] → w.inside ≡ inside → Puts (codes "}") true l k
    → HasTold form out own z l o → HasTold form out own z k (ended_in o ws w.body inside)
has_ended {form} {l = l} {k} {o} {inside} ws w next rest is inside_is put has =
    ends_in o inside ws w has.before
    (subst (λ (n : Inside). Within form (message_of form o) ws (λ h. IsBehind form n h k w.body (items_of o.body.done))) inside_is
    (segment_left form (message_of form o) o.around ws w l k o.body rest is put.told put.led_is (rw next at has.inside)))

pub has_elements : {form : Form} {out : List ℕ} {own : TemplateList} {z : ℤ} {l k : Line} {o : Received} {s : Sequel} → o.next ≡ at_element s → Puts (codes "]") true l k
    → HasTold form out own z l o → HasTold form out own z k (after_sequence o s)
has_elements {form} {l = l} {o = o} {s} next put = on_top next (λ g t. record {
  so_far = λ ns.
      let r = members_text form (between form) o.body.rest ns in
      ap (whole_text form g) (items_before-more o.body.done (sequence_elements (elements_of s.done)) ns)
      ∙ ap (λ x. whole_text form g (items_before o.body.done (then_item (sequence_elements x) ns))) (sym (elements_before-end s.done))
      ∙ t.so_far no_elements ns ∙ joined_behind l.text (codes "]") r ∙ rw (put.told, put.led_is) refl;
})

-- ---- messages

-- where two texts are there, each is
pub joined_parts : (p q : Option (List ℕ)) (c : List ℕ) → joined p q ≡ Some c → (a : List ℕ) × (b : List ℕ) × (p ≡ Some a) × (q ≡ Some b) × (c ≡ a ++ b)
joined_parts (Some a) (Some b) c e = (a, b, refl, refl, (let same : a ++ b ≡ c = cc in sym same))
joined_parts (Some a) None c e = absurd cc
joined_parts None (Some b) c e = absurd cc
joined_parts None None c e = absurd cc

none_is : (a : List ℕ) → Some [] ≡ Some a → [] ≡ a
none_is a e = cc

lines_more : (form : Form) (set : List Resolved) (ms : List Content) (m : Content) (a line : List ℕ) → lines_of_set form set ms ≡ Some a → line_of_set form set m ≡ Some line → lines_of_set form set (ms ++ m ∷ []) ≡ Some (a ++ line)
lines_more form set [] m a line e f = ap (λ (o : Option (List ℕ)). joined o (Some [])) f ∙ ap Some (append-nil line ∙ ap (λ (x : List ℕ). x ++ line) (none_is a e))
lines_more form set (n ∷ ms) m a line e f =
    let p = joined_parts (line_of_set form set n) (lines_of_set form set ms) a e in
    ap₂ joined p.2 (lines_more form set ms m p.1 line p.3 f) ∙ ap Some (sym (append_assoc p.0 p.1 line) ∙ ap (λ (x : List ℕ). x ++ line) (sym p.4))

told_more : (form : Form) (set : List Resolved) (ms : List Content) (m : Content) (out line : List ℕ) → IsTold form out set ms → line_of_set form set m ≡ Some line → IsTold form (out ++ line) set (ms ++ m ∷ [])
told_more form set [] m out line h e = absurd h
told_more form set (n ∷ ms) m out line h e = lines_more form set ms m (bytes_in n.items ++ out) line h e ∙ ap Some (append_assoc (bytes_in n.items) out line)

alone : (form : Form) (g : Opening) (ws : List Waiting) (I : Opening → Type 0) → ws ≡ [] → Within form g ws I → I g
alone form g [] I h c = c
alone form g (w ∷ ws) I h c = absurd cc

line_told : (form : Form) (o : Option Resolved) (id : ℕ) (members : Instructions) (items : Items) (text whole : List ℕ) → option_map (λ t. t.members) o ≡ Some members → members_text form (lead form (is_led form)) members items ≡ Some text
    → whole ≡ head_text form id (name_if o) ++ text → line_as form o (record { template = id; items = items }) ≡ Some (whole ++ ending form)
line_told form None id members items text whole known e is = absurd cc
line_told form (Some t) id members items text whole known e is =
    let same : t.members ≡ members = cc in
    ap (option_map (λ x. head_text form id t.name ++ x ++ ending form)) (ap (λ (i : Instructions). members_text form (lead form (is_led form)) i items) same ∙ e)
    ∙ ap (λ x. Some (x ++ ending form)) (sym is)

pub has_finished : {form : Form} {out : List ℕ} {own : TemplateList} {z : ℤ} {l : Line} {o : Received} {new : List ℕ}
    → o.next ≡ at_instruction → o.body.rest ≡ no_instructions → o.around ≡ [] → members_of o.set o.template ≡ Some o.members
    → new ≡ out ++ (l.text ++ ending form) → HasTold form out own z l o → IsTold form new o.set (o.before ++ content_received o ∷ [])
has_finished {form} {out} {l = l} {o} next rest none known end has =
    let t = alone form (message_of form o) o.around (λ g. Tells form g l o.body) none (rw next at has.inside) in
    let x = ended form (message_of form o) l o.body rest t in
    rw (end)
    (told_more form o.set o.before (content_received o) out (l.text ++ ending form) has.before.0
    (line_told form (find (λ t. has_id o.template t.id) o.set) o.template o.members (items_of o.body.done) x.0 l.text known x.1 x.2))
