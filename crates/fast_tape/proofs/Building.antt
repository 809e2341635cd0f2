-- What there is of an open message stays so, step by step.
use Rattle.std.proofs.Common.{◌≡◌, ◌<◌, ◌+◌, ◌-◌, ◌++◌, ◌∙◌, [], ◌∷◌, ℕ, ℤ, suc, Bool, List, Option, Some, length, arith, ap, ap₂, subst, sym, refl, append_assoc, append-nil}
use Rattle.std.specs.List.{flat_map}
use Rattle.std.proofs.lemmas.Grind.{flat_map-append}
use Rattle.std.proofs.lemmas.List.{length-append}
use Rattle.fast_value.specs.declared.scalar.Scalar.{Scalar}
use Rattle.fast_tape.specs.declared.node.TapeNode.{TapeNode}
use Rattle.fast_tape.specs.declared.open.OpenTape.{OpenTape}
use Rattle.fast_tape.specs.Moved.{with_length}
use Rattle.fast_stream.specs.Nodes.{items_of, elements_of, element_count, Item, Items, Content, single, group_items, sequence_elements}
use Rattle.fast_value.specs.declared.scalar.Scalar.TheVariants.{I32}
use Rattle.fast_template.specs.Resolved.{Instructions, Resolved}
use Rattle.fast_dictionary.specs.Dictionary.{Dictionary}
use Rattle.fast_template.specs.declared.resolved.FieldPart.{FieldPart}
use Rattle.fast_walk.specs.OpenSegments.{Waiting, in_group, in_sequence, Sequel, Next, at_instruction, at_mantissa, at_element, fewer}
use Rattle.fast_walk.specs.Received as received
use Rattle.fast_walk.specs.Received.{Received, content_received, moved, passed, entered, after_exponent, after_length, in_element, after_sequence, ended_in}
use Rattle.fast_tape.specs.Tapes.{Head, Mark, opens, tells, of_message, of_group, of_sequence, of_element, segment, marks_of, marks_in, marks_in_elements, marks_of_messages, long_node, Says, SayAll}
use Rattle.fast_tape.specs.Open.{Adds, Opens, Closes}
use Rattle.fast_tape.specs.Building.{marks_done, sequence_marks, inside_marks, next_marks, waiting_marks, body_marks, open_marks, inside_starts, next_starts, waiting_starts, open_starts, Holds, HasOpen}
use Rattle.fast_tape.proofs.Nodes.{as_many, say_all_more, say_both}

-- ---- nodes in two parts

record Split (bytes : List ℕ) (ms ks : List Mark) (ns : List TapeNode) : Type 0 where
  front : List TapeNode
  back : List TapeNode
  are : ns ≡ front ++ back
  says_front : SayAll bytes ms front
  says_back : SayAll bytes ks back

split_at : (bytes : List ℕ) (ms ks : List Mark) (ns : List TapeNode) → SayAll bytes (ms ++ ks) ns → Split bytes ms ks ns
split_at bytes [] ks ns h = record { front = []; back = ns; are = refl; says_front = tt; says_back = h }
split_at bytes (m ∷ ms) ks [] h = absurd h
split_at bytes (m ∷ ms) ks (n ∷ ns) h =
    let s = split_at bytes ms ks ns h.1 in
    record { front = n ∷ s.front; back = s.back; are = ap (λ xs. n ∷ xs) s.are; says_front = (h.0, s.says_front); says_back = s.says_back }

says_own : (bytes : List ℕ) (h : Head) (k : ℕ) (n : TapeNode) → Says bytes (opens h 0) n → Says bytes (opens h k) (with_length n k)
says_own bytes (of_message t) k n e = ap (λ m. with_length m k) e
says_own bytes of_group k n e = ap (λ m. with_length m k) e
says_own bytes (of_sequence c) k n e = ap (λ m. with_length m k) e
says_own bytes of_element k n e = ap (λ m. with_length m k) e

-- ---- the three steps, whatever is received

pub holds_as : {t : OpenTape} {marks ks : List Mark} {starts places : List ℕ} → marks ≡ ks → starts ≡ places → Holds t marks starts → Holds t ks places
holds_as {t} {marks} {ks} {starts} {places} e f h = record { says = subst (λ xs. SayAll t.tape.bytes.items xs t.tape.nodes.items) e h.says; starts_are = h.starts_are ∙ f }

pub added : {t u : OpenTape} {marks : List Mark} {starts : List ℕ} (m : Mark) → Adds m t u → Holds t marks starts → Holds u (marks ++ m ∷ []) starts
added {t} {u} {marks} {starts} m a h = record {
  says = rw (a.nodes) (say_both u.tape.bytes.items marks (m ∷ []) t.tape.nodes.items (a.node ∷ []) (rw (a.bytes) (say_all_more t.tape.bytes.items a.more marks t.tape.nodes.items h.says)) (a.says, tt));
  starts_are = a.starts ∙ h.starts_are;
}

pub opened : {t u : OpenTape} {marks : List Mark} {starts : List ℕ} (head : Head) → Opens head t u → Holds t marks starts → Holds u (marks ++ opens head 0 ∷ []) (starts ++ length marks ∷ [])
opened {t} {u} {marks} {starts} head a h = record {
  says = rw (a.nodes) (say_both u.tape.bytes.items marks (opens head 0 ∷ []) t.tape.nodes.items (a.node ∷ []) (rw (a.bytes) h.says) (a.says, tt));
  starts_are = a.starts ∙ ap₂ (λ xs k. xs ++ k ∷ []) h.starts_are (as_many t.tape.bytes.items marks t.tape.nodes.items h.says);
}

pub closed : {t u : OpenTape} {starts : List ℕ} (head : Head) (before own : List Mark) → Closes t u → Holds t (before ++ opens head 0 ∷ own) (starts ++ length before ∷ []) → Holds u (before ++ segment head own) starts
closed {t} {u} {starts} head before own c h =
    let s = split_at t.tape.bytes.items before (opens head 0 ∷ own) t.tape.nodes.items h.says in
    closed_at s.front s.back s.are s.says_front s.says_back
  where
    closed_at : (front back : List TapeNode) → t.tape.nodes.items ≡ front ++ back → SayAll t.tape.bytes.items before front → SayAll t.tape.bytes.items (opens head 0 ∷ own) back → Holds u (before ++ segment head own) starts
    closed_at front [] are first last = absurd last
    closed_at front (n ∷ ns) are first last =
        let many = as_many t.tape.bytes.items before front first in
        let few = as_many t.tape.bytes.items own ns last.1 in
        let now = c.nodes front ns n starts are (h.starts_are ∙ ap (λ k. starts ++ k ∷ []) (sym many)) in
        let says : Says t.tape.bytes.items (opens head (length own)) (with_length n (length ns)) = rw (few) (says_own t.tape.bytes.items head (length own) n last.0) in
        record {
          says = rw (now.0, c.bytes) (say_both t.tape.bytes.items before (segment head own) front (with_length n (length ns) ∷ ns) first (says, last.1));
          starts_are = now.1;
        }

-- ---- one more

pub done_more : (done : List Item) (n : Item) → marks_done (done ++ n ∷ []) ≡ marks_done done ++ marks_of n
done_more [] n = append-nil (marks_of n)
done_more (i ∷ done) n = ap (λ x. marks_of i ++ x) (done_more done n) ∙ sym (append_assoc (marks_of i) (marks_done done) (marks_of n))

pub elements_more : (done : List Items) (ns : Items) → marks_in_elements (elements_of (done ++ ns ∷ [])) ≡ marks_in_elements (elements_of done) ++ segment of_element (marks_in ns)
elements_more [] ns = append-nil (segment of_element (marks_in ns))
elements_more (e ∷ done) ns = ap (λ x. segment of_element (marks_in e) ++ x) (elements_more done ns) ∙ sym (append_assoc (segment of_element (marks_in e)) (marks_in_elements (elements_of done)) (segment of_element (marks_in ns)))

pub count_done : (done : List Items) → element_count (elements_of done) ≡ length done
count_done [] = refl
count_done (e ∷ done) = let h = count_done done in omega arith

waiting_more : (ws : List Waiting) (w : Waiting) → flat_map waiting_marks (ws ++ w ∷ []) ≡ flat_map waiting_marks ws ++ waiting_marks w
waiting_more ws w = flat_map-append waiting_marks ws (w ∷ []) ∙ ap (λ x. flat_map waiting_marks ws ++ x) (append-nil (waiting_marks w))

starts_more : (at : ℕ) (ws : List Waiting) (w : Waiting)
    → waiting_starts at (ws ++ w ∷ []) ≡ waiting_starts at ws ++ inside_starts (at + length (flat_map waiting_marks ws ++ marks_done w.body.done)) w.inside
starts_more at [] w = append-nil (inside_starts (at + length (marks_done w.body.done)) w.inside)
starts_more at (v ∷ ws) w =
    let front = inside_starts (at + length (marks_done v.body.done)) v.inside in
    let rest = flat_map waiting_marks ws ++ marks_done w.body.done in
    let e = length-append (waiting_marks v) rest in
    let same : (at + length (waiting_marks v)) + length rest ≡ at + length (waiting_marks v ++ rest) = omega arith in
    ap (λ x. front ++ x) (starts_more (at + length (waiting_marks v)) ws w)
    ∙ sym (append_assoc front (waiting_starts (at + length (waiting_marks v)) ws) (inside_starts ((at + length (waiting_marks v)) + length rest) w.inside))
    ∙ ap (λ k. (front ++ waiting_starts (at + length (waiting_marks v)) ws) ++ inside_starts k w.inside) (same ∙ ap (λ x. at + length x) (sym (append_assoc (waiting_marks v) (flat_map waiting_marks ws) (marks_done w.body.done))))

-- ---- where nothing but an instruction or a mantissa is next

abbrev pub IsQuiet : Next → Type 0
IsQuiet next = (next_marks next ≡ []) × ((at : ℕ) → next_starts at next ≡ [])

pub quiet_mantissa : {next : Next} (e : ℤ) (p : FieldPart) → next ≡ at_mantissa e p → IsQuiet next
quiet_mantissa e p h = (ap next_marks h, λ at. ap (next_starts at) h)

pub quiet : {next : Next} → next ≡ at_instruction → IsQuiet next
quiet h = (ap next_marks h, λ at. ap (next_starts at) h)

quiet_marks : (o : Received) → IsQuiet o.next → open_marks o ≡ opens (of_message o.template) 0 ∷ body_marks o
quiet_marks o q = ap (λ x. opens (of_message o.template) 0 ∷ (body_marks o ++ x)) q.0 ∙ ap (λ x. opens (of_message o.template) 0 ∷ x) (append-nil (body_marks o))

quiet_starts : (o : Received) → IsQuiet o.next → open_starts o ≡ 0 ∷ waiting_starts 1 o.around
quiet_starts o q = ap (λ x. 0 ∷ (waiting_starts 1 o.around ++ x)) (q.1 (1 + length (body_marks o))) ∙ ap (λ x. 0 ∷ x) (append-nil (waiting_starts 1 o.around))

-- in a body that has just begun inside another
abbrev in_body : Received → Waiting → Instructions → Received
in_body o w is = moved o at_instruction (record { rest = is; done = [] }) (o.around ++ w ∷ [])

none_and : (n : ℕ) → n ≡ 0 + n
none_and n = omega arith

add_one : (n : ℕ) → suc n ≡ 1 + n
add_one n = omega arith

sum_of : (a b : ℕ) → 1 + (a + b) ≡ (1 + a) + b
sum_of a b = omega arith

-- ---- steps

-- an item of one node
pub passed_marks : (o : Received) (is : Instructions) (n : Item) → IsQuiet o.next → open_marks (passed o is n) ≡ open_marks o ++ marks_of n
passed_marks o is n q =
    let h = opens (of_message o.template) 0 in
    let ws = flat_map waiting_marks o.around in
    quiet_marks (passed o is n) (quiet refl)
    ∙ ap (λ x. h ∷ x) (ap (λ x. ws ++ x) (done_more o.body.done n) ∙ sym (append_assoc ws (marks_done o.body.done) (marks_of n)))
    ∙ ap (λ x. x ++ marks_of n) (sym (quiet_marks o q))

pub passed_starts : (o : Received) (is : Instructions) (n : Item) → IsQuiet o.next → open_starts (passed o is n) ≡ open_starts o
passed_starts o is n q = quiet_starts (passed o is n) (quiet refl) ∙ sym (quiet_starts o q)

pub has_passed : {t u : OpenTape} (o : Received) (is : Instructions) (v : Option Scalar) → IsQuiet o.next → Adds (tells v) t u → HasOpen t o → HasOpen u (passed o is (single v))
has_passed {t} {u} o is v q a h = holds_as (sym (passed_marks o is (single v) q)) (sym (passed_starts o is (single v) q)) (added (tells v) a h)

-- an exponent that is there: no node yet
pub has_exponent : {t : OpenTape} (o : Received) (is : Instructions) (p : FieldPart) (e : ℤ) → o.next ≡ at_instruction → HasOpen t o → HasOpen t (after_exponent o is p (Some (I32 e)))
has_exponent {t} o is p e next h =
    let later = after_exponent o is p (Some (I32 e)) in
    holds_as (quiet_marks o (quiet next) ∙ sym (quiet_marks later (quiet_mantissa e p refl))) (quiet_starts o (quiet next) ∙ sym (quiet_starts later (quiet_mantissa e p refl))) h

-- a segment that is entered: its header stands behind what there was
entered_marks : (o : Received) (w : Waiting) (rest : List Mark) (is : Instructions) → waiting_marks w ≡ marks_done o.body.done ++ rest
    → open_marks (in_body o w is) ≡ opens (of_message o.template) 0 ∷ (body_marks o ++ rest)
entered_marks o w rest is e =
    let h = opens (of_message o.template) 0 in
    let ws = flat_map waiting_marks o.around in
    quiet_marks (in_body o w is) (quiet refl)
    ∙ ap (λ x. h ∷ x) (append-nil (flat_map waiting_marks (o.around ++ w ∷ [])) ∙ waiting_more o.around w ∙ ap (λ x. ws ++ x) e ∙ sym (append_assoc ws (marks_done o.body.done) rest))

entered_starts : (o : Received) (w : Waiting) (is : Instructions) → w.body.done ≡ o.body.done
    → open_starts (in_body o w is) ≡ 0 ∷ (waiting_starts 1 o.around ++ inside_starts (1 + length (body_marks o)) w.inside)
entered_starts o w is e =
    quiet_starts (in_body o w is) (quiet refl)
    ∙ ap (λ x. 0 ∷ x) (starts_more 1 o.around w ∙ ap (λ done. waiting_starts 1 o.around ++ inside_starts (1 + length (flat_map waiting_marks o.around ++ marks_done done)) w.inside) e)

pub has_entered : {t u : OpenTape} (o : Received) (number : ℕ) (bits : List Bool) (members is : Instructions) → o.next ≡ at_instruction → Opens of_group t u → HasOpen t o → HasOpen u (entered o number bits members is)
has_entered {t} {u} o number bits members is next a h =
    let w : Waiting = record { bits = bits; number = number; body = record { rest = is; done = o.body.done }; inside = in_group } in
    let q = quiet next in
    let top = opens (of_message o.template) 0 in
    holds_as
    (ap (λ x. x ++ opens of_group 0 ∷ []) (quiet_marks o q) ∙ sym (entered_marks o w (opens of_group 0 ∷ []) members refl))
    (ap₂ (λ xs n. xs ++ n ∷ []) (quiet_starts o q) (ap length (quiet_marks o q) ∙ add_one (length (body_marks o))) ∙ sym (entered_starts o w members refl))
    (opened of_group a h)

pub has_length : {t u : OpenTape} (o : Received) (number : ℕ) (members is : Instructions) (n : ℕ) → o.next ≡ at_instruction → Opens (of_sequence n) t u → HasOpen t o → HasOpen u (after_length o number members is (Some n))
has_length {t} {u} o number members is n next a h =
    let q = quiet next in
    let top = opens (of_message o.template) 0 in
    holds_as
    (ap (λ x. x ++ opens (of_sequence n) 0 ∷ []) (quiet_marks o q) ∙ ap (λ k. top ∷ (body_marks o ++ opens (of_sequence k) 0 ∷ [])) (none_and n))
    (ap₂ (λ xs n. xs ++ n ∷ []) (quiet_starts o q) (ap length (quiet_marks o q) ∙ add_one (length (body_marks o))))
    (opened (of_sequence n) a h)

pub has_element : {t u : OpenTape} (o : Received) (bits : List Bool) (s : Sequel) → o.next ≡ at_element s → 0 < s.left → Opens of_element t u → HasOpen t o → HasOpen u (in_element o bits s)
has_element {t} {u} o bits s next some a h =
    let w : Waiting = record { bits = bits; number = s.number; body = o.body; inside = in_sequence (fewer s) } in
    let top = opens (of_message o.template) 0 in
    let left : suc (s.left - 1) ≡ s.left = omega arith in
    let here = sequence_marks s.left s.done in
    let header = opens of_element 0 in
    holds_as
    (ap (λ x. (top ∷ (body_marks o ++ next_marks x)) ++ header ∷ []) next
    ∙ ap (λ x. top ∷ x) (append_assoc (body_marks o) here (header ∷ []) ∙ ap (λ k. body_marks o ++ (sequence_marks k s.done ++ header ∷ [])) (sym left))
    ∙ sym (entered_marks o w (sequence_marks (suc (s.left - 1)) s.done ++ header ∷ []) s.members refl))
    (ap₂ (λ x n. (0 ∷ (waiting_starts 1 o.around ++ next_starts (1 + length (body_marks o)) x)) ++ n ∷ []) next
    (ap (λ x. length (top ∷ (body_marks o ++ next_marks x))) next ∙ add_one (length (body_marks o ++ here)) ∙ ap (λ k. 1 + k) (length-append (body_marks o) here))
    ∙ ap (λ x. 0 ∷ x) (append_assoc (waiting_starts 1 o.around) ((1 + length (body_marks o)) ∷ []) ((1 + (length (body_marks o) + length here)) ∷ [])
    ∙ ap (λ k. waiting_starts 1 o.around ++ (1 + length (body_marks o)) ∷ k ∷ []) (sum_of (length (body_marks o)) (length here) ∙ ap (λ k. (1 + length (body_marks o)) + length (sequence_marks k s.done)) (sym left)))
    ∙ sym (entered_starts o w s.members refl))
    (opened of_element a h)

-- ---- the end of a segment

pub has_left : {t u : OpenTape} (o : Received) (ws : List Waiting) (w : Waiting) → o.next ≡ at_instruction → o.around ≡ ws ++ w ∷ [] → w.inside ≡ in_group → Closes t u → HasOpen t o
    → HasOpen u (ended_in o ws w.body in_group)
has_left {t} {u} o ws w next around inside c h =
    let own = marks_done o.body.done in
    let front = flat_map waiting_marks ws ++ marks_done w.body.done in
    let top = opens (of_message o.template) 0 in
    let q = quiet next in
    let p = ended_in o ws w.body in_group in
    holds_as
    (ap (λ x. top ∷ x) (append_assoc (flat_map waiting_marks ws) (marks_done w.body.done) (segment of_group own) ∙ ap (λ x. flat_map waiting_marks ws ++ x) (sym (done_more w.body.done (group_items (items_of o.body.done)))))
    ∙ sym (quiet_marks p (quiet refl)))
    (sym (quiet_starts p (quiet refl)))
    (closed of_group (top ∷ front) own c
    (holds_as
    (quiet_marks o q ∙ ap (λ x. top ∷ x) (ap (λ x. flat_map waiting_marks x ++ own) around ∙ ap (λ x. x ++ own) (waiting_more ws w ∙ ap (λ i. flat_map waiting_marks ws ++ (marks_done w.body.done ++ inside_marks i)) inside ∙ sym (append_assoc (flat_map waiting_marks ws) (marks_done w.body.done) (opens of_group 0 ∷ [])))
    ∙ append_assoc front (opens of_group 0 ∷ []) own))
    (quiet_starts o q ∙ ap (λ x. 0 ∷ x) (ap (λ x. waiting_starts 1 x) around ∙ starts_more 1 ws w ∙ ap (λ i. waiting_starts 1 ws ++ inside_starts (1 + length front) i) inside ∙ ap (λ k. waiting_starts 1 ws ++ k ∷ []) (sym (add_one (length front)))))
    h))

pub has_left_element : {t u : OpenTape} (o : Received) (ws : List Waiting) (w : Waiting) (s : Sequel) → o.next ≡ at_instruction → o.around ≡ ws ++ w ∷ [] → w.inside ≡ in_sequence s → Closes t u → HasOpen t o
    → HasOpen u (ended_in o ws w.body (in_sequence s))
has_left_element {t} {u} o ws w s next around inside c h =
    let own = marks_done o.body.done in
    let front = flat_map waiting_marks ws ++ marks_done w.body.done in
    let top = opens (of_message o.template) 0 in
    let header = opens (of_sequence (length s.done + suc s.left)) 0 in
    let told = marks_in_elements (elements_of s.done) in
    let here = header ∷ told in
    let later = s.done ++ items_of o.body.done ∷ [] in
    let same : length s.done + suc s.left ≡ length later + s.left = let e = length-append s.done (items_of o.body.done ∷ []) in omega arith in
    holds_as
    (ap (λ x. top ∷ x) (append_assoc front here (segment of_element own)
    ∙ ap (λ x. front ++ header ∷ x) (sym (elements_more s.done (items_of o.body.done)))
    ∙ ap (λ k. front ++ opens (of_sequence k) 0 ∷ marks_in_elements (elements_of later)) same))
    (refl)
    (closed of_element (top ∷ (front ++ here)) own c
    (holds_as
    (quiet_marks o (quiet next) ∙ ap (λ x. top ∷ x) (ap (λ x. flat_map waiting_marks x ++ own) around ∙ ap (λ x. x ++ own) (waiting_more ws w ∙ ap (λ i. flat_map waiting_marks ws ++ (marks_done w.body.done ++ inside_marks i)) inside ∙ sym (append_assoc (flat_map waiting_marks ws) (marks_done w.body.done) (here ++ opens of_element 0 ∷ [])) ∙ sym (append_assoc front here (opens of_element 0 ∷ [])))
    ∙ append_assoc (front ++ here) (opens of_element 0 ∷ []) own))
    (quiet_starts o (quiet next) ∙ ap (λ x. 0 ∷ x) (ap (λ x. waiting_starts 1 x) around ∙ starts_more 1 ws w ∙ ap (λ i. waiting_starts 1 ws ++ inside_starts (1 + length front) i) inside
    ∙ ap (λ k. waiting_starts 1 ws ++ (1 + length front) ∷ k ∷ []) (let e = length-append front here in omega arith)
    ∙ sym (append_assoc (waiting_starts 1 ws) ((1 + length front) ∷ []) (length (top ∷ (front ++ here)) ∷ []))))
    h))

pub has_sequence : {t u : OpenTape} (o : Received) (s : Sequel) → o.next ≡ at_element s → s.left ≡ 0 → Closes t u → HasOpen t o → HasOpen u (after_sequence o s)
has_sequence {t} {u} o s next none c h =
    let own = marks_in_elements (elements_of s.done) in
    let top = opens (of_message o.template) 0 in
    let p = after_sequence o s in
    let ws = flat_map waiting_marks o.around in
    let count : length s.done + s.left ≡ element_count (elements_of s.done) = let e = count_done s.done in omega arith in
    holds_as
    (ap (λ x. top ∷ x) (append_assoc ws (marks_done o.body.done) (segment (of_sequence (element_count (elements_of s.done))) own) ∙ ap (λ x. ws ++ x) (sym (done_more o.body.done (sequence_elements (elements_of s.done)))))
    ∙ sym (quiet_marks p (quiet refl)))
    (sym (quiet_starts p (quiet refl)))
    (closed (of_sequence (element_count (elements_of s.done))) (top ∷ body_marks o) own c
    (holds_as
    (ap (λ x. top ∷ (body_marks o ++ next_marks x)) next ∙ ap (λ k. top ∷ (body_marks o ++ opens (of_sequence k) 0 ∷ own)) count)
    (ap (λ x. 0 ∷ (waiting_starts 1 o.around ++ next_starts (1 + length (body_marks o)) x)) next ∙ ap (λ k. 0 ∷ (waiting_starts 1 o.around ++ k ∷ [])) (sym (add_one (length (body_marks o)))))
    h))

-- ---- the beginning and the end of a message

pub has_begun : {t u : OpenTape} (set : List Resolved) (ms : List Content) (id : ℕ) (members : Instructions) (d : Dictionary) → t.tape.nodes.items ≡ [] → t.starts.items ≡ [] → Opens (of_message id) t u
    → HasOpen u (received.opened set ms id members d)
has_begun {t} {u} set ms id members d nodes starts a =
    let empty : Holds t [] [] = record { says = subst (λ (ns : List TapeNode). SayAll t.tape.bytes.items [] ns) (sym nodes) tt; starts_are = starts } in
    opened (of_message id) a empty

pub has_ended : {t u : OpenTape} (o : Received) → o.next ≡ at_instruction → o.around ≡ [] → Closes t u → HasOpen t o → SayAll u.tape.bytes.items (marks_of_messages (content_received o ∷ [])) u.tape.nodes.items
has_ended {t} {u} o next none c h =
    let own = marks_done o.body.done in
    let top = opens (of_message o.template) 0 in
    let s = closed {starts = []} (of_message o.template) [] own c (holds_as
    (quiet_marks o (quiet next) ∙ ap (λ ws. top ∷ (flat_map waiting_marks ws ++ own)) none)
    (quiet_starts o (quiet next) ∙ ap (λ ws. 0 ∷ waiting_starts 1 ws) none) h) in
    subst (λ (xs : List Mark). SayAll u.tape.bytes.items xs u.tape.nodes.items) (sym (append-nil (segment (of_message o.template) own))) s.says

-- a header says this, whatever its instruction
pub header_is : {n : TapeNode} {kind instruction number length : ℕ} → n ≡ long_node kind instruction number length → n ≡ long_node kind n.instruction number length
header_is {n} {kind} {instruction} {number} {length} e = e ∙ ap (λ i. long_node kind i number length) (sym (ap (λ (x : TapeNode). x.instruction) e))
