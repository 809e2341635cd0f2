-- Tapes one behind the other.
use Rattle.std.proofs.Common.{◌≡◌, ℕ, ◌+◌, List, [], ◌∷◌, ◌++◌, length, map, Some, None, refl, sym, ap, ◌∙◌, append_assoc, subst, arith}
use Rattle.std.proofs.lemmas.List.{length-append}
use Rattle.fast_value.specs.declared.scalar.Scalar.TheVariants.{I32, U32, I64, U64, Decimal, Ascii, Unicode, Bytes}
use Rattle.fast_tape.specs.declared.node.TapeNode.{TapeNode}
use Rattle.fast_stream.specs.Nodes.{Content}
use Rattle.fast_tape.specs.Moved.{moved}
use Rattle.fast_tape.specs.Tapes.{of_message, of_group, of_sequence, of_element, Mark, opens, tells, segment, LiesAt, Says, SayAll, marks_in, marks_of_messages}
use Rattle.fast_tape.proofs.Nodes.{say_all_more, say_both}

lies_behind : (front bytes : List ℕ) (place : ℕ) (text : List ℕ) → LiesAt bytes place text → LiesAt (front ++ bytes) (place + length front) text
lies_behind front bytes place text l = record {
  before = front ++ l.before;
  behind = l.behind;
  whole = ap (λ b. front ++ b) l.whole ∙ sym (append_assoc front l.before (text ++ l.behind));
  at = (let e = length-append front l.before in let f = l.at in omega arith);
}

says_moved : (front bytes : List ℕ) (m : Mark) (n : TapeNode) → Says bytes m n → Says (front ++ bytes) m (moved (length front) n)
says_moved front bytes (opens (of_message t) own) n e = subst (λ x. Says (front ++ bytes) (opens (of_message t) own) (moved (length front) x)) (sym e) refl
says_moved front bytes (opens of_group own) n e = subst (λ x. Says (front ++ bytes) (opens of_group own) (moved (length front) x)) (sym e) refl
says_moved front bytes (opens (of_sequence c) own) n e = subst (λ x. Says (front ++ bytes) (opens (of_sequence c) own) (moved (length front) x)) (sym e) refl
says_moved front bytes (opens of_element own) n e = subst (λ x. Says (front ++ bytes) (opens of_element own) (moved (length front) x)) (sym e) refl
says_moved front bytes (tells None) n e = subst (λ x. Says (front ++ bytes) (tells None) (moved (length front) x)) (sym e) refl
says_moved front bytes (tells (Some (U32 k))) n e = subst (λ x. Says (front ++ bytes) (tells (Some (U32 k))) (moved (length front) x)) (sym e) refl
says_moved front bytes (tells (Some (U64 k))) n e = subst (λ x. Says (front ++ bytes) (tells (Some (U64 k))) (moved (length front) x)) (sym e) refl
says_moved front bytes (tells (Some (I32 k))) n e = subst (λ x. Says (front ++ bytes) (tells (Some (I32 k))) (moved (length front) x)) (sym e) refl
says_moved front bytes (tells (Some (I64 k))) n e = subst (λ x. Says (front ++ bytes) (tells (Some (I64 k))) (moved (length front) x)) (sym e) refl
says_moved front bytes (tells (Some (Decimal e m))) n h = subst (λ x. Says (front ++ bytes) (tells (Some (Decimal e m))) (moved (length front) x)) (sym h) refl
says_moved front bytes (tells (Some (Ascii t))) n h = subst (λ x. Says (front ++ bytes) (tells (Some (Ascii t))) (moved (length front) x)) (sym h.0) (refl, lies_behind front bytes n.number t h.1)
says_moved front bytes (tells (Some (Unicode t))) n h = subst (λ x. Says (front ++ bytes) (tells (Some (Unicode t))) (moved (length front) x)) (sym h.0) (refl, lies_behind front bytes n.number t h.1)
says_moved front bytes (tells (Some (Bytes t))) n h = subst (λ x. Says (front ++ bytes) (tells (Some (Bytes t))) (moved (length front) x)) (sym h.0) (refl, lies_behind front bytes n.number t h.1)

pub say_all_moved : (front bytes : List ℕ) (ms : List Mark) (ns : List TapeNode) → SayAll bytes ms ns → SayAll (front ++ bytes) ms (map (moved (length front)) ns)
say_all_moved front bytes [] [] h = h
say_all_moved front bytes [] (n ∷ ns) h = absurd h
say_all_moved front bytes (m ∷ ms) [] h = absurd h
say_all_moved front bytes (m ∷ ms) (n ∷ ns) h = (says_moved front bytes m n h.0, say_all_moved front bytes ms ns h.1)

pub messages_behind : (ms ks : List Content) → marks_of_messages (ms ++ ks) ≡ marks_of_messages ms ++ marks_of_messages ks
messages_behind [] ks = refl
messages_behind (m ∷ ms) ks =
    let s = segment (of_message m.template) (marks_in m.items) in
    ap (λ x. s ++ x) (messages_behind ms ks) ∙ sym (append_assoc s (marks_of_messages ms) (marks_of_messages ks))

pub tapes_join : (bytes more : List ℕ) (ms ks : List Content) (ns os : List TapeNode) → SayAll bytes (marks_of_messages ms) ns → SayAll more (marks_of_messages ks) os
    → SayAll (bytes ++ more) (marks_of_messages (ms ++ ks)) (ns ++ map (moved (length bytes)) os)
tapes_join bytes more ms ks ns os h k =
    let moved_nodes = map (moved (length bytes)) os in
    subst (λ x. SayAll (bytes ++ more) x (ns ++ moved_nodes)) (sym (messages_behind ms ks))
    (say_both (bytes ++ more) (marks_of_messages ms) (marks_of_messages ks) ns moved_nodes (say_all_more bytes more (marks_of_messages ms) ns h) (say_all_moved bytes more (marks_of_messages ks) os k))
