-- What one node says.
use Rattle.std.proofs.Common.{◌≡◌, ℕ, ◌+◌, suc, zero, List, [], ◌∷◌, ◌++◌, length, take, drop, Some, None, refl, sym, ap, ap₂, ◌∙◌, append_assoc, arith}
use Rattle.std.proofs.lemmas.List.{length-append}
use Rattle.std.proofs.Math.Seq.{drop-append_seam, take-append_seam}
use Rattle.fast_value.specs.declared.scalar.Scalar.TheVariants.{I32, U32, I64, U64, Decimal, Ascii, Unicode, Bytes}
use Rattle.fast_tape.specs.declared.node.TapeNode.{TapeNode}
use Rattle.fast_stream.specs.Nodes.{Content, nodes_in}
use Rattle.fast_tape.specs.Tapes.{of_message, of_group, of_sequence, of_element, Mark, opens, tells, LiesAt, Says, SayAll, marks_in, marks_of_messages}
use Rattle.fast_tape.proofs.Marks.{count_in, messages_same}

text_at : List ℕ → ℕ → ℕ → List ℕ
text_at bytes place length = take length (drop place bytes)

text_there : (bytes : List ℕ) (place : ℕ) (text : List ℕ) → LiesAt bytes place text → text_at bytes place (length text) ≡ text
unfolding text_at
text_there bytes place text l =
    ap₂ (λ b p. take (length text) (drop p b)) l.whole l.at
    ∙ ap (λ x. take (length text) x) (drop-append_seam l.before (text ++ l.behind))
    ∙ take-append_seam text l.behind

-- what a node says, whatever it is
abbrev mark_of_kind : ℕ → List ℕ → TapeNode → Mark
mark_of_kind zero bytes n = opens (of_message n.instruction) n.length
mark_of_kind (suc zero) bytes n = tells None
mark_of_kind (suc (suc zero)) bytes n = tells (Some (U32 n.number))
mark_of_kind (suc (suc (suc zero))) bytes n = tells (Some (U64 n.number))
mark_of_kind (suc (suc (suc (suc zero)))) bytes n = tells (Some (I32 n.mantissa))
mark_of_kind (suc (suc (suc (suc (suc zero))))) bytes n = tells (Some (I64 n.mantissa))
mark_of_kind (suc (suc (suc (suc (suc (suc zero)))))) bytes n = tells (Some (Decimal n.exponent n.mantissa))
mark_of_kind (suc (suc (suc (suc (suc (suc (suc zero))))))) bytes n = tells (Some (Ascii (text_at bytes n.number n.length)))
mark_of_kind (suc (suc (suc (suc (suc (suc (suc (suc zero)))))))) bytes n = tells (Some (Unicode (text_at bytes n.number n.length)))
mark_of_kind (suc (suc (suc (suc (suc (suc (suc (suc (suc zero))))))))) bytes n = tells (Some (Bytes (text_at bytes n.number n.length)))
mark_of_kind (suc (suc (suc (suc (suc (suc (suc (suc (suc (suc zero)))))))))) bytes n = opens of_group n.length
mark_of_kind (suc (suc (suc (suc (suc (suc (suc (suc (suc (suc (suc zero))))))))))) bytes n = opens (of_sequence n.number) n.length
mark_of_kind k bytes n = opens of_element n.length

abbrev mark_at : List ℕ → TapeNode → Mark
mark_at bytes n = mark_of_kind n.kind bytes n

says_at : (bytes : List ℕ) (m : Mark) (n : TapeNode) → Says bytes m n → mark_at bytes n ≡ m
says_at bytes (opens (of_message t) own) n h = ap (mark_at bytes) h
says_at bytes (opens of_group own) n h = ap (mark_at bytes) h
says_at bytes (opens (of_sequence c) own) n h = ap (mark_at bytes) h
says_at bytes (opens of_element own) n h = ap (mark_at bytes) h
says_at bytes (tells None) n h = ap (mark_at bytes) h
says_at bytes (tells (Some (U32 k))) n h = ap (mark_at bytes) h
says_at bytes (tells (Some (U64 k))) n h = ap (mark_at bytes) h
says_at bytes (tells (Some (I32 k))) n h = ap (mark_at bytes) h
says_at bytes (tells (Some (I64 k))) n h = ap (mark_at bytes) h
says_at bytes (tells (Some (Decimal e m))) n h = ap (mark_at bytes) h
says_at bytes (tells (Some (Ascii t))) n h = ap (mark_at bytes) h.0 ∙ ap (λ t. tells (Some (Ascii t))) (text_there bytes n.number t h.1)
says_at bytes (tells (Some (Unicode t))) n h = ap (mark_at bytes) h.0 ∙ ap (λ t. tells (Some (Unicode t))) (text_there bytes n.number t h.1)
says_at bytes (tells (Some (Bytes t))) n h = ap (mark_at bytes) h.0 ∙ ap (λ t. tells (Some (Bytes t))) (text_there bytes n.number t h.1)

pub marks_same : (bytes : List ℕ) (ms ks : List Mark) (ns : List TapeNode) → SayAll bytes ms ns → SayAll bytes ks ns → ms ≡ ks
marks_same bytes [] [] [] h k = refl
marks_same bytes (m ∷ ms) [] [] h k = absurd h
marks_same bytes [] (x ∷ ks) [] h k = absurd k
marks_same bytes (m ∷ ms) (x ∷ ks) [] h k = absurd h
marks_same bytes [] ks (n ∷ ns) h k = absurd h
marks_same bytes (m ∷ ms) [] (n ∷ ns) h k = absurd k
marks_same bytes (m ∷ ms) (x ∷ ks) (n ∷ ns) h k =
    ap₂ (λ y ys. y ∷ ys) (sym (says_at bytes m n h.0) ∙ says_at bytes x n k.0) (marks_same bytes ms ks ns h.1 k.1)

pub one_content : (bytes : List ℕ) (ms ks : List Content) (ns : List TapeNode) → SayAll bytes (marks_of_messages ms) ns → SayAll bytes (marks_of_messages ks) ns → ms ≡ ks
one_content bytes ms ks ns h k = messages_same ms ks (marks_same bytes (marks_of_messages ms) (marks_of_messages ks) ns h k)

-- ---- how many

pub as_many : (bytes : List ℕ) (ms : List Mark) (ns : List TapeNode) → SayAll bytes ms ns → length ns ≡ length ms
as_many bytes [] [] h = refl
as_many bytes [] (n ∷ ns) h = absurd h
as_many bytes (m ∷ ms) [] h = absurd h
as_many bytes (m ∷ ms) (n ∷ ns) h = ap suc (as_many bytes ms ns h.1)

-- ---- more bytes

lies_more : (bytes more : List ℕ) (place : ℕ) (text : List ℕ) → LiesAt bytes place text → LiesAt (bytes ++ more) place text
lies_more bytes more place text l = record {
  before = l.before;
  behind = l.behind ++ more;
  whole = ap (λ b. b ++ more) l.whole ∙ append_assoc l.before (text ++ l.behind) more ∙ ap (λ x. l.before ++ x) (append_assoc text l.behind more);
  at = l.at;
}

pub says_more : (bytes more : List ℕ) (m : Mark) (n : TapeNode) → Says bytes m n → Says (bytes ++ more) m n
says_more bytes more (opens (of_message t) own) n h = h
says_more bytes more (opens of_group own) n h = h
says_more bytes more (opens (of_sequence c) own) n h = h
says_more bytes more (opens of_element own) n h = h
says_more bytes more (tells None) n h = h
says_more bytes more (tells (Some (U32 k))) n h = h
says_more bytes more (tells (Some (U64 k))) n h = h
says_more bytes more (tells (Some (I32 k))) n h = h
says_more bytes more (tells (Some (I64 k))) n h = h
says_more bytes more (tells (Some (Decimal e m))) n h = h
says_more bytes more (tells (Some (Ascii t))) n h = (h.0, lies_more bytes more n.number t h.1)
says_more bytes more (tells (Some (Unicode t))) n h = (h.0, lies_more bytes more n.number t h.1)
says_more bytes more (tells (Some (Bytes t))) n h = (h.0, lies_more bytes more n.number t h.1)

pub say_all_more : (bytes more : List ℕ) (ms : List Mark) (ns : List TapeNode) → SayAll bytes ms ns → SayAll (bytes ++ more) ms ns
say_all_more bytes more [] [] h = h
say_all_more bytes more [] (n ∷ ns) h = absurd h
say_all_more bytes more (m ∷ ms) [] h = absurd h
say_all_more bytes more (m ∷ ms) (n ∷ ns) h = (says_more bytes more m n h.0, say_all_more bytes more ms ns h.1)

-- ---- nodes behind nodes

pub say_both : (bytes : List ℕ) (ms ks : List Mark) (ns os : List TapeNode) → SayAll bytes ms ns → SayAll bytes ks os → SayAll bytes (ms ++ ks) (ns ++ os)
say_both bytes [] ks [] os h k = k
say_both bytes [] ks (n ∷ ns) os h k = absurd h
say_both bytes (m ∷ ms) ks [] os h k = absurd h
say_both bytes (m ∷ ms) ks (n ∷ ns) os h k = (h.0, say_both bytes ms ks ns os h.1 k)

-- ---- a message

pub message_count : (bytes : List ℕ) (m : Content) (ns : List TapeNode) → SayAll bytes (marks_of_messages (m ∷ [])) ns → length ns ≡ 1 + nodes_in m.items
message_count bytes m ns h =
    let e = as_many bytes (marks_of_messages (m ∷ [])) ns h in
    let f = count_in m.items in
    let g = length-append (marks_in m.items) [] in
    omega arith
