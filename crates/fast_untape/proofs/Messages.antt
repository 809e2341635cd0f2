-- The message that nodes begin with.
use Rattle.std.proofs.Common.{◌≡◌, ◌≤◌, ◌⊎◌, inl, inr, ℕ, ◌+◌, suc, List, [], ◌∷◌, ◌++◌, length, take, drop, Option, Some, None, refl, sym, ap, subst, ◌∙◌, append-nil, append_assoc, length-drop, zero, arith, false}
use Rattle.std.proofs.lemmas.List.{take-append-drop}
use Rattle.std.specs.FinMap as map
use Rattle.fast_template.specs.Resolved.{Instructions, Resolved}
use Rattle.fast_dictionary.specs.Dictionary.{Dictionary}
use Rattle.fast_stream.specs.Nodes.{Content, Items}
use Rattle.fast_stream.specs.Streams.{members_of}
use Rattle.fast_writer.specs.Canonical.{CanonFrom, CanonMessage}
use Rattle.fast_writer.proofs.Writers.{canon_more}
use Rattle.fast_nodes.specs.FirstRefusal.{early_refusal, first_refusal, items_fit, refused, whole_refusal}
use Rattle.fast_nodes.specs.declared.fault.EncodeCause.{EncodeCause}
use Rattle.fast_nodes.specs.declared.fault.EncodeFault.{EncodeFault}
use Rattle.fast_nodes.proofs.Messages.{early_first}
use Rattle.fast_tape.specs.declared.node.TapeNode.{TapeNode}
use Rattle.fast_tape.specs.Tapes.{SayAll, opens, of_message, segment, long_node, message_kind, marks_in, marks_of_messages}
use Rattle.fast_tape.proofs.Marks.{items_same, same_fronts}
use Rattle.fast_tape.proofs.Nodes.{as_many, marks_same}
use Rattle.fast_untape.specs.declared.fault.PutFault.{PutFault}
use Rattle.fast_untape.specs.Reading.{BeginWith, BeginWithNone, IsNotPut, IsRefusedAs, UnfitAll, early_of}
use Rattle.fast_untape.specs.Writing.{HasWritten}
use Rattle.fast_untape.proofs.Reading.{front_of, own_is, says_behind, take_own}

-- the nodes behind the header of a message that are its own
pub record FrontMessage (bytes : List ℕ) (first : TapeNode) (behind : List TapeNode) (m : Content) : Type 0 where
  pub rest : List TapeNode
  pub b : List TapeNode
  pub join : behind ≡ rest ++ b
  pub header : first ≡ long_node message_kind m.template 0 (length rest)
  pub says : SayAll bytes (marks_in m.items) rest

pub message_front : (bytes : List ℕ) (nodes : List TapeNode) (first : TapeNode) (behind : List TapeNode) (count : ℕ) (m : Content) → nodes ≡ first ∷ behind → BeginWith bytes nodes count (m ∷ []) → FrontMessage bytes first behind m
message_front bytes nodes first behind count m split begins =
    let says = subst (λ ms. SayAll bytes ms (take count nodes)) (append-nil (segment (of_message m.template) (marks_in m.items))) begins.tape in
    let f = front_of bytes first behind (take count nodes) (drop count nodes) (opens (of_message m.template) (length (marks_in m.items))) (marks_in m.items) (sym split ∙ sym (take-append-drop count nodes)) says in
    record { rest = f.0; b = drop count nodes; join = f.2; header = f.3 ∙ ap (λ k. long_node message_kind m.template 0 k) (sym (as_many bytes (marks_in m.items) f.0 f.4)); says = f.4 }

pub template_is : {bytes : List ℕ} {first : TapeNode} {behind : List TapeNode} {m : Content} → FrontMessage bytes first behind m → m.template ≡ first.instruction
template_is f = sym (ap (λ (n : TapeNode). n.instruction) f.header)

pub nothing_there : (bytes : List ℕ) → BeginWithNone bytes []
nothing_there bytes m count range begins =
    let zero : count ≡ 0 = omega (arith, begins.within) in
    subst (λ k. SayAll bytes (marks_of_messages (m ∷ [])) (take k [])) zero begins.tape

-- one message at most
pub one_message : (bytes : List ℕ) (nodes : List TapeNode) (first : TapeNode) (behind : List TapeNode) (c k : ℕ) (m n : Content) → nodes ≡ first ∷ behind → BeginWith bytes nodes c (m ∷ []) → BeginWith bytes nodes k (n ∷ []) → m ≡ n
one_message bytes nodes first behind c k m n split a b =
    let f = message_front bytes nodes first behind c m split a in
    let g = message_front bytes nodes first behind k n split b in
    let long : length f.rest ≡ length g.rest = ap (λ (x : TapeNode). x.length) (sym f.header ∙ g.header) in
    let template : m.template ≡ n.template = ap (λ (x : TapeNode). x.instruction) (sym f.header ∙ g.header) in
    let rest : f.rest ≡ g.rest = same_rest f.rest g.rest f.b g.b long (sym f.join ∙ g.join) in
    let items : m.items ≡ n.items = items_same m.items n.items (marks_same bytes (marks_in m.items) (marks_in n.items) g.rest (subst (λ l. SayAll bytes (marks_in m.items) l) rest f.says) g.says) in
    rw (template, items) refl
  where
    same_rest : (a b r s : List TapeNode) → length a ≡ length b → a ++ r ≡ b ++ s → a ≡ b
    same_rest a b r s long e = (same_fronts a b r s long e).0

pub begins_message : (bytes : List ℕ) (nodes : List TapeNode) (first : TapeNode) (behind own : List TapeNode) (m : Content) → nodes ≡ first ∷ behind → first ≡ long_node message_kind m.template 0 (length own) → own ≡ take (length own) behind → length own ≤ length behind
    → SayAll bytes (marks_in m.items) own → BeginWith bytes nodes (length own + 1) (m ∷ [])
begins_message bytes nodes first behind own m split header own_is le says = rw split (record {
  within = omega (arith, le);
  tape = subst (λ ms. SayAll bytes ms (take (length own + 1) (first ∷ behind))) (sym (append-nil (segment (of_message m.template) (marks_in m.items))))
      (subst (λ l. SayAll bytes (segment (of_message m.template) (marks_in m.items)) l) (sym (take_own first behind own own_is))
      (header ∙ ap (λ k. long_node message_kind m.template 0 k) (as_many bytes (marks_in m.items) own says), says));
})

-- ---- refusals

pub unknown : (set : List Resolved) (bytes : List ℕ) (nodes : List TapeNode) (first : TapeNode) (behind : List TapeNode) → nodes ≡ first ∷ behind → members_of set first.instruction ≡ None → IsNotPut (early_of set) bytes nodes (PutFault.Refused (refused EncodeCause.D9))
unknown set bytes nodes first behind split none = inr (λ m count range begins.
    let f = message_front bytes nodes first behind count m split begins in
    ap (λ k. early_refusal (members_of set k) m.items) (template_is f) ∙ ap (λ o. early_refusal o m.items) none)

pub mismatch : (set : List Resolved) (bytes : List ℕ) (nodes : List TapeNode) (first : TapeNode) (behind own : List TapeNode) (members : Instructions) → nodes ≡ first ∷ behind → members_of set first.instruction ≡ Some members
    → first ≡ long_node message_kind first.instruction first.number (length own) → own ≡ take (length own) behind → length own ≤ length behind → UnfitAll bytes own members → IsNotPut (early_of set) bytes nodes (PutFault.Refused (refused EncodeCause.Mismatch))
mismatch set bytes nodes first behind own members split known header is le unfit = inr (λ m count range begins.
    let f = message_front bytes nodes first behind count m split begins in
    let again = f.header ∙ ap (λ k. long_node message_kind k 0 (length f.rest)) (template_is f) in
    let same : f.rest ≡ own = own_is first behind own f.rest f.b message_kind first.instruction first.number 0 header is le f.join again in
    let never : items_fit members m.items ≡ false = unfit m.items range.items (subst (λ l. SayAll bytes (marks_in m.items) l) same f.says) in
    ap (λ k. early_refusal (members_of set k) m.items) (template_is f) ∙ ap (λ o. early_refusal o m.items) known ∙ fits_not members m.items never)
  where
    fits_not : (members : Instructions) (ns : Items) → items_fit members ns ≡ false → whole_refusal members ns ≡ Some (refused EncodeCause.Mismatch)
    fits_not members ns h = rw h refl

pub no_memory : (refusal : Content → Option EncodeFault) (bytes : List ℕ) (nodes : List TapeNode) → IsNotPut refusal bytes nodes (PutFault.Refused (refused EncodeCause.Memory))
no_memory refusal bytes nodes = inl refl

-- what is refused before the fields is refused
pub early_put : (set : List Resolved) (d : Dictionary) (bytes : List ℕ) (nodes : List TapeNode) (f : PutFault) → IsNotPut (early_of set) bytes nodes f → IsNotPut (first_refusal set d) bytes nodes f
early_put set d bytes nodes PutFault.NoMessage h = h
early_put set d bytes nodes (PutFault.Refused f) (inl memory) = inl memory
early_put set d bytes nodes (PutFault.Refused f) (inr h) = inr (λ m count range begins. early_first (members_of set m.template) d m (h m count range begins))

-- the message that was read is refused
pub read_refused : (refusal : Content → Option EncodeFault) (bytes : List ℕ) (nodes : List TapeNode) (count : ℕ) (m : Content) (f : EncodeFault) → BeginWith bytes nodes count (m ∷ []) → (f ≡ refused EncodeCause.Memory) ⊎ (refusal m ≡ Some f) → IsRefusedAs refusal bytes nodes f
read_refused refusal bytes nodes count m f begins (inl memory) = inl memory
read_refused refusal bytes [] count m f begins (inr h) = inr (λ n k range other. absurd (nothing_there bytes n k range other))
read_refused refusal bytes (first ∷ behind) count m f begins (inr h) = inr (λ n k range other. ap refusal (one_message bytes (first ∷ behind) first behind k count n m refl other begins) ∙ h)

-- ---- what was written

pub written_more : (set : List Resolved) (messages : List Content) (m : Content) (taken waiting later bytes : List ℕ) (d e : Dictionary) → later ≡ waiting ++ bytes → CanonMessage set d bytes m e → HasWritten set messages taken waiting d → HasWritten set (messages ++ m ∷ []) taken later e
written_more set messages m taken waiting later bytes d e is form has =
    subst (λ l. CanonFrom set map.empty l (messages ++ m ∷ []) e) (append_assoc taken waiting bytes ∙ ap (λ l. taken ++ l) (sym is)) (canon_more set messages m map.empty (taken ++ waiting) bytes d e has form)

-- ---- messages in a row

messages_more : (ms : List Content) (m : Content) → marks_of_messages (ms ++ m ∷ []) ≡ marks_of_messages ms ++ marks_of_messages (m ∷ [])
messages_more [] m = refl
messages_more (k ∷ ms) m = ap (λ ks. segment (of_message k.template) (marks_in k.items) ++ ks) (messages_more ms m) ∙ sym (append_assoc (segment (of_message k.template) (marks_in k.items)) (marks_of_messages ms) (marks_of_messages (m ∷ [])))

pub begins_more : (bytes : List ℕ) (nodes : List TapeNode) (at count : ℕ) (ms : List Content) (m : Content) → BeginWith bytes nodes at ms → BeginWith bytes (drop at nodes) count (m ∷ []) → BeginWith bytes nodes (at + count) (ms ++ m ∷ [])
begins_more bytes nodes at count ms m a b = record {
  within = omega (arith, a.within, b.within, length-drop at nodes);
  tape = subst (λ ks. SayAll bytes ks (take (at + count) nodes)) (sym (messages_more ms m)) (says_behind bytes (marks_of_messages ms) (marks_of_messages (m ∷ [])) nodes at count a.tape b.tape);
}

-- a message has a node
pub some_node : (bytes : List ℕ) (nodes : List TapeNode) (count : ℕ) (m : Content) → BeginWith bytes nodes count (m ∷ []) → 1 ≤ count
some_node bytes nodes zero m b = absurd b.tape
some_node bytes nodes (suc n) m b = omega arith
