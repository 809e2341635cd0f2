-- What holds of a builder whose finished messages are exchanged.
use Rattle.fast_decoder.proofs.Common.{◌≡◌, ℕ, List, map, Option, inl, inr, refl, subst, Vec, Resolved, Dictionary, Framing, Builder, Fault, Message, Traversal, Content, content_of, Next, at_instruction, Received, behind, IsBuilt, IsNextBuilt, with_whole, FollowsAt, follows_behind, has_kept}

abbrev pub BuilderHas : Builder → Received → Dictionary → Type 0
BuilderHas b o d = IsBuilt b o

abbrev pub BuilderStands : Builder → List Resolved → List Content → Dictionary → Type 0
BuilderStands b set ms d = ms ≡ map content_of b.whole.items

next_built : (b : Builder) (v : Vec Message) (next : Next) → IsNextBuilt b next → IsNextBuilt (with_whole b v) next
next_built b v at_instruction h = h
next_built b v next h = h

built_behind : (b : Builder) (v : Vec Message) (o : Received) → IsBuilt b o → IsBuilt (with_whole b v) (behind o (map content_of v.items))
built_behind b v o h = record { before = refl; template = h.template; next = next_built b v o.next h.next; done = h.done; around = h.around }

-- a builder that has these messages in place of those that were finished
pub follows_rebased : (fault : Option Fault) (framing : Framing) (left : ℕ) (t : Traversal) (b : Builder) (v : Vec Message) (d : Dictionary) (held : List ℕ) (waiting : ℕ) (before : List Content) (bytes : List ℕ) (messages : List Content) (whole : List Message)
    → v.items ≡ whole → FollowsAt BuilderHas BuilderStands BuilderStands fault framing left t b d held waiting before bytes messages
    → FollowsAt BuilderHas BuilderStands BuilderStands fault framing left t (with_whole b v) d held waiting (map content_of whole) bytes messages
follows_rebased fault framing left t b v d held waiting before bytes messages whole is f =
    subst (λ (xs : List Message). FollowsAt BuilderHas BuilderStands BuilderStands fault framing left t (with_whole b v) d held waiting (map content_of xs) bytes messages) is
    (follows_behind BuilderHas BuilderStands BuilderStands t b d before (with_whole b v) (map content_of v.items) (λ o same h. built_behind b v o h) (λ set e h. refl) (λ set e h. refl) fault framing left held waiting bytes messages f)

-- the messages before are those that are finished
pub whole_of_follows : (fault : Option Fault) (framing : Framing) (left : ℕ) (t : Traversal) (b : Builder) (d : Dictionary) (held : List ℕ) (waiting : ℕ) (before : List Content) (bytes : List ℕ) (messages : List Content)
    → FollowsAt BuilderHas BuilderStands BuilderStands fault framing left t b d held waiting before bytes messages → before ≡ map content_of b.whole.items
whole_of_follows fault framing left t b d held waiting before bytes messages f =
    elim (has_kept BuilderHas BuilderStands BuilderStands t b d before fault framing left held waiting bytes messages f).1 [ inl is ↦ is | inr is ↦ is ]
