-- What a machine follows whose builder has other messages that wait.
use Rattle.std.proofs.Common.{◌≡◌, ℕ, List, [], Option, length, take, drop, sym, subst, ap, ◌++◌, ◌∙◌, inl, inr}
use Rattle.std.proofs.Math.Seq.{take-append_seam, drop-append_seam}
use Rattle.fast_template.specs.Resolved.{Resolved}
use Rattle.fast_dictionary.specs.Dictionary.{Dictionary}
use Rattle.fast_stream.specs.Nodes.{Content}
use Rattle.fast_stream.specs.declared.mode.Framing.{Framing}
use Rattle.fast_stream.specs.declared.fault.Fault.{Fault}
use Rattle.fast_walk.specs.Received.{Received, behind}
use Rattle.fast_walk.specs.declared.traversal.Traversal.{Traversal}
use Rattle.fast_machine.specs.Following.{FollowsAt}
use Rattle.fast_machine.proofs.Followings.{follows_behind, has_kept}
use Rattle.fast_tape.specs.declared.builder.TapeBuilder.{TapeBuilder}
use Rattle.fast_tape.specs.declared.tape.Tape.{Tape}
use Rattle.fast_tape.specs.Building.{HasTape, HasWaiting}
use Rattle.fast_tape.specs.Tapes.{SayAll}
use Rattle.fast_tape.specs.Waiting.{Forgets}

abbrev pub BuilderHas : TapeBuilder → Received → Dictionary → Type 0
BuilderHas b o d = HasTape b o

abbrev pub BuilderStands : TapeBuilder → List Resolved → List Content → Dictionary → Type 0
BuilderStands b set ms d = HasWaiting b ms

-- the messages before are those that wait
pub waits : (fault : Option Fault) (framing : Framing) (left : ℕ) (t : Traversal) (b : TapeBuilder) (d : Dictionary) (held : List ℕ) (waiting : ℕ) (before : List Content) (bytes : List ℕ) (messages : List Content)
    → FollowsAt BuilderHas BuilderStands BuilderStands fault framing left t b d held waiting before bytes messages → HasWaiting b before
waits fault framing left t b d held waiting before bytes messages f =
    elim (has_kept BuilderHas BuilderStands BuilderStands t b d before fault framing left held waiting bytes messages f).1 [ inl is ↦ is | inr is ↦ is ]

none_waits : (b c : TapeBuilder) → Forgets b c → HasWaiting c []
none_waits b c f = (subst (λ ns. SayAll c.whole.bytes.items [] ns) (sym f.0) tt, f.2)

tape_behind : (b c : TapeBuilder) (o : Received) → Forgets b c → HasTape b o → HasTape c (behind o [])
tape_behind b c o f h = record { before = none_waits b c f; inside = rw (f.3) h.inside; exponent = rw (f.4) h.exponent }

-- a builder that has forgotten those that waited
pub forgets : (fault : Option Fault) (framing : Framing) (left : ℕ) (t : Traversal) (b c : TapeBuilder) (d : Dictionary) (held : List ℕ) (waiting : ℕ) (before : List Content) (bytes : List ℕ) (messages : List Content)
    → Forgets b c → FollowsAt BuilderHas BuilderStands BuilderStands fault framing left t b d held waiting before bytes messages
    → FollowsAt BuilderHas BuilderStands BuilderStands fault framing left t c d held waiting [] bytes messages
forgets fault framing left t b c d held waiting before bytes messages f =
    follows_behind BuilderHas BuilderStands BuilderStands t b d before c [] (λ o same h. tape_behind b c o f h) (λ set e h. none_waits b c f) (λ set e h. none_waits b c f) fault framing left held waiting bytes messages

-- the front of a room that has these in front
pub front_is : {A : Type 0} (xs ys room : List A) (n : ℕ) → n ≡ length xs → room ≡ xs ++ ys → take n room ≡ xs
front_is xs ys room n e h = ap (λ k. take k room) e ∙ ap (λ r. take (length xs) r) h ∙ take-append_seam xs ys

pub rest_is : {A : Type 0} (xs ys room : List A) (n : ℕ) → n ≡ length xs → room ≡ xs ++ ys → drop n room ≡ ys
rest_is xs ys room n e h = ap (λ k. drop k room) e ∙ ap (λ r. drop (length xs) r) h ∙ drop-append_seam xs ys

pub none_left : (b c d : TapeBuilder) → Forgets b c → d.whole ≡ c.whole → d.messages ≡ c.messages → HasWaiting d []
none_left b c d f whole messages = (subst (λ (t : Tape). SayAll t.bytes.items [] t.nodes.items) (sym whole) (none_waits b c f).0, messages ∙ f.2)
