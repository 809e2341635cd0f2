-- What was told of bytes without a fault is what they carry, and there may be a front of one more.
use Rattle.fast_machine.proofs.Common.{None, ◌≡◌, ℕ, length, List, refl, subst, inl, inr, AllByRecursion, HaveTypedParts, templates_in, Dictionary, Traversal, Content, Framing, MessageStop, place_of, Truncated, Reading, Ghosts, Machine, Stands, framed_as, Follows, Waits, mode_of}
use Rattle.fast_walk.specs.declared.receiver.Receiver.{Ghosts as Receiving}
use Rattle.fast_machine.proofs.Runs.{carried_of}
use Rattle.fast_machine.proofs.Followings.{carries_all, first_fault}
use Rattle.fast_machine.specs.Progress.{IsUnended}

are_unended : (framing : Framing) (left : ℕ) (G : Dictionary → (List ℕ → Reading) → Type 0) (t : Traversal) (held : List ℕ) (waiting : ℕ) (bytes : List ℕ) (messages : List Content) → AllByRecursion (λ t. HaveTypedParts t.members) (templates_in t.set.now)
    → Stands framing left G t held bytes messages × Waits framing left t held waiting bytes messages → IsUnended (framed_as framing t) (templates_in t.set.now) bytes messages
are_unended framing left G t held waiting bytes messages typed (stands, inl at) =
    inl (carries_all framing left G t bytes messages at.0 at.2 (subst (λ (xs : List ℕ). Stands framing left G t xs bytes messages) at.1 stands))
are_unended framing left G t held waiting bytes messages typed (stands, inr s) =
    let stop : MessageStop = record { template = t.template; stop = record { cause = Truncated; instruction = waiting; left = length held } } in
    inr (place_of (length bytes) (length messages) stop, carried_of stands, refl, first_fault (framed_as framing t) (templates_in t.set.now) typed bytes messages stop s)

pub unended_by : {R E : Type 0} {receiver : Receiving R} {entries : Ghosts E} (m : Machine R E receiver entries) (before : List Content) (bytes : List ℕ) (messages : List Content) → AllByRecursion (λ t. HaveTypedParts t.members) (templates_in m.traversal.set.now)
    → m.fault ≡ None → Follows m before bytes messages → IsUnended (mode_of m) (templates_in m.traversal.set.now) bytes messages
unended_by m before bytes messages typed none f =
    let at = rw (none) at f.at in
    are_unended m.framing m.left _ m.traversal m.held.items m.waiting bytes messages typed at
