-- How a stream follows its reader.
use Rattle.std.proofs.Common.{◌≡◌, ◌≢◌, ◌≤◌, ℕ, ◌+◌, List, [], ◌∷◌, ◌++◌, length, take, Option, refl, sym, ap, subst, ◌∙◌, arith, append_assoc, length-append, length-take}
use Rattle.std.specs.Io.KnownBytes.{Consumes, Keeps, IsAtEnd}
use Rattle.fast_io.specs.Counts.{counted}
use Rattle.fast_template.specs.Resolved.{Resolved}
use Rattle.fast_machine.specs.declared.reached.Reached.{Reached}
use Rattle.fast_stream.specs.declared.fault.Cause.{Cause}
use Rattle.fast_stream.specs.declared.fault.Fault.{Fault}
use Rattle.fast_stream.specs.declared.mode.Mode.{Mode}
use Rattle.fast_stream.specs.declared.place.Place.{Place}
use Rattle.fast_stream.specs.Nodes.{Content}
use Rattle.fast_machine.specs.Following.{IsCutAt, Refused}
use Rattle.fast_stream.specs.Blocks.{Stand, at_start}
use Rattle.fast_stream.specs.Modes.{CarriesFrom, FirstFault}
use Rattle.fast_machine.specs.Standing.{Carried}
use Rattle.fast_machine.specs.Inputs.{Causes, HasReached, IsCaused, IsFaultOf, OnFault, Reader, Reads, RefusedBy, Refuses}
use Rattle.fast_machine.proofs.Followings.{all_carried}
use Rattle.fast_stream.proofs.Causes.{IsOfBytes, of_mode}
use Rattle.std.proofs.KnownBytes.{Consumes-kept, Consumes-nil, Consumes-trans}

by_bytes : (c : Cause) (mode : Mode) (set : List Resolved) (turns : ℕ) (left : Option (List ℕ)) (bytes : List ℕ) (place : Place) → (c ≡ Cause.Truncated → IsAtEnd left) → (c ≢ Cause.Memory → FirstFault mode set bytes place c)
    → (c ≡ Cause.Memory → (place.offset ≡ 0) × (place.template ≡ 0) × (place.instruction ≡ 0)) → RefusedBy c mode set turns left bytes place
by_bytes Cause.Truncated mode set turns left bytes place more first memory = (first (λ e. absurd cc), more refl)
by_bytes Cause.Read mode set turns left bytes place more first memory = absurd (of_mode mode set bytes place Cause.Read (first (λ e. absurd cc)))
by_bytes Cause.Turns mode set turns left bytes place more first memory = absurd (of_mode mode set bytes place Cause.Turns (first (λ e. absurd cc)))
by_bytes Cause.Memory mode set turns left bytes place more first memory = memory refl
by_bytes c mode set turns left bytes place more first memory = first (λ e. absurd cc)

-- a fault of the bytes, inside a message only where the reader has ended, or want of memory
pub refused_by_bytes : (f : Fault) (mode : Mode) (set : List Resolved) (turns : ℕ) (left : Option (List ℕ)) (bytes : List ℕ) (messages : List Content) → (f.cause ≡ Cause.Truncated → IsAtEnd left) → Refused f mode set bytes messages → Refuses mode set turns left bytes messages f
refused_by_bytes f mode set turns left bytes messages more r = record { carried = r.0; behind = r.1; refused = by_bytes f.cause mode set turns left bytes f.place more r.2 r.3 }

-- ---- what waits

-- a first fault is none that bytes cannot have
pub of_bytes : (f : Fault) (mode : Mode) (set : List Resolved) (bytes : List ℕ) → (f.cause ≢ Cause.Memory → FirstFault mode set bytes f.place f.cause) → f.cause ≢ Cause.Truncated
    → (f.cause ≢ Cause.Truncated) × (f.cause ≢ Cause.Read) × (f.cause ≢ Cause.Turns)
of_bytes f mode set bytes first more =
    (more, (λ e. subst (IsOfBytes mode.level) e (of_mode mode set bytes f.place f.cause (first (λ m. absurd cc)))), (λ e. subst (IsOfBytes mode.level) e (of_mode mode set bytes f.place f.cause (first (λ m. absurd cc)))))

-- ---- one read

pub none_read : (a : Reader) → Reads a a 0 []
none_read a = record { consumed = Consumes-nil a.left; called = omega arith; few = omega arith }

pub one_read : (a b : Reader) (n : ℕ) (buf : List ℕ) → b.calls ≡ counted a.calls → Consumes a.left b.left (take n buf) → length buf ≤ 4096 → Reads a b 1 (take n buf)
one_read a b n buf call gave room = record { consumed = gave; called = call; few = let size = length-take n buf in omega (arith, size, room) }

pub failed_read : (a b : Reader) → b.calls ≡ counted a.calls → Keeps a.left b.left → Reads a b 1 []
failed_read a b call kept = record { consumed = Consumes-kept a.left a.left b.left [] (Consumes-nil a.left) kept; called = call; few = omega arith }

pub empty_read : (a b : Reader) (n : ℕ) (buf : List ℕ) → b.calls ≡ counted a.calls → Consumes a.left b.left (take n buf) → n ≡ 0 → Reads a b 1 []
empty_read a b n buf call gave none = record { consumed = rw none at gave; called = call; few = omega arith }

pub more_read : (a b c : Reader) (k : ℕ) (got more : List ℕ) → Reads a b k got → Reads b c 1 more → Reads a c (k + 1) (got ++ more)
more_read a b c k got more r one = record {
  consumed = Consumes-trans a.left b.left c.left got more r.consumed one.consumed;
  called = let before = r.called in let now = one.called in omega (arith, before, now);
  few = let before = r.few in let now = one.few in let size = length-append got more in omega (arith, before, now, size);
}

-- ---- where it has come to

pub reached_with : (at : Reached) (P Q : Type 0) (mode : Mode) (set : List Resolved) (turns : ℕ) (left : Option (List ℕ)) (bytes : List ℕ) (messages : List Content) → (P → Q) → HasReached at P mode set turns left bytes messages
    → HasReached at Q mode set turns left bytes messages
reached_with Reached.Open P Q mode set turns left bytes messages f h = f h
reached_with at P Q mode set turns left bytes messages f h = h

pub refused_by_read : (f : Fault) (mode : Mode) (set : List Resolved) (turns : ℕ) (left : Option (List ℕ)) (bytes : List ℕ) (messages : List Content) → f.cause ≡ Cause.Read → IsCutAt mode set bytes messages f.place → Refuses mode set turns left bytes messages f
refused_by_read f mode set turns left bytes messages is cut =
    record { carried = cut.carried; behind = cut.behind; refused = subst (λ (c : Cause). RefusedBy c mode set turns left bytes f.place) (sym is) cut.at }

pub refused_by_turns : (f : Fault) (mode : Mode) (set : List Resolved) (turns : ℕ) (left : Option (List ℕ)) (bytes : List ℕ) (messages : List Content) → f.cause ≡ Cause.Turns → IsCutAt mode set bytes messages f.place → turns ≤ length bytes
    → Refuses mode set turns left bytes messages f
refused_by_turns f mode set turns left bytes messages is cut many =
    record { carried = cut.carried; behind = cut.behind; refused = subst (λ (c : Cause). RefusedBy c mode set turns left bytes f.place) (sym is) (cut.at, many) }

pub caused_by_feed : (at : Reached) (old new : Reader) → at ≢ Reached.End → OnFault at (λ c. (c ≢ Cause.Truncated) × (c ≢ Cause.Read) × (c ≢ Cause.Turns)) → new.errors ≡ old.errors → new.ends ≡ old.ends → IsCaused at ⊥ old new
caused_by_feed Reached.Open old new some of same none = (same, none)
caused_by_feed Reached.End old new some of same none = absurd (some refl)
caused_by_feed (Reached.Fault f) old new some of same none = record { read = λ e. absurd (of.1 e); unfailed = λ e. same; met = λ e. absurd (of.0 e); unmet = λ e. none; turns = λ e. absurd (of.2 e) }

pub caused_by_end : (f : Fault) (old new : Reader) → f.cause ≡ Cause.Truncated → new.ends ≡ counted old.ends → new.errors ≡ old.errors → IsCaused (Reached.Fault f) ⊥ old new
caused_by_end f old new of met same = record { read = λ e. absurd cc; unfailed = λ e. same; met = λ e. met; unmet = λ e. absurd (e of); turns = λ e. absurd cc }

pub caused_by_read : (f : Fault) (old new : Reader) → f.cause ≡ Cause.Read → new.errors ≡ counted old.errors → new.ends ≡ old.ends → IsCaused (Reached.Fault f) ⊥ old new
caused_by_read f old new is failed none = record { read = λ e. failed; unfailed = λ e. absurd (e is); met = λ e. absurd cc; unmet = λ e. none; turns = λ e. absurd cc }

pub caused_by_turns : (f : Fault) (P : Type 0) (old new : Reader) → f.cause ≡ Cause.Turns → new.errors ≡ old.errors → new.ends ≡ old.ends → P → IsCaused (Reached.Fault f) P old new
caused_by_turns f P old new is same none p = record { read = λ e. absurd cc; unfailed = λ e. same; met = λ e. absurd cc; unmet = λ e. none; turns = λ e. p }

-- ---- what was answered

front_carries : (mode : Mode) (set : List Resolved) (xs ys : List Content) (s : Stand) (bytes : List ℕ) (after : Stand) → CarriesFrom mode set s bytes (xs ++ ys) after
    → (front : List ℕ) × (rest : List ℕ) × (mid : Stand) × (bytes ≡ front ++ rest) × CarriesFrom mode set s front xs mid
front_carries mode set [] ys s bytes after h = ([], bytes, s, refl, (refl, refl))
front_carries mode set (x ∷ xs) ys s bytes after h =
    let f = front_carries mode set xs ys h.between h.back after h.second in (
      h.front ++ f.0,
      f.1,
      f.2,
      h.parts ∙ ap (λ (zs : List ℕ). h.front ++ zs) f.3 ∙ sym (append_assoc h.front f.0 f.1),
      record { between = h.between; front = h.front; back = f.0; parts = refl; first = h.first; second = f.4 },
    )

pub front_carried : (mode : Mode) (set : List Resolved) (bytes : List ℕ) (xs ys : List Content) → Carried mode set bytes (xs ++ ys) → Carried mode set bytes xs
front_carried mode set bytes xs ys c =
    let f = front_carries mode set xs ys at_start c.front c.start c.carried in
    record { front = f.0; rest = f.1 ++ c.rest; start = f.2; parts = c.parts ∙ ap (λ (zs : List ℕ). zs ++ c.rest) f.3 ∙ append_assoc f.0 f.1 c.rest; carried = f.4; ends = tt }

pub reached_carried : (at : Reached) (P : Type 0) (mode : Mode) (set : List Resolved) (turns : ℕ) (left : Option (List ℕ)) (bytes : List ℕ) (messages : List Content) → (P → Carried mode set bytes messages) → HasReached at P mode set turns left bytes messages
    → Carried mode set bytes messages
reached_carried Reached.Open P mode set turns left bytes messages f h = f h
reached_carried Reached.End P mode set turns left bytes messages f h = all_carried mode set bytes messages h.carried
reached_carried (Reached.Fault fault) P mode set turns left bytes messages f h = h.carried

-- ---- causes

pub causes_none : (at : Reached) (a : Reader) → Causes at at ⊥ a a
causes_none Reached.Open a = (refl, refl)
causes_none at a = (refl, refl)

caused_from : (at : Reached) (P Q : Type 0) (a b c : Reader) → (P → Q) → b.errors ≡ a.errors → b.ends ≡ a.ends → IsCaused at P b c → IsCaused at Q a c
caused_from Reached.Open P Q a b c f same none h = (h.0 ∙ same, h.1 ∙ none)
caused_from Reached.End P Q a b c f same none h = (h.0 ∙ ap counted none, h.1 ∙ same)
caused_from (Reached.Fault g) P Q a b c f same none h =
    record { read = λ e. h.read e ∙ ap counted same; unfailed = λ e. h.unfailed e ∙ same; met = λ e. h.met e ∙ ap counted none; unmet = λ e. h.unmet e ∙ none; turns = λ e. f (h.turns e) }

pub causes_on : (before now next : Reached) (a b c : Reader) → now ≡ Reached.Open → Causes before now ⊥ a b → IsCaused next ⊥ b c → Causes before next ⊥ a c
causes_on Reached.Open now next a b c is h one = let both = rw is at h in caused_from next ⊥ ⊥ a b c (λ e. e) both.0 both.1 one
causes_on before now next a b c is h one = absurd cc

pub causes_weaker : (before now : Reached) (P : Type 0) (a b : Reader) → Causes before now ⊥ a b → Causes before now P a b
causes_weaker Reached.Open now P a b h = caused_from now ⊥ P a a b (λ e. absurd e) refl refl h
causes_weaker before now P a b h = h

used_from : (before next : Reached) (P : Type 0) (a b : Reader) → Causes before Reached.Open ⊥ a b → IsFaultOf Cause.Turns next → P → Causes before next P a b
used_from Reached.Open (Reached.Fault f) P a b h is p = caused_by_turns f P a b is h.0 h.1 p
used_from Reached.Open next P a b h is p = absurd is
used_from before next P a b h is p = absurd cc

-- where no message waits and no read is to be made
pub causes_end : (before now next : Reached) (P : Type 0) (a b : Reader) → Causes before now ⊥ a b → (now ≡ Reached.Open → P) → (now ≡ Reached.Open → IsFaultOf Cause.Turns next) → (now ≢ Reached.Open → next ≡ now)
    → Causes before next P a b
causes_end before Reached.Open next P a b h p used same = used_from before next P a b h (used refl) (p refl)
causes_end before now next P a b h p used same = subst (λ (r : Reached). Causes before r P a b) (sym (same (λ e. absurd cc))) (causes_weaker before now P a b h)
