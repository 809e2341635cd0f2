-- Lemmas on a machine that goes from packet to packet.
use Rattle.std.proofs.Common.{Bool, true, false, List, ℕ, [], ◌∷◌, ◌++◌, ◌≡◌, ◌≢◌, ◌⊎◌, inr, Option, Some, None, OnOk, Result, Ok, Err, refl, sym, ap, subst, ◌∙◌, append-nil, length}
use Rattle.std.proofs.lemmas.Bool.{true≢false}
use Rattle.std.specs.FinMap as finite
use Rattle.fast_wire.specs.Integer.{IsUnsigned}
use Rattle.fast_wire.specs.Writing.{AppendsShortest, IsShortest}
use Rattle.fast_template.specs.Resolved.{Resolved}
use Rattle.fast_template.specs.TemplateSets.{templates_in}
use Rattle.fast_dictionary.specs.Dictionary.{Dictionary}
use Rattle.fast_dictionary.specs.declared.entries.Entries.{Ghosts}
use Rattle.fast_stream.specs.declared.fault.Cause.{Cause}
use Rattle.fast_stream.specs.declared.fault.Fault.{Fault}
use Rattle.fast_stream.specs.declared.mode.Framing.{Framing}
use Rattle.fast_stream.specs.declared.mode.Framing.TheVariants.{Plain}
use Rattle.fast_stream.specs.Modes.{plainly}
use Rattle.fast_stream.specs.Nodes.{Content}
use Rattle.fast_walk.specs.Received.{handed_on}
use Rattle.fast_walk.specs.declared.receiver.Receiver.{Ghosts as Receiving}
use Rattle.fast_machine.proofs.Followings.{has_kept}
use Rattle.fast_machine.specs.Following.{Follows, mode_of}
use Rattle.fast_machine.specs.declared.machine.Machine.{Machine}
use Rattle.fast_machine.specs.declared.reached.Reached.{Reached}
use Rattle.fast_pass.proofs.Relayings.{IsMade, goes_on}
use Rattle.fast_pass.specs.Relays.{HandsOn, HasMade, Making, Relays, Way, outset}
use Rattle.fast_pass.specs.declared.stop.Stop.{Stop}
use Rattle.fast_recording.proofs.Labels.{part_on, writes_on}
use Rattle.fast_recording.specs.Handing.{HandsLines}
use Rattle.fast_recording.specs.PacketLines.{Writes}
use Rattle.fast_recording.specs.declared.packet_lines.PacketLines.{PacketLines}
use Rattle.fast_recording.specs.Packets.{LeavesPacket, PutsPacket, Rests}

-- what is reached is open where it is no end and no fault
pub is_open : (at : Reached) → at ≢ Reached.End → ((f : Fault) → at ≡ Reached.Fault f → ⊥) → at ≡ Reached.Open
is_open Reached.Open end fault = refl
is_open Reached.End end fault = absurd (end refl)
is_open (Reached.Fault f) end fault = absurd (fault f refl)

pub is_none : (o : Option Cause) → ((c : Cause) → o ≡ Some c → ⊥) → o ≡ None
is_none None some = refl
is_none (Some c) some = absurd (some c refl)

-- once all is handed on, a new stream can begin
abbrev pub Renews : {O : Type 0} → Receiving O → (O → List ℕ) → Type 0
Renews {O = O} receiver waiting = (w : O) (set : List Resolved) (ms : List Content) (d : Dictionary) → waiting w ≡ [] → receiver.keeps w set ms d ⊎ receiver.stands w set ms d
    → receiver.stands w set (handed_on [] ∷ []) finite.empty

-- a size that was appended to nothing
pub size_in_front : {old new : List ℕ} {n : ℕ} → old ≡ [] → AppendsShortest IsUnsigned old new n → IsShortest IsUnsigned new n
size_in_front {n = n} none w = let same = w.1 ∙ ap (λ (z : List ℕ). z ++ w.0) none in subst (λ (z : List ℕ). IsShortest IsUnsigned z n) (sym same) w.2

-- what is told of a machine

pub has_of : {O E : Type 0} {receiver : Receiving O} {entries : Ghosts E} (m : Machine O E receiver entries) (way : Way) → Follows m (handed_on way.handed ∷ way.messages) way.input way.messages → HasMade m way
has_of {receiver = receiver} {entries = entries} m way f =
    has_kept receiver.has receiver.stands receiver.keeps m.traversal m.receiver (entries.contents m.entries) (handed_on way.handed ∷ way.messages) m.fault m.framing m.left m.held.items m.waiting way.input way.messages f.at

pub plain_mode : {O E : Type 0} {receiver : Receiving O} {entries : Ghosts E} (m : Machine O E receiver entries) → m.framing ≡ Plain → mode_of m ≡ plainly m.traversal.level
plain_mode m plain = ap (λ (f : Framing). record { level = m.traversal.level; framing = f }) plain

module _ {O E : Type 0} {receiver : Receiving O} {entries : Ghosts E} (waiting : O → List ℕ) (makes : Making) where
  pub begins : IsMade receiver waiting makes → Renews receiver waiting → (old new : Machine O E receiver entries) → Rests waiting old → new.fault ≡ None
      → ((before : List Content) → receiver.stands old.receiver (templates_in old.traversal.set.now) before finite.empty → Follows new before [] [])
      → (turns : ℕ) (left : Option (List ℕ)) → Relays waiting makes Reached.Open new turns left outset
  begins law renews old new rests fault follows turns left =
      let way = rests.1 in
      let has = rests.2 in
      goes_on law new turns left outset fault (follows (handed_on [] ∷ []) (renews old.receiver (templates_in old.traversal.set.now) (handed_on way.handed ∷ way.messages) has.0 rests.0 has.1))

  pub made_of : IsMade receiver waiting makes → (m : Machine O E receiver entries) (way : Way) → Follows m (handed_on way.handed ∷ way.messages) way.input way.messages → makes (templates_in m.traversal.set.now) way.messages (way.handed ++ waiting m.receiver)
  made_of law m way f = let has = has_of m way f in law m.receiver (templates_in m.traversal.set.now) way.handed way.messages has.0 has.1

-- all that waited was handed on
pub all_handed : {O E : Type 0} {receiver : Receiving O} {entries : Ghosts E} {waiting : O → List ℕ} {makes : Making} {old new : Machine O E receiver entries} {t u : Option (List ℕ)} {more : List ℕ} {count : ℕ}
    → HandsOn waiting makes old new t u more count → waiting new.receiver ≡ [] → waiting old.receiver ≡ more
all_handed {more = more} h empty = h.whole ∙ ap (λ (z : List ℕ). more ++ z) empty ∙ append-nil more

module _ {O E : Type 0} {receiver : Receiving O} {entries : Ghosts E} (waiting : O → List ℕ) (makes : Making) (x y : PacketLines) (old new : Machine O E receiver entries) (t u : Option (List ℕ)) where
  pub leaves_of : (result : Result (Unit {0}) Stop) (sized : Bool) → sized ≡ false → HandsLines waiting makes result x y old new t u → OnOk result (waiting new.receiver ≡ []) → LeavesPacket sized waiting result x y old new t u
  leaves_of result true off h empty = absurd (true≢false off)
  leaves_of (Ok done) false off h empty =
      let all = all_handed h.1 empty in
      record { writes = rw (all) h.2; empty = empty; has = λ way x. rw (all) (h.1.has way x) }
  leaves_of (Err s) false off h empty = inr (refl, h)

  pub puts_of : (result : Result (Unit {0}) Stop) (sized : Bool) → sized ≡ false → HandsLines waiting makes result x y old new t u → OnOk result (waiting new.receiver ≡ []) → PutsPacket sized waiting result x y old new t u
  puts_of result true off h empty = absurd (true≢false off)
  puts_of (Ok done) false off h empty =
      let all = all_handed h.1 empty in
      record { size = []; leads = refl; writes = rw (all) h.2; empty = empty; has = λ way x. rw (all) (h.1.has way x) }
  puts_of (Err s) false off h empty = inr ([], refl, h)

-- behind a size that was written
pub puts_behind : {O E : Type 0} {receiver : Receiving O} {entries : Ghosts E} (waiting : O → List ℕ) (makes : Making) {x y : PacketLines} (z : PacketLines) (old new : Machine O E receiver entries) {t u : Option (List ℕ)} (v : Option (List ℕ)) (size : List ℕ) (result : Result (Unit {0}) Stop)
    → IsShortest IsUnsigned size (length (waiting old.receiver)) → Writes x y t u size → HandsLines waiting makes result y z old new u v → OnOk result (waiting new.receiver ≡ []) → PutsPacket true waiting result x z old new t v
puts_behind waiting makes z old new v size (Ok done) leads w h empty =
    let all = all_handed h.1 empty in
    record { size = size; leads = leads; writes = writes_on w (rw (all) h.2); empty = empty; has = λ way x. rw (all) (h.1.has way x) }
puts_behind waiting makes z old new v size (Err s) leads w h empty = inr (size, leads, part_on (waiting old.receiver) w h)
