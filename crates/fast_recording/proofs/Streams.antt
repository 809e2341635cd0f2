-- What a machine says of the stream of a packet.
use Rattle.std.proofs.Common.{List, ℕ, suc, ◌++◌, ◌+◌, ◌≡◌, ◌≢◌, ◌⊎◌, inl, inr, Option, Some, None, length, refl, sym, ap, subst, ◌∙◌, arith, true, append-nil, length-append}
use Rattle.std.proofs.lemmas.List.{nil_from_length}
use Rattle.fast_wire.specs.declared.level.Level.{Level}
use Rattle.fast_template.specs.Resolved.{Resolved}
use Rattle.fast_template.specs.TemplateSets.{IsSound, TemplateList, templates_in}
use Rattle.fast_stream.specs.declared.fault.Cause.{Cause}
use Rattle.fast_stream.specs.declared.fault.Fault.{Fault}
use Rattle.fast_stream.specs.declared.mode.Mode.{Mode}
use Rattle.fast_stream.specs.declared.place.Place.{Place}
use Rattle.fast_stream.specs.Nodes.{Content}
use Rattle.fast_stream.specs.Blocks.{at_start, block_cause}
use Rattle.fast_stream.specs.Faults.{place_between}
use Rattle.fast_stream.specs.Modes.{Carries, EndsBetween, FirstFault, StreamReading, messages_at, plainly, stream_at}
use Rattle.fast_stream.proofs.ModeStreams.{carried_is_read, continues, fault_is_read}
use Rattle.fast_machine.specs.Standing.{Carried}
use Rattle.fast_machine.specs.Inputs.{RefusedBy, Refuses}
use Rattle.fast_packets.specs.Outcomes.{Stops}
use Rattle.fast_packets.proofs.Readers.{packet_reader}
use Rattle.fast_recording.specs.Packets.{FaultOf, IsMissing}

-- a refusal that is no device's and no want of bytes or memory is the first fault
pub first_fault : (c : Cause) (mode : Mode) (set : List Resolved) (turns : ℕ) (left : Option (List ℕ)) (bytes : List ℕ) (place : Place) → c ≢ Cause.Truncated → c ≢ Cause.Read → c ≢ Cause.Turns → c ≢ Cause.Memory
    → RefusedBy c mode set turns left bytes place → FirstFault mode set bytes place c
first_fault Cause.Truncated mode set turns left bytes place t r u m h = absurd (t refl)
first_fault Cause.Read mode set turns left bytes place t r u m h = absurd (r refl)
first_fault Cause.Turns mode set turns left bytes place t r u m h = absurd (u refl)
first_fault Cause.Memory mode set turns left bytes place t r u m h = absurd (m refl)
first_fault c mode set turns left bytes place t r u m h = h

-- a cause stays where all bytes have come, but for want of more
pub same_cause : (c : Cause) → c ≢ Cause.Truncated → c ≡ block_cause true c
same_cause Cause.Truncated other = absurd (other refl)
same_cause c other = refl

module _ (set : TemplateList) (sound : IsSound set) (level : Level) where
  -- messages that a front of the stream carries are the first that are read
  front_read : (bytes : List ℕ) (ms : List Content) → Carried (plainly level) (templates_in set) bytes ms → (more : List Content) × ((stream_at (plainly level) (templates_in set) bytes).messages ≡ ms ++ more)
  front_read bytes ms c =
      let sizes = ap (λ (z : List ℕ). length z) c.parts in
      let g = continues (plainly level) (templates_in set) (packet_reader set sound level) ms (suc (length bytes)) at_start c.start c.front c.rest c.carried (omega (arith, sizes)) in
      (_, ap (λ (z : List ℕ). (messages_at (plainly level) (suc (length bytes)) (templates_in set) at_start z).messages) c.parts ∙ ap (λ (r : StreamReading). r.messages) g.reads)

  -- as many of them as are read are all
  all_read : (read ms more : List Content) → read ≡ ms ++ more → length read ≡ length ms → read ≡ ms
  all_read read ms more e same =
      let none = nil_from_length more (omega (arith, ap (λ (z : List Content). length z) e ∙ length-append ms more, same)) in
      e ∙ ap (λ (z : List Content). ms ++ z) none ∙ append-nil ms

  -- the messages before a fault are those that were found
  pub stops_of : (bytes : List ℕ) (ms : List Content) (place : Place) (cause : Cause) → Carried (plainly level) (templates_in set) bytes ms → place.message ≡ length ms + 1 → FirstFault (plainly level) (templates_in set) bytes place cause
      → Stops level (templates_in set) bytes ms place cause
  stops_of bytes ms place cause c behind f =
      let r = front_read bytes ms c in
      let read : f.messages ≡ ms ++ r.0 = ap (λ (x : StreamReading). x.messages) (sym (fault_is_read (plainly level) (templates_in set) (packet_reader set sound level) bytes place cause f)) ∙ r.1 in
      let count : place.message ≡ length f.messages + 1 = ap (λ (p : Place). p.message) f.place_is in
      record { fault = f; before = all_read f.messages ms r.0 read (omega (arith, count, behind)) }

  -- and so are those of a stream that ends between two
  pub missing_of : (bytes : List ℕ) (ms : List Content) (place : Place) → Carried (plainly level) (templates_in set) bytes ms → place.message ≡ length ms + 1
      → FirstFault (plainly level) (templates_in set) bytes place Cause.Truncated ⊎ EndsBetween (plainly level) (templates_in set) bytes place → IsMissing level (templates_in set) bytes ms place
  missing_of bytes ms place c behind (inl f) = inl (stops_of bytes ms place Cause.Truncated c behind f)
  missing_of bytes ms place c behind (inr e) =
      let r = front_read bytes ms c in
      let read : e.messages ≡ ms ++ r.0 = ap (λ (x : StreamReading). x.messages) (sym (carried_is_read (plainly level) (templates_in set) (packet_reader set sound level) bytes e.messages e.carried)) ∙ r.1 in
      let count : place.message ≡ length e.messages + 1 = ap (λ (p : Place). p.message) e.place_is in
      let same = all_read e.messages ms r.0 read (omega (arith, count, behind)) in
      inr (
        subst (λ (ns : List Content). Carries (plainly level) (templates_in set) bytes ns) same e.carried,
        e.place_is ∙ ap (λ (ns : List Content). place_between (length bytes) (length ns)) same,
      )

  -- a refusal by the bytes
  pub fault_of_bytes : (bytes : List ℕ) (ms : List Content) (turns : ℕ) (left : Option (List ℕ)) (cut : Option Cause) (f : Fault) → f.cause ≢ Cause.Truncated → f.cause ≢ Cause.Read → f.cause ≢ Cause.Turns → f.cause ≢ Cause.Memory
      → Refuses (plainly level) (templates_in set) turns left bytes ms f → FaultOf level (templates_in set) bytes cut ms f
  fault_of_bytes bytes ms turns left cut f t r u m h =
      let first = first_fault f.cause (plainly level) (templates_in set) turns left bytes f.place t r u m h.refused in
      by_cut cut (stops_of bytes ms f.place f.cause h.carried h.behind first)
    where
      by_cut : (cut : Option Cause) → Stops level (templates_in set) bytes ms f.place f.cause → FaultOf level (templates_in set) bytes cut ms f
      by_cut None s = (f.cause, s, same_cause f.cause t)
      by_cut (Some cause) s = inl (s, t, r, u)
