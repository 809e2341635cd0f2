-- A refusal stays, whatever follows: only one for want of bytes may go.
use Rattle.std.proofs.Common.{true, false, List, ℕ, [], ◌∷◌, ◌++◌, ◌+◌, ◌-◌, ◌≤◌, ◌≡◌, ◌≢◌, inl, inr, Option, Some, take, drop, length, map, refl, sym, ap, subst, ◌∙◌, arith, append_assoc, length-append}
use Rattle.std.proofs.lemmas.Bool.{cases_lt}
use Rattle.std.proofs.lemmas.List.{take-append-drop, length-take}
use Rattle.fast_wire.specs.Reader.{IsBytes}
use Rattle.fast_wire.specs.declared.level.Level.{Level}
use Rattle.fast_template.specs.Resolved.{Resolved}
use Rattle.fast_stream.specs.declared.fault.Cause.{Cause}
use Rattle.fast_stream.specs.declared.fault.Cause.TheVariants.{Truncated}
use Rattle.fast_stream.specs.declared.fault.Fault.{Fault}
use Rattle.fast_stream.specs.declared.place.Place.{Place}
use Rattle.fast_stream.specs.Nodes.{Content}
use Rattle.fast_stream.specs.Blocks.{Stand, block_cause}
use Rattle.fast_stream.specs.Modes.{GoesOn, plainly}
use Rattle.fast_stream.proofs.BlockSizes.{size_faulty, size_refused, size_stays}
use Rattle.fast_stream.specs.Readers.{IsNextReader, further_on}
use Rattle.fast_packets.specs.Outcomes.{CutPacket, FirstRefusal, Outcome, Outcomes, PacketSizeFault, Stops, accepted, refusal_in, refused, sizeless}
use Rattle.fast_packets.proofs.Outcomes.{bytes_before, bytes_behind}

-- no other cause than want of bytes is another in a packet that has come whole
same_cause : (c : Cause) → c ≢ Truncated → c ≡ block_cause true c
same_cause Cause.Truncated other = absurd (other refl)
same_cause c other = refl

cause_in : (a b : Fault) → (◌≡◌ {A = Option Fault} (Some a) (Some b)) → a.cause ≡ b.cause
cause_in a b e = let same : a ≡ b = cc in ap (λ (f : Fault). f.cause) same

goes_on_longer : (s : Stand) (bytes more : List ℕ) → GoesOn s bytes → GoesOn s (bytes ++ more)
goes_on_longer s bytes more (inl h) = let size = length-append bytes more in inl (omega arith)
goes_on_longer s bytes more (inr h) = inr h

module _ (level : Level) (set : List Resolved) (is : IsNextReader (plainly level) set) where
  stops_stay : (stream more : List ℕ) (ms : List Content) (place : Place) (cause : Cause) → IsBytes (stream ++ more) → Stops level set stream ms place cause → cause ≢ Truncated → Stops level set (stream ++ more) ms place cause
  stops_stay stream more ms place cause fits h other =
      let f = h.fault in
      let rest_fits = bytes_behind f.front f.rest (subst (λ (z : List ℕ). IsBytes z) f.parts (bytes_before stream more fits)) in
      let regrouped : stream ++ more ≡ f.front ++ (f.rest ++ more) = ap (λ (z : List ℕ). z ++ more) f.parts ∙ append_assoc f.front f.rest more in
      let longer_fits = bytes_behind f.front (f.rest ++ more) (subst (λ (z : List ℕ). IsBytes z) regrouped fits) in
      let read = is.stays f.stand f.rest more f.stop rest_fits (is.stopped f.stand f.rest f.stop f.stops) (λ c. other (f.cause_is ∙ c)) in
      let sizes = length-append stream more in
      let offset : length stream - f.stop.stop.left ≡ length (stream ++ more) - (f.stop.stop.left + length more) = omega arith in
      record {
        fault = record {
          messages = f.messages;
          stand = f.stand;
          front = f.front;
          rest = f.rest ++ more;
          stop = further_on (length more) f.stop;
          parts = regrouped;
          carried = f.carried;
          goes_on = goes_on_longer f.stand f.rest more f.goes_on;
          stops = is.stops f.stand (f.rest ++ more) _ longer_fits read;
          cause_is = f.cause_is;
          place_is = f.place_is ∙ ap (λ (n : ℕ). record { message = length f.messages + 1; offset = n; template = f.stop.template; instruction = f.stop.stop.instruction }) offset;
        };
        before = h.before;
      }

  size_fault_stays : (bytes more : List ℕ) (cause : Cause) → IsBytes (bytes ++ more) → PacketSizeFault level bytes cause → cause ≢ Truncated → PacketSizeFault level (bytes ++ more) cause
  size_fault_stays bytes more cause fits (inl h) other = inl (size_refused level (bytes ++ more) cause fits (size_stays level bytes more cause (bytes_before bytes more fits) (size_faulty level bytes cause h) other))
  size_fault_stays bytes more cause fits (inr h) other =
      let t = h.1 in
      inr (h.0, record { between = t.between; front = t.front; back = t.back ++ more; parts = ap (λ (z : List ℕ). z ++ more) t.parts ∙ append_assoc t.front t.back more; first = t.first; second = t.second })

  -- a packet that was cut short has come farther, or whole
  cut_stays : (at : ℕ) (bytes more : List ℕ) (ms : List Content) (place : Place) (cause : Cause) → IsBytes (bytes ++ more) → CutPacket level set at bytes ms place cause → cause ≢ Truncated
      → Outcomes false level set at (bytes ++ more) (refused ms place cause ∷ [])
  cut_stays at bytes more ms place cause fits h other =
      let parts : bytes ++ more ≡ h.size ++ (h.come ++ more) = ap (λ (z : List ℕ). z ++ more) h.parts ∙ append_assoc h.size h.come more in
      let behind = bytes_behind h.size (h.come ++ more) (subst (λ (z : List ℕ). IsBytes z) parts fits) in
      let stops : Stops level set h.come ms h.within cause = elim h.stops [ inl s ↦ s | inr s ↦ absurd (other s.2) ] in
      elim (cases_lt (length (h.come ++ more)) h.room) [
        | inl short ↦ inr (
          record {
            size = h.size;
            come = h.come ++ more;
            room = h.room;
            parts = parts;
            size_is = h.size_is;
            few = h.few;
            short = short;
            within = h.within;
            stops = inl (stops_stay h.come more ms h.within cause behind stops other);
            place_is = h.place_is;
          },
          refl,
        )
        | inr long ↦
            let sizes = length-append h.come more in
            let rest = h.room - length h.come in
            let enough : rest ≤ length more = omega (arith, sizes, long) in
            let stream = h.come ++ take rest more in
            let room_is : length stream ≡ h.room = omega (arith, length-append h.come (take rest more), length-take rest more, enough, h.short) in
            let split : more ≡ take rest more ++ drop rest more = sym (take-append-drop rest more) in
            let whole : h.come ++ more ≡ stream ++ drop rest more = ap (λ (z : List ℕ). h.come ++ z) split ∙ sym (append_assoc h.come (take rest more) (drop rest more)) in
            let stream_fits = bytes_before stream (drop rest more) (subst (λ (z : List ℕ). IsBytes z) whole behind) in
            inl (record {
              front = h.size ++ stream;
              back = drop rest more;
              parts = parts ∙ ap (λ (z : List ℕ). h.size ++ z) whole ∙ sym (append_assoc h.size stream (drop rest more));
              first = record {
                stream = stream;
                packet = record { size = h.size; parts = refl; size_is = rw room_is h.size_is; some = omega (arith, room_is, h.short); few = omega (arith, room_is, h.few) };
                within = h.within;
                found = cause;
                stops = stops_stay h.come (take rest more) ms h.within cause stream_fits stops other;
                cause_is = same_cause cause other;
                place_is = h.place_is;
              };
              later = refl;
            })
      ]

  last_stays : (last : Outcome) (fault : Fault) (at : ℕ) (bytes more : List ℕ) → IsBytes (bytes ++ more) → refusal_in last ≡ Some fault → fault.cause ≢ Truncated → Outcomes false level set at bytes (last ∷ []) → Outcomes false level set at (bytes ++ more) (last ∷ [])
  last_stays (accepted ms) fault at bytes more fits r other h = absurd cc
  last_stays (refused ms place cause) fault at bytes more fits r other (inl h) =
      inl (record { front = h.front; back = h.back ++ more; parts = ap (λ (z : List ℕ). z ++ more) h.parts ∙ append_assoc h.front h.back more; first = h.first; later = refl })
  last_stays (refused ms place cause) fault at bytes more fits r other (inr h) =
      let same : cause ≡ fault.cause = cause_in (record { cause = cause; place = place }) fault r in
      cut_stays at bytes more ms place cause fits h.0 (λ e. other (sym same ∙ e))
  last_stays (sizeless place cause) fault at bytes more fits r other h =
      let same : cause ≡ fault.cause = cause_in (record { cause = cause; place = place }) fault r in
      (omega (arith, h.0, length-append bytes more), size_fault_stays bytes more cause fits h.1 (λ e. other (sym same ∙ e)), h.2, refl)

  pub outcomes_stay : (packets : List (List Content)) (last : Outcome) (fault : Fault) (at : ℕ) (bytes more : List ℕ) → IsBytes (bytes ++ more) → refusal_in last ≡ Some fault → fault.cause ≢ Truncated
      → Outcomes false level set at bytes (map accepted packets ++ last ∷ []) → Outcomes false level set at (bytes ++ more) (map accepted packets ++ last ∷ [])
  outcomes_stay [] last fault at bytes more fits r other h = last_stays last fault at bytes more fits r other h
  outcomes_stay (p ∷ ps) last fault at bytes more fits r other h =
      let parts : bytes ++ more ≡ h.front ++ (h.back ++ more) = ap (λ (z : List ℕ). z ++ more) h.parts ∙ append_assoc h.front h.back more in
      let behind = bytes_behind h.front (h.back ++ more) (subst (λ (z : List ℕ). IsBytes z) parts fits) in
      record { front = h.front; back = h.back ++ more; parts = parts; first = h.first; later = outcomes_stay ps last fault (at + length h.front) h.back more behind r other h.later }

  pub refusal_stays : (bytes more : List ℕ) (number : ℕ) (fault : Fault) → IsBytes (bytes ++ more) → fault.cause ≢ Truncated → FirstRefusal level set bytes number fault → FirstRefusal level set (bytes ++ more) number fault
  refusal_stays bytes more number fault fits other h =
      record { packets = h.packets; last = h.last; outcomes = outcomes_stay h.packets h.last fault 0 bytes more fits h.refusal other h.outcomes; refusal = h.refusal; number_is = h.number_is }
