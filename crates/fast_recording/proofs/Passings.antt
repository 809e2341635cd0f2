-- Lemmas on what comes of packets, one behind the other.
use Rattle.std.proofs.Common.{Bool, true, false, List, ℕ, suc, [], ◌∷◌, ◌++◌, ◌+◌, ◌≤◌, ◌≡◌, inl, length, map, refl, sym, ap, subst, ◌∙◌, arith, append-nil, append_assoc, length-append}
use Rattle.fast_wire.specs.declared.level.Level.{Level}
use Rattle.fast_template.specs.Resolved.{Resolved}
use Rattle.fast_stream.specs.declared.fault.Cause.{Cause}
use Rattle.fast_stream.specs.declared.place.Place.{Place}
use Rattle.fast_stream.specs.Modes.{plainly}
use Rattle.fast_stream.specs.Nodes.{Content}
use Rattle.fast_machine.proofs.Followings.{all_carried, few_messages}
use Rattle.fast_packets.specs.Recordings.{Packet}
use Rattle.fast_packets.specs.Outcomes.{Onward, Outcome, Outcomes, RefusesPacket, Stops, accepted, refusal_in, refused, sizeless}
use Rattle.fast_recording.specs.Told.{line_for, told_from}
use Rattle.fast_recording.specs.Made.{Writing, WrittenOf}
use Rattle.fast_recording.specs.Recorded.{messages_in, messages_of, read_of, refused_in}
use Rattle.fast_recording.specs.Passing.{Settled, SettledOne}

-- ---- what is written, told and counted

module _ (Writes : Writing) where
  pub written_more : (os later : List Outcome) (number : ℕ) (a b : List ℕ) → WrittenOf Writes number os a → WrittenOf Writes (number + length os) later b → WrittenOf Writes number (os ++ later) (a ++ b)
  written_more [] later number a b h k =
      let here : number + 0 ≡ number = omega arith in
      rw (h) (rw (here) at k)
  written_more (o ∷ os) later number a b h k =
      let next : number + suc (length os) ≡ number + 1 + length os = omega arith in
      (h.0, h.1 ++ b, ap (λ (z : List ℕ). z ++ b) h.2 ∙ append_assoc h.0 h.1 b, h.3, written_more os later (number + 1) h.1 b h.4 (rw (next) at k))

  pub written_one : (o : Outcome) (number : ℕ) (a : List ℕ) → Writes number o a → WrittenOf Writes number (o ∷ []) a
  written_one o number a h = (a, [], sym (append-nil a), h, refl)

pub told_more : (number : ℕ) (os later : List Outcome) → told_from number (os ++ later) ≡ told_from number os ++ told_from (number + length os) later
told_more number [] later = ap (λ (n : ℕ). told_from n later) (omega arith)
told_more number (o ∷ os) later =
    let next : number + 1 + length os ≡ number + suc (length os) = omega arith in
    ap (λ (z : List ℕ). line_for number (refusal_in o) ++ z) (told_more (number + 1) os later ∙ ap (λ (n : ℕ). told_from (number + 1) os ++ told_from n later) next)
    ∙ sym (append_assoc (line_for number (refusal_in o)) (told_from (number + 1) os) (told_from (number + suc (length os)) later))

pub told_one : (number : ℕ) (o : Outcome) → told_from number (o ∷ []) ≡ line_for number (refusal_in o)
told_one number o = append-nil (line_for number (refusal_in o))

pub none_told : (number : ℕ) (packets : List (List Content)) → told_from number (map accepted packets) ≡ []
none_told number [] = refl
none_told number (ms ∷ packets) = none_told (number + 1) packets

pub messages_more : (os later : List Outcome) → messages_in (os ++ later) ≡ messages_in os + messages_in later
messages_more [] later = omega arith
messages_more (o ∷ os) later = omega (arith, messages_more os later)

pub refused_more : (os later : List Outcome) → refused_in (os ++ later) ≡ refused_in os + refused_in later
refused_more [] later = omega arith
refused_more (o ∷ os) later = omega (arith, refused_more os later)

-- no more are refused than there are
pub refused_few : (os : List Outcome) → refused_in os ≤ length os
refused_few [] = omega arith
refused_few (accepted ms ∷ os) = omega (arith, refused_few os)
refused_few (refused ms place cause ∷ os) = omega (arith, refused_few os)
refused_few (sizeless place cause ∷ os) = omega (arith, refused_few os)

-- ---- packets

module _ (goes_on : Bool) (level : Level) (set : List Resolved) where
  -- what comes of whole packets, and then of the rest
  pub settled_then : (os last : List Outcome) (at : ℕ) (front rest : List ℕ) → Settled goes_on level set at front os → Outcomes goes_on level set (at + length front) rest last → Outcomes goes_on level set at (front ++ rest) (os ++ last)
  settled_then [] last at front rest h k =
      let here : at + length front ≡ at = omega (arith, ap (λ (z : List ℕ). length z) h) in
      rw (h) (rw (here) at k)
  settled_then (accepted ms ∷ os) last at front rest h k = record {
    front = h.front;
    back = h.back ++ rest;
    parts = ap (λ (z : List ℕ). z ++ rest) h.parts ∙ append_assoc h.front h.back rest;
    first = h.first;
    later = settled_then os last (at + length h.front) h.back rest h.later
        (subst (λ (n : ℕ). Outcomes goes_on level set n rest last) (omega (arith, ap (λ (z : List ℕ). length z) h.parts ∙ length-append h.front h.back)) k);
  }
  settled_then (refused ms place cause ∷ os) last at front rest h k =
      let b = h.1 in
      let later = settled_then os last (at + length b.front) b.back rest b.later
      (subst (λ (n : ℕ). Outcomes goes_on level set n rest last) (omega (arith, ap (λ (z : List ℕ). length z) b.parts ∙ length-append b.front b.back)) k) in
      inl (record {
        front = b.front;
        back = b.back ++ rest;
        parts = ap (λ (z : List ℕ). z ++ rest) b.parts ∙ append_assoc b.front b.back rest;
        first = b.first;
        later = subst (λ (w : Bool). Onward w (os ++ last) (Outcomes goes_on level set (at + length b.front) (b.back ++ rest) (os ++ last))) (sym h.0) later;
      })
  settled_then (sizeless place cause ∷ os) last at front rest h k = absurd h

  -- one whole packet more
  pub settled_single : (o : Outcome) (at : ℕ) (bytes : List ℕ) → SettledOne goes_on level set at bytes o → Settled goes_on level set at bytes (o ∷ [])
  settled_single (accepted ms) at bytes h = record { front = bytes; back = []; parts = sym (append-nil bytes); first = h; later = refl }
  settled_single (refused ms place cause) at bytes h = (h.0, record { front = bytes; back = []; parts = sym (append-nil bytes); first = h.1; later = refl })
  settled_single (sizeless place cause) at bytes h = absurd h

  pub settled_more : (os more : List Outcome) (at : ℕ) (front rest : List ℕ) → Settled goes_on level set at front os → Settled goes_on level set (at + length front) rest more → Settled goes_on level set at (front ++ rest) (os ++ more)
  settled_more [] more at front rest h k =
      let here : at + length front ≡ at = omega (arith, ap (λ (z : List ℕ). length z) h) in
      rw (h) (rw (here) at k)
  settled_more (accepted ms ∷ os) more at front rest h k = record {
    front = h.front;
    back = h.back ++ rest;
    parts = ap (λ (z : List ℕ). z ++ rest) h.parts ∙ append_assoc h.front h.back rest;
    first = h.first;
    later = settled_more os more (at + length h.front) h.back rest h.later
        (subst (λ (n : ℕ). Settled goes_on level set n rest more) (omega (arith, ap (λ (z : List ℕ). length z) h.parts ∙ length-append h.front h.back)) k);
  }
  settled_more (refused ms place cause ∷ os) more at front rest h k =
      let b = h.1 in (
        h.0,
        record {
          front = b.front;
          back = b.back ++ rest;
          parts = ap (λ (z : List ℕ). z ++ rest) b.parts ∙ append_assoc b.front b.back rest;
          first = b.first;
          later = settled_more os more (at + length b.front) b.back rest b.later
              (subst (λ (n : ℕ). Settled goes_on level set n rest more) (omega (arith, ap (λ (z : List ℕ). length z) b.parts ∙ length-append b.front b.back)) k);
        },
      )
  settled_more (sizeless place cause ∷ os) more at front rest h k = absurd h

  -- a refused packet is all that comes of its bytes, and without going on of whatever is behind them
  pub refused_single : (ms : List Content) (place : Place) (cause : Cause) (at : ℕ) (bytes : List ℕ) → RefusesPacket level set at bytes ms place cause → Outcomes goes_on level set at bytes (refused ms place cause ∷ [])
  refused_single ms place cause at bytes h = inl (record { front = bytes; back = []; parts = sym (append-nil bytes); first = h; later = nothing goes_on })
    where
      nothing : (w : Bool) → Onward w [] (Outcomes goes_on level set (at + length bytes) [] [])
      nothing true = refl
      nothing false = refl

  pub refused_last : (ms : List Content) (place : Place) (cause : Cause) (at : ℕ) (bytes behind : List ℕ) → goes_on ≡ false → RefusesPacket level set at bytes ms place cause → Outcomes goes_on level set at (bytes ++ behind) (refused ms place cause ∷ [])
  refused_last ms place cause at bytes behind off h =
      inl (record { front = bytes; back = behind; parts = refl; first = h; later = subst (λ (w : Bool). Onward w [] (Outcomes goes_on level set (at + length bytes) behind [])) (sym off) refl })

  -- ---- they are no more than their bytes, and so are their messages

  packet_length : (front stream : List ℕ) (p : Packet level front stream) → length front ≡ length p.size + length stream
  packet_length front stream p = ap (λ (z : List ℕ). length z) p.parts ∙ length-append p.size stream

  pub stops_few : (stream : List ℕ) (ms : List Content) (place : Place) (cause : Cause) → Stops level set stream ms place cause → length ms ≤ length stream
  stops_few stream ms place cause s =
      let f = s.fault in
      let few = few_messages (plainly level) set stream f.messages (record { front = f.front; rest = f.rest; start = f.stand; parts = f.parts; carried = f.carried; ends = tt }) in
      omega (arith, few, ap (λ (z : List Content). length z) s.before)

  pub one_few : (o : Outcome) (at : ℕ) (bytes : List ℕ) → SettledOne goes_on level set at bytes o → (1 ≤ length bytes) × (messages_of o ≤ length bytes)
  one_few (accepted ms) at bytes h =
      let long = packet_length bytes h.stream h.packet in
      (omega (arith, long, h.packet.some), omega (arith, long, few_messages (plainly level) set h.stream ms (all_carried (plainly level) set h.stream ms h.carried)))
  one_few (refused ms place cause) at bytes h =
      let r = h.1 in
      let long = packet_length bytes r.stream r.packet in
      (omega (arith, long, r.packet.some), omega (arith, long, stops_few r.stream ms r.within r.found r.stops))
  one_few (sizeless place cause) at bytes h = absurd h

  pub few : (os : List Outcome) (at : ℕ) (front : List ℕ) → Settled goes_on level set at front os → (length os ≤ length front) × (messages_in os ≤ length front)
  few [] at front h = (omega arith, omega arith)
  few (accepted ms ∷ os) at front h =
      let long = ap (λ (z : List ℕ). length z) h.parts ∙ length-append h.front h.back in
      let one = one_few (accepted ms) at h.front h.first in
      let rest = few os (at + length h.front) h.back h.later in
      (omega (arith, long, one.0, rest.0), omega (arith, long, one.1, rest.1))
  few (refused ms place cause ∷ os) at front h =
      let b = h.1 in
      let long = ap (λ (z : List ℕ). length z) b.parts ∙ length-append b.front b.back in
      let one = one_few (refused ms place cause) at b.front (h.0, b.first) in
      let rest = few os (at + length b.front) b.back b.later in
      (omega (arith, long, one.0, rest.0), omega (arith, long, one.1, rest.1))
  few (sizeless place cause ∷ os) at front h = absurd h

  -- all of their bytes are counted
  pub all_read : (os later : List Outcome) (all at : ℕ) (front : List ℕ) → Settled goes_on level set at front os → read_of all (os ++ later) ≡ read_of all later
  all_read [] later all at front h = refl
  all_read (accepted ms ∷ os) later all at front h = all_read os later all (at + length h.front) h.back h.later
  all_read (refused ms place cause ∷ os) later all at front h = let b = h.1 in all_read os later all (at + length b.front) b.back b.later
  all_read (sizeless place cause ∷ os) later all at front h = absurd h

  -- where the run does not go on behind a refusal, all are accepted
  pub all_accepted : (os : List Outcome) (at : ℕ) (front : List ℕ) → goes_on ≡ false → Settled goes_on level set at front os → (packets : List (List Content)) × (os ≡ map accepted packets)
  all_accepted [] at front off h = ([], refl)
  all_accepted (accepted ms ∷ os) at front off h =
      let l = all_accepted os (at + length h.front) h.back off h.later in
      (ms ∷ l.0, ap (λ (xs : List Outcome). accepted ms ∷ xs) l.1)
  all_accepted (refused ms place cause ∷ os) at front off h = let both : true ≡ false = sym h.0 ∙ off in absurd cc
  all_accepted (sizeless place cause ∷ os) at front off h = absurd h
