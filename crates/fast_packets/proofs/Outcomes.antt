-- What comes of a recording as a function: it is the list of outcomes, and the only one.
use Rattle.std.proofs.Common.{Bool, true, false, List, ℕ, zero, suc, [], ◌∷◌, ◌++◌, ◌+◌, ◌-◌, ◌<◌, ◌≤◌, ◌≡◌, inl, inr, Option, Some, None, Result, Ok, Err, take, drop, length, refl, sym, ap, subst, ◌∙◌, arith, nat_lt, nat_le, append_assoc, length-append}
use Rattle.std.proofs.Math.Seq.{drop-append_seam, take-append_seam}
use Rattle.std.proofs.lemmas.List.{take-append-drop, length-take}
use Rattle.fast_wire.specs.Reader.{IsBytes}
use Rattle.fast_wire.specs.declared.level.Level.{Level}
use Rattle.fast_template.specs.Resolved.{Resolved}
use Rattle.fast_stream.specs.declared.fault.Cause.{Cause}
use Rattle.fast_stream.specs.declared.fault.Cause.TheVariants.{Limit, Truncated}
use Rattle.fast_stream.specs.declared.place.Place.{Place}
use Rattle.fast_stream.specs.Nodes.{Content}
use Rattle.fast_stream.specs.Blocks.{IsSize, block_cause, size_at}
use Rattle.fast_stream.specs.Faults.{MessageStop, place_between, place_of}
use Rattle.fast_stream.specs.Modes.{Carries, StreamReading, plainly, stream_at}
use Rattle.fast_stream.proofs.BlockSizes.{size_again, size_faulty, size_found, size_refused}
use Rattle.fast_stream.specs.Readers.{IsNextReader}
use Rattle.fast_stream.proofs.ModeStreams.{carried_is_read, fault_is_read, read_is_carried, read_is_fault, reading}
use Rattle.fast_packets.specs.Recordings.{Packet, packet_limit}
use Rattle.fast_packets.proofs.Sizes.{size_some}
use Rattle.fast_packets.specs.Outcomes.{CutPacket, Onward, Outcome, Outcomes, PacketSizeFault, RefusesPacket, Stops, accepted, placed_behind, refused, size_place, sizeless}

-- ---- bytes

pub bytes_behind : (front rest : List ℕ) → IsBytes (front ++ rest) → IsBytes rest
bytes_behind [] rest h = h
bytes_behind (b ∷ front) rest h = bytes_behind front rest h.1

pub bytes_before : (front rest : List ℕ) → IsBytes (front ++ rest) → IsBytes front
bytes_before [] rest h = tt
bytes_before (b ∷ front) rest h = (h.0, bytes_before front rest h.1)

-- ---- tests

less : (a b : ℕ) → a < b → nat_lt a b ≡ true
less a b h = grind (arith, h)

not_less : (a b : ℕ) → b ≤ a → nat_lt a b ≡ false
not_less a b h = grind (arith, h)

at_most : (a b : ℕ) → a ≤ b → nat_le a b ≡ true
at_most a b h = grind (arith, h)

above : (a b : ℕ) → b < a → nat_le a b ≡ false
above a b h = grind (arith, h)

-- ---- as a function

abbrev pub of_stream : ℕ → Bool → ℕ → List Content → Option MessageStop → Outcome
of_stream at true n ms None = accepted ms
of_stream at false n ms None = refused ms (placed_behind at (place_between n (length ms))) Truncated
of_stream at whole n ms (Some m) = refused ms (placed_behind at (place_of n (length ms) m)) (block_cause whole m.stop.cause)

abbrev pub then_on : Bool → Outcome → List Outcome → List Outcome
then_on true o later = o ∷ later
then_on false (accepted ms) later = accepted ms ∷ later
then_on false o later = o ∷ []

module _ (goes_on : Bool) (level : Level) (set : List Resolved) where
  -- what comes of these bytes of a stream
  abbrev pub of_bytes : ℕ → Bool → List ℕ → Outcome
  of_bytes at whole stream = let r = stream_at (plainly level) set stream in of_stream at whole (length stream) r.messages r.fault

  -- behind a size, so many bytes of the recording, with what is wanted and what has come
  abbrev pub in_packet : Bool → ℕ → ℕ → List ℕ → (ℕ → List ℕ → List Outcome) → List Outcome
  in_packet true at n behind later = then_on goes_on (of_bytes at true (take n behind)) (later (at + n) (drop n behind))
  in_packet false at n behind later = of_bytes at false behind ∷ []

  abbrev pub limited : Bool → ℕ → ℕ → ℕ → List ℕ → (ℕ → List ℕ → List Outcome) → List Outcome
  limited true at begin n behind later = sizeless (size_place at) Limit ∷ []
  limited false at begin n behind later = in_packet (nat_le n (length behind)) begin n behind later

  abbrev pub sized : ℕ → List ℕ → Result (ℕ × List ℕ) Cause → (ℕ → List ℕ → List Outcome) → List Outcome
  sized at bytes (Err c) later = sizeless (size_place at) c ∷ []
  sized at bytes (Ok x) later = limited (nat_lt packet_limit x.0) at (at + (length bytes - length x.1)) x.0 x.1 later

  abbrev pub outcomes_at : ℕ → ℕ → List ℕ → List Outcome
  outcomes_at zero at bytes = []
  outcomes_at (suc k) at [] = []
  outcomes_at (suc k) at (b ∷ bytes) = sized at (b ∷ bytes) (size_at level (b ∷ bytes)) (λ n y. outcomes_at k n y)

  opens : (k at : ℕ) (bytes : List ℕ) → 0 < length bytes → outcomes_at (suc k) at bytes ≡ sized at bytes (size_at level bytes) (λ n y. outcomes_at k n y)
  opens k at [] some = absurd (omega (arith, some))
  opens k at (b ∷ bytes) some = refl

  -- behind a size that is there
  behind_size : (k at n : ℕ) (size behind : List ℕ) → IsSize level size n → 0 < n → 0 < length (size ++ behind) → n ≤ packet_limit
      → outcomes_at (suc k) at (size ++ behind) ≡ in_packet (nat_le n (length behind)) (at + length size) n behind (λ n y. outcomes_at k n y)
  behind_size k at n size behind is some bytes few =
      let begin : at + (length (size ++ behind) - length behind) ≡ at + length size = omega (arith, length-append size behind) in
      opens k at (size ++ behind) bytes ∙ rw (size_again level size behind n is some, not_less packet_limit n few, begin) refl

  whole_packet : (k at : ℕ) (bytes front back stream : List ℕ) → bytes ≡ front ++ back → (p : Packet level front stream)
      → outcomes_at (suc k) at bytes ≡ then_on goes_on (of_bytes (at + length p.size) true stream) (outcomes_at k (at + length front) back)
  whole_packet k at bytes front back stream parts p =
      let regrouped : bytes ≡ p.size ++ (stream ++ back) = parts ∙ ap (λ (z : List ℕ). z ++ back) p.parts ∙ append_assoc p.size stream back in
      let sizes = length-append stream back in
      let all = length-append p.size (stream ++ back) in
      let enough = at_most (length stream) (length (stream ++ back)) (omega (arith, sizes)) in
      let next : at + length p.size + length stream ≡ at + length front = omega (arith, ap (λ (z : List ℕ). length z) p.parts ∙ length-append p.size stream) in
      ap (λ (z : List ℕ). outcomes_at (suc k) at z) regrouped
      ∙ behind_size k at (length stream) p.size (stream ++ back) p.size_is p.some (omega (arith, sizes, all, p.some)) p.few
      ∙ rw (enough, take-append_seam stream back, drop-append_seam stream back, next) refl

  module _ (is : IsNextReader (plainly level) set) where
    -- ---- there is no other list

    stopped : (at : ℕ) (whole : Bool) (stream : List ℕ) (ms : List Content) (place : Place) (cause : Cause) → Stops level set stream ms place cause
        → of_bytes at whole stream ≡ refused ms (placed_behind at place) (block_cause whole cause)
    stopped at whole stream ms place cause h =
        let f = h.fault in
        rw (fault_is_read (plainly level) set is stream place cause f, ← h.before, f.place_is, f.cause_is) (by_whole whole f.messages f.stop)
      where
        by_whole : (whole : Bool) (ms : List Content) (m : MessageStop) → of_stream at whole (length stream) ms (Some m) ≡ refused ms (placed_behind at (place_of (length stream) (length ms) m)) (block_cause whole m.stop.cause)
        by_whole true ms m = refl
        by_whole false ms m = refl

    carried : (at : ℕ) (stream : List ℕ) (ms : List Content) → Carries (plainly level) set stream ms → of_bytes at true stream ≡ accepted ms
    carried at stream ms h = rw (carried_is_read (plainly level) set is stream ms h) refl

    cut_between : (at : ℕ) (stream : List ℕ) (ms : List Content) → Carries (plainly level) set stream ms → of_bytes at false stream ≡ refused ms (placed_behind at (place_between (length stream) (length ms))) Truncated
    cut_between at stream ms h = rw (carried_is_read (plainly level) set is stream ms h) refl

    cut_packet : (k at : ℕ) (bytes : List ℕ) (ms : List Content) (place : Place) (cause : Cause) → CutPacket level set at bytes ms place cause → outcomes_at (suc k) at bytes ≡ refused ms place cause ∷ []
    cut_packet k at bytes ms place cause h =
        let some = size_again level h.size h.come h.room h.size_is (omega (arith, h.short)) in
        let few = above h.room (length h.come) h.short in
        let all = length-append h.size h.come in
        let nonempty = size_some level h.size h.room h.size_is in
        let read : of_bytes (at + length h.size) false h.come ≡ refused ms place cause = elim h.stops [
          | inl s ↦ stopped (at + length h.size) false h.come ms h.within cause s ∙ rw (h.place_is) refl
          | inr s ↦ cut_between (at + length h.size) h.come ms s.0 ∙ rw (h.place_is, s.1, s.2) refl
        ] in
        ap (λ (z : List ℕ). outcomes_at (suc k) at z) h.parts
        ∙ behind_size k at h.room h.size h.come h.size_is (omega (arith, h.short)) (omega (arith, all, nonempty)) h.few
        ∙ rw (few) (ap (λ (o : Outcome). o ∷ []) read)

    without_size : (k at : ℕ) (bytes : List ℕ) (place : Place) (cause : Cause) → 0 < length bytes → PacketSizeFault level bytes cause → place ≡ size_place at → outcomes_at (suc k) at bytes ≡ sizeless place cause ∷ []
    without_size k at bytes place cause some (inl h) placed = opens k at bytes some ∙ rw (size_faulty level bytes cause h, placed) refl
    without_size k at bytes place cause some (inr h) placed =
        let t = h.1 in
        let large : packet_limit < t.between = t.second in
        opens k at bytes some
        ∙ rw (t.parts, size_again level t.front t.back t.between t.first (omega (arith, large)), less packet_limit t.between large, placed, h.0) refl

    refuses : (k at : ℕ) (bytes : List ℕ) (ms : List Content) (place : Place) (cause : Cause) (front back : List ℕ) → bytes ≡ front ++ back → (r : RefusesPacket level set at front ms place cause)
        → outcomes_at (suc k) at bytes ≡ then_on goes_on (refused ms place cause) (outcomes_at k (at + length front) back)
    refuses k at bytes ms place cause front back parts r =
        let read : of_bytes (at + length r.packet.size) true r.stream ≡ refused ms place cause = stopped (at + length r.packet.size) true r.stream ms r.within r.found r.stops ∙ rw (r.place_is, r.cause_is) refl in
        whole_packet k at bytes front back r.stream parts r.packet ∙ ap (λ (o : Outcome). then_on goes_on o (outcomes_at k (at + length front) back)) read

    fewer : (level' : Level) (k : ℕ) (bytes front back stream : List ℕ) → bytes ≡ front ++ back → Packet level' front stream → length bytes < suc k → length back < k
    fewer level' k bytes front back stream parts p short =
        let a = ap (λ (z : List ℕ). length z) parts ∙ length-append front back in
        let b = ap (λ (z : List ℕ). length z) p.parts ∙ length-append p.size stream in
        omega (arith, short, a, b, p.some)

    onward : (b : Bool) (o : Outcome) (later found : List Outcome) (Goes : Type 0) → ((ms : List Content) → o ≡ accepted ms → ⊥) → Onward b later Goes → (Goes → later ≡ found) → o ∷ later ≡ then_on b o found
    onward true o later found Goes other h is = ap (λ (os : List Outcome). o ∷ os) (is h)
    onward false (accepted ms) later found Goes other h is = absurd (other ms refl)
    onward false (refused ms place cause) later found Goes other h is = ap (λ (os : List Outcome). refused ms place cause ∷ os) h
    onward false (sizeless place cause) later found Goes other h is = ap (λ (os : List Outcome). sizeless place cause ∷ os) h

    accepted_on : (b : Bool) (ms : List Content) (later : List Outcome) → then_on b (accepted ms) later ≡ accepted ms ∷ later
    accepted_on true ms later = refl
    accepted_on false ms later = refl

    pub only : (os : List Outcome) (k at : ℕ) (bytes : List ℕ) → length bytes < k → Outcomes goes_on level set at bytes os → os ≡ outcomes_at k at bytes
    only os zero at bytes short h = absurd (omega (arith, short))
    only [] (suc k) at bytes short h = sym (ap (λ (z : List ℕ). outcomes_at (suc k) at z) h)
    only (accepted ms ∷ later) (suc k) at bytes short h =
        let p = h.first.packet in
        let rest = only later k (at + length h.front) h.back (fewer level k bytes h.front h.back h.first.stream h.parts p short) h.later in
        let read = carried (at + length p.size) h.first.stream ms h.first.carried in
        sym (whole_packet k at bytes h.front h.back h.first.stream h.parts p ∙ rw (read) (accepted_on goes_on ms (outcomes_at k (at + length h.front) h.back)) ∙ ap (λ (os : List Outcome). accepted ms ∷ os) (sym rest))
    only (refused ms place cause ∷ later) (suc k) at bytes short (inl h) =
        let r = h.first in
        onward goes_on (refused ms place cause) later (outcomes_at k (at + length h.front) h.back) (Outcomes goes_on level set (at + length h.front) h.back later) (λ ns e. absurd cc) h.later
        (λ goes. only later k (at + length h.front) h.back (fewer level k bytes h.front h.back r.stream h.parts r.packet short) goes)
        ∙ sym (refuses k at bytes ms place cause h.front h.back h.parts r)
    only (refused ms place cause ∷ later) (suc k) at bytes short (inr h) = ap (λ (os : List Outcome). refused ms place cause ∷ os) h.1 ∙ sym (cut_packet k at bytes ms place cause h.0)
    only (sizeless place cause ∷ later) (suc k) at bytes short h = ap (λ (os : List Outcome). sizeless place cause ∷ os) h.3 ∙ sym (without_size k at bytes place cause h.0 h.1 h.2)

    -- ---- there is one

    abbrev Are : ℕ → List ℕ → List Outcome → Type 0
    Are at bytes os = Outcomes goes_on level set at bytes os

    -- of a whole packet, in front of what comes of the rest
    whole_of : (at : ℕ) (bytes front back stream : List ℕ) (later : List Outcome) → IsBytes stream → bytes ≡ front ++ back → (p : Packet level front stream) → Are (at + length front) back later
        → (r : StreamReading) → stream_at (plainly level) set stream ≡ r → Are at bytes (then_on goes_on (of_stream (at + length p.size) true (length stream) r.messages r.fault) later)
    whole_of at bytes front back stream later fits parts p rest r read = by_fault r.fault refl
      where
        same : (o : Option MessageStop) → r.fault ≡ o → stream_at (plainly level) set stream ≡ reading r.messages o
        same o is_fault = read ∙ ap (λ (x : Option MessageStop). reading r.messages x) is_fault

        refusal : (m : MessageStop) → r.fault ≡ Some m → RefusesPacket level set at front r.messages (placed_behind (at + length p.size) (place_of (length stream) (length r.messages) m)) (block_cause true m.stop.cause)
        refusal m some =
            let f = read_is_fault (plainly level) set is stream r.messages m fits (same (Some m) some) in
            record {
              stream = stream;
              packet = p;
              within = place_of (length stream) (length r.messages) m;
              found = m.stop.cause;
              stops = record { fault = f; before = ap (λ (x : StreamReading). x.messages) (sym (fault_is_read (plainly level) set is stream _ _ f) ∙ same (Some m) some) };
              cause_is = refl;
              place_is = refl;
            }

        by_way : (c : Bool) → goes_on ≡ c → (m : MessageStop) → r.fault ≡ Some m → Are at bytes (then_on c (of_stream (at + length p.size) true (length stream) r.messages (Some m)) later)
        by_way true on m some = inl (record { front = front; back = back; parts = parts; first = refusal m some; later = subst (λ (c : Bool). Onward c later (Are (at + length front) back later)) (sym on) rest })
        by_way false off m some = inl (record { front = front; back = back; parts = parts; first = refusal m some; later = subst (λ (c : Bool). Onward c [] (Are (at + length front) back [])) (sym off) refl })

        by_fault : (o : Option MessageStop) → r.fault ≡ o → Are at bytes (then_on goes_on (of_stream (at + length p.size) true (length stream) r.messages o) later)
        by_fault None none = subst (λ (os : List Outcome). Are at bytes os) (sym (accepted_on goes_on r.messages later)) (record {
          front = front;
          back = back;
          parts = parts;
          first = record { stream = stream; packet = p; carried = read_is_carried (plainly level) set is stream r.messages fits (same None none) };
          later = rest;
        })
        by_fault (Some m) some = by_way goes_on refl m some

    -- of one that is cut short
    cut_of : (at : ℕ) (bytes size come : List ℕ) (room : ℕ) → IsBytes come → bytes ≡ size ++ come → IsSize level size room → room ≤ packet_limit → length come < room
        → (r : StreamReading) → stream_at (plainly level) set come ≡ r → Are at bytes (of_stream (at + length size) false (length come) r.messages r.fault ∷ [])
    cut_of at bytes size come room fits parts size_is few short r read = by_fault r.fault refl
      where
        same : (o : Option MessageStop) → r.fault ≡ o → stream_at (plainly level) set come ≡ reading r.messages o
        same o is_fault = read ∙ ap (λ (x : Option MessageStop). reading r.messages x) is_fault

        by_fault : (o : Option MessageStop) → r.fault ≡ o → Are at bytes (of_stream (at + length size) false (length come) r.messages o ∷ [])
        by_fault None none = inr (
          record {
            size = size;
            come = come;
            room = room;
            parts = parts;
            size_is = size_is;
            few = few;
            short = short;
            within = place_between (length come) (length r.messages);
            stops = inr (read_is_carried (plainly level) set is come r.messages fits (same None none), refl, refl);
            place_is = refl;
          },
          refl,
        )
        by_fault (Some m) some =
            let f = read_is_fault (plainly level) set is come r.messages m fits (same (Some m) some) in
            inr (
              record {
                size = size;
                come = come;
                room = room;
                parts = parts;
                size_is = size_is;
                few = few;
                short = short;
                within = place_of (length come) (length r.messages) m;
                stops = inl (record { fault = f; before = ap (λ (x : StreamReading). x.messages) (sym (fault_is_read (plainly level) set is come _ _ f) ∙ same (Some m) some) });
                place_is = refl;
              },
              refl,
            )

    in_packet_is : (k at n : ℕ) (bytes size behind : List ℕ) → bytes ≡ size ++ behind → IsSize level size n → 0 < n → n ≤ packet_limit → IsBytes behind → length behind < k
        → ((at : ℕ) (rest : List ℕ) → length rest < k → IsBytes rest → Are at rest (outcomes_at k at rest))
        → (b : Bool) → nat_le n (length behind) ≡ b → Are at bytes (in_packet b (at + length size) n behind (λ n y. outcomes_at k n y))
    in_packet_is k at n bytes size behind parts is_size some few fits short later true enough =
        let holds : n ≤ length behind = grind (arith, enough) in
        let stream = take n behind in
        let rest = drop n behind in
        let long : length stream ≡ n = length-take n behind ∙ omega (arith, holds) in
        let cut : behind ≡ stream ++ rest = sym (take-append-drop n behind) in
        let both = subst (λ (z : List ℕ). IsBytes z) cut fits in
        let lengths = ap (λ (z : List ℕ). length z) cut ∙ length-append stream rest in
        let front = size ++ stream in
        let next : at + length size + n ≡ at + length front = omega (arith, length-append size stream, long) in
        let p : Packet level front stream = record { size = size; parts = refl; size_is = subst (λ (k : ℕ). IsSize level size k) (sym long) is_size; some = omega (arith, some, long); few = omega (arith, few, long) } in
        rw (next)
        (whole_of at bytes front rest stream (outcomes_at k (at + length front) rest) (bytes_before stream rest both) (parts ∙ ap (λ (z : List ℕ). size ++ z) cut ∙ sym (append_assoc size stream rest)) p
        (later (at + length front) rest (omega (arith, lengths, short)) (bytes_behind stream rest both)) (stream_at (plainly level) set stream) refl)
    in_packet_is k at n bytes size behind parts is_size some few fits short later false enough =
        let lacks : length behind < n = grind (arith, enough) in
        cut_of at bytes size behind n fits parts is_size few lacks (stream_at (plainly level) set behind) refl

    limited_is : (k at n : ℕ) (bytes size behind : List ℕ) → 0 < length bytes → bytes ≡ size ++ behind → IsSize level size n → 0 < n → IsBytes behind → length behind < k
        → ((at : ℕ) (rest : List ℕ) → length rest < k → IsBytes rest → Are at rest (outcomes_at k at rest))
        → (b : Bool) → nat_lt packet_limit n ≡ b → Are at bytes (limited b at (at + length size) n behind (λ n y. outcomes_at k n y))
    limited_is k at n bytes size behind nonempty parts is_size some fits short later true large =
        let above : packet_limit < n = grind (arith, large) in
        (nonempty, inr (refl, record { between = n; front = size; back = behind; parts = parts; first = is_size; second = above }), refl, refl)
    limited_is k at n bytes size behind nonempty parts is_size some fits short later false large =
        let few : n ≤ packet_limit = grind (arith, large) in
        in_packet_is k at n bytes size behind parts is_size some few fits short later (nat_le n (length behind)) refl

    sized_is : (k at : ℕ) (bytes : List ℕ) → 0 < length bytes → length bytes < suc k → IsBytes bytes
        → ((at : ℕ) (rest : List ℕ) → length rest < k → IsBytes rest → Are at rest (outcomes_at k at rest))
        → (r : Result (ℕ × List ℕ) Cause) → size_at level bytes ≡ r → Are at bytes (sized at bytes r (λ n y. outcomes_at k n y))
    sized_is k at bytes nonempty short fits later (Err c) read = (nonempty, inl (size_refused level bytes c fits read), refl, refl)
    sized_is k at bytes nonempty short fits later (Ok x) read =
        let o = size_found level bytes x.0 x.1 fits read in
        let long = ap (λ (z : List ℕ). length z) o.parts ∙ length-append o.size x.1 in
        let begin : at + (length bytes - length x.1) ≡ at + length o.size = omega (arith, long) in
        let size_long = size_some level o.size x.0 o.opens.0 in
        rw (begin) (limited_is k at x.0 bytes o.size x.1 nonempty o.parts o.opens.0 o.opens.1 o.fits (omega (arith, long, short, size_long)) later (nat_lt packet_limit x.0) refl)

    pub exist : (k at : ℕ) (bytes : List ℕ) → length bytes < k → IsBytes bytes → Are at bytes (outcomes_at k at bytes)
    exist zero at bytes short fits = absurd (omega (arith, short))
    exist (suc k) at [] short fits = refl
    exist (suc k) at (b ∷ bytes) short fits = sized_is k at (b ∷ bytes) (omega arith) short fits (λ n rest fewer f. exist k n rest fewer f) (size_at level (b ∷ bytes)) refl
