-- What was read of a recording in memory, and what its run wrote.
use Rattle.std.proofs.Common.{◌≡◌, ◌<◌, ◌≤◌, ◌+◌, ◌^◌, ◌⊎◌, ℕ, suc, false, List, [], ◌∷◌, ◌++◌, length, map, Option, None, Some, Result, Ok, Err, refl, sym, ap, subst, ◌∙◌, arith, append-nil, append_assoc, length-append, inl, inr}
use Rattle.std.specs.Io.KnownBytes.{Appends, Consumes, IsAtEnd}
use Rattle.fast_io.specs.Counts.{counted, counted_by}
use Rattle.fast_wire.specs.Reader.{IsBytes}
use Rattle.fast_wire.specs.declared.level.Level.{Level}
use Rattle.fast_template.specs.TemplateSets.{IsSound, TemplateList, templates_in}
use Rattle.fast_stream.specs.declared.fault.Cause.{Cause}
use Rattle.fast_stream.specs.declared.fault.Fault.{Fault}
use Rattle.fast_stream.specs.declared.place.Place.{Place}
use Rattle.fast_stream.specs.Nodes.{Content}
use Rattle.fast_machine.specs.Inputs.{Reader, Reads}
use Rattle.fast_packets.specs.Outcomes.{FirstRefusal, Outcome, Outcomes, accepted, refusal_in, refused, sizeless}
use Rattle.fast_packets.specs.Recordings.{CarriesPackets}
use Rattle.fast_stream.specs.Modes.{plainly}
use Rattle.fast_canon.proofs.CanonicalBytes.{no_longer as stream_no_longer}
use Rattle.fast_canon.proofs.StreamLaws.{none_shorter}
use Rattle.fast_packets.proofs.Sizes.{least_size, size_form}
use Rattle.fast_packets.proofs.Readers.{packet_reader}
use Rattle.fast_packets.proofs.Refusals.{as_outcomes, as_packets}
use Rattle.fast_packets.proofs.Staying.{outcomes_stay}
use Rattle.fast_packet_laws.specs.CanonicalRecordings.{IsCanonicalRecording}
use Rattle.fast_packet_laws.proofs.CanonicalLaws.{canonical_packet, no_longer}
use Rattle.fast_recording.specs.Calls.{CanonicalisesAs, WritesCanonical}
use Rattle.fast_recording.specs.Made.{FrontWritten, Writing, WrittenOf}
use Rattle.fast_recording.specs.Recorded.{HasCome, HasFailed, IsUsedUp, RecordsFront, RecordsPackets, Why, by_reader, messages_in, outputs, read_of, refused_in, summary_of}
use Rattle.fast_recording.specs.declared.fault.PacketFault.{PacketFault}
use Rattle.fast_recording.specs.declared.fault.RecordingFault.{RecordingFault}
use Rattle.fast_recording.specs.declared.summary.RecordingSummary.{RecordingSummary}
use Rattle.fast_slices.specs.declared.answer.Counts.{Counts}
use Rattle.fast_slices.specs.declared.answer.Refusal.{Refusal}
use Rattle.fast_slices.specs.Packets.{CountsPackets, MeasuresPackets, MeasuresRun, Needs, Overflows, SettlesPackets, WritesPackets, counts_by, counts_of}

-- ---- packets that are all accepted

abbrev rest_of : List Outcome → List Outcome
rest_of [] = []
rest_of (o ∷ os) = os

no_sizeless : (packets : List (List Content)) (before : List Outcome) (place : Place) (cause : Cause) → map accepted packets ≡ before ++ sizeless place cause ∷ [] → ⊥
no_sizeless [] [] place cause e = absurd cc
no_sizeless [] (o ∷ os) place cause e = absurd cc
no_sizeless (p ∷ ps) [] place cause e = absurd cc
no_sizeless (p ∷ ps) (o ∷ os) place cause e = no_sizeless ps os place cause (ap rest_of e)

many : (packets : List (List Content)) → length (map accepted packets) ≡ length packets
many [] = refl
many (p ∷ ps) = ap suc (many ps)

read_all : (all : ℕ) (packets : List (List Content)) → read_of all (map accepted packets) ≡ all
read_all all [] = refl
read_all all (p ∷ ps) = read_all all ps

none_refused : (packets : List (List Content)) → refused_in (map accepted packets) ≡ 0
none_refused [] = refl
none_refused (p ∷ ps) = rw (none_refused ps) refl

fields : (a b m r s w x : ℕ) → a ≡ b → r ≡ s → w ≡ x → (◌≡◌ {A = Counts} (record { packets = a; messages = m; read = r; written = w }) (record { packets = b; messages = m; read = s; written = x }))
fields a b m r s w x e f g = rw (e, f, g) refl

counted_so : (packets : List (List Content)) (outcomes : List Outcome) (summary : RecordingSummary) (read made written : ℕ) → outcomes ≡ map accepted packets → summary ≡ summary_of outcomes read made → counted_by 0 made ≡ written
    → counts_by summary ≡ counts_of packets read written
counted_so packets outcomes summary read made written all is exact =
    ap counts_by (is ∙ ap (λ (os : List Outcome). summary_of os read made) all)
    ∙ fields (length (map accepted packets)) (length packets) (messages_in (map accepted packets)) (read_of read (map accepted packets)) read (counted_by 0 made) written (many packets) (read_all read packets) exact

-- ---- why a run over memory ends

-- a reader that counts no error, and gives fewer bytes than there are reads, fails with no cause
pub no_device : (c : Cause) (count : ℕ) (input rest : List ℕ) (from now : Reader) → from.errors ≡ 0 → now.errors ≡ 0 → length (input ++ rest) < 2 ^ 40 → HasFailed (IsUsedUp (2 ^ 40) count input) from now c → ⊥
no_device Cause.Read count input rest from now before after few h = let e : now.errors ≡ counted from.errors = h in absurd (omega (arith, before, after, e))
no_device Cause.Turns count input rest from now before after few h = let long = h.0.1 in let size = length-append input rest in absurd (omega (arith, few, long, size))
no_device c count input rest from now before after few h = h

-- the first refusal of what was read is that of the recording, where Truncated comes only at its end
whole : (rest input : List ℕ) (level : Level) (set : TemplateList) (packets : List (List Content)) (last : Outcome) (f : Fault) → IsSound set → IsBytes (input ++ rest) → refusal_in last ≡ Some f → (f.cause ≡ Cause.Truncated → rest ≡ [])
    → Outcomes false level (templates_in set) 0 input (map accepted packets ++ last ∷ []) → Outcomes false level (templates_in set) 0 (input ++ rest) (map accepted packets ++ last ∷ [])
whole [] input level set packets last f sound fits r ended h =
    subst (λ (xs : List ℕ). Outcomes false level (templates_in set) 0 xs (map accepted packets ++ last ∷ [])) (sym (append-nil input)) h
whole (b ∷ bs) input level set packets last f sound fits r ended h =
    outcomes_stay level (templates_in set) (packet_reader set sound level) packets last f 0 input (b ∷ bs) fits r (λ e. let no = ended e in absurd cc) h

-- ---- a run over memory

-- what is known of a run that read so much of a recording
pub record HasRead (set : TemplateList) (recording : List ℕ) (why : Why) (input : List ℕ) : Type 1 where
  pub rest : List ℕ
  pub sound : IsSound set
  pub fits : IsBytes recording
  pub few : length recording < 2 ^ 40
  pub parts : recording ≡ input ++ rest
  pub ended : why.Ended → rest ≡ []
  pub undisturbed : (c : Cause) → why.Failed c → ⊥

pub has_read : (set : TemplateList) (recording begun rest input : List ℕ) (count : ℕ) (from now : Reader) → Reads from now count input → IsSound set → IsBytes recording → length recording < 2 ^ 40 → from.left ≡ Some begun → begun ≡ recording → now.left ≡ Some rest
    → from.errors ≡ 0 → now.errors ≡ 0 → HasRead set recording (by_reader (IsUsedUp (2 ^ 40) count input) from now) input
has_read set recording begun rest input count from now reads sound fits few begins same left before after =
    let consumed : Consumes (Some begun) (Some rest) input = subst (λ (l : Option (List ℕ)). Consumes (Some begun) l input) left (subst (λ (l : Option (List ℕ)). Consumes l now.left input) begins reads.consumed) in
    let parts : recording ≡ input ++ rest = sym same ∙ consumed in record {
      rest = rest;
      sound = sound;
      fits = fits;
      few = few;
      parts = parts;
      ended = λ e. subst (λ (l : Option (List ℕ)). IsAtEnd l) left e.0;
      undisturbed = λ c h. no_device c count input rest from now before after (subst (λ (xs : List ℕ). length xs < 2 ^ 40) parts few) h;
    }

-- and what it read is less than there are reads
pub fewer : (set : TemplateList) (recording : List ℕ) (why : Why) (input : List ℕ) → HasRead set recording why input → length input < 2 ^ 40
fewer set recording why input h =
    let few = h.few in
    let size = ap (λ (xs : List ℕ). length xs) h.parts in
    let sum = length-append input h.rest in omega (arith, few, size, sum)

module _ (Written : Writing) (level : Level) (set : TemplateList) (recording : List ℕ) where
  -- what a run is answered with that wrote to these outputs
  abbrev pub Ran : Why → Option (List ℕ) → Option (List ℕ) → Option (List ℕ) → Option (List ℕ) → List ℕ → Result RecordingSummary RecordingFault → Type 0
  Ran why taken_old taken_new told_old told_new input ran = RecordsPackets why false level (templates_in set) Written (outputs taken_old told_old) (outputs taken_new told_new) input ran

  -- the packets that were accepted are all
  record Accepted (taken_old taken_new : Option (List ℕ)) (input : List ℕ) (summary : RecordingSummary) : Type 0 where
    pub packets : List (List Content)
    pub out : List ℕ
    pub all : recording ≡ input
    pub carries : CarriesPackets level (templates_in set) recording packets
    pub made : WrittenOf Written 1 (map accepted packets) out
    pub written : Appends taken_old taken_new out
    pub counts : (n : ℕ) → counted_by 0 (length out) ≡ n → counts_by summary ≡ counts_of packets (length recording) n
    pub count : summary.written ≡ counted_by 0 (length out)

  accepted_all : (why : Why) (a b c d : Option (List ℕ)) (input : List ℕ) (summary : RecordingSummary) → HasRead set recording why input → Ran why a b c d input (Ok summary) → Accepted a b input summary
  accepted_all why a b c d input summary h p =
      let accepts = p.accepts refl in
      let packets = accepts.0 in
      let end : h.rest ≡ [] = elim p.ended [ inl e ↦ h.ended e | inr e ↦ absurd (no_sizeless packets e.0.0 e.0.1 e.0.2 (sym accepts.1 ∙ e.0.3)) ] in
      let all : recording ≡ input = h.parts ∙ ap (λ (xs : List ℕ). input ++ xs) end ∙ append-nil input in
      let are = subst (λ (os : List Outcome). Outcomes false level (templates_in set) 0 input os) accepts.1 p.recorded.are in record {
        packets = packets;
        out = p.recorded.out;
        all = all;
        carries = subst (λ (xs : List ℕ). CarriesPackets level (templates_in set) xs packets) (sym all) (as_packets level (templates_in set) false packets 0 input are);
        made = subst (λ (os : List Outcome). WrittenOf Written 1 os p.recorded.out) accepts.1 p.recorded.made;
        written = p.recorded.grown.written;
        counts = λ n exact. counted_so packets p.outcomes summary (length input) (length p.recorded.out) n accepts.1 p.counts exact ∙ ap (λ (xs : List ℕ). counts_of packets (length xs) n) (sym all);
        count = ap (λ (s : RecordingSummary). s.written) p.counts;
      }

  -- the packets before the first refusal, and that
  record Refused (taken_old taken_new : Option (List ℕ)) (f : PacketFault) : Type 0 where
    pub refusal : FirstRefusal level (templates_in set) recording f.packet f.fault
    pub out : List ℕ
    pub made : WrittenOf Written 1 (map accepted refusal.packets ++ refusal.last ∷ []) out
    pub written : Appends taken_old taken_new out

  refused_first : (why : Why) (a b c d : Option (List ℕ)) (input : List ℕ) (f : PacketFault) → HasRead set recording why input → Ran why a b c d input (Err (RecordingFault.Packet f)) → Refused a b f
  refused_first why a b c d input f h (inl (x, p)) =
      let stays = whole h.rest input level set p.packets p.last f.fault h.sound (subst (λ (xs : List ℕ). IsBytes xs) h.parts h.fits) p.refusal (λ e. h.ended (p.ended e)) p.recorded.are in record {
        refusal = record {
          packets = p.packets;
          last = p.last;
          outcomes = subst (λ (xs : List ℕ). Outcomes false level (templates_in set) 0 xs (map accepted p.packets ++ p.last ∷ [])) (sym h.parts) stays;
          refusal = p.refusal;
          number_is = p.number_is;
        };
        out = p.recorded.out;
        made = p.recorded.made;
        written = p.recorded.grown.written;
      }
  refused_first why a b c d input f h (inr p) = absurd (h.undisturbed f.fault.cause p.failed)

  -- ---- what is in the room

  pub settled : (why : Why) (c d : Option (List ℕ)) (input bytes old new : List ℕ) (ran : Result RecordingSummary RecordingFault) (r : Result Counts Refusal) → length bytes < 2 ^ 64 → HasRead set recording why input → Ran why (Some []) (Some bytes) c d input ran
      → SettlesPackets ran bytes old new r → WritesPackets Written level set recording old new r
  settled why c d input bytes old new ran (Ok counts) room h p (summary, is, counts_is, put) =
      let a = accepted_all why (Some []) (Some bytes) c d input summary h (subst (λ (x : Result RecordingSummary RecordingFault). Ran why (Some []) (Some bytes) c d input x) is p) in
      let same : bytes ≡ a.out = a.written in
      let exact : counted_by 0 (length a.out) ≡ length bytes = omega (arith, room, ap (λ (xs : List ℕ). length xs) same) in record {
        packets = a.packets;
        bytes = bytes;
        carries = a.carries;
        made = subst (λ (xs : List ℕ). WrittenOf Written 1 (map accepted a.packets) xs) (sym same) a.made;
        put = put;
        counts_are = counts_is ∙ a.counts (length bytes) exact;
      }
  settled why c d input bytes old new ran (Err (Refusal.Packet f written)) room h p (is, memory, count, put) =
      let a = refused_first why (Some []) (Some bytes) c d input f h (subst (λ (x : Result RecordingSummary RecordingFault). Ran why (Some []) (Some bytes) c d input x) is p) in
      let same : bytes ≡ a.out = a.written in record {
        refusal = a.refusal;
        bytes = bytes;
        made = subst (λ (xs : List ℕ). WrittenOf Written 1 (map accepted a.refusal.packets ++ a.refusal.last ∷ []) xs) (sym same) a.made;
        put = put;
        count = count;
      }
  settled why c d input bytes old new ran (Err Refusal.Memory) room h p s = s
  settled why c d input bytes old new ran (Err r) room h p s = absurd s

  -- ---- how much it is

  pub measured : (why : Why) (a b c d : Option (List ℕ)) (input : List ℕ) (ran : Result RecordingSummary RecordingFault) (count : ℕ) (r : Refusal) → HasRead set recording why input → Ran why a b c d input ran → MeasuresRun ran count r → MeasuresPackets Written level set recording r
  measured why a b c d input ran count (Refusal.Room needed) h p (inl (summary, is, n)) =
      let x = accepted_all why a b c d input summary h (subst (λ (y : Result RecordingSummary RecordingFault). Ran why a b c d input y) is p) in
      inl (x.packets, x.out, x.carries, x.made, n ∙ x.count)
  measured why a b c d input ran count (Refusal.Room needed) h p (inr (f, is, memory)) =
      let x = refused_first why a b c d input f h (subst (λ (y : Result RecordingSummary RecordingFault). Ran why a b c d input y) is p) in inr (f, x.refusal)
  measured why a b c d input ran count Refusal.Memory h p m = tt
  measured why a b c d input ran count r h p m = absurd m

  -- ---- more than the room holds

  come_more : (bytes rest more : List ℕ) (messages : List Content) → ((messages ≡ []) × (more ≡ [])) ⊎ HasCome level (templates_in set) bytes messages → ((messages ≡ []) × (more ≡ [])) ⊎ HasCome level (templates_in set) (bytes ++ rest) messages
  come_more bytes rest more messages (inl e) = inl e
  come_more bytes rest more messages (inr h) = inr (record {
    size = h.size;
    come = h.come;
    behind = h.behind ++ rest;
    room = h.room;
    parts = ap (λ (xs : List ℕ). xs ++ rest) h.parts ∙ append_assoc h.size (h.come ++ h.behind) rest ∙ ap (λ (xs : List ℕ). h.size ++ xs) (append_assoc h.come h.behind rest);
    size_is = h.size_is;
    few = h.few;
    limited = h.limited;
    carried = h.carried;
  })

  at_end : (input rest out bytes old new : List ℕ) (outcomes : List Outcome) (needed : ℕ) → recording ≡ input ++ rest → Outcomes false level (templates_in set) 0 input outcomes → WrittenOf Written 1 outcomes out → bytes ≡ out → length old < length bytes → new ≡ old
      → Needs Written level set recording needed → Overflows Written level set recording old new needed
  at_end input rest out bytes old new outcomes needed parts are made same longer stays needs = record {
    front = input;
    back = rest;
    parts = parts;
    outcomes = outcomes;
    are = are;
    out = out;
    made = made;
    messages = [];
    more = [];
    read = inl (refl, refl);
    next = inl refl;
    longer = omega (arith, longer, ap (λ (xs : List ℕ). length xs) same, length-append out []);
    same = stays;
    needs = needs;
  }

  broken : (why : Why) (c d : Option (List ℕ)) (input bytes old new : List ℕ) (needed : ℕ) → HasRead set recording why input → RecordsFront false level (templates_in set) Written (outputs (Some []) c) (outputs (Some bytes) d) input
      → length old < length bytes → new ≡ old → Needs Written level set recording needed → Overflows Written level set recording old new needed
  broken why c d input bytes old new needed h p longer stays needs =
      let same : bytes ≡ p.out ++ p.more = p.grown.written in record {
        front = p.front;
        back = p.back ++ h.rest;
        parts = h.parts ∙ ap (λ (xs : List ℕ). xs ++ h.rest) p.parts ∙ append_assoc p.front p.back h.rest;
        outcomes = p.outcomes;
        are = p.are;
        out = p.out;
        made = p.made;
        messages = p.messages;
        more = p.more;
        read = come_more p.back h.rest p.more p.messages p.read;
        next = p.next;
        longer = omega (arith, longer, ap (λ (xs : List ℕ). length xs) same);
        same = stays;
        needs = needs;
      }

  overflowed : (why : Why) (c d : Option (List ℕ)) (input bytes old new : List ℕ) (ran : Result RecordingSummary RecordingFault) (needed : ℕ) → HasRead set recording why input → Ran why (Some []) (Some bytes) c d input ran → length old < length bytes → new ≡ old
      → Needs Written level set recording needed → Overflows Written level set recording old new needed
  overflowed why c d input bytes old new (Ok summary) needed h p longer stays needs =
      at_end input h.rest p.recorded.out bytes old new p.outcomes needed h.parts p.recorded.are p.recorded.made p.recorded.grown.written longer stays needs
  overflowed why c d input bytes old new (Err (RecordingFault.Packet f)) needed h (inl (x, p)) longer stays needs =
      at_end input h.rest p.recorded.out bytes old new (map accepted p.packets ++ p.last ∷ []) needed h.parts p.recorded.are p.recorded.made p.recorded.grown.written longer stays needs
  overflowed why c d input bytes old new (Err (RecordingFault.Packet f)) needed h (inr p) longer stays needs = absurd (h.undisturbed f.fault.cause p.failed)
  overflowed why c d input bytes old new (Err RecordingFault.Write) needed h p longer stays needs = broken why c d input bytes old new needed h p longer stays needs
  overflowed why c d input bytes old new (Err RecordingFault.Tell) needed h p longer stays needs = broken why c d input bytes old new needed h p longer stays needs
  overflowed why c d input bytes old new (Err RecordingFault.Memory) needed h p longer stays needs = broken why c d input bytes old new needed h p longer stays needs

  pub overflows : (why : Why) (c d : Option (List ℕ)) (input bytes old new : List ℕ) (ran : Result RecordingSummary RecordingFault) (r : Refusal) → HasRead set recording why input → Ran why (Some []) (Some bytes) c d input ran → length old < length bytes → new ≡ old
      → MeasuresPackets Written level set recording r → WritesPackets Written level set recording old new (Err r)
  overflows why c d input bytes old new ran (Refusal.Room needed) h p longer stays m = overflowed why c d input bytes old new ran needed h p longer stays m
  overflows why c d input bytes old new ran Refusal.Memory h p longer stays m = stays
  overflows why c d input bytes old new ran r h p longer stays m = absurd m

-- ---- from what a call has

module _ (Written : Writing) (level : Level) (set : TemplateList) (recording : List ℕ) where
  pub settled_from : (why : Why) (input begun kept bytes old new : List ℕ) (ran : Result RecordingSummary RecordingFault) (r : Result Counts Refusal) → HasRead set recording why input → Ran Written level set recording why (Some begun) (Some kept) None None input ran
      → begun ≡ [] → bytes ≡ kept → length bytes < 2 ^ 64 → SettlesPackets ran bytes old new r → WritesPackets Written level set recording old new r
  settled_from why input begun kept bytes old new ran r h p empty same room s =
      let all = subst (λ (xs : List ℕ). Ran Written level set recording why (Some xs) (Some kept) None None input ran) empty p in
      settled Written level set recording why None None input bytes old new ran r room h (subst (λ (xs : List ℕ). Ran Written level set recording why (Some []) (Some xs) None None input ran) (sym same) all) s

  pub overflows_from : (why : Why) (input begun kept old new : List ℕ) (ran : Result RecordingSummary RecordingFault) (r : Refusal) → HasRead set recording why input → Ran Written level set recording why (Some begun) (Some kept) None None input ran
      → begun ≡ [] → length old < length kept → new ≡ old → MeasuresPackets Written level set recording r → WritesPackets Written level set recording old new (Err r)
  overflows_from why input begun kept old new ran r h p empty longer stays m =
      overflows Written level set recording why None None input kept old new ran r h (subst (λ (xs : List ℕ). Ran Written level set recording why (Some xs) (Some kept) None None input ran) empty p) longer stays m

-- ---- canonical recordings

-- what is written of packets one behind the other, and of one more
one_more : (Written : Writing) (os : List Outcome) (o : Outcome) (n : ℕ) (a b : List ℕ) → WrittenOf Written n os a → ((m : ℕ) → Written m o b) → WrittenOf Written n (os ++ o ∷ []) (a ++ b)
one_more Written [] o n a b h w = (b, [], ap (λ (xs : List ℕ). xs ++ b) h ∙ sym (append-nil b), w n, refl)
one_more Written (p ∷ ps) o n a b h w = (h.0, h.1 ++ b, ap (λ (xs : List ℕ). xs ++ b) h.2 ∙ append_assoc h.0 h.1 b, h.3, one_more Written ps o (n + 1) h.1 b h.4 w)

module _ (set : TemplateList) where
  -- the canonical recording is what is written of its packets
  written_so : (packets : List (List Content)) (n : ℕ) (out : List ℕ) → IsCanonicalRecording (templates_in set) packets out → WrittenOf (WritesCanonical set) n (map accepted packets) out
  written_so [] n out h = h
  written_so (p ∷ ps) n out h =
      let c = h.first in
      (h.front, h.back, h.parts, (h.front, record { size = c.packet.size; out = c.stream; parts = c.packet.parts; leads = c.least; made = c.canonical }, refl), written_so ps (n + 1) h.back h.second)

  -- and what is written of packets that a recording carries is their canonical one
  pub canonical_so : (level : Level) (packets : List (List Content)) (n : ℕ) (recording out : List ℕ) → IsSound set → CarriesPackets level (templates_in set) recording packets → WrittenOf (WritesCanonical set) n (map accepted packets) out
      → IsCanonicalRecording (templates_in set) packets out
  canonical_so level [] n recording out sound h w = w
  canonical_so level (p ∷ ps) n recording out sound h w =
      let made = w.3.1 in
      let text : w.0 ≡ made.size ++ made.out = w.3.2 ∙ made.parts in
      let packet = canonical_packet set sound level h.between made.out p h.first.1 made.made h.first.0.some h.first.0.few made.size made.leads in record {
        between = tt;
        front = made.size ++ made.out;
        back = w.1;
        parts = w.2 ∙ ap (λ (xs : List ℕ). xs ++ w.1) text;
        first = packet;
        second = canonical_so level ps (n + 1) h.back w.1 sound h.second w.4;
      }

  -- nothing is written of a packet that is refused
  nothing_of : (last : Outcome) (f : Fault) → refusal_in last ≡ Some f → (m : ℕ) → WritesCanonical set m last []
  nothing_of (accepted ms) f r m = absurd cc
  nothing_of (refused ms place cause) f r m = ([], refl, refl)
  nothing_of (sizeless place cause) f r m = ([], refl, refl)

  exact_counts : (packets : List (List Content)) (read made : ℕ) → made < 2 ^ 40
      → (◌≡◌ {A = RecordingSummary} (record { packets = length packets; refused = 0; messages = messages_in (map accepted packets); read = read; written = made }) (summary_of (map accepted packets) read made))
  exact_counts packets read made few =
      let exact : counted_by 0 made ≡ made = omega (arith, few) in rw (many packets, none_refused packets, read_all read packets, exact) refl

  -- what is answered of a canonical recording is so of what is written
  pub as_records : (why : Why) (level : Level) (a b : Option (List ℕ)) (input : List ℕ) (ran : Result RecordingSummary RecordingFault) → length input < 2 ^ 40 → CanonicalisesAs why level set a b input ran
      → RecordsPackets why false level (templates_in set) (WritesCanonical set) (outputs a None) (outputs b None) input ran
  as_records why level a b input (Ok summary) few p =
      let shorter = p.no_longer in record {
        outcomes = map accepted p.packets;
        recorded = record {
          out = p.out;
          are = as_outcomes level (templates_in set) false p.packets 0 input p.carried;
          made = written_so p.packets 1 p.out p.canonical;
          grown = record { written = p.written; said = tt };
        };
        accepts = λ e. (p.packets, refl);
        ended = inl p.ended;
        counts = p.counts ∙ exact_counts p.packets (length input) (length p.out) (omega (arith, few, shorter));
      }
  as_records why level a b input (Err (RecordingFault.Packet f)) few (inl p) =
      let r = p.refusal in
      inl (
        refl,
        record {
          packets = r.packets;
          last = r.last;
          recorded = record {
            out = p.out;
            are = r.outcomes;
            made = subst (λ (xs : List ℕ). WrittenOf (WritesCanonical set) 1 (map accepted r.packets ++ r.last ∷ []) xs) (append-nil p.out)
                (one_more (WritesCanonical set) (map accepted r.packets) r.last 1 p.out [] (written_so r.packets 1 p.out p.canonical) (nothing_of r.last f.fault r.refusal));
            grown = record { written = p.written; said = tt };
          };
          refusal = r.refusal;
          number_is = r.number_is;
          ended = p.ended;
        },
      )
  as_records why level a b input (Err (RecordingFault.Packet f)) few (inr p) = inr p
  as_records why level a b input (Err RecordingFault.Tell) few p = absurd p
  as_records why level a b input (Err RecordingFault.Write) few p = p
  as_records why level a b input (Err RecordingFault.Memory) few p = p

  -- ---- what is counted

  pub counted_all : (level : Level) (recording : List ℕ) (why : Why) (c d : Option (List ℕ)) (input old new : List ℕ) (ran : Result RecordingSummary RecordingFault) (r : Result Counts Refusal) → HasRead set recording why input
      → Ran (WritesCanonical set) level set recording why None None c d input ran → SettlesPackets ran [] old new r → CountsPackets level set recording r
  counted_all level recording why c d input old new ran (Ok counts) h p (summary, is, counts_is, put) =
      let a = accepted_all (WritesCanonical set) level set recording why None None c d input summary h (subst (λ (x : Result RecordingSummary RecordingFault). Ran (WritesCanonical set) level set recording why None None c d input x) is p) in
      let canonical = canonical_so level a.packets 1 recording a.out h.sound a.carries a.made in
      let shorter = no_longer set h.sound level a.packets recording a.out a.carries canonical in
      let exact : counted_by 0 (length a.out) ≡ length a.out = omega (arith, shorter, h.few) in record {
        packets = a.packets;
        bytes = a.out;
        carries = a.carries;
        canonical = canonical;
        counts_are = counts_is ∙ a.counts (length a.out) exact;
        no_longer = shorter;
      }
  counted_all level recording why c d input old new ran (Err (Refusal.Packet f written)) h p (is, memory, count, put) =
      ((refused_first (WritesCanonical set) level set recording why None None c d input f h (subst (λ (x : Result RecordingSummary RecordingFault). Ran (WritesCanonical set) level set recording why None None c d input x) is p)).refusal, count)
  counted_all level recording why c d input old new ran (Err Refusal.Memory) h p s = tt
  counted_all level recording why c d input old new ran (Err r) h p s = absurd s

-- ---- a room of as many bytes as the recording

module _ (level : Level) (set : TemplateList) (sound : IsSound set) where
  -- what is written of packets is no longer than they are
  outcomes_no_longer : (os : List Outcome) (at n : ℕ) (bytes out : List ℕ) → Outcomes false level (templates_in set) at bytes os → WrittenOf (WritesCanonical set) n os out → length out ≤ length bytes
  outcomes_no_longer [] at n bytes out h w = omega (arith, ap (λ (xs : List ℕ). length xs) w)
  outcomes_no_longer (accepted ms ∷ later) at n bytes out h w =
      let made = w.3.1 in
      let text : w.0 ≡ made.size ++ made.out = w.3.2 ∙ made.parts in
      let s = h.first.packet in
      let stream = none_shorter set sound (plainly level) h.first.stream made.out ms h.first.carried made.made in
      let size = least_size (length made.out) (length h.first.stream) made.size s.size stream (omega (arith, stream, s.few)) made.leads (size_form level s.size (length h.first.stream) s.size_is) in
      let behind = outcomes_no_longer later (at + length h.front) (n + 1) h.back w.1 h.later w.4 in
      omega (
        arith,
        stream,
        size,
        behind,
        ap (λ (xs : List ℕ). length xs) h.parts,
        length-append h.front h.back,
        ap (λ (xs : List ℕ). length xs) s.parts,
        length-append s.size h.first.stream,
        ap (λ (xs : List ℕ). length xs) w.2,
        length-append w.0 w.1,
        ap (λ (xs : List ℕ). length xs) text,
        length-append made.size made.out,
      )
  outcomes_no_longer (refused ms place cause ∷ later) at n bytes out (inl h) w = nothing_left later n out w.0 w.1 h.later w.2 (w.3.2 ∙ w.3.1) w.4
    where
      nothing_left : (later : List Outcome) (n : ℕ) (out front back : List ℕ) → later ≡ [] → out ≡ front ++ back → front ≡ [] → WrittenOf (WritesCanonical set) (n + 1) later back → length out ≤ length bytes
      nothing_left [] n out front back none parts empty w = omega (arith, ap (λ (xs : List ℕ). length xs) parts, length-append front back, ap (λ (xs : List ℕ). length xs) empty, ap (λ (xs : List ℕ). length xs) w)
      nothing_left (o ∷ os) n out front back none parts empty w = absurd cc
  outcomes_no_longer (refused ms place cause ∷ later) at n bytes out (inr h) w = nothing_left later n out w.0 w.1 h.1 w.2 (w.3.2 ∙ w.3.1) w.4
    where
      nothing_left : (later : List Outcome) (n : ℕ) (out front back : List ℕ) → later ≡ [] → out ≡ front ++ back → front ≡ [] → WrittenOf (WritesCanonical set) (n + 1) later back → length out ≤ length bytes
      nothing_left [] n out front back none parts empty w = omega (arith, ap (λ (xs : List ℕ). length xs) parts, length-append front back, ap (λ (xs : List ℕ). length xs) empty, ap (λ (xs : List ℕ). length xs) w)
      nothing_left (o ∷ os) n out front back none parts empty w = absurd cc
  outcomes_no_longer (sizeless place cause ∷ later) at n bytes out h w = nothing_left later n out w.0 w.1 h.3 w.2 (w.3.2 ∙ w.3.1) w.4
    where
      nothing_left : (later : List Outcome) (n : ℕ) (out front back : List ℕ) → later ≡ [] → out ≡ front ++ back → front ≡ [] → WrittenOf (WritesCanonical set) (n + 1) later back → length out ≤ length bytes
      nothing_left [] n out front back none parts empty w = omega (arith, ap (λ (xs : List ℕ). length xs) parts, length-append front back, ap (λ (xs : List ℕ). length xs) empty, ap (λ (xs : List ℕ). length xs) w)
      nothing_left (o ∷ os) n out front back none parts empty w = absurd cc

  -- nor is a front of what is written of a packet longer than what has come of it
  front_of_next : (n : ℕ) (back : List ℕ) (messages : List Content) (more : List ℕ) → ((messages ≡ []) × (more ≡ [])) ⊎ HasCome level (templates_in set) back messages → FrontWritten (WritesCanonical set) n messages more → length more ≤ length back
  front_of_next n back messages more (inl e) next = omega (arith, ap (λ (xs : List ℕ). length xs) e.1)
  front_of_next n back messages more (inr h) (inl e) = omega (arith, ap (λ (xs : List ℕ). length xs) e)
  front_of_next n back messages more (inr h) (inr (rest, w)) =
      let made = w.1 in
      let stream = stream_no_longer (plainly level) set sound h.come made.out messages h.carried made.made in
      let size = least_size (length made.out) h.room made.size h.size (omega (arith, stream, h.few)) (omega (arith, stream, h.few, h.limited)) made.leads (size_form level h.size h.room h.size_is) in
      omega (
        arith,
        stream,
        size,
        ap (λ (xs : List ℕ). length xs) h.parts,
        length-append h.size (h.come ++ h.behind),
        length-append h.come h.behind,
        ap (λ (xs : List ℕ). length xs) (w.2 ∙ made.parts),
        length-append more rest,
        length-append made.size made.out,
      )

  pub front_no_longer : (recording old new : List ℕ) (needed : ℕ) → (o : Overflows (WritesCanonical set) level set recording old new needed) → length (o.out ++ o.more) ≤ length recording
  front_no_longer recording old new needed o =
      let front = outcomes_no_longer o.outcomes 0 1 o.front o.out o.are o.made in
      let back = front_of_next (length o.outcomes + 1) o.back o.messages o.more o.read o.next in
      omega (arith, front, back, ap (λ (xs : List ℕ). length xs) o.parts, length-append o.front o.back, length-append o.out o.more)
