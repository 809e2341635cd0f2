-- Lemmas on a recording on its way: one packet more, and how a run ends.
use Rattle.std.proofs.Common.{Bool, true, false, List, ℕ, [], ◌∷◌, ◌++◌, ◌+◌, ◌≤◌, ◌^◌, ◌≡◌, ◌⊎◌, inl, Option, Some, None, length, map, refl, sym, ap, subst, ◌∙◌, arith, append-nil, append_assoc, length-append}
use Rattle.std.specs.Io.KnownBytes.{Appends}
use Rattle.fast_io.proofs.Outputs.{Appends-nil, Appends-trans}
use Rattle.fast_io.specs.Counts.{counted_by}
use Rattle.fast_io.specs.Traffic.{Taken}
use Rattle.fast_wire.specs.declared.level.Level.{Level}
use Rattle.fast_template.specs.Resolved.{Resolved}
use Rattle.fast_stream.specs.declared.fault.Cause.{Cause}
use Rattle.fast_stream.specs.declared.fault.Fault.{Fault}
use Rattle.fast_stream.specs.Nodes.{Content}
use Rattle.fast_packets.specs.Outcomes.{Outcome, Outcomes, accepted, refusal_in, refused, sizeless}
use Rattle.fast_recording.specs.Told.{line_for, told_from}
use Rattle.fast_recording.specs.Made.{FrontWritten, Writing, WrittenOf}
use Rattle.fast_recording.specs.Faults.{count_refused, counts_taken}
use Rattle.fast_recording.specs.Recorded.{EndsInSize, Grows, HasCome, IsCutAt, Outputs, Recorded, RecordsAll, RecordsBefore, RecordsCut, RecordsFront, Why, count_refusal, messages_of, read_of, refused_in, summary_of}
use Rattle.fast_recording.specs.Passing.{AreFew, Passes, Settled, SettledOne, nothing_counted}
use Rattle.fast_recording.specs.declared.fault.PacketFault.{PacketFault}
use Rattle.fast_recording.specs.declared.packet.Taken.{Taken as PacketTaken}
use Rattle.fast_recording.specs.declared.summary.RecordingSummary.{RecordingSummary}
use Rattle.fast_recording.proofs.Passings.{all_accepted, all_read, few, messages_more, none_told, one_few, refused_few, refused_more, settled_more, settled_single, settled_then, told_more, told_one, written_more, written_one}

pub grows_on : (old now later : Outputs) (a b s t : List ℕ) → Grows old now a s → Grows now later b t → Grows old later (a ++ b) (s ++ t)
grows_on old now later a b s t g h = record {
  written = Appends-trans old.taken now.taken later.taken a b g.written h.written;
  said = Appends-trans old.told now.told later.told s t g.said h.said;
}

-- only written
pub writes_only : (now later : Outputs) (b : List ℕ) → Appends now.taken later.taken b → later.told ≡ now.told → Grows now later b []
writes_only now later b w same = record { written = w; said = subst (λ (x : Option (List ℕ)). Appends now.told x []) (sym same) (Appends-nil now.told) }

abbrev pub summary_by : ℕ → ℕ → ℕ → ℕ → ℕ → RecordingSummary
summary_by p r m b w = record { packets = p; refused = r; messages = m; read = b; written = w }

pub same_summary : (p p' r r' m m' b b' w w' : ℕ) → p ≡ p' → r ≡ r' → m ≡ m' → b ≡ b' → w ≡ w' → summary_by p r m b w ≡ summary_by p' r' m' b' w'
same_summary p p' r r' m m' b b' w w' e f g h i = rw (e, f, g, h, i) refl

counted_refusal : (n : ℕ) (o : Option Fault) → n ≤ 2 ^ 60 → count_refused n o ≡ n + count_refusal o
counted_refusal n None few = omega arith
counted_refusal n (Some f) few = omega (arith, few)

module _ (goes_on : Bool) (level : Level) (set : List Resolved) where
  -- what is counted behind one packet more
  pub counts_more : (os : List Outcome) (o : Outcome) (front bytes out more : List ℕ) (taken : PacketTaken) → AreFew front bytes → Settled goes_on level set 0 front os → 1 ≤ length bytes → messages_of o ≤ length bytes → ((all : ℕ) → read_of all (o ∷ []) ≡ all)
      → taken.messages ≡ messages_of o → taken.written ≡ counted_by 0 (length more) → count_refusal taken.fault ≡ count_refusal (refusal_in o)
      → counts_taken (summary_of os (length front) (length out)) taken (length bytes) ≡ summary_of (os ++ o ∷ []) (length (front ++ bytes)) (length (out ++ more))
  counts_more os o front bytes out more taken bound h some small whole messages written faults =
      let few_os = few goes_on level set os 0 front h in
      let count = length-append os (o ∷ []) in
      let ms = messages_more os (o ∷ []) in
      let rs = refused_more os (o ∷ []) in
      let less = refused_few os in
      let long = length-append front bytes in
      let wide = length-append out more in
      let before : read_of (length front) os ≡ length front = ap (λ (xs : List Outcome). read_of (length front) xs) (sym (append-nil os)) ∙ all_read goes_on level set os [] (length front) 0 front h in
      let behind : read_of (length (front ++ bytes)) (os ++ o ∷ []) ≡ length (front ++ bytes) = all_read goes_on level set os (o ∷ []) (length (front ++ bytes)) 0 front h ∙ whole (length (front ++ bytes)) in
      same_summary _ _ _ _ _ _ _ _ _ _
      (omega (arith, bound, few_os.0, count, some))
      (counted_refusal (refused_in os) taken.fault (omega (arith, bound, few_os.0, less)) ∙ omega (arith, rs, faults))
      (omega (arith, bound, few_os.1, small, ms, messages))
      (omega (arith, bound, before, behind, long))
      (omega (arith, written, wide))

  whole_read : (o : Outcome) (at : ℕ) (bytes : List ℕ) → SettledOne goes_on level set at bytes o → (all : ℕ) → read_of all (o ∷ []) ≡ all
  whole_read (accepted ms) at bytes h all = refl
  whole_read (refused ms place cause) at bytes h all = refl
  whole_read (sizeless place cause) at bytes h all = absurd h

  -- from the begin of the recording
  all_more : (os more : List Outcome) (front rest : List ℕ) → Settled goes_on level set 0 front os → Settled goes_on level set (length front) rest more → Settled goes_on level set 0 (front ++ rest) (os ++ more)
  all_more os more front rest h k =
      let zero : 0 + length front ≡ length front = omega arith in
      settled_more goes_on level set os more 0 front rest h (rw (zero) k)

  all_then : (os last : List Outcome) (front rest : List ℕ) → Settled goes_on level set 0 front os → Outcomes goes_on level set (length front) rest last → Outcomes goes_on level set 0 (front ++ rest) (os ++ last)
  all_then os last front rest h k =
      let zero : 0 + length front ≡ length front = omega arith in
      settled_then goes_on level set os last 0 front rest h (rw (zero) k)

  module _ (Writes : Writing) where
    pub pass_more : {before after : RecordingSummary} {old now later : Outputs} {front : List ℕ} (bytes more : List ℕ) (o : Outcome) (taken : PacketTaken) (p : Passes goes_on level set Writes before old now front) → AreFew front bytes
        → SettledOne goes_on level set (length front) bytes o → Writes (length p.outcomes + 1) o more → Grows now later more (line_for (length p.outcomes + 1) (refusal_in o))
        → taken.messages ≡ messages_of o → taken.written ≡ counted_by 0 (length more) → count_refusal taken.fault ≡ count_refusal (refusal_in o) → after ≡ counts_taken before taken (length bytes)
        → Passes goes_on level set Writes after old later (front ++ bytes)
    pass_more {old = old} {now = now} {later = later} {front = front} bytes more o taken p bound one writes grows messages written faults counts =
        let number : 1 + length p.outcomes ≡ length p.outcomes + 1 = omega arith in
        let few_one = one_few goes_on level set o (length front) bytes one in
        record {
          outcomes = p.outcomes ++ o ∷ [];
          settled = all_more p.outcomes (o ∷ []) front bytes p.settled (settled_single goes_on level set o (length front) bytes one);
          out = p.out ++ more;
          made = written_more Writes p.outcomes (o ∷ []) 1 p.out more p.made (rw (number) (written_one Writes o (length p.outcomes + 1) more writes));
          grown = rw (told_more 1 p.outcomes (o ∷ []), number, told_one (length p.outcomes + 1) o) (grows_on old now later p.out more (told_from 1 p.outcomes) (line_for (length p.outcomes + 1) (refusal_in o)) p.grown grows);
          counts_are = counts ∙ ap (λ (c : RecordingSummary). counts_taken c taken (length bytes)) p.counts_are ∙ counts_more p.outcomes o front bytes p.out more taken bound p.settled few_one.0 few_one.1 (whole_read o (length front) bytes one) messages written faults;
        }

    -- no packet came yet
    pub passes_none : (old : Outputs) → Passes goes_on level set Writes nothing_counted old old []
    passes_none old = record { outcomes = []; settled = refl; out = []; made = refl; grown = record { written = Appends-nil old.taken; said = Appends-nil old.told }; counts_are = refl }

    -- behind whole packets comes the last, and lines are told of some of it
    pub record_on : {counts : RecordingSummary} {old now later : Outputs} {front : List ℕ} (rest more : List ℕ) (last told : List Outcome) (p : Passes goes_on level set Writes counts old now front)
        → Outcomes goes_on level set (length front) rest last → WrittenOf Writes (length p.outcomes + 1) last more → Grows now later more (told_from (length p.outcomes + 1) told)
        → Recorded goes_on level set Writes old later (front ++ rest) (p.outcomes ++ last) (p.outcomes ++ told)
    record_on {old = old} {now = now} {later = later} {front = front} rest more last told p are writes grows =
        let number : 1 + length p.outcomes ≡ length p.outcomes + 1 = omega arith in
        record {
          out = p.out ++ more;
          are = all_then p.outcomes last front rest p.settled are;
          made = written_more Writes p.outcomes last 1 p.out more p.made (rw (number) writes);
          grown = rw (told_more 1 p.outcomes told, number) (grows_on old now later p.out more (told_from 1 p.outcomes) (told_from (length p.outcomes + 1) told) p.grown grows);
        }

    -- a write failed or memory was refused in the packet that is next
    pub breaks : {counts : RecordingSummary} {old now later : Outputs} {front : List ℕ} (rest more : List ℕ) (ms : List Content) (p : Passes goes_on level set Writes counts old now front) → ((ms ≡ []) × (more ≡ [])) ⊎ HasCome level set rest ms
        → FrontWritten Writes (length p.outcomes + 1) ms more → Appends now.taken later.taken more → later.told ≡ now.told → RecordsFront goes_on level set Writes old later (front ++ rest)
    breaks {old = old} {now = now} {later = later} {front = front} rest more ms p read next written same =
        let whole : front ++ [] ≡ front = append-nil front in
        let os : p.outcomes ++ [] ≡ p.outcomes = append-nil p.outcomes in
        record {
          front = front;
          back = rest;
          parts = refl;
          outcomes = p.outcomes;
          are = rw (whole, os) at (all_then p.outcomes [] front [] p.settled refl);
          out = p.out;
          made = p.made;
          messages = ms;
          more = more;
          read = read;
          next = next;
          told = told_from 1 p.outcomes;
          untold = [];
          lines_are = sym (append-nil (told_from 1 p.outcomes));
          grown = rw (append-nil (told_from 1 p.outcomes)) at (grows_on old now later p.out more (told_from 1 p.outcomes) [] p.grown (writes_only now later more written same));
        }

    -- nothing of it was written
    pub breaks_between : {counts : RecordingSummary} {old now : Outputs} {front : List ℕ} (rest : List ℕ) → Passes goes_on level set Writes counts old now front → RecordsFront goes_on level set Writes old now (front ++ rest)
    breaks_between {now = now} rest p = breaks rest [] [] p (inl (refl, refl)) (inl refl) (Appends-nil now.taken) refl

    -- the last packet was not told whole
    pub breaks_telling : {counts : RecordingSummary} {old now later : Outputs} {front : List ℕ} (rest behind more untold : List ℕ) (last : Outcome) (p : Passes goes_on level set Writes counts old now front)
        → Outcomes goes_on level set (length front) rest (last ∷ []) → Writes (length p.outcomes + 1) last more → Appends now.taken later.taken more → Taken now.told later.told (line_for (length p.outcomes + 1) (refusal_in last)) untold
        → RecordsFront goes_on level set Writes old later (front ++ (rest ++ behind))
    breaks_telling {old = old} {now = now} {later = later} {front = front} rest behind more untold last p are writes written t =
        let number : 1 + length p.outcomes ≡ length p.outcomes + 1 = omega arith in
        record {
          front = front ++ rest;
          back = behind;
          parts = sym (append_assoc front rest behind);
          outcomes = p.outcomes ++ last ∷ [];
          are = all_then p.outcomes (last ∷ []) front rest p.settled are;
          out = p.out ++ more;
          made = written_more Writes p.outcomes (last ∷ []) 1 p.out more p.made (rw (number) (written_one Writes last (length p.outcomes + 1) more writes));
          messages = [];
          more = [];
          read = inl (refl, refl);
          next = inl refl;
          told = told_from 1 p.outcomes ++ t.front;
          untold = untold;
          lines_are = told_more 1 p.outcomes (last ∷ []) ∙ ap (λ (n : ℕ). told_from 1 p.outcomes ++ told_from n (last ∷ [])) number ∙ ap (λ (z : List ℕ). told_from 1 p.outcomes ++ z) (told_one (length p.outcomes + 1) last ∙ t.parts)
              ∙ sym (append_assoc (told_from 1 p.outcomes) t.front untold);
          grown = rw (append-nil (p.out ++ more)) (grows_on old now later p.out more (told_from 1 p.outcomes) t.front p.grown (record { written = written; said = t.appended }));
        }

    -- the last packet is refused and answered
    pub stops_before : {counts : RecordingSummary} {old now later : Outputs} {front : List ℕ} (why : Why) (rest more : List ℕ) (last : Outcome) (f : PacketFault) (p : Passes goes_on level set Writes counts old now front) → goes_on ≡ false
        → Outcomes goes_on level set (length front) rest (last ∷ []) → Writes (length p.outcomes + 1) last more → Appends now.taken later.taken more → later.told ≡ now.told → refusal_in last ≡ Some f.fault → f.packet ≡ length p.outcomes + 1
        → (f.fault.cause ≡ Cause.Truncated → why.Ended) → RecordsBefore why level set Writes old later (front ++ rest) f
    stops_before {old = old} {later = later} {front = front} why rest more last f p off are writes written same refusal number ended =
        let r = record_on rest more (last ∷ []) [] p are (written_one Writes last (length p.outcomes + 1) more writes) (writes_only _ _ more written same) in
        let all = all_accepted goes_on level set p.outcomes 0 front off p.settled in
        let told : told_from 1 (p.outcomes ++ []) ≡ [] = ap (λ (xs : List Outcome). told_from 1 xs) (append-nil p.outcomes ∙ all.1) ∙ none_told 1 all.0 in
        let untold : Recorded goes_on level set Writes old later (front ++ rest) (p.outcomes ++ last ∷ []) [] = record { out = r.out; are = r.are; made = r.made; grown = rw (told) at r.grown } in
        let stopped = subst (λ (w : Bool). Recorded w level set Writes old later (front ++ rest) (p.outcomes ++ last ∷ []) []) off untold in
        record {
          packets = all.0;
          last = last;
          recorded = subst (λ (os : List Outcome). Recorded false level set Writes old later (front ++ rest) (os ++ last ∷ []) []) all.1 stopped;
          refusal = refusal;
          number_is = number ∙ ap (λ (xs : List Outcome). length xs + 1) all.1 ∙ ap (λ (n : ℕ). n + 1) (same_length all.0);
          ended = ended;
        }
      where
        same_length : (packets : List (List Content)) → length (map accepted packets) ≡ length packets
        same_length [] = refl
        same_length (ms ∷ packets) = omega (arith, same_length packets)

    -- the last packet is refused and told, and no next one is known
    pub stops_told : {counts after : RecordingSummary} {old now later : Outputs} {front : List ℕ} (why : Why) (rest more : List ℕ) (last : Outcome) (p : Passes goes_on level set Writes counts old now front) → goes_on ≡ true
        → Outcomes goes_on level set (length front) rest (last ∷ []) → Writes (length p.outcomes + 1) last more → Grows now later more (line_for (length p.outcomes + 1) (refusal_in last))
        → why.Ended ⊎ (EndsInSize (p.outcomes ++ last ∷ []) × why.Open) → after ≡ summary_of (p.outcomes ++ last ∷ []) (length (front ++ rest)) (length (p.out ++ more))
        → RecordsAll why goes_on level set Writes old later (front ++ rest) after
    unfolding record_on
    stops_told why rest more last p on are writes grows ended counts = record {
      outcomes = p.outcomes ++ last ∷ [];
      recorded = record_on rest more (last ∷ []) (last ∷ []) p are (written_one Writes last (length p.outcomes + 1) more writes) (rw (told_one (length p.outcomes + 1) last) grows);
      accepts = λ off. let both : true ≡ false = sym on ∙ off in absurd cc;
      ended = ended;
      counts = counts;
    }

    -- all packets are whole, and no byte is behind them
    pub stops_between : {counts : RecordingSummary} {old now : Outputs} {front : List ℕ} (why : Why) (p : Passes goes_on level set Writes counts old now front) → why.Ended → RecordsAll why goes_on level set Writes old now (front ++ []) counts
    stops_between {now = now} {front = front} why p ended =
        let whole : front ++ [] ≡ front = append-nil front in
        let os : p.outcomes ++ [] ≡ p.outcomes = append-nil p.outcomes in
        rw (whole) (record {
          outcomes = p.outcomes;
          recorded = record { out = p.out; are = rw (whole, os) at (all_then p.outcomes [] front [] p.settled refl); made = p.made; grown = p.grown };
          accepts = λ off. all_accepted goes_on level set p.outcomes 0 front off p.settled;
          ended = inl ended;
          counts = p.counts_are;
        })

    -- a device fails in the packet that is open
    pub cuts_off : {counts : RecordingSummary} {old now later : Outputs} {front : List ℕ} (why : Why) (rest more : List ℕ) (cut : List Outcome) (f : PacketFault) (p : Passes goes_on level set Writes counts old now front)
        → Outcomes goes_on level set (length front) rest cut → WrittenOf Writes (length p.outcomes + 1) cut more → Appends now.taken later.taken more → later.told ≡ now.told → f.packet ≡ length p.outcomes + 1
        → IsCutAt (length (front ++ rest)) cut f.fault.place → why.Failed f.fault.cause → RecordsCut why goes_on level set Writes old later (front ++ rest) f
    cuts_off {now = now} {later = later} {front = front} why rest more cut f p are writes written same number place failed =
        let r = record_on rest more cut [] p are writes (writes_only now later more written same) in
        record {
          outcomes = p.outcomes;
          cut = cut;
          recorded = record { out = r.out; are = r.are; made = r.made; grown = rw (append-nil p.outcomes) at r.grown };
          accepts = λ off. all_accepted goes_on level set p.outcomes 0 front off p.settled;
          number_is = number;
          place_is = place;
          failed = failed;
        }
