-- Lines that were taken: what was written, and what waits.
use Rattle.std.proofs.Common.{◌≡◌, ℕ, ◌+◌, ◌<◌, ◌≤◌, ◌==◌, Bool, true, false, List, [], ◌∷◌, ◌++◌, length, Option, Some, Result, Ok, Err, inl, inr, refl, sym, ap, ◌∙◌, subst, arith, append_assoc, append-nil, length-append}
use Rattle.std.specs.Prelude.{if◌then◌else◌}
use Rattle.std.specs.FinMap as map
use Rattle.std.specs.List.{list_all, AllByRecursion}
use Rattle.std.specs.Io.KnownBytes.{Appends}
use Rattle.fast_io.specs.Counts.{counted, counted_by}
use Rattle.fast_io.specs.Traffic.{Taken}
use Rattle.fast_io.proofs.Outputs.{Appends-nil, Appends-trans}
use Rattle.hex.specs.Hex.{encode_with}
use Rattle.fast_wire.proofs.ShortestForms.{shortest_unsigned}
use Rattle.fast_wire.specs.declared.level.Level.TheVariants.{Usual}
use Rattle.fast_template.specs.TemplateSets.{TemplateList, templates_in}
use Rattle.fast_dictionary.specs.Dictionary.{Dictionary}
use Rattle.fast_stream.specs.Streams.{MessageForm}
use Rattle.fast_nodes.specs.FirstRefusal.{first_refusal}
use Rattle.fast_nodes.specs.declared.fault.EncodeFault.{EncodeFault}
use Rattle.fast_packets.specs.Recordings.{packet_limit}
use Rattle.fast_spelled.specs.Numbered.{SpellsIn}
use Rattle.fast_spelled.specs.Spelled.{is_blank}
use Rattle.fast_spelled.specs.declared.fault.LineFault.{LineFault}
use Rattle.fast_writer.specs.Canonical.{CanonFrom, CanonMessage}
use Rattle.fast_writer.proofs.Writers.{canon_more}
use Rattle.fast_write.specs.declared.fault.WriteFault.{WriteFault}
use Rattle.fast_write.specs.declared.fault.WriteFault.TheVariants as refusal
use Rattle.fast_write.specs.declared.output.OutputForm.{OutputForm}
use Rattle.fast_write.specs.declared.summary.WrittenSummary.{WrittenSummary}
use Rattle.fast_write.specs.Outputs.{ending_of, part_of}
use Rattle.fast_write.specs.Packets.{HasNoFormIn, IsNoLineIn, Packets, StopsForIn, entries_for, no_packets, with_next}
use Rattle.fast_write.specs.Written.{IsShort, StopsFor}
use Rattle.fast_write.specs.Ways.{Breaks, Closes, ClosesNot, ClosesOn, EndsLine, EndsPacket, Hands, HandsOn, HasNoFormAt, Here, IsNoLineAt, IsNotTaken, IsNotTakenIf, IsNotTakenIn, IsOfLine, IsSameWay, IsTaken, IsTakenIn, IsUnreadIn, MadeIf, MadePackets, Makes, Stands, StopsIf, Takes, TakesIf, TakesLine, entries_at, packet_at, with_blank, with_message}
use Rattle.fast_write.proofs.Digits.{encode-append}
use Rattle.fast_write.proofs.InPackets.{WaitsAt, closed_packet, made_blank, made_next, too_much}
use Rattle.fast_write.proofs.Made.{all_short, spell_blank, spell_more}

-- ---- parts of an output

pub part_nil : (form : OutputForm) → part_of form [] ≡ []
unfolding encode_with
part_nil OutputForm.Bytes = refl
part_nil OutputForm.Hex = refl

pub part_append : (form : OutputForm) (a b : List ℕ) → part_of form (a ++ b) ≡ part_of form a ++ part_of form b
part_append OutputForm.Bytes a b = refl
part_append OutputForm.Hex a b = encode-append _ a b

-- ---- counts

pub one_counted : (n : ℕ) → counted (counted_by 0 n) ≡ counted_by 0 (n + 1)
one_counted n = omega arith

pub more_counted : (n k : ℕ) → counted_by (counted_by 0 n) k ≡ counted_by 0 (n + k)
more_counted n k = omega arith

pub pushed : {A : Type 0} (xs : List A) (x : A) → length (xs ++ x ∷ []) ≡ length xs + 1
pushed xs x = length-append xs (x ∷ [])

abbrev sums : ℕ → ℕ → ℕ → WrittenSummary
sums lines messages written = record { lines = counted_by 0 lines; messages = counted_by 0 messages; written = counted_by 0 written }

blank_counted : (s : WrittenSummary) (lines : List (List ℕ)) (line : List ℕ) (m w : ℕ) → s ≡ sums (length lines) m w → with_blank s ≡ sums (length (lines ++ line ∷ [])) m w
blank_counted s lines line m w e =
    ap with_blank e ∙ ap (λ (n : ℕ). record (sums 0 m w) { lines = n }) (one_counted (length lines) ∙ ap (counted_by 0) (sym (pushed lines line)))

message_counted : (s : WrittenSummary) (lines : List (List ℕ)) (line : List ℕ) (m w : ℕ) → s ≡ sums (length lines) m w → with_message s ≡ sums (length (lines ++ line ∷ [])) (m + 1) w
message_counted s lines line m w e =
    ap with_message e ∙ ap (λ (n : ℕ). record (sums 0 0 w) { lines = n; messages = counted (counted_by 0 m) }) (one_counted (length lines) ∙ ap (counted_by 0) (sym (pushed lines line)))
    ∙ ap (λ (n : ℕ). record (sums (length (lines ++ line ∷ [])) 0 w) { messages = n }) (one_counted m)

-- ---- what stands

pub stands_at_first : (h : Here) (taken : Option (List ℕ)) → h.entries ≡ map.empty → h.ready ≡ [] → h.counts ≡ sums 0 0 0 → h.number ≡ 0 → h.packet ≡ [] → Stands h h.entries taken taken []
stands_at_first h taken none empty counts number packet = record {
  sent = [];
  count = 0;
  packets = no_packets;
  short = tt;
  made = first_made h.numbered h.set h.ready h.entries h.number h.packet none empty number packet;
  written = subst (Appends taken taken) (sym (part_nil h.form)) (Appends-nil taken);
  counts = counts;
} where
  first_made : (b : Bool) (set : TemplateList) (ready : List ℕ) (d : Dictionary) (number : ℕ) (packet : List ℕ) → d ≡ map.empty → ready ≡ [] → number ≡ 0 → packet ≡ [] → MadeIf b set [] ready 0 no_packets d number packet
  first_made false set ready d number packet none empty at alone = record { messages = []; many = refl; spelled = refl; canonical = (empty, none); no_packet = alone }
  first_made true set ready d number packet none empty at alone = record { messages = []; many = refl; spelled = refl; in_order = tt; packets = refl; recorded = empty; going_on = (alone, none); number_is = sym at; few = subst (λ (l : List ℕ). length l ≤ packet_limit) (sym alone) (omega arith) }

made_if_blank : (b : Bool) (set : TemplateList) (lines : List (List ℕ)) (bytes : List ℕ) (count : ℕ) (p : Packets) (d : Dictionary) (number : ℕ) (packet : List ℕ) → MadeIf b set lines bytes count p d number packet → (line : List ℕ) → list_all is_blank line ≡ true
    → MadeIf b set (lines ++ line ∷ []) bytes count p d number packet
made_if_blank false set lines bytes count p d number packet m line blank = record { messages = m.messages; many = m.many; spelled = spell_blank set lines m.messages line m.spelled blank; canonical = m.canonical; no_packet = m.no_packet }
made_if_blank true set lines bytes count p d number packet m line blank = made_blank m line blank

-- the line that is open was taken
taken_blank : {h : Here} {old new : Option (List ℕ)} {lines : List (List ℕ)} → Stands h h.entries old new lines → IsShort h.begun → list_all is_blank h.begun ≡ true → (k : Here) → k ≡ record h { counts = with_blank h.counts } → Stands k k.entries old new (lines ++ h.begun ∷ [])
taken_blank {h = h} {old = old} {new = new} {lines = lines} s short blank k is = subst (λ k. Stands k k.entries old new (lines ++ h.begun ∷ [])) (sym is) (record {
  sent = s.sent;
  count = s.count;
  packets = s.packets;
  short = all_short lines h.begun s.short short;
  made = made_if_blank h.numbered h.set lines (s.sent ++ h.ready) s.count s.packets h.entries h.number h.packet s.made h.begun blank;
  written = s.written;
  counts = blank_counted h.counts lines h.begun s.count (length s.sent) s.counts;
})

taken_plain : {h : Here} {old new : Option (List ℕ)} {lines : List (List ℕ)} → h.numbered ≡ false → Stands h h.entries old new lines → IsShort h.begun → (k : Here) → IsTaken h k → Stands k k.entries old new (lines ++ h.begun ∷ [])
taken_plain {h = h} {old = old} {new = new} {lines = lines} plain s short k t =
    let m = subst (λ b. MadeIf b h.set lines (s.sent ++ h.ready) s.count s.packets h.entries h.number h.packet) plain s.made in
    let made : MadeIf false h.set (lines ++ h.begun ∷ []) (s.sent ++ (h.ready ++ t.bytes)) (s.count + 1) s.packets t.after h.number h.packet = record {
      messages = m.messages ++ t.message ∷ [];
      many = ap (λ n. n + 1) m.many ∙ sym (pushed m.messages t.message);
      spelled = spell_more h.set lines m.messages h.begun t.message m.spelled t.spelled;
      canonical = subst (λ l. CanonFrom (templates_in h.set) map.empty l (m.messages ++ t.message ∷ []) t.after) (append_assoc s.sent h.ready t.bytes) (canon_more (templates_in h.set) m.messages t.message map.empty (s.sent ++ h.ready) t.bytes h.entries t.after m.canonical t.canonical);
      no_packet = m.no_packet;
    } in
    subst (λ k. Stands k k.entries old new (lines ++ h.begun ∷ [])) (sym t.is) (record {
      sent = s.sent;
      count = s.count + 1;
      packets = s.packets;
      short = all_short lines h.begun s.short short;
      made = subst (λ b. MadeIf b h.set (lines ++ h.begun ∷ []) (s.sent ++ (h.ready ++ t.bytes)) (s.count + 1) s.packets t.after h.number h.packet) (sym plain) made;
      written = s.written;
      counts = message_counted h.counts lines h.begun s.count (length s.sent) s.counts;
    })

-- what waits stands behind what was sent
waits_behind : (sent ready packet : List ℕ) (n number : ℕ) (now : List ℕ) → WaitsAt ready packet n number now → WaitsAt (sent ++ ready) packet n number (sent ++ now)
waits_behind sent ready packet n number now (inl w) = inl (w.0, ap (λ (l : List ℕ). sent ++ l) w.1)
waits_behind sent ready packet n number now (inr w) = inr (w.0, w.1, w.2, ap (λ (l : List ℕ). sent ++ l) w.3 ∙ sym (append_assoc sent ready w.1))

taken_in : {h : Here} {old new : Option (List ℕ)} {lines : List (List ℕ)} → h.numbered ≡ true → Stands h h.entries old new lines → IsShort h.begun → (k : Here) → IsTakenIn h k → Stands k k.entries old new (lines ++ h.begun ∷ [])
taken_in {h = h} {old = old} {new = new} {lines = lines} numbered s short k t =
    let m = subst (λ b. MadeIf b h.set lines (s.sent ++ h.ready) s.count s.packets h.entries h.number h.packet) numbered s.made in
    let made = made_next h.set lines (s.sent ++ h.ready) s.count s.packets h.entries h.packet h.begun t.number t.message t.bytes t.after (s.sent ++ t.ready) h.number m t.spelled t.in_order t.canonical (waits_behind s.sent h.ready h.packet t.number h.number t.ready t.waits) t.few in
    subst (λ k. Stands k k.entries old new (lines ++ h.begun ∷ [])) (sym t.is) (record {
      sent = s.sent;
      count = s.count + 1;
      packets = with_next s.packets (t.number, t.message);
      short = all_short lines h.begun s.short short;
      made = subst (λ b. MadeIf b h.set (lines ++ h.begun ∷ []) (s.sent ++ t.ready) (s.count + 1) (with_next s.packets (t.number, t.message)) t.after t.number (packet_at h t.number ++ t.bytes)) (sym numbered) made;
      written = s.written;
      counts = message_counted h.counts lines h.begun s.count (length s.sent) s.counts;
    })

taken_if : (b : Bool) {h : Here} {old new : Option (List ℕ)} {lines : List (List ℕ)} → h.numbered ≡ b → Stands h h.entries old new lines → IsShort h.begun → (k : Here) → TakesIf b h k → Stands k k.entries old new (lines ++ h.begun ∷ [])
taken_if false plain s short k t = taken_plain plain s short k t
taken_if true numbered s short k t = taken_in numbered s short k t

pub stands_taken : {h : Here} {old new : Option (List ℕ)} {lines : List (List ℕ)} → Stands h h.entries old new lines → IsShort h.begun → (k : Here) → Takes h k → Stands k k.entries old new (lines ++ h.begun ∷ [])
stands_taken s short k (inl x) = taken_blank s short x.0 k x.1
stands_taken {h = h} s short k (inr t) = taken_if h.numbered refl s short k t

-- no line is open any more
abbrev pub stands_closed : {h : Here} {d : Dictionary} {old new : Option (List ℕ)} {lines : List (List ℕ)} → Stands h d old new lines → (begun : List ℕ) → Stands (record h { begun = begun }) d old new lines
stands_closed s begun = record { sent = s.sent; count = s.count; packets = s.packets; short = s.short; made = s.made; written = s.written; counts = s.counts }

-- what waited was written
pub stands_written : {h : Here} {old new : Option (List ℕ)} {lines : List (List ℕ)} → Stands h h.entries old new lines → (k : Here) (newer : Option (List ℕ)) → HandsOn h k new newer → Stands k k.entries old newer lines
stands_written {h = h} {old = old} {new = new} {lines = lines} s k newer w = subst (λ k. Stands k k.entries old newer lines) (sym w.is) (record {
  sent = s.sent ++ h.ready;
  count = s.count;
  packets = s.packets;
  short = s.short;
  made = subst (λ l. MadeIf h.numbered h.set lines l s.count s.packets h.entries h.number h.packet) (sym (append-nil (s.sent ++ h.ready))) s.made;
  written = subst (Appends old newer) (sym (part_append h.form s.sent h.ready)) (Appends-trans old new newer (part_of h.form s.sent) (part_of h.form h.ready) s.written w.written);
  counts =
      ap (λ (c : WrittenSummary). record c { written = counted_by c.written (length h.ready) }) s.counts
      ∙ ap (λ (n : ℕ). record (sums (length lines) s.count 0) { written = n }) (more_counted (length s.sent) (length h.ready) ∙ ap (counted_by 0) (sym (length-append s.sent h.ready)));
})

-- what lines make, with the packet that is open
pub makes_if : (b : Bool) (set : TemplateList) (lines : List (List ℕ)) (bytes : List ℕ) (count : ℕ) (p : Packets) (d : Dictionary) (number : ℕ) (packet : List ℕ) → MadeIf b set lines bytes count p d number packet → AllByRecursion IsShort lines → (more : List ℕ) → Closes packet more
    → Makes b set lines (bytes ++ more) p d count
makes_if false set lines bytes count p d number packet m short more k =
    let none : more ≡ [] = alone m.no_packet k in
    (record { messages = m.messages; short = short; spelled = m.spelled; canonical = rw (none, append-nil bytes) m.canonical }, m.many) where
      alone : {packet more : List ℕ} → packet ≡ [] → Closes packet more → more ≡ []
      alone {more = more} is k = subst (λ l. Closes l more) is k
makes_if true set lines bytes count p d number packet m short more k = (
  record {
    messages = m.messages;
    short = short;
    spelled = m.spelled;
    in_order = m.in_order;
    packets = m.packets;
    recorded = closed_packet (templates_in set) p.ended p.last bytes packet more d m.recorded m.going_on m.few k;
    stream = packet;
    going_on = m.going_on;
  },
  m.many,
)

pub few_if : (b : Bool) (set : TemplateList) (lines : List (List ℕ)) (bytes : List ℕ) (count : ℕ) (p : Packets) (d : Dictionary) (number : ℕ) (packet : List ℕ) → MadeIf b set lines bytes count p d number packet → length packet ≤ packet_limit
few_if false set lines bytes count p d number packet m = subst (λ (l : List ℕ). length l ≤ packet_limit) (sym m.no_packet) (omega arith)
few_if true set lines bytes count p d number packet m = m.few

pub closes_of : (packet : List ℕ) → length packet ≤ packet_limit → (more : List ℕ) × Closes packet more
closes_of [] few = ([], refl)
closes_of (b ∷ bs) few = let s = shortest_unsigned (length (b ∷ bs)) (omega (arith, few)) in (s.0 ++ (b ∷ bs), (s.0, refl, s.1))

-- a write of it failed
pub breaks : {h : Here} {d : Dictionary} {old new : Option (List ℕ)} {lines : List (List ℕ)} → Stands h d old new lines → (newer : Option (List ℕ)) (rest : List ℕ) → Taken new newer (part_of h.form h.ready) rest → Breaks h old newer lines
breaks {h = h} {d = d} {old = old} {new = new} {lines = lines} s newer rest t =
    let before = part_of h.form s.sent in
    let ending = ending_of h.form in
    let c = closes_of h.packet (few_if h.numbered h.set lines (s.sent ++ h.ready) s.count s.packets d h.number h.packet s.made) in
    let behind = part_of h.form c.0 in
    record {
      out = (s.sent ++ h.ready) ++ c.0;
      packets = s.packets;
      entries = d;
      count = s.count;
      made = makes_if h.numbered h.set lines (s.sent ++ h.ready) s.count s.packets d h.number h.packet s.made s.short c.0 c.1;
      unwritten = rest ++ (behind ++ ending);
      written = record {
        front = before ++ t.front;
        parts =
            ap (λ (l : List ℕ). l ++ ending) (part_append h.form (s.sent ++ h.ready) c.0) ∙ append_assoc (part_of h.form (s.sent ++ h.ready)) behind ending
            ∙ ap (λ (l : List ℕ). l ++ (behind ++ ending)) (part_append h.form s.sent h.ready ∙ ap (λ (l : List ℕ). before ++ l) t.parts ∙ sym (append_assoc before t.front rest)) ∙ append_assoc (before ++ t.front) rest (behind ++ ending);
        appended = Appends-trans old new newer before t.front s.written t.appended;
      };
    }

-- ---- a line that is not taken

number_is : {h : Here} {d : Dictionary} {old new : Option (List ℕ)} {lines : List (List ℕ)} → Stands h d old new lines → counted h.counts.lines ≡ counted_by 0 (length lines + 1)
number_is {lines = lines} s = ap (λ (c : WrittenSummary). counted c.lines) s.counts ∙ one_counted (length lines)

stops_for : (set : TemplateList) (d : Dictionary) (lines : List (List ℕ)) (line : List ℕ) (n : ℕ) (f : WriteFault) → n ≡ counted_by 0 (length lines + 1) → IsNotTaken set d line n f → (more : List (List ℕ)) → StopsFor set d lines (line ∷ more) f
stops_for set d lines line n (refusal.Line number f) e h more = (h.0 ∙ e, line, more, refl, h.1)
stops_for set d lines line n (refusal.Message number template f) e h more = (h.0 ∙ e, line, more, refl, h.1)
stops_for set d lines line n refusal.Read e h more = absurd h
stops_for set d lines line n refusal.Write e h more = absurd h
stops_for set d lines line n refusal.Turns e h more = absurd h
stops_for set d lines line n refusal.Memory e h more = tt

-- the same of a line that says its packet
unread_in : (set : TemplateList) (line : List ℕ) (p : Packets) (f : LineFault) → list_all is_blank line ≡ false → IsUnreadIn set line f → IsNoLineIn set line p f
unread_in set line p f blank (inl none) = inr (blank, inl none)
unread_in set line p f blank (inr many) = inr (blank, inr (inl many))

no_line_at : (h : Here) (set : TemplateList) (lines : List (List ℕ)) (bytes : List ℕ) (count : ℕ) (p : Packets) (f : LineFault) → h.set ≡ set → MadePackets set lines bytes count p h.entries h.number h.packet → list_all is_blank h.begun ≡ false → IsNoLineAt h f → IsNoLineIn set h.begun p f
no_line_at h set lines bytes count p f is m blank (inl unread) = unread_in set h.begun p f blank (subst (λ s. IsUnreadIn s h.begun f) is unread)
no_line_at h set lines bytes count p f is m blank (inr (inl x)) = inr (blank, inr (inr (inl (x.0, x.1, x.2, subst (λ s. SpellsIn s h.begun x.1 x.2) is x.3, subst (λ k. x.1 < k) (sym m.number_is) x.4))))
no_line_at h set lines bytes count p f is m blank (inr (inr x)) =
    inr (blank, inr (inr (inr (x.0, too_much set h.begun p h.entries h.packet h.number x.1 x.2 x.3 x.4 m.number_is m.going_on (subst (λ s. SpellsIn s h.begun x.1 x.2) is x.5) (subst (λ s. CanonMessage (templates_in s) (entries_at h x.1) x.3 x.2 x.4) is x.6) x.7))))

no_form_at : (h : Here) (set : TemplateList) (p : Packets) (template : ℕ) (f : EncodeFault) → h.set ≡ set → p.number ≡ h.number → HasNoFormAt h template f → HasNoFormIn set h.begun p h.entries template f
no_form_at h set p template f is number x =
    let same : entries_at h x.number ≡ entries_for p x.number h.entries = ap (λ (k : ℕ). if x.number == k then h.entries else map.empty) (sym number) in
    record {
      number = x.number;
      message = x.message;
      spelled = subst (λ s. SpellsIn s h.begun x.number x.message) is x.spelled;
      template_is = x.template_is;
      refused = subst (λ s. first_refusal (templates_in s) (entries_for p x.number h.entries) x.message ≡ Some f) is (subst (λ d. first_refusal (templates_in h.set) d x.message ≡ Some f) same x.refused);
      no_form = subst (λ s. (bytes : List ℕ) (after : Dictionary) → MessageForm Usual (templates_in s) (entries_for p x.number h.entries) bytes x.message after → ⊥) is
          (subst (λ d. (bytes : List ℕ) (after : Dictionary) → MessageForm Usual (templates_in h.set) d bytes x.message after → ⊥) same x.no_form);
    }

stops_for_in : (h : Here) (lines : List (List ℕ)) (bytes : List ℕ) (count : ℕ) (p : Packets) (n : ℕ) (f : WriteFault) → MadePackets h.set lines bytes count p h.entries h.number h.packet → n ≡ counted_by 0 (length lines + 1) → IsNotTakenIn h n f → (more : List (List ℕ))
    → StopsForIn h.set p h.entries lines (h.begun ∷ more) f
stops_for_in h lines bytes count p n (refusal.Line number f) m e x more = (x.0 ∙ e, h.begun, more, refl, no_line_at h h.set lines bytes count p f refl m x.1 x.2)
stops_for_in h lines bytes count p n (refusal.Message number template f) m e x more = (x.0 ∙ e, h.begun, more, refl, no_form_at h h.set p template f refl m.number_is x.1)
stops_for_in h lines bytes count p n refusal.Read m e x more = absurd x
stops_for_in h lines bytes count p n refusal.Write m e x more = absurd x
stops_for_in h lines bytes count p n refusal.Turns m e x more = absurd x
stops_for_in h lines bytes count p n refusal.Memory m e x more = tt

stops_if : (b : Bool) (h : Here) (lines : List (List ℕ)) (bytes : List ℕ) (count : ℕ) (p : Packets) (n : ℕ) (f : WriteFault) → MadeIf b h.set lines bytes count p h.entries h.number h.packet → n ≡ counted_by 0 (length lines + 1) → IsNotTakenIf b h n f → (more : List (List ℕ))
    → StopsIf b h.set p h.entries lines (h.begun ∷ more) f
stops_if false h lines bytes count p n f m e x more = stops_for h.set h.entries lines h.begun n f e x more
stops_if true h lines bytes count p n f m e x more = stops_for_in h lines bytes count p n f m e x more

pub of_line_in : (h : Here) (n : ℕ) (f : WriteFault) → IsNotTakenIn h n f → IsOfLine f
of_line_in h n (refusal.Line number f) x = tt
of_line_in h n (refusal.Message number template f) x = tt
of_line_in h n refusal.Read x = absurd x
of_line_in h n refusal.Write x = absurd x
of_line_in h n refusal.Turns x = absurd x
of_line_in h n refusal.Memory x = tt

of_line_if : (b : Bool) (h : Here) (n : ℕ) (f : WriteFault) → IsNotTakenIf b h n f → (IsOfLine f) × (f ≡ refusal.Write → ⊥)
of_line_if false h n (refusal.Line number f) x = (tt, λ e. absurd cc)
of_line_if false h n (refusal.Message number template f) x = (tt, λ e. absurd cc)
of_line_if false h n refusal.Read x = absurd x
of_line_if false h n refusal.Write x = absurd x
of_line_if false h n refusal.Turns x = absurd x
of_line_if false h n refusal.Memory x = (tt, λ e. absurd cc)
of_line_if true h n (refusal.Line number f) x = (tt, λ e. absurd cc)
of_line_if true h n (refusal.Message number template f) x = (tt, λ e. absurd cc)
of_line_if true h n refusal.Read x = absurd x
of_line_if true h n refusal.Write x = absurd x
of_line_if true h n refusal.Turns x = absurd x
of_line_if true h n refusal.Memory x = (tt, λ e. absurd cc)

pub fault_of_line : (h k : Here) (f : WriteFault) → TakesLine h k (Err f) → IsOfLine f
fault_of_line h k f x = (of_line_if h.numbered h _ f x.2).0

ends_but_write : (h k : Here) (old new : Option (List ℕ)) (lines : List (List ℕ)) (f : WriteFault) → (f ≡ refusal.Write → ⊥) → (d : Dictionary) (s : Stands k d old new lines) → ((more : List (List ℕ)) → StopsIf h.numbered h.set s.packets d lines (h.begun ∷ more) f)
    → EndsLine h k old new lines (Err f)
ends_but_write h k old new lines (refusal.Line n f) other d s why = (d, s, why)
ends_but_write h k old new lines (refusal.Message n template f) other d s why = (d, s, why)
ends_but_write h k old new lines refusal.Read other d s why = (d, s, why)
ends_but_write h k old new lines refusal.Write other d s why = absurd (other refl)
ends_but_write h k old new lines refusal.Turns other d s why = (d, s, why)
ends_but_write h k old new lines refusal.Memory other d s why = (d, s, why)

pub not_taken : {h : Here} {old new : Option (List ℕ)} {lines : List (List ℕ)} → Stands h h.entries old new lines → (k : Here) (f : WriteFault) → TakesLine h k (Err f) → EndsLine h k old new lines (Err f)
not_taken {h = h} {old = old} {new = new} {lines = lines} s k f x =
    subst (λ k. EndsLine h k old new lines (Err f)) (sym x.1)
    (ends_but_write h (record h { entries = x.0 }) old new lines f (of_line_if h.numbered h _ f x.2).1 h.entries (record { sent = s.sent; count = s.count; packets = s.packets; short = s.short; made = s.made; written = s.written; counts = s.counts })
    (λ more. stops_if h.numbered h lines (s.sent ++ h.ready) s.count s.packets _ f s.made (number_is s) x.2 more))

-- ---- the end of a line

pub takes_same : (h k : Here) → Takes h k → IsSameWay h k
takes_same h k (inl x) = record { form = ap (λ (h : Here). h.form) x.1; set = ap (λ (h : Here). h.set) x.1; numbered = ap (λ (h : Here). h.numbered) x.1 }
takes_same h k (inr t) = same_if h.numbered t where
  same_if : (b : Bool) → TakesIf b h k → IsSameWay h k
  same_if false t = record { form = ap (λ (h : Here). h.form) t.is; set = ap (λ (h : Here). h.set) t.is; numbered = ap (λ (h : Here). h.numbered) t.is }
  same_if true t = record { form = ap (λ (h : Here). h.form) t.is; set = ap (λ (h : Here). h.set) t.is; numbered = ap (λ (h : Here). h.numbered) t.is }

-- breaks look at what stays alone
pub breaks_still : {h k : Here} {old new : Option (List ℕ)} {lines : List (List ℕ)} → IsSameWay h k → Breaks k old new lines → Breaks h old new lines
breaks_still {h = h} {k = k} {lines = lines} same b = record {
  out = b.out;
  packets = b.packets;
  entries = b.entries;
  count = b.count;
  made = subst (λ s. Makes h.numbered s lines b.out b.packets b.entries b.count) same.set (subst (λ n. Makes n k.set lines b.out b.packets b.entries b.count) same.numbered b.made);
  unwritten = b.unwritten;
  written = rw (← same.form) b.written;
}

-- it was taken, and what waited behind it was written, or a front of it
pub ends_handed : {h : Here} {old new : Option (List ℕ)} {lines : List (List ℕ)} → Stands h h.entries old new lines → IsShort h.begun → (k : Here) → Takes h k → (begun : List ℕ) → begun ≡ [] → (later : Here) (newer : Option (List ℕ)) (r : Result (Unit {0}) WriteFault)
    → Hands (record k { begun = begun }) later new newer r → EndsLine h later old newer lines r
ends_handed s short k t begun none later newer (Ok x) w = (stands_written (stands_closed (stands_taken s short k t) begun) later newer w, ap (λ (h : Here). h.begun) w.is ∙ none)
ends_handed {h = h} s short k t begun none later newer (Err f) w =
    let same = takes_same h k t in
    rw (w.0) (breaks_still (record { form = same.form; set = same.set; numbered = same.numbered }) (breaks (stands_closed (stands_taken s short k t) begun) newer w.2 w.3))

-- ---- fronts of what is written

pub taken_on : (a b : Option (List ℕ)) (xs ys rest : List ℕ) → Taken a b xs rest → Taken a b (xs ++ ys) (rest ++ ys)
taken_on a b xs ys rest t = record { front = t.front; parts = ap (λ (l : List ℕ). l ++ ys) t.parts ∙ append_assoc t.front rest ys; appended = t.appended }

pub taken_behind : (a b c : Option (List ℕ)) (xs ys rest : List ℕ) → Appends a b xs → Taken b c ys rest → Taken a c (xs ++ ys) rest
taken_behind a b c xs ys rest w t = record { front = xs ++ t.front; parts = ap (λ (l : List ℕ). xs ++ l) t.parts ∙ sym (append_assoc xs t.front rest); appended = Appends-trans a b c xs t.front w t.appended }

-- ---- the end of what is written

form_of : (h k : Here) → EndsPacket h k → k.form ≡ h.form
form_of h k e = ap (λ (h : Here). h.form) e.is

pub not_handed : (h k l : Here) (before after : Option (List ℕ)) (f : WriteFault) → EndsPacket h k → Hands k l before after (Err f) → ClosesNot h before after f
not_handed h k l before after f e w =
    let same : part_of k.form k.ready ≡ part_of h.form (h.ready ++ e.bytes) = ap (λ (k : Here). part_of k.form k.ready) e.is in
    inl (w.0, e.bytes, w.2 ++ ending_of h.form, e.closes, taken_on before after (part_of h.form (h.ready ++ e.bytes)) (ending_of h.form) w.2 (subst (λ l. Taken before after l w.2) same w.3))

handed : (h k l : Here) (before mid : Option (List ℕ)) → (e : EndsPacket h k) → HandsOn k l before mid → Appends before mid (part_of h.form (h.ready ++ e.bytes)) × (l.form ≡ h.form)
handed h k l before mid e w =
    let same : part_of k.form k.ready ≡ part_of h.form (h.ready ++ e.bytes) = ap (λ (k : Here). part_of k.form k.ready) e.is in
    (subst (Appends before mid) same w.written, ap (λ (l : Here). l.form) w.is ∙ form_of h k e)

pub not_ended : (h k l : Here) (before mid after : Option (List ℕ)) (rest : List ℕ) → EndsPacket h k → HandsOn k l before mid → Taken mid after (ending_of l.form) rest → ClosesNot h before after refusal.Write
not_ended h k l before mid after rest e w t =
    let x = handed h k l before mid e w in
    inl (refl, e.bytes, rest, e.closes, taken_behind before mid after (part_of h.form (h.ready ++ e.bytes)) (ending_of h.form) rest x.0 (subst (λ f. Taken mid after (ending_of f) rest) x.1 t))

pub closes_on : (h k l : Here) (before mid after : Option (List ℕ)) → EndsPacket h k → HandsOn k l before mid → Appends mid after (ending_of l.form) → ClosesOn h l before after
closes_on h k l before mid after e w t =
    let x = handed h k l before mid e w in
    record {
      bytes = e.bytes;
      closes = e.closes;
      written = Appends-trans before mid after (part_of h.form (h.ready ++ e.bytes)) (ending_of h.form) x.0 (subst (λ f. Appends mid after (ending_of f)) x.1 t);
      counts = ap (λ (l : Here). l.counts) w.is ∙ ap (λ (k : Here). record k.counts { written = counted_by k.counts.written (length k.ready) }) e.is;
    }
