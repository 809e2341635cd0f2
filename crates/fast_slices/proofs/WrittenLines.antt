-- What was read of lines in memory, and what was made of them.
use Rattle.std.proofs.Common.{◌≡◌, ◌<◌, ◌≤◌, ◌^◌, ◌==◌, ℕ, suc, if◌then◌else◌, Bool, true, false, List, [], ◌∷◌, ◌++◌, length, Option, Some, Result, Ok, Err, refl, sym, ap, subst, ◌∙◌, arith, append-nil, length-append, inl, inr}
use Rattle.std.specs.Io.KnownBytes.{Appends}
use Rattle.fast_io.specs.Counts.{counted_by}
use Rattle.fast_io.specs.Traffic.{Taken}
use Rattle.fast_template.specs.TemplateSets.{TemplateList}
use Rattle.fast_dictionary.specs.Dictionary.{Dictionary}
use Rattle.fast_stream.specs.Nodes.{Content}
use Rattle.fast_spelled.specs.Spelled.{Spell, in_front, lines_of}
use Rattle.fast_spelled.specs.Numbered.{SpellIn}
use Rattle.fast_write.specs.Packets.{MakePackets, Packets, WritesBeforeIn, WritesFrontIn, no_packets}
use Rattle.fast_write.specs.Written.{Make, WritesBefore as WritesBeforePlain}
use Rattle.fast_write.specs.Ways.{Makes, WritesIf}
use Rattle.fast_write.specs.declared.fault.WriteFault.{WriteFault}
use Rattle.fast_write.specs.declared.output.OutputForm.{OutputForm}
use Rattle.fast_write.specs.declared.summary.WrittenSummary.{WrittenSummary}
use Rattle.fast_slices.specs.Calls.{Done}
use Rattle.fast_slices.specs.Lines.{IsOfLine, MadeBefore, MadeOfFront, MeasuresLines, MeasuresRun, RunsLines, SettlesLines, WritesBefore, WritesLines}
use Rattle.fast_slices.specs.Rooms.{Puts}
use Rattle.fast_slices.specs.declared.answer.Counts.{Counts}
use Rattle.fast_slices.specs.declared.answer.Refusal.{Refusal}

-- ---- there are no more messages than bytes

one_line_more : (c : ℕ) (lines : List (List ℕ)) (n : ℕ) → length lines ≤ n → length (in_front c lines) ≤ suc n
one_line_more c [] n h = omega arith
one_line_more c (line ∷ lines) n h = omega (arith, h)

either_line : (c : ℕ) (feed : Bool) (lines : List (List ℕ)) (n : ℕ) → length lines ≤ n → length (if feed then (c ∷ []) ∷ lines else in_front c lines) ≤ suc n
either_line c true lines n h = omega (arith, h)
either_line c false lines n h = one_line_more c lines n h

few_lines : (text : List ℕ) → length (lines_of text) ≤ length text
few_lines [] = omega arith
few_lines (c ∷ cs) = either_line c (c == 10) (lines_of cs) (length cs) (few_lines cs)

few_messages : (set : TemplateList) (lines : List (List ℕ)) (ms : List Content) → Spell set lines ms → length ms ≤ length lines
few_messages set [] ms h = omega (arith, ap (λ (xs : List Content). length xs) h)
few_messages set (line ∷ lines) ms (inl h) = let n = few_messages set lines ms h.1 in omega (arith, n)
few_messages set (line ∷ lines) ms (inr h) = let n = few_messages set lines h.1 h.4 in omega (arith, n, ap (λ (xs : List Content). length xs) h.2)

few_numbered : (set : TemplateList) (lines : List (List ℕ)) (ms : List (ℕ × Content)) → SpellIn set lines ms → length ms ≤ length lines
few_numbered set [] ms h = omega (arith, ap (λ (xs : List (ℕ × Content)). length xs) h)
few_numbered set (line ∷ lines) ms (inl h) = let n = few_numbered set lines ms h.1 in omega (arith, n)
few_numbered set (line ∷ lines) ms (inr h) = let n = few_numbered set lines h.2 h.5 in omega (arith, n, ap (λ (xs : List (ℕ × Content)). length xs) h.3)

few_made : (numbered : Bool) (set : TemplateList) (lines : List (List ℕ)) (bytes : List ℕ) (p : Packets) (d : Dictionary) (count : ℕ) → Makes numbered set lines bytes p d count → count ≤ length lines
few_made false set lines bytes p d count m = let n = few_messages set lines m.0.messages m.0.spelled in let e = m.1 in omega (arith, n, e)
few_made true set lines bytes p d count m = let n = few_numbered set lines m.0.messages m.0.spelled in let e = m.1 in omega (arith, n, e)

-- ---- what a run wrote

pub ran_so : (numbered b : Bool) (set : TemplateList) (text input back : List ℕ) (old new : Option (List ℕ)) (ran : Result WrittenSummary WriteFault) → numbered ≡ b → text ≡ input ++ back → WritesIf b OutputForm.Bytes set (Some back) old new input ran → RunsLines numbered set text old new ran
ran_so numbered b set text input back old new ran is parts w = (input, back, parts, subst (λ (x : Bool). WritesIf x OutputForm.Bytes set (Some back) old new input ran) (sym is) w)

abbrev of_stream : (set : TemplateList) (text input back : List ℕ) (lines rest : List (List ℕ)) (out : List ℕ) (d : Dictionary) → text ≡ input ++ back → lines_of input ≡ lines ++ rest → Make set lines out d → MadeOfFront false set text out
of_stream set text input back lines rest out d parts cut m =
    record { front = input; back = back; parts = parts; lines = lines; rest = rest; cut = cut; packets = no_packets; entries = d; count = length m.messages; made = (m, refl) }

abbrev of_packets : (set : TemplateList) (text input back : List ℕ) (lines rest : List (List ℕ)) (out : List ℕ) (p : Packets) (d : Dictionary) → text ≡ input ++ back → lines_of input ≡ lines ++ rest → MakePackets set lines out p d → MadeOfFront true set text out
of_packets set text input back lines rest out p d parts cut m =
    record { front = input; back = back; parts = parts; lines = lines; rest = rest; cut = cut; packets = p; entries = d; count = length m.messages; made = (m, refl) }

-- all lines were taken
record All (numbered : Bool) (set : TemplateList) (text : List ℕ) (old new : Option (List ℕ)) (summary : WrittenSummary) : Type 0 where
  pub bytes : List ℕ
  pub packets : Packets
  pub entries : Dictionary
  pub messages : ℕ
  pub made : Makes numbered set (lines_of text) bytes packets entries messages
  pub appended : Appends old new bytes
  pub messages_are : summary.messages ≡ counted_by 0 messages
  pub written_are : summary.written ≡ counted_by 0 (length bytes)

all_read : (text input back : List ℕ) → text ≡ input ++ back → back ≡ [] → input ≡ text
all_read text input back parts ended = sym (parts ∙ ap (λ (xs : List ℕ). input ++ xs) ended ∙ append-nil input)

all_made : (numbered : Bool) (set : TemplateList) (text : List ℕ) (old new : Option (List ℕ)) (summary : WrittenSummary) → RunsLines numbered set text old new (Ok summary) → All numbered set text old new summary
all_made false set text old new summary (input, back, parts, w) =
    let canonical = w.canonical in record {
      bytes = w.out;
      packets = no_packets;
      entries = canonical.0;
      messages = length w.messages;
      made = subst (λ (xs : List ℕ). Makes false set (lines_of xs) w.out no_packets canonical.0 (length w.messages)) (all_read text input back parts w.ended) (record { messages = w.messages; short = w.short; spelled = w.spelled; canonical = canonical.1 }, refl);
      appended = subst (Appends old new) (append-nil w.out) w.written;
      messages_are = ap (λ (s : WrittenSummary). s.messages) w.counts;
      written_are = ap (λ (s : WrittenSummary). s.written) w.counts;
    }
all_made true set text old new summary (input, back, parts, w) = record {
  bytes = w.out;
  packets = w.packets;
  entries = w.entries;
  messages = length w.made.messages;
  made = subst (λ (xs : List ℕ). Makes true set (lines_of xs) w.out w.packets w.entries (length w.made.messages)) (all_read text input back parts w.ended) (w.made, refl);
  appended = subst (Appends old new) (append-nil w.out) w.written;
  messages_are = ap (λ (s : WrittenSummary). s.messages) w.counts;
  written_are = ap (λ (s : WrittenSummary). s.written) w.counts;
}

-- a line is refused
record Stopped (numbered : Bool) (set : TemplateList) (text : List ℕ) (old new : Option (List ℕ)) (f : WriteFault) : Type 0 where
  pub bytes : List ℕ
  pub made : MadeBefore numbered set text bytes f
  pub appended : Appends old new bytes

stopped_stream : (set : TemplateList) (text input back : List ℕ) (old new : Option (List ℕ)) (f : WriteFault) → text ≡ input ++ back → WritesBeforePlain OutputForm.Bytes set (Some back) old new input f → Stopped false set text old new f
stopped_stream set text input back old new f parts w =
    let s = w.stops back (λ e. e) in record {
      bytes = w.out;
      made = record { lines = w.lines; rest = s.0; cut = ap lines_of parts ∙ s.1; packets = no_packets; entries = w.entries; count = length w.made.messages; made = (w.made, refl); why = s.2 };
      appended = subst (Appends old new) (append-nil w.out) w.written;
    }

stopped_packets : (set : TemplateList) (text input back : List ℕ) (old new : Option (List ℕ)) (f : WriteFault) → text ≡ input ++ back → WritesBeforeIn OutputForm.Bytes set (Some back) old new input f → Stopped true set text old new f
stopped_packets set text input back old new f parts w =
    let s = w.stops back (λ e. e) in record {
      bytes = w.out;
      made = record { lines = w.lines; rest = s.0; cut = ap lines_of parts ∙ s.1; packets = w.packets; entries = w.entries; count = length w.made.messages; made = (w.made, refl); why = s.2 };
      appended = subst (Appends old new) (append-nil w.out) w.written;
    }

stopped : (numbered : Bool) (set : TemplateList) (text : List ℕ) (old new : Option (List ℕ)) (f : WriteFault) → IsOfLine f → RunsLines numbered set text old new (Err f) → Stopped numbered set text old new f
stopped false set text old new (WriteFault.Line number f) of (input, back, parts, w) = stopped_stream set text input back old new (WriteFault.Line number f) parts w
stopped false set text old new (WriteFault.Message number template f) of (input, back, parts, w) = stopped_stream set text input back old new (WriteFault.Message number template f) parts w
stopped true set text old new (WriteFault.Line number f) of (input, back, parts, w) = stopped_packets set text input back old new (WriteFault.Line number f) parts w
stopped true set text old new (WriteFault.Message number template f) of (input, back, parts, w) = stopped_packets set text input back old new (WriteFault.Message number template f) parts w
stopped numbered set text old new f of h = absurd of

-- more was written than fits
record Long (numbered : Bool) (set : TemplateList) (text : List ℕ) (size : ℕ) : Type 0 where
  pub bytes : List ℕ
  pub made : MadeOfFront numbered set text bytes
  pub longer : size < length bytes

-- it is what was made, or a front of it
whole_is : (size : ℕ) (kept out : List ℕ) → size < length kept → Appends (Some []) (Some kept) (out ++ []) → size < length out
whole_is size kept out long w = omega (arith, long, ap (λ (xs : List ℕ). length xs) (w ∙ append-nil out))

front_is : (size : ℕ) (kept out rest : List ℕ) → size < length kept → Taken (Some []) (Some kept) (out ++ []) rest → size < length out
front_is size kept out rest long t =
    let same = ap (λ (xs : List ℕ). length xs) (sym (append-nil out) ∙ t.parts) in
    let sum = length-append t.front rest in
    let front = ap (λ (xs : List ℕ). length xs) t.appended in omega (arith, long, same, sum, front)

-- nothing follows
alone : {ls : List (List ℕ)} (input : List ℕ) → lines_of (input ++ []) ≡ ls → lines_of input ≡ ls
alone input cut = ap lines_of (sym (append-nil input)) ∙ cut

long_stream : (set : TemplateList) (text input back kept : List ℕ) (size : ℕ) (f : WriteFault) → text ≡ input ++ back → size < length kept → WritesBeforePlain OutputForm.Bytes set (Some back) (Some []) (Some kept) input f → Long false set text size
long_stream set text input back kept size f parts long w =
    let s = w.stops [] (λ e. refl) in record { bytes = w.out; made = of_stream set text input back w.lines s.0 w.out w.entries parts (alone input s.1) w.made; longer = whole_is size kept w.out long w.written }

long_packets : (set : TemplateList) (text input back kept : List ℕ) (size : ℕ) (f : WriteFault) → text ≡ input ++ back → size < length kept → WritesBeforeIn OutputForm.Bytes set (Some back) (Some []) (Some kept) input f → Long true set text size
long_packets set text input back kept size f parts long w =
    let s = w.stops [] (λ e. refl) in record { bytes = w.out; made = of_packets set text input back w.lines s.0 w.out w.packets w.entries parts (alone input s.1) w.made; longer = whole_is size kept w.out long w.written }

long_front : (set : TemplateList) (text input back kept : List ℕ) (size : ℕ) → text ≡ input ++ back → size < length kept → WritesFrontIn OutputForm.Bytes set (Some []) (Some kept) input → Long true set text size
long_front set text input back kept size parts long w =
    record { bytes = w.out; made = of_packets set text input back w.lines w.rest w.out w.packets w.entries parts w.cut w.made; longer = front_is size kept w.out w.unwritten long w.written }

long_made : (numbered : Bool) (set : TemplateList) (text kept : List ℕ) (size : ℕ) (ran : Result WrittenSummary WriteFault) → size < length kept → RunsLines numbered set text (Some []) (Some kept) ran → Long numbered set text size
long_made numbered set text kept size (Ok summary) long h =
    let a = all_made numbered set text (Some []) (Some kept) summary h in
    let same = ap (λ (xs : List ℕ). length xs) a.appended in record {
      bytes = a.bytes;
      made = record {
        front = text;
        back = [];
        parts = sym (append-nil text);
        lines = lines_of text;
        rest = [];
        cut = sym (append-nil (lines_of text));
        packets = a.packets;
        entries = a.entries;
        count = a.messages;
        made = a.made;
      };
      longer = omega (arith, long, same);
    }
long_made false set text kept size (Err (WriteFault.Line number f)) long (input, back, parts, w) = long_stream set text input back kept size (WriteFault.Line number f) parts long w
long_made false set text kept size (Err (WriteFault.Message number template f)) long (input, back, parts, w) = long_stream set text input back kept size (WriteFault.Message number template f) parts long w
long_made false set text kept size (Err WriteFault.Read) long (input, back, parts, w) = long_stream set text input back kept size WriteFault.Read parts long w
long_made false set text kept size (Err WriteFault.Turns) long (input, back, parts, w) = long_stream set text input back kept size WriteFault.Turns parts long w
long_made false set text kept size (Err WriteFault.Memory) long (input, back, parts, w) = long_stream set text input back kept size WriteFault.Memory parts long w
long_made false set text kept size (Err WriteFault.Write) long (input, back, parts, w) =
    record { bytes = w.out; made = of_stream set text input back w.lines w.rest w.out w.entries parts w.cut w.made; longer = front_is size kept w.out w.unwritten long w.written }
long_made true set text kept size (Err (WriteFault.Line number f)) long (input, back, parts, w) = long_packets set text input back kept size (WriteFault.Line number f) parts long w
long_made true set text kept size (Err (WriteFault.Message number template f)) long (input, back, parts, w) = long_packets set text input back kept size (WriteFault.Message number template f) parts long w
long_made true set text kept size (Err WriteFault.Read) long (input, back, parts, w) = long_packets set text input back kept size WriteFault.Read parts long w
long_made true set text kept size (Err WriteFault.Turns) long (input, back, parts, w) = long_packets set text input back kept size WriteFault.Turns parts long w
long_made true set text kept size (Err WriteFault.Memory) long (input, back, parts, w) = long_front set text input back kept size parts long w
long_made true set text kept size (Err WriteFault.Write) long (input, back, parts, w) = long_front set text input back kept size parts long w

-- ---- what is in the room

same_counts : (m n r w x : ℕ) → m ≡ n → w ≡ x → (◌≡◌ {A = Counts} (record { packets = 0; messages = m; read = r; written = w }) (record { packets = 0; messages = n; read = r; written = x }))
same_counts m n r w x e f = rw (e, f) refl

written_before : (numbered : Bool) (set : TemplateList) (text bytes old new : List ℕ) (f : WriteFault) (written : ℕ) → IsOfLine f → RunsLines numbered set text (Some []) (Some bytes) (Err f) → written ≡ length bytes → Puts bytes old new → WritesBefore numbered set text old new f written
written_before numbered set text bytes old new f written of h count put =
    let s = stopped numbered set text (Some []) (Some bytes) f of h in
    let same : bytes ≡ s.bytes = s.appended in
    record { bytes = s.bytes; made = s.made; put = subst (λ (xs : List ℕ). Puts xs old new) same put; count = count ∙ ap (λ (xs : List ℕ). length xs) same }

pub settled : (numbered : Bool) (set : TemplateList) (text bytes old new : List ℕ) (ran : Result WrittenSummary WriteFault) (r : Done) → length text < 2 ^ 40 → length bytes < 2 ^ 64 → RunsLines numbered set text (Some []) (Some bytes) ran → SettlesLines ran (length text) bytes old new r
    → WritesLines numbered set text old new r
settled numbered set text bytes old new ran (Ok counts) few room h (summary, is, counts_are, put) =
    let a = all_made numbered set text (Some []) (Some bytes) summary (subst (λ (x : Result WrittenSummary WriteFault). RunsLines numbered set text (Some []) (Some bytes) x) is h) in
    let same : bytes ≡ a.bytes = a.appended in
    let lines = few_lines text in
    let messages = few_made numbered set (lines_of text) a.bytes a.packets a.entries a.messages a.made in
    let exact_messages : counted_by 0 a.messages ≡ a.messages = omega (arith, few, lines, messages) in
    let exact : counted_by 0 (length a.bytes) ≡ length a.bytes = omega (arith, room, ap (λ (xs : List ℕ). length xs) same) in record {
      bytes = a.bytes;
      packets = a.packets;
      entries = a.entries;
      messages = a.messages;
      made = a.made;
      put = subst (λ (xs : List ℕ). Puts xs old new) same put;
      counts_are = counts_are ∙ same_counts summary.messages a.messages (length text) summary.written (length a.bytes) (a.messages_are ∙ exact_messages) (a.written_are ∙ exact);
    }
settled numbered set text bytes old new ran (Err (Refusal.Line number f written)) few room h (is, count, put) =
    written_before numbered set text bytes old new (WriteFault.Line number f) written tt (subst (λ (x : Result WrittenSummary WriteFault). RunsLines numbered set text (Some []) (Some bytes) x) is h) count put
settled numbered set text bytes old new ran (Err (Refusal.Message number template f written)) few room h (is, count, put) =
    written_before numbered set text bytes old new (WriteFault.Message number template f) written tt (subst (λ (x : Result WrittenSummary WriteFault). RunsLines numbered set text (Some []) (Some bytes) x) is h) count put
settled numbered set text bytes old new ran (Err Refusal.Memory) few room h s = s
settled numbered set text bytes old new ran (Err r) few room h s = absurd s

-- ---- how much it is

pub measured : (numbered : Bool) (set : TemplateList) (text : List ℕ) (old new : Option (List ℕ)) (ran : Result WrittenSummary WriteFault) (r : Refusal) → RunsLines numbered set text old new ran → MeasuresRun ran r → MeasuresLines numbered set text r
measured numbered set text old new ran (Refusal.Room needed) h (inl (summary, is, n)) =
    let a = all_made numbered set text old new summary (subst (λ (x : Result WrittenSummary WriteFault). RunsLines numbered set text old new x) is h) in
    inl (a.bytes, a.packets, a.entries, a.messages, a.made, n ∙ a.written_are)
measured numbered set text old new ran (Refusal.Room needed) h (inr (f, is, of)) =
    let s = stopped numbered set text old new f of (subst (λ (x : Result WrittenSummary WriteFault). RunsLines numbered set text old new x) is h) in inr (f, of, s.bytes, s.made)
measured numbered set text old new ran Refusal.Memory h m = tt
measured numbered set text old new ran r h m = absurd m

pub overflows : (numbered : Bool) (set : TemplateList) (text kept old new : List ℕ) (ran : Result WrittenSummary WriteFault) (r : Refusal) → RunsLines numbered set text (Some []) (Some kept) ran → length old < length kept → new ≡ old → MeasuresLines numbered set text r
    → WritesLines numbered set text old new (Err r)
overflows numbered set text kept old new ran (Refusal.Room needed) h long same m =
    let l = long_made numbered set text kept (length old) ran long h in record { bytes = l.bytes; made = l.made; longer = l.longer; same = same; needs = m }
overflows numbered set text kept old new ran Refusal.Memory h long same m = same
overflows numbered set text kept old new ran r h long same m = absurd m
