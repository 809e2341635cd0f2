-- What is answered in the end.
use Rattle.std.proofs.Common.{◌≡◌, ◌⊎◌, ℕ, Bool, true, false, List, [], ◌++◌, length, Option, Result, Ok, Err, inl, inr, refl, sym, ap, ◌∙◌, subst, append_assoc, append-nil, length-append}
use Rattle.std.specs.FinMap as map
use Rattle.std.specs.Io.KnownBytes.{Appends, IsAtEnd}
use Rattle.fast_io.specs.Counts.{counted_by}
use Rattle.fast_io.specs.Traffic.{Taken}
use Rattle.fast_io.proofs.Outputs.{Appends-trans}
use Rattle.fast_spelled.specs.Spelled.{lines_of}
use Rattle.fast_template.specs.TemplateSets.{TemplateList}
use Rattle.fast_dictionary.specs.Dictionary.{Dictionary}
use Rattle.fast_write.specs.declared.fault.WriteFault.{WriteFault}
use Rattle.fast_write.specs.declared.fault.WriteFault.TheVariants as refusal
use Rattle.fast_write.specs.declared.output.OutputForm.{OutputForm}
use Rattle.fast_write.specs.declared.summary.WrittenSummary.{WrittenSummary}
use Rattle.fast_write.specs.Outputs.{ending_of, output_of, part_of}
use Rattle.fast_write.specs.Packets.{Packets, no_packets}
use Rattle.fast_write.specs.Written.{FlushesOnce, MayFollow}
use Rattle.fast_write.specs.Ways.{Answers, ClosesNot, ClosesOn, Ends, Finishes, Here, MadeIf, Makes, Stands, Stops, StopsIf, StopsIn, WritesIf}
use Rattle.fast_write.proofs.Cuts.{nothing_follows}
use Rattle.fast_write.proofs.Made.{make_none}
use Rattle.fast_write.proofs.Standing.{closes_of, few_if, makes_if, more_counted, part_append, part_nil}

-- what waited stands behind what was written
output_append : (form : OutputForm) (sent ready : List ℕ) → part_of form sent ++ output_of form ready ≡ output_of form (sent ++ ready)
output_append form sent ready = sym (append_assoc (part_of form sent) (part_of form ready) (ending_of form)) ∙ ap (λ (l : List ℕ). l ++ ending_of form) (sym (part_append form sent ready))

output_behind : (form : OutputForm) (sent ready more : List ℕ) → part_of form sent ++ output_of form (ready ++ more) ≡ output_of form ((sent ++ ready) ++ more)
output_behind form sent ready more = output_append form sent (ready ++ more) ∙ ap (output_of form) (sym (append_assoc sent ready more))

closed : {h : Here} {d : Dictionary} {old new : Option (List ℕ)} {lines : List (List ℕ)} → (s : Stands h d old new lines) → (last : Option (List ℕ)) (more : List ℕ) → Appends new last (output_of h.form (h.ready ++ more)) → Appends old last (output_of h.form ((s.sent ++ h.ready) ++ more))
closed {h = h} {old = old} {new = new} s last more w = subst (Appends old last) (output_behind h.form s.sent h.ready more) (Appends-trans old new last (part_of h.form s.sent) (output_of h.form (h.ready ++ more)) s.written w)

cut_off : {h : Here} {d : Dictionary} {old new : Option (List ℕ)} {lines : List (List ℕ)} → (s : Stands h d old new lines) → (last : Option (List ℕ)) (more rest : List ℕ) → Taken new last (output_of h.form (h.ready ++ more)) rest
    → Taken old last (output_of h.form ((s.sent ++ h.ready) ++ more)) rest
cut_off {h = h} {old = old} {new = new} s last more rest t = record {
  front = part_of h.form s.sent ++ t.front;
  parts = sym (output_behind h.form s.sent h.ready more) ∙ ap (λ (l : List ℕ). part_of h.form s.sent ++ l) t.parts ∙ sym (append_assoc (part_of h.form s.sent) t.front rest);
  appended = Appends-trans old new last (part_of h.form s.sent) t.front s.written t.appended;
}

-- nothing more was written
kept_off : {h : Here} {d : Dictionary} {old new : Option (List ℕ)} {lines : List (List ℕ)} → (s : Stands h d old new lines) → (last : Option (List ℕ)) (more : List ℕ) → Appends new last [] → Taken old last (output_of h.form ((s.sent ++ h.ready) ++ more)) (output_of h.form (h.ready ++ more))
kept_off {h = h} {old = old} {new = new} s last more w = record {
  front = part_of h.form s.sent;
  parts = sym (output_behind h.form s.sent h.ready more);
  appended = subst (Appends old last) (append-nil (part_of h.form s.sent)) (Appends-trans old new last (part_of h.form s.sent) [] s.written w);
}

-- ---- by whether lines say their packets

all_if : (b : Bool) (form : OutputForm) (set : TemplateList) (left old last : Option (List ℕ)) (input out : List ℕ) (p : Packets) (d : Dictionary) (count : ℕ) (summary : WrittenSummary) → IsAtEnd left → Makes b set (lines_of input) out p d count → Appends old last (output_of form out)
    → summary ≡ record { lines = counted_by 0 (length (lines_of input)); messages = counted_by 0 count; written = counted_by 0 (length out) } → WritesIf b form set left old last input (Ok summary)
all_if false form set left old last input out p d count summary ended m w counts = record {
  messages = m.0.messages;
  out = out;
  ended = ended;
  short = m.0.short;
  spelled = m.0.spelled;
  canonical = (d, m.0.canonical);
  written = w;
  counts = counts ∙ ap (λ (n : ℕ). record { lines = counted_by 0 (length (lines_of input)); messages = counted_by 0 n; written = counted_by 0 (length out) }) m.1;
}
all_if true form set left old last input out p d count summary ended m w counts = record {
  out = out;
  packets = p;
  entries = d;
  ended = ended;
  made = m.0;
  written = w;
  counts = counts ∙ ap (λ (n : ℕ). record { lines = counted_by 0 (length (lines_of input)); messages = counted_by 0 n; written = counted_by 0 (length out) }) m.1;
}

front_if : (b : Bool) (form : OutputForm) (set : TemplateList) (left old last : Option (List ℕ)) (input : List ℕ) (lines rest : List (List ℕ)) (out : List ℕ) (p : Packets) (d : Dictionary) (count : ℕ) (unwritten : List ℕ) → lines_of input ≡ lines ++ rest → Makes b set lines out p d count
    → Taken old last (output_of form out) unwritten → WritesIf b form set left old last input (Err refusal.Write)
front_if false form set left old last input lines rest out p d count unwritten cut m t = record { lines = lines; rest = rest; out = out; entries = d; cut = cut; made = m.0; unwritten = unwritten; written = t }
front_if true form set left old last input lines rest out p d count unwritten cut m t = record { lines = lines; rest = rest; out = out; packets = p; entries = d; cut = cut; made = m.0; unwritten = unwritten; written = t }

whole_taken : (old last : Option (List ℕ)) (bytes : List ℕ) → Appends old last bytes → Taken old last bytes []
whole_taken old last bytes w = record { front = bytes; parts = sym (append-nil bytes); appended = w }

-- why it went no further, whatever may still follow
abbrev StopsStill : Bool → TemplateList → Option (List ℕ) → List ℕ → List (List ℕ) → Packets → Dictionary → WriteFault → Type 0
StopsStill b set left input lines p d f = (more : List ℕ) → MayFollow left more → (rest : List (List ℕ)) × (lines_of (input ++ more) ≡ lines ++ rest) × StopsIf b set p d lines rest f

before_if : (b : Bool) (form : OutputForm) (set : TemplateList) (left old last : Option (List ℕ)) (input : List ℕ) (lines : List (List ℕ)) (out : List ℕ) (p : Packets) (d : Dictionary) (count : ℕ) (f : WriteFault) → (f ≡ refusal.Write → ⊥) → Makes b set lines out p d count
    → StopsStill b set left input lines p d f → Appends old last (output_of form out) → WritesIf b form set left old last input (Err f)
before_if b form set left old last input lines out p d count refusal.Write other m stops w = absurd (other refl)
before_if false form set left old last input lines out p d count (refusal.Line n x) other m stops w = record { lines = lines; out = out; entries = d; made = m.0; written = w; stops = stops }
before_if false form set left old last input lines out p d count (refusal.Message n template x) other m stops w = record { lines = lines; out = out; entries = d; made = m.0; written = w; stops = stops }
before_if false form set left old last input lines out p d count refusal.Read other m stops w = record { lines = lines; out = out; entries = d; made = m.0; written = w; stops = stops }
before_if false form set left old last input lines out p d count refusal.Turns other m stops w = record { lines = lines; out = out; entries = d; made = m.0; written = w; stops = stops }
before_if false form set left old last input lines out p d count refusal.Memory other m stops w = record { lines = lines; out = out; entries = d; made = m.0; written = w; stops = stops }
before_if true form set left old last input lines out p d count (refusal.Line n x) other m stops w = record { lines = lines; out = out; packets = p; entries = d; made = m.0; written = w; stops = stops }
before_if true form set left old last input lines out p d count (refusal.Message n template x) other m stops w = record { lines = lines; out = out; packets = p; entries = d; made = m.0; written = w; stops = stops }
before_if true form set left old last input lines out p d count refusal.Read other m stops w = record { lines = lines; out = out; packets = p; entries = d; made = m.0; written = w; stops = stops }
before_if true form set left old last input lines out p d count refusal.Turns other m stops w = record { lines = lines; out = out; packets = p; entries = d; made = m.0; written = w; stops = stops }
before_if true form set left old last input lines out p d count refusal.Memory other m stops w =
    let s = stops [] (λ e. refl) in record { lines = lines; rest = s.0; out = out; packets = p; entries = d; cut = nothing_follows input lines s.0 s.1; made = m.0; unwritten = []; written = whole_taken old last (output_of form out) w }

-- memory was refused for the size of a packet
memory_if : (b : Bool) (form : OutputForm) (set : TemplateList) (left old last : Option (List ℕ)) (input : List ℕ) (lines rest : List (List ℕ)) (bytes out : List ℕ) (p : Packets) (d : Dictionary) (count number : ℕ) (packet unwritten : List ℕ) → lines_of input ≡ lines ++ rest
    → MadeIf b set lines bytes count p d number packet → (packet ≡ [] → ⊥) → Makes b set lines out p d count → Taken old last (output_of form out) unwritten → WritesIf b form set left old last input (Err refusal.Memory)
memory_if false form set left old last input lines rest bytes out p d count number packet unwritten cut s some m t = absurd (some s.no_packet)
memory_if true form set left old last input lines rest bytes out p d count number packet unwritten cut s some m t = record { lines = lines; rest = rest; out = out; packets = p; entries = d; cut = cut; made = m.0; unwritten = unwritten; written = t }

-- ---- what is written in the end

pub all_written : {h : Here} {left old new : Option (List ℕ)} {input : List ℕ} → Ends h left old new input → (k : Here) (last : Option (List ℕ)) → ClosesOn h k new last → WritesIf h.numbered h.form h.set left old last input (Ok k.counts)
all_written {h = h} {left = left} {old = old} {input = input} e k last w =
    let s = e.stands in
    all_if h.numbered h.form h.set left old last input ((s.sent ++ h.ready) ++ w.bytes) s.packets h.entries s.count k.counts e.ended (makes_if h.numbered h.set (lines_of input) (s.sent ++ h.ready) s.count s.packets h.entries h.number h.packet s.made s.short w.bytes w.closes) (closed s last w.bytes w.written)
    (w.counts ∙ ap (λ (c : WrittenSummary). record c { written = counted_by c.written (length (h.ready ++ w.bytes)) }) s.counts
    ∙ ap (λ (n : ℕ). record { lines = counted_by 0 (length (lines_of input)); messages = counted_by 0 s.count; written = n })
    (more_counted (length s.sent) (length (h.ready ++ w.bytes)) ∙ ap (counted_by 0) (sym (length-append s.sent (h.ready ++ w.bytes)) ∙ ap (λ (l : List ℕ). length l) (sym (append_assoc s.sent h.ready w.bytes)))))

not_closed : {h : Here} {d : Dictionary} {old new : Option (List ℕ)} {lines : List (List ℕ)} → (s : Stands h d old new lines) → (left last : Option (List ℕ)) (input : List ℕ) (rest : List (List ℕ)) (f : WriteFault) → lines_of input ≡ lines ++ rest → ClosesNot h new last f
    → WritesIf h.numbered h.form h.set left old last input (Err f)
not_closed {h = h} {d = d} {old = old} {lines = lines} s left last input rest f cut (inl w) =
    rw (w.0) (front_if h.numbered h.form h.set left old last input lines rest ((s.sent ++ h.ready) ++ w.1) s.packets d s.count w.2 cut (makes_if h.numbered h.set lines (s.sent ++ h.ready) s.count s.packets d h.number h.packet s.made s.short w.1 w.3) (cut_off s last w.1 w.2 w.4))
not_closed {h = h} {d = d} {old = old} {lines = lines} s left last input rest f cut (inr w) =
    let c = closes_of h.packet (few_if h.numbered h.set lines (s.sent ++ h.ready) s.count s.packets d h.number h.packet s.made) in
    rw (w.0) (memory_if h.numbered h.form h.set left old last input lines rest (s.sent ++ h.ready) ((s.sent ++ h.ready) ++ c.0) s.packets d s.count h.number h.packet _ cut s.made w.1 (makes_if h.numbered h.set lines (s.sent ++ h.ready) s.count s.packets d h.number h.packet s.made s.short c.0 c.1) (kept_off s last c.0 w.2))

pub all_not_closed : {h : Here} {left old new : Option (List ℕ)} {input : List ℕ} → Ends h left old new input → (last : Option (List ℕ)) (f : WriteFault) → ClosesNot h new last f → WritesIf h.numbered h.form h.set left old last input (Err f)
all_not_closed {left = left} {input = input} e last f w = not_closed e.stands left last input [] f (sym (append-nil (lines_of input))) w

-- those before a fault
stopped_in : (h : Here) (left old new : Option (List ℕ)) (input : List ℕ) (f : WriteFault) → (f ≡ refusal.Write → ⊥) → Stops h left old new input f → StopsIn h left old new input f
stopped_in h left old new input (refusal.Line n x) other s = s
stopped_in h left old new input (refusal.Message n template x) other s = s
stopped_in h left old new input refusal.Read other s = s
stopped_in h left old new input refusal.Turns other s = s
stopped_in h left old new input refusal.Memory other s = s
stopped_in h left old new input refusal.Write other s = absurd (other refl)

pub before_written : (h : Here) (left old new : Option (List ℕ)) (input : List ℕ) (f : WriteFault) → Stops h left old new input f → (f ≡ refusal.Write → ⊥) → (k : Here) (last : Option (List ℕ)) → ClosesOn h k new last → WritesIf h.numbered h.form h.set left old last input (Err f)
before_written h left old new input f stops other k last w =
    let s = stopped_in h left old new input f other stops in
    before_if h.numbered h.form h.set left old last input s.lines ((s.stands.sent ++ h.ready) ++ w.bytes) s.stands.packets s.entries s.stands.count f other (makes_if h.numbered h.set s.lines (s.stands.sent ++ h.ready) s.stands.count s.stands.packets s.entries h.number h.packet s.stands.made s.stands.short w.bytes w.closes) s.stops
    (closed s.stands last w.bytes w.written)

pub before_not_closed : (h : Here) (left old new : Option (List ℕ)) (input : List ℕ) (f : WriteFault) → Stops h left old new input f → (f ≡ refusal.Write → ⊥) → (last : Option (List ℕ)) (failed : WriteFault) → ClosesNot h new last failed → WritesIf h.numbered h.form h.set left old last input (Err failed)
before_not_closed h left old new input f stops other last failed w =
    let s = stopped_in h left old new input f other stops in
    let t = s.stops [] (λ e. refl) in not_closed s.stands left last input t.0 failed (nothing_follows input s.lines t.0 t.1) w

-- a write failed before
pub front_written : (h : Here) (left old new : Option (List ℕ)) (input : List ℕ) → Stops h left old new input refusal.Write → WritesIf h.numbered h.form h.set left old new input (Err refusal.Write)
front_written h left old new input s = front_if h.numbered h.form h.set left old new input s.lines s.rest s.breaks.out s.breaks.packets s.breaks.entries s.breaks.count s.breaks.unwritten s.cut s.breaks.made s.breaks.written

-- no lines, for want of memory
make_nothing : (b : Bool) (set : TemplateList) → Makes b set [] [] no_packets map.empty 0
make_nothing false set = (make_none set map.empty refl, refl)
make_nothing true set = (record { messages = []; short = tt; spelled = refl; in_order = tt; packets = refl; recorded = refl; stream = []; going_on = (refl, refl) }, refl)

why_nothing : (b : Bool) (set : TemplateList) (rest : List (List ℕ)) → StopsIf b set no_packets map.empty [] rest refusal.Memory
why_nothing false set rest = tt
why_nothing true set rest = tt

pub none_written : (b : Bool) (form : OutputForm) (set : TemplateList) (left old new : Option (List ℕ)) → Appends old new (ending_of form) → WritesIf b form set left old new [] (Err refusal.Memory)
none_written b form set left old new w = before_if b form set left old new [] [] [] no_packets map.empty 0 refusal.Memory (λ e. absurd cc) (make_nothing b set) (λ more may. (lines_of more, refl, why_nothing b set (lines_of more))) (subst (λ (l : List ℕ). Appends old new (l ++ ending_of form)) (sym (part_nil form)) w)

pub none_front : (b : Bool) (form : OutputForm) (set : TemplateList) (left old new : Option (List ℕ)) (rest : List ℕ) → Taken old new (ending_of form) rest → WritesIf b form set left old new [] (Err refusal.Write)
none_front b form set left old new rest t = front_if b form set left old new [] [] [] [] no_packets map.empty 0 rest refl (make_nothing b set) (subst (λ (l : List ℕ). Taken old new (l ++ ending_of form) rest) (sym (part_nil form)) t)

-- ---- flushes

alone_if : (b : Bool) (set : TemplateList) (lines : List (List ℕ)) (bytes : List ℕ) (count : ℕ) (p : Packets) (d : Dictionary) (number : ℕ) (packet : List ℕ) → b ≡ false → MadeIf b set lines bytes count p d number packet → packet ≡ []
alone_if false set lines bytes count p d number packet e m = m.no_packet
alone_if true set lines bytes count p d number packet e m = absurd (cc e)

-- without packets none is open in the end, but where a write failed
pub none_open : (h : Here) (left old new : Option (List ℕ)) (input : List ℕ) (r : Result (Unit {0}) WriteFault) → h.numbered ≡ false → Finishes h left old new input r → (r ≡ Err refusal.Write) ⊎ (h.packet ≡ [])
none_open h left old new input (Ok x) plain e = inr (alone_if h.numbered h.set (lines_of input) (e.stands.sent ++ h.ready) e.stands.count e.stands.packets h.entries h.number h.packet plain e.stands.made)
none_open h left old new input (Err (refusal.Line n x)) plain s = inr (alone_if h.numbered h.set s.lines (s.stands.sent ++ h.ready) s.stands.count s.stands.packets s.entries h.number h.packet plain s.stands.made)
none_open h left old new input (Err (refusal.Message n template x)) plain s = inr (alone_if h.numbered h.set s.lines (s.stands.sent ++ h.ready) s.stands.count s.stands.packets s.entries h.number h.packet plain s.stands.made)
none_open h left old new input (Err refusal.Read) plain s = inr (alone_if h.numbered h.set s.lines (s.stands.sent ++ h.ready) s.stands.count s.stands.packets s.entries h.number h.packet plain s.stands.made)
none_open h left old new input (Err refusal.Turns) plain s = inr (alone_if h.numbered h.set s.lines (s.stands.sent ++ h.ready) s.stands.count s.stands.packets s.entries h.number h.packet plain s.stands.made)
none_open h left old new input (Err refusal.Memory) plain s = inr (alone_if h.numbered h.set s.lines (s.stands.sent ++ h.ready) s.stands.count s.stands.packets s.entries h.number h.packet plain s.stands.made)
none_open h left old new input (Err refusal.Write) plain s = inl refl

flushed_by : (h : Here) (r : Result (Unit {0}) WriteFault) (s : Result WrittenSummary WriteFault) (old new : ℕ) → (r ≡ Err refusal.Write) ⊎ (h.packet ≡ []) → Answers r s → (h.packet ≡ [] → FlushesOnce s old new) → FlushesOnce s old new
flushed_by h r s old new (inl failed) a flush =
    let is : s ≡ Err refusal.Write = subst (λ r. Answers r s) failed a in subst (λ (s : Result WrittenSummary WriteFault). FlushesOnce s old new) (sym is) tt
flushed_by h r s old new (inr none) a flush = flush none

pub flushed_so : (h : Here) (left before taken : Option (List ℕ)) (input : List ℕ) (r : Result (Unit {0}) WriteFault) (s : Result WrittenSummary WriteFault) (old new : ℕ) → h.numbered ≡ false → Finishes h left before taken input r → Answers r s → (h.packet ≡ [] → FlushesOnce s old new) → FlushesOnce s old new
flushed_so h left before taken input r s old new plain f a flush = flushed_by h r s old new (none_open h left before taken input r plain f) a flush
