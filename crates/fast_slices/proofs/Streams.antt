-- What was read of a stream in memory, and what its run wrote.
use Rattle.std.proofs.Common.{◌≡◌, ◌≢◌, ◌<◌, ◌≤◌, ◌^◌, ℕ, List, [], ◌∷◌, ◌++◌, length, Option, None, Some, Result, Ok, Err, refl, sym, ap, subst, ◌∙◌, arith, append-nil, length-append, inl, inr}
use Rattle.std.specs.Io.KnownBytes.{IsAtEnd}
use Rattle.fast_io.specs.Counts.{counted, counted_by}
use Rattle.fast_wire.specs.Reader.{IsBytes}
use Rattle.fast_template.specs.Resolved.{Resolved}
use Rattle.fast_template.specs.TemplateSets.{IsSound, TemplateList, templates_in}
use Rattle.fast_stream.specs.declared.fault.Cause.{Cause}
use Rattle.fast_stream.specs.declared.fault.Fault.{Fault}
use Rattle.fast_stream.specs.declared.mode.Mode.{Mode}
use Rattle.fast_stream.specs.declared.place.Place.{Place}
use Rattle.fast_stream.specs.Modes.{Carries, FirstFault}
use Rattle.fast_stream.specs.Nodes.{Content}
use Rattle.fast_stream.proofs.MessageReaders.{message_reader}
use Rattle.fast_stream.proofs.ModeReaders.{next_reader}
use Rattle.fast_stream.proofs.ModeStreams.{fault_stays}
use Rattle.fast_machine.specs.Standing.{Carried}
use Rattle.fast_machine.proofs.Followings.{all_carried}
use Rattle.fast_machine.specs.Inputs.{Reader, RefusedBy, Refuses}
use Rattle.fast_writer.specs.Canonical.{IsCanonical}
use Rattle.fast_pass.specs.Passed.{IsCausedBy, Passes, PassesFront}
use Rattle.fast_canon.specs.Canonicalised.{Canonicalises, Checks}
use Rattle.fast_pass.specs.Relays.{Making}
use Rattle.fast_pass.specs.declared.fault.CanonFault.{CanonFault}
use Rattle.fast_pass.specs.declared.summary.Summary.{Summary}
use Rattle.fast_pass.proofs.Relayings.{carried_more, summary_by}
use Rattle.fast_canon.proofs.CanonicalBytes.{no_longer}
use Rattle.fast_command.specs.Run.{LinesOf, Runs}
use Rattle.fast_command.specs.declared.command.Command.{Command}
use Rattle.fast_command.specs.declared.command.Command.TheVariants.{Show, Check, Canon}
use Rattle.fast_lines.specs.declared.form.Form.{Form}
use Rattle.fast_slices.specs.declared.answer.Refusal.{Refusal}
use Rattle.fast_slices.specs.Answers.{answer_of}
use Rattle.fast_slices.proofs.Recordings.{front_no_longer}
use Rattle.fast_slices.specs.Ways.{way_of}
use Rattle.fast_slices.specs.declared.way.Reading.{Reading}
use Rattle.fast_slices.specs.declared.way.Way.{Way}
use Rattle.fast_slices.specs.Calls.{Canons, CanonsBy, CanonsOver, CountsStream, Done, StreamDone, IsRefused, Measures, Needs, Overflows, RefusesAsked, RefusesCall, Settles, Writes}

-- ---- why a stream is refused

by_cause : (c : Cause) (mode : Mode) (set : List Resolved) (turns : ℕ) (left : Option (List ℕ)) (bytes : List ℕ) (place : Place) → RefusedBy c mode set turns left bytes place → c ≢ Cause.Memory → c ≢ Cause.Read → length bytes < turns
    → FirstFault mode set bytes place c × (c ≡ Cause.Truncated → IsAtEnd left)
by_cause Cause.Truncated mode set turns left bytes place h memory read few = (h.0, λ e. h.1)
by_cause Cause.Read mode set turns left bytes place h memory read few = absurd (read refl)
by_cause Cause.Turns mode set turns left bytes place h memory read few = let many = h.1 in absurd (omega (arith, few, many))
by_cause Cause.Memory mode set turns left bytes place h memory read few = absurd (memory refl)
by_cause c mode set turns left bytes place h memory read few = (h, λ e. absurd cc)

-- the first fault of what was read is the stream's, where Truncated comes only at the stream's end
whole : (rest input : List ℕ) (mode : Mode) (set : TemplateList) (place : Place) (c : Cause) → IsSound set → IsBytes (input ++ rest) → FirstFault mode (templates_in set) input place c → (c ≡ Cause.Truncated → rest ≡ [])
    → FirstFault mode (templates_in set) (input ++ rest) place c
whole [] input mode set place c sound fits f ended = subst (λ (xs : List ℕ). FirstFault mode (templates_in set) xs place c) (sym (append-nil input)) f
whole (b ∷ bs) input mode set place c sound fits f ended =
    fault_stays mode (templates_in set) (next_reader mode (templates_in set) (message_reader mode.level (templates_in set) sound.typed)) input (b ∷ bs) place c fits f (λ e. let no = ended e in absurd cc)

pub refused : (fault : Fault) (mode : Mode) (set : TemplateList) (turns : ℕ) (stream input rest : List ℕ) (messages : List Content) → IsSound set → IsBytes stream → stream ≡ input ++ rest → length stream < turns
    → Refuses mode (templates_in set) turns (Some rest) input messages fault → fault.cause ≢ Cause.Memory → fault.cause ≢ Cause.Read → IsRefused mode (templates_in set) stream messages fault
refused fault mode set turns stream input rest messages sound fits parts few r memory read =
    let size = ap (λ (xs : List ℕ). length xs) parts in
    let sum = length-append input rest in
    let fewer : length input < turns = omega (arith, size, sum, few) in
    let first = by_cause fault.cause mode (templates_in set) turns (Some rest) input fault.place r.refused memory read fewer in record {
      carried = subst (λ (xs : List ℕ). Carried mode (templates_in set) xs messages) (sym parts) (carried_more mode (templates_in set) input rest messages r.carried);
      behind = r.behind;
      refused = subst (λ (xs : List ℕ). FirstFault mode (templates_in set) xs fault.place fault.cause) (sym parts) (whole rest input mode set fault.place fault.cause sound (subst (λ (xs : List ℕ). IsBytes xs) parts fits) first.0 first.1);
    }

-- a reader that counts no error was none that failed
not_read : (ran : Result Summary CanonFault) (UsedUp : Type 0) (old new : Reader) → IsCausedBy ran UsedUp old new → old.errors ≡ 0 → new.errors ≡ 0 → (fault : Fault) → ran ≡ Err (CanonFault.Stream fault) → fault.cause ≢ Cause.Read
not_read ran UsedUp old new h before after fault same is =
    let caused = subst (λ (x : Result Summary CanonFault). IsCausedBy x UsedUp old new) same h in
    let e : new.errors ≡ counted old.errors = caused.read is in absurd (omega (arith, before, after, e))

-- ---- what was written

-- what stands for canonical bytes stands for what is made of messages
pub as_passes : (mode : Mode) (set : List Resolved) (turns : ℕ) (left a b : Option (List ℕ)) (input : List ℕ) (ran : Result Summary CanonFault) → length input < 2 ^ 40 → Canonicalises mode set turns left a b input ran → Passes IsCanonical mode set turns left a b input ran
as_passes mode set turns left a b input (Ok summary) few p =
    let less = p.no_longer in
    let exact : length p.out ≡ counted_by 0 (length p.out) = omega (arith, few, less) in record {
      messages = p.messages;
      out = p.out;
      ends = p.ends;
      made = p.canonical;
      written = p.written;
      counts = p.counts ∙ ap (λ (n : ℕ). summary_by (length p.messages) (length input) n) exact;
    }
as_passes mode set turns left a b input (Err (CanonFault.Stream fault)) few p = p
as_passes mode set turns left a b input (Err CanonFault.Write) few p = p
as_passes mode set turns left a b input (Err CanonFault.Memory) few p = p

-- what is known of a run over a stream in memory, which read so much of it
pub record HasRun (set : TemplateList) (stream : List ℕ) (ran : Result Summary CanonFault) (Passed : List ℕ → List ℕ → Type 0) : Type 0 where
  pub input : List ℕ
  pub rest : List ℕ
  pub sound : IsSound set
  pub fits : IsBytes stream
  pub few : length stream < 2 ^ 40
  pub parts : stream ≡ input ++ rest
  pub no_error : (fault : Fault) → ran ≡ Err (CanonFault.Stream fault) → fault.cause ≢ Cause.Read
  pub passes : Passed input rest

pub has_run : (set : TemplateList) (stream : List ℕ) (ran : Result Summary CanonFault) (UsedUp : Type 0) (old new : Reader) (Passed : List ℕ → List ℕ → Type 0) (input rest : List ℕ) → IsSound set → IsBytes stream → length stream < 2 ^ 40 → stream ≡ input ++ rest
    → IsCausedBy ran UsedUp old new → old.errors ≡ 0 → new.errors ≡ 0 → Passed input rest → HasRun set stream ran Passed
has_run set stream ran UsedUp old new Passed input rest sound fits few parts caused before after passes =
    record { input = input; rest = rest; sound = sound; fits = fits; few = few; parts = parts; no_error = not_read ran UsedUp old new caused before after; passes = passes }

abbrev pub HasWritten : Making → Mode → TemplateList → List ℕ → List ℕ → Result Summary CanonFault → Type 0
HasWritten makes mode set stream bytes ran = HasRun set stream ran (λ input rest. Passes makes mode (templates_in set) (2 ^ 40) (Some rest) (Some []) (Some bytes) input ran)

-- how much is written of a stream that was read to its end
needs_all : (makes : Making) (mode : Mode) (set : TemplateList) (stream : List ℕ) (summary : Summary) → HasRun set stream (Ok summary) (λ input rest. Passes makes mode (templates_in set) (2 ^ 40) (Some rest) None None input (Ok summary))
    → Needs makes mode (templates_in set) stream summary.written
needs_all makes mode set stream summary h =
    let p = h.passes in
    let all : stream ≡ h.input = h.parts ∙ ap (λ (xs : List ℕ). h.input ++ xs) p.ends.ended ∙ append-nil h.input in
    inl (p.messages, p.out, subst (λ (xs : List ℕ). Carries mode (templates_in set) xs p.messages) (sym all) p.ends.carried, p.made, ap (λ (x : Summary). x.written) p.counts)

-- of one that is refused it is not said
needs_refused : (makes : Making) (mode : Mode) (set : TemplateList) (stream : List ℕ) (fault : Fault) (needed : ℕ) → fault.cause ≢ Cause.Memory
    → HasRun set stream (Err (CanonFault.Stream fault)) (λ input rest. Passes makes mode (templates_in set) (2 ^ 40) (Some rest) None None input (Err (CanonFault.Stream fault)))
    → Needs makes mode (templates_in set) stream needed
needs_refused makes mode set stream fault needed memory h =
    let p = h.passes in
    inr (p.messages, fault, refused fault mode set (2 ^ 40) stream h.input h.rest p.messages h.sound h.fits h.parts h.few p.refuses memory (h.no_error fault refl))

-- what a command wrote that nobody kept
abbrev pub HasMeasured : Command → Mode → Form → TemplateList → List ℕ → Result Summary CanonFault → Type 0
HasMeasured command mode form set stream ran = HasRun set stream ran (λ input rest. (length input < 2 ^ 40) × Runs command mode form set (2 ^ 40) (Some rest) None None input ran)

with_passes : (set : TemplateList) (stream : List ℕ) (ran : Result Summary CanonFault) (P Q : List ℕ → List ℕ → Type 0) → ((input rest : List ℕ) → P input rest → Q input rest) → HasRun set stream ran P → HasRun set stream ran Q
with_passes set stream ran P Q f h = record { input = h.input; rest = h.rest; sound = h.sound; fits = h.fits; few = h.few; parts = h.parts; no_error = h.no_error; passes = f h.input h.rest h.passes }

pub measured : (command : Command) (mode : Mode) (form : Form) (set : TemplateList) (stream : List ℕ) (summary : Summary) → HasMeasured command mode form set stream (Ok summary) → Measures command mode form set stream (Refusal.Room summary.written)
measured Show mode form set stream summary h = needs_all (LinesOf form set) mode set stream summary (with_passes set stream (Ok summary) _ _ (λ input rest x. x.1) h)
measured Canon mode form set stream summary h = needs_all IsCanonical mode set stream summary (with_passes set stream (Ok summary) _ _ (λ input rest x. as_passes mode (templates_in set) (2 ^ 40) (Some rest) None None input (Ok summary) x.0 x.1) h)
measured Check mode form set stream summary h = tt

pub not_measured : (command : Command) (mode : Mode) (form : Form) (set : TemplateList) (stream : List ℕ) (fault : Fault) (needed : ℕ) → fault.cause ≢ Cause.Memory → HasMeasured command mode form set stream (Err (CanonFault.Stream fault)) → Measures command mode form set stream (Refusal.Room needed)
not_measured Show mode form set stream fault needed memory h = needs_refused (LinesOf form set) mode set stream fault needed memory (with_passes set stream (Err (CanonFault.Stream fault)) _ _ (λ input rest x. x.1) h)
not_measured Canon mode form set stream fault needed memory h = needs_refused IsCanonical mode set stream fault needed memory (with_passes set stream (Err (CanonFault.Stream fault)) _ _ (λ input rest x. x.1) h)
not_measured Check mode form set stream fault needed memory h = tt

broken : (makes : Making) (mode : Mode) (set : TemplateList) (stream bytes old new input rest : List ℕ) → stream ≡ input ++ rest → PassesFront makes mode (templates_in set) (Some []) (Some bytes) input → length old < length bytes → new ≡ old
    → (needed : ℕ) → Needs makes mode (templates_in set) stream needed → Overflows makes mode (templates_in set) stream old new needed
broken makes mode set stream bytes old new input rest parts p longer same needed needs =
    let sum = length-append p.front p.rest in
    let size = ap (λ (xs : List ℕ). length xs) p.written in record {
      messages = p.messages;
      bytes = p.front ++ p.rest;
      carried = subst (λ (xs : List ℕ). Carried mode (templates_in set) xs p.messages) (sym parts) (carried_more mode (templates_in set) input rest p.messages p.carried);
      made = p.made;
      longer = omega (arith, longer, size, sum);
      same = same;
      needs = needs;
    }

pub overflows : (makes : Making) (mode : Mode) (set : TemplateList) (stream bytes old new : List ℕ) (ran : Result Summary CanonFault) → HasWritten makes mode set stream bytes ran → length old < length bytes → new ≡ old
    → (needed : ℕ) → Needs makes mode (templates_in set) stream needed → Overflows makes mode (templates_in set) stream old new needed
overflows makes mode set stream bytes old new (Ok summary) h longer same needed needs =
    let p = h.passes in record {
      messages = p.messages;
      bytes = p.out;
      carried = subst (λ (xs : List ℕ). Carried mode (templates_in set) xs p.messages) (sym h.parts) (carried_more mode (templates_in set) h.input h.rest p.messages (all_carried mode (templates_in set) h.input p.messages p.ends.carried));
      made = p.made;
      longer = subst (λ (xs : List ℕ). length old < length xs) p.written longer;
      same = same;
      needs = needs;
    }
overflows makes mode set stream bytes old new (Err (CanonFault.Stream fault)) h longer same needed needs =
    let p = h.passes in record {
      messages = p.messages;
      bytes = p.out;
      carried = subst (λ (xs : List ℕ). Carried mode (templates_in set) xs p.messages) (sym h.parts) (carried_more mode (templates_in set) h.input h.rest p.messages p.refuses.carried);
      made = p.made;
      longer = subst (λ (xs : List ℕ). length old < length xs) p.written longer;
      same = same;
      needs = needs;
    }
overflows makes mode set stream bytes old new (Err CanonFault.Write) h longer same needed needs = broken makes mode set stream bytes old new h.input h.rest h.parts h.passes longer same needed needs
overflows makes mode set stream bytes old new (Err CanonFault.Memory) h longer same needed needs = broken makes mode set stream bytes old new h.input h.rest h.parts h.passes longer same needed needs

pub settled : (makes : Making) (mode : Mode) (set : TemplateList) (stream bytes old new : List ℕ) (ran : Result Summary CanonFault) (r : StreamDone) → length bytes < 2 ^ 64 → HasWritten makes mode set stream bytes ran → Settles ran bytes old new r
    → Writes makes mode (templates_in set) stream old new r
settled makes mode set stream bytes old new ran (Ok summary) room h s =
    let p = subst (λ (x : Result Summary CanonFault). Passes makes mode (templates_in set) (2 ^ 40) (Some h.rest) (Some []) (Some bytes) h.input x) s.0 h.passes in
    let all : stream ≡ h.input = h.parts ∙ ap (λ (xs : List ℕ). h.input ++ xs) p.ends.ended ∙ append-nil h.input in
    let exact : counted_by 0 (length bytes) ≡ length bytes = omega (arith, room) in record {
      messages = p.messages;
      bytes = bytes;
      carries = subst (λ (xs : List ℕ). Carries mode (templates_in set) xs p.messages) (sym all) p.ends.carried;
      made = subst (λ (xs : List ℕ). makes (templates_in set) p.messages xs) (sym p.written) p.made;
      put = s.1;
      counts = p.counts ∙ ap (λ (xs : List ℕ). summary_by (length p.messages) (length h.input) (counted_by 0 (length xs))) (sym p.written)
          ∙ ap (λ (n : ℕ). summary_by (length p.messages) (length h.input) n) exact ∙ ap (λ (xs : List ℕ). summary_by (length p.messages) (length xs) (length bytes)) (sym all);
    }
settled makes mode set stream bytes old new ran (Err (Refusal.Stream fault written)) room h s =
    let p = subst (λ (x : Result Summary CanonFault). Passes makes mode (templates_in set) (2 ^ 40) (Some h.rest) (Some []) (Some bytes) h.input x) s.0 h.passes in record {
      messages = p.messages;
      bytes = bytes;
      refused = refused fault mode set (2 ^ 40) stream h.input h.rest p.messages h.sound h.fits h.parts h.few p.refuses s.1 (h.no_error fault s.0);
      made = subst (λ (xs : List ℕ). makes (templates_in set) p.messages xs) (sym p.written) p.made;
      put = s.3;
      count = s.2;
    }
settled makes mode set stream bytes old new ran (Err Refusal.Memory) room h s = s
settled makes mode set stream bytes old new ran r room h s = absurd s

-- ---- more than the room holds

pub measured_run : (command : Command) (mode : Mode) (form : Form) (set : TemplateList) (stream : List ℕ) (ran : Result Summary CanonFault) → HasMeasured command mode form set stream ran → (summary : Summary) → ran ≡ Ok summary
    → Measures command mode form set stream (Refusal.Room summary.written)
measured_run command mode form set stream ran h summary same = measured command mode form set stream summary (subst (λ (x : Result Summary CanonFault). HasMeasured command mode form set stream x) same h)

pub refused_run : (command : Command) (mode : Mode) (form : Form) (set : TemplateList) (stream : List ℕ) (ran : Result Summary CanonFault) → HasMeasured command mode form set stream ran → (fault : Fault) (stop : CanonFault) (needed : ℕ) → ran ≡ Err stop → stop ≡ CanonFault.Stream fault → fault.cause ≢ Cause.Memory
    → Measures command mode form set stream (Refusal.Room needed)
refused_run command mode form set stream ran h fault stop needed is stops memory =
    not_measured command mode form set stream fault needed memory (subst (λ (x : Result Summary CanonFault). HasMeasured command mode form set stream x) (is ∙ ap (λ (f : CanonFault). Err f) stops) h)

pub canon_overflows : (mode : Mode) (form : Form) (set : TemplateList) (stream bytes old new : List ℕ) (ran : Result Summary CanonFault) (r : Refusal) → HasWritten IsCanonical mode set stream bytes ran → length old < length bytes → new ≡ old → Measures Canon mode form set stream r
    → Writes IsCanonical mode (templates_in set) stream old new (Err r)
canon_overflows mode form set stream bytes old new ran (Refusal.Room needed) h longer same m = overflows IsCanonical mode set stream bytes old new ran h longer same needed m
canon_overflows mode form set stream bytes old new ran Refusal.Memory h longer same m = same
canon_overflows mode form set stream bytes old new ran r h longer same m = absurd m

pub show_overflows : (mode : Mode) (form : Form) (set : TemplateList) (stream bytes old new : List ℕ) (ran : Result Summary CanonFault) (r : Refusal) → HasWritten (LinesOf form set) mode set stream bytes ran → length old < length bytes → new ≡ old → Measures Show mode form set stream r
    → Writes (LinesOf form set) mode (templates_in set) stream old new (Err r)
show_overflows mode form set stream bytes old new ran (Refusal.Room needed) h longer same m = overflows (LinesOf form set) mode set stream bytes old new ran h longer same needed m
show_overflows mode form set stream bytes old new ran Refusal.Memory h longer same m = same
show_overflows mode form set stream bytes old new ran r h longer same m = absurd m

-- ---- what is counted

pub counted_all : (mode : Mode) (set : TemplateList) (stream old new : List ℕ) (ran : Result Summary CanonFault) (r : StreamDone) → length old ≡ 0 → HasRun set stream ran (λ input rest. Checks mode (templates_in set) (2 ^ 40) (Some rest) input ran) → Settles ran [] old new r
    → CountsStream mode (templates_in set) stream r
counted_all mode set stream old new ran (Ok summary) none h s =
    let p = subst (λ (x : Result Summary CanonFault). Checks mode (templates_in set) (2 ^ 40) (Some h.rest) h.input x) s.0 h.passes in
    let all : stream ≡ h.input = h.parts ∙ ap (λ (xs : List ℕ). h.input ++ xs) p.ends.ended ∙ append-nil h.input in record {
      messages = p.messages;
      bytes = p.out;
      carries = subst (λ (xs : List ℕ). Carries mode (templates_in set) xs p.messages) (sym all) p.ends.carried;
      canonical = p.canonical;
      counts = p.counts ∙ ap (λ (xs : List ℕ). summary_by (length p.messages) (length xs) (length p.out)) (sym all);
      no_longer = subst (λ (xs : List ℕ). length p.out ≤ length xs) (sym all) p.no_longer;
    }
counted_all mode set stream old new ran (Err (Refusal.Stream fault written)) none h s =
    let p = subst (λ (x : Result Summary CanonFault). Checks mode (templates_in set) (2 ^ 40) (Some h.rest) h.input x) s.0 h.passes in
    ((p.messages, refused fault mode set (2 ^ 40) stream h.input h.rest p.messages h.sound h.fits h.parts h.few p.refuses s.1 (h.no_error fault s.0)), s.2)
counted_all mode set stream old new ran (Err Refusal.Memory) none h s = tt
counted_all mode set stream old new ran r none h s = absurd s

-- ---- a room of as many bytes as the stream

-- a call that is refused before its stream is looked at asks for no room
no_room : {A : Type 0} (asked : Option A) (stream : List ℕ) (needed : ℕ) → RefusesAsked asked stream (Refusal.Room needed) → ⊥
no_room asked stream needed (inl h) = let e = h.0 in absurd cc
no_room asked stream needed (inr h) = let e = h.1 in absurd cc

no_room_for : (asked : Option Way) (text stream : List ℕ) (needed : ℕ) → RefusesCall asked text stream (Refusal.Room needed) → ⊥
no_room_for asked text stream needed (inl h) = no_room asked stream needed h
no_room_for asked text stream needed (inr (some, few, inl e)) = absurd cc
no_room_for asked text stream needed (inr (some, few, inr (fault, e, machine, loads))) = absurd cc

-- nor does one that looks at it
room_by : (set : TemplateList) (form : Form) (stream old new : List ℕ) (needed : ℕ) → IsSound set → length stream ≤ length old → (reading : Reading)
    → CanonsBy set (record { reading = reading; form = form }) stream old new (Err (Refusal.Room needed)) → ⊥
room_by set form stream old new needed sound enough (Reading.Stream mode) (Err (Refusal.Room n), is, o) =
    let less = no_longer mode set sound stream o.bytes o.messages o.carried o.made in
    let longer = o.longer in absurd (omega (arith, less, longer, enough))
room_by set form stream old new needed sound enough (Reading.Stream mode) (done, is, o) = absurd cc
room_by set form stream old new needed sound enough (Reading.Recording level) o =
    let less = front_no_longer level set sound stream old new needed o in
    let longer = o.longer in absurd (omega (arith, less, longer, enough))

pub room_enough : (text : List ℕ) (word : ℕ) (stream old new : List ℕ) (r : Done) → Canons text word stream old new r → length stream ≤ length old → (answer_of r).status ≢ 3
room_enough text word stream old new (Err (Refusal.Room needed)) (inl h) enough e = absurd (no_room_for (way_of word) text stream needed h.0)
room_enough text word stream old new (Err (Refusal.Room needed)) (inr (set, way, given, over)) enough e = absurd (room_by set way.form stream old new needed given.sound enough way.reading over)
room_enough text word stream old new r h enough e = absurd cc

pub room_enough_over : (set : TemplateList) (word : ℕ) (stream old new : List ℕ) (r : Done) → IsSound set → CanonsOver set word stream old new r → length stream ≤ length old → (answer_of r).status ≢ 3
room_enough_over set word stream old new (Err (Refusal.Room needed)) sound (inl h) enough e = absurd (no_room (way_of word) stream needed h.0)
room_enough_over set word stream old new (Err (Refusal.Room needed)) sound (inr (way, asks, over)) enough e = absurd (room_by set way.form stream old new needed sound enough way.reading over)
room_enough_over set word stream old new r sound h enough e = absurd cc
