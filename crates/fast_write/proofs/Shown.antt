-- What is shown of a stream in JSON, written again, is its canonical bytes.
use Rattle.std.proofs.Common.{◌≡◌, ◌⊎◌, ℕ, ◌<◌, ◌++◌, true, false, List, [], ◌∷◌, Option, Some, Result, Ok, Err, inl, inr, refl, sym, ap, subst, ◌∙◌, arith}
use Rattle.std.specs.FinMap as map
use Rattle.std.specs.List.{AllByRecursion, list_all}
use Rattle.fast_wire.specs.declared.level.Level.TheVariants.{Usual}
use Rattle.fast_template.specs.Resolved.{Resolved}
use Rattle.fast_template.specs.TemplateSets.{IsSound, TemplateList, templates_in}
use Rattle.fast_dictionary.specs.Dictionary.{Dictionary}
use Rattle.fast_field.specs.Fields.{Form}
use Rattle.fast_field.specs.Best.{IsBest}
use Rattle.fast_field.proofs.StrictForms.{best_at_level}
use Rattle.fast_stream.specs.declared.mode.Mode.{Mode}
use Rattle.fast_stream.specs.Nodes.{Content, nodes_in, node_limit}
use Rattle.fast_stream.specs.Streams.{MapAt, MessageForm}
use Rattle.fast_stream.specs.Modes.{Carries}
use Rattle.fast_stream.proofs.Weaker.{message_weaker}
use Rattle.fast_writer.specs.Canonical.{CanonFrom, CanonMessage, IsCanonical, IsShortestMap}
use Rattle.fast_writer.proofs.LawProofs.{canonical_carries}
use Rattle.fast_canon.proofs.OneCanonical.{one_canonical}
use Rattle.fast_nodes.specs.declared.fault.EncodeFault.{EncodeFault}
use Rattle.fast_spelled.specs.declared.fault.LineFault.{LineFault}
use Rattle.fast_spelled.specs.declared.fault.LineCause.TheVariants.{Limit}
use Rattle.fast_spelled.specs.Laws.{HasTextLines}
use Rattle.fast_spelled.specs.Spelled.{Spell, Spells, lines_of, is_blank}
use Rattle.fast_spelled.proofs.Streams.{lines_spell, spelled_once, blank_no_line, same_message}
use Rattle.fast_write.specs.declared.fault.WriteFault.{WriteFault}
use Rattle.fast_write.specs.declared.fault.WriteFault.TheVariants as refusal
use Rattle.fast_write.specs.declared.output.OutputForm.{OutputForm}
use Rattle.fast_write.specs.declared.summary.WrittenSummary.{WrittenSummary}
use Rattle.fast_write.specs.Outputs.{output_of}
use Rattle.fast_write.specs.Written.{IsShort, Writes, IsNoLine, HasNoForm, StopsFor, Make}
use Rattle.fast_write.specs.Laws.{HasShortLines, IsWrittenAs, WritesWhatIsShown}
use Rattle.fast_write.proofs.Cuts.{nothing_follows}
use Rattle.fast_write.proofs.Withins.{carried_within}

-- ---- lines and messages apart

-- a line among others, and its message
pub record Among (set : TemplateList) (lines : List (List ℕ)) (line : List ℕ) (ms : List Content) : Type 0 where
  pub front : List Content
  pub message : Content
  pub back : List Content
  pub whole : ms ≡ front ++ message ∷ back
  pub before : Spell set lines front
  pub spelled : Spells set line message

among : (set : TemplateList) (lines : List (List ℕ)) (line : List ℕ) (more : List (List ℕ)) (ms : List Content) → Spell set (lines ++ line ∷ more) ms → (list_all is_blank line ≡ true) ⊎ Among set lines line ms
among set [] line more ms (inl x) = inl x.0
among set [] line more ms (inr x) = inr (record { front = []; message = x.0; back = x.1; whole = x.2; before = refl; spelled = x.3 })
among set (l ∷ ls) line more ms (inl x) = behind_blank (among set ls line more ms x.1) where
  behind_blank : (list_all is_blank line ≡ true) ⊎ Among set ls line ms → (list_all is_blank line ≡ true) ⊎ Among set (l ∷ ls) line ms
  behind_blank (inl b) = inl b
  behind_blank (inr a) = inr (record { front = a.front; message = a.message; back = a.back; whole = a.whole; before = inl (x.0, a.before); spelled = a.spelled })
among set (l ∷ ls) line more ms (inr x) = behind_line (among set ls line more x.1 x.4) where
  behind_line : (list_all is_blank line ≡ true) ⊎ Among set ls line x.1 → (list_all is_blank line ≡ true) ⊎ Among set (l ∷ ls) line ms
  behind_line (inl b) = inl b
  behind_line (inr a) = inr (record {
    front = x.0 ∷ a.front;
    message = a.message;
    back = a.back;
    whole = x.2 ∙ ap (λ l. x.0 ∷ l) a.whole;
    before = inr (x.0, a.front, refl, x.3, a.before);
    spelled = a.spelled;
  })

pub short_one : (lines : List (List ℕ)) (line : List ℕ) (more : List (List ℕ)) → AllByRecursion IsShort (lines ++ line ∷ more) → IsShort line
short_one [] line more h = h.0
short_one (l ∷ ls) line more h = short_one ls line more h.1

-- ---- canonical bytes apart

pub record Apart (set : List Resolved) (d : Dictionary) (front : List Content) (m : Content) : Type 0 where
  pub before : List ℕ
  pub own : List ℕ
  pub between : Dictionary
  pub after : Dictionary
  pub earlier : CanonFrom set d before front between
  pub form : CanonMessage set between own m after

pub apart : (set : List Resolved) (front : List Content) (m : Content) (back : List Content) (d after : Dictionary) (bytes : List ℕ) → CanonFrom set d bytes (front ++ m ∷ back) after → Apart set d front m
apart set [] m back d after bytes h = record { before = []; own = h.front; between = d; after = h.between; earlier = (refl, refl); form = h.first }
apart set (n ∷ ns) m back d after bytes h =
    let a = apart set ns m back h.between after h.back h.second in
    record {
      before = h.front ++ a.before;
      own = a.own;
      between = a.between;
      after = a.after;
      earlier = record { between = h.between; front = h.front; back = a.before; parts = refl; first = h.first; second = a.earlier };
      form = a.form;
    }

usual_form : (set : List Resolved) (d : Dictionary) (bytes : List ℕ) (m : Content) (after : Dictionary) → CanonMessage set d bytes m after → MessageForm Usual set d bytes m after
usual_form set d bytes m after h = message_weaker IsBest (Form Usual) IsShortestMap (MapAt Usual) (best_at_level Usual) (λ bits left b s. s.form) set d bytes m after h

-- ---- no line is refused

module _ (set : TemplateList) (ms : List Content) (bytes text : List ℕ) (canonical : IsCanonical (templates_in set) ms bytes) (spelled : Spell set (lines_of text) ms) where
  apart_at : (front : List Content) (m : Content) (back : List Content) → ms ≡ front ++ m ∷ back → Apart (templates_in set) map.empty front m
  apart_at front m back e = apart (templates_in set) front m back map.empty canonical.0 bytes (subst (λ l. CanonFrom (templates_in set) map.empty bytes l canonical.0) e canonical.1)

  no_blank : (line : List ℕ) → list_all is_blank line ≡ true → list_all is_blank line ≡ false → ⊥
  no_blank line t f = cc (sym t ∙ f)

  not_refused : (lines : List (List ℕ)) (line : List ℕ) (more : List (List ℕ)) (f : LineFault) → HasShortLines text → lines_of text ≡ lines ++ line ∷ more → IsNoLine set line f → ⊥
  not_refused lines line more f short cut (inl long) =
      let least = short_one lines line more (subst (AllByRecursion IsShort) cut short) in
      let most = long.1 in
      absurd (omega (arith, least, most))
  not_refused lines line more f short cut (inr none) = go (among set lines line more ms (subst (λ ls. Spell set ls ms) cut spelled)) none.1 where
    go : (list_all is_blank line ≡ true) ⊎ Among set lines line ms → ((m : Content) → Spells set line m → ⊥) ⊎ ((f.cause ≡ Limit) × ((m : Content) → Spells set line m → node_limit < nodes_in m.items)) → ⊥
    go (inl b) w = no_blank line b none.0
    go (inr a) (inl other) = other a.message a.spelled
    go (inr a) (inr many) =
        let few = (apart_at a.front a.message a.back a.whole).form.few in
        let more = many.1 a.message a.spelled in
        absurd (omega (arith, few, more))

  has_form : (lines : List (List ℕ)) (line : List ℕ) (more : List (List ℕ)) (out : List ℕ) (d : Dictionary) (template : ℕ) (f : EncodeFault) → lines_of text ≡ lines ++ line ∷ more → Make set lines out d → HasNoForm set line d template f → ⊥
  has_form lines line more out d template f cut made none = go (among set lines line more ms (subst (λ ls. Spell set ls ms) cut spelled)) where
    go : (list_all is_blank line ≡ true) ⊎ Among set lines line ms → ⊥
    go (inl b) = blank_no_line set line none.message b none.spelled
    go (inr a) =
        let x = apart_at a.front a.message a.back a.whole in
        let same_front : made.messages ≡ a.front = spelled_once set lines made.messages a.front made.spelled a.before in
        let same : none.message ≡ a.message = same_message set line none.message a.message none.spelled a.spelled in
        let earlier = subst (λ l. CanonFrom (templates_in set) map.empty out l d) same_front made.canonical in
        let same_entries : x.between ≡ d = (one_canonical (templates_in set) a.front map.empty map.empty x.between d x.before out refl x.earlier earlier).1 in
        none.no_form x.own x.after (subst (λ m. MessageForm Usual (templates_in set) d x.own m x.after) (sym same)
        (subst (λ e. MessageForm Usual (templates_in set) e x.own a.message x.after) same_entries (usual_form (templates_in set) x.between x.own a.message x.after x.form)))

  stopped : (form : OutputForm) (lines rest : List (List ℕ)) (out : List ℕ) (d : Dictionary) (f : WriteFault) (written : List ℕ) → HasShortLines text → lines_of text ≡ lines ++ rest → Make set lines out d → StopsFor set d lines rest f → IsWrittenAs (output_of form bytes) (Err f) written
  stopped form lines rest out d (refusal.Line n f) written short cut made why = not_refused lines why.1 why.2 f short (cut ∙ ap (λ l. lines ++ l) why.3) why.4
  stopped form lines rest out d (refusal.Message n template f) written short cut made why = has_form lines why.1 why.2 out d template f (cut ∙ ap (λ l. lines ++ l) why.3) made why.4
  stopped form lines rest out d refusal.Read written short cut made why = tt
  stopped form lines rest out d refusal.Write written short cut made why = tt
  stopped form lines rest out d refusal.Turns written short cut made why = tt
  stopped form lines rest out d refusal.Memory written short cut made why = tt

  pub written_as : (form : OutputForm) (left : Option (List ℕ)) (out : List ℕ) (r : Result WrittenSummary WriteFault) → HasShortLines text → Writes form set left (Some []) (Some out) text r → IsWrittenAs (output_of form bytes) r out
  written_as form left out (Ok summary) short w =
      let same : w.messages ≡ ms = spelled_once set (lines_of text) w.messages ms w.spelled spelled in
      let own = subst (λ l. CanonFrom (templates_in set) map.empty w.out l w.canonical.0) same w.canonical.1 in
      w.written ∙ ap (output_of form) (one_canonical (templates_in set) ms map.empty map.empty w.canonical.0 canonical.0 w.out bytes refl own canonical.1).0
  written_as form left out (Err (refusal.Line n f)) short w =
      let s = w.stops [] (λ e. refl) in stopped form w.lines s.0 w.out w.entries (refusal.Line n f) out short (nothing_follows text w.lines s.0 s.1) w.made s.2
  written_as form left out (Err (refusal.Message n template f)) short w =
      let s = w.stops [] (λ e. refl) in stopped form w.lines s.0 w.out w.entries (refusal.Message n template f) out short (nothing_follows text w.lines s.0 s.1) w.made s.2
  written_as form left out (Err refusal.Read) short w = tt
  written_as form left out (Err refusal.Write) short w = tt
  written_as form left out (Err refusal.Turns) short w = tt
  written_as form left out (Err refusal.Memory) short w = tt

-- ---- with show and canon

pub writes_what_is_shown : (set : TemplateList) → IsSound set → HasTextLines set
    → ((mode : Mode) (stream : List ℕ) (ms ns : List Content) → Carries mode (templates_in set) stream ms → Carries mode (templates_in set) stream ns → ms ≡ ns) → WritesWhatIsShown set
writes_what_is_shown set sound texts one mode turns left later last stream text bytes out shown made form r show canon short w =
    let same : canon.messages ≡ show.messages = one mode stream canon.messages show.messages canon.ends.carried show.ends.carried in
    let canonical : IsCanonical (templates_in set) show.messages bytes =
    subst (IsCanonical (templates_in set) show.messages) (sym canon.written) (subst (λ l. IsCanonical (templates_in set) l canon.out) same canon.canonical) in
    let within = carried_within set show.messages bytes sound (canonical_carries Usual (templates_in set) show.messages bytes canonical) in
    let spelled = lines_spell set show.messages text sound texts within (show.made ∙ ap Some (sym show.written)) in
    written_as set show.messages bytes text canonical spelled form last out r short w
