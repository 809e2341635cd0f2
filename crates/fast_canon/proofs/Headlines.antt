-- What the headline rests on: what a call answers of a stream, and the laws of streams.
use Rattle.std.proofs.Common.{◌≡◌, ◌≢◌, ◌<◌, ℕ, ◌+◌, List, [], ◌∷◌, ◌++◌, length, Some, Result, Ok, Err, IsOk, refl, sym, ap, ap₂, subst, ◌∙◌, ◌⊎◌, inl, inr, arith}
use Rattle.std.proofs.lemmas.List.{append-nil, append_assoc, append_cancel_left}
use Rattle.fast_wire.specs.Reader.{IsBytes}
use Rattle.fast_canon.proofs.Common.{◌↔◌, TemplateList, IsSound, templates_in, Mode, at_start, Content, Carries, Carried, plainly, message_reader, next_reader, fault_stays, not_both, one_fault, one_list, IsCanonical, CanonFault, Summary, Canonicalises}
use Rattle.fast_stream.specs.declared.fault.Cause.{Cause}
use Rattle.fast_stream.specs.declared.fault.Fault.{Fault}
use Rattle.fast_stream.specs.declared.place.Place.{Place}
use Rattle.fast_stream.specs.Modes.{FirstFault, messages_at}
use Rattle.fast_stream.specs.Readers.{IsNextReader}
use Rattle.fast_stream.proofs.ModeStreams.{continues, fault_is_read}
use Rattle.fast_machine.specs.Inputs.{RefusedBy}
use Rattle.fast_canon.specs.Headline.{Call, IsAboutStream, Accepts, Refuses, stream_of}
use Rattle.fast_canon.proofs.StreamLaws.{canonical_in_mode, same_exactly, stays}

-- ---- lists with the same front

same_front : (xs ys more rest : List Content) → length xs ≡ length ys → xs ++ more ≡ ys ++ rest → xs ≡ ys
same_front [] [] more rest n e = refl
same_front [] (y ∷ ys) more rest n e = absurd (omega arith)
same_front (x ∷ xs) [] more rest n e = absurd (omega arith)
same_front (x ∷ xs) (y ∷ ys) more rest n e =
    let first : x ≡ y = cc in
    let others : xs ++ more ≡ ys ++ rest = cc in
    let same : xs ≡ ys = same_front xs ys more rest (omega arith) others in
    rw (first, same) refl

module _ (set : TemplateList) (sound : IsSound set) where
  reader : (mode : Mode) → IsNextReader mode (templates_in set)
  reader mode = next_reader mode (templates_in set) (message_reader mode.level (templates_in set) sound.typed)

  pub one_list_before : (mode : Mode) (stream : List ℕ) (place other : Place) (cause second : Cause) (f : FirstFault mode (templates_in set) stream place cause) (g : FirstFault mode (templates_in set) stream other second) → f.messages ≡ g.messages
  one_list_before mode stream place other cause second f g =
      ap (λ r. r.messages) (sym (fault_is_read mode (templates_in set) (reader mode) stream place cause f) ∙ fault_is_read mode (templates_in set) (reader mode) stream other second g)

  -- what is written, behind what was there
  written : (before out bytes : List ℕ) → before ++ out ≡ before ++ bytes → bytes ≡ out
  written before out bytes e = sym (append_cancel_left before out bytes e)

  -- the messages before a fault are those that a front of what was read carries, if they are as many
  before_fault : (mode : Mode) (input left : List ℕ) (messages : List Content) (place : Place) (cause : Cause) → Carried mode (templates_in set) input messages
      → (f : FirstFault mode (templates_in set) (input ++ left) place cause) → place.message ≡ length messages + 1 → messages ≡ f.messages
  before_fault mode input left messages place cause c f behind =
      let n = suc_of (length (input ++ left)) in
      let whole : input ++ left ≡ c.front ++ (c.rest ++ left) = ap (λ (xs : List ℕ). xs ++ left) c.parts ∙ append_assoc c.front c.rest left in
      let mine = continues mode (templates_in set) (reader mode) messages n at_start c.start c.front (c.rest ++ left) c.carried (subst (λ (xs : List ℕ). length xs < n) whole (omega arith)) in
      let its = continues mode (templates_in set) (reader mode) f.messages n at_start f.stand f.front f.rest f.carried (subst (λ (xs : List ℕ). length xs < n) f.parts (omega arith)) in
      let count : length messages ≡ length f.messages = let m : place.message ≡ length f.messages + 1 = ap (λ (p : Place). p.message) f.place_is in omega (arith, m, behind) in
      let read = sym mine.reads ∙ ap (λ (xs : List ℕ). messages_at mode n (templates_in set) at_start xs) (sym whole ∙ f.parts) ∙ its.reads in
      same_front messages f.messages _ _ count (ap (λ r. r.messages) read)
    where
      suc_of : ℕ → ℕ
      suc_of k = k + 1

  -- a fault of what was read is the whole stream's
  whole_fault : (c : Cause) (mode : Mode) (turns : ℕ) (input left : List ℕ) (place : Place) → c ≢ Cause.Memory → c ≢ Cause.Read → c ≢ Cause.Turns → IsBytes (input ++ left)
      → RefusedBy c mode (templates_in set) turns (Some left) input place → FirstFault mode (templates_in set) (input ++ left) place c
  whole_fault Cause.Memory mode turns input left place m r t fits h = absurd (m refl)
  whole_fault Cause.Read mode turns input left place m r t fits h = absurd (r refl)
  whole_fault Cause.Turns mode turns input left place m r t fits h = absurd (t refl)
  whole_fault Cause.Truncated mode turns input left place m r t fits h = rw (h.1, append-nil input) h.0
  whole_fault c mode turns input left place m r t fits h = fault_stays mode (templates_in set) (reader mode) input left place c fits h (λ e. cc)

  -- ---- what a call answers of its stream

  of_ok : (mode : Mode) (turns : ℕ) (input left before out : List ℕ) (r : Result Summary CanonFault) → IsOk r → Canonicalises mode (templates_in set) turns (Some left) (Some before) (Some (before ++ out)) input r
      → (messages : List Content) × (Carries mode (templates_in set) (input ++ left) messages × IsCanonical (templates_in set) messages out)
  of_ok mode turns input left before out (Ok summary) ok a =
      (a.messages, (rw (a.ends.ended, append-nil input) a.ends.carried, subst (λ (b : List ℕ). IsCanonical (templates_in set) a.messages b) (written before out a.out a.written) a.canonical))
  of_ok mode turns input left before out (Err f) ok a = absurd cc

  pub accepts : (call : Call set) → IsOk call.result → (messages : List Content) × Accepts set call messages
  accepts call ok =
      let found = of_ok call.mode call.turns call.input call.left call.before call.out call.result ok call.answer in
      (found.0, record { accepted = ok; carries = found.1.0; canonical = found.1.1 })

  of_refused : (mode : Mode) (turns : ℕ) (input left before out : List ℕ) (f : Fault) → f.cause ≢ Cause.Memory → f.cause ≢ Cause.Read → f.cause ≢ Cause.Turns → IsBytes (input ++ left)
      → Canonicalises mode (templates_in set) turns (Some left) (Some before) (Some (before ++ out)) input (Err (CanonFault.Stream f))
      → (first : FirstFault mode (templates_in set) (input ++ left) f.place f.cause) × IsCanonical (templates_in set) first.messages out
  of_refused mode turns input left before out f memory read used fits a =
      let first = whole_fault f.cause mode turns input left f.place memory read used fits a.refuses.refused in
      let same = before_fault mode input left a.messages f.place f.cause a.refuses.carried first a.refuses.behind in
      (first, subst (λ (ms : List Content). IsCanonical (templates_in set) ms out) same (subst (λ (b : List ℕ). IsCanonical (templates_in set) a.messages b) (written before out a.out a.written) a.made))

  abbrev Answers : Call set → Type 0
  Answers call = ((messages : List Content) × Accepts set call messages) ⊎ ((f : Fault) × Refuses set call f)

  answers : (call : Call set) (r : Result Summary CanonFault) → call.result ≡ r → IsBytes (stream_of set call) → IsAboutStream r → Answers call
  answers call (Ok summary) is fits about = inl (accepts call (rw is refl))
  answers call (Err (CanonFault.Stream f)) is fits about =
      let a = rw is at call.answer in
      let found = of_refused call.mode call.turns call.input call.left call.before call.out f about.0 about.1 about.2 fits a in
      inr (f, record { refused = is; first = found.0; canonical = found.1 })
  answers call (Err CanonFault.Write) is fits about = absurd about
  answers call (Err CanonFault.Memory) is fits about = absurd about

  pub answered : (call : Call set) → IsBytes (stream_of set call) → IsAboutStream call.result → Answers call
  answered call = answers call call.result refl

  -- ---- the headline

  pub same_messages : (a b : Call set) (messages others : List Content) → Accepts set a messages → Accepts set b others → (messages ≡ others) ↔ (a.out ≡ b.out)
  same_messages a b messages others h k = same_exactly set sound messages others a.out b.out h.canonical k.canonical

  accepts_again : (a b : Call set) (messages : List Content) → Accepts set a messages → b.mode ≡ plainly b.mode.level → stream_of set b ≡ a.out → Answers b → Accepts set b messages × (b.out ≡ a.out)
  accepts_again a b messages h plain is (inl k) =
      let carries = subst (λ (m : Mode). Carries m (templates_in set) a.out k.0) plain (subst (λ (s : List ℕ). Carries b.mode (templates_in set) s k.0) is k.1.carries) in
      let own = stays set sound b.mode.level messages k.0 a.out b.out h.canonical carries in
      (subst (λ (ms : List Content). Accepts set b ms) own.0 k.1, own.1.0 k.1.canonical)
  accepts_again a b messages h plain is (inr k) =
      let first = subst (λ (m : Mode). FirstFault m (templates_in set) a.out k.0.place k.0.cause) plain (subst (λ (s : List ℕ). FirstFault b.mode (templates_in set) s k.0.place k.0.cause) is k.1.first) in
      absurd (not_both (plainly b.mode.level) (templates_in set) (reader (plainly b.mode.level)) a.out messages k.0.place k.0.cause (canonical_in_mode set sound b.mode.level messages a.out h.canonical) first)

  pub canonical_is_accepted : (a b : Call set) (messages : List Content) → Accepts set a messages → IsBytes a.out → b.mode ≡ plainly b.mode.level → stream_of set b ≡ a.out → IsAboutStream b.result → Accepts set b messages × (b.out ≡ a.out)
  canonical_is_accepted a b messages h fits plain is about =
      accepts_again a b messages h plain is (answered b (subst (λ (s : List ℕ). IsBytes s) (sym is) fits) about)

  -- ---- however a stream is cut

  pub accepted_once : (a b : Call set) (messages others : List Content) → a.mode ≡ b.mode → stream_of set a ≡ stream_of set b → Accepts set a messages → Accepts set b others → (messages ≡ others) × (a.out ≡ b.out)
  accepted_once a b messages others mode stream h k =
      let carries = subst (λ (s : List ℕ). Carries b.mode (templates_in set) s messages) stream (subst (λ (m : Mode). Carries m (templates_in set) (stream_of set a) messages) mode h.carries) in
      let same = one_list b.mode (templates_in set) (reader b.mode) (stream_of set b) messages others carries k.carries in
      (same, (same_messages a b messages others h k).0 same)

  first_of : (a b : Call set) (f : Fault) → a.mode ≡ b.mode → stream_of set a ≡ stream_of set b → Refuses set a f
      → (first : FirstFault b.mode (templates_in set) (stream_of set b) f.place f.cause) × IsCanonical (templates_in set) first.messages a.out
  first_of a b f mode stream h =
      subst (λ (s : List ℕ). (first : FirstFault b.mode (templates_in set) s f.place f.cause) × IsCanonical (templates_in set) first.messages a.out) stream
      (subst (λ (m : Mode). (first : FirstFault m (templates_in set) (stream_of set a) f.place f.cause) × IsCanonical (templates_in set) first.messages a.out) mode (h.first, h.canonical))

  pub refused_once : (a b : Call set) (f g : Fault) → a.mode ≡ b.mode → stream_of set a ≡ stream_of set b → Refuses set a f → Refuses set b g → (f ≡ g) × (a.out ≡ b.out)
  refused_once a b f g mode stream h k =
      let first = first_of a b f mode stream h in
      let same = one_fault b.mode (templates_in set) (reader b.mode) (stream_of set b) f.place g.place f.cause g.cause first.0 k.first in
      let before = one_list_before b.mode (stream_of set b) f.place g.place f.cause g.cause first.0 k.first in
      (ap₂ (λ p c. record { cause = c; place = p }) same.0 same.1, (same_exactly set sound first.0.messages k.first.messages a.out b.out first.1 k.canonical).0 before)

  pub not_both_ways : (a b : Call set) (messages : List Content) (f : Fault) → a.mode ≡ b.mode → stream_of set a ≡ stream_of set b → Accepts set a messages → Refuses set b f → ⊥
  not_both_ways a b messages f mode stream h k =
      let carries = subst (λ (s : List ℕ). Carries b.mode (templates_in set) s messages) stream (subst (λ (m : Mode). Carries m (templates_in set) (stream_of set a) messages) mode h.carries) in
      not_both b.mode (templates_in set) (reader b.mode) (stream_of set b) messages f.place f.cause carries k.first
