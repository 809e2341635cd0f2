-- What is answered of one line.
use Rattle.std.proofs.Common.{◌≡◌, ◌⊎◌, ◌<◌, ◌≤◌, ◌==◌, ℕ, Bool, true, false, List, [], ◌++◌, length, Some, Result, Ok, Err, inl, inr, refl, sym, ap, ap₂, ◌∙◌, subst, eq-eqb}
use Rattle.std.proofs.lemmas.Bool.{eqb-true}
use Rattle.std.specs.Prelude.{IfErr, MatchResult, OnOk, if◌then◌else◌}
use Rattle.std.specs.FinMap as map
use Rattle.std.specs.List.{list_all}
use Rattle.fast_io.specs.Counts.{counted}
use Rattle.fast_wire.specs.declared.level.Level.TheVariants.{Usual}
use Rattle.fast_template.specs.TemplateSets.{TemplateList, templates_in}
use Rattle.fast_dictionary.specs.Dictionary.{Dictionary}
use Rattle.fast_stream.specs.Nodes.{Content, nodes_in, node_limit}
use Rattle.fast_stream.specs.Streams.{MessageForm}
use Rattle.fast_writer.specs.Canonical.{CanonMessage}
use Rattle.fast_nodes.specs.FirstRefusal.{first_refusal, refused}
use Rattle.fast_nodes.specs.declared.fault.EncodeFault.{EncodeFault}
use Rattle.fast_nodes.specs.declared.fault.EncodeCause.TheVariants as encode_cause
use Rattle.fast_packets.specs.Recordings.{packet_limit}
use Rattle.fast_spelled.specs.Numbered.{SpellsIn}
use Rattle.fast_spelled.specs.declared.fault.LineFault.{LineFault}
use Rattle.fast_spelled.specs.declared.fault.LineCause.TheVariants as line_cause
use Rattle.fast_spelled.specs.Spelled.{Spells, is_blank}
use Rattle.fast_write.specs.declared.fault.WriteFault.{WriteFault}
use Rattle.fast_write.specs.declared.fault.WriteFault.TheVariants as refusal
use Rattle.fast_write.specs.declared.summary.WrittenSummary.{WrittenSummary}
use Rattle.fast_write.specs.Written.{IsNoLine}
use Rattle.fast_write.specs.Ways.{Here, IsNotTaken, IsNotTakenIf, IsNotTakenIn, IsOfLine, IsTakenIn, IsUnreadIn, TakesIf, TakesIn, TakesLine, TakesPlain, Waits, entries_at, packet_at, with_message}

-- why no message is read of a line
abbrev pub IsUnread : TemplateList → List ℕ → ℕ → WriteFault → Type 0
IsUnread set line number f = (f ≡ refusal.Memory) ⊎ ((x : LineFault) × (f ≡ refusal.Line number x) × IsNoLine set line x)

-- the fault that is answered for another
abbrev pub IsOf : {A : Type 0} → Type 0 → A → (A → WriteFault) → WriteFault → Type 0
IsOf Memory x made f = (Memory × (f ≡ refusal.Memory)) ⊎ ((Memory → ⊥) × (f ≡ made x))

abbrev pub StandsForNone : TemplateList → List ℕ → LineFault → Type 0
StandsForNone set line x = ((m : Content) → Spells set line m → ⊥) ⊎ ((x.cause ≡ line_cause.Limit) × ((m : Content) → Spells set line m → node_limit < nodes_in m.items))

unread_by : (set : TemplateList) (line : List ℕ) (number : ℕ) (x : LineFault) (f : WriteFault) → list_all is_blank line ≡ false → IsOf (x.cause ≡ line_cause.Memory) x (λ y. refusal.Line number y) f → (x.cause ≡ line_cause.Memory) ⊎ StandsForNone set line x → IsUnread set line number f
unread_by set line number x f blank (inl a) why = inl a.1
unread_by set line number x f blank (inr a) (inl memory) = absurd (a.0 memory)
unread_by set line number x f blank (inr a) (inr none) = inr (x, a.1, inr (blank, none))

pub unread : (set : TemplateList) (line text : List ℕ) (number : ℕ) (x : LineFault) (f : WriteFault) → text ≡ line → list_all is_blank line ≡ false → IsOf (x.cause ≡ line_cause.Memory) x (λ y. refusal.Line number y) f → (x.cause ≡ line_cause.Memory) ⊎ StandsForNone set text x
    → IsUnread set line number f
unread set line text number x f is blank of why = unread_by set line number x f blank of (subst (λ l. (x.cause ≡ line_cause.Memory) ⊎ StandsForNone set l x) is why)

-- so the line is not taken
pub unread_not_taken : (set : TemplateList) (d : Dictionary) (line text : List ℕ) (number : ℕ) (f : WriteFault) → text ≡ line → IsUnread set text number f → IsNotTaken set d line number f
unread_not_taken set d line text number f is (inl memory) = subst (IsNotTaken set d line number) (sym memory) tt
unread_not_taken set d line text number f is (inr x) = subst (IsNotTaken set d line number) (sym x.1) (refl, subst (λ l. IsNoLine set l x.0) is x.2)

-- the encoder refuses its message
refused_by : (set : TemplateList) (d : Dictionary) (line : List ℕ) (number template : ℕ) (m : Content) (x : EncodeFault) (f : WriteFault) → m.template ≡ template → Spells set line m → IsOf (x.cause ≡ encode_cause.Memory) x (λ y. refusal.Message number template y) f
    → (x ≡ refused encode_cause.Memory) ⊎ (first_refusal (templates_in set) d m ≡ Some x) → (x ≡ refused encode_cause.Memory) ⊎ ((bytes : List ℕ) (after : Dictionary) → MessageForm Usual (templates_in set) d bytes m after → ⊥) → IsNotTaken set d line number f
refused_by set d line number template m x f is spelled (inl a) first none = subst (IsNotTaken set d line number) (sym a.1) tt
refused_by set d line number template m x f is spelled (inr a) (inl memory) none = absurd (a.0 (ap (λ (x : EncodeFault). x.cause) memory))
refused_by set d line number template m x f is spelled (inr a) (inr first) (inl memory) = absurd (a.0 (ap (λ (x : EncodeFault). x.cause) memory))
refused_by set d line number template m x f is spelled (inr a) (inr first) (inr none) = subst (IsNotTaken set d line number) (sym a.1) (refl, record { message = m; spelled = spelled; template_is = is; refused = first; no_form = none })

pub refused_not_taken : (set own : TemplateList) (d : Dictionary) (line text : List ℕ) (number told template : ℕ) (m : Content) (x : EncodeFault) (f : WriteFault) → own ≡ set → text ≡ line → number ≡ told → m.template ≡ template → Spells set text m
    → IsOf (x.cause ≡ encode_cause.Memory) x (λ y. refusal.Message number template y) f
    → (x ≡ refused encode_cause.Memory) ⊎ (first_refusal (templates_in own) d m ≡ Some x) → (x ≡ refused encode_cause.Memory) ⊎ ((bytes : List ℕ) (after : Dictionary) → MessageForm Usual (templates_in own) d bytes m after → ⊥) → IsNotTaken set d line told f
refused_not_taken set own d line text number told template m x f same is count at spelled of first none =
    subst (λ n. IsNotTaken set d line n f) count
    (refused_by set d line number template m x f at (subst (λ l. Spells set l m) is spelled) of (subst (λ s. (x ≡ refused encode_cause.Memory) ⊎ (first_refusal (templates_in s) d m ≡ Some x)) same first)
    (subst (λ s. (x ≡ refused encode_cause.Memory) ⊎ ((bytes : List ℕ) (after : Dictionary) → MessageForm Usual (templates_in s) d bytes m after → ⊥)) same none))

pub of_line : (set : TemplateList) (d : Dictionary) (line : List ℕ) (number : ℕ) (f : WriteFault) → IsNotTaken set d line number f → IsOfLine f
of_line set d line number (refusal.Line n x) h = tt
of_line set d line number (refusal.Message n template x) h = tt
of_line set d line number refusal.Read h = absurd h
of_line set d line number refusal.Write h = absurd h
of_line set d line number refusal.Turns h = absurd h
of_line set d line number refusal.Memory h = tt

pub of_write : (f : WriteFault) → f ≡ refusal.Write → IsOfLine f
of_write f is = subst IsOfLine (sym is) tt

-- ---- a line that is taken

pub now_counted : (h : Here) (after : Dictionary) (ready bytes : List ℕ) (lines messages : ℕ) → ready ≡ h.ready ++ bytes → lines ≡ counted h.counts.lines → messages ≡ counted h.counts.messages
    → record h { entries = after; ready = ready; counts = record { lines = lines; messages = messages; written = h.counts.written } } ≡ record h { entries = after; ready = h.ready ++ bytes; counts = with_message h.counts }
now_counted h after ready bytes lines messages grown a b =
    ap (λ (l : List ℕ). record h { entries = after; ready = l; counts = record { lines = lines; messages = messages; written = h.counts.written } }) grown
    ∙ ap₂ (λ (n k : ℕ). record h { entries = after; ready = h.ready ++ bytes; counts = record { lines = n; messages = k; written = h.counts.written } }) a b

pub not_changed : (h : Here) (after : Dictionary) (ready : List ℕ) → after ≡ h.entries → ready ≡ h.ready → record h { entries = after; ready = ready } ≡ h
not_changed h after ready a b = ap₂ (λ (d : Dictionary) (l : List ℕ). record h { entries = d; ready = l }) a b

-- ---- a line of a packet

abbrev pub IsUnreadAt : TemplateList → List ℕ → ℕ → WriteFault → Type 0
IsUnreadAt set line number f = (f ≡ refusal.Memory) ⊎ ((x : LineFault) × (f ≡ refusal.Line number x) × IsUnreadIn set line x)

unread_at_by : (set : TemplateList) (line : List ℕ) (number : ℕ) (x : LineFault) (f : WriteFault) → IsOf (x.cause ≡ line_cause.Memory) x (λ y. refusal.Line number y) f → (x.cause ≡ line_cause.Memory) ⊎ IsUnreadIn set line x → IsUnreadAt set line number f
unread_at_by set line number x f (inl a) why = inl a.1
unread_at_by set line number x f (inr a) (inl memory) = absurd (a.0 memory)
unread_at_by set line number x f (inr a) (inr none) = inr (x, a.1, none)

pub unread_at : (set : TemplateList) (line text : List ℕ) (number : ℕ) (x : LineFault) (f : WriteFault) → text ≡ line → IsOf (x.cause ≡ line_cause.Memory) x (λ y. refusal.Line number y) f → (x.cause ≡ line_cause.Memory) ⊎ IsUnreadIn set text x → IsUnreadAt set line number f
unread_at set line text number x f is of why = unread_at_by set line number x f of (subst (λ l. (x.cause ≡ line_cause.Memory) ⊎ IsUnreadIn set l x) is why)

pub unread_not_taken_in : (h : Here) (text : List ℕ) (number : ℕ) (f : WriteFault) → text ≡ h.begun → list_all is_blank h.begun ≡ false → IsUnreadAt h.set text number f → IsNotTakenIn h number f
unread_not_taken_in h text number f is blank (inl memory) = subst (IsNotTakenIn h number) (sym memory) tt
unread_not_taken_in h text number f is blank (inr x) = subst (IsNotTakenIn h number) (sym x.1) (refl, blank, inl (subst (λ l. IsUnreadIn h.set l x.0) is x.2))

-- of a packet before the last
pub fallen_not_taken : (h : Here) (text : List ℕ) (number n : ℕ) (m : Content) (f : WriteFault) → text ≡ h.begun → list_all is_blank h.begun ≡ false → SpellsIn h.set text n m → n < h.number → (x : LineFault) × (f ≡ refusal.Line number x) × (x.cause ≡ line_cause.Line) → IsNotTakenIn h number f
fallen_not_taken h text number n m f is blank spelled low x = subst (IsNotTakenIn h number) (sym x.1) (refl, blank, inr (inl (x.2, n, m, subst (λ l. SpellsIn h.set l n m) is spelled, low)))

-- the encoder refuses its message
abbrev pub IsRefused : TemplateList → Dictionary → Content → EncodeFault → Type 0
IsRefused set d m x =
    ((x ≡ refused encode_cause.Memory) ⊎ (first_refusal (templates_in set) d m ≡ Some x)) × ((x ≡ refused encode_cause.Memory) ⊎ ((bytes : List ℕ) (after : Dictionary) → MessageForm Usual (templates_in set) d bytes m after → ⊥))

refused_in_by : (h : Here) (number template n : ℕ) (m : Content) (x : EncodeFault) (f : WriteFault) → m.template ≡ template → SpellsIn h.set h.begun n m → IsOf (x.cause ≡ encode_cause.Memory) x (λ y. refusal.Message number template y) f
    → (x ≡ refused encode_cause.Memory) ⊎ (first_refusal (templates_in h.set) (entries_at h n) m ≡ Some x)
    → (x ≡ refused encode_cause.Memory) ⊎ ((bytes : List ℕ) (after : Dictionary) → MessageForm Usual (templates_in h.set) (entries_at h n) bytes m after → ⊥) → IsNotTakenIn h number f
refused_in_by h number template n m x f is spelled (inl a) first none = subst (IsNotTakenIn h number) (sym a.1) tt
refused_in_by h number template n m x f is spelled (inr a) (inl memory) none = absurd (a.0 (ap (λ (x : EncodeFault). x.cause) memory))
refused_in_by h number template n m x f is spelled (inr a) (inr first) (inl memory) = absurd (a.0 (ap (λ (x : EncodeFault). x.cause) memory))
refused_in_by h number template n m x f is spelled (inr a) (inr first) (inr none) = subst (IsNotTakenIn h number) (sym a.1) (refl, record { number = n; message = m; spelled = spelled; template_is = is; refused = first; no_form = none })

pub refused_not_taken_in : (h : Here) (text : List ℕ) (number template n : ℕ) (m : Content) (x : EncodeFault) (f : WriteFault) → text ≡ h.begun → m.template ≡ template → SpellsIn h.set text n m → IsOf (x.cause ≡ encode_cause.Memory) x (λ y. refusal.Message number template y) f
    → IsRefused h.set (entries_at h n) m x → IsNotTakenIn h number f
refused_not_taken_in h text number template n m x f is at spelled of r = refused_in_by h number template n m x f at (subst (λ l. SpellsIn h.set l n m) is spelled) of r.0 r.1

-- its packet has too many bytes with it
abbrev pub IsNotKeptIn : Here → ℕ → ℕ → List ℕ → WriteFault → Type 0
IsNotKeptIn h n number fresh f = (f ≡ refusal.Memory) ⊎ ((x : LineFault) × (f ≡ refusal.Line number x) × (x.cause ≡ line_cause.Limit) × (packet_limit < length (packet_at h n ++ fresh)))

not_kept_by : (h : Here) (number n : ℕ) (m : Content) (fresh : List ℕ) (e : Dictionary) (f : WriteFault) → list_all is_blank h.begun ≡ false → SpellsIn h.set h.begun n m → CanonMessage (templates_in h.set) (entries_at h n) fresh m e → IsNotKeptIn h n number fresh f → IsNotTakenIn h number f
not_kept_by h number n m fresh e f blank spelled form (inl memory) = subst (IsNotTakenIn h number) (sym memory) tt
not_kept_by h number n m fresh e f blank spelled form (inr x) = subst (IsNotTakenIn h number) (sym x.1) (refl, blank, inr (inr (x.2, n, m, fresh, e, spelled, form, x.3)))

pub not_kept_in : (h k : Here) (e : Dictionary) (text : List ℕ) (number n : ℕ) (m : Content) (fresh : List ℕ) (f : WriteFault) → k ≡ record h { entries = e } → text ≡ h.begun → list_all is_blank h.begun ≡ false → SpellsIn h.set text n m
    → CanonMessage (templates_in h.set) (entries_at h n) fresh m e → IsNotKeptIn k n number fresh f → IsNotTakenIn h number f
not_kept_in h k e text number n m fresh f is at blank spelled form x =
    not_kept_by h number n m fresh e f blank (subst (λ l. SpellsIn h.set l n m) at spelled) form (subst (λ k. IsNotKeptIn k n number fresh f) is x)

-- it is kept
abbrev pub IsKeptIn : Here → Here → ℕ → List ℕ → Type 0
IsKeptIn h k n fresh = (ready : List ℕ) × Waits h n ready × (length (packet_at h n ++ fresh) ≤ packet_limit) × (k ≡ record h { ready = ready; number = n; packet = packet_at h n ++ fresh })

taken_at : (h : Here) (e : Dictionary) (k : Here) (n : ℕ) (m : Content) (fresh : List ℕ) (lines messages : ℕ) → IsKeptIn (record h { entries = e }) k n fresh → SpellsIn h.set h.begun n m → h.number ≤ n → CanonMessage (templates_in h.set) (entries_at h n) fresh m e
    → lines ≡ counted h.counts.lines → messages ≡ counted k.counts.messages → IsTakenIn h (record k { counts = record { lines = lines; messages = messages; written = k.counts.written } })
taken_at h e k n m fresh lines messages kept spelled order form a b = record {
  bytes = fresh;
  number = n;
  message = m;
  after = e;
  ready = kept.0;
  spelled = spelled;
  in_order = order;
  canonical = form;
  waits = kept.1;
  few = kept.2;
  is =
      let same = ap (λ (k : Here). k.counts) kept.3 in
      ap (λ (k : Here). record k { counts = record { lines = lines; messages = messages; written = k.counts.written } }) kept.3
      ∙ ap₂ (λ (x y : ℕ). record h { entries = e; ready = kept.0; number = n; packet = packet_at h n ++ fresh; counts = record { lines = x; messages = y; written = h.counts.written } }) a (b ∙ ap (λ (c : WrittenSummary). counted c.messages) same);
}

pub taken_numbered : (h h2 : Here) (e : Dictionary) (k : Here) (text : List ℕ) (n : ℕ) (m : Content) (fresh : List ℕ) (lines messages : ℕ) → h2 ≡ record h { entries = e } → IsKeptIn h2 k n fresh → text ≡ h.begun → SpellsIn h.set text n m → h.number ≤ n
    → CanonMessage (templates_in h.set) (entries_at h n) fresh m e → lines ≡ counted h.counts.lines → messages ≡ counted k.counts.messages → IsTakenIn h (record k { counts = record { lines = lines; messages = messages; written = k.counts.written } })
taken_numbered h h2 e k text n m fresh lines messages is kept at spelled order form a b =
    taken_at h e k n m fresh lines messages (subst (λ h. IsKeptIn h k n fresh) is kept) (subst (λ l. SpellsIn h.set l n m) at spelled) order form a b

-- ---- from which entries

pub at_same : (n k : ℕ) (d : Dictionary) → n ≡ k → d ≡ (if n == k then d else map.empty)
at_same n k d e = rw (eq-eqb n k e) refl

at_other_by : (b : Bool) (n k : ℕ) (d : Dictionary) → (n == k) ≡ b → (n ≡ k → ⊥) → map.empty ≡ (if b then d else map.empty)
at_other_by true n k d e other = absurd (other (eqb-true n k e))
at_other_by false n k d e other = refl

pub at_other : (n k : ℕ) (d : Dictionary) → (n ≡ k → ⊥) → map.empty ≡ (if n == k then d else map.empty)
at_other n k d other = at_other_by (n == k) n k d refl other

pub encoded : (set own : TemplateList) (d e : Dictionary) (m : Content) (r : Result (Unit {0}) EncodeFault) (old new : List ℕ) (after : Dictionary) → own ≡ set → d ≡ e → old ≡ [] → OnOk r ((bytes : List ℕ) × (new ≡ old ++ bytes) × CanonMessage (templates_in own) d bytes m after)
    → IfErr r (λ f. (f ≡ refused encode_cause.Memory) ⊎ (first_refusal (templates_in own) d m ≡ Some f)) → IfErr r (λ f. (f ≡ refused encode_cause.Memory) ⊎ ((bytes : List ℕ) (after : Dictionary) → MessageForm Usual (templates_in own) d bytes m after → ⊥))
    → MatchResult r (λ x. CanonMessage (templates_in set) e new m after) (λ f. IsRefused set e m f)
encoded set own d e m (Ok x) old new after is at none w first form = subst (λ s. CanonMessage (templates_in s) e new m after) is (subst (λ d. CanonMessage (templates_in own) d new m after) at (subst (λ l. CanonMessage (templates_in own) d l m after) (sym (w.1 ∙ ap (λ (l : List ℕ). l ++ w.0) none)) w.2))
encoded set own d e m (Err f) old new after is at none w first form = subst (λ s. IsRefused s e m f) is (subst (λ d. IsRefused own d m f) at (first, form))

-- ---- as lines are read

pub takes_in : (h k : Here) (number : ℕ) (r : Result (Unit {0}) WriteFault) → h.numbered ≡ true → number ≡ counted h.counts.lines → TakesIn h k number r → TakesLine h k r
takes_in h k number (Ok x) numbered is t = inr (subst (λ b. TakesIf b h k) (sym numbered) (t is))
takes_in h k number (Err f) numbered is t = (t.0, t.1, subst (λ b. IsNotTakenIf b h (counted h.counts.lines) f) (sym numbered) (subst (λ n. IsNotTakenIn h n f) is t.2))

pub takes_plain : (h k : Here) (number : ℕ) (r : Result (Unit {0}) WriteFault) → h.numbered ≡ false → number ≡ counted h.counts.lines → TakesPlain h k number r → TakesLine h k r
takes_plain h k number (Ok x) plain is t = inr (subst (λ b. TakesIf b h k) (sym plain) (t is))
takes_plain h k number (Err f) plain is t = (t.0, t.1, subst (λ b. IsNotTakenIf b h (counted h.counts.lines) f) (sym plain) (subst (λ n. IsNotTaken h.set h.entries h.begun n f) is t.2))
