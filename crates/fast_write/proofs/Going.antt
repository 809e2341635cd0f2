-- Lines behind what was read, or within it.
use Rattle.std.proofs.Common.{◌≡◌, ◌⊎◌, ℕ, ◌+◌, ◌<◌, ◌≤◌, Bool, true, false, List, [], ◌∷◌, ◌++◌, length, take, drop, get_or, Option, Result, Ok, Err, inl, inr, refl, sym, ap, ◌∙◌, subst, arith, append_assoc, append-nil, take-append-drop, length-drop, ◌-◌}
use Rattle.std.proofs.Math.Seq.{take-add}
use Rattle.std.proofs.lemmas.List.{take_more, take_rest}
use Rattle.std.specs.Prelude.{IfErr}
use Rattle.std.specs.FinMap as map
use Rattle.std.specs.List.{list_all}
use Rattle.std.specs.Io.KnownBytes.{IsAtEnd}
use Rattle.fast_io.specs.Counts.{counted}
use Rattle.fast_spelled.specs.Spelled.{lines_of}
use Rattle.fast_spelled.specs.declared.fault.LineFault.{LineFault}
use Rattle.fast_spelled.specs.declared.fault.LineCause.TheVariants.{Limit}
use Rattle.fast_write.specs.declared.fault.WriteFault.{WriteFault}
use Rattle.fast_write.specs.declared.fault.WriteFault.TheVariants as refusal
use Rattle.fast_write.specs.declared.summary.WrittenSummary.{WrittenSummary}
use Rattle.fast_machine.specs.Inputs.{Reader, Reads}
use Rattle.fast_machine.proofs.Inputs.{more_read}
use Rattle.fast_write.specs.Written.{HasEnded, IsCauseOf, IsCausedBy, IsShort, MayFollow, is_no_feed, line_limit, size_of}
use Rattle.fast_template.specs.TemplateSets.{TemplateList}
use Rattle.fast_dictionary.specs.Dictionary.{Dictionary}
use Rattle.fast_io.specs.Counts.{counted_by}
use Rattle.fast_write.specs.Packets.{Packets}
use Rattle.fast_write.specs.Ways.{Answers, EndsLine, Finishes, GoesOn, Hands, HandsOn, Here, IsCut, IsOfLine, IsSameWay, Stands, Stops, StopsIf, StopsIn}
use Rattle.fast_write.proofs.Cuts.{all_cut, clean_size, cut_begins, cut_line, cut_more, ends_between, ends_open, fed_size, next_line, too_long}
use Rattle.fast_write.proofs.Standing.{breaks, breaks_still, one_counted, stands_at_first, stands_closed, stands_written}

pub goes_at_first : (h : Here) (taken : Option (List ℕ)) → h.entries ≡ map.empty → h.ready ≡ [] → h.begun ≡ [] → h.counts ≡ record { lines = 0; messages = 0; written = 0 } → h.number ≡ 0 → h.packet ≡ [] → GoesOn h taken taken []
goes_at_first h taken none empty begun counts number packet = record { lines = []; is_cut = subst (IsCut [] []) (sym begun) cut_begins; stands = stands_at_first h taken none empty counts number packet }

-- bytes of a line that has not ended
pub goes_on : {h : Here} {old new : Option (List ℕ)} {input : List ℕ} → GoesOn h old new input → (k : Here) (bytes : List ℕ) → list_all is_no_feed bytes ≡ true → k ≡ record h { begun = h.begun ++ bytes } → length (h.begun ++ bytes) ≤ line_limit
    → GoesOn k old new (input ++ bytes)
goes_on {h = h} {old = old} {new = new} {input = input} g k bytes clean is short =
    subst (λ k. GoesOn k old new (input ++ bytes)) (sym is) (record { lines = g.lines; is_cut = cut_more g.is_cut bytes clean short; stands = stands_closed g.stands (h.begun ++ bytes) })

-- what waits was written
pub goes_handed : {h : Here} {old new : Option (List ℕ)} {input : List ℕ} → GoesOn h old new input → (k : Here) (newer : Option (List ℕ)) → HandsOn h k new newer → GoesOn k old newer input
goes_handed {h = h} {input = input} g k newer w = record { lines = g.lines; is_cut = subst (IsCut input g.lines) (sym (ap (λ (h : Here). h.begun) w.is)) g.is_cut; stands = stands_written g.stands k newer w }

-- ---- the end of a line

pub fed_short : {h : Here} {old new : Option (List ℕ)} {input : List ℕ} → GoesOn h old new input → IsShort (h.begun ++ 10 ∷ [])
fed_short {h = h} g = let size = fed_size h.begun g.is_cut.no_feed in let short = g.is_cut.short in omega (arith, size, short)

pub open_short : {h : Here} {old new : Option (List ℕ)} {input : List ℕ} → GoesOn h old new input → IsShort h.begun
open_short {h = h} g = let size = clean_size h.begun g.is_cut.no_feed in let short = g.is_cut.short in omega (arith, size, short)

-- the line that ends with the next line feed was taken
pub line_goes : {h : Here} {old new : Option (List ℕ)} {input : List ℕ} → (g : GoesOn h old new input) → (begun : List ℕ) → begun ≡ h.begun ++ 10 ∷ [] → (k : Here) (newer : Option (List ℕ)) → EndsLine (record h { begun = begun }) k old newer g.lines (Ok tt)
    → GoesOn k old newer (input ++ 10 ∷ [])
line_goes {h = h} {old = old} {input = input} g begun is k newer e = record {
  lines = g.lines ++ (h.begun ++ 10 ∷ []) ∷ [];
  is_cut = subst (IsCut (input ++ 10 ∷ []) (g.lines ++ (h.begun ++ 10 ∷ []) ∷ [])) (sym e.1) (cut_line g.is_cut);
  stands = subst (λ (line : List ℕ). Stands k k.entries old newer (g.lines ++ line ∷ [])) is e.0;
}

-- it is refused, or a write behind it failed
why_still : (h k : Here) (d : Dictionary) (p : Packets) (lines rest : List (List ℕ)) (f : WriteFault) → IsSameWay h k → StopsIf h.numbered h.set p d lines rest f → StopsIf k.numbered k.set p d lines rest f
why_still h k d p lines rest f same why = subst (λ s. StopsIf k.numbered s p d lines rest f) (sym same.set) (subst (λ b. StopsIf b h.set p d lines rest f) (sym same.numbered) why)

-- what follows stands behind what is behind
behind_too : (whole front behind : List ℕ) → whole ≡ front ++ behind → (more : List ℕ) → whole ++ more ≡ front ++ (behind ++ more)
behind_too whole front behind w more = ap (λ (l : List ℕ). l ++ more) w ∙ append_assoc front behind more

-- the open line is one of what was read, whatever may follow
abbrev IsWhole : Here → Option (List ℕ) → List (List ℕ) → List ℕ → Type 0
IsWhole h left lines whole = (more : List ℕ) → MayFollow left more → (rest : List (List ℕ)) × (lines_of (whole ++ more) ≡ lines ++ h.begun ∷ rest)

stops_by : (h k : Here) (left old newer : Option (List ℕ)) (lines : List (List ℕ)) (whole : List ℕ) (f : WriteFault) → IsSameWay h k → IsWhole h left lines whole → (d : Dictionary) (s : Stands k d old newer lines)
    → ((more : List (List ℕ)) → StopsIf h.numbered h.set s.packets d lines (h.begun ∷ more) f) → StopsIn k left old newer whole f
stops_by h k left old newer lines whole f same cut d s why = record {
  lines = lines;
  entries = d;
  stands = s;
  stops = λ more may. let c = cut more may in (h.begun ∷ c.0, c.1, why_still h k d s.packets lines (h.begun ∷ c.0) f same (why c.0));
}

stops_before : (h k : Here) (left old newer : Option (List ℕ)) (lines : List (List ℕ)) (whole : List ℕ) (f : WriteFault) → IsSameWay h k → IsWhole h left lines whole → EndsLine h k old newer lines (Err f) → Stops k left old newer whole f
stops_before h k left old newer lines whole (refusal.Line n f) same cut e = stops_by h k left old newer lines whole (refusal.Line n f) same cut e.0 e.1 e.2
stops_before h k left old newer lines whole (refusal.Message n template f) same cut e = stops_by h k left old newer lines whole (refusal.Message n template f) same cut e.0 e.1 e.2
stops_before h k left old newer lines whole refusal.Read same cut e = stops_by h k left old newer lines whole refusal.Read same cut e.0 e.1 e.2
stops_before h k left old newer lines whole refusal.Turns same cut e = stops_by h k left old newer lines whole refusal.Turns same cut e.0 e.1 e.2
stops_before h k left old newer lines whole refusal.Memory same cut e = stops_by h k left old newer lines whole refusal.Memory same cut e.0 e.1 e.2
stops_before h k left old newer lines whole refusal.Write same cut e =
    let c = cut [] (λ e. refl) in record {
      lines = lines ++ h.begun ∷ [];
      rest = c.0;
      cut = ap lines_of (sym (append-nil whole)) ∙ c.1 ∙ sym (append_assoc lines (h.begun ∷ []) c.0);
      breaks = breaks_still (record { form = sym same.form; set = sym same.set; numbered = sym same.numbered }) e;
    }

pub line_stops : {h : Here} {old new : Option (List ℕ)} {input : List ℕ} → (g : GoesOn h old new input) → (begun : List ℕ) → begun ≡ h.begun ++ 10 ∷ [] → (k : Here) (left newer : Option (List ℕ)) (behind whole : List ℕ) (f : WriteFault) → IsSameWay (record h { begun = begun }) k
    → whole ≡ (input ++ 10 ∷ []) ++ behind → EndsLine (record h { begun = begun }) k old newer g.lines (Err f) → Stops k left old newer whole f
line_stops {h = h} {old = old} {input = input} g begun is k left newer behind whole f same w e =
    stops_before (record h { begun = begun }) k left old newer g.lines whole f same
    (λ more may. (lines_of (behind ++ more), ap lines_of (behind_too whole (input ++ 10 ∷ []) behind w more) ∙ next_line g.is_cut (behind ++ more) ∙ ap (λ (line : List ℕ). g.lines ++ line ∷ lines_of (behind ++ more)) (sym is))) e

-- memory was refused for it
why_of_memory : (b : Bool) (set : TemplateList) (p : Packets) (d : Dictionary) (lines rest : List (List ℕ)) → StopsIf b set p d lines rest refusal.Memory × StopsIf b set p d lines rest refusal.Read × StopsIf b set p d lines rest refusal.Turns
why_of_memory false set p d lines rest = (tt, tt, tt)
why_of_memory true set p d lines rest = (tt, tt, tt)

pub memory_stops : {h : Here} {old new : Option (List ℕ)} {input : List ℕ} → GoesOn h old new input → (left : Option (List ℕ)) (begun behind whole : List ℕ) → whole ≡ input ++ behind → Stops (record h { begun = begun }) left old new whole refusal.Memory
memory_stops {h = h} {input = input} g left begun behind whole w = record {
  lines = g.lines;
  entries = h.entries;
  stands = stands_closed g.stands begun;
  stops = λ more may. (
    lines_of (h.begun ++ (behind ++ more)),
    ap lines_of (behind_too whole input behind w more) ∙ g.is_cut.cut (behind ++ more),
    (why_of_memory h.numbered h.set g.stands.packets h.entries g.lines (lines_of (h.begun ++ (behind ++ more)))).0,
  );
}

-- it is too long
why_of_long : (b : Bool) (set : TemplateList) (p : Packets) (d : Dictionary) (lines : List (List ℕ)) (line : List ℕ) (more : List (List ℕ)) (n : ℕ) (f : LineFault) → n ≡ counted_by 0 (length lines + 1) → f.cause ≡ Limit → line_limit < size_of line → StopsIf b set p d lines (line ∷ more) (refusal.Line n f)
why_of_long false set p d lines line more n f is limit long = (is, line, more, refl, inl (limit, long))
why_of_long true set p d lines line more n f is limit long = (is, line, more, refl, inl (limit, long))

long_stops : {h : Here} {old new : Option (List ℕ)} {input : List ℕ} → GoesOn h old new input → (left : Option (List ℕ)) (bytes behind whole : List ℕ) (f : LineFault) → list_all is_no_feed bytes ≡ true → line_limit < length (h.begun ++ bytes) → f.cause ≡ Limit → whole ≡ input ++ (bytes ++ behind)
    → Stops h left old new whole (refusal.Line (counted h.counts.lines) f)
long_stops {h = h} {input = input} g left bytes behind whole f clean long limit w = record {
  lines = g.lines;
  entries = h.entries;
  stands = g.stands;
  stops = λ more may.
      let t = too_long g.is_cut bytes (behind ++ more) clean long in (
        t.0 ∷ t.1,
        ap lines_of (behind_too whole input (bytes ++ behind) w more ∙ ap (λ (l : List ℕ). input ++ l) (append_assoc bytes behind more)) ∙ t.2,
        why_of_long h.numbered h.set g.stands.packets h.entries g.lines t.0 t.1 _ f (ap (λ (c : WrittenSummary). counted c.lines) g.stands.counts ∙ one_counted (length g.lines)) limit t.3,
      );
}

-- why bytes of a line are not kept
abbrev pub IsNotKept : Here → List ℕ → WriteFault → Type 0
IsNotKept h bytes f = (f ≡ refusal.Memory) ⊎ ((fault : LineFault) × (f ≡ refusal.Line (counted h.counts.lines) fault) × (fault.cause ≡ Limit) × (line_limit < length (h.begun ++ bytes)))

pub kept_stops : {h : Here} {old new : Option (List ℕ)} {input : List ℕ} → GoesOn h old new input → (k : Here) (left : Option (List ℕ)) (bytes behind whole : List ℕ) (f : WriteFault) → k ≡ h → list_all is_no_feed bytes ≡ true → IsNotKept h bytes f → whole ≡ input ++ (bytes ++ behind) → Stops k left old new whole f
kept_stops {h = h} {old = old} {new = new} g k left bytes behind whole f is clean (inl none) w = rw (is, none) (memory_stops g left h.begun (bytes ++ behind) whole w)
kept_stops {h = h} {old = old} {new = new} g k left bytes behind whole f is clean (inr x) w = rw (is, x.1) (long_stops g left bytes behind whole x.0 clean x.3 x.2 w)

-- ---- bytes up to a line feed

-- they are cut behind it
pub fed_front : (bytes : List ℕ) (end : ℕ) → end < length bytes → get_or bytes end 0 ≡ 10 → take (end + 1) bytes ≡ take end bytes ++ 10 ∷ []
fed_front bytes end inside feed = take_more bytes end 0 inside ∙ ap (λ (c : ℕ). take end bytes ++ c ∷ []) feed

pub fed_on : (input bytes : List ℕ) (end : ℕ) → end < length bytes → get_or bytes end 0 ≡ 10 → (input ++ take end bytes) ++ 10 ∷ [] ≡ input ++ take (end + 1) bytes
fed_on input bytes end inside feed = append_assoc input (take end bytes) (10 ∷ []) ∙ ap (λ (l : List ℕ). input ++ l) (sym (fed_front bytes end inside feed))

-- what stands behind them
pub whole_cut : (input bytes : List ℕ) (end : ℕ) → input ++ bytes ≡ input ++ (take end bytes ++ drop end bytes)
whole_cut input bytes end = ap (λ (l : List ℕ). input ++ l) (sym (take-append-drop end bytes))

pub whole_on : (input bytes : List ℕ) (end : ℕ) → input ++ bytes ≡ (input ++ take end bytes) ++ drop end bytes
whole_on input bytes end = whole_cut input bytes end ∙ sym (append_assoc input (take end bytes) (drop end bytes))

pub whole_fed : (input bytes : List ℕ) (end : ℕ) → end < length bytes → get_or bytes end 0 ≡ 10 → input ++ bytes ≡ ((input ++ take end bytes) ++ 10 ∷ []) ++ drop (end + 1) bytes
whole_fed input bytes end inside feed = whole_on input bytes (end + 1) ∙ ap (λ (l : List ℕ). l ++ drop (end + 1) bytes) (sym (fed_on input bytes end inside feed))

-- why bytes are not kept is of their line
pub of_kept : (h : Here) (bytes : List ℕ) (f : WriteFault) → IsNotKept h bytes f → IsOfLine f
of_kept h bytes f (inl none) = subst IsOfLine (sym none) tt
of_kept h bytes f (inr x) = subst IsOfLine (sym x.1) tt

-- bytes up to a line feed behind others
pub piece_place : (bytes : List ℕ) (at count : ℕ) → at ≤ length bytes → count ≤ length (take (length bytes - at) (drop at bytes)) → at + count ≤ length bytes
piece_place bytes at count place few = let size = ap (λ (l : List ℕ). length l) (take_rest bytes at) ∙ length-drop at bytes in omega (arith, place, few, size)

pub piece_on : (input bytes : List ℕ) (at count : ℕ) → (input ++ take at bytes) ++ take count (take (length bytes - at) (drop at bytes)) ≡ input ++ take (at + count) bytes
piece_on input bytes at count =
    append_assoc input (take at bytes) (take count (take (length bytes - at) (drop at bytes))) ∙ ap (λ (l : List ℕ). input ++ (take at bytes ++ take count l)) (take_rest bytes at) ∙ ap (λ (l : List ℕ). input ++ l) (sym (take-add at count bytes))

pub piece_whole : (input bytes : List ℕ) (at : ℕ) → (input ++ take at bytes) ++ take (length bytes - at) (drop at bytes) ≡ input ++ bytes
piece_whole input bytes at = append_assoc input (take at bytes) (take (length bytes - at) (drop at bytes)) ∙ ap (λ (l : List ℕ). input ++ (take at bytes ++ l)) (take_rest bytes at) ∙ ap (λ (l : List ℕ). input ++ l) (take-append-drop at bytes)

-- ---- the end of the input

pub all_stand : {h : Here} {old new : Option (List ℕ)} {input : List ℕ} → GoesOn h old new input → length h.begun ≡ 0 → Stands h h.entries old new (lines_of input)
all_stand {h = h} {old = old} {new = new} g none = subst (Stands h h.entries old new) (sym (ends_between g.is_cut none)) g.stands

pub last_ends : {h : Here} {old new : Option (List ℕ)} {input : List ℕ} → (g : GoesOn h old new input) → (length h.begun ≡ 0 → ⊥) → (k : Here) (newer left : Option (List ℕ)) (r : Result (Unit {0}) WriteFault) → IsSameWay h k → IsAtEnd left → EndsLine h k old newer g.lines r
    → Finishes k left old newer input r
last_ends {old = old} g some k newer left (Ok x) same ended e = record { ended = ended; stands = subst (Stands k k.entries old newer) (sym (ends_open g.is_cut some)) e.0 }
last_ends {h = h} {old = old} {input = input} g some k newer left (Err f) same ended e =
    stops_before h k left old newer g.lines input f same (λ more may. ([], ap (λ (l : List ℕ). lines_of (input ++ l)) (may ended) ∙ ap lines_of (append-nil input) ∙ ends_open g.is_cut some)) e

-- the reads failed or are used up
pub read_stops : {h : Here} {old new : Option (List ℕ)} {input : List ℕ} → GoesOn h old new input → (left : Option (List ℕ)) → Stops h left old new input refusal.Read × Stops h left old new input refusal.Turns
read_stops {h = h} g left =
    let why = λ (rest : List (List ℕ)). why_of_memory h.numbered h.set g.stands.packets h.entries g.lines rest in (
      record { lines = g.lines; entries = h.entries; stands = g.stands; stops = λ more may. (lines_of (h.begun ++ more), g.is_cut.cut more, (why (lines_of (h.begun ++ more))).1) },
      record { lines = g.lines; entries = h.entries; stands = g.stands; stops = λ more may. (lines_of (h.begun ++ more), g.is_cut.cut more, (why (lines_of (h.begun ++ more))).2) },
    )

-- ---- causes

-- the fault of a line has none in the reader
pub caused_by_line : (f : WriteFault) (UsedUp : Type 0) (old new : Reader) → IsOfLine f → IsCauseOf f UsedUp old new
caused_by_line (refusal.Line n x) UsedUp old new h = tt
caused_by_line (refusal.Message n template x) UsedUp old new h = tt
caused_by_line refusal.Read UsedUp old new h = absurd h
caused_by_line refusal.Write UsedUp old new h = tt
caused_by_line refusal.Turns UsedUp old new h = absurd h
caused_by_line refusal.Memory UsedUp old new h = tt

pub caused_by_end : (r : Result (Unit {0}) WriteFault) (UsedUp : Type 0) (old new : Reader) → HasEnded old new → IfErr r IsOfLine → IsCausedBy r UsedUp old new
caused_by_end (Ok x) UsedUp old new ended h = ended
caused_by_end (Err f) UsedUp old new ended h = caused_by_line f UsedUp old new h

-- an answer that stays has its cause still
pub still_caused : (r : Result (Unit {0}) WriteFault) (s : Result WrittenSummary WriteFault) (UsedUp : Type 0) (old new : Reader) → Answers r s → IsCausedBy r UsedUp old new → IsCausedBy s UsedUp old new
still_caused (Ok x) (Ok summary) UsedUp old new a c = c
still_caused (Ok x) (Err f) UsedUp old new (inl ok) c = absurd (cc ok)
still_caused (Ok x) (Err f) UsedUp old new (inr (inl is)) c = subst (λ (s : Result WrittenSummary WriteFault). IsCausedBy s UsedUp old new) (sym is) tt
still_caused (Ok x) (Err f) UsedUp old new (inr (inr is)) c = subst (λ (s : Result WrittenSummary WriteFault). IsCausedBy s UsedUp old new) (sym is) tt
still_caused (Err refusal.Write) s UsedUp old new is c = subst (λ (s : Result WrittenSummary WriteFault). IsCausedBy s UsedUp old new) (sym is) tt
still_caused (Err (refusal.Line n x)) s UsedUp old new (inl is) c = subst (λ (s : Result WrittenSummary WriteFault). IsCausedBy s UsedUp old new) (sym is) c
still_caused (Err (refusal.Line n x)) s UsedUp old new (inr (inl is)) c = subst (λ (s : Result WrittenSummary WriteFault). IsCausedBy s UsedUp old new) (sym is) tt
still_caused (Err (refusal.Line n x)) s UsedUp old new (inr (inr is)) c = subst (λ (s : Result WrittenSummary WriteFault). IsCausedBy s UsedUp old new) (sym is) tt
still_caused (Err (refusal.Message n template x)) s UsedUp old new (inl is) c = subst (λ (s : Result WrittenSummary WriteFault). IsCausedBy s UsedUp old new) (sym is) c
still_caused (Err (refusal.Message n template x)) s UsedUp old new (inr (inl is)) c = subst (λ (s : Result WrittenSummary WriteFault). IsCausedBy s UsedUp old new) (sym is) tt
still_caused (Err (refusal.Message n template x)) s UsedUp old new (inr (inr is)) c = subst (λ (s : Result WrittenSummary WriteFault). IsCausedBy s UsedUp old new) (sym is) tt
still_caused (Err refusal.Read) s UsedUp old new (inl is) c = subst (λ (s : Result WrittenSummary WriteFault). IsCausedBy s UsedUp old new) (sym is) c
still_caused (Err refusal.Read) s UsedUp old new (inr (inl is)) c = subst (λ (s : Result WrittenSummary WriteFault). IsCausedBy s UsedUp old new) (sym is) tt
still_caused (Err refusal.Read) s UsedUp old new (inr (inr is)) c = subst (λ (s : Result WrittenSummary WriteFault). IsCausedBy s UsedUp old new) (sym is) tt
still_caused (Err refusal.Turns) s UsedUp old new (inl is) c = subst (λ (s : Result WrittenSummary WriteFault). IsCausedBy s UsedUp old new) (sym is) c
still_caused (Err refusal.Turns) s UsedUp old new (inr (inl is)) c = subst (λ (s : Result WrittenSummary WriteFault). IsCausedBy s UsedUp old new) (sym is) tt
still_caused (Err refusal.Turns) s UsedUp old new (inr (inr is)) c = subst (λ (s : Result WrittenSummary WriteFault). IsCausedBy s UsedUp old new) (sym is) tt
still_caused (Err refusal.Memory) s UsedUp old new (inl is) c = subst (λ (s : Result WrittenSummary WriteFault). IsCausedBy s UsedUp old new) (sym is) c
still_caused (Err refusal.Memory) s UsedUp old new (inr (inl is)) c = subst (λ (s : Result WrittenSummary WriteFault). IsCausedBy s UsedUp old new) (sym is) tt
still_caused (Err refusal.Memory) s UsedUp old new (inr (inr is)) c = subst (λ (s : Result WrittenSummary WriteFault). IsCausedBy s UsedUp old new) (sym is) tt

-- a read that gave nothing
pub more_none : (a b c : Reader) (k : ℕ) (got : List ℕ) → Reads a b k got → Reads b c 1 [] → Reads a c (k + 1) got
more_none a b c k got r one = subst (Reads a c (k + 1)) (append-nil got) (more_read a b c k got [] r one)

-- a write behind what was read failed
pub write_stops : {h : Here} {old new : Option (List ℕ)} {input : List ℕ} → GoesOn h old new input → (k : Here) (left newer : Option (List ℕ)) (f : WriteFault) → Hands h k new newer (Err f) → Stops k left old newer input f
write_stops {h = h} {old = old} {input = input} g k left newer f w = rw (w.0) (record {
  lines = g.lines;
  rest = lines_of h.begun;
  cut = all_cut g.is_cut;
  breaks = breaks_still (record { form = sym w.1.form; set = sym w.1.set; numbered = sym w.1.numbered }) (breaks g.stands newer w.2 w.3);
})
