-- What comes of a packet, put together.
use Rattle.std.proofs.Common.{Bool, true, false, List, ℕ, [], ◌∷◌, ◌++◌, ◌≡◌, ◌⊎◌, inl, inr, Option, Some, refl, ap, sym, subst, ◌∙◌, append-nil, length, zero-add}
use Rattle.std.specs.Io.KnownBytes.{Appends}
use Rattle.fast_io.specs.Counts.{counted_by}
use Rattle.fast_io.proofs.Outputs.{Appends-trans}
use Rattle.fast_template.specs.Resolved.{Resolved}
use Rattle.fast_template.specs.TemplateSets.{templates_in}
use Rattle.fast_dictionary.specs.declared.entries.Entries.{Ghosts}
use Rattle.fast_stream.specs.Nodes.{Content}
use Rattle.fast_stream.specs.Modes.{plainly}
use Rattle.fast_stream.specs.declared.mode.Framing.TheVariants.{Plain}
use Rattle.fast_stream.specs.declared.mode.Mode.{Mode}
use Rattle.fast_walk.specs.declared.receiver.Receiver.{Ghosts as Receiving}
use Rattle.fast_machine.specs.Calls.{IsSameStream}
use Rattle.fast_machine.specs.Standing.{Carried}
use Rattle.fast_machine.specs.declared.machine.Machine.{Machine}
use Rattle.fast_machine.specs.declared.reached.Reached.{Reached}
use Rattle.fast_pass.specs.Relays.{Making, Step, Way, outset}
use Rattle.fast_stream.specs.Blocks.{at_start}
use Rattle.fast_recording.specs.Handing.{BreakInLines, WritesFront}
use Rattle.fast_recording.specs.Made.{Leads, MadeBefore, MadePacket}
use Rattle.fast_recording.specs.PacketLines.{IsBegun, Writes, lines_of, written_by}
use Rattle.fast_recording.specs.Packets.{FrontInLines, kept_of}
use Rattle.fast_recording.specs.declared.packet_lines.PacketLines.{PacketLines}
use Rattle.fast_recording.proofs.Labels.{part_of_more, part_on}
use Rattle.fast_recording.proofs.Machines.{plain_mode}

module _ (makes : Making) (set : List Resolved) (ms : List Content) where
  -- what was handed on before, and then what waited behind its size
  pub made_packet : (sized : Bool) (more size waits : List ℕ) → (sized ≡ true → more ≡ []) → Leads sized size waits → makes set ms (more ++ waits) → MadePacket sized makes set ms (more ++ (size ++ waits))
  made_packet true more size waits none leads made = let e = none refl in rw (e) (record { size = size; out = waits; parts = refl; leads = leads; made = rw (e) at made })
  made_packet false more size waits none leads made = rw (leads) (record { size = []; out = more ++ waits; parts = refl; leads = refl; made = made })

  -- of a refused packet
  pub made_before : (sized : Bool) (more waits : List ℕ) → (sized ≡ true → more ≡ []) → makes set ms (more ++ waits) → MadeBefore sized makes set ms (more ++ kept_of sized waits)
  made_before true more waits none made = rw (none refl) refl
  made_before false more waits none made = made

  -- only what was handed on before is written
  pub front_before : {x y : PacketLines} {t u : Option (List ℕ)} (sized : Bool) (more waits : List ℕ) → (sized ≡ true → more ≡ []) → makes set ms (more ++ waits) → Writes x y t u more → FrontInLines (written_by x) sized makes set ms (written_by x more)
  front_before {x = x} true more waits none made w = inl (ap (written_by x) (none refl))
  front_before {y = y} false more waits none made w = inr (more ++ waits, written_by y waits, record { size = []; out = more ++ waits; parts = refl; leads = refl; made = made }, sym (w.leads_on waits))

  -- and a front of the rest
  front_behind : {x y : PacketLines} {t u v : Option (List ℕ)} (sized : Bool) (more size waits : List ℕ) → (sized ≡ true → more ≡ []) → Leads sized size waits → makes set ms (more ++ waits) → Writes x y t u more → WritesFront y u v (size ++ waits)
      → (out : List ℕ) × Appends t v out × FrontInLines (written_by x) sized makes set ms out
  front_behind sized more size waits none leads made w front =
      let all = part_on (size ++ waits) w front in
      (all.1.front, all.1.appended, inr (more ++ (size ++ waits), all.0, made_packet sized more size waits none leads made, sym all.1.parts))

  -- where a write failed or memory was refused
  pub puts_front : {x y : PacketLines} (t u v : Option (List ℕ)) (sized : Bool) (more waits : List ℕ) → (sized ≡ true → more ≡ []) → makes set ms (more ++ waits)
      → Writes x y t u more → Appends u v [] ⊎ ((size : List ℕ) × Leads sized size waits × WritesFront y u v (size ++ waits)) → (out : List ℕ) × Appends t v out × FrontInLines (written_by x) sized makes set ms out
  puts_front {x = x} t u v sized more waits none made w (inl nothing) = (written_by x more, rw (append-nil (written_by x more)) at (Appends-trans _ _ _ (written_by x more) [] w.written nothing), front_before sized more waits none made w)
  puts_front t u v sized more waits none made w (inr h) = front_behind sized more h.0 waits none h.1 made w h.2

  pub leaves_front : {x y : PacketLines} (t u v : Option (List ℕ)) (sized : Bool) (more waits : List ℕ) → (sized ≡ true → more ≡ []) → makes set ms (more ++ waits)
      → Writes x y t u more → Appends u v [] ⊎ ((sized ≡ false) × WritesFront y u v waits) → (out : List ℕ) × Appends t v out × FrontInLines (written_by x) sized makes set ms out
  leaves_front {x = x} t u v sized more waits none made w (inl nothing) = (written_by x more, rw (append-nil (written_by x more)) at (Appends-trans _ _ _ (written_by x more) [] w.written nothing), front_before sized more waits none made w)
  leaves_front t u v sized more waits none made w (inr h) = front_behind sized more [] waits none (rw (h.0) refl) made w h.1

-- a front of nothing is nothing
front_of_none : (front rest : List ℕ) → [] ≡ front ++ rest → front ≡ []
front_of_none [] rest parts = refl
front_of_none (b ∷ front) rest parts = absurd cc

-- where reading broke off
broken_front : (x : PacketLines) {t u : Option (List ℕ)} (makes : Making) (set : List Resolved) (ms : List Content) (sized : Bool) (handed rest : List ℕ) → (sized ≡ true → handed ≡ []) → makes set ms (handed ++ rest) → WritesFront x t u handed
    → (out : List ℕ) × Appends t u out × FrontInLines (written_by x) sized makes set ms out
broken_front x makes set ms true handed rest none made front =
    let parts = ap (written_by x) (sym (none refl)) ∙ front.1.parts in
    (front.1.front, front.1.appended, inl (front_of_none front.1.front front.0 parts))
broken_front x makes set ms false handed rest none made front =
    let all = part_of_more x _ _ handed rest front in
    (all.1.front, all.1.appended, inr (handed ++ rest, all.0, record { size = []; out = handed ++ rest; parts = refl; leads = refl; made = made }, sym all.1.parts))

pub broke_off : {O E : Type 0} {receiver : Receiving O} {entries : Ghosts E} (x : PacketLines) (makes : Making) (old new : Machine O E receiver entries) → IsSameStream old new → old.framing ≡ Plain → (sized : Bool) {t u : Option (List ℕ)} {bytes : List ℕ}
    → (b : BreakInLines makes x new t u outset bytes) → (sized ≡ true → b.0 ≡ [])
    → (ms : List Content) × (out : List ℕ) × Appends t u out × Carried (plainly old.traversal.level) (templates_in old.traversal.set.now) bytes ms × FrontInLines (written_by x) sized makes (templates_in old.traversal.set.now) ms out
broke_off x makes old new same plain sized {bytes = bytes} b none =
    let mode = same.mode ∙ plain_mode old plain in
    let set_is : templates_in new.traversal.set.now ≡ templates_in old.traversal.set.now = ap (λ x. templates_in x.now) same.set in
    let carried = subst (λ (m : Mode). Carried m (templates_in new.traversal.set.now) bytes b.1.ended) mode b.1.carried in
    let made = subst (λ (xs : List ℕ). makes (templates_in new.traversal.set.now) b.1.ended (xs ++ b.1.rest)) (sym b.1.written) b.1.made in
    let front = broken_front x makes (templates_in new.traversal.set.now) b.1.ended sized b.0 b.1.rest none made b.2 in (
      b.1.ended,
      front.0,
      front.1,
      subst (λ (ts : List Resolved). Carried (plainly old.traversal.level) ts bytes b.1.ended) set_is carried,
      subst (λ (ts : List Resolved). FrontInLines (written_by x) sized makes ts b.1.ended front.0) set_is front.2,
    )

-- ---- lines that were begun

-- the same front, by another name for the lines
pub front_as : (f g : List ℕ → List ℕ) → ((text : List ℕ) → f text ≡ g text) → (sized : Bool) (makes : Making) (set : List Resolved) (ms : List Content) (out : List ℕ) → FrontInLines f sized makes set ms out → FrontInLines g sized makes set ms out
front_as f g same sized makes set ms out (inl none) = inl none
front_as f g same sized makes set ms out (inr h) = inr (h.0, h.1, h.2, h.3 ∙ same h.0)

-- nothing is read yet
pub none_carried : (mode : Mode) (set : List Resolved) (bytes : List ℕ) → Carried mode set bytes []
none_carried mode set bytes = record { front = []; rest = bytes; start = at_start; parts = refl; carried = (refl, refl); ends = tt }

-- ---- a step of which what is handed on is written

pub written_more : {O E : Type 0} {receiver : Receiving O} {entries : Ghosts E} {waiting : O → List ℕ} {makes : Making} {at : Reached} {m : Machine O E receiver entries} {turns : ℕ} {left : Option (List ℕ)} {size : ℕ} {way : Way} {got handed : List ℕ} {B : Type 0} {x y : PacketLines} {t u : Option (List ℕ)}
    → (s : Step waiting makes at m turns left (Some []) (Some handed) size way got B) → Writes x y t u handed → Writes x y t u s.more
written_more {x = x} {y = y} {t = t} {u = u} s w = subst (λ (xs : List ℕ). Writes x y t u xs) s.written w

pub none_more : {O E : Type 0} {receiver : Receiving O} {entries : Ghosts E} {waiting : O → List ℕ} {makes : Making} {at : Reached} {m : Machine O E receiver entries} {turns : ℕ} {left : Option (List ℕ)} {size : ℕ} {way : Way} {got handed : List ℕ} {B : Type 0} {sized : Bool}
    → (s : Step waiting makes at m turns left (Some []) (Some handed) size way got B) → (sized ≡ true → handed ≡ []) → sized ≡ true → s.more ≡ []
none_more s none sized = sym s.written ∙ none sized

-- of lines that were begun
pub begun_written : (number : Option ℕ) {x y : PacketLines} {t u : Option (List ℕ)} {text : List ℕ} → IsBegun number x → Writes x y t u text → Appends t u (lines_of number text)
begun_written number {t = t} {u = u} {text = text} begun w = subst (λ (xs : List ℕ). Appends t u xs) (begun text) w.written

pub begun_counted : (number : Option ℕ) {x y : PacketLines} {t u : Option (List ℕ)} {text : List ℕ} → IsBegun number x → x.written ≡ 0 → Writes x y t u text → y.written ≡ counted_by 0 (length (lines_of number text))
begun_counted number {x = x} {text = text} begun none w =
    let counts : x.written ≡ counted_by 0 0 = none in
    w.counted 0 counts ∙ ap (counted_by 0) (zero-add (length (written_by x text))) ∙ ap (λ (xs : List ℕ). counted_by 0 (length xs)) (begun text)
