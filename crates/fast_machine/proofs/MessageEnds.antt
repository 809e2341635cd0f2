-- Where a message has ended: the bytes behind it are left out, and they are bytes of the last chunk.
use Rattle.fast_machine.proofs.Common.{◌≡◌, ◌≤◌, ◌<◌, ◌+◌, ℕ, zero, suc, ◌-◌, length, take, drop, length-append, length-drop, take-append-drop, arith, List, [], ◌∷◌, ◌++◌, refl, sym, ap, subst, ◌∙◌, append_assoc, append-nil, inl, inr, cases_lt, append_cancel_right, drop-drop, drop_at, take-append-le, take_at, AllByRecursion, Resolved, HaveTypedParts, TemplateList, templates_in, Dictionary, Framing, Plain, Blocks, Mode, Stand, at_start, Opens, CarriesFrom, Content, MessageStop, IsNextReader, Stage, Traversal, Reading, begun_at, begun_of, Having, ReadsOn, Standing, Unfinished, Waits, GoesIn, Stands, framed_as, message_reader, fits_take, next_reader}
use Rattle.fast_stream.specs.Modes.{GoesOn, NextStops, StreamReading, messages_at}
use Rattle.fast_stream.proofs.ModeStreams.{continues, stops_reading}
use Rattle.fast_machine.proofs.Followings.{held_within}
use Rattle.fast_machine.proofs.Runs.{all_unread, unfinished_between}

-- ---- the bytes behind a message are left out

module _ {R : Type 0} (has : Having R) (stands keeps : Standing R) (t : Traversal) (r : R) (d : Dictionary) (before : List Content) (at : t.stage ≡ Stage.Map) where
  abbrev G : Dictionary → (List ℕ → Reading) → Type 0
  G = ReadsOn has stands keeps t r d before

  -- the next message, of which nothing has come
  next_of_none : (unread : List ℕ) (start : Dictionary) (rest : List ℕ) → Unfinished G t unread start rest → Unfinished G t [] start []
  next_of_none unread start rest u =
      let c = rw (at) at u.goes in
      unfinished_between has stands keeps t r d before [] start [] at c.stands c.start_is refl tt

  -- the rest of a stream without the bytes that are unread
  record Shorter (framing : Framing) (left : ℕ) (unread : List ℕ) (s : Stand) (rest : List ℕ) : Type 0 where
    back : List ℕ
    parts : rest ≡ back ++ unread
    goes : GoesIn framing left G t [] s back

  shorter : (framing : Framing) (left : ℕ) (unread : List ℕ) (s : Stand) (rest : List ℕ) → GoesIn framing left G t unread s rest → Shorter framing left unread s rest
  unfolding next_of_none unfinished_between
  shorter Plain left unread s rest h = record { back = []; parts = all_unread h.0 at; goes = (next_of_none unread s.dictionary rest h.0, h.1, h.2) }
  shorter Blocks left unread s rest (inl b) = record {
    back = [];
    parts = b.same;
    goes = inl (record { none = b.none; outside = b.outside; stage = at; same = refl; fits = tt; next = b.next });
  }
  shorter Blocks zero unread s rest (inr i) = let some = i.some in absurd (omega (arith, some))
  shorter Blocks (suc left) unread s rest (inr i) =
      let parts : rest ≡ i.size ++ unread = i.parts ∙ ap (λ (xs : List ℕ). i.size ++ (xs ++ unread)) (i.next.between at) in
      record {
        back = i.size;
        parts = parts;
        goes = inr (record {
          some = i.some;
          size = i.size;
          within = [];
          next = next_of_none (take (suc left) unread) s.dictionary i.within i.next;
          opens = subst (λ (xs : List ℕ). Opens t.level s.left i.size (length xs + suc left)) (i.next.between at) i.opens;
          parts = sym (append-nil i.size);
          fits = rw (← take_at i.size unread (length i.size) refl) (fits_take (length i.size) (i.size ++ unread) (rw (parts) at i.fits));
        });
      }

  pub ends_here : (framing : Framing) (left : ℕ) (unread fed : List ℕ) (messages : List Content) → Stands framing left G t unread (fed ++ unread) messages → Stands framing left G t [] fed messages
  ends_here framing left unread fed messages s =
      let short = shorter framing left unread s.start s.rest s.ends in
      record {
        front = s.front;
        rest = short.back;
        start = s.start;
        parts = append_cancel_right fed (s.front ++ short.back) unread (s.parts ∙ ap (λ (xs : List ℕ). s.front ++ xs) short.parts ∙ sym (append_assoc s.front short.back unread));
        carried = s.carried;
        ends = short.goes;
      }

-- ---- a message ends behind the bytes that were held

module _ (mode : Mode) (set : List Resolved) (is : IsNextReader mode set) where
  -- a list that begins with each of two
  begins_with : (xs ys zs ws : List ℕ) → xs ++ ys ≡ zs ++ ws → length xs ≤ length zs → zs ≡ xs ++ drop (length xs) zs
  begins_with xs ys zs ws h few =
      let front : take (length xs) zs ≡ xs = sym (take-append-le (length xs) zs ws few) ∙ ap (take (length xs)) (sym h) ∙ take_at xs ys (length xs) refl in
      sym (take-append-drop (length xs) zs) ∙ ap (λ (l : List ℕ). l ++ drop (length xs) zs) front

  -- where the next message stops behind these, that message ends behind the bytes in which it stopped
  ends_beyond : (ms more : List Content) (m : Content) (s : Stand) (front rest : List ℕ) (stand : Stand) (stop : MessageStop) (whole back : List ℕ) (after : Stand) (chunk : List ℕ)
      → CarriesFrom mode set s front ms stand → GoesOn stand rest → NextStops mode set stand rest stop → CarriesFrom mode set s whole (ms ++ m ∷ more) after
      → whole ++ back ≡ (front ++ rest) ++ chunk → length (front ++ rest) < length whole
  ends_beyond ms more m s front rest stand stop whole back after chunk h goes e k same =
      elim (cases_lt (length (front ++ rest)) (length whole)) [ inl less ↦ less | inr few ↦ absurd (too_few few) ]
    where
      too_few : length whole ≤ length (front ++ rest) → ⊥
      too_few few =
          let behind = drop (length whole) (front ++ rest) in
          let parts = begins_with whole back (front ++ rest) chunk same few in
          let n = suc (length (front ++ rest)) in
          let a = continues mode set is ms n s stand front rest h (omega arith) in
          let b = continues mode set is (ms ++ m ∷ more) n s after whole behind k (rw (← parts) (omega arith)) in
          let none = ap (λ (r : StreamReading). length (r.messages)) (stops_reading mode set is a.left stand rest stop a.enough goes e) in
          let read = ap (λ (r : StreamReading). length (r.messages)) (sym a.reads ∙ ap (messages_at mode n set s) parts ∙ b.reads) in
          omega (arith, none, read, length-append {A = Content})

-- the place behind a message that has ended is behind the bytes that were held
pub behind_held : (framing : Framing) (left after : ℕ) (H : Dictionary → (List ℕ → Reading) → Type 0) (t u : Traversal) (held : List ℕ) (waiting next : ℕ) (fed chunk : List ℕ) (messages ended : List Content)
    → AllByRecursion (λ r. HaveTypedParts r.members) (templates_in t.set.now) → framed_as framing u ≡ framed_as framing t → u.set.now ≡ t.set.now
    → Waits framing left t held waiting fed messages → Stands framing after H u (drop next (held ++ chunk)) (fed ++ chunk) (messages ++ ended)
    → (ended ≡ [] → next ≡ length (held ++ chunk)) → (begun_of t ≡ 0 → 0 < next) → next ≤ length (held ++ chunk) → 0 < length chunk → length held < next
behind_held framing left after H t u held waiting next fed chunk messages [] typed alike set waits stands all took place some =
    omega (arith, length-append {A = ℕ}, all refl, some)
behind_held framing left after H t u held waiting next fed chunk messages (m ∷ more) typed alike set (inl between) stands all took place some =
    omega (arith, ap (λ (xs : List ℕ). length xs) between.1, took (ap begun_at between.0))
behind_held framing left after H t u held waiting next fed chunk messages (m ∷ more) typed alike set (inr stops) stands all took place some =
    let mode = framed_as framing t in
    let sets = templates_in t.set.now in
    let same : templates_in u.set.now ≡ sets = ap (λ (x : TemplateList). templates_in x) set in
    let carried : CarriesFrom mode sets at_start stands.front (messages ++ m ∷ more) stands.start = subst (λ (x : Mode). CarriesFrom x sets at_start stands.front (messages ++ m ∷ more) stands.start) alike (subst (λ (x : List Resolved). CarriesFrom (framed_as framing u) x at_start stands.front (messages ++ m ∷ more) stands.start) same stands.carried) in
    let reader = next_reader mode sets (message_reader mode.level sets typed) in
    let less = ends_beyond mode sets reader messages more m at_start stops.front stops.rest stops.start _ stands.front stands.rest stands.start chunk stops.carried stops.ends.0
    (reader.stops stops.start stops.rest _ stops.ends.1 stops.ends.2) carried (sym stands.parts ∙ ap (λ (xs : List ℕ). xs ++ chunk) stops.parts) in
    let within = held_within framing after H u (drop next (held ++ chunk)) stands.start stands.rest stands.ends in
    let fed_size = ap (λ (xs : List ℕ). length xs) stops.parts in
    omega (arith, less, within, ap (λ (xs : List ℕ). length xs) stands.parts ∙ length-append stands.front stands.rest, fed_size, length-append {A = ℕ}, length-drop {A = ℕ}, place)

-- the bytes behind those that were held
pub drop_behind : (held chunk : List ℕ) (next : ℕ) → length held ≤ next → drop next (held ++ chunk) ≡ drop (next - length held) chunk
drop_behind held chunk next few =
    let all : next ≡ length held + (next - length held) = omega (arith, few) in
    ap (λ (n : ℕ). drop n (held ++ chunk)) all ∙ sym (drop-drop (next - length held) (length held) (held ++ chunk)) ∙ ap (drop (next - length held)) (drop_at held chunk (length held) refl)
