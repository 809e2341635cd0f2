-- How a machine stands in its stream behind more messages, in each framing.
use Rattle.fast_machine.proofs.Common.{◌≡◌, ◌≤◌, ◌<◌, ℕ, zero, suc, ◌+◌, ◌-◌, length, take, drop, length-take, arith, List, [], ◌∷◌, ◌++◌, Ok, Err, refl, sym, ap, subst, ◌∙◌, append_assoc, append-nil, ◌⊎◌, inl, inr, rules, take-append-drop, IsBytes, drop-append-le, drop-take, take_all, Level, Usual, Strict, templates_in, Dictionary, Stage, Traversal, Reading, Cause, Truncated, Framing, Plain, Blocks, Content, Stand, at_start, IsSize, Opens, size_at, in_block_at, GoesOn, carries_on, fits_take, size_found, size_stop, stops_in_size, size_alone, Having, ReadsOn, RunStands, Standing, Unfinished, Behind, BetweenBlocks, GoesIn, Onward, Stands, StopsBehind, framed_as}
use Rattle.fast_machine.proofs.Runs.{ends_with, unfinished_between}
use Rattle.std.specs.FinMap as finite

-- at the beginning of a stream
pub stands_first : {R : Type 0} (has : Having R) (stands keeps : Standing R) (framing : Framing) (t : Traversal) (r : R) (d : Dictionary) (before : List Content) → t.stage ≡ Stage.Map → stands r (templates_in t.set.now) before d → d ≡ finite.empty
    → Stands framing 0 (ReadsOn has stands keeps t r d before) t [] [] []
stands_first has stands keeps framing t r d before at h is = record { front = []; rest = []; start = at_start; parts = refl; carried = (refl, refl); ends = of_framing framing }
  where
    next : Unfinished (ReadsOn has stands keeps t r d before) t [] finite.empty []
    next = unfinished_between has stands keeps t r d before [] finite.empty [] at h (sym is) refl tt

    of_framing : (f : Framing) → GoesIn f 0 (ReadsOn has stands keeps t r d before) t [] at_start []
    of_framing Plain = (next, refl, refl)
    of_framing Blocks = inl (record { none = refl; outside = refl; stage = at; same = refl; fits = tt; next = next })

-- ---- more messages

pub go_on : {Ends Later : Stand → List ℕ → Type 0} (framing : Framing) (t u : Traversal) {bytes : List ℕ} {messages more : List Content} (b : Behind (framed_as framing t) (templates_in t.set.now) bytes messages Ends) → u.level ≡ t.level → u.set.now ≡ t.set.now
    → Onward (framed_as framing u) (templates_in u.set.now) b.start b.rest more Later → Behind (framed_as framing u) (templates_in u.set.now) bytes (messages ++ more) Later
go_on framing t u {messages = messages} {more = more} b level set o = record {
  front = b.front ++ o.front;
  rest = o.rest;
  start = o.start;
  parts = b.parts ∙ ap (λ (xs : List ℕ). b.front ++ xs) o.parts ∙ sym (append_assoc b.front o.front o.rest);
  carried = carries_on (framed_as framing u) (templates_in u.set.now) messages more at_start b.start o.start b.front o.front (rw (level, set) b.carried) o.carried;
  ends = o.ends;
}

pub run_from : {G : Dictionary → (List ℕ → Reading) → Type 0} {t : Traversal} {unread : List ℕ} {d : Dictionary} {rest : List ℕ} → Unfinished G t unread d rest → RunStands G t unread d rest []
run_from {d = d} {rest = rest} u = record { front = []; rest = rest; start = d; parts = refl; carried = (refl, refl); ends = u }

-- ---- what has come of a block

pub window_drop : (left p : ℕ) (xs : List ℕ) → p ≤ length (take left xs) → drop p xs ≡ drop p (take left xs) ++ drop left xs
window_drop left p xs few = ap (drop p) (sym (take-append-drop left xs)) ∙ drop-append-le p (take left xs) (drop left xs) few

pub window_take : (left p : ℕ) (xs : List ℕ) → p ≤ length (take left xs) → take (left - p) (drop p xs) ≡ drop p (take left xs)
window_take left p xs few =
    let all : left ≡ p + (left - p) = omega (arith, few, length-take {A = ℕ}) in
    sym (drop-take p (left - p) xs) ∙ ap (λ (n : ℕ). drop p (take n xs)) (sym all)

pub window_append : (left : ℕ) (xs ys : List ℕ) → take left (xs ++ ys) ≡ take left xs ++ take (left - length xs) ys
window_append left [] ys = search (rules, take_all)
window_append zero (x ∷ xs) ys = search rules
window_append (suc left) (x ∷ xs) ys =
    let same : suc left - length (x ∷ xs) ≡ left - length xs = omega arith in
    ap (λ (zs : List ℕ). x ∷ zs) (window_append left xs ys) ∙ ap (λ (n : ℕ). x ∷ (take left xs ++ take n ys)) (sym same)

-- The rest of a stream, with a block open: what is taken of the next message, and of the unread bytes those that belong to
-- the block.
pub record Window (level : Level) (left : ℕ) (unread within : List ℕ) (s : Stand) (rest : List ℕ) : Type 0 where
  pub some : 0 < left
  pub size : List ℕ
  pub taken : List ℕ
  pub opens : Opens level s.left size (length taken + left)
  pub parts : rest ≡ size ++ (taken ++ unread)
  pub within_is : within ≡ taken ++ take left unread
  pub fits : IsBytes rest

-- a block that is open, or opened by a size
pub record Opening (G : Dictionary → (List ℕ → Reading) → Type 0) (t : Traversal) (left : ℕ) (unread : List ℕ) (s : Stand) (rest : List ℕ) : Type 0 where
  pub within : List ℕ
  pub window : Window t.level left unread within s rest
  pub next : Unfinished G t (take left unread) s.dictionary within

pub opened : {G : Dictionary → (List ℕ → Reading) → Type 0} {t : Traversal} {left : ℕ} (room : ℕ) {unread : List ℕ} (later : List ℕ) (s : Stand) (rest : List ℕ) → GoesIn Blocks left G t unread s rest
    → (0 < left → (room ≡ left) × (later ≡ unread)) → (left ≡ 0 → size_at t.level unread ≡ Ok (room, later)) → 0 < room → Opening G t room later s rest
opened room later s rest (inr i) same size some =
    let e = same i.some in
    record {
      within = i.within;
      window = record { some = some; size = i.size; taken = i.next.taken; opens = rw (e.0) i.opens; parts = rw (e.1) i.parts; within_is = rw (e.0, e.1) i.next.whole; fits = i.fits };
      next = rw (e.0, e.1) i.next;
    }
opened {t = t} room {unread = unread} later s rest (inl b) same size some =
    let o = size_found t.level unread room later (subst (λ (xs : List ℕ). IsBytes xs) b.same b.fits) (size b.none) in
    record {
      within = take room later;
      window = record { some = some; size = o.size; taken = []; opens = let none : room ≡ 0 + room = omega arith in subst (λ (n : ℕ). Opens t.level s.left o.size n) none (subst (λ (n : ℕ). Opens t.level n o.size room) (sym b.outside) o.opens); parts = b.same ∙ o.parts; within_is = refl; fits = b.fits };
      next = record { read = b.next.read; goes = b.next.goes; fits = fits_take room later o.fits; reads = λ more. b.next.reads (take room later ++ more); taken = []; whole = refl; between = λ k. refl; some = λ other. absurd (other b.stage) };
    }

-- ---- a size that stops, or that is alone

pub outside_of : {G : Dictionary → (List ℕ → Reading) → Type 0} {t : Traversal} {left : ℕ} {unread : List ℕ} {s : Stand} {rest : List ℕ} → left ≡ 0 → GoesIn Blocks left G t unread s rest → BetweenBlocks G left t unread s rest
outside_of none (inl b) = b
outside_of none (inr i) = let some = i.some in absurd (omega (arith, some, none))

pub size_stops : {G : Dictionary → (List ℕ → Reading) → Type 0} {t : Traversal} {left : ℕ} {unread bytes : List ℕ} {messages : List Content} (c : Cause) → left ≡ 0 → (t.stage ≡ Stage.Map → 0 < length unread) → size_at t.level unread ≡ Err c
    → Stands Blocks left G t unread bytes messages → StopsBehind (framed_as Blocks t) (templates_in t.set.now) bytes messages (size_stop unread c)
size_stops {t = t} {unread = unread} c none some stops h =
    ends_with h (λ s rest g. let b = outside_of none g in rw (b.same) (inl (some b.stage), rw (b.same) at b.fits, stops_in_size t.level (templates_in t.set.now) s unread c b.outside stops))

entity_goes : (level : Level) (left room : ℕ) (size : List ℕ) → Opens level left size room → (0 < length size) ⊎ (0 < left)
entity_goes level (suc left) room size h = inr (omega arith)
entity_goes level zero room (x ∷ size) h = inl (omega arith)
entity_goes level zero room [] h = absurd (no_entity level h.0)
  where
    no_entity : (l : Level) → IsSize l [] room → ⊥
    no_entity Usual e = absurd e.entity
    no_entity Strict e = absurd e.1.entity

-- a block that is open, and of whose next message nothing has come
pub size_waits : {G : Dictionary → (List ℕ → Reading) → Type 0} {t : Traversal} (left : ℕ) {bytes : List ℕ} {messages : List Content} → t.stage ≡ Stage.Map → 0 < left → Stands Blocks left G t [] bytes messages
    → StopsBehind (framed_as Blocks t) (templates_in t.set.now) bytes messages (size_stop [] Truncated)
size_waits {G = G} {t = t} left at some h = ends_with h of_rest
  where
    of_rest : (s : Stand) (rest : List ℕ) → GoesIn Blocks left G t [] s rest → GoesOn s rest × IsBytes rest × (in_block_at t.level (templates_in t.set.now) s rest ≡ Err (size_stop [] Truncated))
    of_rest s rest (inl b) = let none = b.none in absurd (omega (arith, some, none))
    of_rest s rest (inr i) =
        let room = length i.next.taken + left in
        let alone : rest ≡ i.size = i.parts ∙ ap (λ (xs : List ℕ). i.size ++ (xs ++ [])) (i.next.between at) ∙ append-nil i.size in
        rw (alone) (entity_goes t.level s.left room i.size i.opens, rw (alone) at i.fits, size_alone t.level (templates_in t.set.now) s room i.size i.opens)
