-- What a read of messages in what has come of a block leaves.
use Rattle.fast_machine.proofs.Common.{min, ◌≡◌, ◌≤◌, ◌<◌, ◌^◌, ℕ, ◌+◌, ◌-◌, length, take, drop, length-append, length-drop, length-take, arith, List, [], ◌++◌, Bool, true, false, Option, Some, None, Ok, Err, sym, ap, refl, subst, ◌∙◌, ◌⊎◌, inl, inr, append_assoc, IfSome, nat_le, cases_lt, drop-drop, drop_all, drop_at, take_all, IsBytes, Level, Resolved, templates_in, Dictionary, Ghosts, Halt, Stage, Traversal, Reading, stop_of, Cause, Truncated, BlockEnd, Framing, Blocks, Content, message_at, Opens, Stand, block_cause, size_at, drop_front, fits_drop, other_cause, take_front, InWindow, in_window, stops_in_window, Machine, Progress, LeavesMessage, StandsAt, Counts, Forgets, ReadsOn, ReadsRun, Run, RunStands, Unfinished, Behind, Carried, HasAll, Stands, StopsBehind, framed_as, want_of_bytes}
use Rattle.fast_walk.specs.declared.receiver.Receiver.{Ghosts as Receiving}
use Rattle.fast_machine.proofs.Calls.{Finds, Found, found_of}
use Rattle.fast_machine.proofs.Standings.{Opening, Window, go_on, opened, run_from, window_drop, window_take}
use Rattle.fast_machine.proofs.Followings.{forgets}
use Rattle.fast_machine.proofs.Runs.{carried_of, ends_with}

-- the bytes of a block among those that have come
window_is : (left at count : ℕ) (bytes : List ℕ) → at ≤ length bytes → count ≤ left → (count ≡ left) ⊎ (count ≡ length bytes - at) → take ((at + count) - at) (drop at bytes) ≡ take left (drop at bytes)
window_is left at count bytes place few (inl e) = let same : (at + count) - at ≡ left = omega (arith, e) in ap (λ (n : ℕ). take n (drop at bytes)) same
window_is left at count bytes place few (inr e) =
    take_all ((at + count) - at) (drop at bytes) (omega (arith, length-drop {A = ℕ}, e)) ∙ sym (take_all left (drop at bytes) (omega (arith, length-drop {A = ℕ}, e, few)))

-- no byte of a block that is open has come only where no byte is there
pub empty_window : (room at count : ℕ) (bytes : List ℕ) → 0 < room → at ≤ length bytes → count ≤ length bytes - at → (count ≡ room) ⊎ (count ≡ length bytes - at) → length (take ((at + count) - at) (drop at bytes)) ≡ 0 → at ≡ length bytes
empty_window room at count bytes some place few least none =
    elim least [ inl e ↦ absurd (omega (arith, length-take {A = ℕ}, length-drop {A = ℕ}, none, e, few, some)) | inr e ↦ omega (arith, length-take {A = ℕ}, length-drop {A = ℕ}, none, e, few, place) ]

pub open_stands : {G : Dictionary → (List ℕ → Reading) → Type 0} {t : Traversal} {level : Level} {left : ℕ} (room at : ℕ) {bytes fed : List ℕ} {messages : List Content} → level ≡ t.level
    → (0 < left → (room ≡ left) × (at ≡ 0)) → (left ≡ 0 → size_at level bytes ≡ Ok (room, drop at bytes)) → 0 < room
    → Stands Blocks left G t bytes fed messages → Behind (framed_as Blocks t) (templates_in t.set.now) fed messages (λ s rest. Opening G t room (drop at bytes) s rest)
open_stands room at {bytes = bytes} alike same size some h =
    ends_with h (λ s rest e. opened room (drop at bytes) s rest e (λ k. let e = same k in (e.0, ap (λ (n : ℕ). drop n bytes) e.1)) (λ k. rw (← alike) (size k)) some)

-- ---- messages that are read in what has come of a block, up to so many of the unread bytes

module _ {G : Dictionary → (List ℕ → Reading) → Type 0} {t : Traversal} (u : Traversal) {left : ℕ} (p : ℕ) {unread fed : List ℕ} {messages : List Content} (more : List Content)
    (b : Behind (framed_as Blocks t) (templates_in t.set.now) fed messages (λ s rest. Opening G t left unread s rest)) (few : p ≤ length (take left unread)) (level : u.level ≡ t.level) (set : u.set.now ≡ t.set.now) where
  abbrev sets : List Resolved
  sets = templates_in u.set.now

  w : Window u.level left unread b.ends.within b.start b.rest
  w = rw (level) b.ends.window

  abbrev room : ℕ
  room = length w.taken + left

  abbrev back : List ℕ
  back = w.taken ++ unread

  abbrev ahead : List ℕ
  ahead = drop p (take left unread)

  abbrev Ran : (Dictionary → List ℕ → Type 0) → Type 0
  Ran Ends = Run u.level sets b.start.dictionary b.ends.within more Ends

  window_of : {Ends : Dictionary → List ℕ → Type 0} (run : Ran Ends) → InWindow u.level sets b.start room w.size back run.front run.rest more run.start
  window_of run = in_window u.level sets more b.start run.start room w.size back run.front run.rest w.opens (take_front w.taken unread left ∙ sym w.within_is ∙ run.parts) run.carried

  onwards : {Ends : Dictionary → List ℕ → Type 0} (run : Ran Ends) {Later : Stand → List ℕ → Type 0} → Later (window_of run).stand ((window_of run).before ++ (run.rest ++ drop room back)) → Behind (framed_as Blocks u) sets fed (messages ++ more) Later
  onwards run ends =
      let iw = window_of run in
      go_on Blocks t u b level set (record { front = iw.read; rest = iw.before ++ (run.rest ++ drop room back); start = iw.stand; parts = w.parts ∙ iw.parts; carried = iw.carried; ends = ends })

  pub block_any : {Ends : Dictionary → List ℕ → Type 0} {Later : Dictionary → Type 0} → ((d : Dictionary) (r : List ℕ) → Ends d r → Later d) → Ran Ends → Behind (framed_as Blocks u) sets fed (messages ++ more) (λ s rest. Later s.dictionary)
  block_any {Later = Later} leaves run = onwards run (subst (λ (d : Dictionary). Later d) (sym (window_of run).dictionary_is) (leaves run.start run.rest run.ends))

  fits_behind : (read behind : List ℕ) → b.rest ≡ read ++ behind → IsBytes behind
  fits_behind read behind h = subst (λ (xs : List ℕ). IsBytes xs) (drop_at read behind (length read) refl) (fits_drop (length read) (read ++ behind) (subst (λ (xs : List ℕ). IsBytes xs) h w.fits))

  -- how long each part is
  sizes : (front behind : List ℕ) → b.ends.within ≡ front ++ behind → length front + length behind ≡ length w.taken + length (take left unread)
  sizes front behind h =
      omega (arith, ap (λ (xs : List ℕ). length xs) (sym w.within_is ∙ h), length-append {A = ℕ})

  -- ---- where a message stops

  -- what is behind the messages: so much less than is left of the block, or so much more
  ahead_sizes : (front behind : List ℕ) → b.ends.within ≡ front ++ behind → length (behind ++ drop room back) + left ≡ room - length front + length unread
  ahead_sizes front behind h =
      omega (arith, sizes front behind h, length-append {A = ℕ}, ap (λ (xs : List ℕ). length xs) (drop_front w.taken unread left) ∙ length-drop left unread, length-take {A = ℕ})

  -- at a cause as it is seen in all the bytes that are unread
  pub block_stops : (h : Halt) (cause : Cause) → (let all = nat_le (left - p) (length (drop p unread)) in block_cause all h.cause ≡ cause) → Ran (λ d r. (0 < length r) × IsBytes r × (message_at u.level sets d r ≡ Err (stop_of u.template h ahead)))
      → StopsBehind (framed_as Blocks u) sets fed (messages ++ more) (stop_of u.template (record h { cause = cause }) (drop p unread))
  block_stops h cause seen run =
      let iw = window_of run in
      let behind = run.rest ++ drop room back in
      let all = sizes run.front run.rest run.parts in
      let most = length-take left unread in
      let lengths = ahead_sizes run.front run.rest run.parts in
      let whole = ap (λ (xs : List ℕ). length xs) (window_drop left p unread few) ∙ length-append ahead (drop left unread) in
      let left_is : length ahead + (length behind - (room - length run.front)) ≡ length (drop p unread) = omega (arith, lengths, whole, length-drop {A = ℕ}) in
      let all_is : nat_le (room - length run.front) (length behind) ≡ nat_le (left - p) (length (drop p unread)) = grind (arith, lengths, length-drop p unread, few, most) in
      onwards run (
        inl (omega (arith, length-append {A = ℕ})),
        fits_behind iw.read (iw.before ++ behind) (w.parts ∙ iw.parts),
        stops_in_window u.level sets b.start room w.size back run.front run.rest more run.start (stop_of u.template h ahead) iw (omega (arith, all, most)) run.ends.2 ∙ rw (all_is, seen, left_is) refl,
      )

  -- ---- what the messages leave

  -- what is left of the block behind the messages
  room_left : (front behind taken : List ℕ) → b.ends.within ≡ front ++ behind → behind ≡ taken ++ ahead → room - length front ≡ length taken + (left - p)
  room_left front behind taken h k =
      omega (arith, sizes front behind h, ap (λ (xs : List ℕ). length xs) k ∙ length-append taken ahead, length-drop {A = ℕ}, length-take {A = ℕ}, few)

  behind_is : (behind taken : List ℕ) → behind ≡ taken ++ ahead → behind ++ drop room back ≡ taken ++ drop p unread
  behind_is behind taken k =
      ap (λ (xs : List ℕ). xs ++ drop room back) k ∙ append_assoc taken ahead (drop room back)
      ∙ ap (λ (xs : List ℕ). taken ++ (ahead ++ xs)) (drop_front w.taken unread left) ∙ ap (λ (xs : List ℕ). taken ++ xs) (sym (window_drop left p unread few))

  -- the block goes on
  pub block_inside : {H : Dictionary → (List ℕ → Reading) → Type 0} → 0 < left - p → RunStands H u ahead b.start.dictionary b.ends.within more → Stands Blocks (left - p) H u (drop p unread) fed (messages ++ more)
  block_inside {H = H} some run =
      let iw = window_of run in
      let next : Unfinished H u (take (left - p) (drop p unread)) iw.stand.dictionary run.rest = rw (window_take left p unread few, iw.dictionary_is) run.ends in
      let whole = next.whole ∙ ap (λ (xs : List ℕ). next.taken ++ xs) (window_take left p unread few) in
      let is = room_left run.front run.rest next.taken run.parts whole in
      onwards run (inr (record {
        some = some;
        size = iw.before;
        within = run.rest;
        next = next;
        opens = subst (λ (n : ℕ). Opens u.level iw.stand.left iw.before n) is (iw.opens (omega (arith, is, some)));
        parts = ap (λ (xs : List ℕ). iw.before ++ xs) (behind_is run.rest next.taken whole);
        fits = fits_behind iw.read (iw.before ++ (run.rest ++ drop room back)) (w.parts ∙ iw.parts);
      }))

  -- behind a message it goes on or ends
  pub block_behind : {H : Dictionary → (List ℕ → Reading) → Type 0} → u.stage ≡ Stage.Map → RunStands H u ahead b.start.dictionary b.ends.within more → Stands Blocks (left - p) H u (drop p unread) fed (messages ++ more)
  block_behind {H = H} at run = elim (cases_lt 0 (left - p)) [ inl some ↦ block_inside some run | inr none ↦ between none ]
    where
      between : left - p ≤ 0 → Stands Blocks (left - p) H u (drop p unread) fed (messages ++ more)
      between none =
          let iw = window_of run in
          let all : ahead ≡ [] = drop_all p (take left unread) (omega (arith, length-take {A = ℕ}, none)) in
          let x = run.ends in
          let c = iw.closed (omega (arith, room_left run.front run.rest x.taken run.parts x.whole, none, ap (λ (xs : List ℕ). length xs) (x.between at))) in
          onwards run (inl (record {
            none = omega (arith, none);
            outside = c.0;
            stage = at;
            same = ap (λ (xs : List ℕ). xs ++ (run.rest ++ drop room back)) c.1 ∙ behind_is run.rest x.taken x.whole ∙ ap (λ (xs : List ℕ). xs ++ drop p unread) (x.between at);
            fits = fits_behind iw.read (iw.before ++ (run.rest ++ drop room back)) (w.parts ∙ iw.parts);
            next = rw (iw.dictionary_is) (rw (all, c.2) at x);
          }))

-- ---- a machine reads a message in a block

-- a block that is open in some bytes, behind a place in them, and how many of its bytes are there
pub record IsOpen (level : Level) (left room at count : ℕ) (bytes : List ℕ) : Type 0 where
  pub same : 0 < left → (room ≡ left) × (at ≡ 0)
  pub goes : left ≡ 0 → size_at level bytes ≡ Ok (room, drop at bytes)
  pub some : 0 < room
  pub place : at ≤ length bytes
  pub few : count ≤ room
  pub least : (count ≡ room) ⊎ (count ≡ length bytes - at)

unseen : (all : Bool) (c : Cause) → (c ≡ Truncated → all ≡ false) → block_cause all c ≡ c
unseen true c more = other_cause true c (λ is. let none = more is in absurd cc)
unseen false c more = refl

module _ {R E : Type 0} {receiver : Receiving R} {entries : Ghosts E} (old : Machine R E receiver entries) {level : Level} {room at size : ℕ} {bytes : List ℕ} {u : Traversal} {s : R} {e : E} {p : Progress} (count : ℕ) (alike : level ≡ old.traversal.level) (opens : IsOpen level old.left room at size bytes)
    (leaves : LeavesMessage receiver entries old.traversal u s old.entries e (take ((at + size) - at) (drop at bytes)) p)
    (reads : ReadsRun receiver.has receiver.stands receiver.keeps old.traversal old.receiver (entries.contents old.entries) (take ((at + size) - at) (drop at bytes)) p.messages p.halt u s (entries.contents e) (drop p.at (take ((at + size) - at) (drop at bytes))))
    (counted : count ≡ min (old.messages + p.messages) 18446744073709551615) where
  abbrev Opened : List Content → List ℕ → List Content → Type 0
  Opened before fed messages = Behind (framed_as Blocks old.traversal) (templates_in old.traversal.set.now) fed messages
      (λ x rest. Opening (ReadsOn receiver.has receiver.stands receiver.keeps old.traversal old.receiver (entries.contents old.entries) before) old.traversal room (drop at bytes) x rest)

  open_now : (before : List Content) (fed : List ℕ) (messages : List Content) → StandsAt Blocks old before bytes fed messages → Opened before fed messages
  open_now before fed messages = open_stands room at alike opens.same opens.goes opens.some

  is_window : take ((at + size) - at) (drop at bytes) ≡ take room (drop at bytes)
  is_window = window_is room at size bytes opens.place opens.few opens.least

  few : p.at ≤ length (take room (drop at bytes))
  few = rw (is_window) at leaves.place

  set : u.set.now ≡ old.traversal.set.now
  set = ap (λ x. x.now) leaves.same.set

  -- where bytes are wanted, the block has more of them
  pub block_goes : (halt : Option Halt) → p.halt ≡ halt → IfSome halt (λ h. h.cause ≡ Truncated → length (drop (at + p.at) bytes) < room - p.at) → Finds Blocks old bytes p.messages count halt (room - p.at) u s (entries.contents e) (drop (at + p.at) bytes)
  block_goes None is more = record {
    found = λ before fed messages short counts stands.
        let b = open_now before fed messages stands in
        let r = (rw (is, is_window) at reads) before b.start.dictionary b.ends.within [] (run_from b.ends.next) in
        let goes = block_behind u p.at r.0 b few leaves.same.level set r.2.1 r.2.0 in
        found_of Blocks u count r.0 counted short counts r.1 (carried_of goes) (rw (← drop-drop p.at at bytes) goes);
  }
  block_goes (Some h) is more = record {
    found = λ before fed messages short counts stands.
        let b = open_now before fed messages stands in
        let r = (rw (is, is_window) at reads) before b.start.dictionary b.ends.within [] (run_from b.ends.next) in
        let carried = block_any u p.at r.0 b few leaves.same.level set (λ d rest x. tt) r.2.0 in
        let wants : h.cause ≡ Truncated → length (drop p.at (drop at bytes)) < room - p.at = λ wanted. rw (drop-drop p.at at bytes) (more wanted) in
        found_of Blocks u count r.0 counted short counts r.1 carried (rw (← drop-drop p.at at bytes) (
          carried,
          (λ known. block_stops u p.at r.0 b few leaves.same.level set h h.cause (unseen _ h.cause (λ wanted. let short = wants wanted in grind (arith, short))) (r.2.1 known)),
          (λ wanted. let short = wants wanted in block_inside u p.at r.0 b few leaves.same.level set (omega (arith, short)) (r.2.2 wanted)),
          (λ other. block_any u p.at r.0 b few leaves.same.level set (λ d rest h. h) (r.2.3 other)),
        ));
  }

  -- where more bytes are wanted than the block has, the message stops at its end
  pub block_cuts : (h : Halt) (after : R) (now : Framing) → now ≡ Blocks → p.halt ≡ Some h → h.cause ≡ Truncated → room - p.at ≤ length (drop (at + p.at) bytes) → Forgets receiver.stands receiver.keeps s after
      → (before : List Content) (fed : List ℕ) (messages : List Content) → length fed ≤ 2 ^ 60 → Counts old.fed old.messages fed messages → StandsAt Blocks old before bytes fed messages
      → Found p.messages old.fed count fed messages (λ more. Carried (framed_as now u) (templates_in u.set.now) fed (messages ++ more)
      × StopsBehind (framed_as now u) (templates_in u.set.now) fed (messages ++ more) (stop_of u.template (record h { cause = BlockEnd }) (drop (at + p.at) bytes))
      × HasAll receiver.stands now u after (before ++ more) fed (messages ++ more))
  block_cuts h after now same is wanted full forgotten before fed messages short counts stands =
      let b = open_now before fed messages stands in
      let r = (rw (is, is_window) at reads) before b.start.dictionary b.ends.within [] (run_from b.ends.next) in
      let carried = block_any u p.at r.0 b few leaves.same.level set (λ d rest x. tt) r.2.0 in
      let all : nat_le (room - p.at) (length (drop p.at (drop at bytes))) ≡ true = let came = rw (← drop-drop p.at at bytes) at full in grind (arith, came) in
      found_of Blocks u count r.0 counted short counts r.1 carried (rw (same, ← drop-drop p.at at bytes) (
        carried,
        block_stops u p.at r.0 b few leaves.same.level set h BlockEnd (rw (wanted, all) refl) (r.2.1 (want_of_bytes h.cause wanted)),
        block_any u p.at r.0 b few leaves.same.level set (λ d rest x. forgets receiver.has receiver.stands receiver.keeps u s (entries.contents e) (before ++ r.0) forgotten d x.read x.goes) (r.2.2 wanted),
      ))
