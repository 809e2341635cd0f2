-- How messages that are read in the bytes of a block that have come stand in the stream of blocks.
use Rattle.fast_stream.proofs.Common.{◌≡◌, ◌≢◌, ℕ, zero, suc, ◌+◌, ◌-◌, ◌<◌, ◌≤◌, true, false, List, [], ◌∷◌, ◌++◌, length, take, drop, Result, Err, refl, ap, subst, ◌∙◌, sym, arith, append_assoc, append-nil, length-append, length-take, take-append-drop, nat_le, take_all, append_cancel_left, Usual, Strict, map_at, entity_at, Level, Resolved, Dictionary, Cause, Truncated, BlockEnd, Content, MessageStop, head_at, message_at, further_on, Stand, Opens, InBlock, seen_from, size_at, framed, in_block_at, in_blocks, CarriesFrom}
use Rattle.fast_stream.specs.Streams.{MessageForm, CarriesFrom as CarriesPlainlyFrom}
use Rattle.fast_stream.proofs.BlockSizes.{opened_again, opened_stops, size_stop}
use Rattle.fast_stream.proofs.BlockReaders.{take_front, take_longer, other_cause}
use Rattle.fast_stream.proofs.ModeReaders.{message_some}

-- a stand in a block, behind so many of its bytes
abbrev pub inside : Dictionary → ℕ → Stand
inside d left = record { dictionary = d; left = left }

-- where some bytes are left of a block no size stands
pub no_size : (level : Level) (left : ℕ) → 0 < left → Opens level left [] left
no_size level zero some = absurd (omega arith)
no_size level (suc left) some = (refl, refl)

-- a block that is open has a byte more
opens_some : (level : Level) (left room : ℕ) (size : List ℕ) → Opens level left size room → 0 < room
opens_some level zero room size h = h.1
opens_some level (suc left) room size h = let is = h.1 in omega arith

abbrev failed : MessageStop → Result (Content × Stand × List ℕ) MessageStop
failed m = Err m

-- ---- a stop in what has come of a block

-- where not all of the block has come it is what it is
pub not_all : (room : ℕ) (back : List ℕ) (inner : MessageStop) → length back < room → seen_from room back inner ≡ inner
not_all room back inner h =
    let some : nat_le room (length back) ≡ false = grind arith in
    let left : inner.stop.left + (length back - room) ≡ inner.stop.left = omega arith in
    rw (some, left) refl

-- where all of it has come want of bytes is the end of the block
pub block_ends : (room : ℕ) (back : List ℕ) (template instruction left : ℕ) → room ≤ length back
    → seen_from room back (record { template = template; stop = record { cause = Truncated; instruction = instruction; left = left } })
    ≡ record { template = template; stop = record { cause = BlockEnd; instruction = instruction; left = left + (length back - room) } }
block_ends room back template instruction left h =
    let all : nat_le room (length back) ≡ true = grind arith in
    rw all refl

-- another fault is what it is, and its piece lies before what is behind the block
pub other_fault : (room : ℕ) (back : List ℕ) (inner : MessageStop) → inner.stop.cause ≢ Truncated
    → seen_from room back inner ≡ further_on (length back - room) inner
other_fault room back inner h = rw (other_cause (nat_le room (length back)) inner.stop.cause h) refl

-- ---- the bytes that have come of a block, in two

pub behind_window : (room : ℕ) (back front rest : List ℕ) → take room back ≡ front ++ rest → back ≡ front ++ (rest ++ drop room back)
behind_window room back front rest h = sym (take-append-drop room back) ∙ ap (λ (z : List ℕ). z ++ drop room back) h ∙ append_assoc front rest (drop room back)

pub front_within : (room : ℕ) (back front rest : List ℕ) → take room back ≡ front ++ rest → length front ≤ room
front_within room back front rest h =
    let sizes = ap (λ (z : List ℕ). length z) h ∙ length-append front rest in
    omega (arith, sizes, length-take room back)

pub window_rest : (room : ℕ) (back front rest : List ℕ) → take room back ≡ front ++ rest → take (room - length front) (rest ++ drop room back) ≡ rest
window_rest room back front rest h =
    let few = front_within room back front rest h in
    let sum : room ≡ length front + (room - length front) = omega (arith, few) in
    let taken : front ++ take (room - length front) (rest ++ drop room back) ≡ front ++ rest =
    sym (take_front front (rest ++ drop room back) (room - length front)) ∙ ap (λ (n : ℕ). take n (front ++ (rest ++ drop room back))) (sym sum)
    ∙ ap (λ (z : List ℕ). take room z) (sym (behind_window room back front rest h)) ∙ h in
    append_cancel_left front (take (room - length front) (rest ++ drop room back)) rest taken

module _ (level : Level) (set : List Resolved) where
  -- ---- the next message

  -- behind its size, or behind nothing, it is read in what has come of its block
  pub read_behind : (s : Stand) (room : ℕ) (size back : List ℕ) → Opens level s.left size room
      → in_block_at level set s (size ++ back) ≡ framed room back (message_at level set s.dictionary (take room back))
  unfolding in_block_at
  read_behind s room size back h = rw (opened_again level s.left room size back h) refl

  -- its reading goes on in the bytes that come, up to the end of the block
  pub reads_on : (s : Stand) (room : ℕ) (size rest more : List ℕ) → Opens level s.left size room → length rest ≤ room
      → in_block_at level set s (size ++ rest ++ more) ≡ framed room (rest ++ more) (message_at level set s.dictionary (rest ++ take (room - length rest) more))
  reads_on s room size rest more h few =
      ap (in_block_at level set s) (append_assoc size rest more) ∙ read_behind s room size (rest ++ more) h
      ∙ ap (λ (z : List ℕ). framed room (rest ++ more) (message_at level set s.dictionary z)) (take_longer room rest more few)

  -- a size that stops
  pub stops_in_size : (s : Stand) (bytes : List ℕ) (c : Cause) → s.left ≡ 0 → size_at level bytes ≡ Err c → in_block_at level set s bytes ≡ Err (size_stop bytes c)
  unfolding in_block_at
  stops_in_size s bytes c none h = rw (opened_stops level s.left bytes c none h) refl

  -- a piece that stops, in what has come of the block
  pub stops_behind : (s : Stand) (room : ℕ) (size back : List ℕ) (inner : MessageStop) → Opens level s.left size room
      → message_at level set s.dictionary (take room back) ≡ Err inner → in_block_at level set s (size ++ back) ≡ Err (seen_from room back inner)
  stops_behind s room size back inner h e = read_behind s room size back h ∙ ap (framed room back) e

  -- where no byte of a message has come it stops at its map
  pub nothing_came : (d : Dictionary) → message_at level set d [] ≡ Err (size_stop [] Truncated)
  unfolding message_at head_at map_at entity_at
  nothing_came d = at_level level
    where
      at_level : (l : Level) → message_at l set d [] ≡ Err (size_stop [] Truncated)
      at_level Usual = refl
      at_level Strict = refl

  -- so does one of which a size alone has come, or that is to come in a block that is open
  pub size_alone : (s : Stand) (room : ℕ) (size : List ℕ) → Opens level s.left size room → in_block_at level set s size ≡ Err (size_stop [] Truncated)
  size_alone s room size h =
      let none : take room [] ≡ [] = take_all {A = ℕ} room [] (omega arith) in
      let read : message_at level set s.dictionary (take room []) ≡ Err (size_stop [] Truncated) = ap (message_at level set s.dictionary) none ∙ nothing_came s.dictionary in
      ap (in_block_at level set s) (sym (append-nil size)) ∙ stops_behind s room size [] (size_stop [] Truncated) h read ∙ ap failed (not_all room [] (size_stop [] Truncated) (opens_some level s.left room size h))

  -- ---- the messages that end in a block

  one_inside : (d : Dictionary) (form : List ℕ) (m : Content) (after : Dictionary) (left : ℕ) → MessageForm level set d form m after → length form ≤ left → InBlock level set (inside d left) form m (inside after (left - length form))
  one_inside d form m after left h few =
      let some = message_some level set d form m after h in
      record { room = left; size = []; form = form; parts = refl; opens = no_size level left (omega arith); message = h; within = omega arith }

  -- where a block is open
  pub run_inside : (messages : List Content) (d after : Dictionary) (bytes : List ℕ) (left : ℕ) → CarriesPlainlyFrom level set d bytes messages after → length bytes ≤ left
      → CarriesFrom (in_blocks level) set (inside d left) bytes messages (inside after (left - length bytes))
  run_inside [] d after bytes left h few =
      let none : left - length bytes ≡ left = let size = ap (λ (z : List ℕ). length z) h.0 in omega arith in
      (h.0, rw (none, h.1) refl)
  run_inside (m ∷ ms) d after bytes left h few =
      let sizes = ap (λ (z : List ℕ). length z) h.parts ∙ length-append h.front h.back in
      let left_is : (left - length h.front) - length h.back ≡ left - length bytes = omega arith in
      record {
        between = inside h.between (left - length h.front);
        front = h.front;
        back = h.back;
        parts = h.parts;
        first = one_inside d h.front m h.between left h.first (omega arith);
        second = subst (λ (n : ℕ). CarriesFrom (in_blocks level) set (inside h.between (left - length h.front)) h.back ms (inside after n)) left_is
            (run_inside ms h.between after h.back (left - length h.front) h.second (omega arith));
      }

  -- behind a size
  pub run_behind : (m : Content) (ms : List Content) (s : Stand) (after : Dictionary) (room : ℕ) (size bytes : List ℕ) → Opens level s.left size room
      → CarriesPlainlyFrom level set s.dictionary bytes (m ∷ ms) after → length bytes ≤ room
      → CarriesFrom (in_blocks level) set s (size ++ bytes) (m ∷ ms) (inside after (room - length bytes))
  run_behind m ms s after room size bytes opens h few =
      let sizes = ap (λ (z : List ℕ). length z) h.parts ∙ length-append h.front h.back in
      let left_is : (room - length h.front) - length h.back ≡ room - length bytes = omega arith in
      record {
        between = inside h.between (room - length h.front);
        front = size ++ h.front;
        back = h.back;
        parts = ap (λ (z : List ℕ). size ++ z) h.parts ∙ sym (append_assoc size h.front h.back);
        first = record { room = room; size = size; form = h.front; parts = refl; opens = opens; message = h.first; within = omega arith };
        second = subst (λ (n : ℕ). CarriesFrom (in_blocks level) set (inside h.between (room - length h.front)) h.back ms (inside after n)) left_is
            (run_inside ms h.between after h.back (room - length h.front) h.second (omega arith));
      }

  -- ---- what has come of a block, read as messages and a rest

  -- The bytes behind the size, of which so many belong to the block, are messages and then a rest that belongs to the block,
  -- and what is behind it. So the stream of blocks is these messages, and then the rest, behind the size where no message
  -- came before it.
  pub record InWindow (s : Stand) (room : ℕ) (size back front rest : List ℕ) (messages : List Content) (d : Dictionary) : Type 0 where
    pub stand : Stand
    pub read : List ℕ
    pub before : List ℕ
    pub parts : size ++ back ≡ read ++ (before ++ (rest ++ drop room back))
    pub carried : CarriesFrom (in_blocks level) set s read messages stand
    pub dictionary_is : stand.dictionary ≡ d
    -- the rest is what has come of the block that is open, if one is
    pub opens : 0 < room - length front → Opens level stand.left before (room - length front)
    pub rest_is : take (room - length front) (rest ++ drop room back) ≡ rest
    -- no block is open behind the last byte of one
    pub closed : room - length front ≡ 0 → (stand.left ≡ 0) × (before ≡ []) × (rest ≡ [])

  pub in_window : (messages : List Content) (s : Stand) (d : Dictionary) (room : ℕ) (size back front rest : List ℕ) → Opens level s.left size room → take room back ≡ front ++ rest
      → CarriesPlainlyFrom level set s.dictionary front messages d → InWindow s room size back front rest messages d
  in_window [] s d room size back front rest opens h c =
      let none : front ≡ [] = c.0 in
      let all : room - length front ≡ room = let few = ap (λ (z : List ℕ). length z) none in omega arith in
      let some = opens_some level s.left room size opens in
      record {
        stand = s;
        read = [];
        before = size;
        parts = ap (λ (z : List ℕ). size ++ z) (behind_window room back front rest h ∙ ap (λ (z : List ℕ). z ++ (rest ++ drop room back)) none);
        carried = (refl, refl);
        dictionary_is = sym c.1;
        opens = λ more. subst (λ (n : ℕ). Opens level s.left size n) (sym all) opens;
        rest_is = window_rest room back front rest h;
        closed = λ e. absurd (omega (arith, some, all, e));
      }
  in_window (m ∷ ms) s d room size back front rest opens h c =
      let few = front_within room back front rest h in
      record {
        stand = inside d (room - length front);
        read = size ++ front;
        before = [];
        parts = ap (λ (z : List ℕ). size ++ z) (behind_window room back front rest h) ∙ sym (append_assoc size front (rest ++ drop room back));
        carried = run_behind m ms s d room size front opens c few;
        dictionary_is = refl;
        opens = λ more. no_size level (room - length front) more;
        rest_is = window_rest room back front rest h;
        closed = λ e. (e, refl, sym (window_rest room back front rest h) ∙ ap (λ (n : ℕ). take n (rest ++ drop room back)) e);
      }

  -- so a stop of the next message in the rest is one in the stream
  pub stops_in_window : (s : Stand) (room : ℕ) (size back front rest : List ℕ) (messages : List Content) (d : Dictionary) (inner : MessageStop) → (w : InWindow s room size back front rest messages d) → 0 < room - length front
      → message_at level set d rest ≡ Err inner → in_block_at level set w.stand (w.before ++ (rest ++ drop room back)) ≡ Err (seen_from (room - length front) (rest ++ drop room back) inner)
  stops_in_window s room size back front rest messages d inner w more e =
      stops_behind w.stand (room - length front) w.before (rest ++ drop room back) inner (w.opens more)
      (ap (message_at level set w.stand.dictionary) w.rest_is ∙ ap (λ (x : Dictionary). message_at level set x rest) w.dictionary_is ∙ e)
