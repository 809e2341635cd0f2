-- The reading function of messages in blocks reads their forms, and stops exactly at their faults.
use Rattle.fast_stream.proofs.Common.{◌≡◌, ◌≢◌, ℕ, zero, suc, ◌+◌, ◌-◌, ◌<◌, ◌≤◌, Bool, true, false, List, [], ◌∷◌, ◌++◌, length, take, drop, Result, Ok, Err, refl, sym, ap, subst, ◌∙◌, arith, append_assoc, length-append, length-take, take-append-drop, nat_le, take_all, Level, IsBytes, ok_is, bind_ok, at_first, at_second, bind_err, Resolved, Dictionary, Cause, D2, D4, D5, D6, D7, D9, D12, BlockEnd, R1, R2, R6, R7, R8, R9, Truncated, Limit, Read, Turns, Memory, Content, MessageStop, message_at, further_on, IsMessageReader, Stand, Opens, InBlock, block_cause, seen_from, BlockStops, in_size, in_message, opened_at, framed, in_block_at}
use Rattle.fast_stream.proofs.BlockSizes.{Opened, opened_again, opened_found, size_stop, opened_refused, opened_stops, size_refused, size_faulty, size_stays}

-- ---- the first bytes of a list

pub take_front : (form rest : List ℕ) (n : ℕ) → take (length form + n) (form ++ rest) ≡ form ++ take n rest
take_front [] rest n = let e : 0 + n ≡ n = omega arith in rw e refl
take_front (b ∷ form) rest n =
    let e : length (b ∷ form) + n ≡ suc (length form + n) = omega arith in
    rw e (ap (λ (z : List ℕ). b ∷ z) (take_front form rest n))

pub drop_front : (form rest : List ℕ) (n : ℕ) → drop (length form + n) (form ++ rest) ≡ drop n rest
drop_front [] rest n = let e : 0 + n ≡ n = omega arith in rw e refl
drop_front (b ∷ form) rest n =
    let e : length (b ∷ form) + n ≡ suc (length form + n) = omega arith in
    rw e (drop_front form rest n)

-- more bytes change nothing where all of the first ones have come
pub take_enough : (room : ℕ) (bytes more : List ℕ) → room ≤ length bytes → take room (bytes ++ more) ≡ take room bytes
take_enough zero bytes more h = refl
take_enough (suc room) [] more h = absurd (omega arith)
take_enough (suc room) (b ∷ bytes) more h = ap (λ (z : List ℕ). b ∷ z) (take_enough room bytes more (omega arith))

-- else some of them are among the first ones
pub take_longer : (room : ℕ) (bytes more : List ℕ) → length bytes ≤ room → take room (bytes ++ more) ≡ bytes ++ take (room - length bytes) more
take_longer room [] more h = let e : room - 0 ≡ room = omega arith in rw e refl
take_longer zero (b ∷ bytes) more h = absurd (omega arith)
take_longer (suc room) (b ∷ bytes) more h =
    let e : suc room - length (b ∷ bytes) ≡ room - length bytes = omega arith in
    rw e (ap (λ (z : List ℕ). b ∷ z) (take_longer room bytes more (omega arith)))

pub fits_take : (n : ℕ) (xs : List ℕ) → IsBytes xs → IsBytes (take n xs)
fits_take zero xs h = tt
fits_take (suc n) [] h = tt
fits_take (suc n) (x ∷ xs) h = (h.0, fits_take n xs h.1)

pub fits_drop : (n : ℕ) (xs : List ℕ) → IsBytes xs → IsBytes (drop n xs)
fits_drop zero xs h = h
fits_drop (suc n) [] h = tt
fits_drop (suc n) (x ∷ xs) h = fits_drop n xs h.1

pub fits_append : (xs ys : List ℕ) → IsBytes xs → IsBytes ys → IsBytes (xs ++ ys)
fits_append [] ys h k = k
fits_append (x ∷ xs) ys h k = (h.0, fits_append xs ys h.1 k)

-- ---- causes in a block

-- another cause than want of bytes is what it is
pub other_cause : (t : Bool) (c : Cause) → c ≢ Truncated → block_cause t c ≡ c
other_cause false c other = refl
other_cause true D2 other = refl
other_cause true D4 other = refl
other_cause true D5 other = refl
other_cause true D6 other = refl
other_cause true D7 other = refl
other_cause true D9 other = refl
other_cause true D12 other = refl
other_cause true BlockEnd other = refl
other_cause true R1 other = refl
other_cause true R2 other = refl
other_cause true R6 other = refl
other_cause true R7 other = refl
other_cause true R8 other = refl
other_cause true R9 other = refl
other_cause true Truncated other = absurd (other refl)
other_cause true Limit other = refl
other_cause true Read other = refl
other_cause true Turns other = refl
other_cause true Memory other = refl

-- a message that stops for want of bytes has not all of its block before it
pub wants_more : (t : Bool) (c : Cause) → block_cause t c ≡ Truncated → (t ≡ false) × (c ≡ Truncated)
wants_more false c e = (refl, e)
wants_more true D2 e = absurd cc
wants_more true D4 e = absurd cc
wants_more true D5 e = absurd cc
wants_more true D6 e = absurd cc
wants_more true D7 e = absurd cc
wants_more true D9 e = absurd cc
wants_more true D12 e = absurd cc
wants_more true BlockEnd e = absurd cc
wants_more true R1 e = absurd cc
wants_more true R2 e = absurd cc
wants_more true R6 e = absurd cc
wants_more true R7 e = absurd cc
wants_more true R8 e = absurd cc
wants_more true R9 e = absurd cc
wants_more true Truncated e = absurd cc
wants_more true Limit e = absurd cc
wants_more true Read e = absurd cc
wants_more true Turns e = absurd cc
wants_more true Memory e = absurd cc

-- ---- messages in blocks

left_is : (form rest : List ℕ) (n : ℕ) → (length form + n) - (length (form ++ take n rest) - length (take n rest)) ≡ n
left_is form rest n = let sizes = length-append form (take n rest) in omega arith

module _ (level : Level) (set : List Resolved) (is : IsMessageReader level set) where
  -- each form is read, whatever follows
  pub block_again : (s : Stand) (form rest : List ℕ) (m : Content) (after : Stand) → InBlock level set s form m after → in_block_at level set s (form ++ rest) ≡ Ok (m, after, rest)
  unfolding in_block_at
  block_again s form rest m after h =
      let regrouped : form ++ rest ≡ h.size ++ (h.form ++ rest) = ap (λ (z : List ℕ). z ++ rest) h.parts ∙ append_assoc h.size h.form rest in
      let opened = opened_again level s.left h.room h.size (h.form ++ rest) h.opens in
      let room : take h.room (h.form ++ rest) ≡ h.form ++ take after.left rest = ap (λ (n : ℕ). take n (h.form ++ rest)) h.within ∙ take_front h.form rest after.left in
      let behind : drop h.room (h.form ++ rest) ≡ drop after.left rest = ap (λ (n : ℕ). drop n (h.form ++ rest)) h.within ∙ drop_front h.form rest after.left in
      let read : message_at level set s.dictionary (take h.room (h.form ++ rest)) ≡ Ok (m, after.dictionary, take after.left rest) =
      ap (message_at level set s.dictionary) room ∙ is.again s.dictionary h.form (take after.left rest) m after.dictionary h.message in
      let left : h.room - (length (take h.room (h.form ++ rest)) - length (take after.left rest)) ≡ after.left =
      ap (λ (z : List ℕ). h.room - (length z - length (take after.left rest))) room ∙ ap (λ (n : ℕ). n - (length (h.form ++ take after.left rest) - length (take after.left rest))) h.within ∙ left_is h.form rest after.left in
      let whole : take after.left rest ++ drop h.room (h.form ++ rest) ≡ rest = ap (λ (z : List ℕ). take after.left rest ++ z) behind ∙ take-append-drop after.left rest in
      rw (regrouped, opened, read, left, whole) refl

  -- ---- what is read

  -- a message stands at the front of the bytes, within its block, and the rest follows
  pub record BlockPasses (s : Stand) (bytes : List ℕ) (m : Content) (after : Stand) (rest : List ℕ) : Type 0 where
    pub front : List ℕ
    pub parts : bytes ≡ front ++ rest
    pub rest_bytes : IsBytes rest
    pub form : InBlock level set s front m after

  abbrev Answer : Type 0
  Answer = Content × Stand × List ℕ

  abbrev Message : Type 0
  Message = Result (Content × Dictionary × List ℕ) MessageStop

  framed_found : (s after : Stand) (bytes rest : List ℕ) (m : Content) (room : ℕ) (back : List ℕ) (r : Message) → Opened level s.left bytes room back
      → message_at level set s.dictionary (take room back) ≡ r → framed room back r ≡ Ok (m, after, rest) → BlockPasses s bytes m after rest
  framed_found s after bytes rest m room back (Err f) t h e = absurd cc
  framed_found s after bytes rest m room back (Ok r) t h e =
      let u = is.found s.dictionary (take room back) r.0 r.1 r.2 (fits_take room back t.fits) h in
      let left = room - (length (take room back) - length r.2) in
      let sizes : length (take room back) ≡ length u.front + length r.2 = ap length u.parts ∙ length-append u.front r.2 in
      let within : room ≡ length u.front + left = omega (arith, sizes, length-take room back) in
      let behind : back ≡ u.front ++ (r.2 ++ drop room back) = sym (take-append-drop room back) ∙ ap (λ (z : List ℕ). z ++ drop room back) u.parts ∙ append_assoc u.front r.2 (drop room back) in
      subst (λ (p : Answer). BlockPasses s bytes p.0 p.1 p.2) (ok_is {F = MessageStop} (r.0, record { dictionary = r.1; left = left }, r.2 ++ drop room back) (m, after, rest) e)
      (record {
        front = t.size ++ u.front;
        parts = t.parts ∙ ap (λ (z : List ℕ). t.size ++ z) behind ∙ sym (append_assoc t.size u.front (r.2 ++ drop room back));
        rest_bytes = fits_append r.2 (drop room back) u.rest_bytes (fits_drop room back t.fits);
        form = record { room = room; size = t.size; form = u.front; parts = refl; opens = t.opens; message = u.form; within = within };
      })

  pub block_found : (s : Stand) (bytes : List ℕ) (m : Content) (after : Stand) (rest : List ℕ) → IsBytes bytes → in_block_at level set s bytes ≡ Ok (m, after, rest) → BlockPasses s bytes m after rest
  unfolding in_block_at
  block_found s bytes m after rest fits e =
      let a = bind_ok (opened_at level s.left bytes) (λ o. framed o.0 o.1 (message_at level set s.dictionary (take o.0 o.1))) (m, after, rest) e in
      framed_found s after bytes rest m a.0.0 a.0.1 (message_at level set s.dictionary (take a.0.0 a.0.1)) (opened_found level s.left bytes a.0 fits a.1) refl a.2

  -- ---- where it stops

  framed_refused : (room : ℕ) (back : List ℕ) (m : MessageStop) (r : Message) → framed room back r ≡ Err m → (inner : MessageStop) × (r ≡ Err inner) × (seen_from room back inner ≡ m)
  framed_refused room back m (Ok r) e = absurd cc
  framed_refused room back m (Err inner) e = (inner, refl, cc)

  pub block_stops : (s : Stand) (bytes : List ℕ) (m : MessageStop) → IsBytes bytes → in_block_at level set s bytes ≡ Err m → BlockStops level set s bytes m
  unfolding in_block_at
  block_stops s bytes m fits e = elim (bind_err (opened_at level s.left bytes) (λ o. framed o.0 o.1 (message_at level set s.dictionary (take o.0 o.1))) m e) [
    | at_first g ↦
        let h = opened_refused level s.left bytes m g in
        let fault = size_refused level bytes m.stop.cause fits h.1 in
        in_size h.0 (sym (ap (λ (y : MessageStop). y.template) h.2)) (record { instruction_is = sym (ap (λ (y : MessageStop). y.stop.instruction) h.2); left_is = sym (ap (λ (y : MessageStop). y.stop.left) h.2); fault = fault })
    | at_second o g k ↦
        let t = opened_found level s.left bytes o fits g in
        let h = framed_refused o.0 o.1 m (message_at level set s.dictionary (take o.0 o.1)) k in
        in_message o.0 t.size o.1 h.0 t.parts t.opens (is.stops s.dictionary (take o.0 o.1) h.0 (fits_take o.0 o.1 t.fits) h.1) (sym h.2)
  ]

  abbrev failed : MessageStop → Result Answer MessageStop
  failed m = Err m

  stop_of : (template instruction left : ℕ) (m : MessageStop) → m.template ≡ template → m.stop.instruction ≡ instruction → m.stop.left ≡ left
      → record { template = template; stop = record { cause = m.stop.cause; instruction = instruction; left = left } } ≡ m
  stop_of template instruction left m t i l = rw (sym t, sym i, sym l) refl

  size_stop_is : (bytes : List ℕ) (m : MessageStop) → m.template ≡ 0 → m.stop.instruction ≡ 0 → m.stop.left ≡ length bytes → size_stop bytes m.stop.cause ≡ m
  size_stop_is bytes m t i l = stop_of 0 0 (length bytes) m t i l

  -- the message behind a size, and any bytes
  pub behind_size : (s : Stand) (room : ℕ) (size back : List ℕ) → Opens level s.left size room → in_block_at level set s (size ++ back) ≡ framed room back (message_at level set s.dictionary (take room back))
  unfolding in_block_at
  behind_size s room size back h = rw (opened_again level s.left room size back h) refl

  pub block_stopped : (s : Stand) (bytes : List ℕ) (m : MessageStop) → BlockStops level set s bytes m → in_block_at level set s bytes ≡ Err m
  unfolding in_block_at
  block_stopped s bytes m (in_size none t h) =
      rw (opened_stops level s.left bytes m.stop.cause none (size_faulty level bytes m.stop.cause h.fault)) (ap failed (size_stop_is bytes m t h.instruction_is h.left_is))
  block_stopped s bytes m (in_message room size back inner parts opens stops seen) =
      ap (in_block_at level set s) parts ∙ behind_size s room size back opens
      ∙ ap (framed room back) (is.stopped s.dictionary (take room back) inner stops) ∙ ap failed (sym seen)

  -- ---- a fault other than want of bytes stays

  all_came : (room : ℕ) (back more : List ℕ) (inner : MessageStop) → room ≤ length back → seen_from room (back ++ more) inner ≡ further_on (length more) (seen_from room back inner)
  all_came room back more inner h =
      let size = length-append back more in
      let here : nat_le room (length back) ≡ true = grind arith in
      let there : nat_le room (length (back ++ more)) ≡ true = grind arith in
      let left : inner.stop.left + (length (back ++ more) - room) ≡ (inner.stop.left + (length back - room)) + length more = omega arith in
      rw (here, there, left) refl

  some_came : (room : ℕ) (back more : List ℕ) (inner : MessageStop) → length back < room → inner.stop.cause ≢ Truncated
      → seen_from room (back ++ more) (further_on (length (take (room - length back) more)) inner) ≡ further_on (length more) (seen_from room back inner)
  some_came room back more inner h other =
      let size = length-append back more in
      let taken = length-take (room - length back) more in
      let here = other_cause (nat_le room (length back)) inner.stop.cause other in
      let there = other_cause (nat_le room (length (back ++ more))) inner.stop.cause other in
      let left : (inner.stop.left + length (take (room - length back) more)) + (length (back ++ more) - room) ≡ (inner.stop.left + (length back - room)) + length more = omega arith in
      rw (here, there, left) refl

  stays_behind_size : (s : Stand) (room : ℕ) (back more : List ℕ) (inner : MessageStop) (t : Bool) → nat_le room (length back) ≡ t → IsBytes back
      → message_at level set s.dictionary (take room back) ≡ Err inner → (seen_from room back inner).stop.cause ≢ Truncated
      → framed room (back ++ more) (message_at level set s.dictionary (take room (back ++ more))) ≡ Err (further_on (length more) (seen_from room back inner))
  stays_behind_size s room back more inner true h fits e other =
      let enough : room ≤ length back = grind (arith, h) in
      let read : message_at level set s.dictionary (take room (back ++ more)) ≡ Err inner = ap (message_at level set s.dictionary) (take_enough room back more enough) ∙ e in
      ap (framed room (back ++ more)) read ∙ ap failed (all_came room back more inner enough)
  stays_behind_size s room back more inner false h fits e other =
      let few : length back < room = grind (arith, h) in
      let own : inner.stop.cause ≢ Truncated = λ c. other (ap (λ (t : Bool). block_cause t inner.stop.cause) h ∙ c) in
      let all : take room back ≡ back = take_all room back (omega arith) in
      let here : message_at level set s.dictionary back ≡ Err inner = ap (message_at level set s.dictionary) (sym all) ∙ e in
      let longer = is.stays s.dictionary back (take (room - length back) more) inner fits here own in
      let read : message_at level set s.dictionary (take room (back ++ more)) ≡ Err (further_on (length (take (room - length back) more)) inner) = ap (message_at level set s.dictionary) (take_longer room back more (omega arith)) ∙ longer in
      ap (framed room (back ++ more)) read ∙ ap failed (some_came room back more inner few own)

  stays_in_size : (s : Stand) (bytes more : List ℕ) (m : MessageStop) → IsBytes bytes → opened_at level s.left bytes ≡ Err m → m.stop.cause ≢ Truncated → in_block_at level set s (bytes ++ more) ≡ Err (further_on (length more) m)
  unfolding in_block_at
  stays_in_size s bytes more m fits g other =
      let h = opened_refused level s.left bytes m g in
      let stop : size_stop (bytes ++ more) m.stop.cause ≡ further_on (length more) m = rw (length-append bytes more) (ap (further_on (length more)) h.2) in
      rw (opened_stops level s.left (bytes ++ more) m.stop.cause h.0 (size_stays level bytes more m.stop.cause fits h.1 other)) (ap failed stop)

  pub block_stays : (s : Stand) (bytes more : List ℕ) (m : MessageStop) → IsBytes bytes → in_block_at level set s bytes ≡ Err m → m.stop.cause ≢ Truncated → in_block_at level set s (bytes ++ more) ≡ Err (further_on (length more) m)
  unfolding in_block_at
  block_stays s bytes more m fits e other = elim (bind_err (opened_at level s.left bytes) (λ o. framed o.0 o.1 (message_at level set s.dictionary (take o.0 o.1))) m e) [
    | at_first g ↦ stays_in_size s bytes more m fits g other
    | at_second o g k ↦
        let t = opened_found level s.left bytes o fits g in
        let h = framed_refused o.0 o.1 m (message_at level set s.dictionary (take o.0 o.1)) k in
        let regrouped : bytes ++ more ≡ t.size ++ (o.1 ++ more) = ap (λ (z : List ℕ). z ++ more) t.parts ∙ append_assoc t.size o.1 more in
        let seen = λ (c : (seen_from o.0 o.1 h.0).stop.cause ≡ Truncated). other (sym (ap (λ (y : MessageStop). y.stop.cause) h.2) ∙ c) in
        let stays = stays_behind_size s o.0 o.1 more h.0 (nat_le o.0 (length o.1)) refl t.fits h.1 seen in
        ap (in_block_at level set s) regrouped ∙ behind_size s o.0 t.size (o.1 ++ more) t.opens ∙ stays ∙ ap (λ (y : MessageStop). failed (further_on (length more) y)) h.2
  ]
