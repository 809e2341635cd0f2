-- A walk that waits for more bytes has few of them before it.
use Rattle.fast_walk.proofs.Common.{◌≡◌, ◌≤◌, ◌+◌, ℕ, Bool, List, [], ◌∷◌, length, length-drop, drop, map, Err, refl, sym, ◌∙◌, arith, no_instructions, Resolved, list_of, Dictionary, ◌>>=◌, some_set, Level, Usual, Strict, Cause, Truncated, Memory, Halt, Items, node_limit, identifier, Cursor, Reads, field_part_at, decimal_of, segment_at, closing, end_at, each_at, body_at, named_at, in_template, message_at, Body, Inside, in_group, in_sequence, Waiting, ended_on, Next, at_instruction, at_mantissa, at_element, Sequel, body_on, elements_on, top_on, behind_inside, all_around, cursor, Received, moved, opened, identifier_on, stop_of, HaltsAs, bare, bare_next, bare_inside, next_of, inside_of, frame_of, Frame as FrameNow, Walk as WalkNow, IsShort, short_ok, short_then, part_short, decimal_short, each_short, segment_short, closing_short, end_short, body_short, short_in, message_then, message_ok, identifier_short, message_short}
use Rattle.std.specs.FinMap as finite
use Rattle.fast_walk.specs.declared.walk.Next.{Next as NextNow}
use Rattle.fast_walk.specs.declared.walk.Inside.{Inside as InsideNow}

-- ---- a walk, whatever was received

next_is_bare : (n : NextNow) → bare_next (next_of n) ≡ next_of n
next_is_bare NextNow.Instruction = refl
next_is_bare n = refl

inside_is_bare : (i : InsideNow) → bare_inside (inside_of i) ≡ inside_of i
inside_is_bare (InsideNow.Group number) = refl
inside_is_bare (InsideNow.Element q) = refl

frames_are_bare : (fs : List FrameNow) → map bare (map frame_of fs) ≡ map frame_of fs
frames_are_bare [] = refl
frames_are_bare (f ∷ fs) = rw (inside_is_bare f.inside, frames_are_bare fs) refl

abbrev something : WalkNow → Received
something w = moved (opened [] [] 0 no_instructions finite.empty) (next_of w.next) (record { rest = list_of w.rest.now; done = [] }) (map frame_of w.around.items)

-- ---- places

pub behind_few : (bytes : List ℕ) (at : ℕ) → length (drop at bytes) ≤ 65554 → length bytes ≤ at + 65554
behind_few bytes at few = let size = length-drop at bytes in omega (arith, size, few)

pub want_of_bytes : (cause : Cause) → cause ≡ Truncated → cause ≡ Memory → ⊥
want_of_bytes cause t m = let k : Truncated ≡ Memory = sym t ∙ m in absurd cc

module _ (level : Level) where
  -- ---- what is left of a message that has begun

  body_left_short : (b : Body) (c : Cursor) → IsShort level (body_on level b c)
  body_left_short b c = short_then level (body_at level b.rest c) _ (body_short level b.rest c) (λ r. short_ok level _)

  elements_left_short : (q : Sequel) (b : Body) (c : Cursor) → IsShort level (elements_on level q b c)
  elements_left_short q b c =
      short_then level (each_at q.number (segment_at level q.number q.own_map (closing level q.number (λ j. body_at level q.members j))) q.left c) _
      (each_short level q.number (segment_at level q.number q.own_map (closing level q.number (λ j. body_at level q.members j))) (λ j. segment_short level q.number q.own_map (closing level q.number (λ j. body_at level q.members j)) j (λ j. closing_short level level q.number (λ j. body_at level q.members j) j (λ j. body_short level q.members j))) q.left c)
      (λ es. body_left_short _ es.1)

  top_short : (n : Next) (b : Body) (c : Cursor) → IsShort level (top_on level n b c)
  top_short at_instruction b c = body_left_short b c
  top_short (at_mantissa e mantissa) b c =
      short_then level (field_part_at level mantissa c >>= decimal_of e) _ (short_then level (field_part_at level mantissa c) (decimal_of e) (part_short level mantissa c) (decimal_short level e)) (λ n. body_left_short _ n.1)
  top_short (at_element q) b c = elements_left_short q b c

  inside_short : (i : Inside) (b : Body) (ns : Items) (c : Cursor) → IsShort level (behind_inside level i b ns c)
  inside_short in_group b ns c = body_left_short _ c
  inside_short (in_sequence q) b ns c = elements_left_short _ b c

  ended_short : (l : Level) (number : ℕ) (r : Reads Items) → IsShort level r → IsShort level (ended_on l number r)
  ended_short Usual number r h = h
  ended_short Strict number r h = short_then level r (end_at number) h (λ x. end_short level number x (some_set x.1.bits))

  all_short : (ws : List Waiting) (r : Reads Items) → IsShort level r → IsShort level (all_around level ws r)
  all_short [] r h = h
  all_short (w ∷ ws) r h = short_then level (ended_on level w.number (all_around level ws r)) _ (ended_short level w.number (all_around level ws r) (all_short ws r h)) (λ ns. inside_short w.inside w.body ns.0 _)

  -- ---- a walk that halts

  -- where a walk halts for want of bytes they are few
  pub walk_few : (w : WalkNow) (d : Dictionary) (bytes : List ℕ) (h : Halt) → HaltsAs level w d bytes h → h.cause ≡ Truncated → length bytes ≤ 65554
  walk_few w d bytes h halts t =
      let o = something w in
      all_short o.around (top_on level o.next o.body (cursor d w.bits w.spare bytes)) (top_short o.next o.body (cursor d w.bits w.spare bytes))
      (record { cause = h.cause; instruction = h.number; left = length bytes }) (halts o (record { next = next_is_bare w.next; rest = refl; around = frames_are_bare w.around.items })) t

  -- ---- messages

  pub map_few_at : (set : List Resolved) (bytes : List ℕ) (h : Halt) → ((d : Dictionary) → message_at level set d bytes ≡ Err (stop_of 0 h bytes)) → h.cause ≡ Truncated → length bytes ≤ 65554
  map_few_at set bytes h stops t = message_short level set finite.empty bytes (stop_of 0 h bytes) (stops finite.empty) t

  pub identifier_few_at : (set : List Resolved) (d : Dictionary) (bits : List Bool) (bytes : List ℕ) (h : Halt) → identifier_on level set d bits bytes ≡ Err (stop_of 0 h bytes) → h.cause ≡ Truncated → length bytes ≤ 65554
  identifier_few_at set d bits bytes h stops t =
      message_then level (in_template 0 (field_part_at level identifier (cursor d bits node_limit bytes) >>= named_at set bytes)) _
      (short_in level 0 (field_part_at level identifier (cursor d bits node_limit bytes) >>= named_at set bytes) (identifier_short level set (cursor d bits node_limit bytes)))
      (λ h. message_then level (in_template h.0.template (closing level 0 (λ j. body_at level h.0.members j) h.1)) _
      (short_in level h.0.template (closing level 0 (λ j. body_at level h.0.members j) h.1) (closing_short level level 0 (λ j. body_at level h.0.members j) h.1 (λ j. body_short level h.0.members j))) (λ r. message_ok level _))
      (stop_of 0 h bytes) stops t
