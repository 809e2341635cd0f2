-- How reading goes on, whatever was received.
use Rattle.fast_walk.proofs.Common.{◌≡◌, ◌<◌, ◌-◌, ℕ, zero, suc, ℤ, Bool, true, List, [], ◌∷◌, ◌++◌, length, map, slice_index_or, slice_set, Option, Some, None, Ok, Err, refl, sym, ap, ◌∙◌, arith, map_push, Key, Scalar, I32, I64, Decimal, Presence, FieldPart, Instruction, Instructions, whole_field, field_in_parts, no_instructions, then_instruction, list_of, IsLeftClear, some_set, Level, Strict, R8, Dictionary, single, Elements, Items, items_of, sequence_elements, elements_of, Stop, Cursor, Reads, node_at, field_part_at, own_map_at, piece_at, stopped, Body, Sequel, Waiting, Inside, in_group, in_sequence, Next, at_instruction, at_mantissa, at_element, with_item, with_element, cursor, fewer, under_bits, body_on, mantissa_on, top_on, behind_inside, all_around, Having, Received, left_of, Same, Goes, after_sequence, in_element, behind_last, closed_in, ended_in, left_around, At, IsAt, IsOpened, bare_inside, bare, bare_next, bare_sequel, frame_of, inside_of, next_of, reads_on, sequel_of, AreAllServed, IsLast, IsWaitingServed, Frame as FrameNow, Walk as WalkNow, get_or-append_seam, set-append_seam, length-append, IsOwnMap, IsMapped}
use Rattle.std.proofs.lemmas.List.{same_from_push}
use Rattle.fast_walk.specs.declared.walk.Next.TheVariants as next
use Rattle.fast_walk.specs.declared.walk.Sequel.{Sequel as SequelNow}
use Rattle.fast_walk.proofs.Steps.{after_piece, all_around-more, elements_before-end, all_around-stops, count_goes, end_goes, end_stops, items_on, set_stops, some_left, whole_goes}
use Rattle.fast_walk.proofs.Steps.{element_on as element_around_on}

-- ---- what is next

pub is_instruction : (n : Next) → bare_next n ≡ at_instruction → n ≡ at_instruction
is_instruction at_instruction h = refl
is_instruction n h = absurd cc

-- the mantissa that is next, with its exponent
pub record IsMantissa (n : Next) (p : FieldPart) : Type 0 where
  pub exponent : ℤ
  pub is : n ≡ at_mantissa exponent p

pub is_mantissa : (n : Next) (z : ℤ) (p : FieldPart) → bare_next n ≡ at_mantissa z p → IsMantissa n p
is_mantissa (at_mantissa e q) z p h = let same : q ≡ p = cc in record { exponent = e; is = ap (at_mantissa e) same }
is_mantissa n z p h = absurd cc

-- the sequence whose element is next, with those that are read
pub is_element : (n : Next) (t : Sequel) → bare_next n ≡ at_element t → (s : Sequel) × (n ≡ at_element s) × (bare_sequel s ≡ t)
is_element (at_element s) t h = (s, refl, cc)
is_element n t h = absurd cc

-- the sequence whose element is next in a body, and those around it
pub record IsAtElement (q : Received) (t : Sequel) (is : Instructions) (fs : List Waiting) : Type 0 where
  pub sequel : Sequel
  pub next : q.next ≡ at_element sequel
  pub same : bare_sequel sequel ≡ t
  pub rest : q.body.rest ≡ is
  pub around : map bare q.around ≡ fs

abbrev pub at_element_of : (o : Received) {w : WalkNow} {s : SequelNow} → IsAt w o → w.next ≡ next.Element s → IsAtElement o (sequel_of s) (list_of w.rest.now) (map frame_of w.around.items)
at_element_of o {s = s} at is =
    let q = is_element o.next (sequel_of s) (at.next ∙ ap next_of is) in
    record { sequel = q.0; next = q.1; same = q.2; rest = at.rest; around = at.around }

pub is_element_of : (i : Inside) (t : Sequel) → bare_inside i ≡ in_sequence t → (s : Sequel) × (i ≡ in_sequence s) × (bare_sequel s ≡ t)
is_element_of in_group t h = absurd cc
is_element_of (in_sequence s) t h = (s, refl, cc)

-- the map of an element, as its sequence has one
pub mapped : (own has : Bool) (bytes : List ℕ) (bits : List Bool) → own ≡ has → IsOwnMap own bytes bits → IsMapped has bytes
mapped own has bytes bits same is = (bits, rw same at is)

-- ---- an element

around_element : (q : Received) {t : Sequel} {is : Instructions} {fs : List Waiting} (bits : List Bool) (a : IsAtElement q t is fs)
    → map bare (in_element q bits a.sequel).around ≡ fs ++ record { bits = bits; number = t.number; body = record { rest = is; done = [] }; inside = in_sequence (fewer t) } ∷ []
around_element q {is = is} {fs = fs} bits a =
    map_push bare q.around (record { bits = bits; number = a.sequel.number; body = q.body; inside = in_sequence (fewer a.sequel) }) ∙ rw (a.around, a.rest, ← a.same) refl

-- ---- the end of a segment

-- the last of those that wait, where any does
has_last : (us : List Waiting) → (us ≡ [] → ⊥) → (before : List Waiting) × (last : Waiting) × (us ≡ before ++ last ∷ [])
has_last [] some = absurd (some refl)
has_last (u ∷ []) some = ([], u, refl)
has_last (u ∷ v ∷ us) some =
    let l = has_last (v ∷ us) (λ e. absurd cc) in
    (u ∷ l.0, l.1, ap (λ (ws : List Waiting). u ∷ ws) l.2)

-- what was received last of the bodies around
pub record Last (us : List Waiting) (fs : List Waiting) (f : Waiting) : Type 0 where
  pub before : List Waiting
  pub last : Waiting
  pub is : us ≡ before ++ last ∷ []
  pub rests : map bare before ≡ fs
  pub same : bare last ≡ f

pub last_of : (us fs : List Waiting) (f : Waiting) → map bare us ≡ fs ++ f ∷ [] → Last us fs f
last_of us fs f h =
    let l = has_last us (λ none. absurd (omega (arith, length-append fs (f ∷ []), ap (λ (ws : List Waiting). length ws) (sym h ∙ ap (map bare) none)))) in
    let same = same_from_push (map bare l.0) fs (bare l.1) f (sym (ap (map bare) l.2 ∙ map_push bare l.0 l.1) ∙ h) in
    record { before = l.0; last = l.1; is = l.2; rests = same.0; same = same.1 }

-- where its sequence has ended with it
last_same : (k : ℕ) (o : Received) (s : Sequel) → ((behind_last k o s).around ≡ o.around) × ((behind_last k o s).body.rest ≡ o.body.rest) × Same o (behind_last k o s)
last_same zero o s = (refl, refl, record { set = refl; before = refl; template = refl; members = refl; start = refl })
last_same (suc n) o s = (refl, refl, record { set = refl; before = refl; template = refl; members = refl; start = refl })

pub closed_same : (o : Received) (ws : List Waiting) (b : Body) (i : Inside) → ((closed_in o ws b i).around ≡ ws) × ((closed_in o ws b i).body.rest ≡ b.rest) × Same o (closed_in o ws b i)
closed_same o ws b in_group = (refl, refl, record { set = refl; before = refl; template = refl; members = refl; start = refl })
closed_same o ws b (in_sequence s) =
    let p = last_same s.left (ended_in o ws b (in_sequence s)) (with_element s (items_of o.body.done)) in
    (p.0, p.1, record { set = p.2.set; before = p.2.before; template = p.2.template; members = p.2.members; start = p.2.start })

-- what it is where none is left
pub closed_none : (o : Received) (ws : List Waiting) (b : Body) (i : Inside) (s : Sequel) → i ≡ in_sequence s → s.left ≡ 0 → closed_in o ws b i ≡ after_sequence (ended_in o ws b (in_sequence s)) (with_element s (items_of o.body.done))
closed_none o ws b i s h none = ap (closed_in o ws b) h ∙ ap (λ (n : ℕ). behind_last n (ended_in o ws b (in_sequence s)) (with_element s (items_of o.body.done))) none

-- ---- the last frame in another's place

pub at_last : (fs fore : List FrameNow) (n : ℕ) (f d : FrameNow) → length fs ≡ n → fs ≡ fore ++ f ∷ [] → (slice_index_or fs (n - 1) d ≡ f) × ((g : FrameNow) → slice_set fs (n - 1) g ≡ fore ++ g ∷ [])
at_last fs fore n f d long h =
    let place : n - 1 ≡ length fore = omega (arith, length-append {A = FrameNow}, long, ap (λ (xs : List FrameNow). length xs) h) in
    rw (place, h) (get_or-append_seam fore f [] d, λ g. set-append_seam fore f [] g)

-- ---- keys

pub served_push : (serves : Key → Bool) (ws : List Waiting) (w : Waiting) → AreAllServed serves ws → IsWaitingServed serves w → AreAllServed serves (ws ++ w ∷ [])
served_push serves [] w h k = (k, tt)
served_push serves (v ∷ ws) w h k = (h.0, served_push serves ws w h.1 k)

pub served_pop : (serves : Key → Bool) (ws : List Waiting) (w : Waiting) → AreAllServed serves (ws ++ w ∷ []) → AreAllServed serves ws × IsWaitingServed serves w
served_pop serves [] w h = (tt, h.0)
served_pop serves (v ∷ ws) w h = let r = served_pop serves ws w h.1 in ((h.0, r.0), r.1)

-- ---- one piece behind the other

pub same_on : {o p q : Received} → Same o p → Same p q → Same o q
same_on h k = record { set = k.set ∙ h.set; before = k.before ∙ h.before; template = k.template ∙ h.template; members = k.members ∙ h.members; start = k.start ∙ h.start }

pub goes_on : (Has Had Later : Received → Type 0) (read reads later : Received → List ℕ → Reads Items) (a b c : List ℕ) → Goes Has read Had reads a b → Goes Had reads Later later b c → Goes Has read Later later a c
goes_on Has Had Later read reads later a b c g h o has =
    let p = g o has in
    let q = h p.0 p.1 in
    (q.0, q.1, same_on p.2 q.2, λ more. p.3 more ∙ q.3 more)

pub none_mapped : {A B : Type 0} (f : A → B) (xs : List A) → map f xs ≡ [] → xs ≡ []
none_mapped f [] h = refl
none_mapped f (x ∷ xs) h = absurd cc

-- ---- at a level

pub last_frames : {w : WalkNow} {s : SequelNow} (l : IsLast w s) → map frame_of w.around.items ≡ map frame_of l.fore ++ frame_of l.frame ∷ []
last_frames l = ap (map frame_of) l.frames ∙ map_push frame_of l.fore l.frame

-- the frame of the element that is open, where another one of its sequence is to come
pub record HasNext (us fs : List Waiting) (t : Sequel) : Type 0 where
  pub fore : List Waiting
  pub frame : Waiting
  pub frames : fs ≡ fore ++ frame ∷ []
  pub last : Last us fore frame
  pub sequel : Sequel
  pub is : last.last.inside ≡ in_sequence sequel
  pub same : bare_sequel sequel ≡ t

abbrev pub has_next : (us : List Waiting) {w : WalkNow} {s : SequelNow} → map bare us ≡ map frame_of w.around.items → IsLast w s → HasNext us (map frame_of w.around.items) (sequel_of s)
has_next us {w} {s} h last =
    let fore = map frame_of last.fore in
    let l = last_of us fore (frame_of last.frame) (h ∙ last_frames last) in
    let e = is_element_of l.last.inside (sequel_of s) (ap (λ (w : Waiting). w.inside) l.same ∙ ap inside_of last.inside) in
    record { fore = fore; frame = frame_of last.frame; frames = last_frames last; last = l; sequel = e.0; is = e.1; same = e.2 }

-- the next one is next in the body that waits
abbrev pub ended_at : (o : Received) (fs : List Waiting) (t : Sequel) (n : HasNext o.around fs t) → IsAtElement (ended_in o n.last.before n.last.last.body (in_sequence n.sequel)) t n.frame.body.rest n.fore
ended_at o fs t n = record { sequel = with_element n.sequel (items_of o.body.done); next = refl; same = n.same; rest = ap (λ (w : Waiting). w.body.rest) n.last.same; around = n.last.rests }

pub left_last : (fs fore : List Waiting) (f : Waiting) → fs ≡ fore ++ f ∷ [] → left_around fs ≡ left_around fore ++ f.bits ∷ []
left_last fs fore f h = ap left_around h ∙ map_push (λ (w : Waiting). w.bits) fore f

module _ (level : Level) where
  -- ---- one piece

  -- at an instruction what is left is that of its body
  top_is : (n : Next) (b : Body) (is : Instructions) (c : Cursor) → n ≡ at_instruction → b.rest ≡ is → top_on level n b c ≡ body_on level (record { rest = is; done = b.done }) c
  top_is n b is c next h = rw (next, h) refl

  -- its first instruction, and what is behind it
  pub piece_on : (ws : List Waiting) (n : Next) (b : Body) (i : Instruction) (is : Instructions) (c : Cursor) → n ≡ at_instruction → b.rest ≡ then_instruction i is
      → all_around level ws (top_on level n b c) ≡ all_around level ws (items_on level is b.done (piece_at level i c))
  piece_on ws n b i is c next first = ap (all_around level ws) (top_is n b _ c next first ∙ after_piece level is b.done (piece_at level i c))

  pub field_on : (ws : List Waiting) (n : Next) (b : Body) (name : List ℕ) (number : ℕ) (presence : Presence) (whole : FieldPart) (is : Instructions) (c d e : Cursor) (v : Option Scalar)
      → n ≡ at_instruction → b.rest ≡ then_instruction (whole_field name number presence whole) is → node_at number c ≡ Ok d → field_part_at level whole d ≡ Ok (v, e)
      → all_around level ws (top_on level n b c) ≡ all_around level ws (body_on level (record { rest = is; done = b.done ++ single v ∷ [] }) e)
  field_on ws n b name number presence whole is c d e v next first h k = piece_on ws n b _ is c next first ∙ rw (h, k) refl

  pub exponent_on : (ws : List Waiting) (n : Next) (b : Body) (name : List ℕ) (number : ℕ) (presence : Presence) (exponent mantissa : FieldPart) (is : Instructions) (c d k : Cursor) (v : Option Scalar) (e : ℤ)
      → n ≡ at_instruction → b.rest ≡ then_instruction (field_in_parts name number presence exponent mantissa) is → v ≡ Some (I32 e) → node_at number c ≡ Ok d → field_part_at level exponent d ≡ Ok (v, k)
      → all_around level ws (top_on level n b c) ≡ all_around level ws (mantissa_on level e mantissa (record { rest = is; done = b.done }) k)
  exponent_on ws n b name number presence exponent mantissa is c d k v e next first there h m = piece_on ws n b _ is c next first ∙ rw (h, m, there) refl

  pub no_exponent_on : (ws : List Waiting) (n : Next) (b : Body) (name : List ℕ) (number : ℕ) (presence : Presence) (exponent mantissa : FieldPart) (is : Instructions) (c d k : Cursor) (v : Option Scalar)
      → n ≡ at_instruction → b.rest ≡ then_instruction (field_in_parts name number presence exponent mantissa) is → v ≡ None → node_at number c ≡ Ok d → field_part_at level exponent d ≡ Ok (v, k)
      → all_around level ws (top_on level n b c) ≡ all_around level ws (body_on level (record { rest = is; done = b.done ++ single None ∷ [] }) k)
  no_exponent_on ws n b name number presence exponent mantissa is c d k v next first there h m = piece_on ws n b _ is c next first ∙ rw (h, m, there) refl

  pub mantissa_on_goes : (ws : List Waiting) (n : Next) (e m : ℤ) (mantissa : FieldPart) (b : Body) (c k : Cursor) → n ≡ at_mantissa e mantissa → field_part_at level mantissa c ≡ Ok (Some (I64 m), k)
      → all_around level ws (top_on level n b c) ≡ all_around level ws (body_on level (with_item b (single (Some (Decimal e m)))) k)
  mantissa_on_goes ws n e m mantissa b c k next h = rw (next, h) refl

  pub mantissa_on_stops : (ws : List Waiting) (n : Next) (e : ℤ) (mantissa : FieldPart) (b : Body) (c : Cursor) (s : Stop) → n ≡ at_mantissa e mantissa → field_part_at level mantissa c ≡ Err s
      → all_around level ws (top_on level n b c) ≡ Err s
  mantissa_on_stops ws n e mantissa b c s next h = rw (next, h) (all_around-stops level ws s)

  pub piece_stops_on : (ws : List Waiting) (n : Next) (b : Body) (i : Instruction) (is : Instructions) (c : Cursor) (s : Stop)
      → n ≡ at_instruction → b.rest ≡ then_instruction i is → piece_at level i c ≡ Err s → all_around level ws (top_on level n b c) ≡ Err s
  piece_stops_on ws n b i is c s next first h = piece_on ws n b i is c next first ∙ rw h (all_around-stops level ws s)

  element_on : (q : Received) {t : Sequel} {is : Instructions} {fs : List Waiting} (a : IsAtElement q t is fs) (c d e : Cursor) → 0 < t.left → node_at t.number c ≡ Ok d → own_map_at level t.number t.own_map d ≡ Ok e
      → left_of level q c ≡ left_of level (in_element q d.bits a.sequel) e
  element_on q a c d e some h k =
      let s = a.sequel in
      ap (λ (n : Next). all_around level q.around (top_on level n q.body c)) a.next
      ∙ ap (all_around level q.around) (some_left level s q.body c (rw (← a.same) at some) ∙ element_around_on level s.number s.own_map s.members (s.left - 1) s.done q.body c d e (rw (← a.same) at h) (rw (← a.same) at k))
      ∙ sym (all_around-more level q.around _ _)

  pub no_node_on : (q : Received) {t : Sequel} {is : Instructions} {fs : List Waiting} (c : Cursor) {f : Stop} → IsAtElement q t is fs → 0 < t.left → node_at t.number c ≡ Err f → left_of level q c ≡ Err f
  no_node_on q c {f} a some h = rw (a.next, some_left level a.sequel q.body c (rw (← a.same) at some), rw (← a.same) at h) (all_around-stops level q.around f)

  pub no_map_on : (q : Received) {t : Sequel} {is : Instructions} {fs : List Waiting} (c : Cursor) {d : Cursor} {f : Stop} → IsAtElement q t is fs → 0 < t.left → node_at t.number c ≡ Ok d → own_map_at level t.number t.own_map d ≡ Err f → left_of level q c ≡ Err f
  no_map_on q c {d} {f} a some h k =
      rw (a.next, some_left level a.sequel q.body c (rw (← a.same) at some), rw (← a.same) at h, rw (← a.same) at k) (all_around-stops level q.around f)

  -- in an element, from where it was next
  pub enters : {R : Type 0} (Has : Having R) (w : WalkNow) {v : WalkNow} (s : R) (d : Dictionary) (o q : Received) (bytes rest : List ℕ) {frames : List FrameNow} {outer own : List Bool} {left : ℕ} {t : Sequel} {is : Instructions}
      (a : IsAtElement q t is (map frame_of frames)) → Same o q → ((b : List ℕ) → reads_on level w d o b ≡ left_of level q (cursor d outer left b))
      → 0 < t.left → 0 < left → IsOpened frames outer left t.number t.members is (in_sequence (fewer t)) own v
      → ((more : List ℕ) → own_map_at level t.number t.own_map (cursor d outer (left - 1) (bytes ++ more)) ≡ Ok (cursor d own (left - 1) (rest ++ more)))
      → (t.own_map ≡ a.sequel.own_map → 0 < a.sequel.left → Has s (in_element q outer a.sequel) d)
      → (p : Received) × At Has v s d p × Same o p × ((more : List ℕ) → reads_on level w d o (bytes ++ more) ≡ reads_on level v d p (rest ++ more))
  enters Has w s d o q bytes rest {outer = outer} {left = left} a same reads some spare end goes has = (
    in_element q outer a.sequel,
    (record { next = ap next_of (sym end.next); rest = ap (λ (s : Sequel). s.members) a.same ∙ sym end.rest; around = around_element q outer a ∙ sym end.around }, has (sym (ap (λ (s : Sequel). s.own_map) a.same)) (rw (← a.same) at some)),
    record { set = same.set; before = same.before; template = same.template; members = same.members; start = same.start },
    λ more. rw (end.bits, end.spare) (reads (bytes ++ more) ∙ element_on q a _ _ _ some (count_goes _ left d outer (bytes ++ more) spare) (goes more)),
  )

  pub no_more_on : (ws : List Waiting) (n : Next) (b : Body) (s : Sequel) (c : Cursor) → n ≡ at_element s → s.left ≡ 0
      → all_around level ws (top_on level n b c) ≡ all_around level ws (body_on level (with_item b (sequence_elements (elements_of s.done))) c)
  no_more_on ws n b s c next none = rw (next, none) (ap (λ (es : Elements). all_around level ws (body_on level (with_item b (sequence_elements es)) c)) (elements_before-end s.done))

  -- ---- the end of a segment

  -- what is left behind it, in the body that waited
  ended_reads : (o : Received) (ws : List Waiting) (b : Body) (i : Inside) (c : Cursor) → left_of level (ended_in o ws b i) c ≡ all_around level ws (behind_inside level i b (items_of o.body.done) c)
  ended_reads o ws b in_group c = refl
  ended_reads o ws b (in_sequence s) c = refl

  pub end_on : (o : Received) (ws fs : List Waiting) (f : Waiting) (l : Last o.around fs f) (c : Cursor) → IsLeftClear level c.bits → o.next ≡ at_instruction → o.body.rest ≡ no_instructions
      → left_of level o c ≡ left_of level (ended_in o l.before l.last.body l.last.inside) (under_bits f.bits c)
  end_on o ws fs f l c clear next rest =
      ap (λ (n : Next). all_around level o.around (top_on level n o.body c)) next
      ∙ end_goes level o.around l.before l.last o.body c clear l.is rest
      ∙ ap (λ (w : Waiting). all_around level l.before (behind_inside level l.last.inside l.last.body (items_of o.body.done) (under_bits w.bits c))) l.same
      ∙ sym (ended_reads o l.before l.last.body l.last.inside (under_bits f.bits c))

  last_reads : (k : ℕ) (o : Received) (s : Sequel) (c : Cursor) → o.next ≡ at_element s → s.left ≡ k → left_of level o c ≡ left_of level (behind_last k o s) c
  last_reads zero o s c next none = no_more_on o.around o.next o.body s c next none
  last_reads (suc n) o s c next some = refl

  closed_reads : (o : Received) (ws : List Waiting) (b : Body) (i : Inside) (c : Cursor) → left_of level (ended_in o ws b i) c ≡ left_of level (closed_in o ws b i) c
  closed_reads o ws b in_group c = refl
  closed_reads o ws b (in_sequence s) c = last_reads s.left (ended_in o ws b (in_sequence s)) (with_element s (items_of o.body.done)) c refl refl

  pub closed_on : (o : Received) (ws fs : List Waiting) (f : Waiting) (l : Last o.around fs f) (c : Cursor) → IsLeftClear level c.bits → o.next ≡ at_instruction → o.body.rest ≡ no_instructions
      → left_of level o c ≡ left_of level (closed_in o l.before l.last.body l.last.inside) (under_bits f.bits c)
  closed_on o ws fs f l c clear next rest = end_on o ws fs f l c clear next rest ∙ closed_reads o l.before l.last.body l.last.inside (under_bits f.bits c)

  -- the end of a segment that leaves a bit that is 1
  pub end_on_stops : (o : Received) (fs : List Waiting) (number : ℕ) (c : Cursor) → map bare o.around ≡ fs → (fs ≡ [] → ⊥) → ((ws : List Waiting) (w : Waiting) → fs ≡ ws ++ w ∷ [] → number ≡ w.number)
      → o.next ≡ at_instruction → o.body.rest ≡ no_instructions → level ≡ Strict → some_set c.bits ≡ true
      → left_of level o c ≡ stopped number c.bytes R8
  end_on_stops o fs number c same some named next rest strict left =
      let l = has_last o.around (λ none. some (sym same ∙ ap (map bare) none)) in
      let numbered = named (map bare l.0) (bare l.1) (sym same ∙ ap (map bare) l.2 ∙ map_push bare l.0 l.1) in
      ap (all_around level o.around) (top_is o.next o.body no_instructions c next rest ∙ whole_goes level o.body.done c)
      ∙ end_stops level o.around l.0 l.1 number _ _ l.2 numbered (set_stops level number (items_of o.body.done) c strict left)

  -- behind the element that is open its sequence goes on
  pub sequel_on : (o : Received) (fs : List Waiting) (t : Sequel) (n : HasNext o.around fs t) (c : Cursor) → IsLeftClear level c.bits → o.next ≡ at_instruction → o.body.rest ≡ no_instructions
      → left_of level o c ≡ all_around level n.last.before (top_on level (at_element (with_element n.sequel (items_of o.body.done))) n.last.last.body (under_bits n.frame.bits c))
  sequel_on o fs t n c clear next rest =
      end_on o n.fore n.fore n.frame n.last c clear next rest
      ∙ ap (λ (i : Inside). left_of level (ended_in o n.last.before n.last.last.body i) (under_bits n.frame.bits c)) n.is

  -- the end of the message's own body
  pub all_read : (us : List Waiting) (n : Next) (b : Body) (c : Cursor) → us ≡ [] → n ≡ at_instruction → b.rest ≡ no_instructions → all_around level us (top_on level n b c) ≡ Ok (items_of b.done, c)
  all_read us n b c none next rest = ap (λ (ws : List Waiting). all_around level ws (top_on level n b c)) none ∙ top_is n b no_instructions c next rest ∙ whole_goes level b.done c
