-- A piece that waits for more bytes has few of them before it.
use Rattle.fast_stream.proofs.Common.{◌≡◌, ◌≤◌, ◌<◌, ◌+◌, take, inl, inr, ℕ, zero, suc, ℤ, Bool, true, false, List, [], length, Option, Some, None, Result, Ok, Err, refl, sym, ap, subst, ◌∙◌, arith, Level, Usual, Strict, Scalar, U32, I32, U64, I64, Decimal, Ascii, Unicode, Bytes, FieldPart, Instruction, Instructions, whole_field, field_in_parts, group_of, sequence_of, no_instructions, then_instruction, part_needs_bit, is_optional, has_map, Resolved, Dictionary, entry_at, ◌>>=◌, map_at, WireFault, err_is, FieldFault, field_at, field_waits, Cause, R7, R8, Truncated, Limit, Memory, D9, Place, Items, node_limit, bit_for, members_of, identifier, cause_of_wire, cause_of_field, Stop, MessageStop, Cursor, Reads, stopped, placed, counted, node_at, field_part_at, never, decimal_of, mantissa_at, own_map_at, end_at, closing, segment_at, each_at, elements_at, group_at, behind_bit, piece_at, body_at, known, named_at, head_at, in_template, message_at, judge, verdict, overlong_map, some_set, entity_at, EntityFault, Framing, Plain, Blocks, Mode, Stand, OverlongSize, SizeFault, in_size, in_message, StopsIn, FirstFault, IsMessageReader, if◌then◌else◌, nat_le}
use Rattle.fast_stream.proofs.MapFaults.{map_refused, entity_refused}
use Rattle.fast_stream.proofs.BlockReaders.{wants_more}

module _ (level : Level) where
  -- ---- steps

  -- where the bytes end before a piece does, they are few from the piece on
  abbrev pub IsShort : {A : Type 0} → Result A Stop → Type 0
  IsShort r = (s : Stop) → r ≡ Err s → s.cause ≡ Truncated → s.left ≤ 65554

  pub short_ok : {A : Type 0} (x : A) → IsShort (Ok x)
  short_ok x s e t = absurd cc

  pub short_then : {A B : Type 0} (r : Result A Stop) (k : A → Result B Stop) → IsShort r → ((x : A) → IsShort (k x)) → IsShort (r >>= k)
  short_then (Ok x) k h later s e t = later x s e t
  short_then {A} {B} (Err d) k h later s e t = h s (ap (λ (z : Stop). Err z) (err_is {A = B} d s e)) t

  short_stopped : {A : Type 0} (number : ℕ) (bytes : List ℕ) (cause : Cause) → (cause ≡ Truncated → length bytes ≤ 65554) → IsShort (stopped {A = A} number bytes cause)
  short_stopped {A} number bytes cause h s e t =
      subst (λ (z : Stop). z.cause ≡ Truncated → z.left ≤ 65554) (err_is {A = A} (record { cause = cause; instruction = number; left = length bytes }) s e) h t

  short_placed : {A F : Type 0} (cause_of : F → Cause) (number : ℕ) (bytes : List ℕ) (r : Result A F) → ((f : F) → r ≡ Err f → cause_of f ≡ Truncated → length bytes ≤ 65554) → IsShort (placed cause_of number bytes r)
  short_placed cause_of number bytes (Ok x) h = short_ok x
  short_placed cause_of number bytes (Err f) h = short_stopped number bytes (cause_of f) (h f refl)

  -- ---- pieces

  wire_waits : (f : WireFault) → cause_of_wire f ≡ Truncated → f ≡ WireFault.NeedMore
  wire_waits WireFault.NeedMore e = refl
  wire_waits WireFault.TooLong e = absurd cc
  wire_waits WireFault.Range e = absurd cc
  wire_waits WireFault.NotUtf8 e = absurd cc
  wire_waits WireFault.Memory e = absurd cc

  part_waits : (f : FieldFault) → cause_of_field f ≡ Truncated → f ≡ FieldFault.NeedMore
  part_waits FieldFault.NeedMore e = refl
  part_waits FieldFault.R6 e = absurd cc
  part_waits FieldFault.R9 e = absurd cc
  part_waits FieldFault.D2 e = absurd cc
  part_waits FieldFault.D4 e = absurd cc
  part_waits FieldFault.D5 e = absurd cc
  part_waits FieldFault.D6 e = absurd cc
  part_waits FieldFault.D7 e = absurd cc
  part_waits FieldFault.R1 e = absurd cc
  part_waits FieldFault.R2 e = absurd cc
  part_waits FieldFault.Limit e = absurd cc
  part_waits FieldFault.Memory e = absurd cc

  -- a map that waits has at most 255 bytes
  map_few : (bytes : List ℕ) (f : WireFault) → map_at bytes ≡ Err f → cause_of_wire f ≡ Truncated → length bytes ≤ 65554
  map_few bytes f e t =
      let few = (map_refused bytes WireFault.NeedMore (e ∙ ap (λ (g : WireFault). Err g) (wire_waits f t))).0 in
      omega (arith, few)

  part_few : (p : FieldPart) (d : Dictionary) (bits : List Bool) (bytes : List ℕ) (f : FieldFault) → field_at level p (entry_at d p.key) (bit_for (part_needs_bit p) bits) bytes ≡ Err f → cause_of_field f ≡ Truncated → length bytes ≤ 65554
  part_few p d bits bytes f e t = field_waits level p (entry_at d p.key) (bit_for (part_needs_bit p) bits) bytes (e ∙ ap (λ (g : FieldFault). Err g) (part_waits f t))

  pub part_short : (p : FieldPart) (c : Cursor) → IsShort (field_part_at level p c)
  unfolding field_part_at
  part_short p c =
      short_then (placed cause_of_field p.number c.bytes (field_at level p (entry_at c.dictionary p.key) (bit_for (part_needs_bit p) c.bits) c.bytes)) _
      (short_placed cause_of_field p.number c.bytes (field_at level p (entry_at c.dictionary p.key) (bit_for (part_needs_bit p) c.bits) c.bytes) (part_few p c.dictionary c.bits c.bytes))
      (λ v. short_ok _)

  never_short : {A : Type 0} (c : Cursor) → IsShort (never {A = A} c)
  never_short c = short_stopped 0 c.bytes Memory (λ e. absurd cc)

  pub decimal_short : (e : ℤ) (x : Option Scalar × Cursor) → IsShort (decimal_of e x)
  decimal_short e (Some (I64 m), c) = short_ok _
  decimal_short e (None, c) = never_short c
  decimal_short e (Some (U32 v), c) = never_short c
  decimal_short e (Some (I32 v), c) = never_short c
  decimal_short e (Some (U64 v), c) = never_short c
  decimal_short e (Some (Decimal x m), c) = never_short c
  decimal_short e (Some (Ascii v), c) = never_short c
  decimal_short e (Some (Unicode v), c) = never_short c
  decimal_short e (Some (Bytes v), c) = never_short c

  mantissa_short : (p : FieldPart) (x : Option Scalar × Cursor) → IsShort (mantissa_at level p x)
  mantissa_short p (None, c) = short_ok _
  mantissa_short p (Some (I32 e), c) = short_then (field_part_at level p c) _ (part_short p c) (decimal_short e)
  mantissa_short p (Some (U32 v), c) = never_short c
  mantissa_short p (Some (U64 v), c) = never_short c
  mantissa_short p (Some (I64 v), c) = never_short c
  mantissa_short p (Some (Decimal x m), c) = never_short c
  mantissa_short p (Some (Ascii v), c) = never_short c
  mantissa_short p (Some (Unicode v), c) = never_short c
  mantissa_short p (Some (Bytes v), c) = never_short c

  counted_short : (number n : ℕ) (c : Cursor) → IsShort (counted number n c)
  counted_short number zero c = short_stopped number c.bytes Limit (λ e. absurd cc)
  counted_short number (suc n) c = short_ok _

  verdict_few : (bytes : List ℕ) (f : Cause) (r : Result (List ℕ × List ℕ) WireFault) → entity_at 256 bytes ≡ r → verdict overlong_map cause_of_wire R7 r ≡ Err f → f ≡ Truncated → length bytes ≤ 65554
  verdict_few bytes f (Err w) h e t =
      let is : cause_of_wire w ≡ f = cc in
      let few = (entity_refused 256 bytes WireFault.NeedMore (h ∙ ap (λ (g : WireFault). Err g) (wire_waits w (is ∙ t)))).0 in
      omega (arith, few)
  verdict_few bytes f (Ok x) h e t = elim (overlong_map x.0) as (λ o. (if o then Err R7 else Ok (tt {0})) ≡ Err f → length bytes ≤ 65554) [
    | true ↦ λ e. let is : R7 ≡ f = cc in absurd (let no : R7 ≡ Truncated = is ∙ t in cc)
    | false ↦ λ e. absurd cc
  ] e

  judge_few : (l : Level) (bytes : List ℕ) (f : Cause) → judge l 256 overlong_map cause_of_wire R7 bytes ≡ Err f → f ≡ Truncated → length bytes ≤ 65554
  judge_few Usual bytes f e t = absurd cc
  judge_few Strict bytes f e t = verdict_few bytes f (entity_at 256 bytes) refl e t

  pub end_short : {A : Type 0} (number : ℕ) (x : A × Cursor) (t : Bool) → IsShort (if t then stopped number x.1.bytes R8 else Ok x)
  end_short number x true = short_stopped number x.1.bytes R8 (λ e. absurd cc)
  end_short number x false = short_ok x

  pub closing_short : {A : Type 0} (l : Level) (number : ℕ) (read : Cursor → Reads A) (c : Cursor) → ((j : Cursor) → IsShort (read j)) → IsShort (closing l number read c)
  closing_short Usual number read c h = h c
  closing_short Strict number read c h = short_then (read c) (end_at number) (h c) (λ x. end_short number x (some_set x.1.bits))

  own_map_short : (number : ℕ) (has : Bool) (c : Cursor) → IsShort (own_map_at level number has c)
  own_map_short number true c = short_then (placed (λ (f : Cause). f) number c.bytes (judge level 256 overlong_map cause_of_wire R7 c.bytes)) _ (short_placed (λ (f : Cause). f) number c.bytes (judge level 256 overlong_map cause_of_wire R7 c.bytes) (judge_few level c.bytes)) (λ ok. short_then (placed cause_of_wire number c.bytes (map_at c.bytes)) _ (short_placed cause_of_wire number c.bytes (map_at c.bytes) (map_few c.bytes)) (λ m. short_ok _))
  own_map_short number false c = short_ok _

  pub segment_short : {A : Type 0} (number : ℕ) (has : Bool) (read : Cursor → Reads A) (c : Cursor) → ((j : Cursor) → IsShort (read j)) → IsShort (segment_at level number has read c)
  segment_short number has read c h =
      short_then (own_map_at level number has c >>= read) _ (short_then (own_map_at level number has c) read (own_map_short number has c) h) (λ r. short_ok _)

  pub each_short : (number : ℕ) (one : Cursor → Reads Items) → ((j : Cursor) → IsShort (one j)) → (n : ℕ) (c : Cursor) → IsShort (each_at number one n c)
  each_short number one h zero c = short_ok _
  each_short number one h (suc n) c =
      short_then (node_at number c >>= one) _ (short_then (node_at number c) one (counted_short number c.spare c) h)
      (λ r. short_then (each_at number one n r.1) _ (each_short number one h n r.1) (λ rs. short_ok _))

  elements_short : (number : ℕ) (one : Cursor → Reads Items) → ((j : Cursor) → IsShort (one j)) → (x : Option Scalar × Cursor) → IsShort (elements_at number one x)
  elements_short number one h (None, c) = short_ok _
  elements_short number one h (Some (U32 n), c) = short_then (each_at number one n c) _ (each_short number one h n c) (λ es. short_ok _)
  elements_short number one h (Some (I32 v), c) = never_short c
  elements_short number one h (Some (U64 v), c) = never_short c
  elements_short number one h (Some (I64 v), c) = never_short c
  elements_short number one h (Some (Decimal x m), c) = never_short c
  elements_short number one h (Some (Ascii v), c) = never_short c
  elements_short number one h (Some (Unicode v), c) = never_short c
  elements_short number one h (Some (Bytes v), c) = never_short c

  group_short : (present : Bool) (read : Cursor → Reads Items) (c : Cursor) → ((j : Cursor) → IsShort (read j)) → IsShort (group_at present read c)
  group_short false read c h = short_ok _
  group_short true read c h = short_then (read c) _ (h c) (λ ns. short_ok _)

  mutual
    piece_short : (i : Instruction) (c : Cursor) → IsShort (piece_at level i c)
    piece_short (whole_field name number presence whole) c =
        short_then (node_at number c >>= field_part_at level whole) _ (short_then (node_at number c) (field_part_at level whole) (counted_short number c.spare c) (part_short whole)) (λ v. short_ok _)
    piece_short (field_in_parts name number presence exponent mantissa) c =
        short_then (node_at number c >>= field_part_at level exponent) (mantissa_at level mantissa) (short_then (node_at number c) (field_part_at level exponent) (counted_short number c.spare c) (part_short exponent)) (mantissa_short mantissa)
    piece_short (group_of name number presence members) c =
        short_then (node_at number c) _ (counted_short number c.spare c)
        (λ k. group_short (bit_for (is_optional presence) k.bits) (segment_at level number (has_map members) (closing level number (λ j. body_at level members j))) (behind_bit (is_optional presence) k)
        (λ j. segment_short number (has_map members) (closing level number (λ j. body_at level members j)) j (λ j. closing_short level number (λ j. body_at level members j) j (λ j. body_short members j))))
    piece_short (sequence_of name number presence length members) c =
        short_then (node_at number c >>= field_part_at level length) _ (short_then (node_at number c) (field_part_at level length) (counted_short number c.spare c) (part_short length))
        (elements_short number (segment_at level number (has_map members) (closing level number (λ j. body_at level members j)))
        (λ j. segment_short number (has_map members) (closing level number (λ j. body_at level members j)) j (λ j. closing_short level number (λ j. body_at level members j) j (λ j. body_short members j))))

    pub body_short : (is : Instructions) (c : Cursor) → IsShort (body_at level is c)
    body_short no_instructions c = short_ok _
    body_short (then_instruction i is) c =
        short_then (piece_at level i c) _ (piece_short i c) (λ n. short_then (body_at level is n.1) _ (body_short is n.1) (λ ns. short_ok _))

  -- ---- messages

  -- the same of a message
  abbrev pub IsShortMessage : {A : Type 0} → Result A MessageStop → Type 0
  IsShortMessage r = (m : MessageStop) → r ≡ Err m → m.stop.cause ≡ Truncated → m.stop.left ≤ 65554

  pub short_in : {A : Type 0} (id : ℕ) (r : Result A Stop) → IsShort r → IsShortMessage (in_template id r)
  short_in id (Ok x) h m e t = absurd cc
  short_in {A} id (Err s) h m e t =
      subst (λ (z : MessageStop). z.stop.cause ≡ Truncated → z.stop.left ≤ 65554) (err_is {A = A} (record { template = id; stop = s }) m e) (h s refl) t

  pub message_then : {A B : Type 0} (r : Result A MessageStop) (k : A → Result B MessageStop) → IsShortMessage r → ((x : A) → IsShortMessage (k x)) → IsShortMessage (r >>= k)
  message_then (Ok x) k h later m e t = later x m e t
  message_then {A} {B} (Err d) k h later m e t = h m (ap (λ (z : MessageStop). Err z) (err_is {A = B} d m e)) t

  pub message_ok : {A : Type 0} (x : A) → IsShortMessage (Ok x)
  message_ok x m e t = absurd cc

  known_short : (id : ℕ) (bytes : List ℕ) (c : Cursor) (o : Option Instructions) → IsShort (known id bytes c o)
  known_short id bytes c None = short_stopped 0 bytes D9 (λ e. absurd cc)
  known_short id bytes c (Some members) = short_ok _

  named_short : (set : List Resolved) (bytes : List ℕ) (x : Option Scalar × Cursor) → IsShort (named_at set bytes x)
  named_short set bytes (Some (U32 id), c) = known_short id bytes c (members_of set id)
  named_short set bytes (None, c) = never_short c
  named_short set bytes (Some (I32 v), c) = never_short c
  named_short set bytes (Some (U64 v), c) = never_short c
  named_short set bytes (Some (I64 v), c) = never_short c
  named_short set bytes (Some (Decimal x m), c) = never_short c
  named_short set bytes (Some (Ascii v), c) = never_short c
  named_short set bytes (Some (Unicode v), c) = never_short c
  named_short set bytes (Some (Bytes v), c) = never_short c

  pub identifier_short : (set : List Resolved) (c : Cursor) → IsShort (field_part_at level identifier c >>= named_at set c.bytes)
  identifier_short set c = short_then (field_part_at level identifier c) (named_at set c.bytes) (part_short identifier c) (named_short set c.bytes)

  -- where the reading of a message starts
  abbrev start_of : Dictionary → List ℕ → Cursor
  start_of d bytes = record { dictionary = d; bits = []; spare = node_limit; bytes = bytes }

  head_short : (set : List Resolved) (d : Dictionary) (bytes : List ℕ) → IsShort (head_at level set d bytes)
  unfolding head_at
  head_short set d bytes = short_then (own_map_at level 0 true (start_of d bytes)) _ (own_map_short 0 true (start_of d bytes)) (identifier_short set)

  -- where a message stops for want of bytes they are few from its piece on
  pub message_short : (set : List Resolved) (d : Dictionary) (bytes : List ℕ) → IsShortMessage (message_at level set d bytes)
  unfolding message_at
  message_short set d bytes =
      message_then (in_template 0 (head_at level set d bytes)) _ (short_in 0 (head_at level set d bytes) (head_short set d bytes))
      (λ h. message_then (in_template h.0.template (closing level 0 (λ j. body_at level h.0.members j) h.1)) _ (short_in h.0.template (closing level 0 (λ j. body_at level h.0.members j) h.1) (closing_short level 0 (λ j. body_at level h.0.members j) h.1 (λ j. body_short h.0.members j))) (λ r. message_ok _))

  -- ---- streams

  size_few : (bytes : List ℕ) → SizeFault level bytes Truncated → length bytes ≤ 65554
  size_few bytes (inl h) =
      let few = (subst (λ (f : WireFault). EntityFault 10 bytes 0 f) (wire_waits h.0 (sym h.2)) h.1).0 in
      omega (arith, few)
  size_few bytes (inr (inl h)) = no_long_size level bytes h
    where
      no_long_size : (l : Level) (bytes : List ℕ) → OverlongSize l bytes Truncated → length bytes ≤ 65554
      no_long_size Usual bytes h = absurd h
      no_long_size Strict bytes h = absurd (let no = h.0 in cc)
  size_few bytes (inr (inr h)) = absurd (let no = h.0 in cc)

  module _ (set : List Resolved) (is : IsMessageReader level set) where
    next_few : (f : Framing) (s : Stand) (rest : List ℕ) (m : MessageStop) → StopsIn f level set s rest m → m.stop.cause ≡ Truncated → m.stop.left ≤ 65554
    next_few Plain s rest m h t = message_short set s.dictionary rest m (is.stopped s.dictionary rest m h) t
    next_few Blocks s rest m (in_size none template h) t =
        let few = size_few rest (subst (λ (c : Cause). SizeFault level rest c) t h.fault) in
        let left = h.left_is in
        omega (arith, few, left)
    next_few Blocks s rest m (in_message room size back inner parts opens stops seen) t =
        let w = wants_more (nat_le room (length back)) inner.stop.cause (sym (ap (λ (y : MessageStop). y.stop.cause) seen) ∙ t) in
        let few = message_short set s.dictionary (take room back) inner (is.stopped s.dictionary (take room back) inner stops) w.1 in
        let left = ap (λ (y : MessageStop). y.stop.left) seen in
        let not_all = w.0 in
        let less : length back < room = grind (arith, not_all) in
        omega (arith, few, left, less)

pub fault_is_short : (mode : Mode) (set : List Resolved) → IsMessageReader mode.level set → (stream : List ℕ) (place : Place) → FirstFault mode set stream place Truncated → length stream ≤ place.offset + 65554
fault_is_short mode set is stream place h =
    let few = next_few mode.level set is mode.framing h.stand h.rest h.stop h.stops (sym h.cause_is) in
    let offset = ap (λ (p : Place). p.offset) h.place_is in
    omega (arith, few, offset)
