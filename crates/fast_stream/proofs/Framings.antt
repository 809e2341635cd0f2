-- What is carried in plain framing and in blocks.
use Rattle.fast_stream.proofs.Common.{◌≡◌, ℕ, zero, suc, ◌+◌, ◌<◌, ◌≤◌, List, [], ◌∷◌, ◌++◌, inl, inr, length, Ok, refl, ap, ap₂, subst, ◌∙◌, sym, arith, append_assoc, length-append, WireFault, Level, unsigned_at, unsigned_forms, ok_is, Resolved, Dictionary, Content, Cause, Place, Stand, outside, at_start, IsSize, Opens, Framing, Plain, Blocks, Mode, Usual, AllByRecursion, flat_map}
use Rattle.fast_stream.specs.Streams.{Carries as CarriesPlainly, CarriesFrom as CarriesPlainlyFrom}
use Rattle.fast_stream.specs.Faults.{FirstFault as FirstPlainFault}
use Rattle.std.specs.FinMap as map
use Rattle.fast_stream.specs.Modes.{plainly, in_blocks, Carries, CarriesFrom, GoesOn, FirstFault, IsWithoutSizes}
use Rattle.fast_stream.proofs.Leaves.{same_dictionary}
use Rattle.fast_stream.proofs.Levels.{size_usually, usually, from_usually}

module _ (level : Level) (set : List Resolved) where
  -- ---- plain framing

  pub in_mode_from : (messages : List Content) (d after : Dictionary) (bytes : List ℕ) → CarriesPlainlyFrom level set d bytes messages after → CarriesFrom (plainly level) set (outside d) bytes messages (outside after)
  in_mode_from [] d after bytes h = (h.0, ap outside h.1)
  in_mode_from (m ∷ ms) d after bytes h =
      record { between = outside h.between; front = h.front; back = h.back; parts = h.parts; first = (h.first, refl); second = in_mode_from ms h.between after h.back h.second }

  pub from_mode_from : (messages : List Content) (s after : Stand) (bytes : List ℕ) → CarriesFrom (plainly level) set s bytes messages after → CarriesPlainlyFrom level set s.dictionary bytes messages after.dictionary
  from_mode_from [] s after bytes h = (h.0, ap (λ (t : Stand). t.dictionary) h.1)
  from_mode_from (m ∷ ms) s after bytes h =
      record { between = h.between.dictionary; front = h.front; back = h.back; parts = h.parts; first = h.first.0; second = from_mode_from ms h.between after h.back h.second }

  pub in_mode : (stream : List ℕ) (messages : List Content) → CarriesPlainly level set stream messages → Carries (plainly level) set stream messages
  in_mode stream messages h = (h.0, in_mode_from messages _ h.0 stream h.1)

  pub from_mode : (stream : List ℕ) (messages : List Content) → Carries (plainly level) set stream messages → CarriesPlainly level set stream messages
  from_mode stream messages h = (h.0, from_mode_from messages at_start (outside h.0) stream h.1)

  -- no block is open in plain framing
  pub none_left : (messages : List Content) (s after : Stand) (bytes : List ℕ) → s.left ≡ 0 → CarriesFrom (plainly level) set s bytes messages after → after.left ≡ 0
  none_left [] s after bytes none h = ap (λ (t : Stand). t.left) h.1 ∙ none
  none_left (m ∷ ms) s after bytes none h = none_left ms h.between after h.back h.first.1 h.second

  pub fault_in_mode : (stream : List ℕ) (place : Place) (cause : Cause) → FirstPlainFault level set stream place cause → FirstFault (plainly level) set stream place cause
  fault_in_mode stream place cause h = record {
    messages = h.messages;
    stand = outside h.dictionary;
    front = h.front;
    rest = h.rest;
    stop = h.stop;
    parts = h.parts;
    carried = in_mode_from h.messages map.empty h.dictionary h.front h.carried;
    goes_on = inl h.some;
    stops = h.stops;
    cause_is = h.cause_is;
    place_is = h.place_is;
  }

  has_bytes : (s : Stand) (rest : List ℕ) → s.left ≡ 0 → GoesOn s rest → 0 < length rest
  has_bytes s rest none (inl h) = h
  has_bytes s rest none (inr h) = absurd (omega (arith, none, h))

  pub fault_from_mode : (stream : List ℕ) (place : Place) (cause : Cause) → FirstFault (plainly level) set stream place cause → FirstPlainFault level set stream place cause
  fault_from_mode stream place cause h = record {
    messages = h.messages;
    dictionary = h.stand.dictionary;
    front = h.front;
    rest = h.rest;
    stop = h.stop;
    parts = h.parts;
    carried = from_mode_from h.messages at_start h.stand h.front h.carried;
    some = has_bytes h.stand h.rest (none_left h.messages at_start h.stand h.front refl h.carried) h.goes_on;
    stops = h.stops;
    cause_is = h.cause_is;
    place_is = h.place_is;
  }

  -- ---- what is carried in blocks is carried in plain framing once the sizes are left out

  -- what is left of the open block, and the blocks behind it
  pub record FromBlock (left : ℕ) (bytes plain : List ℕ) : Type 0 where
    pub first : List ℕ
    pub others : List ℕ
    pub plain_others : List ℕ
    pub stream_is : bytes ≡ first ++ others
    pub plain_is : plain ≡ first ++ plain_others
    pub size : length first ≡ left
    pub behind : IsWithoutSizes level others plain_others

  -- a message is put in front, with its block's size where it is the block's first
  one_more : (left room after : ℕ) (size form back plain : List ℕ) → Opens level left size room → room ≡ length form + after → FromBlock after back plain → FromBlock left (size ++ form ++ back) (form ++ plain)
  one_more zero room after size form back plain h within b =
      let long : room ≡ length (form ++ b.first) = let e = length-append form b.first in let f = b.size in omega (arith, within, e, f) in
      record {
        first = [];
        others = size ++ form ++ back;
        plain_others = form ++ plain;
        stream_is = refl;
        plain_is = refl;
        size = refl;
        behind = record {
          blocks = (size, form ++ b.first) ∷ b.behind.blocks;
          sizes = ((subst (λ (n : ℕ). IsSize level size n) long h.0, subst (λ (n : ℕ). 0 < n) long h.1), b.behind.sizes);
          stream_is =
              ap (λ (z : List ℕ). size ++ form ++ z) (b.stream_is ∙ ap (λ (z : List ℕ). b.first ++ z) b.behind.stream_is)
              ∙ append_assoc size form (b.first ++ flat_map (λ b. b.0 ++ b.1) b.behind.blocks)
              ∙ ap (λ (z : List ℕ). size ++ z) (sym (append_assoc form b.first (flat_map (λ b. b.0 ++ b.1) b.behind.blocks)))
              ∙ sym (append_assoc size (form ++ b.first) (flat_map (λ b. b.0 ++ b.1) b.behind.blocks));
          plain_is =
              ap (λ (z : List ℕ). form ++ z) (b.plain_is ∙ ap (λ (z : List ℕ). b.first ++ z) b.behind.plain_is)
              ∙ sym (append_assoc form b.first (flat_map (λ b. b.1) b.behind.blocks));
        };
      }
  one_more (suc left) room after size form back plain h within b =
      let none : size ++ form ++ back ≡ form ++ back = ap (λ (z : List ℕ). z ++ form ++ back) h.0 in
      record {
        first = form ++ b.first;
        others = b.others;
        plain_others = b.plain_others;
        stream_is = none ∙ ap (λ (z : List ℕ). form ++ z) b.stream_is ∙ sym (append_assoc form b.first b.others);
        plain_is = ap (λ (z : List ℕ). form ++ z) b.plain_is ∙ sym (append_assoc form b.first b.plain_others);
        size = let e = length-append form b.first in let f = b.size in let g = h.1 in omega (arith, within, e, f, g);
        behind = b.behind;
      }

  -- Blocks may be cut behind any message; where the last one is whole, the messages alone are the stream without its sizes.
  pub without_sizes : (messages : List Content) (s after : Stand) (bytes : List ℕ) → CarriesFrom (in_blocks level) set s bytes messages after
      → (plain : List ℕ) × (length plain ≤ length bytes) × (after.left ≡ 0 → FromBlock s.left bytes plain) × CarriesFrom (plainly level) set (outside s.dictionary) plain messages (outside after.dictionary)
  without_sizes [] s after bytes h = (
    [],
    omega arith,
    λ whole. record { first = []; others = []; plain_others = []; stream_is = h.0; plain_is = refl; size = sym (sym (ap (λ (t : Stand). t.left) h.1) ∙ whole); behind = record { blocks = []; sizes = tt; stream_is = refl; plain_is = refl } },
    (refl, ap (λ (t : Stand). outside t.dictionary) h.1),
  )
  without_sizes (m ∷ ms) s after bytes h =
      let one = h.first in
      let later = without_sizes ms h.between after h.back h.second in
      let whole : bytes ≡ one.size ++ one.form ++ h.back = h.parts ∙ ap (λ (z : List ℕ). z ++ h.back) one.parts in (
        one.form ++ later.0,
        (
            let few = later.1 in
            let all = ap (λ (z : List ℕ). length z) whole in
            let front = length-append (one.size ++ one.form) h.back in
            let head = length-append one.size one.form in
            let plain_size = length-append one.form later.0 in
            omega (arith, few, all, front, head, plain_size)
            ),
        λ ends. subst (λ (z : List ℕ). FromBlock s.left z (one.form ++ later.0)) (sym whole) (one_more s.left one.room h.between.left one.size one.form h.back later.0 one.opens one.within (later.2 ends)),
        record { between = outside h.between.dictionary; front = one.form; back = later.0; parts = refl; first = (one.message, refl); second = later.3 },
      )

  all_blocks : (bytes plain : List ℕ) → FromBlock 0 bytes plain → IsWithoutSizes level bytes plain
  all_blocks bytes plain b = go b.first b.size b.stream_is b.plain_is
    where
      go : (first : List ℕ) → length first ≡ 0 → bytes ≡ first ++ b.others → plain ≡ first ++ b.plain_others → IsWithoutSizes level bytes plain
      go [] none e f = record { blocks = b.behind.blocks; sizes = b.behind.sizes; stream_is = e ∙ b.behind.stream_is; plain_is = f ∙ b.behind.plain_is }
      go (x ∷ xs) none e f = absurd (omega (arith, none))

  pub plain_stream : (stream : List ℕ) (messages : List Content) → Carries (in_blocks level) set stream messages
      → (plain : List ℕ) × IsWithoutSizes level stream plain × Carries (plainly level) set plain messages
  plain_stream stream messages h =
      let p = without_sizes messages at_start (outside h.0) stream h.1 in
      (p.0, all_blocks stream p.0 (p.2 refl), (h.0, p.3))

fewer : (blocks : List (List ℕ × List ℕ)) → length (flat_map (λ b. b.1) blocks) ≤ length (flat_map (λ b. b.0 ++ b.1) blocks)
fewer [] = omega arith
fewer (b ∷ blocks) =
    let later = fewer blocks in
    let plain_size = length-append b.1 (flat_map (λ b. b.1) blocks) in
    let block_size = length-append b.0 b.1 in
    let size = length-append (b.0 ++ b.1) (flat_map (λ b. b.0 ++ b.1) blocks) in
    omega (arith, later, plain_size, block_size, size)

pub no_longer : (level : Level) (stream plain : List ℕ) → IsWithoutSizes level stream plain → length plain ≤ length stream
no_longer level stream plain h =
    let few = fewer h.blocks in
    let size = ap (λ (z : List ℕ). length z) h.stream_is in
    let plain_size = ap (λ (z : List ℕ). length z) h.plain_is in
    omega (arith, few, size, plain_size)

-- ---- a stream has one stream without its sizes

-- the list of blocks, each a size and its bytes, at a level
abbrev AreBlocks : Level → List (List ℕ × List ℕ) → Type 0
AreBlocks level blocks = AllByRecursion (λ b. IsSize level b.0 (length b.1) × (0 < length b.1)) blocks

abbrev plain_of : List (List ℕ × List ℕ) → List ℕ
plain_of blocks = flat_map (λ b. b.1) blocks

abbrev stream_of : List (List ℕ × List ℕ) → List ℕ
stream_of blocks = flat_map (λ b. b.0 ++ b.1) blocks

-- behind a size the bytes are read
behind_size : (level : Level) (size block back : List ℕ) → IsSize level size (length block) → unsigned_at ((size ++ block) ++ back) ≡ Ok (length block, block ++ back)
behind_size level size block back h = ap unsigned_at (append_assoc size block back) ∙ unsigned_forms.again size (length block) (block ++ back) (size_usually level size (length block) h)

-- lists of as many bytes in front of others are the same, and so are the others
same_front : (a b x y : List ℕ) → length a ≡ length b → a ++ x ≡ b ++ y → (a ≡ b) × (x ≡ y)
same_front [] [] x y n e = (refl, e)
same_front [] (v ∷ b) x y n e = absurd (omega (arith, n))
same_front (u ∷ a) [] x y n e = absurd (omega (arith, n))
same_front (u ∷ a) (v ∷ b) x y n e =
    let head : u ≡ v = cc in
    let tail : a ++ x ≡ b ++ y = cc in
    let one = same_front a b x y (omega (arith, n)) tail in
    (ap₂ (λ (z : ℕ) (zs : List ℕ). z ∷ zs) head one.0, one.1)

same_blocks : (level other : Level) (bs cs : List (List ℕ × List ℕ)) → AreBlocks level bs → AreBlocks other cs → stream_of bs ≡ stream_of cs → plain_of bs ≡ plain_of cs
same_blocks level other [] [] h k e = refl
same_blocks level other [] (c ∷ cs) h k e =
    let some = k.0.1 in
    let front = length-append (c.0 ++ c.1) (stream_of cs) in
    let block = length-append c.0 c.1 in
    let none = ap (λ (z : List ℕ). length z) e in
    absurd (omega (arith, some, front, block, none))
same_blocks level other (b ∷ bs) [] h k e =
    let some = h.0.1 in
    let front = length-append (b.0 ++ b.1) (stream_of bs) in
    let block = length-append b.0 b.1 in
    let none = ap (λ (z : List ℕ). length z) e in
    absurd (omega (arith, some, front, block, none))
same_blocks level other (b ∷ bs) (c ∷ cs) h k e =
    let one = behind_size level b.0 b.1 (stream_of bs) h.0.0 in
    let two = behind_size other c.0 c.1 (stream_of cs) k.0.0 in
    let same = ok_is {F = WireFault} (length b.1, b.1 ++ stream_of bs) (length c.1, c.1 ++ stream_of cs) (sym one ∙ ap unsigned_at e ∙ two) in
    let parts = same_front b.1 c.1 (stream_of bs) (stream_of cs) (ap (λ (p : ℕ × List ℕ). p.0) same) (ap (λ (p : ℕ × List ℕ). p.1) same) in
    ap₂ (λ (x y : List ℕ). x ++ y) parts.0 (same_blocks level other bs cs h.1 k.1 parts.1)

pub one_plain : (level other : Level) (stream plain others : List ℕ) → IsWithoutSizes level stream plain → IsWithoutSizes other stream others → plain ≡ others
one_plain level other stream plain others h k =
    h.plain_is ∙ same_blocks level other h.blocks k.blocks h.sizes k.sizes (sym h.stream_is ∙ k.stream_is) ∙ sym k.plain_is

-- ---- what is carried in any mode is carried as messages alone at the usual level, in no more bytes

abbrev AsMessages : List Resolved → Stand → List ℕ → List Content → Stand → Type 0
AsMessages set s bytes messages after = (plain : List ℕ) × CarriesPlainlyFrom Usual set s.dictionary plain messages after.dictionary × (length plain ≤ length bytes)

of_framing : (framing : Framing) (set : List Resolved) (messages : List Content) (s after : Stand) (bytes : List ℕ) → CarriesFrom (usually framing) set s bytes messages after → AsMessages set s bytes messages after
of_framing Plain set messages s after bytes h = (bytes, from_mode_from Usual set messages s after bytes h, omega arith)
of_framing Blocks set messages s after bytes h =
    let p = without_sizes Usual set messages s after bytes h in
    (p.0, from_mode_from Usual set messages (outside s.dictionary) (outside after.dictionary) p.0 p.3, p.1)

pub as_messages_from : (mode : Mode) (set : List Resolved) (messages : List Content) (s after : Stand) (bytes : List ℕ) → CarriesFrom mode set s bytes messages after → AsMessages set s bytes messages after
as_messages_from mode set messages s after bytes h = of_framing mode.framing set messages s after bytes (from_usually mode set messages s after bytes h)

pub as_messages : (mode : Mode) (set : List Resolved) (stream : List ℕ) (messages : List Content) → Carries mode set stream messages
    → (plain : List ℕ) × CarriesPlainly Usual set plain messages × (length plain ≤ length stream)
as_messages mode set stream messages h =
    let p = as_messages_from mode set messages at_start (outside h.0) stream h.1 in
    (p.0, (h.0, p.1), p.2)

-- so streams of the same messages leave the same dictionary, each in its mode
pub one_dictionary : (mode other : Mode) (set : List Resolved) (s t : Stand) (stream others : List ℕ) (messages : List Content) (after later : Stand) → s.dictionary ≡ t.dictionary
    → CarriesFrom mode set s stream messages after → CarriesFrom other set t others messages later → after.dictionary ≡ later.dictionary
one_dictionary mode other set s t stream others messages after later same h k =
    let p = as_messages_from mode set messages s after stream h in
    let q = as_messages_from other set messages t later others k in
    same_dictionary Usual set t.dictionary p.0 q.0 messages after.dictionary later.dictionary
    (subst (λ (d : Dictionary). CarriesPlainlyFrom Usual set d p.0 messages after.dictionary) same p.1) q.1
