-- A bit of the innermost's map is passed, as it stands or cleared.
use Rattle.std.proofs.Common.{◌≡◌, ℕ, ◌+◌, ◌-◌, ◌*◌, ◌%◌, ◌<◌, ◌≤◌, ◌⊎◌, Bool, false, List, [], ◌++◌, append_assoc, length, length-append, length-take, length-drop, get_or-drop, take, drop, slice_range, refl, sym, ap, min, ◌∙◌, arith, inl, inr, ext_get_or}
use Rattle.std.proofs.lemmas.Bool.{cases_lt}
use Rattle.std.proofs.lemmas.List.{take_at, drop_at, drop_all, drop-drop, take_rest, length-map}
use Rattle.std.proofs.lemmas.List.Edits.{length-between}
use Rattle.fast_wire.specs.Entity.{IsEntity, groups}
use Rattle.fast_wire.specs.PresenceMap.{bits_of, later_bits}
use Rattle.fast_wire.proofs.MapBits.{later_left, length_bits, none_left}
use Rattle.fast_draft.specs.Mending.{Clears}
use Rattle.fast_draft.specs.Segments.{ClearsNext, ahead}
use Rattle.fast_draft.specs.Standing.{ClearedNext, ClearedThere, IsSound, Stands, map_at, past_bit, outer_at, segment_at, with_map}
use Rattle.fast_draft.specs.declared.level.Level.{Level}
use Rattle.fast_draft.proofs.Places.{all_stand, same_outer}

-- how long the map is, and how many bits it has
pub map_length : (out : List ℕ) (l : Level) (end : ℕ) → Stands out l end → end ≤ length out → length (map_at out l) ≡ l.size
map_length out l end s le = let w = s.within in length-between out l.place (l.place + l.size) (omega arith) ∙ omega arith

pub all_bits : (map : List ℕ) → length (bits_of (groups map)) ≡ 7 * length map
all_bits map = length_bits (groups map) ∙ ap (λ n. 7 * n) (length-map map (λ b. b % 128))

-- how many were passed
pub asked_is : (out : List ℕ) (l : Level) (end : ℕ) → Stands out l end → end ≤ length out → 7 * length (map_at out l) - length (drop l.asked (bits_of (groups (map_at out l)))) ≡ l.asked
asked_is out l end s le =
    omega (arith, s.asked, map_length out l end s le, all_bits (map_at out l), length-drop l.asked (bits_of (groups (map_at out l))))

-- ---- bits stand

no_left : (out : List ℕ) (l : Level) (end : ℕ) → Stands out l end → end ≤ length out → 7 * l.size ≤ l.asked → drop l.asked (bits_of (groups (map_at out l))) ≡ []
no_left out l end s le none = none_left (map_at out l) l.asked (omega (arith, map_length out l end s le))

later_none : (left : List Bool) → left ≡ [] → left ≡ later_bits left
later_none left e = rw e refl

-- so many bits behind those that were passed, or none is left
drop_more : (bits : List Bool) (asked count all : ℕ) → length bits ≡ all → asked ≤ all → drop (asked + min count (all - asked)) bits ≡ drop count (drop asked bits)
drop_more bits asked count all e le = elim (cases_lt (all - asked) count) [
  | inl past ↦
      let is : asked + min count (all - asked) ≡ all = omega arith in
      rw is (drop_all all bits (omega arith) ∙ sym (drop_all (asked + count) bits (omega arith)) ∙ sym (drop-drop count asked bits))
  | inr within ↦
      let is : asked + min count (all - asked) ≡ asked + count = omega arith in
      rw is (sym (drop-drop count asked bits))
]

pub goes_ahead : (out : List ℕ) (l : Level) (count more : ℕ) → more ≡ min count (7 * l.size - l.asked) → Stands out l (length out)
    → segment_at out (record { place = l.place; size = l.size; asked = l.asked + more }) (length out) ≡ ahead count (segment_at out l (length out))
goes_ahead out l count more e s =
    let long = map_length out l (length out) s (omega arith) in
    let bits = bits_of (groups (map_at out l)) in
    ap (λ (left : List Bool). record { map = map_at out l; left = left; bytes = slice_range out (l.place + l.size) (length out) })
    (ap (λ n. drop (l.asked + n) bits) e ∙ drop_more bits l.asked count (7 * l.size) (all_bits (map_at out l) ∙ ap (λ n. 7 * n) long) s.asked)

-- ---- another map

-- what stands before the map, the map, and what stands behind it
record IsReplaced (l : Level) (map old new : List ℕ) : Type 0 where
  pub before : take l.place new ≡ take l.place old
  pub there : slice_range new l.place (l.place + length map) ≡ map
  pub behind : slice_range new (l.place + length map) (length new) ≡ slice_range old (l.place + l.size) (length old)
  pub long : l.place + length map ≤ length new

take_whole : (xs ys : List ℕ) → take (length xs) (xs ++ ys) ≡ xs
take_whole xs ys = take_at xs ys (length xs) refl

replaced : (l : Level) (map old new : List ℕ) → l.place + l.size ≤ length old → new ≡ with_map l map old → IsReplaced l map old new
replaced l map old new le e =
    let front = take l.place old in
    let rest = drop (l.place + l.size) old in
    let long : length front ≡ l.place = omega (arith, length-take l.place old) in
    let size : l.place + length map - l.place ≡ length map = omega arith in
    let both : length (front ++ map) ≡ l.place + length map = omega (arith, long, length-append front map) in
    let split : new ≡ (front ++ map) ++ rest = e ∙ sym (append_assoc front map rest) in record {
      before = ap (λ x. take l.place x) e ∙ take_at front (map ++ rest) l.place long;
      there = ap (λ x. slice_range x l.place (l.place + length map)) e ∙ rw (size, drop_at front (map ++ rest) l.place long) (take_whole map rest);
      behind = take_rest new (l.place + length map) ∙ ap (λ x. drop (l.place + length map) x) split ∙ drop_at (front ++ map) rest (l.place + length map) both
          ∙ sym (take_rest old (l.place + l.size));
      long = omega (arith, ap length split, length-append (front ++ map) rest, both);
    }

-- ---- a bit is cleared

-- the bits behind it are as they were
left_cleared : (i : ℕ) (old new : List ℕ) → Clears i old new → drop (i + 1) (bits_of (groups new)) ≡ drop (i + 1) (bits_of (groups old))
left_cleared i old new c =
    let same = c.same_length in
    ext_get_or false (drop (i + 1) (bits_of (groups new))) (drop (i + 1) (bits_of (groups old)))
    (omega (arith, same, all_bits old, all_bits new, length-drop (i + 1) (bits_of (groups new)), length-drop (i + 1) (bits_of (groups old))))
    (λ k less. get_or-drop (i + 1) (bits_of (groups new)) k false ∙ c.others (i + 1 + k) (λ e. absurd (omega arith)) ∙ sym (get_or-drop (i + 1) (bits_of (groups old)) k false))

-- what the map is there
cleared_map : (l : Level) (old new : List ℕ) → Stands old l (length old) → (c : ClearedThere l old new) → (length c.map ≡ l.size) × (map_at new l ≡ c.map)
cleared_map l old new s c =
    let size : length c.map ≡ l.size = c.clears.same_length ∙ map_length old l (length old) s (omega arith) in
    let r = replaced l c.map old new s.within c.out in
    (size, rw (← size) r.there)

clears_next : (l : Level) (old new : List ℕ) → Stands old l (length old) → l.asked < 7 * l.size → ClearedThere l old new → ClearsNext (segment_at old l (length old)) (segment_at new (past_bit l) (length new))
clears_next l old new s some c =
    let m = cleared_map l old new s c in
    let r = replaced l c.map old new s.within c.out in
    let wide = map_length old l (length old) s (omega arith) in
    let left : drop (l.asked + 1) (bits_of (groups c.map)) ≡ later_bits (drop l.asked (bits_of (groups (map_at old l)))) =
    left_cleared l.asked (map_at old l) c.map c.clears ∙ later_left (bits_of (groups (map_at old l))) l.asked in record {
      left = rw m.1 left;
      bytes = ap (λ n. slice_range new (l.place + n) (length new)) (sym m.0) ∙ r.behind;
      some = λ more. rw (asked_is old l (length old) s (omega arith), m.1) c.clears;
      none = λ none. absurd (omega (arith, wide, all_bits (map_at old l), length-drop l.asked (bits_of (groups (map_at old l))), ap length none));
    }

clears_nothing : (out : List ℕ) (l : Level) → Stands out l (length out) → 7 * l.size ≤ l.asked → ClearsNext (segment_at out l (length out)) (segment_at out l (length out))
clears_nothing out l s none =
    let e = no_left out l (length out) s (omega arith) none in record {
      left = later_none (drop l.asked (bits_of (groups (map_at out l)))) e;
      bytes = refl;
      some = λ some. absurd (some e);
      none = λ e. refl;
    }

clears_around : (l : Level) (ls : List Level) (old new : List ℕ) → IsSound old ls l → ClearedThere l old new → outer_at new ls l.place ≡ outer_at old ls l.place
clears_around l ls old new s c =
    let r = replaced l c.map old new s.inner.within c.out in sym (same_outer old new ls l.place (sym r.before) s.around)

sound_cleared : (l : Level) (ls : List Level) (old new : List ℕ) → IsSound old ls l → l.asked < 7 * l.size → ClearedThere l old new → IsSound new ls (past_bit l)
sound_cleared l ls old new s some c =
    let r = replaced l c.map old new s.inner.within c.out in
    let m = cleared_map l old new s.inner c in
    let long = r.long in record {
      around = all_stand old new ls l.place (sym r.before) s.around;
      inner = record {
        within = omega (arith, long, m.0);
        whole = rw m.1 (by_whole s.inner.whole);
        few = s.inner.few;
        asked = omega arith;
      };
    }
  where
    by_whole : (l.size ≡ 0) ⊎ IsEntity (map_at old l) → (l.size ≡ 0) ⊎ IsEntity c.map
    by_whole (inl none) = inl none
    by_whole (inr e) = inr (c.clears.entity e)

-- the next bit is cleared, if one is left
pub record IsCleared (ls : List Level) (l m : Level) (old new : List ℕ) : Type 0 where
  pub sound : IsSound new ls m
  pub around : outer_at new ls m.place ≡ outer_at old ls l.place
  pub inner : ClearsNext (segment_at old l (length old)) (segment_at new m (length new))

pub is_cleared : (ls : List Level) (l m : Level) (old new : List ℕ) → IsSound old ls l → ClearedNext l m old new → IsCleared ls l m old new
is_cleared ls l m old new s c = elim (cases_lt l.asked (7 * l.size)) [
  | inl some ↦
      let e = c.some some in rw e.1 (record {
        sound = sound_cleared l ls old new s some e.0;
        around = clears_around l ls old new s e.0;
        inner = clears_next l old new s.inner some e.0;
      })
  | inr none ↦
      let e = c.none none in rw (e.0, e.1) (record { sound = s; around = refl; inner = clears_nothing old l s.inner none })
]
