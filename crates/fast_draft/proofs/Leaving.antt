-- The innermost ends in the last around it.
use Rattle.std.proofs.Common.{◌≡◌, ℕ, ◌+◌, List, [], ◌∷◌, ◌++◌, length, length-take, take, drop, slice_range, refl, sym, ap, ap₂, ◌∙◌, arith}
use Rattle.std.proofs.lemmas.List.{same_from_push, take-take, take_rest}
use Rattle.fast_draft.specs.Segments.{GoesOn, Leaves, Memory, Segment, Segments, with_more, with_segments}
use Rattle.fast_draft.specs.Standing.{EndsThere, IsSound, first_place, new_at, outer_at, segment_at, segments, segments_at, with_map}
use Rattle.fast_draft.specs.declared.level.Level.{Level}
use Rattle.fast_draft.proofs.Places.{all_stand, around_more, first_of_more, inner_fresh, inner_more, outer_more, outer_of, same_front, same_outer, same_segment, same_stands, segments_more, sound_inside, sound_more, stand_less}

-- what is left: the last is the innermost, with what has ended behind its bytes
pub record IsLeft (ls : List Level) (w l : Level) (map old new : List ℕ) : Type 0 where
  pub sound : IsSound new ls w
  pub around : outer_at new ls w.place ≡ outer_at old ls w.place
  pub inner : segment_at new w (length new) ≡ with_more (segment_at old w l.place) (map ++ slice_range old (l.place + l.size) (length old))

pub is_left : (ls : List Level) (w l : Level) (map old new : List ℕ) → IsSound old (ls ++ w ∷ []) l → new ≡ with_map l map old → IsLeft ls w l map old new
is_left ls w l map old new s e =
    let all = stand_less old ls w l.place s.around in
    let inside = s.inner.within in
    let near = all.1.within in
    let base = take l.place old in
    let long : length base ≡ l.place = omega (arith, length-take l.place old) in
    let same : take l.place old ≡ take l.place base = sym (take-take l.place l.place old (omega arith)) in
    let fore : take w.place old ≡ take w.place base = same_front old base w.place l.place (omega arith) same in
    let sound : IsSound base ls w = record {
      around = all_stand old base ls w.place fore all.0;
      inner = rw long (same_stands old base w l.place same all.1);
    } in
    let bytes : drop (l.place + l.size) old ≡ slice_range old (l.place + l.size) (length old) = sym (take_rest old (l.place + l.size)) in
    let behind = map ++ slice_range old (l.place + l.size) (length old) in
    let split : new ≡ base ++ behind = e ∙ ap (λ x. base ++ (map ++ x)) bytes in record {
      sound = rw split (sound_more base behind ls w sound);
      around = ap (λ x. outer_at x ls w.place) split ∙ around_more base behind ls w sound ∙ sym (same_outer old base ls w.place fore all.0);
      inner = ap (λ x. segment_at x w (length x)) split ∙ inner_more base behind w (omega (arith, long))
          ∙ ap (λ x. with_more x behind) (ap (λ n. segment_at base w n) long ∙ sym (same_segment old base w l.place near same));
    }

-- the segments around are those of the last and those around it
last_is : (old : List ℕ) (ls : List Level) (v l : Level) (m : Memory) (was : Segments) (ws : List Segment) (w : Segment) → segments old (ls ++ v ∷ []) l m ≡ was → was.around.segments ≡ ws ++ w ∷ []
    → (outer_at old ls v.place ≡ with_segments was.around ws) × (segment_at old v l.place ≡ w)
last_is old ls v l m was ws w view e =
    let both = same_from_push (segments_at old ls v.place) ws (segment_at old v l.place) w (sym (segments_more old ls v l.place) ∙ ap (λ s. s.around.segments) view ∙ e) in
    let front : take (first_place ls v.place) old ≡ was.around.ended = ap (λ n. take n old) (sym (first_of_more ls v l.place)) ∙ ap (λ s. s.around.ended) view in
    (ap₂ outer_of front both.0, both.1)

pub leaves : (ls : List Level) (v l : Level) (old new : List ℕ) (m : Memory) (was : Segments) → segments old (ls ++ v ∷ []) l m ≡ was → IsSound old (ls ++ v ∷ []) l → EndsThere l old new → Leaves was (segments new ls v m)
leaves ls v l old new m was view s t = λ ws w e.
    let left = is_left ls v l t.map old new s t.out in
    let last = last_is old ls v l m was ws w view e in
    let inner : segment_at old l (length old) ≡ was.inner = ap (λ x. x.inner) view in (
      left.around ∙ last.0,
      record {
        map = t.map;
        ends = rw (← inner) t.ends;
        is = left.inner ∙ ap₂ (λ x y. with_more x (t.map ++ y)) last.1 (ap (λ x. x.bytes) inner);
      },
    )

-- ---- another begins

-- the last of some
pub record HasLast (ls : List Level) : Type 0 where
  pub before : List Level
  pub last : Level
  pub is : ls ≡ before ++ last ∷ []

has_last : (l : Level) (ls : List Level) → HasLast (l ∷ ls)
has_last l [] = record { before = []; last = l; is = refl }
has_last l (k ∷ ls) = let h = has_last k ls in record { before = l ∷ h.before; last = h.last; is = ap (λ xs. l ∷ xs) h.is }

pub some_last : (ls : List Level) (old : List ℕ) (l : Level) (m : Memory) (was : Segments) → segments old ls l m ≡ was → (was.around.segments ≡ [] → ⊥) → HasLast ls
some_last [] old l m was view some = absurd (some (sym (ap (λ s. s.around.segments) view)))
some_last (k ∷ ls) old l m was view some = has_last k ls

pub none_around : (ls : List Level) (old : List ℕ) (l : Level) (m : Memory) (was : Segments) → segments old ls l m ≡ was → was.around.segments ≡ [] → ls ≡ []
none_around [] old l m was view none = refl
none_around (k ∷ ls) old l m was view none = absurd (cons_some (ap (λ s. s.around.segments) view ∙ none))
  where
    cons_some : {x : Segment} {xs : List Segment} → x ∷ xs ≡ [] → ⊥
    cons_some e = absurd cc

pub sound_ended : (ls : List Level) (l : Level) (old new : List ℕ) → HasLast ls → IsSound old ls l → EndsThere l old new → IsSound new ls (new_at (length new) 0)
sound_ended ls l old new h s t =
    let left = is_left h.before h.last l t.map old new (rw (← h.is) s) t.out in
    rw h.is (sound_inside new h.before h.last left.sound)

-- the messages that ended stand as they did
pub ended_on : (ls : List Level) (l : Level) (old new : List ℕ) → HasLast ls → IsSound old ls l → EndsThere l old new
    → take (first_place ls (length new)) new ≡ take (first_place ls l.place) old
ended_on ls l old new h s t =
    let left = is_left h.before h.last l t.map old new (rw (← h.is) s) t.out in
    rw h.is (
    ap (λ n. take n new) (first_of_more h.before h.last (length new)) ∙ ap (λ o. o.ended) left.around ∙ ap (λ n. take n old) (sym (first_of_more h.before h.last l.place))
    )

pub goes_on : (ls : List Level) (l : Level) (old new map : List ℕ) (m : Memory) (was : Segments) → HasLast ls → segments old ls l m ≡ was → IsSound old ls l → EndsThere l old new
    → GoesOn map was (segments (new ++ map) ls (new_at (length new) (length map)) m)
goes_on ls l old new map m was h view s t = λ ws w e.
    let s : IsSound old (h.before ++ h.last ∷ []) l = rw (← h.is) s in
    let view : segments old (h.before ++ h.last ∷ []) l m ≡ was = rw (← h.is) view in
    let left = is_left h.before h.last l t.map old new s t.out in
    let gone = leaves h.before h.last l old new m was view s t ws w e in
    let v = segment_at new h.last (length new) in
    let around : outer_at (new ++ map) ls (length new) ≡ with_segments was.around (ws ++ v ∷ []) =
    around_more new map ls (new_at (length new) 0) (rw h.is (sound_inside new h.before h.last left.sound))
    ∙ ap (λ xs. outer_at new xs (length new)) h.is ∙ outer_more new h.before h.last (length new) ∙ ap (λ o. with_segments o (o.segments ++ v ∷ [])) gone.0 in
    (v, gone.1, around, inner_fresh new map)
