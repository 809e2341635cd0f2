-- Segments that move to the front one after the other, and all of them.
use Rattle.std.proofs.Common.{◌≡◌, ◌≤◌, ◌<◌, ◌+◌, ◌-◌, ℕ, List, [], ◌∷◌, ◌++◌, append-nil, length, length-drop, take, drop, get_or, map, slice_range, refl, sym, ap, ap₂, ◌∙◌, arith}
use Rattle.std.proofs.Math.ListN.{set}
use Rattle.std.proofs.lemmas.List.{drop-drop, map_push, take_more, take_more_set, drop-set-lt, drop_all, drop_more, length-map, take_all, length-set}
use Rattle.fast_draft.specs.Segments.{Outer}
use Rattle.fast_draft.specs.Standing.{AllStand, IsSound, Stands, first_place, map_at, nearer, new_at, outer_at, segment_at, segments_at}
use Rattle.fast_draft.specs.declared.level.Level.{Level}
use Rattle.fast_draft.proofs.Places.{ended_long, first_before, segment_of}

-- ---- one after the other

-- those before i have moved, and the others are as they were
pub record Moved (count : ℕ) (now before : List Level) (i : ℕ) : Type 0 where
  pub front : take i now ≡ map (nearer count) (take i before)
  pub back : drop i now ≡ drop i before
  pub long : length now ≡ length before

heads_same : (x y : Level) (xs ys : List Level) → x ∷ xs ≡ y ∷ ys → (x ≡ y) × (xs ≡ ys)
heads_same x y xs ys e = (cc, cc)

pub moved_more : (count : ℕ) (now before : List Level) (i : ℕ) → i < length now → Moved count now before i
    → Moved count (set now i (nearer count (get_or now i (new_at 0 0)))) before (i + 1)
moved_more count now before i lt p =
    let none = new_at 0 0 in
    let x = get_or now i none in
    let there : i < length before = omega (arith, lt, p.long) in
    let same = heads_same x (get_or before i none) (drop (i + 1) now) (drop (i + 1) before) (sym (drop_more now i none lt) ∙ p.back ∙ drop_more before i none there) in
    record {
      front = take_more_set now i (nearer count x) lt ∙ ap (λ l. l ++ nearer count x ∷ []) p.front ∙ ap (λ y. map (nearer count) (take i before) ++ nearer count y ∷ []) same.0
          ∙ sym (map_push (nearer count) (take i before) (get_or before i none)) ∙ ap (map (nearer count)) (sym (take_more before i none there));
      back = drop-set-lt (i + 1) now i (nearer count x) (omega arith) ∙ same.1;
      long = length-set now i (nearer count x) ∙ p.long;
    }

pub moved_all : (count : ℕ) (now before : List Level) (i : ℕ) → length now ≤ i → Moved count now before i → now ≡ map (nearer count) before
moved_all count now before i le p = sym (take_all i now le) ∙ p.front ∙ ap (map (nearer count)) (take_all i before (omega (arith, le, p.long)))

-- ---- all of them

-- a range behind a front
range_nearer : (out : List ℕ) (count i j : ℕ) → count ≤ i → i ≤ j → slice_range (drop count out) (i - count) (j - count) ≡ slice_range out i j
range_nearer out count i j le more =
    let long : j - count - (i - count) ≡ j - i = omega arith in
    let at : count + (i - count) ≡ i = omega arith in
    rw (long) (ap (λ xs. take (j - i) xs) (drop-drop (i - count) count out ∙ ap (λ n. drop n out) (omega (arith, at))))

map_nearer : (out : List ℕ) (count : ℕ) (l : Level) → count ≤ l.place → map_at (drop count out) (nearer count l) ≡ map_at out l
map_nearer out count l le =
    let behind : l.place - count + l.size ≡ l.place + l.size - count = omega arith in
    rw behind (range_nearer out count l.place (l.place + l.size) le (omega arith))

segment_nearer : (out : List ℕ) (count : ℕ) (l : Level) (end : ℕ) → count ≤ l.place → l.place + l.size ≤ end → segment_at (drop count out) (nearer count l) (end - count) ≡ segment_at out l end
segment_nearer out count l end le within =
    let behind : l.place - count + l.size ≡ l.place + l.size - count = omega arith in
    ap₂ (segment_of l) (map_nearer out count l le) (rw behind (range_nearer out count (l.place + l.size) end (omega arith) within))

stands_nearer : (out : List ℕ) (count : ℕ) (l : Level) (end : ℕ) → count ≤ l.place → Stands out l end → Stands (drop count out) (nearer count l) (end - count)
stands_nearer out count l end le s =
    let within = s.within in
    record { within = omega arith; whole = rw (map_nearer out count l le) s.whole; few = s.few; asked = s.asked }

first_nearer : (count : ℕ) (ls : List Level) (end : ℕ) → first_place (map (nearer count) ls) (end - count) ≡ first_place ls end - count
first_nearer count [] end = refl
first_nearer count (l ∷ ls) end = refl

-- those behind the first are behind it
behind_first : (out : List ℕ) (l : Level) (ls : List Level) (end : ℕ) → Stands out l (first_place ls end) → l.place ≤ first_place ls end
behind_first out l ls end s = omega (arith, s.within)

pub segments_nearer : (out : List ℕ) (count : ℕ) (ls : List Level) (end : ℕ) → count ≤ first_place ls end → AllStand out ls end → segments_at (drop count out) (map (nearer count) ls) (end - count) ≡ segments_at out ls end
segments_nearer out count [] end le s = refl
segments_nearer out count (l ∷ ls) end le s =
    let on = behind_first out l ls end s.0 in
    ap₂ (λ x xs. x ∷ xs) (rw (first_nearer count ls end) (segment_nearer out count l (first_place ls end) le s.0.within)) (segments_nearer out count ls end (omega (arith, le, on)) s.1)

stand_nearer : (out : List ℕ) (count : ℕ) (ls : List Level) (end : ℕ) → count ≤ first_place ls end → AllStand out ls end → AllStand (drop count out) (map (nearer count) ls) (end - count)
stand_nearer out count [] end le s = tt
stand_nearer out count (l ∷ ls) end le s =
    let on = behind_first out l ls end s.0 in
    (rw (first_nearer count ls end) (stands_nearer out count l (first_place ls end) le s.0), stand_nearer out count ls end (omega (arith, le, on)) s.1)

-- what was open, behind nothing
pub record IsNearer (count : ℕ) (out : List ℕ) (ls : List Level) (l : Level) : Type 0 where
  pub sound : IsSound (drop count out) (map (nearer count) ls) (nearer count l)
  pub around : segments_at (drop count out) (map (nearer count) ls) (l.place - count) ≡ segments_at out ls l.place
  pub inner : segment_at (drop count out) (nearer count l) (length (drop count out)) ≡ segment_at out l (length out)
  pub first : take (first_place (map (nearer count) ls) (l.place - count)) (drop count out) ≡ []

pub is_nearer : (count : ℕ) (out : List ℕ) (ls : List Level) (l : Level) → count ≡ first_place ls l.place → IsSound out ls l → IsNearer count out ls l
is_nearer count out ls l is s =
    let near = first_before out ls l.place s.around in
    let le : count ≤ l.place = omega (arith, is, near) in
    let long : length (drop count out) ≡ length out - count = length-drop count out in
    let none : first_place (map (nearer count) ls) (l.place - count) ≡ 0 = first_nearer count ls l.place ∙ omega (arith, is) in record {
      sound = record {
        around = stand_nearer out count ls l.place (omega (arith, is)) s.around;
        inner = rw long (stands_nearer out count l (length out) le s.inner);
      };
      around = segments_nearer out count ls l.place (omega (arith, is)) s.around;
      inner = rw long (segment_nearer out count l (length out) le s.inner.within);
      first = rw none refl;
    }

-- what a slice of all of them writes back
written_back : (ms ls : List Level) (n : ℕ) → length ms ≡ length ls → n ≡ length ls → take n (ms ++ drop (length ms) ls) ≡ ms
written_back ms ls n same is = rw (is, same) (ap (λ xs. take (length ls) (ms ++ xs)) (drop_all (length ls) ls (omega arith)) ∙ ap (λ xs. take (length ls) xs) (append-nil ms) ∙ take_all (length ls) ms (omega (arith, same)))

-- the messages that ended are forgotten
pub record IsForgotten (count : ℕ) (out : List ℕ) (ls ms : List Level) (n : ℕ) (l : Level) : Type 0 where
  pub levels : take n (ms ++ drop (length ms) ls) ≡ map (nearer count) ls
  pub near : IsNearer count out ls l
  pub within : count ≤ l.place

pub forgotten : (count : ℕ) (out : List ℕ) (ls ms : List Level) (n : ℕ) (l : Level) (was : Outer) → IsSound out ls l → outer_at out ls l.place ≡ was → count ≡ length was.ended
    → ms ≡ map (nearer count) ls → n ≡ length ls → IsForgotten count out ls ms n l
forgotten count out ls ms n l was s view is moved all =
    let first : count ≡ first_place ls l.place = is ∙ ap (λ o. length o.ended) (sym view) ∙ ended_long out ls l s in
    record {
      levels = written_back ms ls n (ap length moved ∙ length-map ls (nearer count)) all ∙ moved;
      near = is_nearer count out ls l first s;
      within = omega (arith, first, first_before out ls l.place s.around);
    }
