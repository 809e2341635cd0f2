-- What stands at its place in an output stays as bytes are written behind it.
use Rattle.std.proofs.Common.{◌≡◌, Some, slice_get, ℕ, suc, ◌+◌, ◌-◌, ◌≤◌, List, [], ◌∷◌, ◌++◌, append-nil, length, length-append, length-take, take, drop, slice_range, refl, sym, ap, ap₂, ◌∙◌, arith, inl, inr, ◌⊎◌}
use Rattle.std.proofs.lemmas.List.{take-take, take-append-le, drop-append-le, take_rest, take_at, drop_at, drop_all}
use Rattle.std.proofs.lemmas.Slice.{between_is}
use Rattle.fast_wire.specs.Entity.{IsEntity, groups}
use Rattle.fast_wire.specs.PresenceMap.{bits_of}
use Rattle.fast_draft.specs.Segments.{IsMapOrNone, Outer, Segment, fresh, with_more, with_segments}
use Rattle.fast_draft.specs.Standing.{AllStand, IsSound, Stands, first_place, map_at, new_at, outer_at, segment_at, segments_at}
use Rattle.fast_draft.specs.declared.level.Level.{Level}

-- ---- the same front

-- a range of a front
pub range_front : (a : List ℕ) (i j n : ℕ) → j ≤ n → slice_range (take n a) i j ≡ slice_range a i j
range_front a i j n le = between_is (take n a) i j ∙ ap (λ l. drop i l) (take-take j n a le) ∙ sym (between_is a i j)

pub same_range : (a b : List ℕ) (i j n : ℕ) → j ≤ n → take n a ≡ take n b → slice_range a i j ≡ slice_range b i j
same_range a b i j n le same = sym (range_front a i j n le) ∙ ap (λ l. slice_range l i j) same ∙ range_front b i j n le

pub same_front : (a b : List ℕ) (m n : ℕ) → m ≤ n → take n a ≡ take n b → take m a ≡ take m b
same_front a b m n le same = sym (take-take m n a le) ∙ ap (λ l. take m l) same ∙ take-take m n b le

-- a segment of its parts
abbrev pub segment_of : Level → List ℕ → List ℕ → Segment
segment_of l map bytes = record { map = map; left = drop l.asked (bits_of (groups map)); bytes = bytes }

pub same_segment : (a b : List ℕ) (l : Level) (end : ℕ) → l.place + l.size ≤ end → take end a ≡ take end b → segment_at a l end ≡ segment_at b l end
same_segment a b l end le same =
    ap₂ (segment_of l) (same_range a b l.place (l.place + l.size) end le same) (same_range a b (l.place + l.size) end end (omega arith) same)

pub same_stands : (a b : List ℕ) (l : Level) (end : ℕ) → take end a ≡ take end b → Stands a l end → Stands b l end
same_stands a b l end same s =
    let e : map_at a l ≡ map_at b l = same_range a b l.place (l.place + l.size) end s.within same in
    record { within = s.within; whole = rw (← e) s.whole; few = s.few; asked = s.asked }

pub first_before : (out : List ℕ) (ls : List Level) (end : ℕ) → AllStand out ls end → first_place ls end ≤ end
first_before out [] end s = omega arith
first_before out (l ∷ ls) end s = omega (arith, first_before out ls end s.1, s.0.within)

pub same_segments : (a b : List ℕ) (ls : List Level) (end : ℕ) → take end a ≡ take end b → AllStand a ls end → segments_at a ls end ≡ segments_at b ls end
same_segments a b [] end same s = refl
same_segments a b (l ∷ ls) end same s =
    let near = first_before a ls end s.1 in
    ap₂ (λ x xs. x ∷ xs) (same_segment a b l (first_place ls end) s.0.within (same_front a b (first_place ls end) end near same)) (same_segments a b ls end same s.1)

pub all_stand : (a b : List ℕ) (ls : List Level) (end : ℕ) → take end a ≡ take end b → AllStand a ls end → AllStand b ls end
all_stand a b [] end same s = tt
all_stand a b (l ∷ ls) end same s =
    let near = first_before a ls end s.1 in
    (same_stands a b l (first_place ls end) (same_front a b (first_place ls end) end near same) s.0, all_stand a b ls end same s.1)

-- of its parts
abbrev pub outer_of : List ℕ → List Segment → Outer
outer_of ended segments = record { ended = ended; segments = segments }

pub same_outer : (a b : List ℕ) (ls : List Level) (end : ℕ) → take end a ≡ take end b → AllStand a ls end → outer_at a ls end ≡ outer_at b ls end
same_outer a b ls end same s =
    ap₂ outer_of (same_front a b (first_place ls end) end (first_before a ls end s) same) (same_segments a b ls end same s)

-- ---- one more behind them

pub first_of_more : (ls : List Level) (l : Level) (end : ℕ) → first_place (ls ++ l ∷ []) end ≡ first_place ls l.place
first_of_more [] l end = refl
first_of_more (k ∷ ls) l end = refl

pub segments_more : (out : List ℕ) (ls : List Level) (l : Level) (end : ℕ) → segments_at out (ls ++ l ∷ []) end ≡ segments_at out ls l.place ++ segment_at out l end ∷ []
segments_more out [] l end = refl
segments_more out (k ∷ ls) l end = ap₂ (λ p xs. segment_at out k p ∷ xs) (first_of_more ls l end) (segments_more out ls l end)

pub outer_more : (out : List ℕ) (ls : List Level) (l : Level) (end : ℕ)
    → outer_at out (ls ++ l ∷ []) end ≡ with_segments (outer_at out ls l.place) (segments_at out ls l.place ++ segment_at out l end ∷ [])
outer_more out ls l end = ap₂ outer_of (ap (λ n. take n out) (first_of_more ls l end)) (segments_more out ls l end)

pub count_segments : (out : List ℕ) (ls : List Level) (end : ℕ) → length (segments_at out ls end) ≡ length ls
count_segments out [] end = refl
count_segments out (l ∷ ls) end = ap (λ n. suc n) (count_segments out ls end)

pub stand_more : (out : List ℕ) (ls : List Level) (l : Level) (end : ℕ) → AllStand out ls l.place → Stands out l end → AllStand out (ls ++ l ∷ []) end
stand_more out [] l end all s = (s, tt)
stand_more out (k ∷ ls) l end all s = (rw (first_of_more ls l end) all.0, stand_more out ls l end all.1 s)

pub stand_less : (out : List ℕ) (ls : List Level) (l : Level) (end : ℕ) → AllStand out (ls ++ l ∷ []) end → AllStand out ls l.place × Stands out l end
stand_less out [] l end all = (tt, all.0)
stand_less out (k ∷ ls) l end all =
    let r = stand_less out ls l end all.1 in ((rw (first_of_more ls l end) at all.0, r.0), r.1)

-- ---- more bytes

longer_front : (out bytes : List ℕ) (n : ℕ) → n ≤ length out → take n out ≡ take n (out ++ bytes)
longer_front out bytes n le = sym (take-append-le n out bytes le)

pub sound_more : (out bytes : List ℕ) (ls : List Level) (l : Level) → IsSound out ls l → IsSound (out ++ bytes) ls l
sound_more out bytes ls l s =
    let inside = s.inner.within in
    let e : map_at out l ≡ map_at (out ++ bytes) l = same_range out (out ++ bytes) l.place (l.place + l.size) (length out) inside (longer_front out bytes (length out) (omega arith)) in record {
      around = all_stand out (out ++ bytes) ls l.place (longer_front out bytes l.place (omega arith)) s.around;
      inner = record { within = omega (arith, length-append out bytes); whole = rw (← e) s.inner.whole; few = s.inner.few; asked = s.inner.asked };
    }

pub around_more : (out bytes : List ℕ) (ls : List Level) (l : Level) → IsSound out ls l → outer_at (out ++ bytes) ls l.place ≡ outer_at out ls l.place
around_more out bytes ls l s =
    let inside = s.inner.within in sym (same_outer out (out ++ bytes) ls l.place (longer_front out bytes l.place (omega arith)) s.around)

pub inner_more : (out bytes : List ℕ) (l : Level) → l.place + l.size ≤ length out → segment_at (out ++ bytes) l (length (out ++ bytes)) ≡ with_more (segment_at out l (length out)) bytes
inner_more out bytes l le =
    let e : map_at (out ++ bytes) l ≡ map_at out l = sym (same_range out (out ++ bytes) l.place (l.place + l.size) (length out) le (longer_front out bytes (length out) (omega arith))) in
    ap₂ (segment_of l) e (take_rest (out ++ bytes) (l.place + l.size) ∙ drop-append-le (l.place + l.size) out bytes le ∙ ap (λ x. x ++ bytes) (sym (take_rest out (l.place + l.size))))

-- what is in front of a chunk of the bytes behind a place
pub chunk_front : (bytes chunk : List ℕ) (i j : ℕ) → j - i ≤ 16 → chunk ≡ take 16 (slice_range bytes i (length bytes)) → take (j - i) chunk ≡ slice_range bytes i j
chunk_front bytes chunk i j le e =
    ap (λ x. take (j - i) x) (e ∙ ap (λ x. take 16 x) (take_rest bytes i)) ∙ take-take (j - i) 16 (drop i bytes) le

-- ---- a segment begins

pub sound_empty : (out : List ℕ) (ls : List Level) → AllStand out ls (length out) → IsSound out ls (new_at (length out) 0)
sound_empty out ls all = record { around = all; inner = record { within = omega arith; whole = inl refl; few = omega arith; asked = omega arith } }

-- the innermost is one of those around
pub sound_inside : (out : List ℕ) (ls : List Level) (l : Level) → IsSound out ls l → IsSound out (ls ++ l ∷ []) (new_at (length out) 0)
sound_inside out ls l s = sound_empty out (ls ++ l ∷ []) (stand_more out ls l (length out) s.around s.inner)

pub take_whole : (xs : List ℕ) → take (length xs) xs ≡ xs
take_whole xs = ap (λ ys. take (length xs) ys) (sym (append-nil xs)) ∙ take_at xs [] (length xs) refl

map_there : (out map : List ℕ) → slice_range (out ++ map) (length out) (length out + length map) ≡ map
map_there out map =
    let e : length out + length map - length out ≡ length map = omega arith in
    rw (e, drop_at out map (length out) refl) (take_whole map)

pub sound_fresh : (out map : List ℕ) (ls : List Level) → IsSound out ls (new_at (length out) 0) → IsMapOrNone map → IsSound (out ++ map) ls (new_at (length out) (length map))
sound_fresh out map ls s own = record {
  around = all_stand out (out ++ map) ls (length out) (longer_front out map (length out) (omega arith)) s.around;
  inner = record { within = omega (arith, length-append out map); whole = rw (map_there out map) (by_own own); few = few own; asked = omega arith };
}
  where
    by_own : IsMapOrNone map → (length map ≡ 0) ⊎ IsEntity map
    by_own (inl none) = inl (ap length none)
    by_own (inr (bits, m)) = inr m.entity

    few : IsMapOrNone map → length map ≤ 256
    few (inl none) = omega (arith, ap length none)
    few (inr (bits, m)) = m.short

pub inner_fresh : (out map : List ℕ) → segment_at (out ++ map) (new_at (length out) (length map)) (length (out ++ map)) ≡ fresh map
inner_fresh out map =
    let nothing : slice_range (out ++ map) (length out + length map) (length (out ++ map)) ≡ [] =
    take_rest (out ++ map) (length out + length map) ∙ drop_all (length out + length map) (out ++ map) (omega (arith, length-append out map)) in
    ap₂ (segment_of (new_at (length out) (length map))) (map_there out map) nothing

-- ---- the messages that ended

-- the bytes in front of the first
pub ended_long : (out : List ℕ) (ls : List Level) (l : Level) → IsSound out ls l → length (take (first_place ls l.place) out) ≡ first_place ls l.place
ended_long out ls l s =
    let near = first_before out ls l.place s.around in
    let inside = s.inner.within in omega (arith, length-take (first_place ls l.place) out)

-- the first is in front of all
pub first_is : (ls : List Level) (l : Level) (end : ℕ) → Some l ≡ slice_get ls 0 → first_place ls end ≡ l.place
first_is [] l end is = absurd cc
first_is (k ∷ ls) l end is = ap (λ x. x.place) (some_same k l (sym is))
  where
    some_same : (x y : Level) → Some x ≡ Some y → x ≡ y
    some_same x y e = cc

pub ended_front : (out : List ℕ) (ls : List Level) (l : Level) (was : List ℕ) → IsSound out ls l → take (first_place ls l.place) out ≡ was → take (length was) out ≡ was
ended_front out ls l was s is = rw (← is) (ap (λ n. take n out) (ended_long out ls l s))

-- where nothing is open behind them
pub ended_alone : (base map : List ℕ) → outer_at (base ++ map) [] (length base) ≡ outer_of base []
ended_alone base map = ap (λ e. outer_of e []) (take_at base map (length base) refl)

pub ended_whole : (base : List ℕ) → outer_at base [] (length base) ≡ outer_of base []
ended_whole base = ap (λ e. outer_of e []) (take_whole base)
