-- A segment ends: what stands of its map.
use Rattle.std.proofs.Common.{◌≡◌, ℕ, ◌+◌, ◌-◌, ◌<◌, ◌≤◌, List, [], ◌++◌, append_assoc, length, length-take, take, drop, slice_range, refl, sym, ap, ◌∙◌, arith}
use Rattle.std.proofs.lemmas.List.{take-append-le, take-append-drop}
use Rattle.std.proofs.Math.Seq.{take-append-add, drop-append-add, drop-append_seam}
use Rattle.fast_draft.specs.Standing.{CutThere, EndsThere, Stands, map_at}
use Rattle.fast_draft.specs.declared.level.Level.{Level}
use Rattle.fast_draft.proofs.Passing.{asked_is, map_length}

nothing_there : (out : List ℕ) (at : ℕ) → slice_range out at (at + 0) ≡ []
nothing_there out at = let e : at + 0 - at ≡ 0 = omega arith in rw e refl

-- no map
pub ends_bare : (l : Level) (out : List ℕ) → l.size ≡ 0 → EndsThere l out out
ends_bare l out none =
    let bare : map_at out l ≡ [] = rw none (nothing_there out l.place) in
    let e : l.place + l.size ≡ l.place = omega arith in record {
      map = [];
      ends = record { none = λ e. refl; shortest = λ some. absurd (some bare) };
      out = rw e (sym (take-append-drop l.place out));
    }

-- ---- a map that is cut

fore : (xs ys zs : List ℕ) (place size used : ℕ) → length xs ≡ place → length ys ≡ size → used ≤ size → take (place + used) (xs ++ (ys ++ zs)) ≡ xs ++ take used ys
fore xs ys zs place size used p s le = rw (← p) (take-append-add xs (ys ++ zs) used ∙ ap (λ l. xs ++ l) (take-append-le used ys zs (omega arith)))

rest : (xs ys zs : List ℕ) (place size : ℕ) → length xs ≡ place → length ys ≡ size → drop (place + size) (xs ++ (ys ++ zs)) ≡ zs
rest xs ys zs place size p s = rw (← p, ← s) (drop-append-add xs (ys ++ zs) (length ys) ∙ drop-append_seam ys zs)

pub ends_cut : (l : Level) (old there new : List ℕ) (used : ℕ) → Stands old l (length old) → 0 < l.size → CutThere l old there used
    → new ≡ take (l.place + used) there ++ drop (l.place + l.size) there → EndsThere l old new
ends_cut l old there new used s some c e =
    let few = c.cuts.within in
    let inside = s.within in
    let wide = map_length old l (length old) s (omega arith) in
    let long : length c.map ≡ l.size = c.cuts.same_length ∙ wide in
    let front : length (take l.place old) ≡ l.place = omega (arith, length-take l.place old) in record {
      map = take used c.map;
      ends = record {
        none = λ none. absurd (omega (arith, wide, ap length none));
        shortest = λ more. rw (asked_is old l (length old) s (omega arith)) c.cuts.shortest;
      };
      out = e ∙ rw c.out (rw (fore (take l.place old) c.map (drop (l.place + l.size) old) l.place l.size used front long (omega arith), rest (take l.place old) c.map (drop (l.place + l.size) old) l.place l.size front long)
          (append_assoc (take l.place old) (take used c.map) (drop (l.place + l.size) old)));
    }
