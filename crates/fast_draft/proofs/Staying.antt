-- A segment ends with its map as it stands.
use Rattle.std.proofs.Common.{◌≡◌, ℕ, zero, suc, ◌+◌, ◌-◌, ◌*◌, ◌/◌, ◌%◌, ◌^◌, ◌<◌, ◌≤◌, ◌⊎◌, List, [], ◌∷◌, ◌++◌, length, get_or, get_or-take, get_or-drop, take, drop, slice_range, refl, sym, ap, ap₂, ◌∙◌, arith, inl, inr}
use Rattle.std.proofs.lemmas.Bool.{cases_eq}
use Rattle.std.proofs.lemmas.List.{drop-drop, get_or_past, length-map, take-append-drop}
use Rattle.std.proofs.Math.Seq.{take-length}
use Rattle.fast_wire.specs.Entity.{IsEntity, groups}
use Rattle.fast_wire.specs.PresenceMap.{IsMap, bits_of}
use Rattle.fast_wire.specs.Spellings.{stopped}
use Rattle.fast_wire.specs.Writing.{IsShortest}
use Rattle.fast_draft.specs.Standing.{EndsThere, Stands, map_at}
use Rattle.fast_draft.specs.declared.level.Level.{Level}
use Rattle.fast_draft.proofs.Cutting.{IsCut, are_groups, cut_shortest}
use Rattle.fast_draft.proofs.Passing.{asked_is, map_length}

-- ---- the last byte

group_at : (bs : List ℕ) (k : ℕ) → get_or (groups bs) k 0 ≡ get_or bs k 0 % 128
group_at [] k = omega arith
group_at (b ∷ bs) zero = refl
group_at (b ∷ bs) (suc k) = group_at bs k

last_low : (bs : List ℕ) → IsEntity bs → get_or bs (length bs - 1) 0 < 256
last_low [] e = absurd e
last_low (b ∷ []) e = e.1
last_low (b ∷ c ∷ bs) e =
    let back : suc (suc (length bs)) - 1 ≡ suc (suc (length bs) - 1) = omega arith in
    rw back (last_low (c ∷ bs) e.1)

-- the groups of an entity spell it
spelled : (bs : List ℕ) → IsEntity bs → stopped (groups bs) ≡ bs
spelled [] e = absurd e
spelled (b ∷ []) e = let f : b % 128 + 128 ≡ b = omega (arith, e.0, e.1) in ap (λ x. x ∷ []) f
spelled (b ∷ c ∷ bs) e =
    let low : b % 128 ≡ b = omega (arith, e.0) in
    ap₂ (λ x xs. x ∷ xs) low (spelled (c ∷ bs) e.1)

-- the lowest bits of a byte are those of its group
low_bits : (b k : ℕ) → k < 7 → b % 2 ^ k ≡ 0 → b % 128 % 2 ^ k ≡ 0
low_bits b zero h e = omega arith
low_bits b (suc zero) h e = omega arith
low_bits b (suc (suc zero)) h e = omega arith
low_bits b (suc (suc (suc zero))) h e = omega arith
low_bits b (suc (suc (suc (suc zero)))) h e = omega arith
low_bits b (suc (suc (suc (suc (suc zero))))) h e = omega arith
low_bits b (suc (suc (suc (suc (suc (suc zero)))))) h e = omega arith
low_bits b (suc (suc (suc (suc (suc (suc (suc k))))))) h e = absurd (omega arith)

-- ---- the map

-- no bit behind those that were passed is 1, and the last group is not 0
pub record IsTrimmed (map : List ℕ) (asked : ℕ) : Type 0 where
  pub near : 7 * length map - asked < 7
  pub some : 128 < get_or map (length map - 1) 0
  pub none : get_or map (length map - 1) 0 % 2 ^ (7 * length map - asked) ≡ 0

trimmed_cut : (map : List ℕ) (asked : ℕ) → IsEntity map → 0 < length map → asked ≤ 7 * length map → IsTrimmed map asked → IsCut (groups map) (groups map) asked (length map)
trimmed_cut map asked entity some within t =
    let near = t.near in
    let long : length (groups map) ≡ length map = length-map map (λ b. b % 128) in record {
      some = some;
      within = omega arith;
      most = omega arith;
      low = are_groups map;
      fore = λ q less. refl;
      last = elim (cases_eq asked (7 * length map)) [
        | inl all ↦
            let nothing : get_or (groups map) (asked / 7) 0 ≡ 0 = get_or_past (groups map) (asked / 7) 0 (omega arith) in
            rw nothing (omega arith)
        | inr apart ↦
            let at : asked / 7 ≡ length map - 1 = omega arith in
            let behind : 7 - asked % 7 ≡ 7 * length map - asked = omega arith in
            let z : get_or (groups map) (length map - 1) 0 % 2 ^ (7 * length map - asked) ≡ 0 =
            rw (group_at map (length map - 1)) (low_bits (get_or map (length map - 1) 0) (7 * length map - asked) near t.none) in
            rw (at, behind) (omega (arith, z))
      ];
      zeros = λ q le less. get_or_past (groups map) q 0 (omega arith);
      needed = λ more none. absurd (omega (arith, none, group_at map (length map - 1), last_low map entity, t.some));
    }

trimmed_shortest : (map : List ℕ) (asked : ℕ) → IsEntity map → 0 < length map → length map ≤ 256 → asked ≤ 7 * length map → IsTrimmed map asked → IsShortest IsMap map (take asked (bits_of (groups map)))
trimmed_shortest map asked entity some few within t =
    let long : length (groups map) ≡ length map = length-map map (λ b. b % 128) in
    let all : take (length map) (groups map) ≡ groups map = ap (λ n. take n (groups map)) (sym long) ∙ take-length (groups map) in
    let s = cut_shortest (groups map) (groups map) asked (length map) (are_groups map) (trimmed_cut map asked entity some within t) (omega arith) in
    rw (all, spelled map entity) at s

-- ---- where it stands

pub item_at : (out : List ℕ) (at size k : ℕ) → k < size → get_or (slice_range out at (at + size)) k 0 ≡ get_or out (at + k) 0
item_at out at size k less =
    let e : at + size - at ≡ size = omega arith in
    rw e (get_or-take size (drop at out) k 0 less ∙ get_or-drop at out k 0)

-- the same map in its place
same_map : (out : List ℕ) (at size : ℕ) → out ≡ take at out ++ (slice_range out at (at + size) ++ drop (at + size) out)
same_map out at size =
    let e : at + size - at ≡ size = omega arith in
    rw e (sym (ap (λ xs. take at out ++ xs) (ap (λ xs. take size (drop at out) ++ xs) (sym (drop-drop size at out)) ∙ take-append-drop size (drop at out)) ∙ take-append-drop at out))

pub ends_whole : (l : Level) (out : List ℕ) → Stands out l (length out) → 0 < l.size → 7 * l.size - l.asked < 7 → 128 < get_or out (l.place + l.size - 1) 0
    → get_or out (l.place + l.size - 1) 0 % 2 ^ (7 * l.size - l.asked) ≡ 0 → EndsThere l out out
ends_whole l out s some near last none =
    let asked = s.asked in let few = s.few in
    let long = map_length out l (length out) s (omega arith) in
    let at : l.place + (l.size - 1) ≡ l.place + l.size - 1 = omega arith in
    let is : get_or (map_at out l) (length (map_at out l) - 1) 0 ≡ get_or out (l.place + l.size - 1) 0 =
    ap (λ n. get_or (map_at out l) (n - 1) 0) long ∙ item_at out l.place l.size (l.size - 1) (omega arith) ∙ ap (λ n. get_or out n 0) at in
    let t : IsTrimmed (map_at out l) l.asked = record { near = rw long near; some = rw is last; none = rw (is, long) none } in record {
      map = map_at out l;
      ends = record {
        none = λ e. e;
        shortest = λ more. rw (asked_is out l (length out) s (omega arith)) (trimmed_shortest (map_at out l) l.asked (by_whole s.whole) (omega arith) (omega arith) (omega arith) t);
      };
      out = same_map out l.place l.size;
    }
  where
    by_whole : (l.size ≡ 0) ⊎ IsEntity (map_at out l) → IsEntity (map_at out l)
    by_whole (inl none) = absurd (omega arith)
    by_whole (inr e) = e
