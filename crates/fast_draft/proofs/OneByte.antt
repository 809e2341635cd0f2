-- A bit of a map's first byte is cleared; a map of one byte ends.
use Rattle.std.proofs.Common.{◌≡◌, ℕ, zero, suc, ◌+◌, ◌-◌, ◌*◌, ◌/◌, ◌%◌, ◌^◌, ◌<◌, ◌≤◌, ◌⊎◌, false, nat_eq, bit_and, List, [], ◌∷◌, ◌++◌, length, length-drop, length-take, get_or, get_or-take, get_or-drop, set, take, drop, slice_range, refl, sym, ap, ap₂, ◌∙◌, arith, inl, inr}
use Rattle.std.proofs.lemmas.Bool.{cases_eq, cases_lt}
use Rattle.std.proofs.lemmas.Nat.{and_comm, and_le_l, and-not, pow_pos}
use Rattle.std.proofs.lemmas.Nat.Bits.{and_pow, bit_at_and, bit_at_mask_below, bit_at_mask_inside}
use Rattle.std.proofs.lemmas.List.{drop-drop, drop-set, get_or_default, get_or_past, set-get_or, take-append-drop, take-set}
use Rattle.fast_wire.specs.Entity.{IsEntity, groups}
use Rattle.fast_wire.specs.PresenceMap.{IsMap, bits_of, bit_at}
use Rattle.fast_wire.specs.Writing.{IsShortest}
use Rattle.fast_wire.proofs.MapBits.{bit_is}
use Rattle.fast_wire.proofs.MapForms.{past}
use Rattle.fast_wire.proofs.UnsignedForms.{entity_some}
use Rattle.fast_draft.specs.Mending.{Clears}
use Rattle.fast_draft.specs.Standing.{ClearedNext, EndsThere, Stands, map_at, past_bit, with_map}
use Rattle.fast_draft.specs.declared.level.Level.{Level}
use Rattle.fast_draft.proofs.Clearing.{cleared, stays_clear}
use Rattle.fast_draft.proofs.Cutting.{weight_is}
use Rattle.fast_draft.proofs.Passing.{asked_is, map_length}
use Rattle.fast_draft.proofs.Staying.{item_at}

-- ---- where it stands

one_item : (xs : List ℕ) → length xs ≡ 1 → xs ≡ get_or xs 0 0 ∷ []
one_item [] e = absurd (omega arith)
one_item (x ∷ []) e = refl
one_item (x ∷ y ∷ xs) e = absurd (omega arith)

first_of : (out : List ℕ) (at : ℕ) → get_or (slice_range out at (at + 1)) 0 0 ≡ get_or out at 0
first_of out at =
    let e : at + 1 - at ≡ 1 = omega arith in
    let z : at + 0 ≡ at = omega arith in
    rw e (get_or-take 1 (drop at out) 0 0 (omega arith) ∙ get_or-drop at out 0 0 ∙ ap (λ n. get_or out n 0) z)

-- the byte of the map there
pub record IsByte (l : Level) (out : List ℕ) (byte : ℕ) : Type 0 where
  pub here : byte ≡ get_or out l.place 0
  pub inside : l.place < length out
  pub map : map_at out l ≡ byte ∷ []
  pub stop : 128 ≤ byte
  pub low : byte < 256

pub is_byte : (l : Level) (out : List ℕ) (byte : ℕ) → byte ≡ get_or out l.place byte → Stands out l (length out) → l.size ≡ 1 → IsByte l out byte
is_byte l out byte here s one =
    let within = s.within in
    let is : byte ≡ get_or out l.place 0 = here ∙ get_or_default out l.place byte 0 (omega arith) in
    let first : get_or (map_at out l) 0 0 ≡ byte = rw one (first_of out l.place) ∙ sym is in
    let map : map_at out l ≡ byte ∷ [] = one_item (map_at out l) (map_length out l (length out) s (omega arith) ∙ one) ∙ ap (λ b. b ∷ []) first in
    let e = by_whole map s.whole in record {
      here = is;
      inside = omega arith;
      map = map;
      stop = e.0;
      low = e.1;
    }
  where
    by_whole : map_at out l ≡ byte ∷ [] → (l.size ≡ 0) ⊎ IsEntity (map_at out l) → IsEntity (byte ∷ [])
    by_whole m (inl none) = absurd (omega arith)
    by_whole m (inr e) = rw m at e

-- another byte there
put : (l : Level) (out : List ℕ) (v : ℕ) → l.place < length out → l.size ≡ 1 → set out l.place v ≡ with_map l (v ∷ []) out
put l out v inside one =
    rw one (sym (take-append-drop l.place (set out l.place v)) ∙ ap₂ (λ xs ys. xs ++ ys) (take-set out l.place v) (drop-set out l.place v inside))

-- ---- its next bit is cleared

weight_low : (k : ℕ) → k < 7 → 2 ^ k < 256
weight_low zero h = omega arith
weight_low (suc zero) h = omega arith
weight_low (suc (suc zero)) h = omega arith
weight_low (suc (suc (suc zero))) h = omega arith
weight_low (suc (suc (suc (suc zero)))) h = omega arith
weight_low (suc (suc (suc (suc (suc zero))))) h = omega arith
weight_low (suc (suc (suc (suc (suc (suc zero)))))) h = omega arith
weight_low (suc (suc (suc (suc (suc (suc (suc k))))))) h = absurd (omega arith)

-- a byte less one of its bits
less_bit : (b k : ℕ) → b < 256 → k < 7 → bit_and b (255 - 2 ^ k) + b / 2 ^ k % 2 * 2 ^ k ≡ b
less_bit b k low h =
    ap₂ (λ x y. x + y) (and_comm b (255 - 2 ^ k)) (sym (and_pow b k) ∙ and_comm b (2 ^ k)) ∙ and-not 8 (2 ^ k) b (weight_low k h) low

clears_bit : (map : List ℕ) (a v : ℕ) → 0 < length map → a < 7 → v + get_or map 0 0 / 2 ^ (6 - a) % 2 * 2 ^ (6 - a) ≡ get_or map 0 0 → Clears a map (set map 0 v)
clears_bit map a v some less e =
    let b = get_or map 0 0 in
    let q : a / 7 ≡ 0 = omega arith in
    let r : a % 7 ≡ a = omega arith in
    elim (cases_eq (b / 2 ^ (6 - a) % 2) 1) [
      | inl one ↦
          let f : v + 1 * 2 ^ (6 - a) ≡ b = rw one at e in
          let is : v ≡ b - 2 ^ (6 - a) = omega arith in
          let c = cleared map a (omega arith) (rw (q, r) one) in
          let d : Clears a map (set map 0 (b - 2 ^ (6 - a))) = rw (q, r) at c in
          rw is d
      | inr apart ↦
          let z : b / 2 ^ (6 - a) % 2 ≡ 0 = grind arith in
          let f : v + 0 * 2 ^ (6 - a) ≡ b = rw z at e in
          let is : v ≡ b = omega arith in
          rw (is, set-get_or map 0 0) (stays_clear map a (omega arith) (rw (q, r) apart))
    ]

first_low : (bs : List ℕ) → IsEntity bs → get_or bs 0 0 < 256
first_low [] e = absurd e
first_low (b ∷ []) e = e.1
first_low (b ∷ c ∷ bs) e = omega (arith, e.0)

set_front : (xs : List ℕ) (size v : ℕ) → 0 < size → 0 < length xs → set (take size xs) 0 v ++ drop size xs ≡ v ∷ drop 1 xs
set_front [] size v some long = absurd (omega arith)
set_front (x ∷ xs) zero v some long = absurd (omega arith)
set_front (x ∷ xs) (suc size) v some long = ap (λ ys. v ∷ ys) (take-append-drop size xs)

-- another first byte of the map there
pub put_first : (l : Level) (out : List ℕ) (v : ℕ) → l.place < length out → 0 < l.size → set out l.place v ≡ with_map l (set (map_at out l) 0 v) out
put_first l out v inside some =
    let e : l.place + l.size - l.place ≡ l.size = omega arith in
    let long : 0 < length (drop l.place out) = omega (arith, length-drop l.place out) in
    let one = sym (drop-drop 1 l.place out) in
    let front = set_front (drop l.place out) l.size v some long in
    let rest = drop-drop l.size l.place out in
    let behind : drop l.place (set out l.place v) ≡ set (take l.size (drop l.place out)) 0 v ++ drop (l.place + l.size) out =
    drop-set out l.place v inside ∙ ap (λ xs. v ∷ xs) one ∙ sym front ∙ ap (λ xs. set (take l.size (drop l.place out)) 0 v ++ xs) rest in
    rw e (sym (take-append-drop l.place (set out l.place v)) ∙ ap₂ (λ xs ys. xs ++ ys) (take-set out l.place v) behind)

pub clears_first : (l : Level) (out : List ℕ) (byte : ℕ) → byte ≡ get_or out l.place byte → Stands out l (length out) → l.asked < 7 → 0 < l.size
    → ClearedNext l (past_bit l) out (set out l.place (bit_and byte (255 - 64 / 2 ^ l.asked)))
clears_first l out byte here s less some =
    let within = s.within in
    let is : byte ≡ get_or out l.place 0 = here ∙ get_or_default out l.place byte 0 (omega arith) in
    let z : l.place + 0 ≡ l.place = omega arith in
    let first : get_or (map_at out l) 0 0 ≡ byte = item_at out l.place l.size 0 some ∙ ap (λ n. get_or out n 0) z ∙ sym is in
    let low : byte < 256 = rw (← first) (first_low (map_at out l) (by_whole s.whole)) in
    let long = map_length out l (length out) s (omega arith) in
    let v = bit_and byte (255 - 64 / 2 ^ l.asked) in
    let sum : v + byte / 2 ^ (6 - l.asked) % 2 * 2 ^ (6 - l.asked) ≡ byte = rw (weight_is 6 l.asked (omega arith)) (less_bit byte (6 - l.asked) low (omega arith)) in record {
      some = λ some'. (
        record { map = set (map_at out l) 0 v; clears = clears_bit (map_at out l) l.asked v (omega arith) less (rw first sum); out = put_first l out v (omega arith) some },
        refl,
      );
      none = λ none. absurd (omega arith);
    }
  where
    by_whole : (l.size ≡ 0) ⊎ IsEntity (map_at out l) → IsEntity (map_at out l)
    by_whole (inl none) = absurd (omega arith)
    by_whole (inr e) = e

-- ---- it ends

pub ones : (a : ℕ) → a ≤ 7 → 127 / 2 ^ a ≡ 2 ^ (7 - a) - 1
ones zero h = refl
ones (suc zero) h = refl
ones (suc (suc zero)) h = refl
ones (suc (suc (suc zero))) h = refl
ones (suc (suc (suc (suc zero)))) h = refl
ones (suc (suc (suc (suc (suc zero))))) h = refl
ones (suc (suc (suc (suc (suc (suc zero)))))) h = refl
ones (suc (suc (suc (suc (suc (suc (suc zero))))))) h = refl
ones (suc (suc (suc (suc (suc (suc (suc (suc a)))))))) h = absurd (omega arith)

high_is : (a : ℕ) → a ≤ 7 → 255 - 127 / 2 ^ a ≡ 2 ^ 8 - 2 ^ (7 - a)
high_is a h = omega (arith, ones a h, pow_pos (7 - a))

-- a byte without its lowest bits
abbrev kept : ℕ → ℕ → ℕ
kept b k = bit_and b (2 ^ 8 - 2 ^ k)

kept_bit : (b k j : ℕ) → k ≤ j → j < 8 → kept b k / 2 ^ j % 2 ≡ b / 2 ^ j % 2
kept_bit b k j le less = omega (arith, bit_at_and b (2 ^ 8 - 2 ^ k) j, bit_at_mask_inside k 8 j le less)

lost_bit : (b k j : ℕ) → j < k → kept b k / 2 ^ j % 2 ≡ 0
lost_bit b k j less = omega (arith, bit_at_and b (2 ^ 8 - 2 ^ k) j, bit_at_mask_below k 8 j less)

kept_stop : (b k : ℕ) → k ≤ 7 → 128 ≤ b → b < 256 → (128 ≤ kept b k) × (kept b k < 256)
kept_stop b k h stop low =
    let top : kept b k / 128 % 2 ≡ b / 128 % 2 = kept_bit b k 7 h (omega arith) in
    let most = and_le_l b (2 ^ 8 - 2 ^ k) in (omega arith, omega arith)

-- the bits of one byte
low_bit : (b k : ℕ) → k < 7 → b % 128 / 2 ^ k % 2 ≡ b / 2 ^ k % 2
low_bit b zero h = omega arith
low_bit b (suc zero) h = omega arith
low_bit b (suc (suc zero)) h = omega arith
low_bit b (suc (suc (suc zero))) h = omega arith
low_bit b (suc (suc (suc (suc zero)))) h = omega arith
low_bit b (suc (suc (suc (suc (suc zero))))) h = omega arith
low_bit b (suc (suc (suc (suc (suc (suc zero)))))) h = omega arith
low_bit b (suc (suc (suc (suc (suc (suc (suc k))))))) h = absurd (omega arith)

byte_bit : (b i : ℕ) → i < 7 → bit_at (bits_of (groups (b ∷ []))) i ≡ nat_eq (b / 2 ^ (6 - i) % 2) 1
byte_bit b i h =
    let q : i / 7 ≡ 0 = omega arith in
    let r : i % 7 ≡ i = omega arith in
    let e = bit_is (b ∷ []) i (omega arith) in
    let f : nat_eq (b % 128 / 2 ^ (6 - i) % 2) 1 ≡ bit_at (bits_of (groups (b ∷ []))) i = rw (q, r) at e in
    sym f ∙ ap (λ x. nat_eq x 1) (low_bit b (6 - i) (omega arith))

zero_bit : (x : ℕ) → x ≡ 0 → nat_eq x 1 ≡ false
zero_bit x e = rw e refl

-- without those behind so many, they are those
kept_bits : (b a i : ℕ) → a ≤ 7 → bit_at (bits_of (groups (kept b (7 - a) ∷ []))) i ≡ bit_at (take a (bits_of (groups (b ∷ [])))) i
kept_bits b a i h = elim (cases_lt i a) [
  | inl less ↦
      byte_bit (kept b (7 - a)) i (omega arith) ∙ ap (λ x. nat_eq x 1) (kept_bit b (7 - a) (6 - i) (omega arith) (omega arith)) ∙ sym (byte_bit b i (omega arith))
      ∙ sym (get_or-take a (bits_of (groups (b ∷ []))) i false less)
  | inr more ↦ elim (cases_lt i 7) [
    | inl inside ↦ byte_bit (kept b (7 - a)) i inside ∙ zero_bit (kept b (7 - a) / 2 ^ (6 - i) % 2) (lost_bit b (7 - a) (6 - i) (omega arith))
    | inr behind ↦ past (kept b (7 - a) ∷ []) i (omega arith)
  ] ∙ sym (get_or_past (take a (bits_of (groups (b ∷ [])))) i false (omega (arith, length-take a (bits_of (groups (b ∷ []))))))
]

kept_shortest : (b a : ℕ) → a ≤ 7 → 128 ≤ b → b < 256 → IsShortest IsMap (kept b (7 - a) ∷ []) (take a (bits_of (groups (b ∷ []))))
kept_shortest b a h stop low = record {
  form = record { entity = kept_stop b (7 - a) (omega arith) stop low; short = omega arith; value = λ i. kept_bits b a i h };
  least = λ other f. omega (arith, entity_some other f.entity);
}

pub ends_byte : (l : Level) (out : List ℕ) (byte : ℕ) → byte ≡ get_or out l.place byte → Stands out l (length out) → l.size ≡ 1
    → EndsThere l out (set out l.place (bit_and byte (255 - 127 / 2 ^ l.asked)))
ends_byte l out byte here s one =
    let few = s.asked in
    let b = is_byte l out byte here s one in
    let asked : l.asked ≤ 7 = omega arith in record {
      map = kept byte (7 - l.asked) ∷ [];
      ends = record {
        none = λ none. absurd (cons_some (sym b.map ∙ none));
        shortest = λ some. rw (asked_is out l (length out) s (omega arith), b.map) (kept_shortest byte l.asked asked b.stop b.low);
      };
      out = rw (high_is l.asked asked) (put l out (kept byte (7 - l.asked)) b.inside one);
    }
  where
    cons_some : {x : ℕ} {xs : List ℕ} → x ∷ xs ≡ [] → ⊥
    cons_some e = absurd cc
