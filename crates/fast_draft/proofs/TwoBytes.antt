-- A map of two bytes ends as one.
use Rattle.std.proofs.Common.{◌≡◌, ℕ, zero, suc, ◌+◌, ◌-◌, ◌/◌, ◌%◌, ◌^◌, ◌<◌, ◌≤◌, bit_and, min, List, [], ◌∷◌, ◌++◌, length, get_or, set, take, drop, refl, sym, ap, ap₂, ◌∙◌, arith, inl, inr}
use Rattle.std.proofs.lemmas.Bool.{cases_eq, cases_lt}
use Rattle.std.proofs.lemmas.List.{get_or_default}
use Rattle.std.proofs.lemmas.Nat.{and_comm, and_mask, and-not}
use Rattle.std.proofs.Math.Nat.{div-le_self}
use Rattle.fast_wire.specs.Entity.{IsEntity, groups}
use Rattle.fast_draft.specs.Mending.{CutsMap}
use Rattle.fast_draft.specs.Standing.{CutThere, EndsThere, Stands, level_of, map_at}
use Rattle.fast_draft.proofs.Cutting.{IsCut, are_groups, cut_shortest}
use Rattle.fast_draft.proofs.Ending.{ends_cut}
use Rattle.fast_draft.proofs.OneByte.{ones, put_first}
use Rattle.fast_draft.proofs.Passing.{map_length}
use Rattle.fast_draft.proofs.Staying.{item_at}

-- ---- the first byte

ones_low : (a : ℕ) → 127 / 2 ^ a < 256
ones_low a = omega (arith, div-le_self 127 (2 ^ a))

-- a byte without its lowest bits
high_bits : (b a : ℕ) → a ≤ 7 → b < 256 → bit_and b (255 - 127 / 2 ^ a) + b % 2 ^ (7 - a) ≡ b
high_bits b a h low =
    let e : bit_and (127 / 2 ^ a) b ≡ b % 2 ^ (7 - a) = and_comm (127 / 2 ^ a) b ∙ ap (λ x. bit_and b x) (ones a h) ∙ and_mask b (7 - a) in
    let f = and-not 8 (127 / 2 ^ a) b (ones_low a) low in
    omega (arith, and_comm b (255 - 127 / 2 ^ a), e, f)

-- the stop bit is none of them
stop_apart : (b k : ℕ) → k ≤ 7 → ((b + 128) % 2 ^ k ≡ b % 2 ^ k) × (b % 2 ^ k ≤ b)
stop_apart b zero h = (omega arith, omega arith)
stop_apart b (suc zero) h = (omega arith, omega arith)
stop_apart b (suc (suc zero)) h = (omega arith, omega arith)
stop_apart b (suc (suc (suc zero))) h = (omega arith, omega arith)
stop_apart b (suc (suc (suc (suc zero)))) h = (omega arith, omega arith)
stop_apart b (suc (suc (suc (suc (suc zero))))) h = (omega arith, omega arith)
stop_apart b (suc (suc (suc (suc (suc (suc zero)))))) h = (omega arith, omega arith)
stop_apart b (suc (suc (suc (suc (suc (suc (suc zero))))))) h = (omega arith, omega arith)
stop_apart b (suc (suc (suc (suc (suc (suc (suc (suc k)))))))) h = absurd (omega arith)

-- the group that is left, and the stop bit
first_is : (b a : ℕ) → a ≤ 7 → b < 128 → bit_and (b + 128) (255 - 127 / 2 ^ a) ≡ b - b % 2 ^ (7 - a) + 128
first_is b a h low =
    let s = stop_apart b (7 - a) (omega arith) in omega (arith, high_bits (b + 128) a h (omega arith), s.0, s.1)

-- ---- the second

none_high : (n k : ℕ) → k ≤ 7 → n / 2 ^ k ≡ 0 → n - n % 2 ^ k ≡ 0
none_high n zero h e = omega arith
none_high n (suc zero) h e = omega arith
none_high n (suc (suc zero)) h e = omega arith
none_high n (suc (suc (suc zero))) h e = omega arith
none_high n (suc (suc (suc (suc zero)))) h e = omega arith
none_high n (suc (suc (suc (suc (suc zero))))) h e = omega arith
none_high n (suc (suc (suc (suc (suc (suc zero)))))) h e = omega arith
none_high n (suc (suc (suc (suc (suc (suc (suc zero))))))) h e = omega arith
none_high n (suc (suc (suc (suc (suc (suc (suc (suc k)))))))) h e = absurd (omega arith)

-- ---- the map

two_cut : (b c asked : ℕ) → b < 128 → asked ≤ 14 → c % 128 / 2 ^ (14 - asked) ≡ 0 → IsCut (groups (b ∷ c ∷ [])) ((b - b % 2 ^ (7 - min asked 7)) ∷ []) asked 1
two_cut b c asked low within none =
    let same : b % 128 ≡ b = omega arith in record {
      some = omega arith;
      within = omega arith;
      most = omega arith;
      low = front;
      fore = fore;
      last = last;
      zeros = λ q le less. past_first q le;
      needed = λ more e. absurd (omega arith);
    }
  where
    front : (k : ℕ) → get_or ((b - b % 2 ^ (7 - min asked 7)) ∷ []) k 0 < 128
    front zero = omega arith
    front (suc k) = omega arith

    past_first : (q : ℕ) → 1 ≤ q → get_or ((b - b % 2 ^ (7 - min asked 7)) ∷ []) q 0 ≡ 0
    past_first zero le = absurd (omega arith)
    past_first (suc q) le = refl

    fore : (q : ℕ) → q < asked / 7 → get_or ((b - b % 2 ^ (7 - min asked 7)) ∷ []) q 0 ≡ get_or (groups (b ∷ c ∷ [])) q 0
    fore zero less =
        let e : 7 - min asked 7 ≡ 0 = omega arith in rw e (omega arith)
    fore (suc zero) less =
        let e : 14 - asked ≡ 0 = omega arith in
        let f : c % 128 / 1 ≡ 0 = rw e at none in omega arith
    fore (suc (suc q)) less = absurd (omega arith)

    last : get_or ((b - b % 2 ^ (7 - min asked 7)) ∷ []) (asked / 7) 0 ≡ get_or (groups (b ∷ c ∷ [])) (asked / 7) 0 - get_or (groups (b ∷ c ∷ [])) (asked / 7) 0 % 2 ^ (7 - asked % 7)
    last = elim (cases_lt asked 7) [
      | inl first ↦
          let q : asked / 7 ≡ 0 = omega arith in
          let r : asked % 7 ≡ asked = omega arith in
          let m : min asked 7 ≡ asked = omega arith in
          let same : b % 128 ≡ b = omega arith in rw (q, r, m, same) refl
      | inr behind ↦ elim (cases_eq asked 14) [
        | inl all ↦ rw all refl
        | inr apart ↦
            let q : asked / 7 ≡ 1 = omega arith in
            let r : 7 - asked % 7 ≡ 14 - asked = omega arith in
            rw (q, r) (sym (none_high (c % 128) (14 - asked) (omega arith) none))
      ]
    ]

cuts_two : (map : List ℕ) (asked : ℕ) → IsEntity map → length map ≡ 2 → asked ≤ 14 → get_or map 1 0 % 128 / 2 ^ (14 - asked) ≡ 0
    → CutsMap asked map (set map 0 (bit_and (get_or map 0 0 + 128) (255 - 127 / 2 ^ min asked 7))) 1
cuts_two [] asked entity long within none = absurd (omega arith)
cuts_two (b ∷ []) asked entity long within none = absurd (omega arith)
cuts_two (b ∷ c ∷ []) asked entity long within none =
    let is = first_is b (min asked 7) (omega arith) entity.0 in record {
      same_length = refl;
      within = omega arith;
      shortest = rw is (cut_shortest (groups (b ∷ c ∷ [])) ((b - b % 2 ^ (7 - min asked 7)) ∷ []) asked 1 (are_groups (b ∷ c ∷ [])) (two_cut b c asked entity.0 within none) (omega arith));
    }
cuts_two (b ∷ c ∷ d ∷ map) asked entity long within none = absurd (omega arith)

-- ---- where it stands

entity_there : (out : List ℕ) (place asked : ℕ) → Stands out (level_of place 2 asked) (length out) → IsEntity (map_at out (level_of place 2 asked))
entity_there out place asked s = elim s.whole [ inl none ↦ absurd (omega arith) | inr e ↦ e ]

first_there : (out : List ℕ) (place asked : ℕ) → get_or (map_at out (level_of place 2 asked)) 0 0 ≡ get_or out place 0
first_there out place asked =
    let z : place + 0 ≡ place = omega arith in item_at out place 2 0 (omega arith) ∙ ap (λ n. get_or out n 0) z

ends_so : (out new : List ℕ) (place asked v : ℕ) → v ≡ bit_and (get_or out place 0 + 128) (255 - 127 / 2 ^ min asked 7) → Stands out (level_of place 2 asked) (length out)
    → get_or out (place + 1) 0 % 128 / 2 ^ (14 - asked) ≡ 0 → new ≡ take (place + 1) (set out place v) ++ drop (place + 2) (set out place v) → EndsThere (level_of place 2 asked) out new
ends_so out new place asked v is s none e =
    let l = level_of place 2 asked in
    let within = s.within in
    let first = first_there out place asked in
    let second : get_or (map_at out l) 1 0 ≡ get_or out (place + 1) 0 = item_at out place 2 1 (omega arith) in
    let cut = cuts_two (map_at out l) asked (entity_there out place asked s) (map_length out l (length out) s (omega arith)) s.asked (rw second none) in
    let cuts : CutsMap asked (map_at out l) (set (map_at out l) 0 v) 1 = rw (first, ← is) at cut in
    let there : CutThere l out (set out place v) 1 = record { map = set (map_at out l) 0 v; cuts = cuts; out = put_first l out v (omega arith) (omega arith) } in
    ends_cut l out (set out place v) new 1 s (omega arith) there e

pub ends_two : (out new : List ℕ) (place asked byte least : ℕ) → byte ≡ get_or out place byte → least ≡ min asked 7 → Stands out (level_of place 2 asked) (length out)
    → get_or out (place + 1) 0 % 128 / 2 ^ (14 - asked) ≡ 0
    → new ≡ take (place + 1) (set out place (bit_and (byte + 128) (255 - 127 / 2 ^ least))) ++ drop (place + 2) (set out place (bit_and (byte + 128) (255 - 127 / 2 ^ least)))
    → EndsThere (level_of place 2 asked) out new
ends_two out new place asked byte least here few s none e =
    let within = s.within in
    let is : byte ≡ get_or out place 0 = here ∙ get_or_default out place byte 0 (omega arith) in
    ends_so out new place asked (bit_and (byte + 128) (255 - 127 / 2 ^ least)) (ap₂ (λ b n. bit_and (b + 128) (255 - 127 / 2 ^ n)) is few) s none e
