-- A map's groups are cut behind the bits that were asked for, and the last of them that are 0 are left out.
use Rattle.std.proofs.Common.{◌≡◌, ℕ, zero, suc, ◌+◌, ◌-◌, ◌*◌, ◌/◌, ◌%◌, ◌^◌, ◌<◌, ◌≤◌, false, nat_eq, List, [], ◌∷◌, length, length-take, get_or, get_or-take, set, take, refl, sym, ap, ap₂, ◌∙◌, arith, inl, inr}
use Rattle.std.proofs.lemmas.Bool.{cases_eq, cases_lt}
use Rattle.std.proofs.lemmas.Nat.{pow-add, pow_pos}
use Rattle.std.proofs.Math.Nat.{mul-div_cancel}
use Rattle.std.proofs.lemmas.List.{get_or_past, get_or-set_same, get_or-set_other, length-set, length-map}
use Rattle.fast_wire.specs.Entity.{IsEntity, groups}
use Rattle.fast_wire.specs.PresenceMap.{IsMap, bits_of, bit_at}
use Rattle.fast_wire.specs.Spellings.{stopped}
use Rattle.fast_wire.specs.Writing.{IsShortest}
use Rattle.fast_draft.specs.Mending.{ClearsBehind, CutsMap, IsUsedUpTo}
use Rattle.fast_wire.proofs.MapForms.{past}
use Rattle.fast_wire.proofs.UnsignedForms.{entity_some}
use Rattle.fast_wire.proofs.AsciiForms.{stopped_length}

-- ---- groups, and the stop bit

abbrev pub AreGroups : List ℕ → Type 0
AreGroups gs = (k : ℕ) → get_or gs k 0 < 128

pub stopped_entity : (gs : List ℕ) → 0 < length gs → AreGroups gs → IsEntity (stopped gs)
stopped_entity [] some h = absurd (omega arith)
stopped_entity (g ∷ []) some h = let low = h 0 in (omega arith, omega arith)
stopped_entity (g ∷ h' ∷ []) some h = (h 0, stopped_entity (h' ∷ []) (omega arith) (λ k. h (suc k)))
stopped_entity (g ∷ h' ∷ k' ∷ gs) some h = (h 0, stopped_entity (h' ∷ k' ∷ gs) (omega arith) (λ k. h (suc k)))

pub stopped_groups : (gs : List ℕ) → AreGroups gs → groups (stopped gs) ≡ gs
stopped_groups [] h = refl
stopped_groups (g ∷ []) h = let low = h 0 in let e : (g + 128) % 128 ≡ g = omega arith in rw e refl
stopped_groups (g ∷ h' ∷ gs) h =
    let low = h 0 in let e : g % 128 ≡ g = omega arith in
    ap₂ (λ z zs. z ∷ zs) e (stopped_groups (h' ∷ gs) (λ k. h (suc k)))

-- the groups of an entity are its bytes, the stop bit taken off the last
pub unstopped : (bs : List ℕ) → IsEntity bs → set bs (length bs - 1) (get_or bs (length bs - 1) 0 - 128) ≡ groups bs
unstopped [] e = absurd e
unstopped (b ∷ []) e = let f : b - 128 ≡ b % 128 = omega (arith, e.0, e.1) in ap (λ x. x ∷ []) f
unstopped (b ∷ c ∷ bs) e =
    let back : suc (suc (length bs)) - 1 ≡ suc (suc (length bs) - 1) = omega arith in
    let low : b ≡ b % 128 = omega (arith, e.0) in
    rw back (ap₂ (λ x xs. x ∷ xs) low (unstopped (c ∷ bs) e.1))

pub are_groups : (bs : List ℕ) → AreGroups (groups bs)
are_groups [] k = omega arith
are_groups (b ∷ bs) zero = omega arith
are_groups (b ∷ bs) (suc k) = are_groups bs k

-- ---- bits of groups

zero_bit : (k : ℕ) → nat_eq (0 / 2 ^ k % 2) 1 ≡ false
zero_bit k = let e : 0 / 2 ^ k ≡ 0 = omega arith in rw e refl

bit_in : (gs : List ℕ) (i : ℕ) → bit_at (bits_of gs) i ≡ nat_eq (get_or gs (i / 7) 0 / 2 ^ (6 - i % 7) % 2) 1
bit_in [] i = sym (zero_bit (6 - i % 7))
bit_in (g ∷ gs) zero = refl
bit_in (g ∷ gs) (suc zero) = refl
bit_in (g ∷ gs) (suc (suc zero)) = refl
bit_in (g ∷ gs) (suc (suc (suc zero))) = refl
bit_in (g ∷ gs) (suc (suc (suc (suc zero)))) = refl
bit_in (g ∷ gs) (suc (suc (suc (suc (suc zero))))) = refl
bit_in (g ∷ gs) (suc (suc (suc (suc (suc (suc zero)))))) = let e : g / 1 ≡ g = omega arith in ap (λ x. nat_eq (x % 2) 1) (sym e)
bit_in (g ∷ gs) (suc (suc (suc (suc (suc (suc (suc j))))))) =
    let q : suc (suc (suc (suc (suc (suc (suc j)))))) / 7 ≡ suc (j / 7) = omega arith in
    let r : suc (suc (suc (suc (suc (suc (suc j)))))) % 7 ≡ j % 7 = omega arith in
    rw (q, r) (bit_in gs j)

-- a group without its last bits
kept_bit : (g a m : ℕ) → a < 7 → m < a → (g - g % 2 ^ (7 - a)) / 2 ^ (6 - m) % 2 ≡ g / 2 ^ (6 - m) % 2
kept_bit g zero m ha hm = absurd (omega arith)
kept_bit g (suc zero) zero ha hm = omega arith
kept_bit g (suc zero) (suc m) ha hm = absurd (omega arith)
kept_bit g (suc (suc zero)) zero ha hm = omega arith
kept_bit g (suc (suc zero)) (suc zero) ha hm = omega arith
kept_bit g (suc (suc zero)) (suc (suc m)) ha hm = absurd (omega arith)
kept_bit g (suc (suc (suc zero))) zero ha hm = omega arith
kept_bit g (suc (suc (suc zero))) (suc zero) ha hm = omega arith
kept_bit g (suc (suc (suc zero))) (suc (suc zero)) ha hm = omega arith
kept_bit g (suc (suc (suc zero))) (suc (suc (suc m))) ha hm = absurd (omega arith)
kept_bit g (suc (suc (suc (suc zero)))) zero ha hm = omega arith
kept_bit g (suc (suc (suc (suc zero)))) (suc zero) ha hm = omega arith
kept_bit g (suc (suc (suc (suc zero)))) (suc (suc zero)) ha hm = omega arith
kept_bit g (suc (suc (suc (suc zero)))) (suc (suc (suc zero))) ha hm = omega arith
kept_bit g (suc (suc (suc (suc zero)))) (suc (suc (suc (suc m)))) ha hm = absurd (omega arith)
kept_bit g (suc (suc (suc (suc (suc zero))))) zero ha hm = omega arith
kept_bit g (suc (suc (suc (suc (suc zero))))) (suc zero) ha hm = omega arith
kept_bit g (suc (suc (suc (suc (suc zero))))) (suc (suc zero)) ha hm = omega arith
kept_bit g (suc (suc (suc (suc (suc zero))))) (suc (suc (suc zero))) ha hm = omega arith
kept_bit g (suc (suc (suc (suc (suc zero))))) (suc (suc (suc (suc zero)))) ha hm = omega arith
kept_bit g (suc (suc (suc (suc (suc zero))))) (suc (suc (suc (suc (suc m))))) ha hm = absurd (omega arith)
kept_bit g (suc (suc (suc (suc (suc (suc zero)))))) zero ha hm = omega arith
kept_bit g (suc (suc (suc (suc (suc (suc zero)))))) (suc zero) ha hm = omega arith
kept_bit g (suc (suc (suc (suc (suc (suc zero)))))) (suc (suc zero)) ha hm = omega arith
kept_bit g (suc (suc (suc (suc (suc (suc zero)))))) (suc (suc (suc zero))) ha hm = omega arith
kept_bit g (suc (suc (suc (suc (suc (suc zero)))))) (suc (suc (suc (suc zero)))) ha hm = omega arith
kept_bit g (suc (suc (suc (suc (suc (suc zero)))))) (suc (suc (suc (suc (suc zero))))) ha hm = omega arith
kept_bit g (suc (suc (suc (suc (suc (suc zero)))))) (suc (suc (suc (suc (suc (suc m)))))) ha hm = absurd (omega arith)
kept_bit g (suc (suc (suc (suc (suc (suc (suc a))))))) m ha hm = absurd (omega arith)

lost_bit : (g a m : ℕ) → g < 128 → a < 7 → m < 7 → a ≤ m → (g - g % 2 ^ (7 - a)) / 2 ^ (6 - m) % 2 ≡ 0
lost_bit g zero zero hg ha hm le = omega arith
lost_bit g zero (suc zero) hg ha hm le = omega arith
lost_bit g zero (suc (suc zero)) hg ha hm le = omega arith
lost_bit g zero (suc (suc (suc zero))) hg ha hm le = omega arith
lost_bit g zero (suc (suc (suc (suc zero)))) hg ha hm le = omega arith
lost_bit g zero (suc (suc (suc (suc (suc zero))))) hg ha hm le = omega arith
lost_bit g zero (suc (suc (suc (suc (suc (suc zero)))))) hg ha hm le = omega arith
lost_bit g zero (suc (suc (suc (suc (suc (suc (suc m))))))) hg ha hm le = absurd (omega arith)
lost_bit g (suc zero) zero hg ha hm le = absurd (omega arith)
lost_bit g (suc zero) (suc zero) hg ha hm le = omega arith
lost_bit g (suc zero) (suc (suc zero)) hg ha hm le = omega arith
lost_bit g (suc zero) (suc (suc (suc zero))) hg ha hm le = omega arith
lost_bit g (suc zero) (suc (suc (suc (suc zero)))) hg ha hm le = omega arith
lost_bit g (suc zero) (suc (suc (suc (suc (suc zero))))) hg ha hm le = omega arith
lost_bit g (suc zero) (suc (suc (suc (suc (suc (suc zero)))))) hg ha hm le = omega arith
lost_bit g (suc zero) (suc (suc (suc (suc (suc (suc (suc m))))))) hg ha hm le = absurd (omega arith)
lost_bit g (suc (suc zero)) zero hg ha hm le = absurd (omega arith)
lost_bit g (suc (suc zero)) (suc zero) hg ha hm le = absurd (omega arith)
lost_bit g (suc (suc zero)) (suc (suc zero)) hg ha hm le = omega arith
lost_bit g (suc (suc zero)) (suc (suc (suc zero))) hg ha hm le = omega arith
lost_bit g (suc (suc zero)) (suc (suc (suc (suc zero)))) hg ha hm le = omega arith
lost_bit g (suc (suc zero)) (suc (suc (suc (suc (suc zero))))) hg ha hm le = omega arith
lost_bit g (suc (suc zero)) (suc (suc (suc (suc (suc (suc zero)))))) hg ha hm le = omega arith
lost_bit g (suc (suc zero)) (suc (suc (suc (suc (suc (suc (suc m))))))) hg ha hm le = absurd (omega arith)
lost_bit g (suc (suc (suc zero))) zero hg ha hm le = absurd (omega arith)
lost_bit g (suc (suc (suc zero))) (suc zero) hg ha hm le = absurd (omega arith)
lost_bit g (suc (suc (suc zero))) (suc (suc zero)) hg ha hm le = absurd (omega arith)
lost_bit g (suc (suc (suc zero))) (suc (suc (suc zero))) hg ha hm le = omega arith
lost_bit g (suc (suc (suc zero))) (suc (suc (suc (suc zero)))) hg ha hm le = omega arith
lost_bit g (suc (suc (suc zero))) (suc (suc (suc (suc (suc zero))))) hg ha hm le = omega arith
lost_bit g (suc (suc (suc zero))) (suc (suc (suc (suc (suc (suc zero)))))) hg ha hm le = omega arith
lost_bit g (suc (suc (suc zero))) (suc (suc (suc (suc (suc (suc (suc m))))))) hg ha hm le = absurd (omega arith)
lost_bit g (suc (suc (suc (suc zero)))) zero hg ha hm le = absurd (omega arith)
lost_bit g (suc (suc (suc (suc zero)))) (suc zero) hg ha hm le = absurd (omega arith)
lost_bit g (suc (suc (suc (suc zero)))) (suc (suc zero)) hg ha hm le = absurd (omega arith)
lost_bit g (suc (suc (suc (suc zero)))) (suc (suc (suc zero))) hg ha hm le = absurd (omega arith)
lost_bit g (suc (suc (suc (suc zero)))) (suc (suc (suc (suc zero)))) hg ha hm le = omega arith
lost_bit g (suc (suc (suc (suc zero)))) (suc (suc (suc (suc (suc zero))))) hg ha hm le = omega arith
lost_bit g (suc (suc (suc (suc zero)))) (suc (suc (suc (suc (suc (suc zero)))))) hg ha hm le = omega arith
lost_bit g (suc (suc (suc (suc zero)))) (suc (suc (suc (suc (suc (suc (suc m))))))) hg ha hm le = absurd (omega arith)
lost_bit g (suc (suc (suc (suc (suc zero))))) zero hg ha hm le = absurd (omega arith)
lost_bit g (suc (suc (suc (suc (suc zero))))) (suc zero) hg ha hm le = absurd (omega arith)
lost_bit g (suc (suc (suc (suc (suc zero))))) (suc (suc zero)) hg ha hm le = absurd (omega arith)
lost_bit g (suc (suc (suc (suc (suc zero))))) (suc (suc (suc zero))) hg ha hm le = absurd (omega arith)
lost_bit g (suc (suc (suc (suc (suc zero))))) (suc (suc (suc (suc zero)))) hg ha hm le = absurd (omega arith)
lost_bit g (suc (suc (suc (suc (suc zero))))) (suc (suc (suc (suc (suc zero))))) hg ha hm le = omega arith
lost_bit g (suc (suc (suc (suc (suc zero))))) (suc (suc (suc (suc (suc (suc zero)))))) hg ha hm le = omega arith
lost_bit g (suc (suc (suc (suc (suc zero))))) (suc (suc (suc (suc (suc (suc (suc m))))))) hg ha hm le = absurd (omega arith)
lost_bit g (suc (suc (suc (suc (suc (suc zero)))))) zero hg ha hm le = absurd (omega arith)
lost_bit g (suc (suc (suc (suc (suc (suc zero)))))) (suc zero) hg ha hm le = absurd (omega arith)
lost_bit g (suc (suc (suc (suc (suc (suc zero)))))) (suc (suc zero)) hg ha hm le = absurd (omega arith)
lost_bit g (suc (suc (suc (suc (suc (suc zero)))))) (suc (suc (suc zero))) hg ha hm le = absurd (omega arith)
lost_bit g (suc (suc (suc (suc (suc (suc zero)))))) (suc (suc (suc (suc zero)))) hg ha hm le = absurd (omega arith)
lost_bit g (suc (suc (suc (suc (suc (suc zero)))))) (suc (suc (suc (suc (suc zero))))) hg ha hm le = absurd (omega arith)
lost_bit g (suc (suc (suc (suc (suc (suc zero)))))) (suc (suc (suc (suc (suc (suc zero)))))) hg ha hm le = omega arith
lost_bit g (suc (suc (suc (suc (suc (suc zero)))))) (suc (suc (suc (suc (suc (suc (suc m))))))) hg ha hm le = absurd (omega arith)
lost_bit g (suc (suc (suc (suc (suc (suc (suc a))))))) m hg ha hm le = absurd (omega arith)

not_one : (x : ℕ) → x < 2 → nat_eq x 1 ≡ false → x ≡ 0
not_one zero h e = refl
not_one (suc zero) h e = absurd cc
not_one (suc (suc x)) h e = absurd (omega arith)

zero_group : (g : ℕ) → g < 128 → g / 64 % 2 ≡ 0 → g / 32 % 2 ≡ 0 → g / 16 % 2 ≡ 0 → g / 8 % 2 ≡ 0 → g / 4 % 2 ≡ 0 → g / 2 % 2 ≡ 0 → g % 2 ≡ 0 → g ≡ 0
zero_group g h a b c d e f k = omega arith

-- all bits of a group are 0, then it is 0
pub none_in : (gs : List ℕ) (q : ℕ) → AreGroups gs → ((i : ℕ) → 7 * q ≤ i → bit_at (bits_of gs) i ≡ false) → get_or gs q 0 ≡ 0
none_in [] q h none = refl
none_in (g ∷ gs) zero h none =
    zero_group g (h 0) (not_one (g / 64 % 2) (omega arith) (none 0 (omega arith))) (not_one (g / 32 % 2) (omega arith) (none 1 (omega arith)))
    (not_one (g / 16 % 2) (omega arith) (none 2 (omega arith))) (not_one (g / 8 % 2) (omega arith) (none 3 (omega arith)))
    (not_one (g / 4 % 2) (omega arith) (none 4 (omega arith))) (not_one (g / 2 % 2) (omega arith) (none 5 (omega arith))) (not_one (g % 2) (omega arith) (none 6 (omega arith)))
none_in (g ∷ gs) (suc q) h none = none_in gs q (λ k. h (suc k)) (λ i le. none (suc (suc (suc (suc (suc (suc (suc i))))))) (omega arith))

-- ---- what is left

pub record IsCut (bs gs : List ℕ) (asked used : ℕ) : Type 0 where
  pub some : 0 < used
  pub within : used ≤ length gs
  pub most : used ≤ asked / 7 + 1
  pub low : AreGroups gs
  pub fore : (q : ℕ) → q < asked / 7 → get_or gs q 0 ≡ get_or bs q 0
  pub last : get_or gs (asked / 7) 0 ≡ get_or bs (asked / 7) 0 - get_or bs (asked / 7) 0 % 2 ^ (7 - asked % 7)
  pub zeros : (q : ℕ) → used ≤ q → q < asked / 7 + 1 → get_or gs q 0 ≡ 0
  pub needed : 1 < used → get_or gs (used - 1) 0 ≡ 0 → ⊥

-- a group of what is left, up to that of the last bit that was asked for
left_group : (bs gs : List ℕ) (asked used q : ℕ) → IsCut bs gs asked used → q ≤ asked / 7 → get_or (take used gs) q 0 ≡ get_or gs q 0
left_group bs gs asked used q h le = elim (cases_lt q used) [
  | inl less ↦ get_or-take used gs q 0 less
  | inr more ↦ get_or_past (take used gs) q 0 (omega (arith, length-take used gs)) ∙ sym (h.zeros q more (omega arith))
]

left_bit : (bs gs : List ℕ) (asked used i : ℕ) → AreGroups bs → IsCut bs gs asked used → bit_at (bits_of (take used gs)) i ≡ bit_at (take asked (bits_of bs)) i
left_bit bs gs asked used i low h = elim (cases_lt i asked) [
  | inl less ↦ bit_in (take used gs) i ∙ kept i less ∙ sym (bit_in bs i) ∙ sym (get_or-take asked (bits_of bs) i false less)
  | inr more ↦ bit_in (take used gs) i ∙ lost i more ∙ sym (get_or_past (take asked (bits_of bs)) i false (omega (arith, length-take asked (bits_of bs))))
]
  where
    kept : (i : ℕ) → i < asked → nat_eq (get_or (take used gs) (i / 7) 0 / 2 ^ (6 - i % 7) % 2) 1 ≡ nat_eq (get_or bs (i / 7) 0 / 2 ^ (6 - i % 7) % 2) 1
    kept i less = elim (cases_lt (i / 7) (asked / 7)) [
      | inl fore ↦ ap (λ x. nat_eq (x / 2 ^ (6 - i % 7) % 2) 1) (left_group bs gs asked used (i / 7) h (omega arith) ∙ h.fore (i / 7) fore)
      | inr here ↦
          let e : i / 7 ≡ asked / 7 = omega arith in
          ap (λ x. nat_eq (x / 2 ^ (6 - i % 7) % 2) 1) (left_group bs gs asked used (i / 7) h (omega arith) ∙ ap (λ q. get_or gs q 0) e ∙ h.last)
          ∙ ap (λ x. nat_eq x 1) (kept_bit (get_or bs (asked / 7) 0) (asked % 7) (i % 7) (omega arith) (omega arith))
          ∙ ap (λ q. nat_eq (get_or bs q 0 / 2 ^ (6 - i % 7) % 2) 1) (sym e)
    ]

    lost : (i : ℕ) → asked ≤ i → nat_eq (get_or (take used gs) (i / 7) 0 / 2 ^ (6 - i % 7) % 2) 1 ≡ false
    lost i more = elim (cases_lt (asked / 7) (i / 7)) [
      | inl behind ↦
          let most = h.most in
          ap (λ x. nat_eq (x / 2 ^ (6 - i % 7) % 2) 1) (get_or_past (take used gs) (i / 7) 0 (omega (arith, length-take used gs))) ∙ zero_bit (6 - i % 7)
      | inr here ↦
          let e : i / 7 ≡ asked / 7 = omega arith in
          ap (λ x. nat_eq (x / 2 ^ (6 - i % 7) % 2) 1) (left_group bs gs asked used (i / 7) h (omega arith) ∙ ap (λ q. get_or gs q 0) e ∙ h.last)
          ∙ ap (λ x. nat_eq x 1) (lost_bit (get_or bs (asked / 7) 0) (asked % 7) (i % 7) (low (asked / 7)) (omega arith) (omega arith) (omega arith))
    ]

-- a front of groups is groups
front_groups : (used : ℕ) (gs : List ℕ) → AreGroups gs → AreGroups (take used gs)
front_groups used gs low k = elim (cases_lt k used) [
  | inl less ↦ rw (get_or-take used gs k 0 less) (low k)
  | inr more ↦ rw (get_or_past (take used gs) k 0 (omega (arith, length-take used gs))) (omega arith)
]

-- what is left is the shortest map of the bits that were asked for
pub cut_shortest : (bs gs : List ℕ) (asked used : ℕ) → AreGroups bs → IsCut bs gs asked used → length gs ≤ 256 → IsShortest IsMap (stopped (take used gs)) (take asked (bits_of bs))
cut_shortest bs gs asked used low h few =
    let within = h.within in let some = h.some in
    let long : length (take used gs) ≡ used = omega (arith, length-take used gs) in
    let front = front_groups used gs h.low in
    let back = stopped_groups (take used gs) front in
    let size = stopped_length (take used gs) in
    let bits : (i : ℕ) → bit_at (bits_of (groups (stopped (take used gs)))) i ≡ bit_at (take asked (bits_of bs)) i = λ i. ap (λ l. bit_at (bits_of l) i) back ∙ left_bit bs gs asked used i low h in record {
      form = record { entity = stopped_entity (take used gs) (omega arith) front; short = omega arith; value = bits };
      least = λ other f. elim (cases_lt (length other) used) [
        | inl less ↦
            let at = entity_some other f.entity in
            let none = none_in (take used gs) (used - 1) front (λ i le. left_bit bs gs asked used i low h ∙ sym (f.value i) ∙ past other i (omega arith)) in
            let here : get_or (take used gs) (used - 1) 0 ≡ get_or gs (used - 1) 0 = get_or-take used gs (used - 1) 0 (omega arith) in
            absurd (h.needed (omega arith) (sym here ∙ none))
        | inr le ↦ omega arith
      ];
    }

-- ---- what the code does

-- the stop bit is put on the last of so many groups
cut_stop : (gs : List ℕ) (used : ℕ) → 0 < used → used ≤ length gs → take used (set gs (used - 1) (get_or gs (used - 1) 0 + 128)) ≡ stopped (take used gs)
cut_stop gs zero some within = absurd (omega arith)
cut_stop [] (suc u) some within = absurd (omega arith)
cut_stop (g ∷ gs) (suc zero) some within = refl
cut_stop (g ∷ []) (suc (suc u)) some within = absurd (omega arith)
cut_stop (g ∷ h ∷ gs) (suc (suc u)) some within =
    let back : suc (suc u) - 1 ≡ suc (suc u - 1) = omega arith in
    rw back (ap (λ (zs : List ℕ). g ∷ zs) (cut_stop (h ∷ gs) (suc u) (omega arith) (omega arith)))

pub cuts : (old new : List ℕ) (asked most used : ℕ) → IsEntity old → length old ≤ 256 → ClearsBehind asked (set old (length old - 1) (get_or old (length old - 1) 0 - 128)) new most → IsUsedUpTo new most used
    → CutsMap asked old (set new (used - 1) (get_or new (used - 1) 0 + 128)) used
cuts old new asked most used entity few cleared upto =
    let off = unstopped old entity in
    let c : ClearsBehind asked (groups old) new most = rw off at cleared in
    let long : length (groups old) ≡ length old = length-map old (λ b. b % 128) in
    let same = c.same_length in let within = c.within in let enough = c.enough in let some = upto.some in let up = upto.within in
    let bs = are_groups old in
    let low : AreGroups new = λ k. omega (arith, c.low k, bs k) in
    let cut : IsCut (groups old) new asked used = record {
      some = upto.some;
      within = omega arith;
      most = omega arith;
      low = low;
      fore = c.fore;
      last = c.last;
      zeros = λ q le less. elim (cases_lt q most) [ inl inside ↦ upto.zeros q le inside | inr more ↦ c.zeros q more less ];
      needed = upto.last;
    } in record {
      same_length = length-set new (used - 1) (get_or new (used - 1) 0 + 128) ∙ same ∙ long;
      within = omega arith;
      shortest = rw (cut_stop new used upto.some (omega arith)) (cut_shortest (groups old) new asked used bs cut (omega arith));
    }

-- a byte less its last bits
pub clears_inside : (old : List ℕ) (asked : ℕ) → asked < 7 * length old → ClearsBehind asked old (set old (asked / 7) (get_or old (asked / 7) 0 - get_or old (asked / 7) 0 % 2 ^ (7 - asked % 7))) (asked / 7 + 1)
clears_inside old asked inside =
    let v = get_or old (asked / 7) 0 - get_or old (asked / 7) 0 % 2 ^ (7 - asked % 7) in
    let here : asked / 7 < length old = omega arith in
    let at : get_or (set old (asked / 7) v) (asked / 7) 0 ≡ v = get_or-set_same old (asked / 7) v 0 here in record {
      same_length = length-set old (asked / 7) v;
      some = omega arith;
      within = omega arith;
      enough = omega arith;
      fore = λ q less. get_or-set_other old (asked / 7) q v 0 (λ e. absurd (omega arith));
      last = at;
      low = λ q. elim (cases_eq q (asked / 7)) [
        | inl e ↦ rw (e, at) (omega arith)
        | inr far ↦ rw (get_or-set_other old (asked / 7) q v 0 far) (omega arith)
      ];
      zeros = λ q le less. absurd (omega arith);
    }

pub clears_none : (old : List ℕ) (asked : ℕ) → 0 < length old → asked ≡ 7 * length old → ClearsBehind asked old old (length old)
clears_none old asked some e =
    let all : asked / 7 ≡ length old = omega arith in
    let nothing : get_or old (asked / 7) 0 ≡ 0 = get_or_past old (asked / 7) 0 (omega arith) in record {
      same_length = refl;
      some = some;
      within = omega arith;
      enough = omega arith;
      fore = λ q less. refl;
      last = nothing ∙ omega (arith, nothing);
      low = λ q. omega arith;
      zeros = λ q le less. get_or_past old q 0 le;
    }

pub last_stop : (bs : List ℕ) → IsEntity bs → 128 ≤ get_or bs (length bs - 1) 0
last_stop [] e = absurd e
last_stop (b ∷ []) e = e.0
last_stop (b ∷ c ∷ bs) e =
    let back : suc (suc (length bs)) - 1 ≡ suc (suc (length bs) - 1) = omega arith in
    rw back (last_stop (c ∷ bs) e.1)

pub group_below : (old new : List ℕ) (asked most k : ℕ) → IsEntity old → ClearsBehind asked (set old (length old - 1) (get_or old (length old - 1) 0 - 128)) new most → get_or new k 0 < 128
group_below old new asked most k entity cleared =
    let c : ClearsBehind asked (groups old) new most = rw (unstopped old entity) at cleared in
    omega (arith, c.low k, are_groups old k)

-- a power of 2 shifted to the right
pub weight_is : (n a : ℕ) → a ≤ n → 2 ^ n / 2 ^ a ≡ 2 ^ (n - a)
weight_is n a le =
    let split : n ≡ n - a + a = omega arith in
    ap (λ m. m / 2 ^ a) (ap (λ m. 2 ^ m) split ∙ pow-add 2 (n - a) a) ∙ mul-div_cancel (2 ^ (n - a)) (pow_pos a)
