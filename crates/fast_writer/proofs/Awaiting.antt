-- Which bits are left of the maps that are open.
use Rattle.fast_writer.proofs.Common.{◌≡◌, ◌≢◌, ℕ, Bool, true, false, ◌&&◌, nat_eq, IsTrue, List, [], ◌∷◌, ◌++◌, map, length, refl, sym, ap, ◌∙◌, and_parts, inl, inr, ◌⊎◌, FieldPart, part_needs_bit, after_bit, next_bit, bit_at, bits_of, groups, IsWholeMap}
use Rattle.std.proofs.Common.{arith, ◌≤◌, ◌%◌}
use Rattle.std.proofs.lemmas.Bool.{eqb-true}
use Rattle.std.proofs.lemmas.List.{length-map}
use Rattle.fast_wire.proofs.MapBits.{length_bits}
use Rattle.fast_wire.proofs.UnsignedForms.{entity_some}
use Rattle.fast_wire.specs.Entity.{IsEntity}
use Rattle.fast_walk.specs.Awaited.{AwaitsBehind, AwaitsBit, AwaitsInside, AwaitsOutside, IsMapped, IsOwnMap, StillAwaits}
use Rattle.std.specs.Result.{OnOk}
use Rattle.std.proofs.Common.{Result, Ok, Err}
use Rattle.fast_draft.specs.Segments.{GoesOn, Leaves, IsMapOrNone, Segment as Drafted, fresh}
use Rattle.fast_writer.specs.Drafts.{IsDrafted, is_none, run_awaits, run_begun, same_bits, same_maps}
use Rattle.fast_writer.specs.declared.run.Run.{Run}
use Rattle.fast_writer.proofs.Same.{bits_are, bits_same, last_of, maps_are, maps_same, none_is, some_is}

abbrev pub lefts : List Drafted → List (List Bool)
lefts ss = map (λ s. s.left) ss

zero_is : (n : ℕ) → nat_eq n 0 ≡ true → n ≡ 0
zero_is n h = eqb-true n 0 h

pub record Awaited (r : Run) (around : List (List Bool)) (b : List Bool) : Type 0 where
  pub none : r.passed ≡ 0
  pub left : r.draft.inner.left ≡ b
  pub around_is : lefts r.draft.around.segments ≡ around

pub awaited : (r : Run) (around : List (List Bool)) (b : List Bool) → IsTrue (run_awaits r around b) → Awaited r around b
awaited r around b h =
    let first = and_parts (nat_eq r.passed 0) (same_bits r.draft.inner.left b && same_maps (lefts r.draft.around.segments) around) h in
    let rest = and_parts (same_bits r.draft.inner.left b) (same_maps (lefts r.draft.around.segments) around) first.1 in
    record { none = zero_is r.passed first.0; left = bits_are r.draft.inner.left b rest.0; around_is = maps_are (lefts r.draft.around.segments) around rest.1 }

pub awaits : (r : Run) (around : List (List Bool)) (b : List Bool) → Awaited r around b → IsTrue (run_awaits r around b)
awaits r around b h = rw (h.none, h.left, h.around_is, bits_same b, maps_same around) refl

-- ---- calls

pub still : (r q : Run) → q.passed ≡ 0 → q.draft.inner.left ≡ r.draft.inner.left → q.draft.around ≡ r.draft.around → StillAwaits (run_awaits r) (run_awaits q)
still r q none left around_is around b h = let a = awaited r around b h in awaits q around b (record { none = none; left = left ∙ a.left; around_is = ap (λ o. lefts o.segments) around_is ∙ a.around_is })

pub behind : (r q : Run) (p : FieldPart) (bit : Bool) → q.passed ≡ 0 → q.draft.inner.left ≡ after_bit (part_needs_bit p) r.draft.inner.left → q.draft.around ≡ r.draft.around → AwaitsBehind bit p (run_awaits r) (run_awaits q)
behind r q p bit none left around_is around b is h =
    let a = awaited r around b h in
    awaits q around (after_bit (part_needs_bit p) b) (record { none = none; left = left ∙ ap (after_bit (part_needs_bit p)) a.left; around_is = ap (λ o. lefts o.segments) around_is ∙ a.around_is })

pub none_passed : (r : Run) (p : FieldPart) (bit : Bool) → AwaitsBit bit p (run_awaits r) → r.passed ≡ 0
none_passed r p bit h = (awaited r h.0 h.1 h.3).none

pub next_is : (r : Run) (p : FieldPart) (bit : Bool) → AwaitsBit bit p (run_awaits r) → part_needs_bit p ≡ true → bit ≡ next_bit r.draft.inner.left
next_is r p bit h needs = rw needs at h.2 ∙ ap next_bit (sym (awaited r h.0 h.1 h.3).left)

-- a segment inside these
pub inside : (q : Run) (bytes : List ℕ) (ss : List Drafted) (s : Drafted) (around : List (List Bool)) (own : Bool) (b bits : List Bool) → IsOwnMap own bytes bits → s.left ≡ b → lefts ss ≡ around
    → q.passed ≡ 0 → q.draft.around.segments ≡ ss ++ s ∷ [] → q.draft.inner ≡ fresh bytes → IsTrue (run_awaits q (around ++ b ∷ []) bits)
inside q bytes ss s around own b bits is left around_is none pushed inner = awaits q (around ++ b ∷ []) bits (record {
  none = none;
  left = rw inner (own_bits own bytes bits is);
  around_is = rw pushed (lefts_more ss s ∙ rw (around_is, left) refl);
})
  where
    own_bits : (own : Bool) (m : List ℕ) (bits : List Bool) → IsOwnMap own m bits → bits_of (groups m) ≡ bits
    own_bits true x bits m = sym m.value
    own_bits false x bits m = rw (m.0, m.1) refl

    lefts_more : (ss : List Drafted) (s : Drafted) → lefts (ss ++ s ∷ []) ≡ lefts ss ++ s.left ∷ []
    lefts_more [] s = refl
    lefts_more (t ∷ ss) s = ap (λ (k : List (List Bool)). t.left ∷ k) (lefts_more ss s)

pub draft_map : (own : Bool) (bytes : List ℕ) → IsMapped own bytes → IsMapOrNone bytes
draft_map true bytes m = inr (m.0, m.1)
draft_map false bytes m = inl m.1.0

pub some_around : (r : Run) → AwaitsInside (run_awaits r) → r.draft.around.segments ≢ []
some_around r h none = let l = last_of r.draft.around.segments h.0 h.1 (awaited r (h.0 ++ h.1 ∷ []) h.2 h.3).around_is in no_last l.fore l.last (sym none ∙ l.all_is)
  where
    no_last : (xs : List Drafted) (x : Drafted) → [] ≡ xs ++ x ∷ [] → ⊥
    no_last [] x h = cc
    no_last (y ∷ ys) x h = cc

-- the last of those around
pub last_around : (r : Run) → AwaitsInside (run_awaits r) → (fore : List Drafted) × (last : Drafted) × (r.draft.around.segments ≡ fore ++ last ∷ [])
last_around r h = let l = last_of r.draft.around.segments h.0 h.1 (awaited r (h.0 ++ h.1 ∷ []) h.2 h.3).around_is in (l.fore, l.last, l.all_is)

-- where the innermost has ended in it
pub outside : (r q : Run) → q.passed ≡ r.passed → Leaves r.draft q.draft → AwaitsOutside (run_awaits r) (run_awaits q)
outside r q same leaves around b bits h =
    let a = awaited r (around ++ b ∷ []) bits h in
    let l = last_of r.draft.around.segments around b a.around_is in
    let e = leaves l.fore l.last l.all_is in
    awaits q around b (record { none = same ∙ a.none; left = ap (λ (s : Drafted). s.left) e.1.is ∙ l.left; around_is = ap (λ o. lefts o.segments) e.0 ∙ l.around_is })

-- and another has begun in it
pub onwards : (r q : Run) (bytes : List ℕ) (around : List (List Bool)) (own : Bool) (b bits later : List Bool) → q.passed ≡ r.passed → GoesOn bytes r.draft q.draft → IsOwnMap own bytes later
    → IsTrue (run_awaits r (around ++ b ∷ []) bits) → IsTrue (run_awaits q (around ++ b ∷ []) later)
onwards r q bytes around own b bits later same goes is h =
    let a = awaited r (around ++ b ∷ []) bits h in
    let l = last_of r.draft.around.segments around b a.around_is in
    let e = goes l.fore l.last l.all_is in
    inside q bytes l.fore e.0 around own b later is (ap (λ (s : Drafted). s.left) e.1.is ∙ l.left) l.around_is (same ∙ a.none) (ap (λ o. o.segments) e.2) e.3

-- what two clauses say of an answer
pub both : (A B : Type 0) {X F : Type 0} (r : Result X F) → OnOk r A → OnOk r B → OnOk r (A × B)
both A B (Ok x) a b = (a, b)
both A B (Err f) a b = tt

pub none_around : (r : Run) (b : List Bool) → IsTrue (run_awaits r [] b) → r.draft.around.segments ≡ []
none_around r b h = empty r.draft.around.segments (awaited r [] b h).around_is
  where
    empty : (ss : List Drafted) → lefts ss ≡ [] → ss ≡ []
    empty [] h = refl
    empty (s ∷ ss) h = absurd cc

-- ---- a message's map

pub mapped_some : {map : List ℕ} {bits : List Bool} → IsWholeMap map bits → map ≢ []
mapped_some {map} m none = let some = rw none at (entity_some map m.entity) in absurd (omega (arith, some))

pub record Begun (r : Run) (bits : List Bool) : Type 0 where
  pub none : r.passed ≡ 0
  pub around : r.draft.around.segments ≡ []
  pub bytes : r.draft.inner.bytes ≡ []
  pub some : r.draft.inner.map ≢ []
  pub left : r.draft.inner.left ≡ bits
  pub whole : bits_of (groups r.draft.inner.map) ≡ bits

pub begun_parts : (r : Run) (bits : List Bool) → IsTrue (run_begun r bits) → Begun r bits
begun_parts r bits h =
    let s = r.draft.inner in
    let a = and_parts (nat_eq r.passed 0) _ h in
    let b = and_parts (is_none r.draft.around.segments) _ a.1 in
    let c = and_parts (is_none s.bytes) _ b.1 in
    let d = and_parts _ (same_bits s.left bits && same_bits (bits_of (groups s.map)) bits) c.1 in
    let e = and_parts (same_bits s.left bits) (same_bits (bits_of (groups s.map)) bits) d.1 in
    record {
      none = zero_is r.passed a.0;
      around = none_is r.draft.around.segments b.0;
      bytes = none_is s.bytes c.0;
      some = some_is s.map d.0;
      left = bits_are s.left bits e.0;
      whole = bits_are (bits_of (groups s.map)) bits e.1;
    }

pub begins : (r : Run) (bits : List Bool) → Begun r bits → IsTrue (run_begun r bits)
begins r bits h = rw (h.none, h.around, h.bytes, none_not r.draft.inner.map h.some, h.left, h.whole, bits_same bits) refl
  where
    none_not : {A : Type 0} (xs : List A) → xs ≢ [] → is_none xs ≡ false
    none_not [] some = absurd (some refl)
    none_not (x ∷ xs) some = refl

pub begun_drafted : {r : Run} {bits : List Bool} → Begun r bits → (r.draft.inner.map ≡ []) ⊎ (IsEntity r.draft.inner.map × (length r.draft.inner.map ≤ 256)) → IsDrafted r.draft.inner (record { bits = []; own = true; bytes = [] })
begun_drafted h (inl none) = absurd (h.some none)
begun_drafted {r} h (inr m) = record {
  stands = record {
    has = λ e. record { entity = m.0; short = m.1; value = λ i. ap (λ (k : List Bool). bit_at k i) (h.whole ∙ sym h.left) };
    count = λ e. omega (arith, ap (λ (k : List Bool). length k) (h.left ∙ sym h.whole), length_bits (groups r.draft.inner.map), length-map r.draft.inner.map (λ b. b % 128));
    none = λ e. absurd cc;
  };
  bytes = sym h.bytes;
}
