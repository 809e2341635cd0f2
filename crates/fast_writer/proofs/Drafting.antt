-- How the segments of a draft stand to those that are written.
use Rattle.fast_writer.proofs.Common.{◌≡◌, ◌≢◌, ◌<◌, ◌-◌, ◌*◌, ◌+◌, ℕ, zero, suc, Bool, true, false, List, [], ◌∷◌, ◌++◌, Option, length, drop, take, drop-drop, refl, sym, ap, ◌∙◌, inl, inr, arith, append-nil, length-append, true≢false, Scalar, FieldPart, part_needs_bit, Entry, Dictionary, IsMap, IsShortest, after_bit, bit_at, bits_of, groups, next_bit, later_bits, Received, bits_for, more_of, Segment, Spelt, IsOpened, Ended}
use Rattle.std.proofs.Common.{◌%◌, get_or-take, length-take}
use Rattle.std.proofs.lemmas.Bool.{cases_eq, cases_lt}
use Rattle.std.proofs.lemmas.List.{get_or_past, length-map}
use Rattle.fast_wire.proofs.MapForms.{past}
use Rattle.fast_wire.proofs.MapBits.{length_bits}
use Rattle.fast_wire.proofs.UnsignedForms.{entity_some}
use Rattle.fast_walk.specs.Awaited.{IsMapped}
use Rattle.fast_draft.specs.Mending.{Clears}
use Rattle.fast_draft.specs.Segments.{Ends, Segment as Drafted, fresh}
use Rattle.fast_writer.specs.Drafts.{AreDrafted, IsDrafted, IsOpenIn, Marked, MarksMap, SpeltIn, Stands}

-- ---- bits

-- bits before others
bit_before : (xs ys : List Bool) (i : ℕ) → i < length xs → bit_at (xs ++ ys) i ≡ bit_at xs i
bit_before [] ys i h = absurd (omega arith)
bit_before (x ∷ xs) ys zero h = refl
bit_before (x ∷ xs) ys (suc i) h = bit_before xs ys i (omega arith)

-- the next bit goes from those that are left to those that were asked
one_more : (xs left : List Bool) (i : ℕ) → bit_at ((xs ++ next_bit left ∷ []) ++ later_bits left) i ≡ bit_at (xs ++ left) i
one_more [] (b ∷ left) i = refl
one_more [] [] zero = refl
one_more [] [] (suc i) = refl
one_more (x ∷ xs) left zero = refl
one_more (x ∷ xs) left (suc i) = one_more xs left i

-- and so where it is 0 now
one_less : (xs left : List Bool) (i : ℕ) → 0 < length left → (i ≡ length xs → ⊥) → bit_at ((xs ++ false ∷ []) ++ later_bits left) i ≡ bit_at (xs ++ left) i
one_less [] [] i some other = absurd (omega arith)
one_less [] (b ∷ left) zero some other = absurd (other refl)
one_less [] (b ∷ left) (suc i) some other = refl
one_less (x ∷ xs) left zero some other = refl
one_less (x ∷ xs) left (suc i) some other = one_less xs left i some (λ e. other (ap suc e))

here_is : (xs ys : List Bool) → bit_at ((xs ++ false ∷ []) ++ ys) (length xs) ≡ false
here_is [] ys = refl
here_is (x ∷ xs) ys = here_is xs ys

later_length : (left : List Bool) → length (later_bits left) ≡ length left - 1
later_length [] = refl
later_length (b ∷ left) = omega arith

some_left : (left : List Bool) → left ≢ [] → 0 < length left
some_left [] some = absurd (some refl)
some_left (b ∷ left) some = omega arith

-- ---- a bit is passed

keeps_map : (own : Bool) (map : List ℕ) (bits left : List Bool) → own ≡ true → Stands own map bits left → Stands own map (bits ++ next_bit left ∷ []) (later_bits left)
keeps_map own map bits left is s =
    let m = s.has is in record {
      has = λ e. record { entity = m.entity; short = m.short; value = λ i. m.value i ∙ sym (one_more bits left i) };
      count = λ e. omega (arith, s.count is, later_length left, length-append bits (next_bit left ∷ []));
      none = λ e. absurd (true≢false (sym is ∙ e));
    }

clears_map : (own : Bool) (map new : List ℕ) (bits left : List Bool) → own ≡ true → 0 < length left → Clears (length bits) map new → Stands own map bits left → Stands own new (bits ++ false ∷ []) (later_bits left)
clears_map own map new bits left is some c s =
    let m = s.has is in let same = c.same_length in let few = m.short in record {
      has = λ e. record {
        entity = c.entity m.entity;
        short = omega arith;
        value = λ i. elim (cases_eq i (length bits)) [
          | inl at ↦ rw at (c.bit ∙ sym (here_is bits (later_bits left)))
          | inr far ↦ c.others i far ∙ m.value i ∙ sym (one_less bits left i some far)
        ];
      };
      count = λ e. omega (arith, s.count is, same, later_length left, length-append bits (false ∷ []));
      none = λ e. absurd (true≢false (sym is ∙ e));
    }

marks_map : (needs best own : Bool) (map new : List ℕ) (bits left : List Bool) → (needs ≡ true → own ≡ true) → MarksMap needs best left map new → Stands own map bits left
    → Stands own new (bits ++ bits_for needs best) (after_bit needs left)
marks_map true best own map new bits left owned (inl h) s = rw (h.0, h.1) (keeps_map own map bits left (owned refl) s)
marks_map true best own map new bits left owned (inr h) s =
    let some = some_left left h.1 in
    let index : 7 * length map - length left ≡ length bits = omega (arith, s.count (owned refl), some) in
    rw (h.0) (clears_map own map new bits left (owned refl) some (rw index at h.2) s)
marks_map false best own map new bits left owned h s = rw (h, append-nil bits) s

pub marks : {s t : Drafted} {l : Segment} {needs best : Bool} (form : List ℕ) → Marked needs best s t → t.bytes ≡ s.bytes ++ form → (needs ≡ true → l.own ≡ true) → IsDrafted s l → IsDrafted t (more_of l (bits_for needs best) form)
marks {s} {t} {l} {needs} {best} form m bytes owned d = record {
  stands = rw (m.left) (marks_map needs best l.own s.map t.map l.bits s.left owned m.map d.stands);
  bytes = ap (λ (x : List ℕ). x ++ form) d.bytes ∙ sym bytes;
}

pub later_is : (left : List Bool) → drop 1 left ≡ later_bits left
later_is [] = refl
later_is (b ∷ left) = refl

-- the bits that are left behind one more
pub one_further : (left : List Bool) (n : ℕ) → drop (n + 1) left ≡ later_bits (drop n left)
one_further left n = sym (drop-drop 1 n left) ∙ later_is (drop n left)

-- the same of others with the same maps
pub marked_as : {needs best : Bool} {s t u v : Drafted} → u.left ≡ s.left → u.map ≡ s.map → v.left ≡ t.left → v.map ≡ t.map → Marked needs best s t → Marked needs best u v
marked_as {needs} {best} left map later new m = record { left = later ∙ m.left ∙ ap (after_bit needs) (sym left); map = rw (left, map, new) m.map }

-- ---- a segment begins and ends

pub begun : (own : Bool) (map : List ℕ) → IsMapped own map → IsDrafted (fresh map) (record { bits = []; own = own; bytes = [] })
begun true map m = record {
  stands = record {
    has = λ e. record { entity = (m.1).entity; short = (m.1).short; value = λ i. refl };
    count = λ e. omega (arith, length_bits (groups map), length-map map (λ b. b % 128));
    none = λ e. absurd cc;
  };
  bytes = refl;
}
begun false map m = record {
  stands = record { has = λ e. absurd cc; count = λ e. absurd cc; none = λ e. (m.1.0, refl) };
  bytes = refl;
}

-- the bits of the map that were asked for are those of the segment
asked_bits : (map : List ℕ) (bits left : List Bool) (asked : ℕ) → IsMap map (bits ++ left) → length left ≡ 7 * length map - length bits → asked ≡ 7 * length map - length left
    → (i : ℕ) → bit_at (take asked (bits_of (groups map))) i ≡ bit_at bits i
asked_bits map bits left asked m count is i = elim (cases_lt i asked) [
  | inl less ↦ get_or-take asked (bits_of (groups map)) i false less ∙ m.value i ∙ bit_before bits left i (omega (arith, count, is))
  | inr more ↦ get_or_past (take asked (bits_of (groups map))) i false (omega (arith, length-take asked (bits_of (groups map)))) ∙ elim (cases_lt i (length bits)) [
    | inl inside ↦ sym (past map i (omega (arith, count, is))) ∙ m.value i ∙ bit_before bits left i inside
    | inr behind ↦ sym (get_or_past bits i false behind)
  ]
]

-- a shortest map of the same bits
same_shortest : (map : List ℕ) (xs ys : List Bool) → ((i : ℕ) → bit_at xs i ≡ bit_at ys i) → IsShortest IsMap map xs → IsShortest IsMap map ys
same_shortest map xs ys same h = record {
  form = record { entity = h.form.entity; short = h.form.short; value = λ i. h.form.value i ∙ same i };
  least = λ other f. h.least other (record { entity = f.entity; short = f.short; value = λ i. f.value i ∙ sym (same i) });
}

some_map : {map : List ℕ} {bits : List Bool} → IsMap map bits → map ≢ []
some_map {map} m none = let some = rw none at (entity_some map m.entity) in absurd (omega (arith, some))

pub ends : {s : Drafted} {l : Segment} {map old new : List ℕ} → Ends s map → new ≡ old ++ (map ++ s.bytes) → IsDrafted s l → Ended l old new
ends {s} {l} {map} {old} e out d = record {
  map = map;
  bytes = out ∙ ap (λ (x : List ℕ). old ++ (map ++ x)) (sym d.bytes);
  shortest = λ own.
      let m = d.stands.has own in
      let asked = 7 * length s.map - length s.left in
      same_shortest map (take asked (bits_of (groups s.map))) l.bits (asked_bits s.map l.bits s.left asked m (d.stands.count own) refl) (e.shortest (some_map m));
  none = λ bare. e.none (d.stands.none bare).0;
}

-- ---- those around

pub pushed : (ss : List Drafted) (ls : List Segment) {s : Drafted} {l : Segment} → AreDrafted ss ls → IsDrafted s l → AreDrafted (ss ++ s ∷ []) (ls ++ l ∷ [])
pushed [] [] a d = (d, tt)
pushed (s ∷ ss) (l ∷ ls) a d = (a.0, pushed ss ls a.1 d)
pushed [] (l ∷ ls) a d = absurd a
pushed (s ∷ ss) [] a d = absurd a

pub record LastDrafted (ss : List Drafted) (s : Drafted) (all : List Segment) : Type 0 where
  pub fore : List Segment
  pub last : Segment
  pub all_is : all ≡ fore ++ last ∷ []
  pub around : AreDrafted ss fore
  pub drafted : IsDrafted s last

pub popped : (ss : List Drafted) (s : Drafted) (all : List Segment) → AreDrafted (ss ++ s ∷ []) all → LastDrafted ss s all
popped [] s (l ∷ []) a = record { fore = []; last = l; all_is = refl; around = tt; drafted = a.0 }
popped (r ∷ ss) s (l ∷ ls) a =
    let p = popped ss s ls a.1 in
    record { fore = l ∷ p.fore; last = p.last; all_is = ap (λ (k : List Segment). l ∷ k) p.all_is; around = (a.0, p.around); drafted = p.drafted }
popped [] s [] a = absurd a
popped [] s (l ∷ k ∷ ls) a = absurd a.1
popped (r ∷ ss) s [] a = absurd a

-- ---- a part's best form

pub spelt_by : {p : FieldPart} {e : Entry} {v : Option Scalar} {s t : Drafted} (x : SpeltIn p e v s t) (l : Segment) → Spelt p e v l (more_of l (bits_for (part_needs_bit p) x.bit) x.form)
spelt_by x l = record { bit = x.bit; form = x.form; bits = refl; own = refl; bytes = refl; needs = x.needs; best = x.best }

-- what holds of the segments that are written holds of those of a draft
pub spelt_on : {out : List ℕ} {around : List Drafted} {s t : Drafted} {o u : Received} {d e : Dictionary} {p : FieldPart} {old : Entry} {v : Option Scalar} (x : SpeltIn p old v s t)
    → ((outer : List Segment) (l : Segment) → IsOpened out outer l o d → part_needs_bit p ≡ true → l.own ≡ true)
    → ((outer : List Segment) (l k : Segment) → Spelt p old v l k → IsOpened out outer l o d → IsOpened out outer k u e)
    → IsOpenIn out around s o d → IsOpenIn out around t u e
spelt_on {p = p} x owned step h = record {
  outer = h.outer;
  segment = more_of h.segment (bits_for (part_needs_bit p) x.bit) x.form;
  around_drafted = h.around_drafted;
  drafted = marks x.form x.marked x.bytes (owned h.outer h.segment h.opened) h.drafted;
  opened = step h.outer h.segment _ (spelt_by x h.segment) h.opened;
}
