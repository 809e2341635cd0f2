-- A part that was read and written at once.
use Rattle.fast_writer.proofs.Common.{◌≡◌, ◌<◌, ℕ, ◌+◌, Bool, List, ◌++◌, ◌∷◌, Option, Some, None, true, false, [], drop, length, refl, sym, ap, subst, ◌∙◌, append-nil, arith, slice_index, FieldPart, Scalar, part_needs_bit, Entry, Dictionary, entry_at, set_entry, set_entry-there, Level, ReadsAsUsual, Judges, RelaysByte, Run, length_of, Passes as FieldPasses, Relayed, RelaysEntry, RelaysPart, StopsPart, took_of, FieldFault, AppendsForm, Operator, operator_needs_bit, Usual, IsBest, Cut, FormOf}
use Rattle.std.proofs.Common.{◌⊎◌}
use Rattle.fast_writer.proofs.Common.{IfSome, IsTrue, Kind, inl, inr, is_of, is_some, IsThere}
use Rattle.fast_take.specs.Takes.{IsStopped, IsTakenAs, best_bit, best_form, count_of, place_of}
use Rattle.fast_take.specs.declared.took.Aside.{Aside}
use Rattle.fast_take.specs.declared.took.Took.{Took}
use Rattle.fast_writer.specs.Runs.{written}
use Rattle.fast_writer.proofs.Runs.{settled}
use Rattle.fast_draft.specs.Segments.{Segment as Drafted, ahead, with_more}
use Rattle.fast_writer.specs.Drafts.{Marked, SpeltIn, noted}

spelt_entry : {p : FieldPart} {old : Entry} {v : Option Scalar} {bit needed : Bool} {s t : Drafted} → needed ≡ part_needs_bit p → AppendsForm p old v bit s.bytes t.bytes → Marked needed bit s t → SpeltIn p old v s t
spelt_entry {bit = bit} needs form marked = record {
  bit = bit;
  form = form.form;
  marked = rw (needs) at marked;
  bytes = form.appended;
  needs = form.needs;
  best = form.best;
}

-- what has no bit is not given by bit 0
zero_needs : (o : Operator) (i : FieldPart) (e : Entry) (cut : Cut) (b : List ℕ) (v : Option Scalar) → FormOf Usual o i e false cut b v → operator_needs_bit o i.presence ≡ false → false ≡ true
zero_needs Operator.Plain i e cut b v f none = absurd f
zero_needs Operator.Constant i e cut b v f none = absurd (let some = rw (f.2) at none in cc)
zero_needs Operator.Default i e cut b v f none = absurd cc
zero_needs Operator.Copy i e cut b v f none = absurd cc
zero_needs Operator.Increment i e cut b v f none = absurd cc
zero_needs Operator.Delta i e cut b v f none = absurd f
zero_needs Operator.Tail i e cut b v f none = absurd cc

pub best_needs : {i : FieldPart} {e : Entry} {b : List ℕ} {v : Option Scalar} (bit : Bool) → IsBest i e bit b v → part_needs_bit i ≡ false → bit ≡ true
best_needs true best none = refl
best_needs {i} {e} {b} {v} false best none = zero_needs i.operator i e best.cut b v best.form.row none

-- what was judged is relayed by its best form
pub judged_relayed : {level : Level} {i : FieldPart} {old new : Entry} {v : Option Scalar} {bit : Bool} {form bytes rest before all : List ℕ} → ReadsAsUsual level i bytes → Judges bit form i old new v bytes rest → all ≡ before ++ form
    → Relayed level i old new true bit v bytes rest before all
judged_relayed {old = old} {bit = bit} {form = form} usual j same = record {
  read = λ more. usual old more ∙ j.read more;
  entry = j.entry;
  form = record { form = form; appended = same; best = j.best; needs = best_needs bit j.best };
}

-- what bit 0 gives is relayed by nothing
pub passes_relayed : {level : Level} {i : FieldPart} {old new : Entry} {v : Option Scalar} {bytes before : List ℕ} → part_needs_bit i ≡ true → FieldPasses i old new v → Relayed level i old new false false v bytes bytes before before
passes_relayed {level = level} {bytes = bytes} {before = before} needs p = record {
  read = λ more. p.read level (bytes ++ more);
  entry = p.entry;
  form = record { form = []; appended = sym (append-nil before); best = p.best; needs = λ none. absurd (let both = sym needs ∙ none in cc) };
}

-- what was taken is relayed by its best form
pub taken_relayed : {level : Level} {i : FieldPart} {old new : Entry} {bit : Bool} {bytes : List ℕ} {at : ℕ} {a : Aside} {t : Took} {v : Option Scalar} (before : List ℕ) → IsTakenAs level i old new bit bytes at a t v
    → Relayed level i old new bit (best_bit bit a t) v (drop at bytes) (drop (place_of t) bytes) before (before ++ best_form bytes at a t)
taken_relayed {bit = bit} {bytes = bytes} {at = at} {a = a} {t = t} before h = record {
  read = h.read;
  entry = h.entry;
  form = record { form = best_form bytes at a t; appended = refl; best = h.best; needs = best_needs (best_bit bit a t) h.best };
}

-- whether a value is there that was taken
pub took_there : (k : Kind) (v : Option Scalar) (there : Bool) → is_some v ≡ there → IfSome v (λ w. IsTrue (is_of k w)) → IsThere k there v
took_there k None there is kind = rw (sym is) refl
took_there k (Some w) there is kind = rw (sym is) (w, refl, kind)

pub count_length : (count : Option ℕ) → count_of count ≡ length_of count
count_length None = refl
count_length (Some n) = refl

-- where the entry stayed
pub still : (p : FieldPart) {d e : Dictionary} {old new : Entry} → old ≡ entry_at d p.key → e ≡ set_entry d p.key new → new ≡ old → e ≡ d
still p {d} is put same = put ∙ ap (set_entry d p.key) (same ∙ is) ∙ set_entry-there d p.key

but_memory : {A B C : Type 0} → A ⊎ (B × C) → (B → ⊥) → A
but_memory (inl h) other = h
but_memory (inr h) other = absurd (other h.0)

-- what stops it, but for memory
pub took_stops : {level : Level} {p : FieldPart} {d e : Dictionary} {old new : Entry} {bit : Bool} {bytes : List ℕ} {at : ℕ} {f : FieldFault} (s : Drafted)
    → old ≡ entry_at d p.key → e ≡ set_entry d p.key new → IsStopped level p old new bit bytes at f → StopsPart level p d e bit (drop at bytes) s s f
took_stops {p = p} s is put stopped other = (rw (is) at (but_memory stopped.fault other), still p is put stopped.entry, refl)

-- where nothing is noted yet
pub begun : (bytes : List ℕ) (r s : Run) (at : ℕ) → s.draft ≡ r.draft → s.from ≡ at → s.place ≡ at → s.passed ≡ 0 → noted bytes s ≡ r.draft.inner
begun bytes r s at draft from place none = rw (draft, from, place, none, settled bytes r.draft.inner.bytes at) refl

drafted_is : (a b : List ℕ) (x y : List Bool) (c d : List ℕ) → a ≡ b → x ≡ y → c ≡ d → ◌≡◌ {A = Drafted} (record { map = a; left = x; bytes = c }) (record { map = b; left = y; bytes = d })
drafted_is a b x y c d map left bytes = rw (map, left, bytes) refl

-- where all that was noted is appended, and the draft is told of the bits that were passed
pub flushed : (bytes : List ℕ) (r s q : Run) → s.draft.inner ≡ ahead r.passed r.draft.inner → s.from ≡ r.from → s.place ≡ r.place
    → q.draft.inner.map ≡ s.draft.inner.map → q.draft.inner.left ≡ s.draft.inner.left → q.draft.inner.bytes ≡ written bytes s → q.draft.inner ≡ noted bytes r
flushed bytes r s q inner from place map left same =
    drafted_is q.draft.inner.map r.draft.inner.map q.draft.inner.left (drop r.passed r.draft.inner.left) q.draft.inner.bytes (written bytes r)
    (map ∙ ap (λ (d : Drafted). d.map) inner) (left ∙ ap (λ (d : Drafted). d.left) inner) (same ∙ rw (inner, from, place) refl)

-- ---- under a key

-- what was relayed into the entry that is put, and its bit passed
pub relays_under : {level : Level} {p : FieldPart} {d e : Dictionary} {old new : Entry} {bit best needed : Bool} {v : Option Scalar} {bytes : List ℕ} {at next : ℕ} {s t : Drafted}
    → old ≡ entry_at d p.key → e ≡ set_entry d p.key new → needed ≡ part_needs_bit p
    → RelaysEntry level p old new bit best v bytes at next s.bytes t.bytes → Marked needed best s t → RelaysPart level p d e bit v bytes at next s t
relays_under {p = p} {v = v} {s = s} {t = t} is put needs r marked = record {
  place = r.place;
  took = took_of is put r.relayed.entry r.relayed.read;
  spelt = subst (λ (x : Entry). SpeltIn p x v s t) is (spelt_entry needs r.relayed.form marked);
}

-- a length in one byte, whose entry stays
pub byte_relayed : (level : Level) (i : FieldPart) (count : Option ℕ) (bytes : List ℕ) (at : ℕ) → ReadsAsUsual level i (drop at bytes) → RelaysByte i count bytes at → (e : Entry) (out : List ℕ)
    → Relayed level i e e true true (length_of count) (drop at bytes) (drop (at + 1) bytes) out (out ++ slice_index bytes at ∷ [])
byte_relayed level i (Some n) bytes at usual relays e out = judged_relayed usual (relays e) refl
byte_relayed level i None bytes at usual relays e out = judged_relayed usual (relays e) refl

-- where no bit is asked for
pub byte_relays : (level : Level) (p : FieldPart) (bit : Bool) (d : Dictionary) (count : Option ℕ) (bytes : List ℕ) (at : ℕ) (s t : Drafted)
    → part_needs_bit p ≡ false → bit ≡ true → at < length bytes → ReadsAsUsual level p (drop at bytes) → RelaysByte p count bytes at
    → t ≡ with_more s (slice_index bytes at ∷ []) → RelaysPart level p d d bit (length_of count) bytes at (at + 1) s t
byte_relays level p bit d count bytes at s t none is within usual relays pushed =
    let e = entry_at d p.key in
    relays_under {best = true} refl (sym (set_entry-there d p.key)) (sym none)
    (rw pushed (record { place = (omega arith, omega (arith, within)); relayed = rw (is) (byte_relayed level p count bytes at usual relays e s.bytes); lower = λ zero. absurd (let both = sym is ∙ zero in cc) }))
    (rw pushed (record { left = refl; map = refl }))
