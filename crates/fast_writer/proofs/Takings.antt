-- Fields that are taken one after the other into the segment that is open.
use Rattle.fast_writer.proofs.Common.{◌≡◌, ◌≤◌, ◌<◌, ◌-◌, ◌+◌, ℕ, suc, ℤ, pos, Bool, false, List, [], ◌∷◌, ◌++◌, length, Option, Some, None, drop, take, refl, sym, ap, ◌∙◌, subst, arith, drop-drop, take_all, is_some, slice_get, Bor, Scalar, I64, Decimal, Presence, FieldPart, Flat, Instruction, Instructions, instruction_of, whole_field, field_in_parts, group_of, sequence_of, then_instruction, list_of, part_needs_bit, Dictionary, entry_at, set_entry, set_entry-there, Entry, Level, single, bit_for, after_bit, at_instruction, at_mantissa, cursor, with_item, Took, exponent_of, next_behind, AreServed, IsNextServed, IsServed, Key, passes_field, passes_on, passes_one, count_goes, part_goes, exponent_on, no_exponent_on, mantissa_on_goes, is_instruction, is_mantissa, BeginsWith, Front, Takes, TakesPart, TakesUnder, TookFields, TookUnder, behind, Relayed, RelaysPart, Taken, IsThere, Run, IsFieldPart, KeepScalars}
use Rattle.fast_draft.specs.Segments.{Segment as Drafted}
use Rattle.fast_writer.specs.Drafts.{Marked, SpeltIn, noted}
use Rattle.fast_writer.specs.declared.fields.Taken.TheVariants.{Part, Elsewhere, Refused}
use Rattle.fast_writer.specs.Runs.{IsRun, written}
use Rattle.fast_writer.specs.Quick.{RelaysEntry}
use Rattle.fast_writer.specs.Takings.{TookThere}
use Rattle.std.proofs.Common.{append-nil, slice_range}
use Rattle.fast_take.specs.Constants.{StandsAlways}
use Rattle.fast_writer.proofs.Relays.{judged_relayed, passes_relayed, relays_under, still}
use Rattle.fast_writer.proofs.Common.{true, Passes as FieldPasses}
use Rattle.fast_writer.proofs.SpeltParts.{exponent_there, mantissa_taken, spelt_keeps}
use Rattle.fast_writer.proofs.Opened.{drafts_exponent, drafts_field, drafts_mantissa}

abbrev behind_first : List Flat → List Flat
behind_first others = take (length others - 1) (drop 1 others)

-- the instruction in front of what is left of a body, told by how many are left, and what is left behind it
pub record Ahead (flats others : List Flat) (f : Flat) : Type 0 where
  pub within : length flats - length others < length flats
  pub goes : list_of (drop (length flats - length others) flats) ≡ then_instruction (instruction_of f) (list_of (drop (length flats - length others + 1) flats))
  pub fewer : length (behind_first others) ≤ length flats
  pub next : length flats - length (behind_first others) ≡ length flats - length others + 1
  pub later_is : behind_first others ≡ drop (length flats - length others + 1) flats

first_of : (others : List Flat) (f : Flat) → Some f ≡ slice_get others 0 → others ≡ f ∷ drop 1 others
first_of [] f is = absurd cc
first_of (g ∷ others) f is = cc

pub ahead : (flats : List Flat) {others : List Flat} {f : Flat} → length others ≤ length flats → others ≡ drop (length flats - length others) flats → Some f ≡ slice_get others 0 → Ahead flats others f
ahead flats {others} {f} few is first =
    let count = length flats - length others in
    let whole = first_of others f first in
    let one : length others ≡ suc (length (drop 1 others)) = ap length whole in
    let all : behind_first others ≡ drop 1 others = take_all (length others - 1) (drop 1 others) (omega (arith, one)) in
    let on : drop 1 others ≡ drop (count + 1) flats = ap (drop 1) is ∙ drop-drop 1 count flats in
    record {
      within = omega (arith, one, few);
      goes = ap list_of (sym is ∙ whole) ∙ ap (λ (later : List Flat). then_instruction (instruction_of f) (list_of later)) on;
      fewer = rw all (omega (arith, one, few));
      next = rw all (omega (arith, one, few));
      later_is = all ∙ on;
    }

-- the parts that it may come to are served
pub served_ahead : (serves : Key → Bool) {flats others : List Flat} {f : Flat} → Ahead flats others f → AreServed serves (list_of (drop (length flats - length others) flats))
    → IsServed serves (instruction_of f) × AreServed serves (list_of (drop (length flats - length others + 1) flats))
served_ahead serves front served = subst (AreServed serves) front.goes served

-- ---- a part

-- its best form is noted, and its bit passed
pub taken : {p : FieldPart} {old new : Entry} {bit best : Bool} {v : Option Scalar} (level : Level) (there : Bool) (bits later : List Bool) (bytes : List ℕ) (at next : ℕ) (r q : Run)
    → bit_for (part_needs_bit p) bits ≡ bit → (bit ≡ false → best ≡ false) → at ≤ next → IsThere p.kind there v → Relayed level p old new bit best v (drop at bytes) (drop next bytes) (written bytes r) (written bytes q)
    → IsRun bytes next q → Marked (part_needs_bit p) best (noted bytes r) (noted bytes q) → later ≡ after_bit (part_needs_bit p) bits → TookThere level p there old new bits later bytes at r q
taken {p = p} {old = old} {new = new} {bit = bit} {best = best} {v = v} level there bits later bytes at next r q is low forward value relayed run marked left = record {
  run = subst (λ (n : ℕ). IsRun bytes n q) (sym run.place) run;
  value = v;
  is_there = value;
  best = best;
  relayed = rw is (subst (λ (n : ℕ). RelaysEntry level p old new bit best v bytes at n (written bytes r) (written bytes q)) (sym run.place) (record { place = (forward, run.within); relayed = relayed; lower = low }));
  marked = marked;
  left = left;
}

-- bit 0 gives it
pub given : {p : FieldPart} {old new : Entry} {v : Option Scalar} (level : Level) (there : Bool) (bits later : List Bool) (bytes : List ℕ) (r q : Run)
    → part_needs_bit p ≡ true → bit_for true bits ≡ false → IsThere p.kind there v → FieldPasses p old new v → IsRun bytes r.place r
    → q.from ≡ r.from → q.place ≡ r.place → q.draft.inner.bytes ≡ r.draft.inner.bytes → Marked true false (noted bytes r) (noted bytes q) → later ≡ after_bit true bits → TookThere level p there old new bits later bytes r.place r q
given {v = v} level there bits later bytes r q needs bit value passes run from place same marked left =
    let noted_is : written bytes q ≡ written bytes r = rw (from, place, same) refl in
    taken {bit = false} {best = false} {v = v} level there bits later bytes r.place r.place r q (rw needs bit) (λ low. refl) (omega arith) value (rw noted_is (passes_relayed needs passes))
    (record { from = rw (from, place) (run.from); place = place; within = run.within }) (rw needs marked) (rw needs left)

-- its entry is put under its key
pub taken_under : (level : Level) (p : FieldPart) (d e : Dictionary) (old new : Entry) (bits later : List Bool) (bytes : List ℕ) (at : ℕ) (r q : Run) (t : Taken)
    → IsFieldPart p → KeepScalars d → old ≡ entry_at d p.key → e ≡ set_entry d p.key new
    → TakesPart level p old new bits later bytes at r q t → TakesUnder level p d e bits later bytes at r q t
taken_under level p d e old new bits later bytes at r q (Part there) part kept is put t =
    let x : RelaysPart level p d e (bit_for (part_needs_bit p) bits) t.value bytes at q.place (noted bytes r) (noted bytes q) = relays_under is put refl t.relayed t.marked in
    record { run = t.run; value = t.value; is_there = t.is_there; relayed = x; left = t.left; kept = spelt_keeps p d e t.value (noted bytes r) (noted bytes q) part kept x.took.entry x.spelt }
taken_under level p d e old new bits later bytes at r q Elsewhere part kept is put s =
    record { same = still p is put s.same; segment = s.segment; left = s.left; run = s.run }
taken_under level p d e old new bits later bytes at r q Refused part kept is put t = tt

-- a constant that is always there leaves all as it is
pub always_there : (level : Level) (p : FieldPart) (d : Dictionary) (bits : List Bool) (bytes : List ℕ) (r : Run)
    → IsFieldPart p → KeepScalars d → StandsAlways p → IsRun bytes r.place r → TookUnder level p true d d bits bits bytes r.place r r
always_there level p d bits bytes r part kept s run =
    let e = entry_at d p.key in
    let j = s.stands e bytes r.place run.within in
    let none : slice_range bytes r.place r.place ≡ [] = let long : r.place - r.place ≡ 0 = omega arith in rw long refl in
    let written_is : written bytes r ≡ written bytes r ++ slice_range bytes r.place r.place = rw none (sym (append-nil (written bytes r))) in
    taken_under level p d d e e bits bits bytes r.place r r (Part true) part kept refl (sym (set_entry-there d p.key))
    (taken {bit = true} {best = true} level true bits bits bytes r.place r.place r r (rw (s.needs) refl) (λ low. low) (omega arith) (j.gives.0, refl, j.gives.1.0)
    (judged_relayed (s.usual level (drop r.place bytes)) j.gives.1.1 written_is) run (rw (s.needs) (record { left = refl; map = refl })) (rw (s.needs) refl))

-- ---- fields

module _ {level : Level} {bytes : List ℕ} where
  -- one behind the other
  takes_on : {s t u : Drafted} {d e c : Dictionary} {bits later last : List Bool} {f g h : Front} → Takes level bytes s d bits f t e later g → Takes level bytes t e later g u c last h → Takes level bytes s d bits f u c last h
  takes_on one two = record {
    passes = λ out around o next first opened.
        let p = one.passes out around o next first opened in
        passes_on p (two.passes out around p.received p.next_is p.left_is p.has);
  }

  -- a field
  takes_field : {s t : Drafted} {d e : Dictionary} {bits later : List Bool} {p : FieldPart} {v : Option Scalar} (name : List ℕ) (number : ℕ) (presence : Presence) (is : Instructions) (spare place next : ℕ) → 0 < spare
      → Took level p (bit_for (part_needs_bit p) bits) d e v (drop place bytes) (drop next bytes) → SpeltIn p (entry_at d p.key) v s t → later ≡ after_bit (part_needs_bit p) bits
      → Takes level bytes s d bits (record { mantissa = None; rest = then_instruction (whole_field name number presence p) is; spare = spare; place = place }) t e later (record { mantissa = None; rest = is; spare = spare - 1; place = next })
  takes_field {s} {t} {d} {e} {p = p} {v} name number presence is spare place next some took spelt map = record {
    passes = λ out around o at left opened. passes_field o name number presence is at left some took map (drafts_field (is_instruction o.next at) left took.entry spelt opened);
  }

  -- the exponent of a decimal in parts
  takes_exponent : {s t : Drafted} {d e : Dictionary} {bits later : List Bool} {p : FieldPart} (z : Option ℤ) (name : List ℕ) (number : ℕ) (presence : Presence) (q : Bor FieldPart) (is : Instructions) (spare place next : ℕ) → 0 < spare
      → Took level p (bit_for (part_needs_bit p) bits) d e (exponent_of z) (drop place bytes) (drop next bytes) → SpeltIn p (entry_at d p.key) (exponent_of z) s t → later ≡ after_bit (part_needs_bit p) bits
      → Takes level bytes s d bits (record { mantissa = None; rest = then_instruction (field_in_parts name number presence p q.now) is; spare = spare; place = place })
      t e later (record { mantissa = behind (is_some z) (Some q); rest = is; spare = spare - 1; place = next })
  takes_exponent {s} {t} {d} {e} {bits} {later} {p} None name number presence q is spare place next some took spelt map = record {
    passes = λ out around o at left opened.
        let here = is_instruction o.next at in
        passes_one o at_instruction (record { rest = is; done = o.body.done ++ single None ∷ [] }) refl refl (drafts_exponent None here left took.entry spelt opened) (λ more. rw (map, took.entry)
        (no_exponent_on level [] o.next o.body name number presence p q.now is (cursor d bits spare (drop place bytes ++ more)) (cursor d bits (spare - 1) (drop place bytes ++ more)) _ None here left refl
        (count_goes number spare d bits (drop place bytes ++ more) some)
        (part_goes level p d bits (spare - 1) (drop place bytes ++ more) (drop next bytes ++ more) None (took.value more))));
  }
  takes_exponent {s} {t} {d} {e} {bits} {later} {p} (Some z) name number presence q is spare place next some took spelt map = record {
    passes = λ out around o at left opened.
        let here = is_instruction o.next at in
        passes_one o (at_mantissa z q.now) (record { rest = is; done = o.body.done }) refl refl (drafts_exponent (Some z) here left took.entry spelt opened) (λ more. rw (map, took.entry)
        (exponent_on level [] o.next o.body name number presence p q.now is (cursor d bits spare (drop place bytes ++ more)) (cursor d bits (spare - 1) (drop place bytes ++ more)) _ (exponent_of (Some z)) z here left refl
        (count_goes number spare d bits (drop place bytes ++ more) some)
        (part_goes level p d bits (spare - 1) (drop place bytes ++ more) (drop next bytes ++ more) (exponent_of (Some z)) (took.value more))));
  }

  -- the mantissa of a decimal whose exponent is there
  takes_mantissa : {s t : Drafted} {d e : Dictionary} {bits later : List Bool} (q : Bor FieldPart) (m : ℤ) (is : Instructions) (spare place next : ℕ)
      → Took level q.now (bit_for (part_needs_bit q.now) bits) d e (Some (I64 m)) (drop place bytes) (drop next bytes) → SpeltIn q.now (entry_at d q.now.key) (Some (I64 m)) s t → later ≡ after_bit (part_needs_bit q.now) bits
      → Takes level bytes s d bits (record { mantissa = Some q; rest = is; spare = spare; place = place }) t e later (record { mantissa = None; rest = is; spare = spare; place = next })
  takes_mantissa {s} {t} {d} {e} {bits} {later} q m is spare place next took spelt map = record {
    passes = λ out around o at left opened.
        let here = is_mantissa o.next (pos 0) q.now at in
        passes_one o at_instruction (with_item o.body (single (Some (Decimal here.exponent m)))) refl left (drafts_mantissa here.is took.entry spelt opened) (λ more. rw (map, took.entry)
        (mantissa_on_goes level [] o.next here.exponent m q.now o.body (cursor d bits spare (drop place bytes ++ more)) _ here.is
        (part_goes level q.now d bits spare (drop place bytes ++ more) (drop next bytes ++ more) (Some (I64 m)) (took.value more))));
  }

  -- an instruction that is a field, or begins with the exponent of a decimal in parts
  takes_first : (i : Instruction) {there : Bool} {p : FieldPart} {d e : Dictionary} {bits later : List Bool} {r q : Run} (m : Option (Bor FieldPart)) (is : Instructions) (spare : ℕ)
      → BeginsWith i p m → 0 < spare → TookUnder level p there d e bits later bytes r.place r q
      → Takes level bytes (noted bytes r) d bits (record { mantissa = None; rest = then_instruction i is; spare = spare; place = r.place })
      (noted bytes q) e later (record { mantissa = behind there m; rest = is; spare = spare - 1; place = q.place })
  takes_first (whole_field name number presence whole) {there} m is spare begins some t =
      rw (begins.1, sym begins.0) (takes_field name number presence is spare _ _ some t.relayed.took t.relayed.spelt t.left)
  takes_first (field_in_parts name number presence exponent q) {there} {p} m is spare begins some t =
      let x = exponent_there p.kind there t.value begins.1 t.is_there in
      rw (begins.2.1, sym begins.0, sym begins.2.2, sym x.2) (takes_exponent x.0 name number presence begins.2.0 is spare _ _ some (rw (x.1) at t.relayed.took) (rw (x.1) at t.relayed.spelt) t.left)
  takes_first (group_of name number presence members) m is spare begins some t = absurd begins
  takes_first (sequence_of name number presence part members) m is spare begins some t = absurd begins

  -- the bits that are left of what is walked are those that are left of the map
  pub left_on : {p : FieldPart} {d e : Dictionary} {there : Bool} {bits later : List Bool} {at : ℕ} {r q : Run} → TookUnder level p there d e bits later bytes at r q → bits ≡ (noted bytes r).left → later ≡ (noted bytes q).left
  left_on {p} t same = t.left ∙ ap (after_bit (part_needs_bit p)) same ∙ sym t.relayed.spelt.marked.left

  -- ---- fields from the front of a body

  pub took_none : {serves : Key → Bool} {rest : List Flat} {s : Drafted} {d : Dictionary} {bits : List Bool} {at : ℕ} → AreServed serves (list_of rest) → KeepScalars d
      → TookFields level serves rest bytes s d bits at 0 None s d bits at
  took_none served kept = record {
    place = omega arith;
    within = omega arith;
    some = λ one. absurd cc;
    served = served;
    next_served = tt;
    takes = λ spare few.
        let whole : spare - 0 ≡ spare = omega arith in
        rw whole (record { passes = λ out around o at left opened. passes_one o o.next o.body at left opened (λ more. refl) });
    left = λ same. same;
    kept = kept;
  }

  -- the first part of the instruction behind those that were taken
  pub took_next : {serves : Key → Bool} {rest others : List Flat} {s : Drafted} {d e c : Dictionary} {bits later last : List Bool} {at : ℕ} {f : Flat} {there : Bool} {p : FieldPart} {r q : Run} (m n : Option (Bor FieldPart)) → Ahead rest others f
      → TookUnder level p there e c later last bytes r.place r q → TookFields level serves rest bytes s d bits at (length rest - length others) None (noted bytes r) e later r.place
      → BeginsWith (instruction_of f) p m → n ≡ behind there m → IsNextServed serves (next_behind n)
      → TookFields level serves rest bytes s d bits at (length rest - length others + 1) n (noted bytes q) c last q.place
  took_next {serves = serves} {rest = rest} {others = others} {f = f} m n front t so_far begins after next =
      let count = length rest - length others in
      record {
        place = omega (arith, so_far.place, t.relayed.place.0);
        within = omega (arith, front.within);
        some = λ one. omega arith;
        served = (served_ahead serves front so_far.served).1;
        next_served = next;
        takes = λ spare few.
            let less : spare - (count + 1) ≡ spare - count - 1 = omega arith in
            takes_on (so_far.takes spare few)
            (rw (after, less, front.goes) (takes_first (instruction_of f) m (list_of (drop (count + 1) rest)) (spare - count) begins (omega (arith, few, front.within)) t));
        left = λ same. left_on t (so_far.left same);
        kept = t.kept;
      }

  -- the mantissa that is next
  pub took_mantissa : {serves : Key → Bool} {rest : List Flat} {s : Drafted} {d e c : Dictionary} {bits later last : List Bool} {at count : ℕ} {there : Bool} {m : Bor FieldPart} {r q : Run}
      → TookUnder level m.now there e c later last bytes r.place r q
      → TookFields level serves rest bytes s d bits at count (Some m) (noted bytes r) e later r.place
      → TookFields level serves rest bytes s d bits at count None (noted bytes q) c last q.place
  took_mantissa {rest = rest} {e = e} {count = count} {there = there} {m = m} t so_far =
      let told = so_far.next_served in
      let x = mantissa_taken there told.0.1 told.1 t.is_there t.relayed.spelt in
      record {
        place = omega (arith, so_far.place, t.relayed.place.0);
        within = so_far.within;
        some = λ one. absurd cc;
        served = so_far.served;
        next_served = tt;
        takes = λ spare few. takes_on (so_far.takes spare few) (takes_mantissa m x.0 (list_of (drop count rest)) (spare - count) _ _ (rw (x.1) at t.relayed.took) (rw (x.1) at t.relayed.spelt) t.left);
        left = λ same. left_on t (so_far.left same);
        kept = t.kept;
      }
