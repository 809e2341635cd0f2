-- How the segments of the message that is open stand in a draft, where each map is as it was read until a bit of it changes.
use Rattle.std.specs.Prelude.{◌≡◌, ◌≢◌, ◌⊎◌, ℕ, ◌*◌, ◌-◌, Bool, true, false, nat_eq, not, ◌&&◌, List, [], ◌∷◌, ◌++◌, Option, length, drop, map}
use Rattle.fast_draft.specs.Mending.{Clears}
use Rattle.fast_draft.specs.Segments.{Segment as Drafted}
use Rattle.fast_writer.specs.Prelude.{FieldPart, part_needs_bit, Scalar, Entry, Resolved, Dictionary, Content, Received, IsBest, IsMap, after_bit, bits_of, groups, next_bit}
use Rattle.fast_writer.specs.Runs.{written}
use Rattle.fast_writer.specs.Written.{Segment, IsFinished, IsOpened}
use Rattle.fast_writer.specs.declared.run.Run.{Run}
use Rattle.fast_writer.specs.declared.writer.Writer.{Writer}

-- ---- segments

-- In a segment's own map the bits asked for stand before those that are left of the map that was read, up to zeros at the end.
pub record Stands (own : Bool) (map : List ℕ) (bits left : List Bool) : Type 0 where
  pub has : own ≡ true → IsMap map (bits ++ left)
  pub count : own ≡ true → length left ≡ 7 * length map - length bits
  pub none : own ≡ false → (map ≡ []) × (bits ≡ [])

-- behind it stands what was written
pub record IsDrafted (s : Drafted) (l : Segment) : Type 0 where
  pub stands : Stands l.own s.map l.bits s.left
  pub bytes : l.bytes ≡ s.bytes

abbrev pub AreDrafted : List Drafted → List Segment → Type 0
AreDrafted [] [] = Unit {0}
AreDrafted (s ∷ ss) (l ∷ ls) = IsDrafted s l × AreDrafted ss ls
AreDrafted ss ls = ⊥

-- some segments that stand so are what is written of a message
pub record IsOpenIn (out : List ℕ) (around : List Drafted) (inner : Drafted) (o : Received) (d : Dictionary) : Type 0 where
  pub outer : List Segment
  pub segment : Segment
  pub around_drafted : AreDrafted around outer
  pub drafted : IsDrafted inner segment
  pub opened : IsOpened out outer segment o d

-- ---- what a writer has

abbrev pub HasFinished : Writer → List Resolved → List Content → Dictionary → Type 0
HasFinished w set ms d = IsFinished w.run.draft.around.ended set ms d

-- the messages before, and what is written of the one that is open
abbrev pub HasWritten : Writer → Received → Dictionary → Type 0
HasWritten w o d = IsOpenIn w.run.draft.around.ended w.run.draft.around.segments w.run.draft.inner o d

abbrev pub same_bit : Bool → Bool → Bool
same_bit true b = b
same_bit false b = not b

abbrev pub same_bits : List Bool → List Bool → Bool
same_bits [] [] = true
same_bits (x ∷ xs) (y ∷ ys) = same_bit x y && same_bits xs ys
same_bits xs ys = false

abbrev pub same_maps : List (List Bool) → List (List Bool) → Bool
same_maps [] [] = true
same_maps (x ∷ xs) (y ∷ ys) = same_bits x y && same_maps xs ys
same_maps xs ys = false

-- these bits are left of the maps around, and of the innermost; and the draft was told of all that were passed
abbrev pub run_awaits : Run → List (List Bool) → List Bool → Bool
run_awaits r around left = nat_eq r.passed 0 && (same_bits r.draft.inner.left left && same_maps (map (λ s. s.left) r.draft.around.segments) around)

abbrev pub is_none : {A : Type 0} → List A → Bool
is_none [] = true
is_none (x ∷ xs) = false

-- nothing is open but a message of which only the map was read, which has these bits
abbrev pub run_begun : Run → List Bool → Bool
run_begun r bits = nat_eq r.passed 0 && (is_none r.draft.around.segments && (is_none r.draft.inner.bytes && (not (is_none r.draft.inner.map)
    && (same_bits r.draft.inner.left bits && same_bits (bits_of (groups r.draft.inner.map)) bits))))

-- ---- what comes to a segment

-- the next bit of a map, of which these are left, is the one of a best form: it stands, or was made 0
abbrev pub MarksMap : Bool → Bool → List Bool → List ℕ → List ℕ → Type 0
MarksMap true best left old new = ((best ≡ next_bit left) × (new ≡ old)) ⊎ ((best ≡ false) × (left ≢ []) × Clears (7 * length old - length left) old new)
MarksMap false best left old new = new ≡ old

-- the same, where a bit is needed, and it was passed
pub record Marked (needs best : Bool) (s t : Drafted) : Type 0 where
  pub left : t.left ≡ after_bit needs s.left
  pub map : MarksMap needs best s.left s.map t.map

-- the best form of a part's value came behind a segment, and its bit into the map
pub record SpeltIn (p : FieldPart) (e : Entry) (v : Option Scalar) (s t : Drafted) : Type 0 where
  pub bit : Bool
  pub form : List ℕ
  pub marked : Marked (part_needs_bit p) bit s t
  pub bytes : t.bytes ≡ s.bytes ++ form
  pub needs : part_needs_bit p ≡ false → bit ≡ true
  pub best : IsBest p e bit form v

-- the innermost segment, with the bits that were passed since, and what is noted of the bytes that are read
abbrev pub noted : List ℕ → Run → Drafted
noted bytes r = record { map = r.draft.inner.map; left = drop r.passed r.draft.inner.left; bytes = written bytes r }
