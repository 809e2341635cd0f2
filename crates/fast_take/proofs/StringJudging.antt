-- What ASCII strings rest on that are judged as they stand.
use Rattle.fast_take.proofs.Common.{◌≡◌, ◌≤◌, ◌<◌, ℕ, ◌+◌, ◌-◌, Bool, false, List, ◌++◌, length, take, drop, slice_range, refl, sym, ap, subst, ◌∙◌, arith, take-append-drop, pos, Some, true, AllByRecursion, groups, IsPlain, Kind, Operator, Part, FieldPart, Ascii, Entry, Assigned, bit_zero_is_best, left_out, IsLongestPrefix, SharesEnd, EndGives, JudgedTo, JudgesFrom, Leaves, StandsAt, TextGives, SpellsWhole, Takes}
use Rattle.fast_take.proofs.Giving.{ends_same}
use Rattle.fast_take.proofs.PlainTexts.{characters_text, cut_read, plain_delta_judges, plain_judges, plain_tail_judges}
use Rattle.fast_take.proofs.TextRelaying.{whole_within}
use Rattle.fast_take.proofs.TextTaking.{end_takes}
use Rattle.fast_take.proofs.Ranges.{range_split}
use Rattle.fast_take.proofs.Standing.{shortest_signed}

abbrev AreCharacters : List ℕ → Type 0
AreCharacters s = (length s ≤ 65535) × AllByRecursion (λ c. c < 128) s

pub text_gives : (bit : Bool) (i : FieldPart) (old new : Entry) (form : List ℕ) → i.kind ≡ Kind.Ascii → i.part ≡ Part.Whole → SpellsWhole i.operator → Leaves bit i old new (Some (Ascii (groups form))) → TextGives bit i old new form
text_gives bit i old new form k whole o l = λ bytes at first next is plain. (Ascii (groups form), rw is (plain_judges bit i old new (drop at bytes) form (drop next bytes) k whole o plain l))

-- the same of what stands as it is, between two places
pub text_stands : (i : FieldPart) (old new : Entry) (bytes : List ℕ) (at next : ℕ) → i.kind ≡ Kind.Ascii → i.part ≡ Part.Whole → SpellsWhole i.operator → at < next → next ≤ length bytes → IsPlain (drop at bytes) (slice_range bytes at next) (drop next bytes)
    → Leaves true i old new (Some (Ascii (groups (slice_range bytes at next)))) → JudgedTo true i old new bytes at at next
text_stands i old new bytes at next k whole o before within h l =
    record { place = omega arith; within = within; gives = text_gives true i old new (slice_range bytes at next) k whole o l bytes at at next refl h }

pub cut_stands : (i : FieldPart) (base bytes : List ℕ) (r at first next : ℕ) → i.kind ≡ Kind.Ascii → i.part ≡ Part.Whole → i.operator ≡ Operator.Delta → AreCharacters base → r < 63 → r ≤ length base → at ≤ first → first ≤ next
    → (length base - r) + length (slice_range bytes first next) ≤ 65535 → StandsAt false i.presence bytes at first (pos r) → IsPlain (drop first bytes) (slice_range bytes first next) (drop next bytes)
    → IsLongestPrefix base (take (length base - r) base ++ groups (slice_range bytes first next)) (length base - r)
    → SharesEnd base (take (length base - r) base ++ groups (slice_range bytes first next)) (length base - r)
    → JudgesFrom true i (Assigned (Ascii base)) (Assigned (Ascii (take (length base - r) base ++ groups (slice_range bytes first next)))) (Ascii (take (length base - r) base ++ groups (slice_range bytes first next))) bytes at at next
cut_stands i base bytes r at first next k whole o characters few le before behind short s h prefix suffix =
    rw (range_split bytes at first next before behind)
    (plain_delta_judges i base r (length base - r) (drop at bytes) (slice_range bytes first next) (drop next bytes) (slice_range bytes at first) k whole o (characters_text base characters) refl
    (cut_read i base r (drop at bytes) (drop first bytes) (slice_range bytes first next) (drop next bytes) k few le s.spelt h short) prefix suffix
    (shortest_signed i.presence (pos r) (slice_range bytes at first) s.form s.short))

pub end_stands : (i : FieldPart) (base form : List ℕ) → i.kind ≡ Kind.Ascii → i.part ≡ Part.Whole → i.operator ≡ Operator.Tail → AreCharacters base → length form ≤ length base → IsLongestPrefix base (take (length base - length form) base ++ groups form) (length base - length form)
    → EndGives true i base (take (length base - length form) base ++ groups form) form
end_stands i base form k whole o characters le prefix = λ bytes at first next is h. (
  Ascii (take (length base - length form) base ++ groups form),
  rw is (plain_tail_judges i base (length base - length form) (drop at bytes) form (drop next bytes) k whole o (characters_text base characters) characters.0 (omega arith) h prefix),
)

pub end_given : (i : FieldPart) (base form : List ℕ) → i.kind ≡ Kind.Ascii → i.part ≡ Part.Whole → i.operator ≡ Operator.Tail → drop (length base - length form) base ≡ groups form → EndGives false i base base form
end_given i base form k whole o same = λ bytes at first next is h.
    let v = Ascii base in
    let value : take (length base - length form) base ++ groups form ≡ base = ap (λ (x : List ℕ). take (length base - length form) base ++ x) (sym same) ∙ take-append-drop (length base - length form) base in
    let t = subst (λ (x : List ℕ). Takes i (Assigned v) (Assigned (Ascii x)) (Ascii x) (drop at bytes) (drop next bytes)) value (end_takes whole o h) in
    let l = ends_same i v o (rw k refl) in
    (v, (rw k refl, record { read = t.read; entry = t.entry; best = bit_zero_is_best i (Assigned v) (Some v) (record { row = left_out i.operator i (Assigned v) (Some v) l.left_out; within = whole_within i.part v whole }) }))
