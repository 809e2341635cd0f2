-- Strings that stand in their shortest form, read and judged at once.
use Rattle.fast_take.proofs.Common.{◌≡◌, ◌≤◌, ◌<◌, ◌+◌, ◌-◌, ◌%◌, true, false, List, ℕ, ◌++◌, Ok, length, take, drop, get_or, zero, suc, [], ◌∷◌, refl, sym, ap, subst, ◌∙◌, arith, length-append, length-drop, append_assoc, slice_range, drop-drop, Some, ℤ, pos, negsuc, drop-map, drop-take, length-map, length-take-le, take-append-drop, AllByRecursion, Usual, IsEntity, groups, IsPlain, ascii_at, ascii_nullable_at, ascii_forms, ascii_nullable_forms, Value, Kind, Operator, Part, Presence, Mandatory, Optional, FieldPart, Ascii, Entry, Assigned, magnitude, sent_signed, groups_from, signed_nullable_size, signed_size, groups_from-positive, entity_some, next, IsBestCut, IsBestTail, ShortestPart, ShortestSigned, ShortestUnits, length_size, part_size, tail_size, IsLongestPrefix, SharesEnd, limited_value, part_at, tail_at, unit_delta_at, unit_value, units_at, units_spelled_at, SpellsWhole, Spelt, GivesCut, GivesTail, IsText, best_at_end, units_is, all_append, all_take, part_within, Bool, IsTrue, is_of, Leaves, under, Judges, le-ltb, lt-ltb}
use Rattle.std.proofs.Math.Seq.{take-add}
use Rattle.std.proofs.lemmas.List.{drop_at}
use Rattle.fast_wire.specs.Ascii.{IsAscii, IsAsciiNullable, SpellsAscii, SpellsAsciiNullable}
use Rattle.fast_take.proofs.TextRelaying.{delta_made, end_best, other_end, tail_made, tail_judges, text_delta_judges, text_judges}

units_plain : (p : Presence) (bytes form rest : List ℕ) → IsPlain bytes form rest → units_at Usual Kind.Ascii p bytes ≡ Ok (Value (groups form), rest)
unfolding units_at part_at
units_plain Mandatory bytes form rest h = rw h.read refl
units_plain Optional bytes form rest h = rw h.read_nullable refl

part_plain : (bytes form rest : List ℕ) → IsPlain bytes form rest → part_at Usual Kind.Ascii bytes ≡ Ok (groups form, rest)
unfolding part_at
part_plain bytes form rest h = rw h.read refl

few_plain : (s : List ℕ) → length s ≤ 65535 → limited_value Kind.Ascii s ≡ Ok (Ascii s)
unfolding limited_value unit_value
few_plain s few = rw (le-ltb 65535 (length s) few) refl

pub spelled_plain : (p : Presence) (bytes form rest : List ℕ) → IsPlain bytes form rest → units_spelled_at Usual Kind.Ascii p bytes ≡ Ok (Some (Ascii (groups form)), rest)
unfolding units_spelled_at unit_value
spelled_plain p bytes form rest h = rw (units_plain p bytes form rest h) refl

shortest_plain : (p : Presence) (bytes form rest : List ℕ) → IsPlain bytes form rest → ShortestUnits Kind.Ascii p (groups form) form
shortest_plain Mandatory bytes form rest h = h.shortest
shortest_plain Optional bytes form rest h = h.shortest_nullable

pub text_plain : (bytes form rest : List ℕ) → IsPlain bytes form rest → IsText Kind.Ascii (Ascii (groups form))
text_plain bytes form rest h =
    record { of_units = tt; of_kind = refl; within = part_within Kind.Ascii form (groups form) h.shortest.form }

pub plain_judges : (bit : Bool) (i : FieldPart) (old new : Entry) (bytes form rest : List ℕ) → i.kind ≡ Kind.Ascii → i.part ≡ Part.Whole → SpellsWhole i.operator → IsPlain bytes form rest → Leaves bit i old new (Some (Ascii (groups form)))
    → IsTrue (is_of i.kind (Ascii (groups form))) × Judges bit (under bit form) i old new (Some (Ascii (groups form))) bytes rest
plain_judges bit i old new bytes form rest k whole o h l =
    text_judges bit i old new (Ascii (groups form)) bytes rest form whole o
    (subst (λ (k : Kind). IsText k (Ascii (groups form))) (sym k) (text_plain bytes form rest h))
    (subst (λ (k : Kind). units_spelled_at Usual k i.presence bytes ≡ Ok (Some (Ascii (groups form)), rest)) (sym k) (spelled_plain i.presence bytes form rest h))
    l
    (subst (λ (k : Kind). ShortestUnits k i.presence (groups form) form) (sym k) (shortest_plain i.presence bytes form rest h))

-- ---- behind a zero group, which is a preamble

nullable_behind : (gs : List ℕ) → SpellsAscii gs gs → SpellsAsciiNullable (zero ∷ gs) (Value gs)
nullable_behind (suc g ∷ gs) h = refl
nullable_behind [] h = absurd h
nullable_behind (zero ∷ gs) h = let long = ap length h in absurd (omega (arith, long))

entity_behind : (form : List ℕ) → IsEntity form → IsEntity (0 ∷ form)
entity_behind (b ∷ bs) h = (omega arith, h)
entity_behind [] h = absurd h

long_form : (form : List ℕ) → IsAscii form (groups form) → length form ≤ 65535
long_form form h = omega (arith, h.limit, length-map form (λ b. b % 128))

pub behind_zero : (bytes form rest : List ℕ) → bytes ≡ form ++ rest → IsPlain bytes form rest → IsPlain (0 ∷ bytes) form rest
behind_zero bytes form rest parts h =
    let few = long_form form h.shortest.form in
    let entity = entity_behind form h.entity in
    let all : 0 ∷ bytes ≡ (0 ∷ form) ++ rest = ap (λ (x : List ℕ). 0 ∷ x) parts in
    let f : IsAscii (0 ∷ form) (groups form) = record { spelled = record { entity = entity; short = omega (arith, few); value = refl }; limit = h.shortest.form.limit } in
    let n : IsAsciiNullable (0 ∷ form) (Value (groups form)) =
    record { spelled = record { entity = entity; short = omega (arith, few); value = nullable_behind (groups form) h.shortest.form.spelled.value }; limit = h.shortest.form.limit } in
    record {
      entity = h.entity;
      read = ap ascii_at all ∙ ascii_forms.again (0 ∷ form) (groups form) rest f;
      read_nullable = ap ascii_nullable_at all ∙ ascii_nullable_forms.again (0 ∷ form) (Value (groups form)) rest n;
      shortest = h.shortest;
      shortest_nullable = h.shortest_nullable;
    }

-- ---- deltas that remove few characters at the end

small_size : (p : Presence) (r : ℕ) → r < 63 → length_size p (pos r) ≡ 1
unfolding signed_size signed_nullable_size groups_from
small_size Mandatory r h = rw (lt-ltb r 64 (omega arith)) refl
small_size Optional r h = rw (lt-ltb (r + 1) 64 (omega arith)) refl

some_size : (p : Presence) (z : ℤ) → 1 ≤ length_size p z
unfolding signed_size signed_nullable_size
some_size Mandatory z = groups_from-positive 9 64 (magnitude z)
some_size Optional z = groups_from-positive 9 64 (magnitude (sent_signed (Value z)))

no_less : (p : Presence) (s : List ℕ) → length s ≤ tail_size Kind.Ascii p s
no_less Mandatory [] = omega arith
no_less Mandatory (zero ∷ s) = omega arith
no_less Mandatory (suc x ∷ s) = omega arith
no_less Optional [] = omega arith
no_less Optional (zero ∷ s) = omega arith
no_less Optional (suc x ∷ s) = omega arith

plain_least : (bytes form rest : List ℕ) → IsPlain bytes form rest → (s : List ℕ) → length (groups form) ≤ length s → part_size Kind.Ascii (groups form) ≤ part_size Kind.Ascii s
plain_least bytes form rest h s le =
    let size : part_size Kind.Ascii (groups form) ≡ length form = sym (units_is Kind.Ascii Mandatory (groups form) form h.shortest) in
    omega (arith, size, le, length-map form (λ b. b % 128), no_less Mandatory s)

pub best_removal : (k : Kind) (p : Presence) (base part : List ℕ) (r n : ℕ) → r < 63 → r ≤ length base → n ≡ length base - r → IsLongestPrefix base (take n base ++ part) n → SharesEnd base (take n base ++ part) n
    → ((s : List ℕ) → length part ≤ length s → part_size k part ≤ part_size k s) → IsBestCut k p base (take n base ++ part) (pos r) part
best_removal k p base part r n few le is prefix shared least =
    let v = take n base ++ part in
    let m = shared.0 in
    let h : n ≤ length base = omega (arith, is) in
    let removed : length base - n ≡ r = omega (arith, is, le) in
    let behind = drop_at (take n base) part n (length-take-le n base h) in
    let front = take (length v - m) v in
    let long : length front ≡ length v - m = length-take-le (length v - m) v (omega arith) in
    let less : part_size k (drop n v) ≤ part_size k front = rw behind (least front (omega (arith, long, length-append (take n base) part, length-take-le n base h, shared.2))) in
    let one : length_size p (pos (length base - n)) ≡ 1 = rw removed (small_size p r few) in
    let best = best_at_end k p base v n m prefix shared.1 (omega (arith, one, less, some_size p (negsuc (length base - m)))) in
    rw (removed, behind) at best

text_together : (base form : List ℕ) (n : ℕ) → IsText Kind.Ascii (Ascii base) → IsText Kind.Ascii (Ascii (groups form)) → length (take n base ++ groups form) ≤ 65535 → IsText Kind.Ascii (Ascii (take n base ++ groups form))
text_together base form n b f few = record { of_units = tt; of_kind = refl; within = (few, all_append (λ c. c < 128) (take n base) (groups form) (all_take (λ c. c < 128) n base b.within.1) f.within.1) }

pub cut_read : (i : FieldPart) (base : List ℕ) (r : ℕ) (bytes middle form rest : List ℕ) → i.kind ≡ Kind.Ascii → r < 63 → r ≤ length base → Spelt false i.presence bytes (pos r) middle → IsPlain middle form rest → (length base - r) + length form ≤ 65535 → GivesCut i base bytes r form rest
cut_read i base r bytes middle form rest k few le removal h short =
    let long : length (take (length base - r) base ++ groups form) ≤ 65535 =
    omega (arith, short, length-append (take (length base - r) base) (groups form), length-take-le (length base - r) base (omega arith), length-map form (λ b. b % 128)) in
    let value = Ascii (take (length base - r) base ++ groups form) in
    let read = delta_made i (Ascii base) value r (groups form) bytes middle rest (rw k refl) few le removal (rw k (part_plain middle form rest h)) (rw k (few_plain _ long)) in
    record { behind = middle; plain = h; few = few; within = le; short = short; read = read }

pub slice_length : (xs : List ℕ) (a b : ℕ) → a ≤ b → b ≤ length xs → length (slice_range xs a b) ≡ b - a
slice_length xs a b h k = length-take-le (b - a) (drop a xs) (omega (arith, h, k, length-drop a xs))

-- the same of characters that stand between two places
pub cut_found : (i : FieldPart) (base b bytes : List ℕ) (r middle first next : ℕ) → i.kind ≡ Kind.Ascii → r < 63 → r ≤ length base → Spelt false i.presence b (pos r) (drop middle bytes) → IsPlain (drop middle bytes) (slice_range bytes first next) (drop next bytes) → first ≤ next → next ≤ length bytes
    → (length base - r) + (next - first) ≤ 65535 → GivesCut i base b r (slice_range bytes first next) (drop next bytes)
cut_found i base b bytes r middle first next k few le removal h before within short =
    cut_read i base r b (drop middle bytes) (slice_range bytes first next) (drop next bytes) k few le removal h (omega (arith, slice_length bytes first next before within, short))

-- the first characters of a text and of a form, where each is the same
pub agree : (text form : List ℕ) (m : ℕ) → m ≤ length text → m ≤ length form → ((j : ℕ) → j < m → get_or text j 0 ≡ get_or form j 0 % 128) → take m text ≡ take m (groups form)
agree text form zero p q h = refl
agree (x ∷ xs) (b ∷ bs) (suc m) p q h = rw (h 0 (omega arith), agree xs bs m (omega (arith, p)) (omega (arith, q)) (λ j lt. h (suc j) (omega (arith, lt)))) refl
agree [] form (suc m) p q h = absurd (omega (arith, p))
agree (x ∷ xs) [] (suc m) p q h = absurd (omega (arith, q))

kept_more : (base form : List ℕ) (n m : ℕ) → take m (drop n base) ≡ take m (groups form) → take n base ++ groups form ≡ take (n + m) base ++ groups (drop m form)
kept_more base form n m same =
    let parts : groups form ≡ take m (drop n base) ++ groups (drop m form) =
    sym (take-append-drop m (groups form)) ∙ ap (λ (x : List ℕ). x ++ drop m (groups form)) (sym same) ∙ ap (λ (x : List ℕ). take m (drop n base) ++ x) (drop-map (λ b. b % 128) m form) in
    let whole : take (n + m) base ≡ take n base ++ take m (drop n base) = take-add n m base in
    ap (λ (x : List ℕ). take n base ++ x) parts ∙ sym (append_assoc (take n base) (take m (drop n base)) (groups (drop m form))) ∙ ap (λ (x : List ℕ). x ++ groups (drop m form)) (sym whole)

slice_drop : (xs : List ℕ) (a b m : ℕ) → a + m ≤ b → drop m (slice_range xs a b) ≡ slice_range xs (a + m) b
slice_drop xs a b m h =
    let on : b - a ≡ m + (b - (a + m)) = omega (arith, h) in
    ap (λ n. drop m (take n (drop a xs))) on ∙ drop-take m (b - (a + m)) (drop a xs) ∙ ap (λ (l : List ℕ). take (b - (a + m)) l) (drop-drop m a xs)

pub cut_less : (i : FieldPart) (base bytes b behind : List ℕ) (r first next m : ℕ) → m ≤ r → first + m ≤ next → take m (drop (length base - r) base) ≡ take m (groups (slice_range bytes first next)) → IsPlain behind (slice_range bytes (first + m) next) (drop next bytes)
    → length (slice_range bytes (first + m) next) + m ≤ length (slice_range bytes first next)
    → GivesCut i base b r (slice_range bytes first next) (drop next bytes) → GivesCut i base b (r - m) (slice_range bytes (first + m) next) (drop next bytes)
cut_less i base bytes b behind r first next m few le same plain long h =
    let form = slice_range bytes first next in
    let kept : length base - (r - m) ≡ (length base - r) + m = omega (arith, few, h.within) in
    let value : take (length base - r) base ++ groups form ≡ take (length base - (r - m)) base ++ groups (slice_range bytes (first + m) next) =
    kept_more base form (length base - r) m same
    ∙ ap (λ (x : List ℕ). take ((length base - r) + m) base ++ groups x) (slice_drop bytes first next m le)
    ∙ ap (λ n. take n base ++ groups (slice_range bytes (first + m) next)) (sym kept) in
    record {
      behind = behind;
      plain = plain;
      few = omega (arith, h.few);
      within = omega (arith, h.within);
      short = omega (arith, h.short, few, h.within, long);
      read = subst (λ (x : List ℕ). unit_delta_at Usual i (Assigned (Ascii base)) b ≡ Ok (Some (Ascii x), drop next bytes)) value h.read;
    }

pub plain_delta_judges : (i : FieldPart) (base : List ℕ) (r n : ℕ) (bytes form rest front : List ℕ) → i.kind ≡ Kind.Ascii → i.part ≡ Part.Whole → i.operator ≡ Operator.Delta → IsText Kind.Ascii (Ascii base) → n ≡ length base - r → GivesCut i base bytes r form rest
    → IsLongestPrefix base (take n base ++ groups form) n → SharesEnd base (take n base ++ groups form) n → ShortestSigned i.presence (pos r) front
    → IsTrue (is_of i.kind (Ascii (take n base ++ groups form))) × Judges true (front ++ form) i (Assigned (Ascii base)) (Assigned (Ascii (take n base ++ groups form))) (Some (Ascii (take n base ++ groups form))) bytes rest
plain_delta_judges i base r n bytes form rest front k whole o text is cut prefix suffix s =
    let v = take n base ++ groups form in
    let h = cut.plain in
    let long : length v ≤ 65535 = omega (arith, is, cut.short, length-append (take n base) (groups form), length-take-le n base (omega (arith, is)), length-map form (λ b. b % 128)) in
    let t = text_together base form n text (text_plain cut.behind form rest h) long in
    text_delta_judges i (Ascii base) (Ascii v) (pos r) (groups form) bytes rest (front ++ form) whole o
    (subst (λ (k : Kind). IsText k (Ascii base)) (sym k) text)
    (subst (λ (k : Kind). IsText k (Ascii v)) (sym k) t)
    (subst (λ m. unit_delta_at Usual i (Assigned (Ascii base)) bytes ≡ Ok (Some (Ascii (take m base ++ groups form)), rest)) (sym is) cut.read)
    (subst (λ (k : Kind). IsBestCut k i.presence base v (pos r) (groups form)) (sym k) (best_removal Kind.Ascii i.presence base (groups form) r n cut.few cut.within is prefix suffix (plain_least cut.behind form rest h)))
    (record { front = front; back = form; parts = refl; first = s; second = subst (λ (k : Kind). ShortestPart k (groups form) form) (sym k) h.shortest })

pub characters_text : (s : List ℕ) → (length s ≤ 65535) × AllByRecursion (λ c. c < 128) s → IsText Kind.Ascii (Ascii s)
characters_text s h = record { of_units = tt; of_kind = refl; within = h }

-- ---- tails

best_end : (p : Presence) (base bytes form rest : List ℕ) (n : ℕ) → n + length (groups form) ≡ length base → IsPlain bytes form rest → IsLongestPrefix base (take n base ++ groups form) n → IsBestTail Kind.Ascii p base (take n base ++ groups form) (groups form)
best_end p base bytes form rest n is h prefix =
    let v = take n base ++ groups form in
    let long = length-take-le n base (omega (arith, is)) in
    let size : tail_size Kind.Ascii p (groups form) ≡ length form = sym (units_is Kind.Ascii p (groups form) form (shortest_plain p bytes form rest h)) in
    end_best Kind.Ascii p base (groups form) n is prefix
    (λ some. rw (drop_at (take n base) (groups form) n long) (omega (arith, some, size, length-map form (λ b. b % 128), length-append (take n base) (groups form), long, is, length-drop (n - 1) v, no_less p (drop (n - 1) v))))

pub no_same_text : (base part : List ℕ) (n : ℕ) → n < length base → IsLongestPrefix base (take n base ++ part) n → base ≡ take n base ++ part → ⊥
no_same_text base part n lt prefix e =
    let all = prefix.longest (length base) (omega arith) (let l = ap length e in omega (arith, l)) (ap (take (length base)) e) in
    omega (arith, all, lt)

pub tail_read : (i : FieldPart) (base bytes form rest : List ℕ) → i.kind ≡ Kind.Ascii → length base ≤ 65535 → length form ≤ length base → IsPlain bytes form rest → GivesTail i base bytes form rest
tail_read i base bytes form rest k short le h =
    let same = length-map form (λ b. b % 128) in
    let long : length (take (length base - length (groups form)) base ++ groups form) ≤ 65535 =
    omega (arith, short, le, same, length-append (take (length base - length (groups form)) base) (groups form), length-take-le (length base - length (groups form)) base (omega arith)) in
    record {
      behind = bytes;
      plain = h;
      within = le;
      read = subst (λ m. tail_at Usual i (Assigned (Ascii base)) bytes ≡ Ok (Some (Ascii (take (length base - m) base ++ groups form)), rest)) same
          (tail_made i (Ascii base) (Ascii (take (length base - length (groups form)) base ++ groups form)) (groups form) bytes rest (rw k refl) (rw k (units_plain i.presence bytes form rest h)) (rw k (few_plain _ long)));
    }

pub tail_less : (i : FieldPart) (base bytes b behind : List ℕ) (first next m : ℕ) → first + m ≤ next → next ≤ length bytes → take m (drop (length base - (next - first)) base) ≡ take m (groups (slice_range bytes first next)) → IsPlain behind (slice_range bytes (first + m) next) (drop next bytes)
    → GivesTail i base b (slice_range bytes first next) (drop next bytes) → GivesTail i base b (slice_range bytes (first + m) next) (drop next bytes)
tail_less i base bytes b behind first next m le end same plain h =
    let form = slice_range bytes first next in
    let long : length form ≡ next - first = slice_length bytes first next (omega (arith, le)) end in
    let less : length (slice_range bytes (first + m) next) ≡ next - (first + m) = slice_length bytes (first + m) next le end in
    let within : next - first ≤ length base = omega (arith, long, h.within) in
    let kept : length base - length (slice_range bytes (first + m) next) ≡ (length base - (next - first)) + m = omega (arith, less, within, le) in
    let was : length base - length form ≡ length base - (next - first) = omega (arith, long) in
    let value : take (length base - length form) base ++ groups form ≡ take (length base - length (slice_range bytes (first + m) next)) base ++ groups (slice_range bytes (first + m) next) =
    ap (λ n. take n base ++ groups form) was
    ∙ kept_more base form (length base - (next - first)) m same
    ∙ ap (λ (x : List ℕ). take ((length base - (next - first)) + m) base ++ groups x) (slice_drop bytes first next m le)
    ∙ ap (λ n. take n base ++ groups (slice_range bytes (first + m) next)) (sym kept) in
    record {
      behind = behind;
      plain = plain;
      within = omega (arith, less, within);
      read = subst (λ (x : List ℕ). tail_at Usual i (Assigned (Ascii base)) b ≡ Ok (Some (Ascii x), drop next bytes)) value h.read;
    }

pub plain_tail_judges : (i : FieldPart) (base : List ℕ) (n : ℕ) (bytes form rest : List ℕ) → i.kind ≡ Kind.Ascii → i.part ≡ Part.Whole → i.operator ≡ Operator.Tail → IsText Kind.Ascii (Ascii base) → length base ≤ 65535 → n + length form ≡ length base
    → GivesTail i base bytes form rest → IsLongestPrefix base (take n base ++ groups form) n
    → IsTrue (is_of i.kind (Ascii (take n base ++ groups form))) × Judges true form i (Assigned (Ascii base)) (Assigned (Ascii (take n base ++ groups form))) (Some (Ascii (take n base ++ groups form))) bytes rest
plain_tail_judges i base n bytes form rest k whole o text short is gives prefix =
    let v = take n base ++ groups form in
    let h = gives.plain in
    let same = length-map form (λ b. b % 128) in
    let some = entity_some form h.entity in
    let kept : n ≡ length base - length (groups form) = omega (arith, is, same) in
    let long : length v ≤ 65535 = omega (arith, short, is, same, length-append (take n base) (groups form), length-take-le n base (omega (arith, is))) in
    let t = text_together base form n text (text_plain gives.behind form rest h) long in
    let read = subst (λ m. tail_at Usual i (Assigned (Ascii base)) bytes ≡ Ok (Some (Ascii (take (length base - m) base ++ groups form)), rest)) (sym same) gives.read in
    tail_judges i (Assigned (Ascii base)) (Ascii base) (Ascii v) (groups form) bytes rest form whole o
    (rw k refl)
    (subst (λ (k : Kind). IsText k (Ascii v)) (sym k) t)
    (subst (λ m. tail_at Usual i (Assigned (Ascii base)) bytes ≡ Ok (Some (Ascii (take m base ++ groups form)), rest)) (sym kept) read)
    (other_end i (Ascii base) (Ascii v) o (rw k refl) (no_same_text base (groups form) n (omega (arith, is, some)) prefix))
    (subst (λ (k : Kind). IsBestTail k i.presence base v (groups form)) (sym k) (best_end i.presence base gives.behind form rest n (omega (arith, is, same)) h prefix))
    (subst (λ (k : Kind). ShortestUnits k i.presence (groups form) form) (sym k) (shortest_plain i.presence gives.behind form rest h))
