-- Labels in lines that are written piece by piece.
use Rattle.std.proofs.Common.{◌≡◌, ℕ, zero, suc, ◌+◌, ◌-◌, ◌<◌, ◌≤◌, ◌==◌, Bool, true, false, List, [], ◌∷◌, ◌++◌, length, length-append, take, drop, slice_index, get_or, Option, None, Some, Result, Ok, Err, OnOk, OnErr, ap, sym, refl, min, add_assoc, add-zero, ◌∙◌, subst, arith, append_assoc, append-nil, take-append-drop}
use Rattle.std.proofs.lemmas.List.{length-take-le, nil_from_length, take_more}
use native.Mathlib.Numerals.{unary_clauses}
use Rattle.std.specs.Io.KnownBytes.{Appends}
use Rattle.fast_io.specs.Counts.{counted_by}
use Rattle.fast_io.specs.Traffic.{Taken}
use Rattle.fast_io.proofs.Outputs.{Appends-nil, Appends-trans}
use Rattle.memchr.specs.Find.{IsFirstByte, is_byte}
use Rattle.fast_packets.proofs.Labels.{labelled-append}
use Rattle.fast_recording.specs.PacketLines.{IsPiece, LeadsOn, Writes, labelled, written_by}
use Rattle.fast_recording.specs.declared.packet_lines.PacketLines.{PacketLines}

-- ---- answers of one kind

pub ok_any : {A E P : Type 0} (r : Result A E) → P → OnOk r P
ok_any (Ok x) p = p
ok_any (Err e) p = tt

pub err_any : {A E P : Type 0} (r : Result A E) → P → OnErr r P
err_any (Ok x) p = tt
err_any (Err e) p = p

-- ---- the definition

pub labelled_by_none : (begins : Bool) (bytes : List ℕ) → labelled [] begins bytes ≡ bytes
labelled_by_none begins [] = refl
labelled_by_none true (b ∷ bytes) = ap (λ (xs : List ℕ). b ∷ xs) (labelled_by_none (b == 10) bytes)
labelled_by_none false (b ∷ bytes) = ap (λ (xs : List ℕ). b ∷ xs) (labelled_by_none (b == 10) bytes)

-- ---- a piece inside a line

not_one : (b : Bool) → (b ≡ true → ⊥) → b ≡ false
not_one true never = absurd (never refl)
not_one false never = refl

-- bytes without a line feed stay as they are
stays_without : (bytes : List ℕ) (k : ℕ) (label more : List ℕ) → k ≤ length bytes → ((j : ℕ) → 0 ≤ j → j < k → (slice_index bytes j == 10) ≡ true → ⊥)
    → labelled label false (take k bytes ++ more) ≡ take k bytes ++ labelled label false more
stays_without bytes zero label more few none = refl
stays_without [] (suc k) label more few none = refl
stays_without (b ∷ bytes) (suc k) label more few none =
    ap (λ (next : Bool). b ∷ labelled label next (take k bytes ++ more)) (not_one (b == 10) (none 0 (omega arith) (omega arith)))
    ∙ ap (λ (xs : List ℕ). b ∷ xs) (stays_without bytes k label more (omega arith) (λ j low below. none (suc j) (omega arith) (omega (arith, below))))

up_to_line_feed : (bytes : List ℕ) (k : ℕ) (label more : List ℕ) → k < length bytes → ((j : ℕ) → 0 ≤ j → j < k → (slice_index bytes j == 10) ≡ true → ⊥)
    → labelled label false (take (k + 1) bytes ++ more) ≡ take (k + 1) bytes ++ labelled label (slice_index bytes k == 10) more
up_to_line_feed bytes k label more there none =
    rw (take_more bytes k 0 there, append_assoc (take k bytes) (get_or bytes k 0 ∷ []) more, append_assoc (take k bytes) (get_or bytes k 0 ∷ []))
    (stays_without bytes k label (get_or bytes k 0 ∷ more) (omega arith) none)

pub piece_to_line_end : (bytes : List ℕ) (r : Option ℕ) (n : ℕ) → IsFirstByte (is_byte 10) bytes r → r ≡ Some n → IsPiece bytes (n + 1)
piece_to_line_end bytes None n first is = absurd cc
piece_to_line_end bytes (Some k) n first is =
    let same : k ≡ n = cc in
    subst (λ (m : ℕ). IsPiece bytes (m + 1)) same (record {
      some = λ more. omega arith;
      within = omega (arith, first.0.high);
      stays = λ label more.
          let place : k ≡ k + 1 - 1 = omega arith in
          up_to_line_feed bytes k label more first.0.high first.0.before ∙ ap (λ (m : ℕ). take (k + 1) bytes ++ labelled label (slice_index bytes m == 10) more) place;
    })

last_is_none : (bytes : List ℕ) → ((j : ℕ) → 0 ≤ j → j < length bytes → (slice_index bytes j == 10) ≡ true → ⊥) → (slice_index bytes (length bytes - 1) == 10) ≡ false
last_is_none [] none = refl
last_is_none (b ∷ bytes) none = simp unary_clauses (not_one _ (none (length bytes) (omega arith) (omega arith)))

pub piece_without_end : (bytes : List ℕ) (r : Option ℕ) → IsFirstByte (is_byte 10) bytes r → r ≡ None → IsPiece bytes (length bytes)
piece_without_end bytes (Some k) first is = absurd cc
piece_without_end bytes None first is = record {
  some = λ more. more;
  within = omega arith;
  stays = λ label more.
      stays_without bytes (length bytes) label more (omega arith) first
      ∙ ap (λ (b : Bool). take (length bytes) bytes ++ labelled label b more) (sym (last_is_none bytes first));
}

-- ---- pieces that are pushed

abbrev Some_Taken : Option (List ℕ) → Option (List ℕ) → List ℕ → Type 0
Some_Taken a b bytes = (rest : List ℕ) × Taken a b bytes rest

taken_within : (a b : Option (List ℕ)) (xs ys : List ℕ) → Some_Taken a b xs → Some_Taken a b (xs ++ ys)
taken_within a b xs ys t = (t.0 ++ ys, record { front = t.1.front; parts = ap (λ (zs : List ℕ). zs ++ ys) t.1.parts ∙ append_assoc t.1.front t.0 ys; appended = t.1.appended })

taken_behind : (a b c : Option (List ℕ)) (xs ys : List ℕ) → Appends a b xs → Some_Taken b c ys → Some_Taken a c (xs ++ ys)
taken_behind a b c xs ys p t = (
  t.0,
  record { front = xs ++ t.1.front; parts = ap (λ (zs : List ℕ). xs ++ zs) t.1.parts ∙ sym (append_assoc xs t.1.front t.0); appended = Appends-trans a b c xs t.1.front p t.1.appended },
)

first_of_line : (label bytes : List ℕ) → 0 < length bytes → labelled label true bytes ≡ (take 1 bytes ++ label) ++ labelled label (slice_index bytes 0 == 10) (drop 1 bytes)
first_of_line label [] some = absurd (omega arith)
first_of_line label (b ∷ bytes) some = refl

-- what is written where a push failed is a front of all that would be
pub part_of_first : (a b : Option (List ℕ)) (label bytes : List ℕ) (begins : Bool) → begins ≡ true → 0 < length bytes → Some_Taken a b (take 1 bytes) → Some_Taken a b (labelled label begins bytes)
part_of_first a b label bytes begins is some t =
    rw (is, first_of_line label bytes some) (taken_within a b (take 1 bytes ++ label) _ (taken_within a b (take 1 bytes) label t))

pub part_of_label : (a b c : Option (List ℕ)) (label bytes : List ℕ) (begins : Bool) → begins ≡ true → 0 < length bytes → Appends a b (take 1 bytes) → Some_Taken b c label → Some_Taken a c (labelled label begins bytes)
part_of_label a b c label bytes begins is some p t =
    rw (is, first_of_line label bytes some) (taken_within a c (take 1 bytes ++ label) _ (taken_behind a b c (take 1 bytes) label p t))

in_two : (bytes : List ℕ) (n : ℕ) (label : List ℕ) → IsPiece bytes n → labelled label false bytes ≡ take n bytes ++ labelled label (slice_index bytes (n - 1) == 10) (drop n bytes)
in_two bytes n label piece = ap (λ (xs : List ℕ). labelled label false xs) (sym (take-append-drop n bytes)) ∙ piece.stays label (drop n bytes)

pub part_of_piece : (a b : Option (List ℕ)) (label bytes : List ℕ) (begins : Bool) (n : ℕ) → begins ≡ false → IsPiece bytes n → Some_Taken a b (take n bytes) → Some_Taken a b (labelled label begins bytes)
part_of_piece a b label bytes begins n is piece t = rw (is, in_two bytes n label piece) (taken_within a b (take n bytes) _ t)

pub piece_stays : (bytes : List ℕ) (n : ℕ) (label : List ℕ) (begins : Bool) → begins ≡ false → IsPiece bytes n → labelled label begins (take n bytes) ≡ take n bytes
piece_stays bytes n label begins is piece =
    rw is (ap (λ (xs : List ℕ). labelled label false xs) (sym (append-nil (take n bytes))) ∙ piece.stays label [] ∙ append-nil (take n bytes))

pub piece_leads_on : (bytes : List ℕ) (n : ℕ) (label : List ℕ) (begins : Bool) → begins ≡ false → IsPiece bytes n → LeadsOn (labelled label begins) (labelled label (slice_index bytes (n - 1) == 10)) (take n bytes)
piece_leads_on bytes n label begins is piece more =
    rw is (piece.stays label more ∙ ap (λ (xs : List ℕ). xs ++ labelled label (slice_index bytes (n - 1) == 10) more) (sym (piece_stays bytes n label false refl piece)))

-- ---- no label

pub labelled_by_empty : (label : List ℕ) (begins : Bool) (bytes : List ℕ) → length label ≡ 0 → labelled label begins bytes ≡ bytes
labelled_by_empty label begins bytes empty = ap (λ (xs : List ℕ). labelled xs begins bytes) (nil_from_length label empty) ∙ labelled_by_none begins bytes

leads_on_by_empty : (label : List ℕ) (begins : Bool) (bytes : List ℕ) → length label ≡ 0 → LeadsOn (labelled label begins) (labelled label begins) bytes
leads_on_by_empty label begins bytes empty more =
    labelled_by_empty label begins (bytes ++ more) empty
    ∙ ap (λ (xs : List ℕ). xs ++ more) (sym (labelled_by_empty label begins bytes empty))
    ∙ ap (λ (xs : List ℕ). labelled label begins bytes ++ xs) (sym (labelled_by_empty label begins more empty))

count_more : (m k n a : ℕ) → k ≡ min (m + a) 18446744073709551615 → m ≡ counted_by 0 n → k ≡ counted_by 0 (n + a)
count_more m k n a e f = omega (arith, e, f)

-- bytes are written as they are
pub writes_plainly : (old : PacketLines) (count : ℕ) (a b : Option (List ℕ)) (bytes : List ℕ) → length old.label.items ≡ 0 → count ≡ min (old.written + length bytes) 18446744073709551615 → Appends a b bytes
    → Writes old (record old { written = count }) a b bytes
writes_plainly old count a b bytes empty counts p =
    let same = labelled_by_empty old.label.items old.begins bytes empty in
    record { written = rw same p; leads_on = leads_on_by_empty old.label.items old.begins bytes empty; counted = λ n before. rw same (count_more old.written count n (length bytes) counts before) }

-- ---- bytes that are written one behind the other

pub writes_none : (lines : PacketLines) (a : Option (List ℕ)) → Writes lines lines a a []
writes_none lines a = record { written = Appends-nil a; leads_on = λ more. refl; counted = λ n before. before ∙ ap (counted_by 0) (sym (add-zero n)) }

pub writes_on : {x y z : PacketLines} {a b c : Option (List ℕ)} {bytes more : List ℕ} → Writes x y a b bytes → Writes y z b c more → Writes x z a c (bytes ++ more)
writes_on {x = x} {y = y} {z = z} {a = a} {b = b} {c = c} {bytes = bytes} {more = more} p q = record {
  written = rw (p.leads_on more) (Appends-trans a b c (written_by x bytes) (written_by y more) p.written q.written);
  leads_on = λ rest.
      ap (written_by x) (append_assoc bytes more rest)
      ∙ p.leads_on (more ++ rest)
      ∙ ap (λ (xs : List ℕ). written_by x bytes ++ xs) (q.leads_on rest)
      ∙ sym (append_assoc (written_by x bytes) (written_by y more) (written_by z rest))
      ∙ ap (λ (xs : List ℕ). xs ++ written_by z rest) (sym (p.leads_on more));
  counted = λ n before.
      q.counted (n + length (written_by x bytes)) (p.counted n before)
      ∙ ap (counted_by 0) (add_assoc n (length (written_by x bytes)) (length (written_by y more)) ∙ ap (λ (k : ℕ). n + k) (sym (length-append (written_by x bytes) (written_by y more))))
      ∙ ap (λ (xs : List ℕ). counted_by 0 (n + length xs)) (sym (p.leads_on more));
}

-- where a write fails, a front is written of all that would be
pub part_on : {x y : PacketLines} {a b c : Option (List ℕ)} {bytes : List ℕ} (more : List ℕ) → Writes x y a b bytes → Some_Taken b c (written_by y more) → Some_Taken a c (written_by x (bytes ++ more))
part_on {x = x} {y = y} {a = a} {b = b} {c = c} {bytes = bytes} more p t = rw (p.leads_on more) (taken_behind a b c (written_by x bytes) (written_by y more) p.written t)

pub part_of_more : (lines : PacketLines) (a b : Option (List ℕ)) (bytes more : List ℕ) → Some_Taken a b (written_by lines bytes) → Some_Taken a b (written_by lines (bytes ++ more))
part_of_more lines a b bytes more t = rw (labelled-append lines.label.items lines.begins bytes more) (taken_within a b (written_by lines bytes) _ t)

pub part_of_all : {x y : PacketLines} {a b : Option (List ℕ)} {bytes : List ℕ} → Writes x y a b bytes → Some_Taken a b (written_by x bytes)
part_of_all {x = x} {bytes = bytes} p = ([], record { front = written_by x bytes; parts = sym (append-nil (written_by x bytes)); appended = p.written })

-- a piece is written, and counted
pub writes_piece : (old : PacketLines) (begins : Bool) (count n k : ℕ) (a b : Option (List ℕ)) (rest : List ℕ) → count ≡ min (old.written + n) 18446744073709551615 → n ≡ length (written_by old (take k rest)) → Appends a b (written_by old (take k rest))
    → LeadsOn (written_by old) (labelled old.label.items begins) (take k rest) → Writes old (record old { begins = begins; written = count }) a b (take k rest)
writes_piece old begins count n k a b rest counts many p leads = record { written = p; leads_on = leads; counted = λ m before. count_more old.written count m n counts before ∙ ap (λ (k : ℕ). counted_by 0 (m + k)) many }

-- a front of the bytes is written
pub record IsOnWay (old now : PacketLines) (a b : Option (List ℕ)) (bytes rest : List ℕ) : Type 0 where
  pub front : List ℕ
  pub parts : bytes ≡ front ++ rest
  pub writes : Writes old now a b front

pub none_on_way : (lines : PacketLines) (a : Option (List ℕ)) (bytes : List ℕ) → IsOnWay lines lines a a bytes bytes
none_on_way lines a bytes = record { front = []; parts = refl; writes = writes_none lines a }

pub piece_on_way : {x y z : PacketLines} {a b c : Option (List ℕ)} {bytes rest : List ℕ} (n : ℕ) → IsOnWay x y a b bytes rest → Writes y z b c (take n rest) → IsOnWay x z a c bytes (drop n rest)
piece_on_way {rest = rest} n w p = record {
  front = w.front ++ take n rest;
  parts = w.parts ∙ ap (λ (xs : List ℕ). w.front ++ xs) (sym (take-append-drop n rest)) ∙ sym (append_assoc w.front (take n rest) (drop n rest));
  writes = writes_on w.writes p;
}

pub part_on_way : {x y : PacketLines} {a b c : Option (List ℕ)} {bytes rest : List ℕ} → IsOnWay x y a b bytes rest → Some_Taken b c (written_by y rest) → Some_Taken a c (written_by x bytes)
part_on_way {rest = rest} w t = rw (w.parts) (part_on rest w.writes t)

pub all_on_way : {x y : PacketLines} {a b : Option (List ℕ)} {bytes rest : List ℕ} → IsOnWay x y a b bytes rest → rest ≡ [] → Writes x y a b bytes
all_on_way {x = x} {y = y} {a = a} {b = b} w empty =
    let whole = sym (append-nil w.front) ∙ ap (λ (xs : List ℕ). w.front ++ xs) (sym empty) ∙ sym w.parts in
    subst (λ (xs : List ℕ). Writes x y a b xs) whole w.writes

pub plain_part : (label : List ℕ) (begins : Bool) (bytes : List ℕ) (a b : Option (List ℕ)) → length label ≡ 0 → Some_Taken a b bytes → Some_Taken a b (labelled label begins bytes)
plain_part label begins bytes a b empty t = rw (labelled_by_empty label begins bytes empty) t

pub piece_length : (bytes : List ℕ) (n : ℕ) (label : List ℕ) (begins : Bool) → begins ≡ false → IsPiece bytes n → n ≡ length (labelled label begins (take n bytes))
piece_length bytes n label begins is piece = rw (piece_stays bytes n label begins is piece) (sym (length-take-le n bytes piece.within))

-- the lines of a packet that is to have no number
pub begun_plainly : (label : List ℕ) (text : List ℕ) → label ≡ [] → labelled label true text ≡ text
begun_plainly label text none = ap (λ (xs : List ℕ). labelled xs true text) none ∙ labelled_by_none true text
