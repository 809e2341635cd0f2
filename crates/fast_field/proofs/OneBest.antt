-- A value has one best form.
use Rattle.fast_field.proofs.Common.{◌≡◌, ℕ, ◌+◌, ◌-◌, ◌<◌, ◌≤◌, Bool, true, false, List, ◌++◌, length, take, drop, refl, sym, ap, subst, ◌∙◌, arith, inl, inr, ◌⊎◌, length-append, length-take, length-drop, ℤ, pos, negsuc, ◌+ℤ◌, Option, Some, None, IsTrue, ints, take_at, drop_at, Usual, IsSigned, Nullable, Null, Value, unsigned_sizes, signed_sizes, unsigned_nullable_sizes, signed_nullable_sizes, ascii_sizes, ascii_nullable_sizes, vector_sizes, vector_nullable_sizes, ok_is, is_integer, Kind, Operator, Presence, Mandatory, Optional, FieldPart, Scalar, Entry, FieldFault, is_unsigned, integer_of, exponent_of, mantissa_of, units_of, SpellsInteger, SpellsPart, SpellsUnits, SpellsPair, SpelledNumber, SpelledString, SpelledDecimal, Spelled, Side, at_end, in_front, Cut, uncut, removed_of, side_of, put_together, ended_by, SpellsCut, SpellsDelta, SpellsDeltas, SpellsTail, DeltaValue, FormOf, FormBy, Form, bit_rank, side_rank, NoLater, IsBest, CutsNothing, nil_from_length}
use Rattle.fast_field.proofs.BestForms.{bit_zero_row, size_le}
use Rattle.fast_field.proofs.Refused.{units_are}
use Rattle.fast_field.proofs.BestValues.{none_shorter}
use Rattle.fast_field.proofs.StandingForms.{number_of}

-- ---- the same number of bytes: the same bytes

one_integer : (u : Bool) (p : Presence) (z : Nullable ℤ) (b c : List ℕ) → SpellsInteger Usual u p b z → SpellsInteger Usual u p c z → length b ≡ length c → b ≡ c
one_integer true Mandatory (Value (pos n)) b c h l e = unsigned_sizes.one b c n h l e
one_integer true Optional (Value (pos n)) b c h l e = unsigned_nullable_sizes.one b c (Value n) h l e
one_integer true Optional Null b c h l e = unsigned_nullable_sizes.one b c Null h l e
one_integer false Mandatory (Value z) b c h l e = signed_sizes.one b c z h l e
one_integer false Optional z b c h l e = signed_nullable_sizes.one b c z h l e
one_integer u p z b c h l e = absurd h

one_part : (k : Kind) (s b c : List ℕ) → SpellsPart Usual k b s → SpellsPart Usual k c s → length b ≡ length c → b ≡ c
one_part Kind.Ascii s b c h l e = ascii_sizes.one b c s h l e
one_part k s b c h l e = vector_sizes.one b c s h l e

one_units : (k : Kind) (p : Presence) (s : Nullable (List ℕ)) (b c : List ℕ) → SpellsUnits Usual k p b s → SpellsUnits Usual k p c s → length b ≡ length c → b ≡ c
one_units k Mandatory (Value s) b c h l e = one_part k s b c h l e
one_units k Mandatory Null b c h l e = absurd h
one_units Kind.Ascii Optional s b c h l e = ascii_nullable_sizes.one b c s h l e
one_units k Optional s b c h l e = vector_nullable_sizes.one b c s h l e

-- ---- two parts, of which no others together are shorter

abbrev Least : (List ℕ → Type 0) → List ℕ → Type 0
Least Form b = (o : List ℕ) → Form o → length b ≤ length o

one_of_two : (First Second : List ℕ → Type 0) (f g f' g' : List ℕ) → First f → Second g → First f' → Second g'
    → ((x y : List ℕ) → First x → First y → length x ≡ length y → x ≡ y) → ((x y : List ℕ) → Second x → Second y → length x ≡ length y → x ≡ y)
    → ((x y : List ℕ) → First x → Second y → length (f ++ g) ≤ length (x ++ y)) → ((x y : List ℕ) → First x → Second y → length (f' ++ g') ≤ length (x ++ y))
    → f ++ g ≡ f' ++ g'
one_of_two First Second f g f' g' hf hg hf' hg' one two least least' =
    let a = least f' g hf' hg in
    let b = least f g' hf hg' in
    let c = least' f g' hf hg' in
    let d = least' f' g hf' hg in
    let fronts : f ≡ f' = one f f' hf hf' (omega (arith, a, c, length-append f g, length-append f' g, length-append f g', length-append f' g')) in
    let backs : g ≡ g' = two g g' hg hg' (omega (arith, b, d, length-append f g, length-append f' g, length-append f g', length-append f' g')) in
    rw (fronts, backs) refl

one_pair : (p : Presence) (e m : ℤ) (b c : List ℕ) → SpellsPair Usual p b e m → SpellsPair Usual p c e m → Least (λ o. SpellsPair Usual p o e m) b → Least (λ o. SpellsPair Usual p o e m) c → b ≡ c
one_pair p e m b c h l least least' =
    h.parts
    ∙ one_of_two (λ x. SpellsInteger Usual false p x (Value e)) (λ y. IsSigned y m) h.front h.back l.front l.back h.exponent_form h.mantissa_form l.exponent_form l.mantissa_form
    (λ x y s t same. one_integer false p (Value e) x y s t same)
    (λ x y s t same. signed_sizes.one x y m s t same)
    (λ x y s t. subst (λ (z : List ℕ). length z ≤ length (x ++ y)) h.parts (least (x ++ y) (record { front = x; back = y; parts = refl; exponent_form = s; mantissa_form = t })))
    (λ x y s t. subst (λ (z : List ℕ). length z ≤ length (x ++ y)) l.parts (least' (x ++ y) (record { front = x; back = y; parts = refl; exponent_form = s; mantissa_form = t })))
    ∙ sym l.parts

-- ---- what stands whole

one_number : (k : Kind) (p : Presence) (v : Option Scalar) (b c : List ℕ) → IsTrue (is_integer k) → SpelledNumber Usual k p b v → SpelledNumber Usual k p c v → length b ≡ length c → b ≡ c
one_number k p None b c i h l e = one_integer (is_unsigned k) p Null b c h l e
one_number k p (Some v) b c i h l e =
    let same : h.number ≡ l.number = sym (number_of k h.number i h.range) ∙ ap integer_of (sym h.value ∙ l.value) ∙ number_of k l.number i l.range in
    one_integer (is_unsigned k) p (Value l.number) b c (subst (λ (z : ℤ). SpellsInteger Usual (is_unsigned k) p b (Value z)) same h.form) l.form e

one_string : (k : Kind) (p : Presence) (v : Option Scalar) (b c : List ℕ) → SpelledString Usual k p b v → SpelledString Usual k p c v → length b ≡ length c → b ≡ c
one_string k p None b c h l e = one_units k p Null b c h l e
one_string k p (Some v) b c h l e =
    let same : h.string ≡ l.string = sym (units_are k h.string v h.value) ∙ units_are k l.string v l.value in
    one_units k p (Value l.string) b c (subst (λ (z : List ℕ). SpellsUnits Usual k p b (Value z)) same h.form) l.form e

one_decimal : (p : Presence) (v : Option Scalar) (b c : List ℕ) → SpelledDecimal Usual p b v → SpelledDecimal Usual p c v → length b ≡ length c → Least (λ o. SpelledDecimal Usual p o v) b → Least (λ o. SpelledDecimal Usual p o v) c → b ≡ c
one_decimal p None b c h l e least least' = one_integer false p Null b c h l e
one_decimal p (Some v) b c h l e least least' =
    let made = sym h.value.2 ∙ l.value.2 in
    let same_e : h.exponent ≡ l.exponent = ap exponent_of made in
    let same_m : h.mantissa ≡ l.mantissa = ap mantissa_of made in
    let pair = subst (λ (x : ℤ). SpellsPair Usual p b x l.mantissa) same_e (subst (λ (x : ℤ). SpellsPair Usual p b h.exponent x) same_m h.form) in
    one_pair p l.exponent l.mantissa b c pair l.form
    (λ o q. least o (record { exponent = l.exponent; mantissa = l.mantissa; form = q; value = l.value }))
    (λ o q. least' o (record { exponent = l.exponent; mantissa = l.mantissa; form = q; value = l.value }))

one_spelled : (k : Kind) (p : Presence) (v : Option Scalar) (b c : List ℕ) → Spelled Usual k p b v → Spelled Usual k p c v → length b ≡ length c → Least (λ o. Spelled Usual k p o v) b → Least (λ o. Spelled Usual k p o v) c → b ≡ c
one_spelled Kind.Decimal p v b c h l e least least' = one_decimal p v b c h l e least least'
one_spelled Kind.Ascii p v b c h l e least least' = one_string Kind.Ascii p v b c h l e
one_spelled Kind.Unicode p v b c h l e least least' = one_string Kind.Unicode p v b c h l e
one_spelled Kind.Bytes p v b c h l e least least' = one_string Kind.Bytes p v b c h l e
one_spelled k p v b c h l e least least' = one_number k p v b c refl h l e

-- ---- deltas

one_addend : (a c d : ℤ) → a +ℤ c ≡ a +ℤ d → c ≡ d
one_addend a c d e = omega (arith, ints, e)

one_delta : (k : Kind) (p : Presence) (base : Scalar) (x y : Cut) (b c : List ℕ) (v : Scalar) → IsTrue (is_integer k) → SpellsDelta Usual k p base x b v → SpellsDelta Usual k p base y c v → length b ≡ length c → b ≡ c
one_delta k p base x y b c v i h l e =
    let sums : integer_of base +ℤ h.delta ≡ integer_of base +ℤ l.delta = sym (number_of k (integer_of base +ℤ h.delta) i h.range) ∙ ap integer_of (sym h.value ∙ l.value) ∙ number_of k (integer_of base +ℤ l.delta) i l.range in
    let same : h.delta ≡ l.delta = one_addend (integer_of base) h.delta l.delta sums in
    one_integer false p (Value l.delta) b c (subst (λ (z : ℤ). SpellsInteger Usual false p b (Value z)) same h.form) l.form e

one_decimal_delta : (p : Presence) (base : Scalar) (x y : Cut) (b c : List ℕ) (v : Scalar) → SpellsDeltas Usual p base x b v → SpellsDeltas Usual p base y c v
    → ((cut : Cut) → Least (λ o. SpellsDeltas Usual p base cut o v) b) → ((cut : Cut) → Least (λ o. SpellsDeltas Usual p base cut o v) c) → b ≡ c
one_decimal_delta p base x y b c v h l least least' =
    let made = sym h.value.2 ∙ l.value.2 in
    let same_e : h.exponent_delta ≡ l.exponent_delta = one_addend (exponent_of base) h.exponent_delta l.exponent_delta (ap exponent_of made) in
    let same_m : h.mantissa_delta ≡ l.mantissa_delta = one_addend (mantissa_of base) h.mantissa_delta l.mantissa_delta (ap mantissa_of made) in
    let pair = subst (λ (z : ℤ). SpellsPair Usual p b z l.mantissa_delta) same_e (subst (λ (z : ℤ). SpellsPair Usual p b h.exponent_delta z) same_m h.form) in
    one_pair p l.exponent_delta l.mantissa_delta b c pair l.form
    (λ o q. least uncut o (record { exponent_delta = l.exponent_delta; mantissa_delta = l.mantissa_delta; form = q; value = l.value; cut_is = refl }))
    (λ o q. least' uncut o (record { exponent_delta = l.exponent_delta; mantissa_delta = l.mantissa_delta; form = q; value = l.value; cut_is = refl }))

-- ---- strings

sides : at_end ≡ in_front → ⊥
sides e = omega (arith, ap side_rank e)

behind : (keep keep' part part' : List ℕ) → length keep ≡ length keep' → keep ++ part ≡ keep' ++ part' → part ≡ part'
behind keep keep' part part' same e = sym (drop_at keep part (length keep) refl) ∙ ap (drop (length keep)) e ∙ drop_at keep' part' (length keep) (sym same)

in_front_of : (part part' keep keep' : List ℕ) → length part ≡ length part' → part ++ keep ≡ part' ++ keep' → part ≡ part'
in_front_of part part' keep keep' same e = sym (take_at part keep (length part) refl) ∙ ap (take (length part)) e ∙ take_at part' keep' (length part) (sym same)

-- a value, the side and the number of new units say what was removed and what is new
one_removal : (z z' : ℤ) (base part part' : List ℕ) → side_of z ≡ side_of z' → length part ≡ length part' → removed_of z ≤ length base → removed_of z' ≤ length base → put_together z base part ≡ put_together z' base part' → (z ≡ z') × (part ≡ part')
one_removal (pos n) (pos n') base part part' side same few few' e =
    let keep = take (length base - n) base in
    let keep' = take (length base - n') base in
    let lengths : length keep + length part ≡ length keep' + length part' = sym (length-append keep part) ∙ ap length e ∙ length-append keep' part' in
    let count : n ≡ n' = omega (arith, lengths, length-take (length base - n) base, length-take (length base - n') base) in
    let kept : length keep ≡ length keep' = omega arith in
    (ap (λ (m : ℕ). pos m) count, behind keep keep' part part' kept e)
one_removal (negsuc n) (negsuc n') base part part' side same few few' e =
    let keep = drop n base in
    let keep' = drop n' base in
    let lengths : length part + length keep ≡ length part' + length keep' = sym (length-append part keep) ∙ ap length e ∙ length-append part' keep' in
    let count : n ≡ n' = omega (arith, lengths, length-drop n base, length-drop n' base) in
    (ap (λ (m : ℕ). negsuc m) count, in_front_of part part' keep keep' same e)
one_removal (pos n) (negsuc n') base part part' side same few few' e = absurd (sides side)
one_removal (negsuc n) (pos n') base part part' side same few few' e = absurd (sides (sym side))

one_cut : (k : Kind) (p : Presence) (base : Scalar) (x y : Cut) (b c : List ℕ) (v : Scalar) → SpellsCut Usual k p base x b v → SpellsCut Usual k p base y c v → x ≡ y
    → ((cut : Cut) → Least (λ o. SpellsCut Usual k p base cut o v) b) → ((cut : Cut) → Least (λ o. SpellsCut Usual k p base cut o v) c) → b ≡ c
one_cut k p base x y b c v h l cuts least least' =
    let cut = sym h.cut_is ∙ cuts ∙ l.cut_is in
    let made : put_together h.removal (units_of base) h.new_part ≡ put_together l.removal (units_of base) l.new_part =
    sym (units_are k (put_together h.removal (units_of base) h.new_part) v h.value.1) ∙ units_are k (put_together l.removal (units_of base) l.new_part) v l.value.1 in
    let same = one_removal h.removal l.removal (units_of base) h.new_part l.new_part (ap (λ (z : Cut). z.side) cut) (ap (λ (z : Cut). z.part) cut) h.there l.there made in
    let front = subst (λ (z : ℤ). SpellsInteger Usual false p h.front (Value z)) same.0 h.removal_form in
    let back = subst (λ (z : List ℕ). SpellsPart Usual k h.back z) same.1 h.part_form in
    h.parts
    ∙ one_of_two (λ f. SpellsInteger Usual false p f (Value l.removal)) (λ g. SpellsPart Usual k g l.new_part) h.front h.back l.front l.back front back l.removal_form l.part_form
    (λ f g s t e. one_integer false p (Value l.removal) f g s t e)
    (λ f g s t e. one_part k l.new_part f g s t e)
    (λ f g s t. subst (λ (z : List ℕ). length z ≤ length (f ++ g)) h.parts (least y (f ++ g) (record { removal = l.removal; new_part = l.new_part; front = f; back = g; parts = refl; removal_form = s; is_int32 = l.is_int32; there = l.there; part_form = t; value = l.value; cut_is = l.cut_is })))
    (λ f g s t. subst (λ (z : List ℕ). length z ≤ length (f ++ g)) l.parts (least' y (f ++ g) (record { removal = l.removal; new_part = l.new_part; front = f; back = g; parts = refl; removal_form = s; is_int32 = l.is_int32; there = l.there; part_form = t; value = l.value; cut_is = l.cut_is })))
    ∙ sym l.parts

one_delta_value : (k : Kind) (p : Presence) (base : Scalar) (x y : Cut) (b c : List ℕ) (v : Scalar) → DeltaValue Usual k p base x b v → DeltaValue Usual k p base y c v → x ≡ y → length b ≡ length c
    → ((cut : Cut) → Least (λ o. DeltaValue Usual k p base cut o v) b) → ((cut : Cut) → Least (λ o. DeltaValue Usual k p base cut o v) c) → b ≡ c
one_delta_value Kind.Decimal p base x y b c v h l cuts e least least' = one_decimal_delta p base x y b c v h l least least'
one_delta_value Kind.Ascii p base x y b c v h l cuts e least least' = one_cut Kind.Ascii p base x y b c v h l cuts least least'
one_delta_value Kind.Unicode p base x y b c v h l cuts e least least' = one_cut Kind.Unicode p base x y b c v h l cuts least least'
one_delta_value Kind.Bytes p base x y b c v h l cuts e least least' = one_cut Kind.Bytes p base x y b c v h l cuts least least'
one_delta_value k p base x y b c v h l cuts e least least' = one_delta k p base x y b c v refl h l e

one_tail : (k : Kind) (p : Presence) (base : Scalar) (x y : Cut) (b c : List ℕ) (v : Scalar) → SpellsTail Usual k p base x b v → SpellsTail Usual k p base y c v → x ≡ y → length b ≡ length c → b ≡ c
one_tail k p base x y b c v h l cuts e =
    let cut = sym h.cut_is ∙ cuts ∙ l.cut_is in
    let same : length h.tail ≡ length l.tail = ap (λ (z : Cut). z.part) cut in
    let made : ended_by (units_of base) h.tail ≡ ended_by (units_of base) l.tail = sym (units_are k (ended_by (units_of base) h.tail) v h.value.1) ∙ units_are k (ended_by (units_of base) l.tail) v l.value.1 in
    let kept : length (take (length (units_of base) - length h.tail) (units_of base)) ≡ length (take (length (units_of base) - length l.tail) (units_of base)) = ap (λ (m : ℕ). length (take (length (units_of base) - m) (units_of base))) same in
    let tails : h.tail ≡ l.tail = behind (take (length (units_of base) - length h.tail) (units_of base)) (take (length (units_of base) - length l.tail) (units_of base)) h.tail l.tail kept made in
    one_units k p (Value l.tail) b c (subst (λ (z : List ℕ). SpellsUnits Usual k p b (Value z)) tails h.tail_form) l.tail_form e

-- ---- the table

one_row : (o : Operator) (i : FieldPart) (e : Entry) (x y : Cut) (b c : List ℕ) (v : Option Scalar) → FormOf Usual o i e true x b v → FormOf Usual o i e true y c v → x ≡ y → length b ≡ length c
    → ((cut : Cut) → Least (λ t. FormOf Usual o i e true cut t v) b) → ((cut : Cut) → Least (λ t. FormOf Usual o i e true cut t v) c) → b ≡ c
one_row Operator.Constant i e x y b c v f g cuts same least least' = f.1 ∙ sym g.1
one_row Operator.Delta i e x y b c None f g cuts same least least' = one_integer false i.presence Null b c f.1 g.1 same
one_row Operator.Delta i e x y b c (Some v) f g cuts same least least' =
    let base : f.0 ≡ g.0 = ok_is {F = FieldFault} f.0 g.0 (sym f.1 ∙ g.1) in
    one_delta_value i.kind i.presence g.0 x y b c v (subst (λ (z : Scalar). DeltaValue Usual i.kind i.presence z x b v) base f.2) g.2 cuts same (λ cut t h. least cut t (g.0, g.1, h)) (λ cut t h. least' cut t (g.0, g.1, h))
one_row Operator.Tail i e x y b c None f g cuts same least least' = one_units i.kind i.presence Null b c f.1 g.1 same
one_row Operator.Tail i e x y b c (Some v) f g cuts same least least' =
    let base : f.0 ≡ g.0 = ok_is {F = FieldFault} f.0 g.0 (sym f.1 ∙ g.1) in
    one_tail i.kind i.presence g.0 x y b c v (subst (λ (z : Scalar). SpellsTail Usual i.kind i.presence z x b v) base f.2) g.2 cuts same
one_row o i e x y b c v f g cuts same least least' = one_spelled i.kind i.presence v b c f.1 g.1 same (λ t h. least uncut t (refl, h)) (λ t h. least' uncut t (refl, h))

-- ---- two that come before each other

rank_le : (bit bit' : Bool) (n n' : ℕ) (c c' : Cut) → NoLater bit n c bit' n' c' → bit_rank bit ≤ bit_rank bit'
rank_le bit bit' n n' c c' (inl lt) = omega (arith, lt)
rank_le bit bit' n n' c c' (inr h) = omega (arith, ap bit_rank h.0)

cut_le : (bit bit' : Bool) (n n' : ℕ) (c c' : Cut) → bit ≡ bit' → n ≡ n' → NoLater bit n c bit' n' c' → (side_rank c.side < side_rank c'.side) ⊎ ((c.side ≡ c'.side) × (c.part ≤ c'.part))
cut_le bit bit' n n' c c' e s (inl lt) = absurd (omega (arith, lt, ap bit_rank e))
cut_le bit bit' n n' c c' e s (inr h) = elim h.1 [ inl lt ↦ absurd (omega (arith, lt)) | inr l ↦ l.1 ]

bits_same : (bit bit' : Bool) → bit_rank bit ≤ bit_rank bit' → bit_rank bit' ≤ bit_rank bit → bit ≡ bit'
bits_same false false h l = refl
bits_same true true h l = refl
bits_same false true h l = absurd (omega (arith, l))
bits_same true false h l = absurd (omega (arith, h))

cut_of : Side → ℕ → Cut
cut_of side part = record { side = side; part = part }

cut_is : (c : Cut) → cut_of c.side c.part ≡ c
unfolding cut_of
cut_is c = refl

cuts_same : (c c' : Cut) → ((side_rank c.side < side_rank c'.side) ⊎ ((c.side ≡ c'.side) × (c.part ≤ c'.part))) → ((side_rank c'.side < side_rank c.side) ⊎ ((c'.side ≡ c.side) × (c'.part ≤ c.part))) → c ≡ c'
cuts_same c c' (inl lt) (inl lt') = absurd (omega (arith, lt, lt'))
cuts_same c c' (inl lt) (inr h) = absurd (omega (arith, lt, ap side_rank h.0))
cuts_same c c' (inr h) (inl lt) = absurd (omega (arith, lt, ap side_rank h.0))
cuts_same c c' (inr h) (inr l) =
    let less = h.1 in
    let more = l.1 in
    let parts : c.part ≡ c'.part = omega arith in
    sym (cut_is c) ∙ ap (λ (s : Side). cut_of s c.part) h.0 ∙ ap (λ (n : ℕ). cut_of c'.side n) parts ∙ cut_is c'

by_bit : (bit : Bool) (i : FieldPart) (e : Entry) (x y : Cut) (b c : List ℕ) (v : Option Scalar) → FormBy Usual i e bit x b v → FormBy Usual i e bit y c v → x ≡ y → length b ≡ length c
    → ((cut : Cut) → Least (λ t. FormOf Usual i.operator i e true cut t v) b) → ((cut : Cut) → Least (λ t. FormOf Usual i.operator i e true cut t v) c) → b ≡ c
by_bit false i e x y b c v f g cuts same least least' = (bit_zero_row i.operator i e x b v f.row).1 ∙ sym (bit_zero_row i.operator i e y c v g.row).1
by_bit true i e x y b c v f g cuts same least least' = one_row i.operator i e x y b c v f.row g.row cuts same least least'

pub best_is_one : (i : FieldPart) (e : Entry) (bit other : Bool) (b c : List ℕ) (v : Option Scalar) → IsBest i e bit b v → IsBest i e other c v → (bit ≡ other) × (b ≡ c)
best_is_one i e bit other b c v f g =
    let h = f.first other g.cut c g.form in
    let l = g.first bit f.cut b f.form in
    let bits = bits_same bit other (rank_le bit other (length b) (length c) f.cut g.cut h) (rank_le other bit (length c) (length b) g.cut f.cut l) in
    let less = size_le bit other (length b) (length c) f.cut g.cut bits h in
    let more = size_le other bit (length c) (length b) g.cut f.cut (sym bits) l in
    let sizes : length b ≡ length c = omega arith in
    let cuts = cuts_same f.cut g.cut (cut_le bit other (length b) (length c) f.cut g.cut bits sizes h) (cut_le other bit (length c) (length b) g.cut f.cut (sym bits) (sym sizes) l) in (
      bits,
      by_bit other i e f.cut g.cut b c v (subst (λ (x : Bool). FormBy Usual i e x f.cut b v) bits f.form) g.form cuts sizes
          (λ cut t r. (none_shorter i e bit true b t v f (cut, record { row = r; within = f.form.within })).1)
          (λ cut t r. (none_shorter i e other true c t v g (cut, record { row = r; within = g.form.within })).1),
    )

-- ---- and where nothing is cut, one of the shortest is the same bytes

delta_uncut : (k : Kind) (p : Presence) (base : Scalar) (x : Cut) (b : List ℕ) (v : Scalar) → CutsNothing Operator.Delta k → DeltaValue Usual k p base x b v → x ≡ uncut
delta_uncut Kind.Ascii p base x b v n h = absurd n
delta_uncut Kind.Unicode p base x b v n h = absurd n
delta_uncut Kind.Bytes p base x b v n h = absurd n
delta_uncut k p base x b v n h = h.cut_is

forms_uncut : (o : Operator) (i : FieldPart) (e : Entry) (bit : Bool) (x : Cut) (b : List ℕ) (v : Option Scalar) → CutsNothing o i.kind → FormOf Usual o i e bit x b v → x ≡ uncut
forms_uncut Operator.Plain i e false x b v n f = absurd f
forms_uncut Operator.Delta i e true x b None n f = f.0
forms_uncut Operator.Delta i e true x b (Some v) n f = delta_uncut i.kind i.presence f.0 x b v n f.2
forms_uncut Operator.Delta i e false x b v n f = absurd f
forms_uncut Operator.Tail i e bit x b v n f = absurd n
forms_uncut o i e true x b v n f = f.0
forms_uncut o i e false x b v n f = f.0

as_short : (bit other : Bool) (i : FieldPart) (e : Entry) (b c : List ℕ) (v : Option Scalar) (f : IsBest i e bit b v) (g : Form Usual i e other c v) → CutsNothing i.operator i.kind → length b ≡ length c → b ≡ c
as_short bit false i e b c v f g n same =
    let empty = (bit_zero_row i.operator i e g.0 c v g.1.row).1 in
    nil_from_length b (same ∙ ap length empty) ∙ sym empty
as_short false true i e b c v f g n same =
    let empty = (bit_zero_row i.operator i e f.cut b v f.form.row).1 in
    empty ∙ sym (nil_from_length c (sym same ∙ ap length empty))
as_short true true i e b c v f g n same =
    let cuts = forms_uncut i.operator i e true f.cut b v n f.form.row ∙ sym (forms_uncut i.operator i e true g.0 c v n g.1.row) in
    by_bit true i e f.cut g.0 b c v f.form g.1 cuts same
    (λ cut t r. (none_shorter i e true true b t v f (cut, record { row = r; within = f.form.within })).1)
    (λ cut t r. subst (λ (m : ℕ). m ≤ length t) same (none_shorter i e true true b t v f (cut, record { row = r; within = f.form.within })).1)

pub shortest_are_one : (i : FieldPart) (e : Entry) (bit other : Bool) (b c : List ℕ) (v : Option Scalar) → CutsNothing i.operator i.kind → IsBest i e bit b v → Form Usual i e other c v → length b ≡ length c → b ≡ c
shortest_are_one i e bit other b c v n f g same = as_short bit other i e b c v f g n same
