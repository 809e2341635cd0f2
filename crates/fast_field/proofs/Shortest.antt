-- The shortest bytes of pieces, as forms of a field's parts.
use Rattle.fast_field.proofs.Common.{◌≡◌, ℕ, ◌^◌, ◌<◌, ◌≤◌, true, false, List, ◌++◌, length, refl, ap, arith, length-append, ℤ, pos, Usual, IsAscii, IsAsciiNullable, IsSigned, magnitude, IsSignedNullable, IsVector, IsVectorNullable, IsShortest, Value, signed_size, signed_nullable_size, ascii_size, ascii_nullable_size, vector_size, vector_nullable_size, signed_sizes, signed_nullable_sizes, ascii_sizes, ascii_nullable_sizes, vector_sizes, vector_nullable_sizes, shortest_size, Kind, Presence, Mandatory, Optional, SpellsInteger, SpellsPart, SpellsUnits, SpellsPair, ShortestUnsigned, ShortestSigned, ShortestPart, ShortestUnits, ShortestPair, length_size, part_size, tail_size, Some, negsuc, ◌*◌, unsigned_nullable_sizes, unsigned_sizes, IsUnsigned, IsUnsignedNullable, sent_signed, Scalar, Ascii, Bytes, Decimal, I32, I64, U32, U64, Unicode, ShortestWhole, Spelled}
use Rattle.fast_field.proofs.StandingForms.{stands_of, text_of, range_small, exponent_small, number_shortest, string_is_shortest, decimal_is_shortest}
use Rattle.fast_field.proofs.ValuesWithin.{IsOfType, IsString}

-- ---- a shortest form is a form, and the shortest

pub unsigned_form : (p : Presence) (n : ℕ) (b : List ℕ) → ShortestUnsigned p n b → IsShortest (SpellsInteger Usual true p) b (Value (pos n))
unsigned_form Mandatory n b h = record { form = h.form; least = h.least }
unsigned_form Optional n b h = record { form = h.form; least = h.least }

pub signed_form : (p : Presence) (z : ℤ) (b : List ℕ) → ShortestSigned p z b → IsShortest (SpellsInteger Usual false p) b (Value z)
signed_form Mandatory z b h = record { form = h.form; least = h.least }
signed_form Optional z b h = record { form = h.form; least = h.least }

pub part_form : (k : Kind) (s b : List ℕ) → ShortestPart k s b → IsShortest (SpellsPart Usual k) b s
part_form Kind.Ascii s b h = record { form = h.form; least = h.least }
part_form k s b h = record { form = h.form; least = h.least }

pub units_form : (k : Kind) (p : Presence) (s b : List ℕ) → ShortestUnits k p s b → IsShortest (SpellsUnits Usual k p) b (Value s)
units_form k Mandatory s b h = let f = part_form k s b h in record { form = f.form; least = f.least }
units_form Kind.Ascii Optional s b h = record { form = h.form; least = h.least }
units_form k Optional s b h = record { form = h.form; least = h.least }

pub pair_form : (p : Presence) (e m : ℤ) (b : List ℕ) → ShortestPair p e m b → SpellsPair Usual p b e m
pair_form p e m b h = record { front = h.front; back = h.back; parts = h.parts; exponent_form = (signed_form p e h.front h.first).form; mantissa_form = h.second.form }

pub pair_least : (p : Presence) (e m : ℤ) (b : List ℕ) → ShortestPair p e m b → (o : List ℕ) → SpellsPair Usual p o e m → length b ≤ length o
pair_least p e m b h o f =
    omega (arith, ap length h.parts, length-append h.front h.back, ap length f.parts, length-append f.front f.back, (signed_form p e h.front h.first).least f.front f.exponent_form, h.second.least f.back f.mantissa_form)

-- ---- it has as many bytes as its size says

pub length_is : (p : Presence) (z : ℤ) (b : List ℕ) → ShortestSigned p z b → length b ≡ length_size p z
length_is Mandatory z b h = shortest_size IsSigned _ signed_size signed_sizes b z h
length_is Optional z b h = shortest_size IsSignedNullable _ signed_nullable_size signed_nullable_sizes b (Value z) h

pub part_is : (k : Kind) (s b : List ℕ) → ShortestPart k s b → length b ≡ part_size k s
part_is Kind.Ascii s b h = shortest_size IsAscii _ ascii_size ascii_sizes b s h
part_is k s b h = shortest_size IsVector _ vector_size vector_sizes b s h

pub units_is : (k : Kind) (p : Presence) (s b : List ℕ) → ShortestUnits k p s b → length b ≡ tail_size k p s
units_is k Mandatory s b h = part_is k s b h
units_is Kind.Ascii Optional s b h = shortest_size IsAsciiNullable _ ascii_nullable_size ascii_nullable_sizes b (Value s) h
units_is k Optional s b h = shortest_size IsVectorNullable _ vector_nullable_size vector_nullable_sizes b (Value s) h

-- ---- and stands

unsigned_stands : (p : Presence) (n : ℕ) → n < 2 ^ 64 → (b : List ℕ) × ShortestUnsigned p n b
unsigned_stands Mandatory n lt = stands_of IsUnsigned _ _ unsigned_sizes n (omega arith)
unsigned_stands Optional n lt = stands_of IsUnsignedNullable _ _ unsigned_nullable_sizes (Value n) (omega arith)

nullable_magnitude : (z : ℤ) → magnitude z < 2 ^ 68 → magnitude (sent_signed (Value z)) < 64 * 128 ^ 9
nullable_magnitude (pos n) lt = omega arith
nullable_magnitude (negsuc n) lt = omega arith

pub shortest_signed : (p : Presence) (z : ℤ) → magnitude z < 2 ^ 68 → (b : List ℕ) × ShortestSigned p z b
shortest_signed Mandatory z lt = stands_of IsSigned _ _ signed_sizes z (omega arith)
shortest_signed Optional z lt = stands_of IsSignedNullable _ _ signed_nullable_sizes (Value z) (nullable_magnitude z lt)

pub shortest_part : (k : Kind) (s : List ℕ) → IsString k s → (b : List ℕ) × ShortestPart k s b
shortest_part Kind.Ascii s h = stands_of IsAscii _ _ ascii_sizes s (text_of s h)
shortest_part k s h = stands_of IsVector _ _ vector_sizes s (h.1, h.0)

pub shortest_units : (k : Kind) (p : Presence) (s : List ℕ) → IsString k s → (b : List ℕ) × ShortestUnits k p s b
shortest_units k Mandatory s h = shortest_part k s h
shortest_units Kind.Ascii Optional s h = stands_of IsAsciiNullable _ _ ascii_nullable_sizes (Value s) (text_of s h)
shortest_units k Optional s h = stands_of IsVectorNullable _ _ vector_nullable_sizes (Value s) (h.1, h.0)

pub shortest_pair : (p : Presence) (e m : ℤ) → magnitude e < 2 ^ 68 → magnitude m < 2 ^ 68 → (b : List ℕ) × ShortestPair p e m b
shortest_pair p e m small_e small_m =
    let first = shortest_signed p e small_e in
    let second = shortest_signed Mandatory m small_m in
    (first.0 ++ second.0, record { front = first.0; back = second.0; parts = refl; first = first.1; second = second.1 })

-- ---- what stands whole

pub whole_shortest : (k : Kind) (p : Presence) (v : Scalar) (b : List ℕ) → IsOfType k v → ShortestWhole p v b → IsShortest (Spelled Usual k p) b (Some v)
whole_shortest Kind.UInt32 p (U32 n) b h s = number_shortest Kind.UInt32 p (U32 n) b refl h (unsigned_form p n b s)
whole_shortest Kind.UInt64 p (U64 n) b h s = number_shortest Kind.UInt64 p (U64 n) b refl h (unsigned_form p n b s)
whole_shortest Kind.Int32 p (I32 z) b h s = number_shortest Kind.Int32 p (I32 z) b refl h (signed_form p z b s)
whole_shortest Kind.Int64 p (I64 z) b h s = number_shortest Kind.Int64 p (I64 z) b refl h (signed_form p z b s)
whole_shortest Kind.Decimal p (Decimal e m) b h s = decimal_is_shortest p e m b h (pair_form p e m b s) (pair_least p e m b s)
whole_shortest Kind.Ascii p (Ascii t) b h s = string_is_shortest Kind.Ascii p (Ascii t) b tt h (units_form Kind.Ascii p t b s)
whole_shortest Kind.Unicode p (Unicode t) b h s = string_is_shortest Kind.Unicode p (Unicode t) b tt h (units_form Kind.Unicode p t b s)
whole_shortest Kind.Bytes p (Bytes t) b h s = string_is_shortest Kind.Bytes p (Bytes t) b tt h (units_form Kind.Bytes p t b s)
whole_shortest k p v b h s = absurd (let e = h.0 in cc)

pub shortest_whole : (k : Kind) (p : Presence) (v : Scalar) → IsOfType k v → (b : List ℕ) × ShortestWhole p v b
shortest_whole k p (U32 n) h = let lt = h.1 in unsigned_stands p n (omega arith)
shortest_whole k p (U64 n) h = unsigned_stands p n h.1
shortest_whole k p (I32 z) h = shortest_signed p z (omega (arith, range_small Kind.Int32 z refl h.1))
shortest_whole k p (I64 z) h = shortest_signed p z (omega (arith, range_small Kind.Int64 z refl h.1))
shortest_whole k p (Decimal e m) h = shortest_pair p e m (omega (arith, exponent_small e h.1.0)) (omega (arith, range_small Kind.Int64 m refl h.1.1))
shortest_whole k p (Ascii s) h = shortest_units Kind.Ascii p s h.1
shortest_whole k p (Unicode s) h = shortest_units Kind.Unicode p s (h.1.0, h.1.1)
shortest_whole k p (Bytes s) h = shortest_units Kind.Bytes p s h.1
