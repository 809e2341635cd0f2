-- Where a shortest form stands, and what is a shortest form of a value that stands whole.
use Rattle.fast_field.proofs.Common.{◌≡◌, ℕ, ◌^◌, ◌<◌, ◌≤◌, true, List, length, refl, sym, ap, subst, ◌∙◌, arith, ℤ, pos, negsuc, nat_le, int_le, ◌&&◌, Some, IsTrue, AllByRecursion, All-from_recursion, leb-true, Usual, IsAsciiText, magnitude, HasSizes, IsShortest, Value, is_integer, in_range, exponent_in_range, of_integer, Kind, Presence, Scalar, U32, I32, U64, I64, Decimal, Ascii, Unicode, Bytes, is_unsigned, integer_of, exponent_of, mantissa_of, units_of, IsUnitKind, SpellsInteger, SpellsUnits, SpellsPair, IsOfUnits, SpelledNumber, SpelledString, Spelled, and_parts}
use Rattle.fast_field.proofs.Refused.{units_are}
use Rattle.fast_field.proofs.FieldsWithin.{uint_in_range}
use Rattle.fast_field.proofs.ValuesWithin.{IsOfType}

-- a shortest form stands
abbrev pub Stands : {V : Type 0} → (List ℕ → V → Type 0) → V → Type 0
Stands Form v = (b : List ℕ) × IsShortest Form b v

pub stands_of : {V : Type 0} (Form : List ℕ → V → Type 0) (Can : V → Type 0) (size : V → ℕ) → HasSizes Form Can size → (v : V) → Can v → Stands Form v
stands_of Form Can size is v can =
    let s = is.stands v can in
    (s.0, record { form = s.1; least = λ other h. omega (arith, s.2, is.least other v h) })

-- ---- strings

pub text_of : (s : List ℕ) → (length s ≤ 65535) × AllByRecursion (λ c. c < 128) s → IsAsciiText s
text_of s h = (All-from_recursion (λ c. c < 128) s h.1, h.0)

-- ---- numbers of a type

-- the number of a value of an integer type is the one that it was made of
pub number_of : (k : Kind) (z : ℤ) → IsTrue (is_integer k) → IsTrue (in_range k z) → integer_of (of_integer k z) ≡ z
number_of Kind.UInt32 (pos n) i h = refl
number_of Kind.UInt64 (pos n) i h = refl
number_of Kind.Int32 z i h = refl
number_of Kind.Int64 z i h = refl
number_of k z i h = absurd cc

pub record IsNumber (k : Kind) (v : Scalar) : Type 0 where
  pub made : v ≡ of_integer k (integer_of v)
  pub range : IsTrue (in_range k (integer_of v))

pub number_is : (k : Kind) (v : Scalar) → IsTrue (is_integer k) → IsOfType k v → IsNumber k v
number_is Kind.UInt32 (U32 n) i h = record { made = refl; range = uint_in_range n 4294967295 h.1 }
number_is Kind.UInt64 (U64 n) i h = record { made = refl; range = uint_in_range n 18446744073709551615 h.1 }
number_is Kind.Int32 (I32 z) i h = record { made = refl; range = h.1 }
number_is Kind.Int64 (I64 z) i h = record { made = refl; range = h.1 }
number_is k v i h = let e = h.0 in absurd cc

signed_small : (z : ℤ) (m n : ℕ) → (int_le (negsuc m) z && int_le z (pos n)) ≡ true → m < 2 ^ 64 → n < 2 ^ 64 → magnitude z < 2 ^ 64
signed_small (pos a) m n h low high = let w = and_parts true (nat_le a n) h in omega (arith, leb-true a n w.1)
signed_small (negsuc a) m n h low high = let w = and_parts (nat_le a m) true h in omega (arith, leb-true a m w.0)

unsigned_small : (z : ℤ) (n : ℕ) → (int_le (pos 0) z && int_le z (pos n)) ≡ true → n < 2 ^ 64 → magnitude z < 2 ^ 64
unsigned_small (pos a) n h high = let w = and_parts (nat_le 0 a) (nat_le a n) h in omega (arith, leb-true a n w.1)
unsigned_small (negsuc a) n h high = absurd cc

pub range_small : (k : Kind) (z : ℤ) → IsTrue (is_integer k) → IsTrue (in_range k z) → magnitude z < 2 ^ 64
range_small Kind.UInt32 z i h = unsigned_small z 4294967295 h (omega arith)
range_small Kind.UInt64 z i h = unsigned_small z 18446744073709551615 h (omega arith)
range_small Kind.Int32 z i h = signed_small z 2147483647 2147483647 h (omega arith) (omega arith)
range_small Kind.Int64 z i h = signed_small z 9223372036854775807 9223372036854775807 h (omega arith) (omega arith)
range_small k z i h = absurd cc

-- ---- what stands whole

pub number_shortest : (k : Kind) (p : Presence) (v : Scalar) (b : List ℕ) → IsTrue (is_integer k) → IsOfType k v → IsShortest (SpellsInteger Usual (is_unsigned k) p) b (Value (integer_of v)) → IsShortest (SpelledNumber Usual k p) b (Some v)
number_shortest k p v b i h s =
    let n = number_is k v i h in
    record {
      form = record { number = integer_of v; form = s.form; range = n.range; value = n.made };
      least = λ other o.
          let same : o.number ≡ integer_of v = sym (number_of k o.number i o.range) ∙ ap integer_of (sym o.value) in
          s.least other (subst (λ (z : ℤ). SpellsInteger Usual (is_unsigned k) p other (Value z)) same o.form);
    }

pub of_units_is : (k : Kind) (v : Scalar) → IsUnitKind k → IsOfType k v → IsOfUnits k (units_of v) v
of_units_is Kind.Ascii (Ascii s) u h = refl
of_units_is Kind.Unicode (Unicode s) u h = (h.1.2, refl)
of_units_is Kind.Bytes (Bytes s) u h = refl
of_units_is k v u h = let e = h.0 in absurd (first_of (cc, assumption))

string_shortest : (k : Kind) (p : Presence) (v : Scalar) (b : List ℕ) → IsUnitKind k → IsOfType k v → IsShortest (SpellsUnits Usual k p) b (Value (units_of v)) → IsShortest (SpelledString Usual k p) b (Some v)
string_shortest k p v b u h s = record {
  form = record { string = units_of v; form = s.form; value = of_units_is k v u h };
  least = λ other o. s.least other (subst (λ (x : List ℕ). SpellsUnits Usual k p other (Value x)) (sym (units_are k o.string v o.value)) o.form);
}

pub string_is_shortest : (k : Kind) (p : Presence) (v : Scalar) (b : List ℕ) → IsUnitKind k → IsOfType k v → IsShortest (SpellsUnits Usual k p) b (Value (units_of v)) → IsShortest (Spelled Usual k p) b (Some v)
string_is_shortest Kind.Ascii p v b u h s = let n = string_shortest Kind.Ascii p v b u h s in record { form = n.form; least = n.least }
string_is_shortest Kind.Unicode p v b u h s = let n = string_shortest Kind.Unicode p v b u h s in record { form = n.form; least = n.least }
string_is_shortest Kind.Bytes p v b u h s = let n = string_shortest Kind.Bytes p v b u h s in record { form = n.form; least = n.least }
string_is_shortest k p v b u h s = absurd u

pub exponent_small : (e : ℤ) → IsTrue (exponent_in_range e) → magnitude e < 2 ^ 64
exponent_small e h = signed_small e 62 63 h (omega arith) (omega arith)

pub decimal_is_shortest : (p : Presence) (e m : ℤ) (b : List ℕ) → IsOfType Kind.Decimal (Decimal e m) → SpellsPair Usual p b e m → ((o : List ℕ) → SpellsPair Usual p o e m → length b ≤ length o) → IsShortest (Spelled Usual Kind.Decimal p) b (Some (Decimal e m))
decimal_is_shortest p e m b h form least = record {
  form = record { exponent = e; mantissa = m; form = form; value = (h.1.0, h.1.1, refl) };
  least = λ other o.
      let same_e : o.exponent ≡ e = sym (ap exponent_of o.value.2) in
      let same_m : o.mantissa ≡ m = sym (ap mantissa_of o.value.2) in
      least other (subst (λ (x : ℤ). SpellsPair Usual p other x m) same_e (subst (λ (x : ℤ). SpellsPair Usual p other o.exponent x) same_m o.form));
}
