-- What a node can say, by its kind.
use Rattle.std.proofs.Common.{◌≡◌, ◌⊎◌, inl, inr, ℕ, ◌<◌, ◌^◌, ℤ, pos, List, ◌++◌, length, Option, Some, None, Result, Ok, Err, IsTrue, sym, ap, subst, ◌∙◌, arith}
use Rattle.std.specs.Prelude.{IfOk, IsUtf8, MatchOption}
use Rattle.fast_value.specs.declared.scalar.Scalar.{Scalar}
use Rattle.fast_value.specs.declared.scalar.Scalar.TheVariants.{I32, U32, I64, U64, Decimal, Ascii, Unicode, Bytes}
use Rattle.fast_value.specs.Scalar.{in_range}
use Rattle.fast_value.specs.declared.kind.Kind.{Kind}
use Rattle.fast_tape.specs.declared.node.TapeNode.{TapeNode}
use Rattle.fast_tape.specs.Tapes.{LiesAt, Says, SaysText, long_node, signed_node, tells, uint32_kind, uint64_kind, int32_kind, int64_kind, decimal_kind, unicode_kind}
use Rattle.fast_tape.proofs.Marks.{same_fronts}
use Rattle.fast_untape.specs.Reading.{IsNoText, IsTextKind, SaysNone, SaysNoValue, text_of}

abbrev kind_of : Scalar → ℕ
kind_of (U32 k) = 2
kind_of (U64 k) = 3
kind_of (I32 k) = 4
kind_of (I64 k) = 5
kind_of (Decimal e m) = 6
kind_of (Ascii t) = 7
kind_of (Unicode t) = 8
kind_of (Bytes t) = 9

kind_is : (bytes : List ℕ) (v : Scalar) (n : TapeNode) → Says bytes (tells (Some v)) n → n.kind ≡ kind_of v
kind_is bytes (U32 k) n says = ap (λ (m : TapeNode). m.kind) says
kind_is bytes (U64 k) n says = ap (λ (m : TapeNode). m.kind) says
kind_is bytes (I32 k) n says = ap (λ (m : TapeNode). m.kind) says
kind_is bytes (I64 k) n says = ap (λ (m : TapeNode). m.kind) says
kind_is bytes (Decimal e d) n says = ap (λ (m : TapeNode). m.kind) says
kind_is bytes (Ascii t) n says = ap (λ (m : TapeNode). m.kind) says.0
kind_is bytes (Unicode t) n says = ap (λ (m : TapeNode). m.kind) says.0
kind_is bytes (Bytes t) n says = ap (λ (m : TapeNode). m.kind) says.0

apart : {k a b c : ℕ} → (k ≡ a) ⊎ (k ≡ b) → k ≡ c → (c ≡ a → ⊥) → (c ≡ b → ⊥) → ⊥
apart (inl e) h no_a no_b = no_a (sym h ∙ e)
apart (inr e) h no_a no_b = no_b (sym h ∙ e)

-- ---- numbers without sign

pub no_unsigned : (n : TapeNode) → (n.kind ≡ uint32_kind) ⊎ (n.kind ≡ uint64_kind) → ((kind instruction number : ℕ) → n ≡ long_node kind instruction number 0 → ⊥) → SaysNone n
no_unsigned n is none bytes (U32 k) range says = none uint32_kind n.instruction k says
no_unsigned n is none bytes (U64 k) range says = none uint64_kind n.instruction k says
no_unsigned n is none bytes v range says = apart is (kind_is bytes v n says) (λ e. cc) (λ e. cc)

pub not_small : (n : TapeNode) → (n.kind ≡ uint32_kind) ⊎ (n.kind ≡ uint64_kind) → (n.kind ≡ uint64_kind → ⊥) → (n.number < 2 ^ 32 → ⊥) → SaysNone n
not_small n is none large bytes (U32 k) range says = let e = ap (λ (m : TapeNode). m.number) says in large (omega (arith, e, range))
not_small n is none large bytes (U64 k) range says = none (kind_is bytes (U64 k) n says)
not_small n is none large bytes v range says = apart is (kind_is bytes v n says) (λ e. cc) (λ e. cc)

-- ---- numbers with a sign

pub no_signed : (n : TapeNode) → (n.kind ≡ int32_kind) ⊎ (n.kind ≡ int64_kind) → ((kind instruction : ℕ) (mantissa : ℤ) → n ≡ signed_node kind instruction mantissa (pos 0) → ⊥) → SaysNone n
no_signed n is none bytes (I32 k) range says = none int32_kind n.instruction k says
no_signed n is none bytes (I64 k) range says = none int64_kind n.instruction k says
no_signed n is none bytes v range says = apart is (kind_is bytes v n says) (λ e. cc) (λ e. cc)

pub not_short : (n : TapeNode) → (n.kind ≡ int32_kind) ⊎ (n.kind ≡ int64_kind) → (n.kind ≡ int64_kind → ⊥) → (IsTrue (in_range Kind.Int32 n.mantissa) → ⊥) → SaysNone n
not_short n is none large bytes (I32 k) range says = let e = ap (λ (m : TapeNode). m.mantissa) says in large (rw e range)
not_short n is none large bytes (I64 k) range says = none (kind_is bytes (I64 k) n says)
not_short n is none large bytes v range says = apart is (kind_is bytes v n says) (λ e. cc) (λ e. cc)

pub no_decimal : (n : TapeNode) → n.kind ≡ decimal_kind → ((kind instruction : ℕ) (mantissa exponent : ℤ) → n ≡ signed_node kind instruction mantissa exponent → ⊥) → SaysNone n
no_decimal n is none bytes (Decimal e m) range says = none decimal_kind n.instruction m e says
no_decimal n is none bytes v range says = let h = kind_is bytes v n says in let both : decimal_kind ≡ kind_of v = sym is ∙ h in absurd cc

-- ---- strings and vectors

text_kind : {k c : ℕ} → IsTextKind k → k ≡ c → c < 7 → ⊥
text_kind (inl e) h less = omega (arith, e, h, less)
text_kind (inr (inl e)) h less = omega (arith, e, h, less)
text_kind (inr (inr e)) h less = omega (arith, e, h, less)

pub no_text : (bytes : List ℕ) (n : TapeNode) → IsTextKind n.kind → ((text : List ℕ) → IsTextKind n.kind → n ≡ long_node n.kind n.instruction n.number (length text) → LiesAt bytes n.number text → (n.kind ≡ unicode_kind → IsUtf8 text) → ⊥) → SaysNoValue bytes n
no_text bytes n is none None range says = text_kind is (ap (λ (m : TapeNode). m.kind) says) (omega arith)
no_text bytes n is none (Some (Ascii t)) range says = let e = kind_is bytes (Ascii t) n says in none t is (says.0 ∙ ap (λ k. long_node k n.instruction n.number (length t)) (sym e)) says.1 (λ h. absurd (omega (arith, e, h)))
no_text bytes n is none (Some (Unicode t)) range says = let e = kind_is bytes (Unicode t) n says in none t is (says.0 ∙ ap (λ k. long_node k n.instruction n.number (length t)) (sym e)) says.1 (λ h. range.1)
no_text bytes n is none (Some (Bytes t)) range says = let e = kind_is bytes (Bytes t) n says in none t is (says.0 ∙ ap (λ k. long_node k n.instruction n.number (length t)) (sym e)) says.1 (λ h. absurd (omega (arith, e, h)))
no_text bytes n is none (Some (U32 k)) range says = text_kind is (kind_is bytes (U32 k) n says) (omega arith)
no_text bytes n is none (Some (U64 k)) range says = text_kind is (kind_is bytes (U64 k) n says) (omega arith)
no_text bytes n is none (Some (I32 k)) range says = text_kind is (kind_is bytes (I32 k) n says) (omega arith)
no_text bytes n is none (Some (I64 k)) range says = text_kind is (kind_is bytes (I64 k) n says) (omega arith)
no_text bytes n is none (Some (Decimal e m)) range says = text_kind is (kind_is bytes (Decimal e m) n says) (omega arith)

-- two texts of one length at one place are the same
pub one_text : (bytes : List ℕ) (place : ℕ) (s t : List ℕ) → length s ≡ length t → LiesAt bytes place s → LiesAt bytes place t → s ≡ t
one_text bytes place s t same a b =
    let front = same_fronts a.before b.before (s ++ a.behind) (t ++ b.behind) (sym a.at ∙ b.at) (sym a.whole ∙ b.whole) in
    (same_fronts s t a.behind b.behind same front.1).0

says_kind : (k : ℕ) (bytes : List ℕ) (n : TapeNode) (units : List ℕ) → IsTextKind k → SaysText k bytes units n → Says bytes (tells (Some (text_of k units))) n
says_kind k bytes n units (inl e) says = rw e (rw e at says)
says_kind k bytes n units (inr (inl e)) says = rw e (rw e at says)
says_kind k bytes n units (inr (inr e)) says = rw e (rw e at says)

pub says_text : (bytes : List ℕ) (n : TapeNode) (units : List ℕ) → IsTextKind n.kind → n ≡ long_node n.kind n.instruction n.number n.length → LiesAt bytes n.number units → length units ≡ n.length → Says bytes (tells (Some (text_of n.kind units))) n
says_text bytes n units kind is lies long = says_kind n.kind bytes n units kind (is ∙ ap (λ l. long_node n.kind n.instruction n.number l) (sym long), lies)

-- what is read of a string's node
pub text_read : {E : Type 0} (bytes : List ℕ) (n : TapeNode) (units : List ℕ) → IsTextKind n.kind → n ≡ long_node n.kind n.instruction n.number n.length → LiesAt bytes n.number units → length units ≡ n.length → (r : Result (Option Scalar) E)
    → IfOk r (λ read. MatchOption read (IsNoText n.kind units) (λ v. v ≡ text_of n.kind units)) → IfOk r (λ read. MatchOption read (SaysNoValue bytes n) (λ v. Says bytes (tells (Some v)) n))
text_read bytes n units kind is lies long (Ok None) h = no_text bytes n kind (λ text same e there utf8.
    let long_text : length text ≡ length units = sym (ap (λ (m : TapeNode). m.length) e) ∙ sym long in
    h.1 (subst IsUtf8 (one_text bytes n.number text units long_text there lies) (utf8 h.0)))
text_read bytes n units kind is lies long (Ok (Some v)) h = rw h (says_text bytes n units kind is lies long)
text_read bytes n units kind is lies long (Err f) h = tt

-- ---- all kinds

-- none of the kinds of numbers
pub no_number : (n : TapeNode) → (n.kind ≡ uint32_kind → ⊥) × (n.kind ≡ uint64_kind → ⊥) → (n.kind ≡ int32_kind → ⊥) × (n.kind ≡ int64_kind → ⊥) → (n.kind ≡ decimal_kind → ⊥) → (IsTextKind n.kind → ⊥) → SaysNone n
no_number n a b c d bytes (U32 k) range says = a.0 (kind_is bytes (U32 k) n says)
no_number n a b c d bytes (U64 k) range says = a.1 (kind_is bytes (U64 k) n says)
no_number n a b c d bytes (I32 k) range says = b.0 (kind_is bytes (I32 k) n says)
no_number n a b c d bytes (I64 k) range says = b.1 (kind_is bytes (I64 k) n says)
no_number n a b c d bytes (Decimal e m) range says = c (kind_is bytes (Decimal e m) n says)
no_number n a b c d bytes (Ascii t) range says = d (inl (kind_is bytes (Ascii t) n says))
no_number n a b c d bytes (Unicode t) range says = d (inr (inl (kind_is bytes (Unicode t) n says)))
no_number n a b c d bytes (Bytes t) range says = d (inr (inr (kind_is bytes (Bytes t) n says)))

-- a node that says neither that there is none nor a value
pub neither : (bytes : List ℕ) (n : TapeNode) → (Says bytes (tells None) n → ⊥) → SaysNone n → SaysNoValue bytes n
neither bytes n absent none None range says = absent says
neither bytes n absent none (Some v) range says = none bytes v range says
