-- An entity with no needless group in front is the shortest form of its number, so a number that stands in it is copied.
use Rattle.fast_wire.proofs.FormSizes.{signed_sizes, unsigned_sizes}
use Rattle.fast_wire.proofs.NotOverlong.{without_sign, without_zero}
use Rattle.fast_take.proofs.Common.{◌≡◌, ℕ, ℤ, pos, negsuc, zero, suc, ◌+◌, ◌-◌, ◌%◌, ◌≤◌, Bool, true, false, List, [], ◌∷◌, length, drop, slice_range, refl, sym, ◌∙◌, not, arith, inl, inr, IsTrue, cases_lt, IsEntity, IsUnsigned, IsSigned, overlong_unsigned, overlong_signed, sent_signed, IsBytes, Usual, Value, is_integer, of_integer, Kind, Presence, Mandatory, Optional, ShortestSigned, ShortestUnsigned, ShortestWhole, integer_at, SpellsInteger, SpellsIntegerUsually, overlong_number, is_unsigned, found_here, integer_forms, Spelt, le-leb, lt-ltb}

-- ---- a form that is longer than another has a needless group: so many in front of the other are the same bytes

module _ {V : Type 0} (Form : List ℕ → V → Type 0) (overlong : List ℕ → Bool) (v : V) (one : (b c : List ℕ) → Form b v → Form c v → length b ≡ length c → b ≡ c)
    (more : (b : List ℕ) → Form b v → length b ≤ 9 → (x : ℕ) × Form (x ∷ b) v × (overlong (x ∷ b) ≡ true)) where
  longer : (n : ℕ) (b : List ℕ) → Form b v → n + length b ≤ 9 → (c : List ℕ) × Form c v × (overlong c ≡ true) × (length c ≡ suc n + length b)
  longer zero b f le = let g = more b f (omega arith) in (g.0 ∷ b, g.1, g.2, omega arith)
  longer (suc n) b f le =
      let h = longer n b f (omega arith) in
      let g = more h.0 h.1 (omega (arith, h.3)) in
      (g.0 ∷ h.0, g.1, g.2, omega (arith, h.3))

  least : (b : List ℕ) → Form b v → length b ≤ 10 → overlong b ≡ false → (other : List ℕ) → Form other v → length b ≤ length other
  least b f few short other o = elim (cases_lt (length other) (length b)) [
    | inl less ↦
        let h = longer (length b - suc (length other)) other o (omega arith) in
        let same : b ≡ h.0 = one b h.0 f h.1 (omega (arith, h.3)) in
        absurd (let long : overlong b ≡ true = rw same h.2 in cc)
    | inr le ↦ le
  ]

more_unsigned : (v : ℕ) (b : List ℕ) → IsUnsigned b v → length b ≤ 9 → (x : ℕ) × IsUnsigned (x ∷ b) v × (overlong_unsigned (x ∷ b) ≡ true)
more_unsigned v [] f le = absurd f.entity
more_unsigned v (c ∷ bs) f le = (0, record { entity = (omega arith, f.entity); short = omega arith; value = f.value ∙ sym (without_zero 0 (c ∷ bs) refl) }, refl)

more_signed : (v : ℤ) (b : List ℕ) → IsSigned b v → length b ≤ 9 → (x : ℕ) × IsSigned (x ∷ b) v × (overlong_signed (x ∷ b) ≡ true)
more_signed v [] f le = absurd f.entity
more_signed v (c ∷ bs) f le = elim (cases_lt (c % 128) 64) [
  | inl low ↦
      let long : overlong_signed (0 ∷ c ∷ bs) ≡ true = rw (lt-ltb (c % 128) 64 low) refl in
      (0, record { entity = (omega arith, f.entity); short = omega arith; value = f.value ∙ sym (without_sign 0 c bs long) }, long)
  | inr high ↦
      let long : overlong_signed (127 ∷ c ∷ bs) ≡ true = le-leb 64 (c % 128) high in
      (127, record { entity = (omega arith, f.entity); short = omega arith; value = f.value ∙ sym (without_sign 127 c bs long) }, long)
]

unsigned_least : (b : List ℕ) (v : ℕ) → IsUnsigned b v → overlong_unsigned b ≡ false → (other : List ℕ) → IsUnsigned other v → length b ≤ length other
unsigned_least b v f = least IsUnsigned overlong_unsigned v (λ b c. unsigned_sizes.one b c v) (more_unsigned v) b f (omega (arith, f.short))

signed_least : (b : List ℕ) (v : ℤ) → IsSigned b v → overlong_signed b ≡ false → (other : List ℕ) → IsSigned other v → length b ≤ length other
signed_least b v f = least IsSigned overlong_signed v (λ b c. signed_sizes.one b c v) (more_signed v) b f (omega (arith, f.short))

-- ---- a number that stands in the bytes

pub shortest_unsigned : (p : Presence) (n : ℕ) (b : List ℕ) → SpellsIntegerUsually true p b (Value (pos n)) → overlong_unsigned b ≡ false → ShortestUnsigned p n b
shortest_unsigned Mandatory n b f short = record { form = f; least = λ other o. unsigned_least b n f short other o }
shortest_unsigned Optional n b f short = record { form = f; least = λ other o. unsigned_least b (n + 1) f short other o }

pub shortest_signed : (p : Presence) (z : ℤ) (b : List ℕ) → SpellsIntegerUsually false p b (Value z) → overlong_signed b ≡ false → ShortestSigned p z b
shortest_signed Mandatory z b f short = record { form = f; least = λ other o. signed_least b z f short other o }
shortest_signed Optional z b f short = record { form = f; least = λ other o. signed_least b (sent_signed (Value z)) f short other o }

no_sign_below : (p : Presence) (n : ℕ) (b : List ℕ) → SpellsIntegerUsually true p b (Value (negsuc n)) → ⊥
no_sign_below Mandatory n b f = f
no_sign_below Optional n b f = f

pub shortest_whole : (k : Kind) (p : Presence) (z : ℤ) (b : List ℕ) → IsTrue (is_integer k) → SpellsIntegerUsually (is_unsigned k) p b (Value z) → overlong_number (is_unsigned k) b ≡ false → ShortestWhole p (of_integer k z) b
shortest_whole Kind.UInt32 p (pos n) b i f short = shortest_unsigned p n b f short
shortest_whole Kind.UInt32 p (negsuc n) b i f short = absurd (no_sign_below p n b f)
shortest_whole Kind.UInt64 p (pos n) b i f short = shortest_unsigned p n b f short
shortest_whole Kind.UInt64 p (negsuc n) b i f short = absurd (no_sign_below p n b f)
shortest_whole Kind.Int32 p z b i f short = shortest_signed p z b f short
shortest_whole Kind.Int64 p z b i f short = shortest_signed p z b f short
shortest_whole k p z b i f short = absurd cc

pub entity_in : (u : Bool) (p : Presence) (z : ℤ) (b : List ℕ) → SpellsIntegerUsually u p b (Value z) → IsEntity b
entity_in true Mandatory (pos n) b f = f.entity
entity_in true Optional (pos n) b f = f.entity
entity_in true p (negsuc n) b f = absurd (no_sign_below p n b f)
entity_in false Mandatory z b f = f.entity
entity_in false Optional z b f = f.entity

pub standing : (u : Bool) (p : Presence) (bytes : List ℕ) (at next : ℕ) (z : ℤ) → IsBytes (drop at bytes) → at ≤ next → next ≤ length bytes → Spelt u p (drop at bytes) z (drop next bytes) → SpellsIntegerUsually u p (slice_range bytes at next) (Value z)
standing u p bytes at next z fits le within h = (found_here (integer_at Usual u p) (SpellsInteger Usual u p) (integer_forms Usual u p) bytes at (Value z) next fits le within h).2

pub standing_entity : (u : Bool) (p : Presence) (bytes : List ℕ) (at next : ℕ) (z : ℤ) → IsBytes (drop at bytes) → at ≤ next → next ≤ length bytes → Spelt u p (drop at bytes) z (drop next bytes) → IsEntity (slice_range bytes at next)
standing_entity u p bytes at next z fits le within h = entity_in u p z (slice_range bytes at next) (standing u p bytes at next z fits le within h)

pub not_overlong : (b : Bool) → not b ≡ true → b ≡ false
not_overlong true h = sym h
not_overlong false h = refl
