-- What was sent and units of a base, put together.
use Rattle.fast_field.proofs.Common.{◌≡◌, ℕ, ◌+◌, ◌-◌, ◌%◌, ◌<◌, ◌≤◌, ◌⊎◌, true, List, ◌++◌, length, get_or, set, refl, ap, ◌∙◌, inl, inr, arith, length-append, nat_lt, get_or-append_right, set-append_right, length-map, groups, Fails, tail_text, Kind, FieldFault, OrRefused, limited_value, unit_value, units_sent, lt-ltb}
use Rattle.fast_wire.specs.Spans.{IsTail}
use Rattle.fast_field.proofs.ValueFaults.{never, few_made, unit_made}

-- the characters of the last bytes of an entity, where the stop bit was taken off the last
pub last_cleared : (front tail items : List ℕ) (size x : ℕ) → IsTail tail → items ≡ front ++ tail → 0 < length tail → size ≡ length items → x ≡ get_or items (size - 1) x → set items (size - 1) (x % 128) ≡ front ++ groups tail
last_cleared front tail items size x h parts some long read =
    let n = length front in
    let all : size ≡ n + length tail = long ∙ ap length parts ∙ length-append front tail in
    let here : size - 1 - n ≡ length tail - 1 = omega (arith, all) in
    let behind : n ≤ size - 1 = omega (arith, all, some) in
    let last : x ≡ get_or tail (length tail - 1) x =
    read ∙ ap (λ (z : List ℕ). get_or z (size - 1) x) parts ∙ get_or-append_right front tail n (size - 1) x refl behind ∙ ap (λ (k : ℕ). get_or tail k x) here in
    ap (λ (z : List ℕ). set z (size - 1) (x % 128)) parts ∙ set-append_right front tail n (size - 1) (x % 128) refl behind
    ∙ ap (λ (k : ℕ). front ++ set tail k (x % 128)) here ∙ ap (λ (z : List ℕ). front ++ z) (tail_text tail tail (length tail) x h refl some refl last)

-- as many units as there are bytes
pub sent_length : (k : Kind) (sent : List ℕ) → length (units_sent k sent) ≡ length sent
sent_length Kind.Ascii sent = length-map sent (λ b. b % 128)
sent_length k sent = refl

-- ---- where memory was refused, or there are too many units

pub no_memory : (e : FieldFault) (k : Kind) (units : List ℕ) → e ≡ FieldFault.Memory → Fails OrRefused e (limited_value k units)
no_memory e k units refused = inr (refused, never (limited_value k units) (few_made k units))

pub no_copy : (e : FieldFault) (k : Kind) (units : List ℕ) → e ≡ FieldFault.Memory → Fails OrRefused e (unit_value k units)
no_copy e k units refused = inr (refused, never (unit_value k units) (unit_made k units))

pub no_room : (e : FieldFault) (k : Kind) (a b : List ℕ) (m n : ℕ) → length a ≡ m → length b ≡ n → (e ≡ FieldFault.Memory) ⊎ ((e ≡ FieldFault.Limit) × (65535 < m + n)) → Fails OrRefused e (limited_value k (a ++ b))
unfolding limited_value
no_room e k a b m n in_a in_b (inl refused) = no_memory e k (a ++ b) refused
no_room e k a b m n in_a in_b (inr h) =
    let many : nat_lt 65535 (length (a ++ b)) ≡ true = lt-ltb 65535 (length (a ++ b)) (omega (arith, length-append a b, in_a, in_b, h.1)) in
    rw (many, h.0) (inl refl)
