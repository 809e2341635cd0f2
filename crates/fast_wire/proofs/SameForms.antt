-- A form of a given length is one.
use Rattle.fast_wire.proofs.Common.{◌≡◌, ℕ, ◌+◌, ◌*◌, ◌%◌, ◌^◌, ◌<◌, List, [], ◌∷◌, length, sym, ap, ◌∙◌, arith, ap₂, pow-zero, same_from_place, length-map, IsEntity, groups, unsigned_of, IsUnsigned}
use Rattle.fast_wire.proofs.Numbers.{number_bound}

-- two entities of one length that spell one number are the same bytes
pub same_bytes : (b c : List ℕ) → IsEntity b → IsEntity c → length b ≡ length c → unsigned_of b ≡ unsigned_of c → b ≡ c
same_bytes [] c hb hc long e = absurd hb
same_bytes (x ∷ xs) [] hb hc long e = absurd hc
same_bytes (x ∷ []) (y ∷ []) hb hc long e =
    let same : x ≡ y = omega (arith, hb.0, hb.1, hc.0, hc.1, pow-zero 128) in ap (λ z. z ∷ []) same
same_bytes (x ∷ []) (y ∷ y' ∷ ys) hb hc long e = absurd (omega arith)
same_bytes (x ∷ x' ∷ xs) (y ∷ []) hb hc long e = absurd (omega arith)
same_bytes (x ∷ x' ∷ xs) (y ∷ y' ∷ ys) hb hc long e =
    let shorter : length (x' ∷ xs) ≡ length (y' ∷ ys) = omega arith in
    let lx : length (groups (x' ∷ xs)) ≡ length (x' ∷ xs) = length-map (x' ∷ xs) (λ b. b % 128) in
    let ly : length (groups (y' ∷ ys)) ≡ length (x' ∷ xs) = length-map (y' ∷ ys) (λ b. b % 128) ∙ sym shorter in
    let w = 128 ^ length (x' ∷ xs) in
    let bx : unsigned_of (x' ∷ xs) < w = number_bound (x' ∷ xs) in
    let by : unsigned_of (y' ∷ ys) < w = rw shorter (number_bound (y' ∷ ys)) in
    let ex : unsigned_of (x ∷ x' ∷ xs) ≡ x % 128 * w + unsigned_of (x' ∷ xs) = ap (λ n. x % 128 * 128 ^ n + unsigned_of (x' ∷ xs)) lx in
    let ey : unsigned_of (y ∷ y' ∷ ys) ≡ y % 128 * w + unsigned_of (y' ∷ ys) = ap (λ n. y % 128 * 128 ^ n + unsigned_of (y' ∷ ys)) ly in
    let parts = same_from_place (x % 128) (unsigned_of (x' ∷ xs)) (y % 128) (unsigned_of (y' ∷ ys)) w bx by (sym ex ∙ e ∙ ey) in
    let head : x ≡ y = let p = parts.0 in omega (arith, hb.0, hc.0) in
    ap₂ (λ z zs. z ∷ zs) head (same_bytes (x' ∷ xs) (y' ∷ ys) hb.1 hc.1 shorter parts.1)

pub one_form : (v : ℕ) (b c : List ℕ) → IsUnsigned b v → IsUnsigned c v → length b ≡ length c → b ≡ c
one_form v b c hb hc long = same_bytes b c hb.entity hc.entity long (sym hb.value ∙ hc.value)
