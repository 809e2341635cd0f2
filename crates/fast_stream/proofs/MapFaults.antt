-- The faults of a presence map, as reading answers them.
use Rattle.fast_stream.proofs.Common.{◌≡◌, ℕ, zero, suc, ◌<◌, Bool, true, false, List, [], ◌∷◌, take, Result, Ok, Err, refl, subst, arith, nat_le, if◌then◌else◌, HasNoStop, groups, bits_of, ◌>>=◌, EntityFault, entity_at, map_at, WireFault, fault_given}

abbrev Entity : Type 0
Entity = List ℕ × List ℕ

abbrev as_entity : List ℕ → List ℕ → Result Entity WireFault
as_entity e rest = Ok (e, rest)

abbrev with_byte : ℕ → Result Entity WireFault → Result Entity WireFault
with_byte b r = r >>= λ t. as_entity (b ∷ t.0) t.1

one_more : (bytes : List ℕ) (b : ℕ) → b < 128 → HasNoStop bytes → HasNoStop (b ∷ bytes)
one_more bytes b low h zero inside = low
one_more bytes b low h (suc k) inside = h k (omega arith)

longer : (limit b : ℕ) (bs : List ℕ) (f : WireFault) → b < 128 → EntityFault limit bs 0 f → EntityFault (suc limit) (b ∷ bs) 0 f
longer limit b bs WireFault.NeedMore low h = (let short = h.0 in omega arith, one_more bs b low h.1)
longer limit b bs WireFault.TooLong low h = (let long = h.0 in omega arith, one_more (take limit bs) b low h.1)
longer limit b bs WireFault.Range low h = h
longer limit b bs WireFault.NotUtf8 low h = h
longer limit b bs WireFault.Memory low h = h

-- what follows the first byte was refused so
abbrev Later : ℕ → List ℕ → Type 0
Later limit bs = (g : WireFault) → entity_at limit bs ≡ Err g → EntityFault limit bs 0 g

behind_byte : (limit b : ℕ) (bs : List ℕ) (f : WireFault) → Later limit bs → b < 128 → (r : Result Entity WireFault) → entity_at limit bs ≡ r → with_byte b r ≡ Err f → EntityFault (suc limit) (b ∷ bs) 0 f
behind_byte limit b bs f later low (Ok x) h e = absurd cc
behind_byte limit b bs f later low (Err g) h e =
    let same : g ≡ f = cc in
    subst (λ (y : WireFault). EntityFault (suc limit) (b ∷ bs) 0 y) same (longer limit b bs g low (later g h))

at_byte : (limit b : ℕ) (bs : List ℕ) (f : WireFault) → Later limit bs → (t : Bool) → nat_le 128 b ≡ t
    → (if t then as_entity (b ∷ []) bs else with_byte b (entity_at limit bs)) ≡ Err f → EntityFault (suc limit) (b ∷ bs) 0 f
at_byte limit b bs f later true h e = absurd cc
at_byte limit b bs f later false h e =
    let low : b < 128 = grind (arith, h) in
    behind_byte limit b bs f later low (entity_at limit bs) refl e

pub entity_refused : (limit : ℕ) (bytes : List ℕ) (f : WireFault) → entity_at limit bytes ≡ Err f → EntityFault limit bytes 0 f
unfolding entity_at
entity_refused zero bytes f e =
    let same : WireFault.TooLong ≡ f = cc in
    subst (λ (y : WireFault). EntityFault zero bytes 0 y) same (omega arith, λ k inside. absurd (omega arith))
entity_refused (suc limit) [] f e =
    let same : WireFault.NeedMore ≡ f = cc in
    subst (λ (y : WireFault). EntityFault (suc limit) [] 0 y) same (omega arith, λ k inside. absurd (omega arith))
entity_refused (suc limit) (b ∷ bs) f e = at_byte limit b bs f (entity_refused limit bs) (nat_le 128 b) refl e

abbrev as_bits : Entity → Result (List Bool × List ℕ) WireFault
as_bits t = Ok (bits_of (groups t.0), t.1)

map_stopped : (bytes : List ℕ) (f : WireFault) (r : Result Entity WireFault) → entity_at 256 bytes ≡ r → (r >>= as_bits) ≡ Err f → EntityFault 256 bytes 0 f
map_stopped bytes f (Ok x) h e = absurd cc
map_stopped bytes f (Err g) h e = let same : g ≡ f = cc in subst (λ (y : WireFault). EntityFault 256 bytes 0 y) same (entity_refused 256 bytes g h)

-- what reading a map refuses is the map's entity
pub map_refused : (bytes : List ℕ) (f : WireFault) → map_at bytes ≡ Err f → EntityFault 256 bytes 0 f
unfolding map_at
map_refused bytes f e = map_stopped bytes f (entity_at 256 bytes) refl e

-- and where the entity is refused reading is
pub map_faulty : (bytes : List ℕ) (f : WireFault) → EntityFault 256 bytes 0 f → map_at bytes ≡ Err f
unfolding map_at
map_faulty bytes f h = rw (fault_given 256 bytes 0 f (omega arith) h) refl

pub entity_faulty : (limit : ℕ) (bytes : List ℕ) (f : WireFault) → EntityFault limit bytes 0 f → entity_at limit bytes ≡ Err f
entity_faulty limit bytes f h = fault_given limit bytes 0 f (omega arith) h
