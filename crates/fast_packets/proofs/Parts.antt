-- A list that begins with a packet parts at one place.
use Rattle.std.proofs.Common.{List, ℕ, [], ◌++◌, ◌+◌, ◌≡◌, length, sym, ap, ◌∙◌, arith}
use Rattle.std.specs.Prelude.{take, drop, Ok}
use Rattle.std.proofs.lemmas.List.{append_assoc, length-append}
use Rattle.std.proofs.Math.Seq.{drop-append_seam, take-append_seam}
use Rattle.fast_wire.proofs.Readers.{ok_is}
use Rattle.fast_wire.specs.declared.level.Level.{Level}
use Rattle.fast_stream.specs.declared.fault.Cause.{Cause}
use Rattle.fast_stream.specs.Blocks.{size_at}
use Rattle.fast_stream.proofs.BlockSizes.{size_again}
use Rattle.fast_packets.specs.Recordings.{Packet}

-- lists of one length in front of others
pub fronts : (x v y w : List ℕ) → length x ≡ length v → x ++ y ≡ v ++ w → (x ≡ v) × (y ≡ w)
fronts x v y w same e = (
  sym (take-append_seam x y) ∙ ap (take (length x)) e ∙ ap (λ n. take n (v ++ w)) same ∙ take-append_seam v w,
  sym (drop-append_seam x y) ∙ ap (drop (length x)) e ∙ ap (λ n. drop n (v ++ w)) same ∙ drop-append_seam v w,
)

-- the size of a packet is read, whatever is behind it
packet_read : (level : Level) (x s y : List ℕ) → Packet level x s → size_at level (x ++ y) ≡ Ok (length s, s ++ y)
packet_read level x s y p =
    ap (λ (z : List ℕ). size_at level (z ++ y)) p.parts ∙ ap (size_at level) (append_assoc p.size s y) ∙ size_again level p.size (s ++ y) (length s) p.size_is p.some

pub parts_once : (level : Level) (x y s v w t : List ℕ) → Packet level x s → Packet level v t → x ++ y ≡ v ++ w → (s ≡ t) × (y ≡ w)
parts_once level x y s v w t p q e =
    let read = sym (packet_read level x s y p) ∙ ap (size_at level) e ∙ packet_read level v t w q in
    let same = ok_is {F = Cause} (length s, s ++ y) (length t, t ++ w) read in
    fronts s t y w (ap (λ r. r.0) same) (ap (λ r. r.1) same)

-- a packet is not empty
pub some_bytes : (level : Level) (x s y : List ℕ) → Packet level x s → x ++ y ≡ [] → ⊥
some_bytes level x s y p e =
    let whole : length x + length y ≡ 0 = sym (length-append x y) ∙ ap length e in
    let packet : length x ≡ length p.size + length s = ap length p.parts ∙ length-append p.size s in
    omega (arith, p.some, whole, packet)
