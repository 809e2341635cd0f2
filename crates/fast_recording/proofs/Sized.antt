-- Lemmas on sizes, and on the packets behind them.
use Rattle.std.proofs.Common.{List, ℕ, [], ◌∷◌, ◌++◌, ◌+◌, ◌-◌, ◌<◌, ◌≤◌, ◌≡◌, inl, inr, Ok, None, take, drop, length, refl, sym, ap, subst, ◌∙◌, arith, length-append}
use Rattle.std.proofs.Math.Seq.{drop-append_seam, take-add}
use Rattle.std.proofs.lemmas.List.{take-append-drop, length-drop, length-take}
use Rattle.fast_wire.specs.Reader.{IsBytes}
use Rattle.fast_wire.specs.declared.level.Level.{Level}
use Rattle.fast_stream.specs.declared.fault.Cause.{Cause}
use Rattle.fast_stream.specs.Blocks.{IsSize, size_at}
use Rattle.fast_stream.proofs.BlockSizes.{size_found, size_refused}
use Rattle.fast_packets.specs.Recordings.{Packet, packet_limit}
use Rattle.fast_packets.specs.Outcomes.{PacketSizeFault}
use Rattle.fast_packets.proofs.Parts.{fronts}
use Rattle.fast_recording.specs.Begins.{IsOpenAt, IsPacketAt, IsPartAt}
use Rattle.fast_recording.specs.Sizes.{IsNoSize}

pub no_size : (level : Level) (bytes : List ℕ) (c : Cause) → IsBytes bytes → IsNoSize level bytes c → PacketSizeFault level bytes c
no_size level bytes c fits (inl e) = inl (size_refused level bytes c fits e)
no_size level bytes c fits (inr h) =
    let o = size_found level bytes h.1 h.2 fits h.3 in
    inr (h.0, record { between = h.1; front = o.size; back = h.2; parts = o.parts; first = o.opens.0; second = h.4 })

pub size_missing : (level : Level) (bytes : List ℕ) → IsBytes bytes → IsNoSize level bytes Cause.Truncated → IsOpenAt level bytes None
size_missing level [] fits h = inl refl
size_missing level (b ∷ bytes) fits h = inr (omega arith, no_size level (b ∷ bytes) Cause.Truncated fits h)

module _ (level : Level) (bytes : List ℕ) (room behind : ℕ) (fits : IsBytes bytes) (read : size_at level bytes ≡ Ok (room, drop behind bytes)) (within : behind ≤ length bytes) where
  size_long : length (take behind bytes) ≡ behind
  size_long = let all = length-take behind bytes in omega (arith, all, within)

  size_is : IsSize level (take behind bytes) room
  size_is =
      let o = size_found level bytes room (drop behind bytes) fits read in
      let whole = ap (λ (z : List ℕ). length z) o.parts ∙ length-append o.size (drop behind bytes) in
      let rest = length-drop behind bytes in
      let same = fronts o.size (take behind bytes) (drop behind bytes) (drop behind bytes) (omega (arith, whole, rest, size_long, within)) (sym o.parts ∙ sym (take-append-drop behind bytes)) in
      subst (λ (z : List ℕ). IsSize level z room) same.0 o.opens.0

  pub part_at : room ≤ packet_limit → length bytes - behind < room → IsPartAt level bytes behind
  part_at few short = record { room = room; within = within; size_is = size_is; few = few; short = let rest = length-drop behind bytes in omega (arith, rest, short) }

  packet_found : 0 < room → room ≤ packet_limit → room ≤ length bytes - behind → (q : Packet level (take (behind + room) bytes) (drop behind (take (behind + room) bytes))) × (length q.size ≡ behind)
  packet_found some few enough =
      let front = take behind bytes in
      let stream = take room (drop behind bytes) in
      let parts : take (behind + room) bytes ≡ front ++ stream = take-add behind room bytes in
      let seam : drop behind (front ++ stream) ≡ stream = ap (λ (n : ℕ). drop n (front ++ stream)) (sym size_long) ∙ drop-append_seam front stream in
      let stream_is : drop behind (take (behind + room) bytes) ≡ stream = ap (λ (z : List ℕ). drop behind z) parts ∙ seam in
      let rest = length-drop behind bytes in
      let long : length stream ≡ room = length-take room (drop behind bytes) ∙ omega (arith, rest, enough) in
      let p : Packet level (take (behind + room) bytes) stream = record { size = front; parts = parts; size_is = rw (long) size_is; some = omega (arith, some, long); few = omega (arith, few, long) } in
      as_packet (drop behind (take (behind + room) bytes)) stream (sym stream_is) p size_long
    where
      as_packet : (s t : List ℕ) → t ≡ s → (p : Packet level (take (behind + room) bytes) t) → length p.size ≡ behind → (q : Packet level (take (behind + room) bytes) s) × (length q.size ≡ behind)
      as_packet s t e p size = (record { size = p.size; parts = p.parts ∙ ap (λ (z : List ℕ). p.size ++ z) e; size_is = rw (sym e) p.size_is; some = rw (sym e) p.some; few = rw (sym e) p.few }, size)

  pub packet_at : 0 < room → room ≤ packet_limit → room ≤ length bytes - behind → IsPacketAt level (take (behind + room) bytes) behind
  packet_at some few enough = let found = packet_found some few enough in record { packet = found.0; size_is = found.1 }
