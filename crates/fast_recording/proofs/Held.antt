-- Few bytes of a packet that is not whole are held.
use Rattle.std.proofs.Common.{List, ℕ, ◌<◌, ◌≤◌, ◌≡◌, inl, inr, Option, Some, None, take, drop, length, sym, ap, ◌∙◌, arith, length-append}
use Rattle.std.proofs.lemmas.List.{take-append-drop}
use Rattle.fast_wire.specs.Reading.{EntityFault}
use Rattle.fast_wire.specs.declared.fault.WireFault.{WireFault}
use Rattle.fast_wire.specs.declared.level.Level.{Level}
use Rattle.fast_wire.specs.declared.level.Level.TheVariants.{Strict, Usual}
use Rattle.fast_stream.specs.declared.fault.Cause.{Cause}
use Rattle.fast_stream.specs.Blocks.{OverlongSize}
use Rattle.fast_stream.specs.Faults.{cause_of_wire}
use Rattle.fast_packets.proofs.Sizes.{size_form}
use Rattle.fast_packets.specs.Outcomes.{PacketSizeFault}
use Rattle.fast_recording.specs.Begins.{IsOpenAt}

entity_few : (bytes : List ℕ) (f : WireFault) → EntityFault 10 bytes 0 f → Cause.Truncated ≡ cause_of_wire f → length bytes < 10
entity_few bytes WireFault.NeedMore h e = let less = h.0 in omega (arith, less)
entity_few bytes WireFault.TooLong h e = absurd cc
entity_few bytes WireFault.Range h e = absurd h
entity_few bytes WireFault.NotUtf8 h e = absurd h
entity_few bytes WireFault.Memory h e = absurd h

overlong_few : (level : Level) (bytes : List ℕ) → OverlongSize level bytes Cause.Truncated → length bytes < 10
overlong_few Usual bytes h = absurd h
overlong_few Strict bytes h = let e = h.0 in absurd cc

-- of a size that is not whole
size_few : (level : Level) (bytes : List ℕ) → PacketSizeFault level bytes Cause.Truncated → length bytes < 10
size_few level bytes (inl (inl h)) = entity_few bytes h.0 h.1 h.2
size_few level bytes (inl (inr (inl h))) = overlong_few level bytes h
size_few level bytes (inl (inr (inr h))) = let e = h.0 in absurd cc
size_few level bytes (inr h) = let e = h.0 in absurd cc

pub held_few : (level : Level) (bytes : List ℕ) (behind : Option ℕ) → IsOpenAt level bytes behind → length bytes ≤ 65544
held_few level bytes None (inl none) = omega (arith, ap (λ (z : List ℕ). length z) none)
held_few level bytes None (inr h) = let less = size_few level bytes h.1 in omega (arith, less)
held_few level bytes (Some behind) h =
    let whole = ap (λ (z : List ℕ). length z) (sym (take-append-drop behind bytes)) ∙ length-append (take behind bytes) (drop behind bytes) in
    let size = (size_form level (take behind bytes) h.room h.size_is).short in
    omega (arith, whole, size, h.few, h.short)
