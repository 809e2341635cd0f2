-- Packets with a number in their lines, or with none.
use Rattle.std.proofs.Common.{Bool, true, false, List, ℕ, [], refl, ◌≡◌, Option, Result, subst}
use Rattle.fast_wire.specs.declared.level.Level.{Level}
use Rattle.fast_template.specs.Resolved.{Resolved}
use Rattle.fast_stream.specs.declared.fault.Cause.{Cause}
use Rattle.fast_pass.specs.Relays.{Making}
use Rattle.fast_pass.specs.declared.stop.Stop.{Stop}
use Rattle.fast_recording.specs.Made.{number_of, numbering_of}
use Rattle.fast_recording.specs.PacketLines.{lines_of}
use Rattle.fast_recording.specs.Packets.{TakesNumbered, TakesPacket}
use Rattle.fast_recording.specs.declared.packet.Taken.{Taken as PacketTaken}

-- no number stands in nothing
pub nothing_numbered : (numbered : Bool) (number : ℕ) → [] ≡ numbering_of numbered number []
nothing_numbered true number = refl
nothing_numbered false number = refl

module _ (sized : Bool) (makes : Making) (level : Level) (set : List Resolved) (number : ℕ) (t u : Option (List ℕ)) (bytes : List ℕ) (cut : Option Cause) (r : Result PacketTaken Stop) where
  takes_numbered : (numbered : Bool) → TakesPacket (lines_of (number_of numbered number)) sized makes level set t u bytes cut r → TakesNumbered (numbering_of numbered) sized makes level set number t u bytes cut r
  takes_numbered true h = h
  takes_numbered false h = h

  pub numbered_taken : (numbered : Bool) (in_lines : Option ℕ) → in_lines ≡ number_of numbered number → TakesPacket (lines_of in_lines) sized makes level set t u bytes cut r → TakesNumbered (numbering_of numbered) sized makes level set number t u bytes cut r
  numbered_taken numbered in_lines e h = takes_numbered numbered (subst (λ (n : Option ℕ). TakesPacket (lines_of n) sized makes level set t u bytes cut r) e h)
