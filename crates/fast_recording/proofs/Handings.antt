-- What an output made, on its way into the lines of a packet.
use Rattle.std.proofs.Common.{◌≡◌, ℕ, List, [], ◌++◌, append-nil, Option, None, Some, refl, ap, sym, subst, ◌∙◌}
use Rattle.fast_dictionary.specs.declared.entries.Entries.{Ghosts}
use Rattle.fast_walk.specs.declared.receiver.Receiver.{Ghosts as Receiving}
use Rattle.fast_machine.specs.declared.machine.Machine.{Machine}
use Rattle.fast_io.specs.Traffic.{Taken}
use Rattle.fast_pass.specs.Relays.{HandsOn, Making}
use Rattle.fast_recording.specs.Handing.{WritesFront}
use Rattle.fast_recording.specs.PacketLines.{Writes}
use Rattle.fast_recording.specs.declared.packet_lines.PacketLines.{PacketLines}
use Rattle.fast_recording.proofs.Labels.{part_of_more, part_on}

-- a front of what waited is written, and a write of the next bytes failed, or all that was to follow it
pub front_fails : {x y : PacketLines} {a b c : Option (List ℕ)} (waited front waits ready rest pushed : List ℕ) → waited ≡ front ++ waits → waits ≡ ready ++ rest → pushed ≡ ready → Writes x y a b front → WritesFront y b c pushed → WritesFront x a c waited
front_fails {x = x} {y = y} {a = a} {b = b} {c = c} waited front waits ready rest pushed whole parts same w t =
    let all : pushed ++ rest ≡ waits = ap (λ (xs : List ℕ). xs ++ rest) same ∙ sym parts in
    let more : WritesFront y b c waits = subst (λ (xs : List ℕ). WritesFront y b c xs) all (part_of_more y b c pushed rest t) in
    subst (λ (xs : List ℕ). WritesFront x a c xs) (sym whole) (part_on waits w more)

-- what is handed on goes behind what was
pub hands_at : {O E : Type 0} {receiver : Receiving O} {entries : Ghosts E} {waiting : O → List ℕ} {makes : Making} {old new : Machine O E receiver entries} {more : List ℕ} {n : ℕ} (handed : List ℕ) → HandsOn waiting makes old new None None more n
    → HandsOn waiting makes old new (Some handed) (Some (handed ++ more)) more n
hands_at handed h = record { written = refl; size_is = h.size_is; whole = h.whole; has = h.has; relays = h.relays }

-- or would have been
pub would_hand : (handed waits : List ℕ) → Taken (Some handed) (Some (handed ++ waits)) waits []
would_hand handed waits = record { front = waits; parts = sym (append-nil waits); appended = refl }
