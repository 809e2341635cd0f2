use Rattle.std.proofs.Common.{◌≡◌, true, ℕ, List, inr, length, sym, subst, ◌∙◌}
use Rattle.fast_wire.specs.Integer.{IsUnsigned}
use Rattle.fast_wire.specs.Writing.{IsShortest}
use Rattle.fast_recording.proofs.Labels.{part_of_more}
use Rattle.fast_recording.proofs.Machines.{puts_behind, puts_of, size_in_front}
use Rattle.fast_recording.proofs.packet.put_packet.Goals as goal

pub returns-then-not-is_sized-clause-puts : goal.returns-then-not-is_sized-clause-puts
returns-then-not-is_sized-clause-puts g c = puts_of g.O.Output.waiting g.O.Output.makes _ _ _ _ _ _ c.hand_on.result g.O.PacketOutput.sized (sym c.is_sized.ensures ∙ c.if-not-is_sized.true) c.hand_on.ensures.hands c.hand_on.ensures.empty

pub returns-in-Err-push_all-clause-puts : goal.returns-in-Err-push_all-clause-puts
returns-in-Err-push_all-clause-puts g c =
    let sized : g.O.PacketOutput.sized ≡ true = sym c.is_sized.ensures ∙ c.if-not-is_sized.false in
    let waits = g.O.Output.waiting c.args.machine.now.receiver in
    let ready = c.finished.ensures.bytes ∙ g.met.O.PacketOutput.whole c.args.machine.now.receiver sized in
    let size = c.write_unsigned.new.out.items in
    let w = size_in_front c.clear.ensures.items c.in-Ok.ensures.ok in
    let leads : IsShortest IsUnsigned size (length waits) = subst (λ (xs : List ℕ). IsShortest IsUnsigned size (length xs)) ready w in
    let part = rw (c.deref.ensures.value) at c.in-Err-push_all.ensures.part in
    rw (sized) (inr (size, leads, part_of_more c.args.lines.now _ _ size waits part))

pub returns-clause-puts : goal.returns-clause-puts
returns-clause-puts g c =
    let sized : g.O.PacketOutput.sized ≡ true = sym c.is_sized.ensures ∙ c.if-not-is_sized.false in
    let waits = g.O.Output.waiting c.args.machine.now.receiver in
    let ready = c.finished.ensures.bytes ∙ g.met.O.PacketOutput.whole c.args.machine.now.receiver sized in
    let size = c.write_unsigned.new.out.items in
    let w = size_in_front c.clear.ensures.items c.in-Ok.ensures.ok in
    let leads : IsShortest IsUnsigned size (length waits) = subst (λ (xs : List ℕ). IsShortest IsUnsigned size (length xs)) ready w in
    rw (sized) (puts_behind g.O.Output.waiting g.O.Output.makes _ _ _ _ size c.hand_on-2.result leads (rw (c.deref.ensures.value) at c.in-Ok-push_all.ensures.writes) c.hand_on-2.ensures.hands c.hand_on-2.ensures.empty)
