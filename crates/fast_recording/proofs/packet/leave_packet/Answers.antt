use Rattle.std.proofs.Common.{sym, ◌∙◌}
use Rattle.fast_recording.proofs.Labels.{writes_none}
use Rattle.fast_recording.proofs.Machines.{all_handed, leaves_of}
use Rattle.fast_recording.proofs.packet.leave_packet.Goals as goal

pub returns-in-Ok-clause-leaves : goal.returns-in-Ok-clause-leaves
returns-in-Ok-clause-leaves g c =
    let h = c.in-Ok.ensures.hands.1 in
    let all = all_handed h c.in-Ok.ensures.empty in
    rw (sym c.is_sized.ensures ∙ c.if-is_sized.true) (record { writes = writes_none _ _; empty = c.in-Ok.ensures.empty; has = λ way x. rw (all) (h.has way x) })

pub returns-clause-leaves : goal.returns-clause-leaves
returns-clause-leaves g c = leaves_of g.O.Output.waiting g.O.Output.makes _ _ _ _ _ _ c.hand_on-2.result g.O.PacketOutput.sized (sym c.is_sized.ensures ∙ c.if-is_sized.false) c.hand_on-2.ensures.hands c.hand_on-2.ensures.empty
