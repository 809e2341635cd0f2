use Rattle.fast_wire.proofs.Common.{sym, refl, arith, ◌≡◌, true, groups, bits_of, bit_at, false≢true}
use Rattle.fast_wire.proofs.MapBits.{left_here, left_none}
use Rattle.fast_wire.proofs.bits.LongBits.left_set.Goals as goal

pub returns-then-group_bit : goal.returns-then-group_bit
returns-then-group_bit c =
    let set : bit_at (bits_of (groups c.self.inside.bytes.items)) c.loop-i.i ≡ true = rw (← c.deref.ensures.value) (sym c.if-group_bit.ensures) in
    (λ t. rw (← c.self.view_is) (left_here (bits_of (groups c.self.inside.bytes.items)) c.self.inside.place c.loop-i.i c.loop-i.auto.i set), λ h. refl)

pub returns : goal.returns
returns c =
    (λ t. absurd (false≢true t), λ h. absurd (left_none c.self.inside.bytes.items c.self.inside.place c.loop-i.i (omega arith) c.loop-i.invariant (rw c.self.view_is h)))
