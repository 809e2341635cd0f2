use Rattle.std.proofs.Common.{inr, sym, ◌∙◌}
use Rattle.fast_slices.proofs.lines.write.Goals as goal

pub returns : goal.returns
returns c =
    let asks = c.in_ok-numbered.ensures.ok in
    let set = c.in_ok-set.ensures in inr (_, c.in_ok-numbered.numbered, record { way_is = sym c.numbering_of.ensures ∙ asks.0; few = asks.1; loads = set.ok; sound = set.sound }, c.write_with.ensures)
