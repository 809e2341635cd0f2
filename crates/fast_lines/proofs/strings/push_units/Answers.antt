use Rattle.fast_lines.proofs.Common.{unit_text}
use Rattle.fast_lines.proofs.Written.{flat_map_rest, writes_behind}
use Rattle.fast_lines.proofs.strings.push_units.Goals as goal

pub returns : goal.returns
returns g c =
    rw (flat_map_rest (unit_text g.S.Escape.form) c.args.text.now c.loop-at.at)
    (writes_behind _ _ _ _ _ c.push-2.result c.loop-at.invariant.1 (rw (c.lay_units-end-2.ensures.laid) at c.push-2.ensures))
