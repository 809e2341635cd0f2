use Rattle.fast_show.proofs.Common.{◌≡◌, ◌++◌, ◌≤◌, ◌-◌, length, take, flat_map, written_of, unit_text}
use Rattle.fast_show.proofs.line.Line.put_units.Given as goal

abbrev pub invariant-loop-at : goal.invariant-loop-at
invariant-loop-at g l =
    let form = g.S.Escape.form in
    (l.at ≤ length l.text) × (l.self.led ≡ l.fn.self.led) × (written_of form l.self ≡ written_of form l.fn.self ++ flat_map (unit_text form) (take l.at l.text))

abbrev pub decreases-loop-at : goal.decreases-loop-at
decreases-loop-at g l = length l.initial.text - l.at
