use Rattle.fast_lines.proofs.Common.{◌≡◌, ◌++◌, ◌≤◌, ◌-◌, length, take, flat_map, unit_text}
use Rattle.fast_lines.proofs.strings.push_units.Given as goal

abbrev pub invariant-loop-at : goal.invariant-loop-at
invariant-loop-at g l = (l.at ≤ length l.text) × (l.out.items ≡ l.fn.out.items ++ flat_map (unit_text g.S.Escape.form) (take l.at l.text))

abbrev pub decreases-loop-at : goal.decreases-loop-at
decreases-loop-at g l = length l.initial.text - l.at
