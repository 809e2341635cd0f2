use Rattle.fast_lines.proofs.Common.{◌≡◌, ◌≤◌, ◌+◌, ◌*◌, ◌++◌, length, take, flat_map, unit_text}
use Rattle.fast_lines.proofs.strings.lay_units.Given as goal

abbrev pub invariant-loop-byte : goal.invariant-loop-byte
invariant-loop-byte g l =
    (l.at ≤ l.next)
    × (l.next ≤ l.at + 6 * l.byte-index)
    × (take l.next l.bytes ≡ take l.at l.fn.bytes ++ flat_map (unit_text g.S.Escape.form) (take l.byte-index l.text))
    × (length l.bytes ≡ length l.fn.bytes)
