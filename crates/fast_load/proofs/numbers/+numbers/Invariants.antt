use Rattle.fast_load.proofs.Common.{◌≡◌, ◌+◌, drop, list_of, numbered, size_of}
use Rattle.fast_load.proofs.Numbering.{partly}
use Rattle.fast_load.proofs.numbers.+numbers.Given as goal

abbrev pub invariant-number_all-loop-flat : goal.invariant-number_all-loop-flat
invariant-number_all-loop-flat l = goal.unvisited-number_all-loop-flat l
    × (partly l.flats l.flat-index l.next ≡ numbered l.fn.first (list_of l.fn.flats))
    × (l.next + size_of (list_of (drop l.flat-index l.flats)) ≡ l.fn.first + size_of (list_of l.fn.flats))
