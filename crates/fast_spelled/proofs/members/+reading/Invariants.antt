use Rattle.std.proofs.Common.{◌≡◌, ◌≤◌, ◌+◌, ◌++◌, List, None, length, replicate}
use Rattle.json.specs.Token.{Token as SpecToken}
use Rattle.json.specs.Tree.{items_tokens, members_tokens}
use Rattle.json.specs.Json.{Items as Listed, Members}
use Rattle.fast_template.specs.Resolved.{list_of}
use Rattle.fast_spelled.specs.Tokens.{AreFilled, slots_of}
use Rattle.fast_spelled.proofs.Counting.{costs, done_nodes}
use Rattle.fast_spelled.proofs.Steps.{ElementsLeft, MembersLeft}
use Rattle.fast_spelled.proofs.members.+reading.Given as goal

abbrev pub invariant-read_elements-loop-reading : goal.invariant-read_elements-loop-reading
invariant-read_elements-loop-reading l = (length l.reading.reader ≤ length l.fn.reading.reader)
    × ((js : Listed) (rest : List SpecToken) → l.fn.reading.reader ≡ items_tokens js ++ rest
    → ElementsLeft (list_of l.members) js rest l.reading.reader l.elements.items × (l.fn.reading.left ≡ done_nodes l.elements.items + l.reading.left))

abbrev pub decreases-read_elements-loop-reading : goal.decreases-read_elements-loop-reading
decreases-read_elements-loop-reading l = length l.reading.reader

abbrev pub invariant-read_members-loop : goal.invariant-read_members-loop
invariant-read_members-loop l = (l.slots.items ≡ replicate l.counter None) × (l.reading.reader ≡ l.fn.reading.reader) × (l.fn.reading.left ≡ length l.members + l.reading.left)

abbrev pub invariant-read_members-loop-name : goal.invariant-read_members-loop-name
invariant-read_members-loop-name l = (length l.reading.reader ≤ length l.fn.reading.reader) × (length l.slots.items ≡ length l.members)
    × ((ms : Members) (rest : List SpecToken) → l.fn.reading.reader ≡ members_tokens ms ++ rest
    → MembersLeft (list_of l.members) ms rest l.reading.reader l.slots.items × (l.fn.reading.left ≡ costs (slots_of l.slots.items) + l.reading.left))
    × AreFilled l.slots.items l.front

abbrev pub decreases-read_members-loop-name : goal.decreases-read_members-loop-name
decreases-read_members-loop-name l = length l.reading.reader
