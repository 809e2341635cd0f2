use Rattle.fast_written.proofs.Common.{◌≡◌, ◌+◌, ◌*◌, drop, length, map, items_in, items_tokens, items_view, json_tokens, read_items, value_view, written_of}
use Rattle.fast_written.proofs.JsonReading.{behind}
use Rattle.fast_written.proofs.from_data.+reads.Given as goal

-- how much JSON there is, and then how far an instruction's reading is
abbrev pub decreases-read_one : goal.decreases-read_one
decreases-read_one l = 4 * length (json_tokens (value_view l.value.now)) + 3

abbrev pub decreases-read_group : goal.decreases-read_group
decreases-read_group l = 4 * length (json_tokens (value_view l.object.now)) + 2

abbrev pub decreases-read_sequence : goal.decreases-read_sequence
decreases-read_sequence l = 4 * length (json_tokens (value_view l.object.now)) + 2

abbrev pub decreases-read_members : goal.decreases-read_members
decreases-read_members l = 4 * length (json_tokens (value_view l.object.now)) + 1

abbrev pub decreases-read_all : goal.decreases-read_all
decreases-read_all l = 4 * length (json_tokens (value_view l.list.now)) + 3

abbrev pub decreases-read_values : goal.decreases-read_values
decreases-read_values l = 4 * length (items_tokens (items_view l.values.now)) + 3

abbrev pub invariant-read_values-loop-value : goal.invariant-read_values-loop-value
invariant-read_values-loop-value l = behind (map written_of l.instructions.items) (read_items (items_in (drop l.value-index l.values)) l.next) ≡ read_items (items_in l.values) l.fn.number
