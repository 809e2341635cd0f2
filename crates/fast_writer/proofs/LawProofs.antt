-- Canonical bytes are bytes of any form, at each level.
use Rattle.fast_writer.proofs.Common.{ℕ, Bool, List, Level, Usual, Strict, shortest_map_begins, none_set, Resolved, Form, IsBest, best_at_level, Content, MapAt, Carries, carries_weaker, IsShortestMap, IsCanonical}
use Rattle.std.specs.FinMap as map

shortest_map_at : (level : Level) (bits left : List Bool) (bytes : List ℕ) → IsShortestMap bits left bytes → MapAt level bits left bytes
shortest_map_at Usual bits left bytes h = h.form
shortest_map_at Strict bits left bytes h = ((shortest_map_begins bytes bits h.form h.least, h.form), none_set left h.asked)

pub canonical_carries : (level : Level) (set : List Resolved) (messages : List Content) (bytes : List ℕ) → IsCanonical set messages bytes → Carries level set bytes messages
canonical_carries level set messages bytes h =
    (h.0, carries_weaker IsBest (Form level) IsShortestMap (MapAt level) (best_at_level level) (shortest_map_at level) set messages map.empty bytes h.0 h.1)
