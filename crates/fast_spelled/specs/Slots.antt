-- The way of the code: each member is put to the first instruction of its name that has none yet.
use Rattle.std.specs.Prelude.{ℕ, if◌then◌else◌, List, [], ◌∷◌, Option, Some, None, option_map, option_and_then}
use Rattle.std.specs.Str.{bytes_eq}
use Rattle.json.specs.Json.{Json, null, Members, no_members, member}
use Rattle.fast_template.specs.Resolved.{Instructions, no_instructions, then_instruction}
use Rattle.fast_stream.specs.Nodes.{Item, Items, no_items, then_item}
use Rattle.fast_spelled.specs.Spelled.{item_by, name_in}

-- what stands for each instruction so far
abbrev pub Slots : Type 0
Slots = List (Option Item)

abbrev pub empty_slots : Instructions → Slots
empty_slots no_instructions = []
empty_slots (then_instruction i is) = None ∷ empty_slots is

-- a member behind its name
abbrev pub filled_first : Instructions → Slots → List ℕ → Json → Option Slots
filled_first (then_instruction i is) (None ∷ slots) name j =
    if bytes_eq name (name_in i) then option_map (λ n. Some n ∷ slots) (item_by i j) else option_map (λ rest. None ∷ rest) (filled_first is slots name j)
filled_first (then_instruction i is) (Some n ∷ slots) name j = option_map (λ rest. Some n ∷ rest) (filled_first is slots name j)
filled_first is slots name j = None

-- in the end what has none is as null
abbrev pub finished : Instructions → Slots → Option Items
finished no_instructions [] = Some no_items
finished (then_instruction i is) (Some n ∷ slots) = option_map (then_item n) (finished is slots)
finished (then_instruction i is) (None ∷ slots) = option_and_then (λ n. option_map (then_item n) (finished is slots)) (item_by i null)
finished is slots = None

-- all members, and the end
abbrev pub filled : Instructions → Slots → Members → Option Items
filled is slots no_members = finished is slots
filled is slots (member k j ms) = option_and_then (λ next. filled is next ms) (filled_first is slots k j)
