-- Members that are put to the first free instruction of their name stand for what instructions take in their order.
use Rattle.std.proofs.Common.{◌≡◌, ℕ, Bool, true, false, cond, List, ◌∷◌, Option, Some, None, option_map, option_and_then, refl, ap, ◌∙◌}
use Rattle.std.specs.Str.{bytes_eq}
use Rattle.json.specs.Json.{Json, Members, no_members, member}
use Rattle.fast_template.specs.Resolved.{Instruction, Instructions, no_instructions, then_instruction}
use Rattle.fast_stream.specs.Nodes.{Item, then_item}
use Rattle.fast_spelled.specs.Members.{first_named, without_first}
use Rattle.fast_spelled.specs.Spelled.{item_by, items_by, name_in}
use Rattle.fast_spelled.specs.Slots.{Slots, empty_slots, filled_first, filled}

-- an instruction that has something keeps it
kept_on : (i : Instruction) (is : Instructions) (n : Item) (ms : Members) (o : Option Slots) → ((slots : Slots) → filled (then_instruction i is) (Some n ∷ slots) ms ≡ option_map (then_item n) (filled is slots ms))
    → option_and_then (λ next. filled (then_instruction i is) next ms) (option_map (λ rest. Some n ∷ rest) o) ≡ option_map (then_item n) (option_and_then (λ next. filled is next ms) o)
kept_on i is n ms None later = refl
kept_on i is n ms (Some slots) later = later slots

keeps : (i : Instruction) (is : Instructions) (n : Item) (ms : Members) (slots : Slots) → filled (then_instruction i is) (Some n ∷ slots) ms ≡ option_map (then_item n) (filled is slots ms)
keeps i is n no_members slots = refl
keeps i is n (member k j ms) slots = kept_on i is n ms (filled_first is slots k j) (λ next. keeps i is n ms next)

-- nothing comes of nothing
none_then : (o : Option Item) → None ≡ option_and_then (λ n. option_map (then_item n) None) o
none_then None = refl
none_then (Some n) = refl

-- an instruction that has nothing takes the first member of its name
own_member : (i : Instruction) (is : Instructions) (ms : Members) (slots : Slots) (o : Option Item)
    → option_and_then (λ next. filled (then_instruction i is) next ms) (option_map (λ n. Some n ∷ slots) o) ≡ option_and_then (λ n. option_map (then_item n) (filled is slots ms)) o
own_member i is ms slots None = refl
own_member i is ms slots (Some n) = keeps i is n ms slots

other_member : (i : Instruction) (is : Instructions) (ms rest : Members) (o : Option Slots) (first : Option Item)
    → ((slots : Slots) → filled (then_instruction i is) (None ∷ slots) ms ≡ option_and_then (λ n. option_map (then_item n) (filled is slots rest)) first)
    → option_and_then (λ next. filled (then_instruction i is) next ms) (option_map (λ slots. None ∷ slots) o)
    ≡ option_and_then (λ n. option_map (then_item n) (option_and_then (λ next. filled is next rest) o)) first
other_member i is ms rest None first later = none_then first
other_member i is ms rest (Some slots) first later = later slots

step : (i : Instruction) (is : Instructions) (k : List ℕ) (j : Json) (ms : Members) (slots : Slots) (b : Bool)
    → ((next : Slots) → filled (then_instruction i is) (None ∷ next) ms ≡ option_and_then (λ n. option_map (then_item n) (filled is next (without_first (name_in i) ms))) (item_by i (first_named (name_in i) ms)))
    → option_and_then (λ next. filled (then_instruction i is) next ms) (cond b (option_map (λ n. Some n ∷ slots) (item_by i j)) (option_map (λ rest. None ∷ rest) (filled_first is slots k j)))
    ≡ option_and_then (λ n. option_map (then_item n) (filled is slots (cond b ms (member k j (without_first (name_in i) ms))))) (item_by i (cond b j (first_named (name_in i) ms)))
step i is k j ms slots true later = own_member i is ms slots (item_by i j)
step i is k j ms slots false later = other_member i is ms (without_first (name_in i) ms) (filled_first is slots k j) (item_by i (first_named (name_in i) ms)) later

takes : (i : Instruction) (is : Instructions) (ms : Members) (slots : Slots)
    → filled (then_instruction i is) (None ∷ slots) ms ≡ option_and_then (λ n. option_map (then_item n) (filled is slots (without_first (name_in i) ms))) (item_by i (first_named (name_in i) ms))
takes i is no_members slots = refl
takes i is (member k j ms) slots = step i is k j ms slots (bytes_eq k (name_in i)) (λ next. takes i is ms next)

pub filled_is : (is : Instructions) (ms : Members) → filled is (empty_slots is) ms ≡ items_by is ms
filled_is no_instructions no_members = refl
filled_is no_instructions (member k j ms) = refl
filled_is (then_instruction i is) ms =
    takes i is ms (empty_slots is)
    ∙ ap (λ o. option_and_then (λ n. option_map (then_item n) o) (item_by i (first_named (name_in i) ms))) (filled_is is (without_first (name_in i) ms))
