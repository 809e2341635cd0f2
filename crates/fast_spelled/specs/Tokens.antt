-- How the code's answers stand to JSON (our own).
use Rattle.std.specs.Prelude.{◌≡◌, ◌⊎◌, ◌<◌, ◌+◌, ℕ, List, true, map, get_or, Option, Some, None, is_some, option_map}
use Rattle.json.specs.Token as token
use Rattle.json.specs.Json.{Json, null, boolean, number, string, array, object}
use Rattle.fast_stream.specs.declared.message.Node.{Node}
use Rattle.fast_stream.specs.Nodes.{Item, item_of}
use Rattle.fast_spelled.specs.declared.fault.LineFault.{LineFault}
use Rattle.fast_spelled.specs.declared.fault.LineCause.TheVariants.{Memory, Limit}

-- this is read, and of so many nodes that were left before so many are left behind it
abbrev pub IsRead : {A : Type 0} → (A → ℕ) → ℕ → Option A → A → ℕ → Type 0
IsRead nodes before o a left = (o ≡ Some a) × (before ≡ nodes a + left)

-- memory was refused, or nothing is there to be read, or it has more nodes than are left
abbrev pub Refuses : {A : Type 0} → (A → ℕ) → ℕ → Option A → LineFault → Type 0
Refuses {A = A} nodes before o f = (f.cause ≡ Memory) ⊎ (o ≡ None) ⊎ ((f.cause ≡ Limit) × ((a : A) → o ≡ Some a → before < nodes a))

-- the first token of JSON
abbrev pub first_token : Json → token.Token
first_token null = token.null
first_token (boolean b) = token.boolean b
first_token (number s) = token.number s
first_token (string s) = token.string s
first_token (array js) = token.begin_array
first_token (object ms) = token.begin_object

-- what slots have
abbrev pub slots_of : List (Option Node) → List (Option Item)
slots_of slots = map (λ s. option_map item_of s) slots

-- so many in front have something
abbrev pub AreFilled : List (Option Node) → ℕ → Type 0
AreFilled slots front = (place : ℕ) → place < front → is_some (get_or slots place None) ≡ true
