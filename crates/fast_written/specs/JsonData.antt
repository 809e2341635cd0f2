-- The data that JSON stands for, as `serde_json` reads it.
-- `data_of` has an answer for each JSON, that of `serde_json` where each number is in range: a number out of range, of which
-- nothing is read, is null in it.
use Rattle.std.specs.Prelude.{ℕ, List, Bool, true, not, is_some, ◌&&◌, nat_eq}
use Rattle.std.specs.Cmp.Lexicographic.{pointwise}
use Rattle.std.specs.List.{list_all, list_any}
use Rattle.std.specs.Option.{option_map_or}
use Rattle.json.specs.Json as json
use Rattle.json.specs.Value.{value_view, items_view}
use Rattle.json.specs.declared.value.Value.{Value}
use Rattle.serde_json.specs.Data.{Data, null, boolean, number, string, array, object, Items, no_items, item, Members, no_members, put}
use Rattle.serde_json.specs.Find.{get}
use Rattle.serde_json.specs.Read.{number_of}
use Rattle.fast_written.specs.Profile.{allows, is_needed, row_of, word_text}
use Rattle.fast_written.specs.declared.profile.Word.{Word}
use Rattle.fast_written.specs.declared.profile.Shape.{Shape}
use Rattle.fast_written.specs.declared.profile.Need.{Need}
use Rattle.fast_written.specs.declared.profile.Row.{Row}

abbrev mutual
  pub data_of : json.Json → Data
  data_of json.null = null
  data_of (json.boolean b) = boolean b
  data_of (json.number s) = option_map_or number (number_of s) null
  data_of (json.string s) = string s
  data_of (json.array js) = array (items_of js)
  data_of (json.object ms) = object (members_of ms no_members)

  pub items_of : json.Items → Items
  items_of json.no_items = no_items
  items_of (json.item j js) = item (data_of j) (items_of js)

  -- the members go in one after another, so the last value of a key stays
  pub members_of : json.Members → Members → Members
  members_of json.no_members found = found
  members_of (json.member k j ms) found = members_of ms (put k (data_of j) found)

-- each number is in range
abbrev mutual
  pub numbers_fit : json.Json → Bool
  numbers_fit json.null = true
  numbers_fit (json.boolean b) = true
  numbers_fit (json.number s) = is_some (number_of s)
  numbers_fit (json.string s) = true
  numbers_fit (json.array js) = items_fit js
  numbers_fit (json.object ms) = members_fit ms

  pub items_fit : json.Items → Bool
  items_fit json.no_items = true
  items_fit (json.item j js) = numbers_fit j && items_fit js

  pub members_fit : json.Members → Bool
  members_fit json.no_members = true
  members_fit (json.member k j ms) = numbers_fit j && members_fit ms

abbrev pub data_in : {A : Type 0} → Value A → Data
data_in v = data_of (value_view v)

abbrev pub items_in : {A : Type 0} → List (Value A) → Items
items_in vs = items_of (items_view vs)

-- ---- whether an object fits its row, by its keys and by what is found under each key of the row

abbrev pub knows : Row → List ℕ → Bool
knows r key = list_any (λ (rule : Word × Shape × Need). pointwise nat_eq (word_text rule.0) key) (row_of r)

abbrev pub all_known : Row → json.Members → Bool
all_known r json.no_members = true
all_known r (json.member key j ms) = knows r key && all_known r ms

abbrev pub meets : Row → Word → Need → Data → Bool
meets r w need d = option_map_or (allows r (word_text w)) (get (word_text w) d) (not (is_needed need))

abbrev pub all_met : Row → Data → Bool
all_met r d = list_all (λ (rule : Word × Shape × Need). meets r rule.0 rule.2 d) (row_of r)
