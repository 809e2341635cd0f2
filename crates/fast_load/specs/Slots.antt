-- The slots of a set's keys while the set is made.
-- Own: FAST 1.1, Field Operators, Dictionaries and Previous Values, finds an entry by its key alone.
use Rattle.std.specs.Prelude.{◌≡◌, ◌<◌, ◌≤◌, ◌+◌, ◌++◌, ℕ, List, length, Some, IsSome, Contains, unwrap_or, map}
use Rattle.std.specs.BTreeMap.{BTreeMap, btree_map_len, get}
use Rattle.fast_load.specs.Prelude.{Key, key_cmp, Resolved, numbered, with_keys, identifier_key}

-- The map leads from each of the keys, as it is without a slot, to a slot of its own, and the slots are the numbers below
-- the map's size; the identifier's is 0.
pub record AreSlots (slots : BTreeMap Key ℕ) (keys : List Key) : Type 0 where
  pub identifier : get key_cmp slots identifier_key ≡ Some 0
  pub known : (k : Key) → Contains keys k → IsSome (get key_cmp slots k)
  pub below : (k : Key) (s : ℕ) → get key_cmp slots k ≡ Some s → s < btree_map_len slots
  pub one_key : (k l : Key) (s : ℕ) → get key_cmp slots k ≡ Some s → get key_cmp slots l ≡ Some s → k ≡ l
  pub each_used : (s : ℕ) → s < btree_map_len slots → (k : Key) × Contains keys k × (get key_cmp slots k ≡ Some s)

-- the slot that the map leads to
abbrev pub slot_in : BTreeMap Key ℕ → Key → ℕ
slot_in slots k = unwrap_or (get key_cmp slots k) 0

-- slots of some keys become slots of these and more
pub record EntersKeys (old new : BTreeMap Key ℕ) (more : List Key) : Type 0 where
  pub slots : (keys : List Key) → AreSlots old keys → AreSlots new (keys ++ more)
  pub size : btree_map_len new ≤ btree_map_len old + length more

-- a template with a slot for each key, and then its numbers
abbrev pub settled : (Key → ℕ) → Resolved → Resolved
settled slot r = record r { members = numbered 1 (with_keys (λ k. record k { slot = slot k }) r.members) }

-- templates become the same with some slot for each key, and with their numbers
abbrev pub AreSettled : List Resolved → List Resolved → Type 0
AreSettled old new = (slot : Key → ℕ) × (new ≡ map (settled slot) old)
