-- Resolved templates and what is true of every set: rows.
use Rattle.fast_template.proofs.Common.{◌≡◌, ◌≤◌, ◌<◌, ℕ, zero, suc, List, [], ◌∷◌, length, map, None, Bool, true, false, pos, negsuc, refl, lit<, arith, codes, Contains, AllByRecursion, Kind, Presence, Mandatory, Optional, Operator, Part, Scalar, Global, Key, FieldPart, Instruction, Instructions, whole_field, field_in_parts, group_of, sequence_of, instructions_of, no_instructions, Resolved, takes_bit, size_of, depth_of, keys_of, numbered, with_keys, applies, is_in_part, HasSlots, identifier_key, keys_of_all, size_of_all, AreSound}

-- ---- the types that operators apply to

abbrev kinds : List Kind
kinds = Kind.UInt32 ∷ Kind.Int32 ∷ Kind.UInt64 ∷ Kind.Int64 ∷ Kind.Decimal ∷ Kind.Ascii ∷ Kind.Unicode ∷ Kind.Bytes ∷ []

abbrev all_types : List Bool
all_types = true ∷ true ∷ true ∷ true ∷ true ∷ true ∷ true ∷ true ∷ []

increment_is_for : map (applies Operator.Increment) kinds ≡ true ∷ true ∷ true ∷ true ∷ false ∷ false ∷ false ∷ false ∷ []
increment_is_for = refl

tail_is_for : map (applies Operator.Tail) kinds ≡ false ∷ false ∷ false ∷ false ∷ false ∷ true ∷ true ∷ true ∷ []
tail_is_for = refl

others_are_for_all : map (λ o. map (applies o) kinds) (Operator.Plain ∷ Operator.Constant ∷ Operator.Default ∷ Operator.Copy ∷ Operator.Delta ∷ []) ≡ all_types ∷ all_types ∷ all_types ∷ all_types ∷ all_types ∷ []
others_are_for_all = refl

-- Only an exponent's value is bounded further.
in_exponent : map (is_in_part Part.Exponent) (Scalar.I32 (pos 63) ∷ Scalar.I32 (pos 64) ∷ Scalar.I32 (negsuc 62) ∷ Scalar.I32 (negsuc 63) ∷ Scalar.U32 64 ∷ []) ≡ true ∷ false ∷ true ∷ false ∷ true ∷ []
in_exponent = refl

in_others : map (λ p. is_in_part p (Scalar.I32 (pos 64))) (Part.Whole ∷ Part.Mantissa ∷ Part.Length ∷ []) ≡ true ∷ true ∷ true ∷ []
in_others = refl

-- ---- instructions of every kind

abbrev key : ℕ → Key
key slot = record { slot = slot; scope = Global; name = codes "K"; part = Part.Whole }

abbrev part_of_key : ℕ → ℕ → Presence → Operator → FieldPart
part_of_key number slot presence o = record { number = number; part = Part.Whole; kind = Kind.UInt32; presence = presence; operator = o; initial = None; key = key slot }

abbrev inner : ℕ → Instruction
inner number = whole_field (codes "F") number Mandatory (part_of_key number 5 Mandatory Operator.Plain)

-- a field, a decimal in parts, a sequence of a group of a field, and an empty group, numbered as f says
abbrev every_kind : (ℕ → ℕ) → Instructions
every_kind f = instructions_of (
    whole_field (codes "A") (f 1) Mandatory (part_of_key (f 1) 1 Mandatory Operator.Copy)
    ∷ field_in_parts (codes "B") (f 2) Mandatory (part_of_key (f 2) 2 Mandatory Operator.Delta) (part_of_key (f 2) 3 Mandatory Operator.Copy)
    ∷ sequence_of (codes "C") (f 3) Mandatory (part_of_key (f 3) 4 Mandatory Operator.Plain) (instructions_of (
    group_of (codes "D") (f 4) Optional (instructions_of (inner (f 5) ∷ []))
    ∷ []))
    ∷ group_of (codes "E") (f 6) Mandatory no_instructions
    ∷ [])

numbers_are : numbered 1 (every_kind (λ n. 0)) ≡ every_kind (λ n. n)
numbers_are = refl

size_is : size_of (every_kind (λ n. n)) ≡ 6
size_is = refl

depth_is : depth_of (every_kind (λ n. n)) ≡ 2
depth_is = refl

flat_depth_is : depth_of (instructions_of (inner 1 ∷ field_in_parts (codes "B") 2 Mandatory (part_of_key 2 2 Mandatory Operator.Delta) (part_of_key 2 3 Mandatory Operator.Copy) ∷ [])) ≡ 0
flat_depth_is = refl

keys_are : keys_of (every_kind (λ n. n)) ≡ key 1 ∷ key 2 ∷ key 3 ∷ key 4 ∷ key 5 ∷ []
keys_are = refl

changed_keys_are : keys_of (with_keys (λ k. record k { slot = 7 }) (every_kind (λ n. n))) ≡ key 7 ∷ key 7 ∷ key 7 ∷ key 7 ∷ key 7 ∷ []
changed_keys_are = refl

size_of_all_is : size_of_all (record { id = None; name = codes "A"; members = every_kind (λ n. n) } ∷ record { id = None; name = codes "B"; members = instructions_of (inner 1 ∷ []) } ∷ []) ≡ 7
size_of_all_is = refl

-- What takes a bit of the map around it: a mantissa, an optional group, a length.
bits_are : map takes_bit (
    inner 1
    ∷ field_in_parts (codes "B") 1 Mandatory (part_of_key 1 2 Mandatory Operator.Delta) (part_of_key 1 3 Mandatory Operator.Copy)
    ∷ field_in_parts (codes "B") 1 Mandatory (part_of_key 1 2 Mandatory Operator.Copy) (part_of_key 1 3 Mandatory Operator.Delta)
    ∷ field_in_parts (codes "B") 1 Mandatory (part_of_key 1 2 Mandatory Operator.Delta) (part_of_key 1 3 Mandatory Operator.Delta)
    ∷ group_of (codes "D") 1 Optional no_instructions
    ∷ group_of (codes "D") 1 Mandatory (instructions_of (whole_field (codes "A") 2 Mandatory (part_of_key 2 1 Mandatory Operator.Copy) ∷ []))
    ∷ sequence_of (codes "C") 1 Mandatory (part_of_key 1 4 Mandatory Operator.Copy) no_instructions
    ∷ sequence_of (codes "C") 1 Optional (part_of_key 1 4 Optional Operator.Plain) no_instructions
    ∷ [])
    ≡ false ∷ true ∷ true ∷ false ∷ true ∷ false ∷ true ∷ false ∷ []
bits_are = refl

-- ---- slots

-- The identifier's key is global, with no name, and has the first slot.
identifier_is : identifier_key ≡ record { slot = 0; scope = Global; name = []; part = Part.Whole }
identifier_is = refl

abbrev called : ℕ → List ℕ → Key
called slot name = record { slot = slot; scope = Global; name = name; part = Part.Whole }

-- two names with one slot, one name with two, a slot past the number, and one that no key has
shared_slot : ¬ (HasSlots (called 0 (codes "A") ∷ called 0 (codes "Bee") ∷ []) 1)
shared_slot has = absurd (cc (has.one_key (called 0 (codes "A")) (called 0 (codes "Bee")) (0, lit< tt, refl) (1, lit< tt, refl) refl).1)

two_slots : ¬ (HasSlots (called 0 (codes "A") ∷ called 1 (codes "A") ∷ []) 2)
two_slots has = absurd (cc (has.one_slot (called 0 (codes "A")) (called 1 (codes "A")) (0, lit< tt, refl) (1, lit< tt, refl) (refl, refl, refl)))

slot_past : ¬ (HasSlots (called 1 (codes "A") ∷ []) 1)
slot_past has = let less : 1 < 1 = has.below (called 1 (codes "A")) (0, lit< tt, refl) in absurd (omega (arith, less))

unused_at : (found : Contains {X = ℕ} (0 ∷ 2 ∷ []) 1) → ⊥
unused_at (zero, less, is) = absurd (cc is)
unused_at (suc zero, less, is) = absurd (cc is)
unused_at (suc (suc k), less, is) = let past : suc (suc k) < 2 = less in absurd (omega (arith, past))

unused_slot : ¬ (HasSlots (called 0 (codes "A") ∷ called 2 (codes "Bee") ∷ []) 3)
unused_slot has = unused_at (has.each_used 1 (lit< tt))

-- ---- the limits of a set

within_limits : (templates : List Resolved) (slots : ℕ) → AreSound templates slots → (length templates ≤ 65535) × AllByRecursion (λ t. depth_of t.members ≤ 8) templates × (size_of_all templates ≤ 65535)
within_limits templates slots sound = (sound.few, sound.shallow, sound.small)

has_slots : (templates : List Resolved) (slots : ℕ) → AreSound templates slots → HasSlots (identifier_key ∷ keys_of_all templates) slots
has_slots templates slots sound = sound.slotted
