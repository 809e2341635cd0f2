-- Sets of templates as they are resolved or refused: expected values were worked out apart from these definitions.
use Rattle.fast_load.proofs.Common.{◌≡◌, ℕ, zero, suc, List, [], ◌∷◌, ◌++◌, Option, Some, None, Bool, true, false, pos, negsuc, refl, lit<, option_map_or, codes, nat_eq, if◌then◌else◌, pointwise, Kind, Mandatory, Optional, Operator, Part, Scalar, Scope, LoadCause, written_field, written_parts, written_group, written_sequence, written_reference, written_list, WrittenTemplate, Instruction, Instructions, whole_field, field_in_parts, group_of, sequence_of, instructions_of, no_instructions, then_instruction, numbered, needs_bit, has_map, depth_of, context_of, flat_list, names_well_made, name_new, id_new, operator_allowed, constant_has_value, default_has_value, value_spelled, reference_known, off_cycles, nests_little, sum_small, Fails, directly, onwards, fault_of}

abbrev located : List WrittenTemplate → ℕ → List ℕ → Option (ℕ × WrittenTemplate)
located [] place name = None
located (t ∷ ts) place name = if pointwise nat_eq t.name name then Some (place, t) else located ts (suc place) name

-- the list of a name, references replaced at most n deep
abbrev stands_in : List WrittenTemplate → ℕ → List ℕ → Instructions
stands_in templates zero name = no_instructions
stands_in templates (suc n) name = option_map_or (λ p. flat_list (stands_in templates n) (context_of p.0 p.1) p.1.members) (located templates 1 name) no_instructions

-- the bits of all instructions, and which groups and sequences have a map
abbrev mutual
  bits_one : Instruction → List Bool
  bits_one (whole_field name number presence whole) = needs_bit (whole_field name number presence whole) ∷ []
  bits_one (field_in_parts name number presence exponent mantissa) = needs_bit (field_in_parts name number presence exponent mantissa) ∷ []
  bits_one (group_of name number presence members) = needs_bit (group_of name number presence members) ∷ has_map members ∷ bits_all members
  bits_one (sequence_of name number presence length members) = needs_bit (sequence_of name number presence length members) ∷ has_map members ∷ bits_all members

  bits_all : Instructions → List Bool
  bits_all no_instructions = []
  bits_all (then_instruction i is) = bits_one i ++ bits_all is

-- S3 of a mantissa-less exponent before S2 of mantissa
abbrev set_1 : List WrittenTemplate
set_1 = ((record { name = (codes "A"); id = None; around = (record { dictionary = None; type_ref = None }); members = written_list (written_parts (codes "P") Mandatory (record { operator = Operator.Copy; initial = (Some (codes "64")); dictionary = None; key = None }) (record { operator = Operator.Tail; initial = None; dictionary = None; key = None }) ∷ []) }) ∷ [])

fault_1 : fault_of (value_spelled 1 1 0) ≡ record { cause = LoadCause.S3; template = 1; instruction = 1 }
fault_1 = refl

fails_1 : Fails set_1 (value_spelled 1 1 0)
fails_1 = (_, _, (_, (_, refl, refl), refl), refl, refl)

-- S2 exponent tail before S3
abbrev set_2 : List WrittenTemplate
set_2 = ((record { name = (codes "A"); id = None; around = (record { dictionary = None; type_ref = None }); members = written_list (written_parts (codes "P") Mandatory (record { operator = Operator.Tail; initial = (Some (codes "64")); dictionary = None; key = None }) (record { operator = Operator.Plain; initial = None; dictionary = None; key = None }) ∷ []) }) ∷ [])

fault_2 : fault_of (operator_allowed 1 1 0) ≡ record { cause = LoadCause.S2; template = 1; instruction = 1 }
fault_2 = refl

fails_2 : Fails set_2 (operator_allowed 1 1 0)
fails_2 = (_, (_, (_, refl, refl), refl), refl)

-- S5 exponent mandatory default
abbrev set_3 : List WrittenTemplate
set_3 = ((record { name = (codes "A"); id = None; around = (record { dictionary = None; type_ref = None }); members = written_list (written_parts (codes "P") Mandatory (record { operator = Operator.Default; initial = None; dictionary = None; key = None }) (record { operator = Operator.Plain; initial = None; dictionary = None; key = None }) ∷ []) }) ∷ [])

fault_3 : fault_of (default_has_value 1 1 0) ≡ record { cause = LoadCause.S5; template = 1; instruction = 1 }
fault_3 = refl

fails_3 : Fails set_3 (default_has_value 1 1 0)
fails_3 = (_, (_, (_, refl, refl), refl), refl, refl, refl)

-- S5 mantissa default of optional decimal
abbrev set_4 : List WrittenTemplate
set_4 = ((record { name = (codes "A"); id = None; around = (record { dictionary = None; type_ref = None }); members = written_list (written_parts (codes "P") Optional (record { operator = Operator.Default; initial = None; dictionary = None; key = None }) (record { operator = Operator.Default; initial = None; dictionary = None; key = None }) ∷ []) }) ∷ [])

fault_4 : fault_of (default_has_value 1 1 1) ≡ record { cause = LoadCause.S5; template = 1; instruction = 1 }
fault_4 = refl

fails_4 : Fails set_4 (default_has_value 1 1 1)
fails_4 = (_, (_, (_, refl, refl), refl), refl, refl, refl)

-- optional exponent default, mantissa default with value ok
abbrev set_5 : List WrittenTemplate
set_5 = ((record { name = (codes "A"); id = (Some 1); around = (record { dictionary = None; type_ref = None }); members = written_list (written_parts (codes "P") Optional (record { operator = Operator.Default; initial = None; dictionary = None; key = None }) (record { operator = Operator.Default; initial = (Some (codes "-9223372036854775808")); dictionary = None; key = None }) ∷ []) }) ∷ [])

flat_5_0 : numbered 1 (stands_in set_5 2 (codes "A")) ≡ (instructions_of (field_in_parts (codes "P") 1 Optional (record { number = 1; part = Part.Exponent; kind = Kind.Int32; presence = Optional; operator = Operator.Default; initial = None; key = record { slot = 0; scope = Scope.Global; name = (codes "P"); part = Part.Exponent } }) (record { number = 1; part = Part.Mantissa; kind = Kind.Int64; presence = Mandatory; operator = Operator.Default; initial = (Some (Scalar.I64 (negsuc 9223372036854775807))); key = record { slot = 0; scope = Scope.Global; name = (codes "P"); part = Part.Mantissa } }) ∷ []))
flat_5_0 = refl

bits_5_0 : bits_all (stands_in set_5 2 (codes "A")) ≡ (true ∷ [])
bits_5_0 = refl

-- mantissa 2^63
abbrev set_6 : List WrittenTemplate
set_6 = ((record { name = (codes "A"); id = None; around = (record { dictionary = None; type_ref = None }); members = written_list (written_parts (codes "P") Mandatory (record { operator = Operator.Plain; initial = None; dictionary = None; key = None }) (record { operator = Operator.Default; initial = (Some (codes "9223372036854775808")); dictionary = None; key = None }) ∷ []) }) ∷ [])

fault_6 : fault_of (value_spelled 1 1 1) ≡ record { cause = LoadCause.S3; template = 1; instruction = 1 }
fault_6 = refl

fails_6 : Fails set_6 (value_spelled 1 1 1)
fails_6 = (_, _, (_, (_, refl, refl), refl), refl, refl)

-- length default mandatory without value
abbrev set_7 : List WrittenTemplate
set_7 = ((record { name = (codes "A"); id = None; around = (record { dictionary = None; type_ref = None }); members = written_list (written_sequence (codes "L") Mandatory (record { dictionary = None; type_ref = None }) None (record { operator = Operator.Default; initial = None; dictionary = None; key = None }) (written_list (written_field (codes "F") Kind.UInt32 Mandatory (record { operator = Operator.Plain; initial = None; dictionary = None; key = None }) ∷ [])) ∷ []) }) ∷ [])

fault_7 : fault_of (default_has_value 1 1 0) ≡ record { cause = LoadCause.S5; template = 1; instruction = 1 }
fault_7 = refl

fails_7 : Fails set_7 (default_has_value 1 1 0)
fails_7 = (_, (_, (_, refl, refl), refl), refl, refl, refl)

-- length default optional without value ok
abbrev set_8 : List WrittenTemplate
set_8 = ((record { name = (codes "A"); id = (Some 1); around = (record { dictionary = None; type_ref = None }); members = written_list (written_sequence (codes "L") Optional (record { dictionary = None; type_ref = None }) None (record { operator = Operator.Default; initial = None; dictionary = None; key = None }) (written_list (written_field (codes "F") Kind.UInt32 Mandatory (record { operator = Operator.Plain; initial = None; dictionary = None; key = None }) ∷ [])) ∷ []) }) ∷ [])

flat_8_0 : numbered 1 (stands_in set_8 2 (codes "A")) ≡ (instructions_of (sequence_of (codes "L") 1 Optional (record { number = 1; part = Part.Length; kind = Kind.UInt32; presence = Optional; operator = Operator.Default; initial = None; key = record { slot = 0; scope = Scope.Global; name = (codes "L"); part = Part.Length } }) (instructions_of (whole_field (codes "F") 2 Mandatory (record { number = 2; part = Part.Whole; kind = Kind.UInt32; presence = Mandatory; operator = Operator.Plain; initial = None; key = record { slot = 0; scope = Scope.Global; name = (codes "F"); part = Part.Whole } }) ∷ [])) ∷ []))
flat_8_0 = refl

bits_8_0 : bits_all (stands_in set_8 2 (codes "A")) ≡ (true ∷ false ∷ false ∷ [])
bits_8_0 = refl

-- length tail
abbrev set_9 : List WrittenTemplate
set_9 = ((record { name = (codes "A"); id = None; around = (record { dictionary = None; type_ref = None }); members = written_list (written_sequence (codes "L") Mandatory (record { dictionary = None; type_ref = None }) None (record { operator = Operator.Tail; initial = None; dictionary = None; key = None }) (written_list (written_field (codes "x") Kind.Ascii Mandatory (record { operator = Operator.Increment; initial = None; dictionary = None; key = None }) ∷ [])) ∷ []) }) ∷ [])

fault_9 : fault_of (operator_allowed 1 1 0) ≡ record { cause = LoadCause.S2; template = 1; instruction = 1 }
fault_9 = refl

fails_9 : Fails set_9 (operator_allowed 1 1 0)
fails_9 = (_, (_, (_, refl, refl), refl), refl)

-- length before members, place 1 not 2
abbrev set_10 : List WrittenTemplate
set_10 = ((record { name = (codes "A"); id = None; around = (record { dictionary = None; type_ref = None }); members = written_list (written_sequence (codes "L") Mandatory (record { dictionary = None; type_ref = None }) None (record { operator = Operator.Constant; initial = None; dictionary = None; key = None }) (written_list (written_field (codes "x") Kind.Ascii Mandatory (record { operator = Operator.Increment; initial = None; dictionary = None; key = None }) ∷ [])) ∷ []) }) ∷ [])

fault_10 : fault_of (constant_has_value 1 1 0) ≡ record { cause = LoadCause.S4; template = 1; instruction = 1 }
fault_10 = refl

fails_10 : Fails set_10 (constant_has_value 1 1 0)
fails_10 = (_, (_, (_, refl, refl), refl), refl, refl)

-- length increment ok; initial 65536 ok
abbrev set_11 : List WrittenTemplate
set_11 = ((record { name = (codes "A"); id = (Some 1); around = (record { dictionary = None; type_ref = None }); members = written_list (written_sequence (codes "L") Mandatory (record { dictionary = None; type_ref = None }) None (record { operator = Operator.Increment; initial = (Some (codes "65536")); dictionary = None; key = None }) (written_list (written_field (codes "F") Kind.UInt32 Mandatory (record { operator = Operator.Plain; initial = None; dictionary = None; key = None }) ∷ [])) ∷ []) }) ∷ [])

flat_11_0 : numbered 1 (stands_in set_11 2 (codes "A")) ≡ (instructions_of (sequence_of (codes "L") 1 Mandatory (record { number = 1; part = Part.Length; kind = Kind.UInt32; presence = Mandatory; operator = Operator.Increment; initial = (Some (Scalar.U32 65536)); key = record { slot = 0; scope = Scope.Global; name = (codes "L"); part = Part.Length } }) (instructions_of (whole_field (codes "F") 2 Mandatory (record { number = 2; part = Part.Whole; kind = Kind.UInt32; presence = Mandatory; operator = Operator.Plain; initial = None; key = record { slot = 0; scope = Scope.Global; name = (codes "F"); part = Part.Whole } }) ∷ [])) ∷ []))
flat_11_0 = refl

bits_11_0 : bits_all (stands_in set_11 2 (codes "A")) ≡ (true ∷ false ∷ false ∷ [])
bits_11_0 = refl

-- length value 2^32
abbrev set_12 : List WrittenTemplate
set_12 = ((record { name = (codes "A"); id = None; around = (record { dictionary = None; type_ref = None }); members = written_list (written_sequence (codes "L") Mandatory (record { dictionary = None; type_ref = None }) None (record { operator = Operator.Copy; initial = (Some (codes "4294967296")); dictionary = None; key = None }) (written_list (written_field (codes "F") Kind.UInt32 Mandatory (record { operator = Operator.Plain; initial = None; dictionary = None; key = None }) ∷ [])) ∷ []) }) ∷ [])

fault_12 : fault_of (value_spelled 1 1 0) ≡ record { cause = LoadCause.S3; template = 1; instruction = 1 }
fault_12 = refl

fails_12 : Fails set_12 (value_spelled 1 1 0)
fails_12 = (_, _, (_, (_, refl, refl), refl), refl, refl)

-- S2 in template 2 before D8 in template 1
abbrev set_13 : List WrittenTemplate
set_13 = ((record { name = (codes "A"); id = None; around = (record { dictionary = None; type_ref = None }); members = written_list (written_reference (codes "Nobody") ∷ []) }) ∷ (record { name = (codes "B"); id = None; around = (record { dictionary = None; type_ref = None }); members = written_list (written_field (codes "F") Kind.Ascii Mandatory (record { operator = Operator.Increment; initial = None; dictionary = None; key = None }) ∷ []) }) ∷ [])

fault_13 : fault_of (operator_allowed 2 1 0) ≡ record { cause = LoadCause.S2; template = 2; instruction = 1 }
fault_13 = refl

fails_13 : Fails set_13 (operator_allowed 2 1 0)
fails_13 = (_, (_, (_, refl, refl), refl), refl)

-- D8 (2,3) before cycle 1
abbrev set_14 : List WrittenTemplate
set_14 = ((record { name = (codes "A"); id = None; around = (record { dictionary = None; type_ref = None }); members = written_list (written_reference (codes "A") ∷ []) }) ∷ (record { name = (codes "B"); id = None; around = (record { dictionary = None; type_ref = None }); members = written_list (written_group (codes "g") Mandatory (record { dictionary = None; type_ref = None }) (written_list (written_field (codes "F") Kind.UInt32 Mandatory (record { operator = Operator.Plain; initial = None; dictionary = None; key = None }) ∷ written_reference (codes "X") ∷ [])) ∷ []) }) ∷ [])

fault_14 : fault_of (reference_known 2 3) ≡ record { cause = LoadCause.D8; template = 2; instruction = 3 }
fault_14 = refl

-- cycle: first on the cycle is 2, 1 leads only
abbrev set_15 : List WrittenTemplate
set_15 = ((record { name = (codes "A"); id = None; around = (record { dictionary = None; type_ref = None }); members = written_list (written_reference (codes "B") ∷ []) }) ∷ (record { name = (codes "B"); id = None; around = (record { dictionary = None; type_ref = None }); members = written_list (written_group (codes "g") Mandatory (record { dictionary = None; type_ref = None }) (written_list (written_reference (codes "C") ∷ [])) ∷ []) }) ∷ (record { name = (codes "C"); id = None; around = (record { dictionary = None; type_ref = None }); members = written_list (written_reference (codes "B") ∷ []) }) ∷ [])

fault_15 : fault_of (off_cycles 2) ≡ record { cause = LoadCause.Cycle; template = 2; instruction = 0 }
fault_15 = refl

fails_15 : Fails set_15 (off_cycles 2)
fails_15 = onwards 3 2 (directly 3 (2, _, refl, (_, refl, refl))) (1, _, refl, (_, refl, refl))

-- cycle 3: between two cycles passed over
abbrev set_16 : List WrittenTemplate
set_16 = ((record { name = (codes "mid"); id = None; around = (record { dictionary = None; type_ref = None }); members = written_list (written_reference (codes "Y") ∷ []) }) ∷ (record { name = (codes "X"); id = None; around = (record { dictionary = None; type_ref = None }); members = written_list (written_reference (codes "X") ∷ written_reference (codes "mid") ∷ []) }) ∷ (record { name = (codes "Y"); id = None; around = (record { dictionary = None; type_ref = None }); members = written_list (written_reference (codes "Y") ∷ []) }) ∷ [])

fault_16 : fault_of (off_cycles 2) ≡ record { cause = LoadCause.Cycle; template = 2; instruction = 0 }
fault_16 = refl

fails_16 : Fails set_16 (off_cycles 2)
fails_16 = directly 2 (1, _, refl, (_, refl, refl))

-- names: group dictionary bad in t1 i2, before dup
abbrev set_17 : List WrittenTemplate
set_17 = ((record { name = (codes "A"); id = None; around = (record { dictionary = None; type_ref = None }); members = written_list (written_field (codes "F") Kind.UInt32 Mandatory (record { operator = Operator.Plain; initial = None; dictionary = None; key = None }) ∷ written_group (codes "g") Mandatory (record { dictionary = (Some (codes "a b")); type_ref = None }) (written_list ([])) ∷ []) }) ∷ (record { name = (codes "A"); id = None; around = (record { dictionary = None; type_ref = None }); members = written_list ([]) }) ∷ [])

fault_17 : fault_of (names_well_made 1 2) ≡ record { cause = LoadCause.S1; template = 1; instruction = 2 }
fault_17 = refl

fails_17 : Fails set_17 (names_well_made 1 2)
fails_17 = (_, (_, (_, refl, refl), refl), refl)

-- names: length key bad
abbrev set_18 : List WrittenTemplate
set_18 = ((record { name = (codes "A"); id = None; around = (record { dictionary = None; type_ref = None }); members = written_list (written_sequence (codes "L") Mandatory (record { dictionary = None; type_ref = None }) None (record { operator = Operator.Copy; initial = None; dictionary = None; key = (Some ([])) }) (written_list (written_field (codes "x y") Kind.UInt32 Mandatory (record { operator = Operator.Plain; initial = None; dictionary = None; key = None }) ∷ [])) ∷ []) }) ∷ [])

fault_18 : fault_of (names_well_made 1 1) ≡ record { cause = LoadCause.S1; template = 1; instruction = 1 }
fault_18 = refl

fails_18 : Fails set_18 (names_well_made 1 1)
fails_18 = (_, (_, (_, refl, refl), refl), refl)

-- name length 256
abbrev set_19 : List WrittenTemplate
set_19 = ((record { name = (codes "A"); id = None; around = (record { dictionary = None; type_ref = None }); members = written_list (written_field (codes "nnnnnnnnnnnnnnnnnnnnnnnnnnnnnnnnnnnnnnnnnnnnnnnnnnnnnnnnnnnnnnnnnnnnnnnnnnnnnnnnnnnnnnnnnnnnnnnnnnnnnnnnnnnnnnnnnnnnnnnnnnnnnnnnnnnnnnnnnnnnnnnnnnnnnnnnnnnnnnnnnnnnnnnnnnnnnnnnnnnnnnnnnnnnnnnnnnnnnnnnnnnnnnnnnnnnnnnnnnnnnnnnnnnnnnnnnnnnnnnnnnnnnnnnnnnnnnnn") Kind.UInt32 Mandatory (record { operator = Operator.Plain; initial = None; dictionary = None; key = None }) ∷ []) }) ∷ [])

fault_19 : fault_of (names_well_made 1 1) ≡ record { cause = LoadCause.S1; template = 1; instruction = 1 }
fault_19 = refl

fails_19 : Fails set_19 (names_well_made 1 1)
fails_19 = (_, (_, (_, refl, refl), refl), refl)

-- name length 255
abbrev set_20 : List WrittenTemplate
set_20 = ((record { name = (codes "A"); id = (Some 1); around = (record { dictionary = None; type_ref = None }); members = written_list (written_field (codes "nnnnnnnnnnnnnnnnnnnnnnnnnnnnnnnnnnnnnnnnnnnnnnnnnnnnnnnnnnnnnnnnnnnnnnnnnnnnnnnnnnnnnnnnnnnnnnnnnnnnnnnnnnnnnnnnnnnnnnnnnnnnnnnnnnnnnnnnnnnnnnnnnnnnnnnnnnnnnnnnnnnnnnnnnnnnnnnnnnnnnnnnnnnnnnnnnnnnnnnnnnnnnnnnnnnnnnnnnnnnnnnnnnnnnnnnnnnnnnnnnnnnnnnnnnnnnnn") Kind.UInt32 Mandatory (record { operator = Operator.Plain; initial = None; dictionary = None; key = None }) ∷ []) }) ∷ [])

flat_20_0 : numbered 1 (stands_in set_20 2 (codes "A")) ≡ (instructions_of (whole_field (codes "nnnnnnnnnnnnnnnnnnnnnnnnnnnnnnnnnnnnnnnnnnnnnnnnnnnnnnnnnnnnnnnnnnnnnnnnnnnnnnnnnnnnnnnnnnnnnnnnnnnnnnnnnnnnnnnnnnnnnnnnnnnnnnnnnnnnnnnnnnnnnnnnnnnnnnnnnnnnnnnnnnnnnnnnnnnnnnnnnnnnnnnnnnnnnnnnnnnnnnnnnnnnnnnnnnnnnnnnnnnnnnnnnnnnnnnnnnnnnnnnnnnnnnnnnnnnnnn") 1 Mandatory (record { number = 1; part = Part.Whole; kind = Kind.UInt32; presence = Mandatory; operator = Operator.Plain; initial = None; key = record { slot = 0; scope = Scope.Global; name = (codes "nnnnnnnnnnnnnnnnnnnnnnnnnnnnnnnnnnnnnnnnnnnnnnnnnnnnnnnnnnnnnnnnnnnnnnnnnnnnnnnnnnnnnnnnnnnnnnnnnnnnnnnnnnnnnnnnnnnnnnnnnnnnnnnnnnnnnnnnnnnnnnnnnnnnnnnnnnnnnnnnnnnnnnnnnnnnnnnnnnnnnnnnnnnnnnnnnnnnnnnnnnnnnnnnnnnnnnnnnnnnnnnnnnnnnnnnnnnnnnnnnnnnnnnnnnnnnnn"); part = Part.Whole } }) ∷ []))
flat_20_0 = refl

bits_20_0 : bits_all (stands_in set_20 2 (codes "A")) ≡ (false ∷ [])
bits_20_0 = refl

-- name DEL
abbrev set_21 : List WrittenTemplate
set_21 = ((record { name = (codes "A"); id = None; around = (record { dictionary = None; type_ref = None }); members = written_list ([]) }) ∷ (record { name = (66 ∷ 127 ∷ []); id = None; around = (record { dictionary = None; type_ref = None }); members = written_list ([]) }) ∷ [])

fault_21 : fault_of (names_well_made 2 0) ≡ record { cause = LoadCause.S1; template = 2; instruction = 0 }
fault_21 = refl

fails_21 : Fails set_21 (names_well_made 2 0)
fails_21 = (_, (_, refl, refl), refl)

-- reference with bad name is S1 not D8
abbrev set_22 : List WrittenTemplate
set_22 = ((record { name = (codes "A"); id = None; around = (record { dictionary = None; type_ref = None }); members = written_list (written_reference (195 ∷ 169 ∷ []) ∷ []) }) ∷ [])

fault_22 : fault_of (names_well_made 1 1) ≡ record { cause = LoadCause.S1; template = 1; instruction = 1 }
fault_22 = refl

fails_22 : Fails set_22 (names_well_made 1 1)
fails_22 = (_, (_, (_, refl, refl), refl), refl)

-- dup id before dup name of later
abbrev set_23 : List WrittenTemplate
set_23 = ((record { name = (codes "A"); id = (Some 1); around = (record { dictionary = None; type_ref = None }); members = written_list ([]) }) ∷ (record { name = (codes "B"); id = (Some 1); around = (record { dictionary = None; type_ref = None }); members = written_list ([]) }) ∷ (record { name = (codes "A"); id = None; around = (record { dictionary = None; type_ref = None }); members = written_list ([]) }) ∷ [])

fault_23 : fault_of (id_new 2) ≡ record { cause = LoadCause.DuplicateId; template = 2; instruction = 0 }
fault_23 = refl

fails_23 : Fails set_23 (id_new 2)
fails_23 = (1, _, _, lit< tt, refl, refl, refl, refl)

-- dup name before dup id of same
abbrev set_24 : List WrittenTemplate
set_24 = ((record { name = (codes "A"); id = (Some 1); around = (record { dictionary = None; type_ref = None }); members = written_list ([]) }) ∷ (record { name = (codes "A"); id = (Some 1); around = (record { dictionary = None; type_ref = None }); members = written_list ([]) }) ∷ [])

fault_24 : fault_of (name_new 2) ≡ record { cause = LoadCause.DuplicateName; template = 2; instruction = 0 }
fault_24 = refl

fails_24 : Fails set_24 (name_new 2)
fails_24 = (1, _, _, lit< tt, refl, refl, refl)

-- dup before S2
abbrev set_25 : List WrittenTemplate
set_25 = ((record { name = (codes "A"); id = None; around = (record { dictionary = None; type_ref = None }); members = written_list (written_field (codes "F") Kind.Ascii Mandatory (record { operator = Operator.Increment; initial = None; dictionary = None; key = None }) ∷ []) }) ∷ (record { name = (codes "A"); id = None; around = (record { dictionary = None; type_ref = None }); members = written_list ([]) }) ∷ [])

fault_25 : fault_of (name_new 2) ≡ record { cause = LoadCause.DuplicateName; template = 2; instruction = 0 }
fault_25 = refl

fails_25 : Fails set_25 (name_new 2)
fails_25 = (1, _, _, lit< tt, refl, refl, refl)

-- depth through references 5+4
abbrev set_26 : List WrittenTemplate
set_26 = ((record { name = (codes "A"); id = None; around = (record { dictionary = None; type_ref = None }); members = written_list (written_group (codes "G") Mandatory (record { dictionary = None; type_ref = None }) (written_list (written_group (codes "G") Mandatory (record { dictionary = None; type_ref = None }) (written_list (written_group (codes "G") Mandatory (record { dictionary = None; type_ref = None }) (written_list (written_group (codes "G") Mandatory (record { dictionary = None; type_ref = None }) (written_list (written_group (codes "G") Mandatory (record { dictionary = None; type_ref = None }) (written_list (written_reference (codes "B") ∷ [])) ∷ [])) ∷ [])) ∷ [])) ∷ [])) ∷ []) }) ∷ (record { name = (codes "B"); id = None; around = (record { dictionary = None; type_ref = None }); members = written_list (written_group (codes "G") Mandatory (record { dictionary = None; type_ref = None }) (written_list (written_group (codes "G") Mandatory (record { dictionary = None; type_ref = None }) (written_list (written_group (codes "G") Mandatory (record { dictionary = None; type_ref = None }) (written_list (written_group (codes "G") Mandatory (record { dictionary = None; type_ref = None }) (written_list (written_field (codes "F") Kind.UInt32 Mandatory (record { operator = Operator.Plain; initial = None; dictionary = None; key = None }) ∷ [])) ∷ [])) ∷ [])) ∷ [])) ∷ []) }) ∷ [])

fault_26 : fault_of (nests_little 1) ≡ record { cause = LoadCause.TooDeep; template = 1; instruction = 0 }
fault_26 = refl

deep_26 : depth_of (stands_in set_26 3 (codes "A")) ≡ 9
deep_26 = refl

-- depth 4+4 with sequences ok
abbrev set_27 : List WrittenTemplate
set_27 = ((record { name = (codes "A"); id = (Some 1); around = (record { dictionary = None; type_ref = None }); members = written_list (written_group (codes "G") Mandatory (record { dictionary = None; type_ref = None }) (written_list (written_group (codes "G") Mandatory (record { dictionary = None; type_ref = None }) (written_list (written_group (codes "G") Mandatory (record { dictionary = None; type_ref = None }) (written_list (written_group (codes "G") Mandatory (record { dictionary = None; type_ref = None }) (written_list (written_reference (codes "B") ∷ [])) ∷ [])) ∷ [])) ∷ [])) ∷ []) }) ∷ (record { name = (codes "B"); id = None; around = (record { dictionary = None; type_ref = None }); members = written_list (written_sequence (codes "s") Mandatory (record { dictionary = None; type_ref = None }) None (record { operator = Operator.Plain; initial = None; dictionary = None; key = None }) (written_list (written_sequence (codes "s") Mandatory (record { dictionary = None; type_ref = None }) None (record { operator = Operator.Plain; initial = None; dictionary = None; key = None }) (written_list (written_sequence (codes "s") Mandatory (record { dictionary = None; type_ref = None }) None (record { operator = Operator.Plain; initial = None; dictionary = None; key = None }) (written_list (written_sequence (codes "s") Mandatory (record { dictionary = None; type_ref = None }) None (record { operator = Operator.Plain; initial = None; dictionary = None; key = None }) (written_list ([])) ∷ [])) ∷ [])) ∷ [])) ∷ []) }) ∷ [])

flat_27_0 : numbered 1 (stands_in set_27 3 (codes "A")) ≡ (instructions_of (group_of (codes "G") 1 Mandatory (instructions_of (group_of (codes "G") 2 Mandatory (instructions_of (group_of (codes "G") 3 Mandatory (instructions_of (group_of (codes "G") 4 Mandatory (instructions_of (sequence_of (codes "s") 5 Mandatory (record { number = 5; part = Part.Length; kind = Kind.UInt32; presence = Mandatory; operator = Operator.Plain; initial = None; key = record { slot = 0; scope = Scope.Global; name = (codes "s"); part = Part.Length } }) (instructions_of (sequence_of (codes "s") 6 Mandatory (record { number = 6; part = Part.Length; kind = Kind.UInt32; presence = Mandatory; operator = Operator.Plain; initial = None; key = record { slot = 0; scope = Scope.Global; name = (codes "s"); part = Part.Length } }) (instructions_of (sequence_of (codes "s") 7 Mandatory (record { number = 7; part = Part.Length; kind = Kind.UInt32; presence = Mandatory; operator = Operator.Plain; initial = None; key = record { slot = 0; scope = Scope.Global; name = (codes "s"); part = Part.Length } }) (instructions_of (sequence_of (codes "s") 8 Mandatory (record { number = 8; part = Part.Length; kind = Kind.UInt32; presence = Mandatory; operator = Operator.Plain; initial = None; key = record { slot = 0; scope = Scope.Global; name = (codes "s"); part = Part.Length } }) (instructions_of ([])) ∷ [])) ∷ [])) ∷ [])) ∷ [])) ∷ [])) ∷ [])) ∷ [])) ∷ []))
flat_27_0 = refl

bits_27_0 : bits_all (stands_in set_27 3 (codes "A")) ≡ (false ∷ false ∷ false ∷ false ∷ false ∷ false ∷ false ∷ false ∷ false ∷ false ∷ false ∷ false ∷ false ∷ false ∷ false ∷ false ∷ [])
bits_27_0 = refl

-- TooDeep of template 2 though 1 refers below
abbrev set_28 : List WrittenTemplate
set_28 = ((record { name = (codes "A"); id = None; around = (record { dictionary = None; type_ref = None }); members = written_list (written_field (codes "F") Kind.UInt32 Mandatory (record { operator = Operator.Plain; initial = None; dictionary = None; key = None }) ∷ []) }) ∷ (record { name = (codes "B"); id = None; around = (record { dictionary = None; type_ref = None }); members = written_list (written_group (codes "G") Mandatory (record { dictionary = None; type_ref = None }) (written_list (written_group (codes "G") Mandatory (record { dictionary = None; type_ref = None }) (written_list (written_group (codes "G") Mandatory (record { dictionary = None; type_ref = None }) (written_list (written_group (codes "G") Mandatory (record { dictionary = None; type_ref = None }) (written_list (written_group (codes "G") Mandatory (record { dictionary = None; type_ref = None }) (written_list (written_group (codes "G") Mandatory (record { dictionary = None; type_ref = None }) (written_list (written_group (codes "G") Mandatory (record { dictionary = None; type_ref = None }) (written_list (written_group (codes "G") Mandatory (record { dictionary = None; type_ref = None }) (written_list (written_group (codes "G") Mandatory (record { dictionary = None; type_ref = None }) (written_list (written_field (codes "F") Kind.UInt32 Mandatory (record { operator = Operator.Plain; initial = None; dictionary = None; key = None }) ∷ [])) ∷ [])) ∷ [])) ∷ [])) ∷ [])) ∷ [])) ∷ [])) ∷ [])) ∷ [])) ∷ []) }) ∷ (record { name = (codes "C"); id = None; around = (record { dictionary = None; type_ref = None }); members = written_list (written_reference (codes "B") ∷ []) }) ∷ [])

fault_28 : fault_of (nests_little 2) ≡ record { cause = LoadCause.TooDeep; template = 2; instruction = 0 }
fault_28 = refl

deep_28 : depth_of (stands_in set_28 4 (codes "B")) ≡ 9
deep_28 = refl

-- TooDeep of 1 by reference to later
abbrev set_29 : List WrittenTemplate
set_29 = ((record { name = (codes "A"); id = None; around = (record { dictionary = None; type_ref = None }); members = written_list (written_reference (codes "B") ∷ []) }) ∷ (record { name = (codes "B"); id = None; around = (record { dictionary = None; type_ref = None }); members = written_list (written_group (codes "G") Mandatory (record { dictionary = None; type_ref = None }) (written_list (written_group (codes "G") Mandatory (record { dictionary = None; type_ref = None }) (written_list (written_group (codes "G") Mandatory (record { dictionary = None; type_ref = None }) (written_list (written_group (codes "G") Mandatory (record { dictionary = None; type_ref = None }) (written_list (written_group (codes "G") Mandatory (record { dictionary = None; type_ref = None }) (written_list (written_group (codes "G") Mandatory (record { dictionary = None; type_ref = None }) (written_list (written_group (codes "G") Mandatory (record { dictionary = None; type_ref = None }) (written_list (written_group (codes "G") Mandatory (record { dictionary = None; type_ref = None }) (written_list (written_group (codes "G") Mandatory (record { dictionary = None; type_ref = None }) (written_list (written_field (codes "F") Kind.UInt32 Mandatory (record { operator = Operator.Plain; initial = None; dictionary = None; key = None }) ∷ [])) ∷ [])) ∷ [])) ∷ [])) ∷ [])) ∷ [])) ∷ [])) ∷ [])) ∷ [])) ∷ []) }) ∷ [])

fault_29 : fault_of (nests_little 1) ≡ record { cause = LoadCause.TooDeep; template = 1; instruction = 0 }
fault_29 = refl

deep_29 : depth_of (stands_in set_29 3 (codes "A")) ≡ 9
deep_29 = refl

-- TooMany of 1 before TooDeep of 2
abbrev set_30 : List WrittenTemplate
set_30 = ((record { name = (codes "N0"); id = None; around = (record { dictionary = None; type_ref = None }); members = written_list (written_reference (codes "N1") ∷ written_reference (codes "N1") ∷ []) }) ∷ (record { name = (codes "N1"); id = None; around = (record { dictionary = None; type_ref = None }); members = written_list (written_reference (codes "N2") ∷ written_reference (codes "N2") ∷ []) }) ∷ (record { name = (codes "N2"); id = None; around = (record { dictionary = None; type_ref = None }); members = written_list (written_reference (codes "N3") ∷ written_reference (codes "N3") ∷ []) }) ∷ (record { name = (codes "N3"); id = None; around = (record { dictionary = None; type_ref = None }); members = written_list (written_reference (codes "N4") ∷ written_reference (codes "N4") ∷ []) }) ∷ (record { name = (codes "N4"); id = None; around = (record { dictionary = None; type_ref = None }); members = written_list (written_reference (codes "N5") ∷ written_reference (codes "N5") ∷ []) }) ∷ (record { name = (codes "N5"); id = None; around = (record { dictionary = None; type_ref = None }); members = written_list (written_reference (codes "N6") ∷ written_reference (codes "N6") ∷ []) }) ∷ (record { name = (codes "N6"); id = None; around = (record { dictionary = None; type_ref = None }); members = written_list (written_reference (codes "N7") ∷ written_reference (codes "N7") ∷ []) }) ∷ (record { name = (codes "N7"); id = None; around = (record { dictionary = None; type_ref = None }); members = written_list (written_reference (codes "N8") ∷ written_reference (codes "N8") ∷ []) }) ∷ (record { name = (codes "N8"); id = None; around = (record { dictionary = None; type_ref = None }); members = written_list (written_reference (codes "N9") ∷ written_reference (codes "N9") ∷ []) }) ∷ (record { name = (codes "N9"); id = None; around = (record { dictionary = None; type_ref = None }); members = written_list (written_reference (codes "N10") ∷ written_reference (codes "N10") ∷ []) }) ∷ (record { name = (codes "N10"); id = None; around = (record { dictionary = None; type_ref = None }); members = written_list (written_reference (codes "N11") ∷ written_reference (codes "N11") ∷ []) }) ∷ (record { name = (codes "N11"); id = None; around = (record { dictionary = None; type_ref = None }); members = written_list (written_reference (codes "N12") ∷ written_reference (codes "N12") ∷ []) }) ∷ (record { name = (codes "N12"); id = None; around = (record { dictionary = None; type_ref = None }); members = written_list (written_reference (codes "N13") ∷ written_reference (codes "N13") ∷ []) }) ∷ (record { name = (codes "N13"); id = None; around = (record { dictionary = None; type_ref = None }); members = written_list (written_reference (codes "N14") ∷ written_reference (codes "N14") ∷ []) }) ∷ (record { name = (codes "N14"); id = None; around = (record { dictionary = None; type_ref = None }); members = written_list (written_reference (codes "N15") ∷ written_reference (codes "N15") ∷ []) }) ∷ (record { name = (codes "N15"); id = None; around = (record { dictionary = None; type_ref = None }); members = written_list (written_reference (codes "N16") ∷ written_reference (codes "N16") ∷ []) }) ∷ (record { name = (codes "N16"); id = None; around = (record { dictionary = None; type_ref = None }); members = written_list (written_field (codes "F") Kind.UInt32 Mandatory (record { operator = Operator.Plain; initial = None; dictionary = None; key = None }) ∷ []) }) ∷ (record { name = (codes "D"); id = None; around = (record { dictionary = None; type_ref = None }); members = written_list (written_group (codes "G") Mandatory (record { dictionary = None; type_ref = None }) (written_list (written_group (codes "G") Mandatory (record { dictionary = None; type_ref = None }) (written_list (written_group (codes "G") Mandatory (record { dictionary = None; type_ref = None }) (written_list (written_group (codes "G") Mandatory (record { dictionary = None; type_ref = None }) (written_list (written_group (codes "G") Mandatory (record { dictionary = None; type_ref = None }) (written_list (written_group (codes "G") Mandatory (record { dictionary = None; type_ref = None }) (written_list (written_group (codes "G") Mandatory (record { dictionary = None; type_ref = None }) (written_list (written_group (codes "G") Mandatory (record { dictionary = None; type_ref = None }) (written_list (written_group (codes "G") Mandatory (record { dictionary = None; type_ref = None }) (written_list (written_field (codes "F") Kind.UInt32 Mandatory (record { operator = Operator.Plain; initial = None; dictionary = None; key = None }) ∷ [])) ∷ [])) ∷ [])) ∷ [])) ∷ [])) ∷ [])) ∷ [])) ∷ [])) ∷ [])) ∷ []) }) ∷ [])

fault_30 : fault_of (sum_small 1) ≡ record { cause = LoadCause.TooMany; template = 1; instruction = 0 }
fault_30 = refl

-- TooDeep of template before its TooMany
abbrev set_31 : List WrittenTemplate
set_31 = ((record { name = (codes "N0"); id = None; around = (record { dictionary = None; type_ref = None }); members = written_list (written_group (codes "G") Mandatory (record { dictionary = None; type_ref = None }) (written_list (written_group (codes "G") Mandatory (record { dictionary = None; type_ref = None }) (written_list (written_group (codes "G") Mandatory (record { dictionary = None; type_ref = None }) (written_list (written_group (codes "G") Mandatory (record { dictionary = None; type_ref = None }) (written_list (written_group (codes "G") Mandatory (record { dictionary = None; type_ref = None }) (written_list (written_group (codes "G") Mandatory (record { dictionary = None; type_ref = None }) (written_list (written_group (codes "G") Mandatory (record { dictionary = None; type_ref = None }) (written_list (written_group (codes "G") Mandatory (record { dictionary = None; type_ref = None }) (written_list (written_group (codes "G") Mandatory (record { dictionary = None; type_ref = None }) (written_list (written_field (codes "F") Kind.UInt32 Mandatory (record { operator = Operator.Plain; initial = None; dictionary = None; key = None }) ∷ [])) ∷ [])) ∷ [])) ∷ [])) ∷ [])) ∷ [])) ∷ [])) ∷ [])) ∷ [])) ∷ written_reference (codes "N1") ∷ written_reference (codes "N1") ∷ []) }) ∷ (record { name = (codes "N1"); id = None; around = (record { dictionary = None; type_ref = None }); members = written_list (written_reference (codes "N2") ∷ written_reference (codes "N2") ∷ []) }) ∷ (record { name = (codes "N2"); id = None; around = (record { dictionary = None; type_ref = None }); members = written_list (written_reference (codes "N3") ∷ written_reference (codes "N3") ∷ []) }) ∷ (record { name = (codes "N3"); id = None; around = (record { dictionary = None; type_ref = None }); members = written_list (written_reference (codes "N4") ∷ written_reference (codes "N4") ∷ []) }) ∷ (record { name = (codes "N4"); id = None; around = (record { dictionary = None; type_ref = None }); members = written_list (written_reference (codes "N5") ∷ written_reference (codes "N5") ∷ []) }) ∷ (record { name = (codes "N5"); id = None; around = (record { dictionary = None; type_ref = None }); members = written_list (written_reference (codes "N6") ∷ written_reference (codes "N6") ∷ []) }) ∷ (record { name = (codes "N6"); id = None; around = (record { dictionary = None; type_ref = None }); members = written_list (written_reference (codes "N7") ∷ written_reference (codes "N7") ∷ []) }) ∷ (record { name = (codes "N7"); id = None; around = (record { dictionary = None; type_ref = None }); members = written_list (written_reference (codes "N8") ∷ written_reference (codes "N8") ∷ []) }) ∷ (record { name = (codes "N8"); id = None; around = (record { dictionary = None; type_ref = None }); members = written_list (written_reference (codes "N9") ∷ written_reference (codes "N9") ∷ []) }) ∷ (record { name = (codes "N9"); id = None; around = (record { dictionary = None; type_ref = None }); members = written_list (written_reference (codes "N10") ∷ written_reference (codes "N10") ∷ []) }) ∷ (record { name = (codes "N10"); id = None; around = (record { dictionary = None; type_ref = None }); members = written_list (written_reference (codes "N11") ∷ written_reference (codes "N11") ∷ []) }) ∷ (record { name = (codes "N11"); id = None; around = (record { dictionary = None; type_ref = None }); members = written_list (written_reference (codes "N12") ∷ written_reference (codes "N12") ∷ []) }) ∷ (record { name = (codes "N12"); id = None; around = (record { dictionary = None; type_ref = None }); members = written_list (written_reference (codes "N13") ∷ written_reference (codes "N13") ∷ []) }) ∷ (record { name = (codes "N13"); id = None; around = (record { dictionary = None; type_ref = None }); members = written_list (written_reference (codes "N14") ∷ written_reference (codes "N14") ∷ []) }) ∷ (record { name = (codes "N14"); id = None; around = (record { dictionary = None; type_ref = None }); members = written_list (written_reference (codes "N15") ∷ written_reference (codes "N15") ∷ []) }) ∷ (record { name = (codes "N15"); id = None; around = (record { dictionary = None; type_ref = None }); members = written_list (written_reference (codes "N16") ∷ written_reference (codes "N16") ∷ []) }) ∷ (record { name = (codes "N16"); id = None; around = (record { dictionary = None; type_ref = None }); members = written_list (written_field (codes "F") Kind.UInt32 Mandatory (record { operator = Operator.Plain; initial = None; dictionary = None; key = None }) ∷ []) }) ∷ [])

fault_31 : fault_of (nests_little 1) ≡ record { cause = LoadCause.TooDeep; template = 1; instruction = 0 }
fault_31 = refl

deep_31 : depth_of (stands_in set_31 18 (codes "N0")) ≡ 9
deep_31 = refl

-- N1..N16 chain: 2^15 in N1, sum 65,535 accepted
abbrev set_32 : List WrittenTemplate
set_32 = ((record { name = (codes "N1"); id = None; around = (record { dictionary = None; type_ref = None }); members = written_list (written_reference (codes "N2") ∷ written_reference (codes "N2") ∷ []) }) ∷ (record { name = (codes "N2"); id = None; around = (record { dictionary = None; type_ref = None }); members = written_list (written_reference (codes "N3") ∷ written_reference (codes "N3") ∷ []) }) ∷ (record { name = (codes "N3"); id = None; around = (record { dictionary = None; type_ref = None }); members = written_list (written_reference (codes "N4") ∷ written_reference (codes "N4") ∷ []) }) ∷ (record { name = (codes "N4"); id = None; around = (record { dictionary = None; type_ref = None }); members = written_list (written_reference (codes "N5") ∷ written_reference (codes "N5") ∷ []) }) ∷ (record { name = (codes "N5"); id = None; around = (record { dictionary = None; type_ref = None }); members = written_list (written_reference (codes "N6") ∷ written_reference (codes "N6") ∷ []) }) ∷ (record { name = (codes "N6"); id = None; around = (record { dictionary = None; type_ref = None }); members = written_list (written_reference (codes "N7") ∷ written_reference (codes "N7") ∷ []) }) ∷ (record { name = (codes "N7"); id = None; around = (record { dictionary = None; type_ref = None }); members = written_list (written_reference (codes "N8") ∷ written_reference (codes "N8") ∷ []) }) ∷ (record { name = (codes "N8"); id = None; around = (record { dictionary = None; type_ref = None }); members = written_list (written_reference (codes "N9") ∷ written_reference (codes "N9") ∷ []) }) ∷ (record { name = (codes "N9"); id = None; around = (record { dictionary = None; type_ref = None }); members = written_list (written_reference (codes "N10") ∷ written_reference (codes "N10") ∷ []) }) ∷ (record { name = (codes "N10"); id = None; around = (record { dictionary = None; type_ref = None }); members = written_list (written_reference (codes "N11") ∷ written_reference (codes "N11") ∷ []) }) ∷ (record { name = (codes "N11"); id = None; around = (record { dictionary = None; type_ref = None }); members = written_list (written_reference (codes "N12") ∷ written_reference (codes "N12") ∷ []) }) ∷ (record { name = (codes "N12"); id = None; around = (record { dictionary = None; type_ref = None }); members = written_list (written_reference (codes "N13") ∷ written_reference (codes "N13") ∷ []) }) ∷ (record { name = (codes "N13"); id = None; around = (record { dictionary = None; type_ref = None }); members = written_list (written_reference (codes "N14") ∷ written_reference (codes "N14") ∷ []) }) ∷ (record { name = (codes "N14"); id = None; around = (record { dictionary = None; type_ref = None }); members = written_list (written_reference (codes "N15") ∷ written_reference (codes "N15") ∷ []) }) ∷ (record { name = (codes "N15"); id = None; around = (record { dictionary = None; type_ref = None }); members = written_list (written_reference (codes "N16") ∷ written_reference (codes "N16") ∷ []) }) ∷ (record { name = (codes "N16"); id = (Some 7); around = (record { dictionary = None; type_ref = None }); members = written_list (written_field (codes "F") Kind.UInt32 Mandatory (record { operator = Operator.Plain; initial = None; dictionary = None; key = None }) ∷ []) }) ∷ [])

flat_32_15 : numbered 1 (stands_in set_32 17 (codes "N16")) ≡ (instructions_of (whole_field (codes "F") 1 Mandatory (record { number = 1; part = Part.Whole; kind = Kind.UInt32; presence = Mandatory; operator = Operator.Plain; initial = None; key = record { slot = 0; scope = Scope.Global; name = (codes "F"); part = Part.Whole } }) ∷ []))
flat_32_15 = refl

bits_32_15 : bits_all (stands_in set_32 17 (codes "N16")) ≡ (false ∷ [])
bits_32_15 = refl

-- same, one more field
abbrev set_33 : List WrittenTemplate
set_33 = ((record { name = (codes "N1"); id = None; around = (record { dictionary = None; type_ref = None }); members = written_list (written_reference (codes "N2") ∷ written_reference (codes "N2") ∷ []) }) ∷ (record { name = (codes "N2"); id = None; around = (record { dictionary = None; type_ref = None }); members = written_list (written_reference (codes "N3") ∷ written_reference (codes "N3") ∷ []) }) ∷ (record { name = (codes "N3"); id = None; around = (record { dictionary = None; type_ref = None }); members = written_list (written_reference (codes "N4") ∷ written_reference (codes "N4") ∷ []) }) ∷ (record { name = (codes "N4"); id = None; around = (record { dictionary = None; type_ref = None }); members = written_list (written_reference (codes "N5") ∷ written_reference (codes "N5") ∷ []) }) ∷ (record { name = (codes "N5"); id = None; around = (record { dictionary = None; type_ref = None }); members = written_list (written_reference (codes "N6") ∷ written_reference (codes "N6") ∷ []) }) ∷ (record { name = (codes "N6"); id = None; around = (record { dictionary = None; type_ref = None }); members = written_list (written_reference (codes "N7") ∷ written_reference (codes "N7") ∷ []) }) ∷ (record { name = (codes "N7"); id = None; around = (record { dictionary = None; type_ref = None }); members = written_list (written_reference (codes "N8") ∷ written_reference (codes "N8") ∷ []) }) ∷ (record { name = (codes "N8"); id = None; around = (record { dictionary = None; type_ref = None }); members = written_list (written_reference (codes "N9") ∷ written_reference (codes "N9") ∷ []) }) ∷ (record { name = (codes "N9"); id = None; around = (record { dictionary = None; type_ref = None }); members = written_list (written_reference (codes "N10") ∷ written_reference (codes "N10") ∷ []) }) ∷ (record { name = (codes "N10"); id = None; around = (record { dictionary = None; type_ref = None }); members = written_list (written_reference (codes "N11") ∷ written_reference (codes "N11") ∷ []) }) ∷ (record { name = (codes "N11"); id = None; around = (record { dictionary = None; type_ref = None }); members = written_list (written_reference (codes "N12") ∷ written_reference (codes "N12") ∷ []) }) ∷ (record { name = (codes "N12"); id = None; around = (record { dictionary = None; type_ref = None }); members = written_list (written_reference (codes "N13") ∷ written_reference (codes "N13") ∷ []) }) ∷ (record { name = (codes "N13"); id = None; around = (record { dictionary = None; type_ref = None }); members = written_list (written_reference (codes "N14") ∷ written_reference (codes "N14") ∷ []) }) ∷ (record { name = (codes "N14"); id = None; around = (record { dictionary = None; type_ref = None }); members = written_list (written_reference (codes "N15") ∷ written_reference (codes "N15") ∷ []) }) ∷ (record { name = (codes "N15"); id = None; around = (record { dictionary = None; type_ref = None }); members = written_list (written_reference (codes "N16") ∷ written_reference (codes "N16") ∷ []) }) ∷ (record { name = (codes "N16"); id = None; around = (record { dictionary = None; type_ref = None }); members = written_list (written_field (codes "F") Kind.UInt32 Mandatory (record { operator = Operator.Plain; initial = None; dictionary = None; key = None }) ∷ []) }) ∷ (record { name = (codes "Z"); id = None; around = (record { dictionary = None; type_ref = None }); members = written_list (written_field (codes "F") Kind.UInt32 Mandatory (record { operator = Operator.Plain; initial = None; dictionary = None; key = None }) ∷ []) }) ∷ [])

fault_33 : fault_of (sum_small 17) ≡ record { cause = LoadCause.TooMany; template = 17; instruction = 0 }
fault_33 = refl

-- groups count, nested in a doubled template
abbrev set_34 : List WrittenTemplate
set_34 = ((record { name = (codes "A"); id = (Some 1); around = (record { dictionary = None; type_ref = None }); members = written_list (written_reference (codes "B") ∷ written_reference (codes "B") ∷ []) }) ∷ (record { name = (codes "B"); id = None; around = (record { dictionary = None; type_ref = None }); members = written_list (written_group (codes "g") Mandatory (record { dictionary = None; type_ref = None }) (written_list (written_field (codes "F") Kind.UInt32 Mandatory (record { operator = Operator.Plain; initial = None; dictionary = None; key = None }) ∷ written_sequence (codes "q") Mandatory (record { dictionary = None; type_ref = None }) None (record { operator = Operator.Plain; initial = None; dictionary = None; key = None }) (written_list (written_field (codes "F") Kind.UInt32 Mandatory (record { operator = Operator.Plain; initial = None; dictionary = None; key = None }) ∷ [])) ∷ [])) ∷ []) }) ∷ [])

flat_34_0 : numbered 1 (stands_in set_34 3 (codes "A")) ≡ (instructions_of (group_of (codes "g") 1 Mandatory (instructions_of (whole_field (codes "F") 2 Mandatory (record { number = 2; part = Part.Whole; kind = Kind.UInt32; presence = Mandatory; operator = Operator.Plain; initial = None; key = record { slot = 0; scope = Scope.Global; name = (codes "F"); part = Part.Whole } }) ∷ sequence_of (codes "q") 3 Mandatory (record { number = 3; part = Part.Length; kind = Kind.UInt32; presence = Mandatory; operator = Operator.Plain; initial = None; key = record { slot = 0; scope = Scope.Global; name = (codes "q"); part = Part.Length } }) (instructions_of (whole_field (codes "F") 4 Mandatory (record { number = 4; part = Part.Whole; kind = Kind.UInt32; presence = Mandatory; operator = Operator.Plain; initial = None; key = record { slot = 0; scope = Scope.Global; name = (codes "F"); part = Part.Whole } }) ∷ [])) ∷ [])) ∷ group_of (codes "g") 5 Mandatory (instructions_of (whole_field (codes "F") 6 Mandatory (record { number = 6; part = Part.Whole; kind = Kind.UInt32; presence = Mandatory; operator = Operator.Plain; initial = None; key = record { slot = 0; scope = Scope.Global; name = (codes "F"); part = Part.Whole } }) ∷ sequence_of (codes "q") 7 Mandatory (record { number = 7; part = Part.Length; kind = Kind.UInt32; presence = Mandatory; operator = Operator.Plain; initial = None; key = record { slot = 0; scope = Scope.Global; name = (codes "q"); part = Part.Length } }) (instructions_of (whole_field (codes "F") 8 Mandatory (record { number = 8; part = Part.Whole; kind = Kind.UInt32; presence = Mandatory; operator = Operator.Plain; initial = None; key = record { slot = 0; scope = Scope.Global; name = (codes "F"); part = Part.Whole } }) ∷ [])) ∷ [])) ∷ []))
flat_34_0 = refl

bits_34_0 : bits_all (stands_in set_34 3 (codes "A")) ≡ (false ∷ false ∷ false ∷ false ∷ false ∷ false ∷ false ∷ false ∷ false ∷ false ∷ false ∷ false ∷ [])
bits_34_0 = refl

-- scopes
abbrev set_35 : List WrittenTemplate
set_35 = ((record { name = (codes "A"); id = (Some 1); around = (record { dictionary = (Some (codes "template")); type_ref = None }); members = written_list (written_field (codes "a") Kind.UInt32 Mandatory (record { operator = Operator.Copy; initial = None; dictionary = None; key = None }) ∷ written_group (codes "g") Mandatory (record { dictionary = (Some (codes "type")); type_ref = (Some (codes "T")) }) (written_list (written_field (codes "a") Kind.UInt32 Mandatory (record { operator = Operator.Copy; initial = None; dictionary = None; key = None }) ∷ written_field (codes "a") Kind.UInt32 Mandatory (record { operator = Operator.Copy; initial = None; dictionary = (Some (codes "global")); key = None }) ∷ written_sequence (codes "s") Mandatory (record { dictionary = None; type_ref = (Some (codes "any")) }) None (record { operator = Operator.Copy; initial = None; dictionary = (Some (codes "template")); key = None }) (written_list (written_field (codes "a") Kind.UInt32 Mandatory (record { operator = Operator.Copy; initial = None; dictionary = (Some (codes "type")); key = None }) ∷ written_reference (codes "B") ∷ [])) ∷ [])) ∷ written_reference (codes "B") ∷ []) }) ∷ (record { name = (codes "B"); id = (Some 2); around = (record { dictionary = None; type_ref = (Some (codes "U")) }); members = written_list (written_field (codes "a") Kind.UInt32 Mandatory (record { operator = Operator.Copy; initial = None; dictionary = None; key = None }) ∷ written_field (codes "a") Kind.UInt32 Mandatory (record { operator = Operator.Copy; initial = None; dictionary = (Some (codes "template")); key = None }) ∷ written_field (codes "a") Kind.UInt32 Mandatory (record { operator = Operator.Copy; initial = None; dictionary = (Some (codes "type")); key = None }) ∷ []) }) ∷ [])

flat_35_0 : numbered 1 (stands_in set_35 3 (codes "A")) ≡ (instructions_of (whole_field (codes "a") 1 Mandatory (record { number = 1; part = Part.Whole; kind = Kind.UInt32; presence = Mandatory; operator = Operator.Copy; initial = None; key = record { slot = 0; scope = (Scope.Template 1); name = (codes "a"); part = Part.Whole } }) ∷ group_of (codes "g") 2 Mandatory (instructions_of (whole_field (codes "a") 3 Mandatory (record { number = 3; part = Part.Whole; kind = Kind.UInt32; presence = Mandatory; operator = Operator.Copy; initial = None; key = record { slot = 0; scope = (Scope.Typed (codes "T")); name = (codes "a"); part = Part.Whole } }) ∷ whole_field (codes "a") 4 Mandatory (record { number = 4; part = Part.Whole; kind = Kind.UInt32; presence = Mandatory; operator = Operator.Copy; initial = None; key = record { slot = 0; scope = Scope.Global; name = (codes "a"); part = Part.Whole } }) ∷ sequence_of (codes "s") 5 Mandatory (record { number = 5; part = Part.Length; kind = Kind.UInt32; presence = Mandatory; operator = Operator.Copy; initial = None; key = record { slot = 0; scope = (Scope.Template 1); name = (codes "s"); part = Part.Length } }) (instructions_of (whole_field (codes "a") 6 Mandatory (record { number = 6; part = Part.Whole; kind = Kind.UInt32; presence = Mandatory; operator = Operator.Copy; initial = None; key = record { slot = 0; scope = (Scope.Typed (codes "any")); name = (codes "a"); part = Part.Whole } }) ∷ whole_field (codes "a") 7 Mandatory (record { number = 7; part = Part.Whole; kind = Kind.UInt32; presence = Mandatory; operator = Operator.Copy; initial = None; key = record { slot = 0; scope = Scope.Global; name = (codes "a"); part = Part.Whole } }) ∷ whole_field (codes "a") 8 Mandatory (record { number = 8; part = Part.Whole; kind = Kind.UInt32; presence = Mandatory; operator = Operator.Copy; initial = None; key = record { slot = 0; scope = (Scope.Template 2); name = (codes "a"); part = Part.Whole } }) ∷ whole_field (codes "a") 9 Mandatory (record { number = 9; part = Part.Whole; kind = Kind.UInt32; presence = Mandatory; operator = Operator.Copy; initial = None; key = record { slot = 0; scope = (Scope.Typed (codes "U")); name = (codes "a"); part = Part.Whole } }) ∷ [])) ∷ [])) ∷ whole_field (codes "a") 10 Mandatory (record { number = 10; part = Part.Whole; kind = Kind.UInt32; presence = Mandatory; operator = Operator.Copy; initial = None; key = record { slot = 0; scope = Scope.Global; name = (codes "a"); part = Part.Whole } }) ∷ whole_field (codes "a") 11 Mandatory (record { number = 11; part = Part.Whole; kind = Kind.UInt32; presence = Mandatory; operator = Operator.Copy; initial = None; key = record { slot = 0; scope = (Scope.Template 2); name = (codes "a"); part = Part.Whole } }) ∷ whole_field (codes "a") 12 Mandatory (record { number = 12; part = Part.Whole; kind = Kind.UInt32; presence = Mandatory; operator = Operator.Copy; initial = None; key = record { slot = 0; scope = (Scope.Typed (codes "U")); name = (codes "a"); part = Part.Whole } }) ∷ []))
flat_35_0 = refl

bits_35_0 : bits_all (stands_in set_35 3 (codes "A")) ≡ (true ∷ false ∷ true ∷ true ∷ true ∷ true ∷ true ∷ true ∷ true ∷ true ∷ true ∷ true ∷ true ∷ true ∷ [])
bits_35_0 = refl

flat_35_1 : numbered 1 (stands_in set_35 3 (codes "B")) ≡ (instructions_of (whole_field (codes "a") 1 Mandatory (record { number = 1; part = Part.Whole; kind = Kind.UInt32; presence = Mandatory; operator = Operator.Copy; initial = None; key = record { slot = 0; scope = Scope.Global; name = (codes "a"); part = Part.Whole } }) ∷ whole_field (codes "a") 2 Mandatory (record { number = 2; part = Part.Whole; kind = Kind.UInt32; presence = Mandatory; operator = Operator.Copy; initial = None; key = record { slot = 0; scope = (Scope.Template 2); name = (codes "a"); part = Part.Whole } }) ∷ whole_field (codes "a") 3 Mandatory (record { number = 3; part = Part.Whole; kind = Kind.UInt32; presence = Mandatory; operator = Operator.Copy; initial = None; key = record { slot = 0; scope = (Scope.Typed (codes "U")); name = (codes "a"); part = Part.Whole } }) ∷ []))
flat_35_1 = refl

bits_35_1 : bits_all (stands_in set_35 3 (codes "B")) ≡ (true ∷ true ∷ true ∷ [])
bits_35_1 = refl

-- length key, name and none
abbrev set_36 : List WrittenTemplate
set_36 = ((record { name = (codes "A"); id = (Some 1); around = (record { dictionary = None; type_ref = None }); members = written_list (written_sequence (codes "L") Mandatory (record { dictionary = None; type_ref = None }) None (record { operator = Operator.Copy; initial = None; dictionary = None; key = None }) (written_list (written_field (codes "L") Kind.UInt32 Mandatory (record { operator = Operator.Copy; initial = None; dictionary = None; key = None }) ∷ [])) ∷ written_sequence (codes "M") Mandatory (record { dictionary = None; type_ref = None }) (Some (codes "L")) (record { operator = Operator.Copy; initial = None; dictionary = None; key = None }) (written_list ([])) ∷ written_sequence (codes "L") Mandatory (record { dictionary = (Some (codes "D")); type_ref = None }) (Some (codes "N")) (record { operator = Operator.Copy; initial = None; dictionary = None; key = (Some (codes "L")) }) (written_list ([])) ∷ []) }) ∷ [])

flat_36_0 : numbered 1 (stands_in set_36 2 (codes "A")) ≡ (instructions_of (sequence_of (codes "L") 1 Mandatory (record { number = 1; part = Part.Length; kind = Kind.UInt32; presence = Mandatory; operator = Operator.Copy; initial = None; key = record { slot = 0; scope = Scope.Global; name = (codes "L"); part = Part.Length } }) (instructions_of (whole_field (codes "L") 2 Mandatory (record { number = 2; part = Part.Whole; kind = Kind.UInt32; presence = Mandatory; operator = Operator.Copy; initial = None; key = record { slot = 0; scope = Scope.Global; name = (codes "L"); part = Part.Whole } }) ∷ [])) ∷ sequence_of (codes "M") 3 Mandatory (record { number = 3; part = Part.Length; kind = Kind.UInt32; presence = Mandatory; operator = Operator.Copy; initial = None; key = record { slot = 0; scope = Scope.Global; name = (codes "L"); part = Part.Whole } }) (instructions_of ([])) ∷ sequence_of (codes "L") 4 Mandatory (record { number = 4; part = Part.Length; kind = Kind.UInt32; presence = Mandatory; operator = Operator.Copy; initial = None; key = record { slot = 0; scope = (Scope.User (codes "D")); name = (codes "L"); part = Part.Whole } }) (instructions_of ([])) ∷ []))
flat_36_0 = refl

bits_36_0 : bits_all (stands_in set_36 2 (codes "A")) ≡ (true ∷ true ∷ true ∷ true ∷ false ∷ true ∷ false ∷ [])
bits_36_0 = refl

-- decimal parts keys
abbrev set_37 : List WrittenTemplate
set_37 = ((record { name = (codes "A"); id = (Some 3); around = (record { dictionary = (Some (codes "D")); type_ref = None }); members = written_list (written_parts (codes "P") Mandatory (record { operator = Operator.Copy; initial = None; dictionary = None; key = None }) (record { operator = Operator.Copy; initial = None; dictionary = (Some (codes "template")); key = None }) ∷ written_field (codes "P") Kind.Decimal Mandatory (record { operator = Operator.Copy; initial = None; dictionary = None; key = None }) ∷ written_parts (codes "P") Mandatory (record { operator = Operator.Copy; initial = None; dictionary = None; key = (Some (codes "P")) }) (record { operator = Operator.Plain; initial = None; dictionary = None; key = None }) ∷ []) }) ∷ [])

flat_37_0 : numbered 1 (stands_in set_37 2 (codes "A")) ≡ (instructions_of (field_in_parts (codes "P") 1 Mandatory (record { number = 1; part = Part.Exponent; kind = Kind.Int32; presence = Mandatory; operator = Operator.Copy; initial = None; key = record { slot = 0; scope = (Scope.User (codes "D")); name = (codes "P"); part = Part.Exponent } }) (record { number = 1; part = Part.Mantissa; kind = Kind.Int64; presence = Mandatory; operator = Operator.Copy; initial = None; key = record { slot = 0; scope = (Scope.Template 1); name = (codes "P"); part = Part.Mantissa } }) ∷ whole_field (codes "P") 2 Mandatory (record { number = 2; part = Part.Whole; kind = Kind.Decimal; presence = Mandatory; operator = Operator.Copy; initial = None; key = record { slot = 0; scope = (Scope.User (codes "D")); name = (codes "P"); part = Part.Whole } }) ∷ field_in_parts (codes "P") 3 Mandatory (record { number = 3; part = Part.Exponent; kind = Kind.Int32; presence = Mandatory; operator = Operator.Copy; initial = None; key = record { slot = 0; scope = (Scope.User (codes "D")); name = (codes "P"); part = Part.Whole } }) (record { number = 3; part = Part.Mantissa; kind = Kind.Int64; presence = Mandatory; operator = Operator.Plain; initial = None; key = record { slot = 0; scope = (Scope.User (codes "D")); name = (codes "P"); part = Part.Mantissa } }) ∷ []))
flat_37_0 = refl

bits_37_0 : bits_all (stands_in set_37 2 (codes "A")) ≡ (true ∷ true ∷ true ∷ [])
bits_37_0 = refl

-- decimal values
abbrev set_38 : List WrittenTemplate
set_38 = ((record { name = (codes "A"); id = (Some 1); around = (record { dictionary = None; type_ref = None }); members = written_list (written_field (codes "P") Kind.Decimal Mandatory (record { operator = Operator.Default; initial = (Some (codes "-9223372036854775808e-63")); dictionary = None; key = None }) ∷ written_field (codes "Q") Kind.Decimal Mandatory (record { operator = Operator.Default; initial = (Some (codes "-0e063")); dictionary = None; key = None }) ∷ []) }) ∷ [])

flat_38_0 : numbered 1 (stands_in set_38 2 (codes "A")) ≡ (instructions_of (whole_field (codes "P") 1 Mandatory (record { number = 1; part = Part.Whole; kind = Kind.Decimal; presence = Mandatory; operator = Operator.Default; initial = (Some (Scalar.Decimal (negsuc 62) (negsuc 9223372036854775807))); key = record { slot = 0; scope = Scope.Global; name = (codes "P"); part = Part.Whole } }) ∷ whole_field (codes "Q") 2 Mandatory (record { number = 2; part = Part.Whole; kind = Kind.Decimal; presence = Mandatory; operator = Operator.Default; initial = (Some (Scalar.Decimal (pos 63) (pos 0))); key = record { slot = 0; scope = Scope.Global; name = (codes "Q"); part = Part.Whole } }) ∷ []))
flat_38_0 = refl

bits_38_0 : bits_all (stands_in set_38 2 (codes "A")) ≡ (true ∷ true ∷ [])
bits_38_0 = refl

-- decimal value 1e-64
abbrev set_39 : List WrittenTemplate
set_39 = ((record { name = (codes "A"); id = None; around = (record { dictionary = None; type_ref = None }); members = written_list (written_field (codes "P") Kind.Decimal Mandatory (record { operator = Operator.Default; initial = (Some (codes "1e-64")); dictionary = None; key = None }) ∷ []) }) ∷ [])

fault_39 : fault_of (value_spelled 1 1 0) ≡ record { cause = LoadCause.S3; template = 1; instruction = 1 }
fault_39 = refl

fails_39 : Fails set_39 (value_spelled 1 1 0)
fails_39 = (_, _, (_, (_, refl, refl), refl), refl, refl)

-- decimal value two e
abbrev set_40 : List WrittenTemplate
set_40 = ((record { name = (codes "A"); id = None; around = (record { dictionary = None; type_ref = None }); members = written_list (written_field (codes "P") Kind.Decimal Mandatory (record { operator = Operator.Copy; initial = (Some (codes "1e2e3")); dictionary = None; key = None }) ∷ []) }) ∷ [])

fault_40 : fault_of (value_spelled 1 1 0) ≡ record { cause = LoadCause.S3; template = 1; instruction = 1 }
fault_40 = refl

fails_40 : Fails set_40 (value_spelled 1 1 0)
fails_40 = (_, _, (_, (_, refl, refl), refl), refl, refl)

-- decimal value e2
abbrev set_41 : List WrittenTemplate
set_41 = ((record { name = (codes "A"); id = None; around = (record { dictionary = None; type_ref = None }); members = written_list (written_field (codes "P") Kind.Decimal Mandatory (record { operator = Operator.Copy; initial = (Some (codes "e2")); dictionary = None; key = None }) ∷ []) }) ∷ [])

fault_41 : fault_of (value_spelled 1 1 0) ≡ record { cause = LoadCause.S3; template = 1; instruction = 1 }
fault_41 = refl

fails_41 : Fails set_41 (value_spelled 1 1 0)
fails_41 = (_, _, (_, (_, refl, refl), refl), refl, refl)

-- decimal -e-
abbrev set_42 : List WrittenTemplate
set_42 = ((record { name = (codes "A"); id = None; around = (record { dictionary = None; type_ref = None }); members = written_list (written_field (codes "P") Kind.Decimal Mandatory (record { operator = Operator.Copy; initial = (Some (codes "-e-")); dictionary = None; key = None }) ∷ []) }) ∷ [])

fault_42 : fault_of (value_spelled 1 1 0) ≡ record { cause = LoadCause.S3; template = 1; instruction = 1 }
fault_42 = refl

fails_42 : Fails set_42 (value_spelled 1 1 0)
fails_42 = (_, _, (_, (_, refl, refl), refl), refl, refl)

-- --
abbrev set_43 : List WrittenTemplate
set_43 = ((record { name = (codes "A"); id = None; around = (record { dictionary = None; type_ref = None }); members = written_list (written_field (codes "P") Kind.Int32 Mandatory (record { operator = Operator.Copy; initial = (Some (codes "--1")); dictionary = None; key = None }) ∷ []) }) ∷ [])

fault_43 : fault_of (value_spelled 1 1 0) ≡ record { cause = LoadCause.S3; template = 1; instruction = 1 }
fault_43 = refl

fails_43 : Fails set_43 (value_spelled 1 1 0)
fails_43 = (_, _, (_, (_, refl, refl), refl), refl, refl)

-- arabic digits
abbrev set_44 : List WrittenTemplate
set_44 = ((record { name = (codes "A"); id = None; around = (record { dictionary = None; type_ref = None }); members = written_list (written_field (codes "P") Kind.Int32 Mandatory (record { operator = Operator.Copy; initial = (Some (217 ∷ 163 ∷ [])); dictionary = None; key = None }) ∷ []) }) ∷ [])

fault_44 : fault_of (value_spelled 1 1 0) ≡ record { cause = LoadCause.S3; template = 1; instruction = 1 }
fault_44 = refl

fails_44 : Fails set_44 (value_spelled 1 1 0)
fails_44 = (_, _, (_, (_, refl, refl), refl), refl, refl)

-- bytes 0g
abbrev set_45 : List WrittenTemplate
set_45 = ((record { name = (codes "A"); id = None; around = (record { dictionary = None; type_ref = None }); members = written_list (written_field (codes "P") Kind.Bytes Mandatory (record { operator = Operator.Copy; initial = (Some (codes "0g")); dictionary = None; key = None }) ∷ []) }) ∷ [])

fault_45 : fault_of (value_spelled 1 1 0) ≡ record { cause = LoadCause.S3; template = 1; instruction = 1 }
fault_45 = refl

fails_45 : Fails set_45 (value_spelled 1 1 0)
fails_45 = (_, _, (_, (_, refl, refl), refl), refl, refl)

-- S4 before S3? constant with bad value is S3
abbrev set_46 : List WrittenTemplate
set_46 = ((record { name = (codes "A"); id = None; around = (record { dictionary = None; type_ref = None }); members = written_list (written_field (codes "F") Kind.UInt32 Mandatory (record { operator = Operator.Constant; initial = (Some (codes "x")); dictionary = None; key = None }) ∷ []) }) ∷ [])

fault_46 : fault_of (value_spelled 1 1 0) ≡ record { cause = LoadCause.S3; template = 1; instruction = 1 }
fault_46 = refl

fails_46 : Fails set_46 (value_spelled 1 1 0)
fails_46 = (_, _, (_, (_, refl, refl), refl), refl, refl)

-- S2 before S4: no, increment is not constant; string increment with bad value is S2
abbrev set_47 : List WrittenTemplate
set_47 = ((record { name = (codes "A"); id = None; around = (record { dictionary = None; type_ref = None }); members = written_list (written_field (codes "s") Kind.Ascii Mandatory (record { operator = Operator.Increment; initial = (Some (195 ∷ 169 ∷ [])); dictionary = None; key = None }) ∷ []) }) ∷ [])

fault_47 : fault_of (operator_allowed 1 1 0) ≡ record { cause = LoadCause.S2; template = 1; instruction = 1 }
fault_47 = refl

fails_47 : Fails set_47 (operator_allowed 1 1 0)
fails_47 = (_, (_, (_, refl, refl), refl), refl)

-- decimal tail
abbrev set_48 : List WrittenTemplate
set_48 = ((record { name = (codes "A"); id = None; around = (record { dictionary = None; type_ref = None }); members = written_list (written_field (codes "s") Kind.Decimal Mandatory (record { operator = Operator.Tail; initial = None; dictionary = None; key = None }) ∷ []) }) ∷ [])

fault_48 : fault_of (operator_allowed 1 1 0) ≡ record { cause = LoadCause.S2; template = 1; instruction = 1 }
fault_48 = refl

fails_48 : Fails set_48 (operator_allowed 1 1 0)
fails_48 = (_, (_, (_, refl, refl), refl), refl)

-- parts mantissa increment ok
abbrev set_49 : List WrittenTemplate
set_49 = ((record { name = (codes "A"); id = (Some 1); around = (record { dictionary = None; type_ref = None }); members = written_list (written_parts (codes "s") Mandatory (record { operator = Operator.Increment; initial = None; dictionary = None; key = None }) (record { operator = Operator.Increment; initial = None; dictionary = None; key = None }) ∷ []) }) ∷ [])

flat_49_0 : numbered 1 (stands_in set_49 2 (codes "A")) ≡ (instructions_of (field_in_parts (codes "s") 1 Mandatory (record { number = 1; part = Part.Exponent; kind = Kind.Int32; presence = Mandatory; operator = Operator.Increment; initial = None; key = record { slot = 0; scope = Scope.Global; name = (codes "s"); part = Part.Exponent } }) (record { number = 1; part = Part.Mantissa; kind = Kind.Int64; presence = Mandatory; operator = Operator.Increment; initial = None; key = record { slot = 0; scope = Scope.Global; name = (codes "s"); part = Part.Mantissa } }) ∷ []))
flat_49_0 = refl

bits_49_0 : bits_all (stands_in set_49 2 (codes "A")) ≡ (true ∷ [])
bits_49_0 = refl

-- top dictionary
abbrev set_50 : List WrittenTemplate
set_50 = ((record { name = (codes "A"); id = (Some 1); around = (record { dictionary = (Some (codes "type")); type_ref = (Some (codes "X")) }); members = written_list (written_field (codes "a") Kind.UInt32 Mandatory (record { operator = Operator.Copy; initial = None; dictionary = None; key = None }) ∷ []) }) ∷ (record { name = (codes "B"); id = (Some 2); around = (record { dictionary = (Some (codes "global")); type_ref = None }); members = written_list (written_field (codes "a") Kind.UInt32 Mandatory (record { operator = Operator.Copy; initial = None; dictionary = None; key = None }) ∷ []) }) ∷ [])

flat_50_0 : numbered 1 (stands_in set_50 3 (codes "A")) ≡ (instructions_of (whole_field (codes "a") 1 Mandatory (record { number = 1; part = Part.Whole; kind = Kind.UInt32; presence = Mandatory; operator = Operator.Copy; initial = None; key = record { slot = 0; scope = (Scope.Typed (codes "X")); name = (codes "a"); part = Part.Whole } }) ∷ []))
flat_50_0 = refl

bits_50_0 : bits_all (stands_in set_50 3 (codes "A")) ≡ (true ∷ [])
bits_50_0 = refl

flat_50_1 : numbered 1 (stands_in set_50 3 (codes "B")) ≡ (instructions_of (whole_field (codes "a") 1 Mandatory (record { number = 1; part = Part.Whole; kind = Kind.UInt32; presence = Mandatory; operator = Operator.Copy; initial = None; key = record { slot = 0; scope = Scope.Global; name = (codes "a"); part = Part.Whole } }) ∷ []))
flat_50_1 = refl

bits_50_1 : bits_all (stands_in set_50 3 (codes "B")) ≡ (true ∷ [])
bits_50_1 = refl

-- has_map of mantissa alone; optional group without bits inside; constants
abbrev set_51 : List WrittenTemplate
set_51 = ((record { name = (codes "A"); id = (Some 1); around = (record { dictionary = None; type_ref = None }); members = written_list (written_group (codes "g") Mandatory (record { dictionary = None; type_ref = None }) (written_list (written_parts (codes "P") Mandatory (record { operator = Operator.Delta; initial = None; dictionary = None; key = None }) (record { operator = Operator.Copy; initial = None; dictionary = None; key = None }) ∷ [])) ∷ written_group (codes "h") Optional (record { dictionary = None; type_ref = None }) (written_list (written_field (codes "x") Kind.UInt32 Optional (record { operator = Operator.Plain; initial = None; dictionary = None; key = None }) ∷ [])) ∷ written_group (codes "k") Mandatory (record { dictionary = None; type_ref = None }) (written_list (written_field (codes "c") Kind.UInt32 Mandatory (record { operator = Operator.Constant; initial = (Some (codes "1")); dictionary = None; key = None }) ∷ [])) ∷ written_group (codes "k") Mandatory (record { dictionary = None; type_ref = None }) (written_list (written_field (codes "c") Kind.UInt32 Optional (record { operator = Operator.Constant; initial = (Some (codes "1")); dictionary = None; key = None }) ∷ [])) ∷ written_sequence (codes "q") Mandatory (record { dictionary = None; type_ref = None }) None (record { operator = Operator.Copy; initial = None; dictionary = None; key = None }) (written_list (written_group (codes "o") Optional (record { dictionary = None; type_ref = None }) (written_list ([])) ∷ [])) ∷ written_sequence (codes "r") Mandatory (record { dictionary = None; type_ref = None }) None (record { operator = Operator.Plain; initial = None; dictionary = None; key = None }) (written_list (written_sequence (codes "z") Mandatory (record { dictionary = None; type_ref = None }) None (record { operator = Operator.Default; initial = (Some (codes "3")); dictionary = None; key = None }) (written_list ([])) ∷ [])) ∷ []) }) ∷ [])

flat_51_0 : numbered 1 (stands_in set_51 2 (codes "A")) ≡ (instructions_of (group_of (codes "g") 1 Mandatory (instructions_of (field_in_parts (codes "P") 2 Mandatory (record { number = 2; part = Part.Exponent; kind = Kind.Int32; presence = Mandatory; operator = Operator.Delta; initial = None; key = record { slot = 0; scope = Scope.Global; name = (codes "P"); part = Part.Exponent } }) (record { number = 2; part = Part.Mantissa; kind = Kind.Int64; presence = Mandatory; operator = Operator.Copy; initial = None; key = record { slot = 0; scope = Scope.Global; name = (codes "P"); part = Part.Mantissa } }) ∷ [])) ∷ group_of (codes "h") 3 Optional (instructions_of (whole_field (codes "x") 4 Optional (record { number = 4; part = Part.Whole; kind = Kind.UInt32; presence = Optional; operator = Operator.Plain; initial = None; key = record { slot = 0; scope = Scope.Global; name = (codes "x"); part = Part.Whole } }) ∷ [])) ∷ group_of (codes "k") 5 Mandatory (instructions_of (whole_field (codes "c") 6 Mandatory (record { number = 6; part = Part.Whole; kind = Kind.UInt32; presence = Mandatory; operator = Operator.Constant; initial = (Some (Scalar.U32 1)); key = record { slot = 0; scope = Scope.Global; name = (codes "c"); part = Part.Whole } }) ∷ [])) ∷ group_of (codes "k") 7 Mandatory (instructions_of (whole_field (codes "c") 8 Optional (record { number = 8; part = Part.Whole; kind = Kind.UInt32; presence = Optional; operator = Operator.Constant; initial = (Some (Scalar.U32 1)); key = record { slot = 0; scope = Scope.Global; name = (codes "c"); part = Part.Whole } }) ∷ [])) ∷ sequence_of (codes "q") 9 Mandatory (record { number = 9; part = Part.Length; kind = Kind.UInt32; presence = Mandatory; operator = Operator.Copy; initial = None; key = record { slot = 0; scope = Scope.Global; name = (codes "q"); part = Part.Length } }) (instructions_of (group_of (codes "o") 10 Optional (instructions_of ([])) ∷ [])) ∷ sequence_of (codes "r") 11 Mandatory (record { number = 11; part = Part.Length; kind = Kind.UInt32; presence = Mandatory; operator = Operator.Plain; initial = None; key = record { slot = 0; scope = Scope.Global; name = (codes "r"); part = Part.Length } }) (instructions_of (sequence_of (codes "z") 12 Mandatory (record { number = 12; part = Part.Length; kind = Kind.UInt32; presence = Mandatory; operator = Operator.Default; initial = (Some (Scalar.U32 3)); key = record { slot = 0; scope = Scope.Global; name = (codes "z"); part = Part.Length } }) (instructions_of ([])) ∷ [])) ∷ []))
flat_51_0 = refl

bits_51_0 : bits_all (stands_in set_51 2 (codes "A")) ≡ (false ∷ true ∷ false ∷ true ∷ false ∷ false ∷ false ∷ false ∷ false ∷ false ∷ true ∷ true ∷ true ∷ true ∷ true ∷ false ∷ false ∷ true ∷ true ∷ false ∷ [])
bits_51_0 = refl

-- empty set
abbrev set_52 : List WrittenTemplate
set_52 = ([])

-- seed 5009
abbrev set_53 : List WrittenTemplate
set_53 = ((record { name = (codes "M1"); id = (Some 100); around = (record { dictionary = None; type_ref = None }); members = written_list (written_sequence (codes "C") Mandatory (record { dictionary = None; type_ref = (Some (codes "any")) }) None (record { operator = Operator.Copy; initial = None; dictionary = None; key = None }) (written_list (written_field (codes "L") Kind.Int32 Mandatory (record { operator = Operator.Constant; initial = (Some (codes "-8193")); dictionary = (Some (codes "template")); key = None }) ∷ written_group (codes "A") Mandatory (record { dictionary = None; type_ref = None }) (written_list (written_field (codes "L") Kind.Bytes Mandatory (record { operator = Operator.Delta; initial = None; dictionary = (Some (codes "E")); key = (Some (codes "A")) }) ∷ [])) ∷ [])) ∷ []) }) ∷ (record { name = (codes "M2"); id = (Some 4294967295); around = (record { dictionary = (Some (codes "D")); type_ref = None }); members = written_list (written_group (codes "K") Optional (record { dictionary = None; type_ref = (Some (codes "T")) }) (written_list (written_field (codes "K") Kind.Int32 Optional (record { operator = Operator.Default; initial = (Some (codes "-65")); dictionary = None; key = None }) ∷ written_field (codes "A") Kind.Int32 Optional (record { operator = Operator.Copy; initial = None; dictionary = None; key = None }) ∷ [])) ∷ written_field (codes "A") Kind.Int32 Mandatory (record { operator = Operator.Increment; initial = None; dictionary = None; key = (Some (codes "L")) }) ∷ []) }) ∷ (record { name = (codes "M3"); id = (Some 0); around = (record { dictionary = (Some (codes "global")); type_ref = None }); members = written_list (written_reference (codes "M2") ∷ written_field (codes "A") Kind.Decimal Optional (record { operator = Operator.Delta; initial = None; dictionary = (Some (codes "type")); key = None }) ∷ written_group (codes "K") Mandatory (record { dictionary = None; type_ref = (Some (codes "U")) }) (written_list (written_field (codes "A") Kind.Int32 Mandatory (record { operator = Operator.Plain; initial = None; dictionary = None; key = None }) ∷ written_group (codes "C") Optional (record { dictionary = None; type_ref = (Some (codes "any")) }) (written_list (written_field (codes "A") Kind.Bytes Mandatory (record { operator = Operator.Tail; initial = (Some (codes "0aff00")); dictionary = None; key = None }) ∷ written_group (codes "A") Optional (record { dictionary = None; type_ref = None }) (written_list (written_field (codes "L") Kind.Int32 Mandatory (record { operator = Operator.Plain; initial = None; dictionary = None; key = None }) ∷ written_sequence (codes "C") Mandatory (record { dictionary = None; type_ref = (Some (codes "U")) }) None (record { operator = Operator.Plain; initial = None; dictionary = None; key = None }) (written_list (written_field (codes "C") Kind.Int32 Mandatory (record { operator = Operator.Copy; initial = None; dictionary = (Some (codes "D")); key = None }) ∷ [])) ∷ [])) ∷ [])) ∷ [])) ∷ []) }) ∷ (record { name = (codes "M4"); id = (Some 4); around = (record { dictionary = (Some (codes "D")); type_ref = None }); members = written_list (written_field (codes "B") Kind.Ascii Mandatory (record { operator = Operator.Plain; initial = None; dictionary = None; key = None }) ∷ []) }) ∷ [])

flat_53_0 : numbered 1 (stands_in set_53 5 (codes "M1")) ≡ (instructions_of (sequence_of (codes "C") 1 Mandatory (record { number = 1; part = Part.Length; kind = Kind.UInt32; presence = Mandatory; operator = Operator.Copy; initial = None; key = record { slot = 0; scope = Scope.Global; name = (codes "C"); part = Part.Length } }) (instructions_of (whole_field (codes "L") 2 Mandatory (record { number = 2; part = Part.Whole; kind = Kind.Int32; presence = Mandatory; operator = Operator.Constant; initial = (Some (Scalar.I32 (negsuc 8192))); key = record { slot = 0; scope = (Scope.Template 1); name = (codes "L"); part = Part.Whole } }) ∷ group_of (codes "A") 3 Mandatory (instructions_of (whole_field (codes "L") 4 Mandatory (record { number = 4; part = Part.Whole; kind = Kind.Bytes; presence = Mandatory; operator = Operator.Delta; initial = None; key = record { slot = 0; scope = (Scope.User (codes "E")); name = (codes "A"); part = Part.Whole } }) ∷ [])) ∷ [])) ∷ []))
flat_53_0 = refl

bits_53_0 : bits_all (stands_in set_53 5 (codes "M1")) ≡ (true ∷ false ∷ false ∷ false ∷ false ∷ false ∷ [])
bits_53_0 = refl

flat_53_1 : numbered 1 (stands_in set_53 5 (codes "M2")) ≡ (instructions_of (group_of (codes "K") 1 Optional (instructions_of (whole_field (codes "K") 2 Optional (record { number = 2; part = Part.Whole; kind = Kind.Int32; presence = Optional; operator = Operator.Default; initial = (Some (Scalar.I32 (negsuc 64))); key = record { slot = 0; scope = (Scope.User (codes "D")); name = (codes "K"); part = Part.Whole } }) ∷ whole_field (codes "A") 3 Optional (record { number = 3; part = Part.Whole; kind = Kind.Int32; presence = Optional; operator = Operator.Copy; initial = None; key = record { slot = 0; scope = (Scope.User (codes "D")); name = (codes "A"); part = Part.Whole } }) ∷ [])) ∷ whole_field (codes "A") 4 Mandatory (record { number = 4; part = Part.Whole; kind = Kind.Int32; presence = Mandatory; operator = Operator.Increment; initial = None; key = record { slot = 0; scope = (Scope.User (codes "D")); name = (codes "L"); part = Part.Whole } }) ∷ []))
flat_53_1 = refl

bits_53_1 : bits_all (stands_in set_53 5 (codes "M2")) ≡ (true ∷ true ∷ true ∷ true ∷ true ∷ [])
bits_53_1 = refl

flat_53_2 : numbered 1 (stands_in set_53 5 (codes "M3")) ≡ (instructions_of (group_of (codes "K") 1 Optional (instructions_of (whole_field (codes "K") 2 Optional (record { number = 2; part = Part.Whole; kind = Kind.Int32; presence = Optional; operator = Operator.Default; initial = (Some (Scalar.I32 (negsuc 64))); key = record { slot = 0; scope = (Scope.User (codes "D")); name = (codes "K"); part = Part.Whole } }) ∷ whole_field (codes "A") 3 Optional (record { number = 3; part = Part.Whole; kind = Kind.Int32; presence = Optional; operator = Operator.Copy; initial = None; key = record { slot = 0; scope = (Scope.User (codes "D")); name = (codes "A"); part = Part.Whole } }) ∷ [])) ∷ whole_field (codes "A") 4 Mandatory (record { number = 4; part = Part.Whole; kind = Kind.Int32; presence = Mandatory; operator = Operator.Increment; initial = None; key = record { slot = 0; scope = (Scope.User (codes "D")); name = (codes "L"); part = Part.Whole } }) ∷ whole_field (codes "A") 5 Optional (record { number = 5; part = Part.Whole; kind = Kind.Decimal; presence = Optional; operator = Operator.Delta; initial = None; key = record { slot = 0; scope = (Scope.Typed (codes "any")); name = (codes "A"); part = Part.Whole } }) ∷ group_of (codes "K") 6 Mandatory (instructions_of (whole_field (codes "A") 7 Mandatory (record { number = 7; part = Part.Whole; kind = Kind.Int32; presence = Mandatory; operator = Operator.Plain; initial = None; key = record { slot = 0; scope = Scope.Global; name = (codes "A"); part = Part.Whole } }) ∷ group_of (codes "C") 8 Optional (instructions_of (whole_field (codes "A") 9 Mandatory (record { number = 9; part = Part.Whole; kind = Kind.Bytes; presence = Mandatory; operator = Operator.Tail; initial = (Some (Scalar.Bytes (10 ∷ 255 ∷ 0 ∷ []))); key = record { slot = 0; scope = Scope.Global; name = (codes "A"); part = Part.Whole } }) ∷ group_of (codes "A") 10 Optional (instructions_of (whole_field (codes "L") 11 Mandatory (record { number = 11; part = Part.Whole; kind = Kind.Int32; presence = Mandatory; operator = Operator.Plain; initial = None; key = record { slot = 0; scope = Scope.Global; name = (codes "L"); part = Part.Whole } }) ∷ sequence_of (codes "C") 12 Mandatory (record { number = 12; part = Part.Length; kind = Kind.UInt32; presence = Mandatory; operator = Operator.Plain; initial = None; key = record { slot = 0; scope = Scope.Global; name = (codes "C"); part = Part.Length } }) (instructions_of (whole_field (codes "C") 13 Mandatory (record { number = 13; part = Part.Whole; kind = Kind.Int32; presence = Mandatory; operator = Operator.Copy; initial = None; key = record { slot = 0; scope = (Scope.User (codes "D")); name = (codes "C"); part = Part.Whole } }) ∷ [])) ∷ [])) ∷ [])) ∷ [])) ∷ []))
flat_53_2 = refl

bits_53_2 : bits_all (stands_in set_53 5 (codes "M3")) ≡ (true ∷ true ∷ true ∷ true ∷ true ∷ false ∷ false ∷ true ∷ false ∷ true ∷ true ∷ true ∷ true ∷ false ∷ false ∷ false ∷ true ∷ true ∷ [])
bits_53_2 = refl

flat_53_3 : numbered 1 (stands_in set_53 5 (codes "M4")) ≡ (instructions_of (whole_field (codes "B") 1 Mandatory (record { number = 1; part = Part.Whole; kind = Kind.Ascii; presence = Mandatory; operator = Operator.Plain; initial = None; key = record { slot = 0; scope = (Scope.User (codes "D")); name = (codes "B"); part = Part.Whole } }) ∷ []))
flat_53_3 = refl

bits_53_3 : bits_all (stands_in set_53 5 (codes "M4")) ≡ (false ∷ [])
bits_53_3 = refl

-- seed 5040
abbrev set_54 : List WrittenTemplate
set_54 = ((record { name = (codes "M1"); id = None; around = (record { dictionary = None; type_ref = (Some (codes "any")) }); members = written_list (written_field (codes "A") Kind.UInt32 Optional (record { operator = Operator.Copy; initial = None; dictionary = (Some (codes "template")); key = None }) ∷ []) }) ∷ (record { name = (codes "M2"); id = (Some 100); around = (record { dictionary = (Some (codes "type")); type_ref = None }); members = written_list (written_field (codes "B") Kind.UInt32 Mandatory (record { operator = Operator.Increment; initial = None; dictionary = (Some (codes "template")); key = None }) ∷ written_field (codes "B") Kind.UInt32 Mandatory (record { operator = Operator.Delta; initial = None; dictionary = (Some (codes "template")); key = None }) ∷ []) }) ∷ (record { name = (codes "M3"); id = (Some 4); around = (record { dictionary = None; type_ref = (Some (codes "any")) }); members = written_list (written_field (codes "A") Kind.UInt32 Optional (record { operator = Operator.Delta; initial = None; dictionary = None; key = (Some (codes "A")) }) ∷ written_reference (codes "M4") ∷ []) }) ∷ (record { name = (codes "M4"); id = (Some 2); around = (record { dictionary = None; type_ref = (Some (codes "U")) }); members = written_list (written_field (codes "A") Kind.UInt32 Mandatory (record { operator = Operator.Copy; initial = None; dictionary = None; key = None }) ∷ []) }) ∷ [])

flat_54_1 : numbered 1 (stands_in set_54 5 (codes "M2")) ≡ (instructions_of (whole_field (codes "B") 1 Mandatory (record { number = 1; part = Part.Whole; kind = Kind.UInt32; presence = Mandatory; operator = Operator.Increment; initial = None; key = record { slot = 0; scope = (Scope.Template 2); name = (codes "B"); part = Part.Whole } }) ∷ whole_field (codes "B") 2 Mandatory (record { number = 2; part = Part.Whole; kind = Kind.UInt32; presence = Mandatory; operator = Operator.Delta; initial = None; key = record { slot = 0; scope = (Scope.Template 2); name = (codes "B"); part = Part.Whole } }) ∷ []))
flat_54_1 = refl

bits_54_1 : bits_all (stands_in set_54 5 (codes "M2")) ≡ (true ∷ false ∷ [])
bits_54_1 = refl

flat_54_2 : numbered 1 (stands_in set_54 5 (codes "M3")) ≡ (instructions_of (whole_field (codes "A") 1 Optional (record { number = 1; part = Part.Whole; kind = Kind.UInt32; presence = Optional; operator = Operator.Delta; initial = None; key = record { slot = 0; scope = Scope.Global; name = (codes "A"); part = Part.Whole } }) ∷ whole_field (codes "A") 2 Mandatory (record { number = 2; part = Part.Whole; kind = Kind.UInt32; presence = Mandatory; operator = Operator.Copy; initial = None; key = record { slot = 0; scope = Scope.Global; name = (codes "A"); part = Part.Whole } }) ∷ []))
flat_54_2 = refl

bits_54_2 : bits_all (stands_in set_54 5 (codes "M3")) ≡ (false ∷ true ∷ [])
bits_54_2 = refl

flat_54_3 : numbered 1 (stands_in set_54 5 (codes "M4")) ≡ (instructions_of (whole_field (codes "A") 1 Mandatory (record { number = 1; part = Part.Whole; kind = Kind.UInt32; presence = Mandatory; operator = Operator.Copy; initial = None; key = record { slot = 0; scope = Scope.Global; name = (codes "A"); part = Part.Whole } }) ∷ []))
flat_54_3 = refl

bits_54_3 : bits_all (stands_in set_54 5 (codes "M4")) ≡ (true ∷ [])
bits_54_3 = refl

-- seed 5041
abbrev set_55 : List WrittenTemplate
set_55 = ((record { name = (codes "M1"); id = (Some 127); around = (record { dictionary = (Some (codes "E")); type_ref = None }); members = written_list (written_sequence (codes "K") Mandatory (record { dictionary = None; type_ref = None }) (Some (codes "L")) (record { operator = Operator.Copy; initial = (Some (codes "1")); dictionary = None; key = (Some (codes "K")) }) (written_list (written_sequence (codes "B") Mandatory (record { dictionary = (Some (codes "type")); type_ref = None }) None (record { operator = Operator.Copy; initial = None; dictionary = None; key = None }) (written_list (written_field (codes "B") Kind.Bytes Mandatory (record { operator = Operator.Copy; initial = (Some (codes "8080")); dictionary = None; key = (Some (codes "K")) }) ∷ written_field (codes "L") Kind.Bytes Mandatory (record { operator = Operator.Tail; initial = None; dictionary = None; key = (Some (codes "A")) }) ∷ written_field (codes "B") Kind.Bytes Optional (record { operator = Operator.Default; initial = (Some (codes "00ff")); dictionary = None; key = None }) ∷ [])) ∷ written_field (codes "A") Kind.Bytes Mandatory (record { operator = Operator.Copy; initial = (Some (codes "80")); dictionary = None; key = None }) ∷ [])) ∷ written_field (codes "A") Kind.Int32 Mandatory (record { operator = Operator.Constant; initial = (Some (codes "-1")); dictionary = None; key = None }) ∷ []) }) ∷ (record { name = (codes "M2"); id = (Some 100); around = (record { dictionary = (Some (codes "E")); type_ref = None }); members = written_list (written_field (codes "K") Kind.Ascii Optional (record { operator = Operator.Copy; initial = None; dictionary = None; key = (Some (codes "K")) }) ∷ written_reference (codes "M1") ∷ written_field (codes "B") Kind.Bytes Optional (record { operator = Operator.Copy; initial = None; dictionary = None; key = None }) ∷ written_field (codes "A") Kind.Unicode Optional (record { operator = Operator.Plain; initial = None; dictionary = None; key = None }) ∷ []) }) ∷ [])

flat_55_0 : numbered 1 (stands_in set_55 3 (codes "M1")) ≡ (instructions_of (sequence_of (codes "K") 1 Mandatory (record { number = 1; part = Part.Length; kind = Kind.UInt32; presence = Mandatory; operator = Operator.Copy; initial = (Some (Scalar.U32 1)); key = record { slot = 0; scope = (Scope.User (codes "E")); name = (codes "K"); part = Part.Whole } }) (instructions_of (sequence_of (codes "B") 2 Mandatory (record { number = 2; part = Part.Length; kind = Kind.UInt32; presence = Mandatory; operator = Operator.Copy; initial = None; key = record { slot = 0; scope = (Scope.Typed (codes "any")); name = (codes "B"); part = Part.Length } }) (instructions_of (whole_field (codes "B") 3 Mandatory (record { number = 3; part = Part.Whole; kind = Kind.Bytes; presence = Mandatory; operator = Operator.Copy; initial = (Some (Scalar.Bytes (128 ∷ 128 ∷ []))); key = record { slot = 0; scope = (Scope.Typed (codes "any")); name = (codes "K"); part = Part.Whole } }) ∷ whole_field (codes "L") 4 Mandatory (record { number = 4; part = Part.Whole; kind = Kind.Bytes; presence = Mandatory; operator = Operator.Tail; initial = None; key = record { slot = 0; scope = (Scope.Typed (codes "any")); name = (codes "A"); part = Part.Whole } }) ∷ whole_field (codes "B") 5 Optional (record { number = 5; part = Part.Whole; kind = Kind.Bytes; presence = Optional; operator = Operator.Default; initial = (Some (Scalar.Bytes (0 ∷ 255 ∷ []))); key = record { slot = 0; scope = (Scope.Typed (codes "any")); name = (codes "B"); part = Part.Whole } }) ∷ [])) ∷ whole_field (codes "A") 6 Mandatory (record { number = 6; part = Part.Whole; kind = Kind.Bytes; presence = Mandatory; operator = Operator.Copy; initial = (Some (Scalar.Bytes (128 ∷ []))); key = record { slot = 0; scope = (Scope.User (codes "E")); name = (codes "A"); part = Part.Whole } }) ∷ [])) ∷ whole_field (codes "A") 7 Mandatory (record { number = 7; part = Part.Whole; kind = Kind.Int32; presence = Mandatory; operator = Operator.Constant; initial = (Some (Scalar.I32 (negsuc 0))); key = record { slot = 0; scope = (Scope.User (codes "E")); name = (codes "A"); part = Part.Whole } }) ∷ []))
flat_55_0 = refl

bits_55_0 : bits_all (stands_in set_55 3 (codes "M1")) ≡ (true ∷ true ∷ true ∷ true ∷ true ∷ true ∷ true ∷ true ∷ false ∷ [])
bits_55_0 = refl

flat_55_1 : numbered 1 (stands_in set_55 3 (codes "M2")) ≡ (instructions_of (whole_field (codes "K") 1 Optional (record { number = 1; part = Part.Whole; kind = Kind.Ascii; presence = Optional; operator = Operator.Copy; initial = None; key = record { slot = 0; scope = (Scope.User (codes "E")); name = (codes "K"); part = Part.Whole } }) ∷ sequence_of (codes "K") 2 Mandatory (record { number = 2; part = Part.Length; kind = Kind.UInt32; presence = Mandatory; operator = Operator.Copy; initial = (Some (Scalar.U32 1)); key = record { slot = 0; scope = (Scope.User (codes "E")); name = (codes "K"); part = Part.Whole } }) (instructions_of (sequence_of (codes "B") 3 Mandatory (record { number = 3; part = Part.Length; kind = Kind.UInt32; presence = Mandatory; operator = Operator.Copy; initial = None; key = record { slot = 0; scope = (Scope.Typed (codes "any")); name = (codes "B"); part = Part.Length } }) (instructions_of (whole_field (codes "B") 4 Mandatory (record { number = 4; part = Part.Whole; kind = Kind.Bytes; presence = Mandatory; operator = Operator.Copy; initial = (Some (Scalar.Bytes (128 ∷ 128 ∷ []))); key = record { slot = 0; scope = (Scope.Typed (codes "any")); name = (codes "K"); part = Part.Whole } }) ∷ whole_field (codes "L") 5 Mandatory (record { number = 5; part = Part.Whole; kind = Kind.Bytes; presence = Mandatory; operator = Operator.Tail; initial = None; key = record { slot = 0; scope = (Scope.Typed (codes "any")); name = (codes "A"); part = Part.Whole } }) ∷ whole_field (codes "B") 6 Optional (record { number = 6; part = Part.Whole; kind = Kind.Bytes; presence = Optional; operator = Operator.Default; initial = (Some (Scalar.Bytes (0 ∷ 255 ∷ []))); key = record { slot = 0; scope = (Scope.Typed (codes "any")); name = (codes "B"); part = Part.Whole } }) ∷ [])) ∷ whole_field (codes "A") 7 Mandatory (record { number = 7; part = Part.Whole; kind = Kind.Bytes; presence = Mandatory; operator = Operator.Copy; initial = (Some (Scalar.Bytes (128 ∷ []))); key = record { slot = 0; scope = (Scope.User (codes "E")); name = (codes "A"); part = Part.Whole } }) ∷ [])) ∷ whole_field (codes "A") 8 Mandatory (record { number = 8; part = Part.Whole; kind = Kind.Int32; presence = Mandatory; operator = Operator.Constant; initial = (Some (Scalar.I32 (negsuc 0))); key = record { slot = 0; scope = (Scope.User (codes "E")); name = (codes "A"); part = Part.Whole } }) ∷ whole_field (codes "B") 9 Optional (record { number = 9; part = Part.Whole; kind = Kind.Bytes; presence = Optional; operator = Operator.Copy; initial = None; key = record { slot = 0; scope = (Scope.User (codes "E")); name = (codes "B"); part = Part.Whole } }) ∷ whole_field (codes "A") 10 Optional (record { number = 10; part = Part.Whole; kind = Kind.Unicode; presence = Optional; operator = Operator.Plain; initial = None; key = record { slot = 0; scope = (Scope.User (codes "E")); name = (codes "A"); part = Part.Whole } }) ∷ []))
flat_55_1 = refl

bits_55_1 : bits_all (stands_in set_55 3 (codes "M2")) ≡ (true ∷ true ∷ true ∷ true ∷ true ∷ true ∷ true ∷ true ∷ true ∷ false ∷ true ∷ false ∷ [])
bits_55_1 = refl

-- seed 5064
abbrev set_56 : List WrittenTemplate
set_56 = ((record { name = (codes "M1"); id = None; around = (record { dictionary = None; type_ref = None }); members = written_list (written_reference (codes "M4") ∷ written_field (codes "B") Kind.Ascii Mandatory (record { operator = Operator.Tail; initial = None; dictionary = None; key = None }) ∷ written_field (codes "C") Kind.Bytes Optional (record { operator = Operator.Plain; initial = None; dictionary = None; key = None }) ∷ written_field (codes "K") Kind.Int32 Mandatory (record { operator = Operator.Delta; initial = (Some (codes "3")); dictionary = (Some (codes "template")); key = None }) ∷ []) }) ∷ (record { name = (codes "M2"); id = (Some 2); around = (record { dictionary = (Some (codes "E")); type_ref = (Some (codes "T")) }); members = written_list (written_sequence (codes "C") Mandatory (record { dictionary = (Some (codes "global")); type_ref = None }) (Some (codes "K")) (record { operator = Operator.Copy; initial = (Some (codes "2")); dictionary = None; key = None }) (written_list (written_field (codes "K") Kind.UInt32 Mandatory (record { operator = Operator.Constant; initial = (Some (codes "0")); dictionary = None; key = None }) ∷ written_field (codes "L") Kind.Int32 Mandatory (record { operator = Operator.Plain; initial = None; dictionary = None; key = None }) ∷ written_field (codes "B") Kind.Int32 Optional (record { operator = Operator.Constant; initial = (Some (codes "-2")); dictionary = None; key = (Some (codes "L")) }) ∷ [])) ∷ written_field (codes "B") Kind.UInt64 Optional (record { operator = Operator.Plain; initial = None; dictionary = None; key = None }) ∷ written_field (codes "C") Kind.Decimal Mandatory (record { operator = Operator.Default; initial = (Some (codes "0e-2")); dictionary = (Some (codes "template")); key = (Some (codes "A")) }) ∷ []) }) ∷ (record { name = (codes "M3"); id = (Some 4); around = (record { dictionary = None; type_ref = None }); members = written_list (written_field (codes "A") Kind.Int64 Mandatory (record { operator = Operator.Copy; initial = None; dictionary = (Some (codes "E")); key = None }) ∷ []) }) ∷ (record { name = (codes "M4"); id = None; around = (record { dictionary = None; type_ref = None }); members = written_list (written_field (codes "B") Kind.Decimal Mandatory (record { operator = Operator.Delta; initial = (Some (codes "63e-63")); dictionary = None; key = None }) ∷ written_parts (codes "K") Optional (record { operator = Operator.Plain; initial = None; dictionary = None; key = None }) (record { operator = Operator.Increment; initial = None; dictionary = None; key = None }) ∷ []) }) ∷ [])

flat_56_1 : numbered 1 (stands_in set_56 5 (codes "M2")) ≡ (instructions_of (sequence_of (codes "C") 1 Mandatory (record { number = 1; part = Part.Length; kind = Kind.UInt32; presence = Mandatory; operator = Operator.Copy; initial = (Some (Scalar.U32 2)); key = record { slot = 0; scope = Scope.Global; name = (codes "K"); part = Part.Whole } }) (instructions_of (whole_field (codes "K") 2 Mandatory (record { number = 2; part = Part.Whole; kind = Kind.UInt32; presence = Mandatory; operator = Operator.Constant; initial = (Some (Scalar.U32 0)); key = record { slot = 0; scope = Scope.Global; name = (codes "K"); part = Part.Whole } }) ∷ whole_field (codes "L") 3 Mandatory (record { number = 3; part = Part.Whole; kind = Kind.Int32; presence = Mandatory; operator = Operator.Plain; initial = None; key = record { slot = 0; scope = Scope.Global; name = (codes "L"); part = Part.Whole } }) ∷ whole_field (codes "B") 4 Optional (record { number = 4; part = Part.Whole; kind = Kind.Int32; presence = Optional; operator = Operator.Constant; initial = (Some (Scalar.I32 (negsuc 1))); key = record { slot = 0; scope = Scope.Global; name = (codes "L"); part = Part.Whole } }) ∷ [])) ∷ whole_field (codes "B") 5 Optional (record { number = 5; part = Part.Whole; kind = Kind.UInt64; presence = Optional; operator = Operator.Plain; initial = None; key = record { slot = 0; scope = (Scope.User (codes "E")); name = (codes "B"); part = Part.Whole } }) ∷ whole_field (codes "C") 6 Mandatory (record { number = 6; part = Part.Whole; kind = Kind.Decimal; presence = Mandatory; operator = Operator.Default; initial = (Some (Scalar.Decimal (negsuc 1) (pos 0))); key = record { slot = 0; scope = (Scope.Template 2); name = (codes "A"); part = Part.Whole } }) ∷ []))
flat_56_1 = refl

bits_56_1 : bits_all (stands_in set_56 5 (codes "M2")) ≡ (true ∷ true ∷ false ∷ false ∷ true ∷ false ∷ true ∷ [])
bits_56_1 = refl

flat_56_2 : numbered 1 (stands_in set_56 5 (codes "M3")) ≡ (instructions_of (whole_field (codes "A") 1 Mandatory (record { number = 1; part = Part.Whole; kind = Kind.Int64; presence = Mandatory; operator = Operator.Copy; initial = None; key = record { slot = 0; scope = (Scope.User (codes "E")); name = (codes "A"); part = Part.Whole } }) ∷ []))
flat_56_2 = refl

bits_56_2 : bits_all (stands_in set_56 5 (codes "M3")) ≡ (true ∷ [])
bits_56_2 = refl

-- seed 5071
abbrev set_57 : List WrittenTemplate
set_57 = ((record { name = (codes "M1"); id = (Some 1); around = (record { dictionary = (Some (codes "global")); type_ref = None }); members = written_list (written_field (codes "L") Kind.Ascii Optional (record { operator = Operator.Copy; initial = None; dictionary = (Some (codes "type")); key = (Some (codes "K")) }) ∷ written_field (codes "K") Kind.UInt32 Optional (record { operator = Operator.Increment; initial = (Some (codes "0")); dictionary = None; key = None }) ∷ written_field (codes "L") Kind.Ascii Mandatory (record { operator = Operator.Delta; initial = (Some ([])); dictionary = None; key = None }) ∷ []) }) ∷ (record { name = (codes "M2"); id = (Some 127); around = (record { dictionary = (Some (codes "E")); type_ref = None }); members = written_list (written_field (codes "A") Kind.Ascii Mandatory (record { operator = Operator.Delta; initial = (Some (codes "a")); dictionary = None; key = None }) ∷ []) }) ∷ (record { name = (codes "M3"); id = (Some 16384); around = (record { dictionary = (Some (codes "global")); type_ref = (Some (codes "U")) }); members = written_list (written_field (codes "B") Kind.Bytes Mandatory (record { operator = Operator.Copy; initial = (Some (codes "0aff")); dictionary = None; key = (Some (codes "A")) }) ∷ written_reference (codes "M1") ∷ written_field (codes "A") Kind.Unicode Optional (record { operator = Operator.Copy; initial = None; dictionary = None; key = (Some (codes "A")) }) ∷ []) }) ∷ [])

flat_57_0 : numbered 1 (stands_in set_57 4 (codes "M1")) ≡ (instructions_of (whole_field (codes "L") 1 Optional (record { number = 1; part = Part.Whole; kind = Kind.Ascii; presence = Optional; operator = Operator.Copy; initial = None; key = record { slot = 0; scope = (Scope.Typed (codes "any")); name = (codes "K"); part = Part.Whole } }) ∷ whole_field (codes "K") 2 Optional (record { number = 2; part = Part.Whole; kind = Kind.UInt32; presence = Optional; operator = Operator.Increment; initial = (Some (Scalar.U32 0)); key = record { slot = 0; scope = Scope.Global; name = (codes "K"); part = Part.Whole } }) ∷ whole_field (codes "L") 3 Mandatory (record { number = 3; part = Part.Whole; kind = Kind.Ascii; presence = Mandatory; operator = Operator.Delta; initial = (Some (Scalar.Ascii ([]))); key = record { slot = 0; scope = Scope.Global; name = (codes "L"); part = Part.Whole } }) ∷ []))
flat_57_0 = refl

bits_57_0 : bits_all (stands_in set_57 4 (codes "M1")) ≡ (true ∷ true ∷ false ∷ [])
bits_57_0 = refl

flat_57_1 : numbered 1 (stands_in set_57 4 (codes "M2")) ≡ (instructions_of (whole_field (codes "A") 1 Mandatory (record { number = 1; part = Part.Whole; kind = Kind.Ascii; presence = Mandatory; operator = Operator.Delta; initial = (Some (Scalar.Ascii (codes "a"))); key = record { slot = 0; scope = (Scope.User (codes "E")); name = (codes "A"); part = Part.Whole } }) ∷ []))
flat_57_1 = refl

bits_57_1 : bits_all (stands_in set_57 4 (codes "M2")) ≡ (false ∷ [])
bits_57_1 = refl

flat_57_2 : numbered 1 (stands_in set_57 4 (codes "M3")) ≡ (instructions_of (whole_field (codes "B") 1 Mandatory (record { number = 1; part = Part.Whole; kind = Kind.Bytes; presence = Mandatory; operator = Operator.Copy; initial = (Some (Scalar.Bytes (10 ∷ 255 ∷ []))); key = record { slot = 0; scope = Scope.Global; name = (codes "A"); part = Part.Whole } }) ∷ whole_field (codes "L") 2 Optional (record { number = 2; part = Part.Whole; kind = Kind.Ascii; presence = Optional; operator = Operator.Copy; initial = None; key = record { slot = 0; scope = (Scope.Typed (codes "any")); name = (codes "K"); part = Part.Whole } }) ∷ whole_field (codes "K") 3 Optional (record { number = 3; part = Part.Whole; kind = Kind.UInt32; presence = Optional; operator = Operator.Increment; initial = (Some (Scalar.U32 0)); key = record { slot = 0; scope = Scope.Global; name = (codes "K"); part = Part.Whole } }) ∷ whole_field (codes "L") 4 Mandatory (record { number = 4; part = Part.Whole; kind = Kind.Ascii; presence = Mandatory; operator = Operator.Delta; initial = (Some (Scalar.Ascii ([]))); key = record { slot = 0; scope = Scope.Global; name = (codes "L"); part = Part.Whole } }) ∷ whole_field (codes "A") 5 Optional (record { number = 5; part = Part.Whole; kind = Kind.Unicode; presence = Optional; operator = Operator.Copy; initial = None; key = record { slot = 0; scope = Scope.Global; name = (codes "A"); part = Part.Whole } }) ∷ []))
flat_57_2 = refl

bits_57_2 : bits_all (stands_in set_57 4 (codes "M3")) ≡ (true ∷ true ∷ true ∷ false ∷ true ∷ [])
bits_57_2 = refl

-- seed 5088
abbrev set_58 : List WrittenTemplate
set_58 = ((record { name = (codes "M1"); id = (Some 2); around = (record { dictionary = (Some (codes "global")); type_ref = None }); members = written_list (written_field (codes "C") Kind.Unicode Optional (record { operator = Operator.Copy; initial = None; dictionary = None; key = None }) ∷ written_sequence (codes "K") Mandatory (record { dictionary = None; type_ref = None }) None (record { operator = Operator.Plain; initial = None; dictionary = None; key = None }) (written_list (written_field (codes "B") Kind.Decimal Optional (record { operator = Operator.Plain; initial = None; dictionary = None; key = None }) ∷ written_field (codes "L") Kind.Unicode Optional (record { operator = Operator.Plain; initial = None; dictionary = None; key = None }) ∷ [])) ∷ []) }) ∷ (record { name = (codes "M2"); id = (Some 0); around = (record { dictionary = None; type_ref = None }); members = written_list (written_group (codes "K") Optional (record { dictionary = None; type_ref = None }) (written_list (written_group (codes "L") Optional (record { dictionary = None; type_ref = None }) (written_list (written_field (codes "A") Kind.Ascii Mandatory (record { operator = Operator.Delta; initial = None; dictionary = None; key = None }) ∷ written_field (codes "K") Kind.Unicode Optional (record { operator = Operator.Tail; initial = None; dictionary = (Some (codes "E")); key = (Some (codes "L")) }) ∷ [])) ∷ [])) ∷ []) }) ∷ (record { name = (codes "M3"); id = (Some 128); around = (record { dictionary = None; type_ref = None }); members = written_list (written_reference (codes "M1") ∷ []) }) ∷ [])

flat_58_0 : numbered 1 (stands_in set_58 4 (codes "M1")) ≡ (instructions_of (whole_field (codes "C") 1 Optional (record { number = 1; part = Part.Whole; kind = Kind.Unicode; presence = Optional; operator = Operator.Copy; initial = None; key = record { slot = 0; scope = Scope.Global; name = (codes "C"); part = Part.Whole } }) ∷ sequence_of (codes "K") 2 Mandatory (record { number = 2; part = Part.Length; kind = Kind.UInt32; presence = Mandatory; operator = Operator.Plain; initial = None; key = record { slot = 0; scope = Scope.Global; name = (codes "K"); part = Part.Length } }) (instructions_of (whole_field (codes "B") 3 Optional (record { number = 3; part = Part.Whole; kind = Kind.Decimal; presence = Optional; operator = Operator.Plain; initial = None; key = record { slot = 0; scope = Scope.Global; name = (codes "B"); part = Part.Whole } }) ∷ whole_field (codes "L") 4 Optional (record { number = 4; part = Part.Whole; kind = Kind.Unicode; presence = Optional; operator = Operator.Plain; initial = None; key = record { slot = 0; scope = Scope.Global; name = (codes "L"); part = Part.Whole } }) ∷ [])) ∷ []))
flat_58_0 = refl

bits_58_0 : bits_all (stands_in set_58 4 (codes "M1")) ≡ (true ∷ false ∷ false ∷ false ∷ false ∷ [])
bits_58_0 = refl

flat_58_1 : numbered 1 (stands_in set_58 4 (codes "M2")) ≡ (instructions_of (group_of (codes "K") 1 Optional (instructions_of (group_of (codes "L") 2 Optional (instructions_of (whole_field (codes "A") 3 Mandatory (record { number = 3; part = Part.Whole; kind = Kind.Ascii; presence = Mandatory; operator = Operator.Delta; initial = None; key = record { slot = 0; scope = Scope.Global; name = (codes "A"); part = Part.Whole } }) ∷ whole_field (codes "K") 4 Optional (record { number = 4; part = Part.Whole; kind = Kind.Unicode; presence = Optional; operator = Operator.Tail; initial = None; key = record { slot = 0; scope = (Scope.User (codes "E")); name = (codes "L"); part = Part.Whole } }) ∷ [])) ∷ [])) ∷ []))
flat_58_1 = refl

bits_58_1 : bits_all (stands_in set_58 4 (codes "M2")) ≡ (true ∷ true ∷ true ∷ true ∷ false ∷ true ∷ [])
bits_58_1 = refl

flat_58_2 : numbered 1 (stands_in set_58 4 (codes "M3")) ≡ (instructions_of (whole_field (codes "C") 1 Optional (record { number = 1; part = Part.Whole; kind = Kind.Unicode; presence = Optional; operator = Operator.Copy; initial = None; key = record { slot = 0; scope = Scope.Global; name = (codes "C"); part = Part.Whole } }) ∷ sequence_of (codes "K") 2 Mandatory (record { number = 2; part = Part.Length; kind = Kind.UInt32; presence = Mandatory; operator = Operator.Plain; initial = None; key = record { slot = 0; scope = Scope.Global; name = (codes "K"); part = Part.Length } }) (instructions_of (whole_field (codes "B") 3 Optional (record { number = 3; part = Part.Whole; kind = Kind.Decimal; presence = Optional; operator = Operator.Plain; initial = None; key = record { slot = 0; scope = Scope.Global; name = (codes "B"); part = Part.Whole } }) ∷ whole_field (codes "L") 4 Optional (record { number = 4; part = Part.Whole; kind = Kind.Unicode; presence = Optional; operator = Operator.Plain; initial = None; key = record { slot = 0; scope = Scope.Global; name = (codes "L"); part = Part.Whole } }) ∷ [])) ∷ []))
flat_58_2 = refl

bits_58_2 : bits_all (stands_in set_58 4 (codes "M3")) ≡ (true ∷ false ∷ false ∷ false ∷ false ∷ [])
bits_58_2 = refl

-- seed 5090
abbrev set_59 : List WrittenTemplate
set_59 = ((record { name = (codes "M1"); id = (Some 2); around = (record { dictionary = (Some (codes "E")); type_ref = (Some (codes "U")) }); members = written_list (written_field (codes "A") Kind.Ascii Optional (record { operator = Operator.Constant; initial = (Some (127 ∷ 31 ∷ [])); dictionary = None; key = None }) ∷ []) }) ∷ (record { name = (codes "M2"); id = (Some 5); around = (record { dictionary = None; type_ref = None }); members = written_list (written_field (codes "B") Kind.Ascii Mandatory (record { operator = Operator.Delta; initial = None; dictionary = (Some (codes "D")); key = None }) ∷ written_field (codes "A") Kind.Unicode Mandatory (record { operator = Operator.Delta; initial = None; dictionary = None; key = None }) ∷ written_field (codes "A") Kind.Ascii Mandatory (record { operator = Operator.Delta; initial = (Some (codes "bc")); dictionary = None; key = (Some (codes "A")) }) ∷ []) }) ∷ (record { name = (codes "M3"); id = (Some 4294967295); around = (record { dictionary = None; type_ref = None }); members = written_list (written_field (codes "C") Kind.Ascii Mandatory (record { operator = Operator.Delta; initial = None; dictionary = None; key = (Some (codes "L")) }) ∷ []) }) ∷ (record { name = (codes "M4"); id = (Some 128); around = (record { dictionary = (Some (codes "D")); type_ref = None }); members = written_list (written_field (codes "L") Kind.UInt32 Mandatory (record { operator = Operator.Default; initial = (Some (codes "1")); dictionary = None; key = None }) ∷ written_sequence (codes "L") Mandatory (record { dictionary = None; type_ref = None }) None (record { operator = Operator.Copy; initial = None; dictionary = None; key = (Some (codes "K")) }) (written_list (written_field (codes "L") Kind.Bytes Mandatory (record { operator = Operator.Default; initial = (Some (codes "8080")); dictionary = (Some (codes "template")); key = (Some (codes "L")) }) ∷ written_reference (codes "M3") ∷ [])) ∷ []) }) ∷ [])

flat_59_0 : numbered 1 (stands_in set_59 5 (codes "M1")) ≡ (instructions_of (whole_field (codes "A") 1 Optional (record { number = 1; part = Part.Whole; kind = Kind.Ascii; presence = Optional; operator = Operator.Constant; initial = (Some (Scalar.Ascii (127 ∷ 31 ∷ []))); key = record { slot = 0; scope = (Scope.User (codes "E")); name = (codes "A"); part = Part.Whole } }) ∷ []))
flat_59_0 = refl

bits_59_0 : bits_all (stands_in set_59 5 (codes "M1")) ≡ (true ∷ [])
bits_59_0 = refl

flat_59_1 : numbered 1 (stands_in set_59 5 (codes "M2")) ≡ (instructions_of (whole_field (codes "B") 1 Mandatory (record { number = 1; part = Part.Whole; kind = Kind.Ascii; presence = Mandatory; operator = Operator.Delta; initial = None; key = record { slot = 0; scope = (Scope.User (codes "D")); name = (codes "B"); part = Part.Whole } }) ∷ whole_field (codes "A") 2 Mandatory (record { number = 2; part = Part.Whole; kind = Kind.Unicode; presence = Mandatory; operator = Operator.Delta; initial = None; key = record { slot = 0; scope = Scope.Global; name = (codes "A"); part = Part.Whole } }) ∷ whole_field (codes "A") 3 Mandatory (record { number = 3; part = Part.Whole; kind = Kind.Ascii; presence = Mandatory; operator = Operator.Delta; initial = (Some (Scalar.Ascii (codes "bc"))); key = record { slot = 0; scope = Scope.Global; name = (codes "A"); part = Part.Whole } }) ∷ []))
flat_59_1 = refl

bits_59_1 : bits_all (stands_in set_59 5 (codes "M2")) ≡ (false ∷ false ∷ false ∷ [])
bits_59_1 = refl

flat_59_2 : numbered 1 (stands_in set_59 5 (codes "M3")) ≡ (instructions_of (whole_field (codes "C") 1 Mandatory (record { number = 1; part = Part.Whole; kind = Kind.Ascii; presence = Mandatory; operator = Operator.Delta; initial = None; key = record { slot = 0; scope = Scope.Global; name = (codes "L"); part = Part.Whole } }) ∷ []))
flat_59_2 = refl

bits_59_2 : bits_all (stands_in set_59 5 (codes "M3")) ≡ (false ∷ [])
bits_59_2 = refl

flat_59_3 : numbered 1 (stands_in set_59 5 (codes "M4")) ≡ (instructions_of (whole_field (codes "L") 1 Mandatory (record { number = 1; part = Part.Whole; kind = Kind.UInt32; presence = Mandatory; operator = Operator.Default; initial = (Some (Scalar.U32 1)); key = record { slot = 0; scope = (Scope.User (codes "D")); name = (codes "L"); part = Part.Whole } }) ∷ sequence_of (codes "L") 2 Mandatory (record { number = 2; part = Part.Length; kind = Kind.UInt32; presence = Mandatory; operator = Operator.Copy; initial = None; key = record { slot = 0; scope = (Scope.User (codes "D")); name = (codes "K"); part = Part.Whole } }) (instructions_of (whole_field (codes "L") 3 Mandatory (record { number = 3; part = Part.Whole; kind = Kind.Bytes; presence = Mandatory; operator = Operator.Default; initial = (Some (Scalar.Bytes (128 ∷ 128 ∷ []))); key = record { slot = 0; scope = (Scope.Template 4); name = (codes "L"); part = Part.Whole } }) ∷ whole_field (codes "C") 4 Mandatory (record { number = 4; part = Part.Whole; kind = Kind.Ascii; presence = Mandatory; operator = Operator.Delta; initial = None; key = record { slot = 0; scope = Scope.Global; name = (codes "L"); part = Part.Whole } }) ∷ [])) ∷ []))
flat_59_3 = refl

bits_59_3 : bits_all (stands_in set_59 5 (codes "M4")) ≡ (true ∷ true ∷ true ∷ true ∷ false ∷ [])
bits_59_3 = refl

-- seed 5103
abbrev set_60 : List WrittenTemplate
set_60 = ((record { name = (codes "M1"); id = (Some 100); around = (record { dictionary = None; type_ref = None }); members = written_list (written_parts (codes "A") Optional (record { operator = Operator.Copy; initial = None; dictionary = None; key = (Some (codes "A")) }) (record { operator = Operator.Delta; initial = (Some (codes "9223372036854775807")); dictionary = None; key = None }) ∷ []) }) ∷ (record { name = (codes "M2"); id = (Some 0); around = (record { dictionary = (Some (codes "global")); type_ref = None }); members = written_list (written_sequence (codes "K") Optional (record { dictionary = None; type_ref = None }) (Some (codes "A")) (record { operator = Operator.Copy; initial = (Some (codes "2")); dictionary = None; key = None }) (written_list (written_field (codes "K") Kind.Int32 Mandatory (record { operator = Operator.Delta; initial = None; dictionary = (Some (codes "D")); key = None }) ∷ [])) ∷ written_sequence (codes "K") Mandatory (record { dictionary = (Some (codes "template")); type_ref = (Some (codes "T")) }) None (record { operator = Operator.Constant; initial = (Some (codes "2")); dictionary = (Some (codes "global")); key = None }) (written_list (written_reference (codes "M1") ∷ [])) ∷ []) }) ∷ [])

flat_60_0 : numbered 1 (stands_in set_60 3 (codes "M1")) ≡ (instructions_of (field_in_parts (codes "A") 1 Optional (record { number = 1; part = Part.Exponent; kind = Kind.Int32; presence = Optional; operator = Operator.Copy; initial = None; key = record { slot = 0; scope = Scope.Global; name = (codes "A"); part = Part.Whole } }) (record { number = 1; part = Part.Mantissa; kind = Kind.Int64; presence = Mandatory; operator = Operator.Delta; initial = (Some (Scalar.I64 (pos 9223372036854775807))); key = record { slot = 0; scope = Scope.Global; name = (codes "A"); part = Part.Mantissa } }) ∷ []))
flat_60_0 = refl

bits_60_0 : bits_all (stands_in set_60 3 (codes "M1")) ≡ (true ∷ [])
bits_60_0 = refl

flat_60_1 : numbered 1 (stands_in set_60 3 (codes "M2")) ≡ (instructions_of (sequence_of (codes "K") 1 Optional (record { number = 1; part = Part.Length; kind = Kind.UInt32; presence = Optional; operator = Operator.Copy; initial = (Some (Scalar.U32 2)); key = record { slot = 0; scope = Scope.Global; name = (codes "A"); part = Part.Whole } }) (instructions_of (whole_field (codes "K") 2 Mandatory (record { number = 2; part = Part.Whole; kind = Kind.Int32; presence = Mandatory; operator = Operator.Delta; initial = None; key = record { slot = 0; scope = (Scope.User (codes "D")); name = (codes "K"); part = Part.Whole } }) ∷ [])) ∷ sequence_of (codes "K") 3 Mandatory (record { number = 3; part = Part.Length; kind = Kind.UInt32; presence = Mandatory; operator = Operator.Constant; initial = (Some (Scalar.U32 2)); key = record { slot = 0; scope = Scope.Global; name = (codes "K"); part = Part.Length } }) (instructions_of (field_in_parts (codes "A") 4 Optional (record { number = 4; part = Part.Exponent; kind = Kind.Int32; presence = Optional; operator = Operator.Copy; initial = None; key = record { slot = 0; scope = Scope.Global; name = (codes "A"); part = Part.Whole } }) (record { number = 4; part = Part.Mantissa; kind = Kind.Int64; presence = Mandatory; operator = Operator.Delta; initial = (Some (Scalar.I64 (pos 9223372036854775807))); key = record { slot = 0; scope = Scope.Global; name = (codes "A"); part = Part.Mantissa } }) ∷ [])) ∷ []))
flat_60_1 = refl

bits_60_1 : bits_all (stands_in set_60 3 (codes "M2")) ≡ (true ∷ false ∷ false ∷ false ∷ true ∷ true ∷ [])
bits_60_1 = refl

-- seed 5152
abbrev set_61 : List WrittenTemplate
set_61 = ((record { name = (codes "M1"); id = (Some 4294967295); around = (record { dictionary = None; type_ref = None }); members = written_list (written_field (codes "K") Kind.Bytes Optional (record { operator = Operator.Copy; initial = (Some ([])); dictionary = None; key = None }) ∷ written_field (codes "K") Kind.Bytes Mandatory (record { operator = Operator.Tail; initial = None; dictionary = None; key = None }) ∷ []) }) ∷ (record { name = (codes "M2"); id = (Some 4); around = (record { dictionary = (Some (codes "D")); type_ref = (Some (codes "T")) }); members = written_list (written_group (codes "B") Mandatory (record { dictionary = (Some (codes "E")); type_ref = None }) (written_list (written_field (codes "B") Kind.Bytes Optional (record { operator = Operator.Delta; initial = None; dictionary = None; key = None }) ∷ written_reference (codes "M3") ∷ [])) ∷ written_field (codes "K") Kind.Bytes Mandatory (record { operator = Operator.Plain; initial = None; dictionary = None; key = None }) ∷ []) }) ∷ (record { name = (codes "M3"); id = (Some 2); around = (record { dictionary = (Some (codes "template")); type_ref = None }); members = written_list (written_field (codes "C") Kind.Bytes Mandatory (record { operator = Operator.Constant; initial = (Some (codes "ff")); dictionary = (Some (codes "D")); key = (Some (codes "L")) }) ∷ written_field (codes "K") Kind.Bytes Mandatory (record { operator = Operator.Default; initial = (Some (codes "8080")); dictionary = None; key = None }) ∷ written_field (codes "L") Kind.Bytes Mandatory (record { operator = Operator.Constant; initial = (Some (codes "0a")); dictionary = None; key = (Some (codes "A")) }) ∷ []) }) ∷ [])

flat_61_0 : numbered 1 (stands_in set_61 4 (codes "M1")) ≡ (instructions_of (whole_field (codes "K") 1 Optional (record { number = 1; part = Part.Whole; kind = Kind.Bytes; presence = Optional; operator = Operator.Copy; initial = (Some (Scalar.Bytes ([]))); key = record { slot = 0; scope = Scope.Global; name = (codes "K"); part = Part.Whole } }) ∷ whole_field (codes "K") 2 Mandatory (record { number = 2; part = Part.Whole; kind = Kind.Bytes; presence = Mandatory; operator = Operator.Tail; initial = None; key = record { slot = 0; scope = Scope.Global; name = (codes "K"); part = Part.Whole } }) ∷ []))
flat_61_0 = refl

bits_61_0 : bits_all (stands_in set_61 4 (codes "M1")) ≡ (true ∷ true ∷ [])
bits_61_0 = refl

flat_61_1 : numbered 1 (stands_in set_61 4 (codes "M2")) ≡ (instructions_of (group_of (codes "B") 1 Mandatory (instructions_of (whole_field (codes "B") 2 Optional (record { number = 2; part = Part.Whole; kind = Kind.Bytes; presence = Optional; operator = Operator.Delta; initial = None; key = record { slot = 0; scope = (Scope.User (codes "E")); name = (codes "B"); part = Part.Whole } }) ∷ whole_field (codes "C") 3 Mandatory (record { number = 3; part = Part.Whole; kind = Kind.Bytes; presence = Mandatory; operator = Operator.Constant; initial = (Some (Scalar.Bytes (255 ∷ []))); key = record { slot = 0; scope = (Scope.User (codes "D")); name = (codes "L"); part = Part.Whole } }) ∷ whole_field (codes "K") 4 Mandatory (record { number = 4; part = Part.Whole; kind = Kind.Bytes; presence = Mandatory; operator = Operator.Default; initial = (Some (Scalar.Bytes (128 ∷ 128 ∷ []))); key = record { slot = 0; scope = (Scope.Template 3); name = (codes "K"); part = Part.Whole } }) ∷ whole_field (codes "L") 5 Mandatory (record { number = 5; part = Part.Whole; kind = Kind.Bytes; presence = Mandatory; operator = Operator.Constant; initial = (Some (Scalar.Bytes (10 ∷ []))); key = record { slot = 0; scope = (Scope.Template 3); name = (codes "A"); part = Part.Whole } }) ∷ [])) ∷ whole_field (codes "K") 6 Mandatory (record { number = 6; part = Part.Whole; kind = Kind.Bytes; presence = Mandatory; operator = Operator.Plain; initial = None; key = record { slot = 0; scope = (Scope.User (codes "D")); name = (codes "K"); part = Part.Whole } }) ∷ []))
flat_61_1 = refl

bits_61_1 : bits_all (stands_in set_61 4 (codes "M2")) ≡ (false ∷ true ∷ false ∷ false ∷ true ∷ false ∷ false ∷ [])
bits_61_1 = refl

flat_61_2 : numbered 1 (stands_in set_61 4 (codes "M3")) ≡ (instructions_of (whole_field (codes "C") 1 Mandatory (record { number = 1; part = Part.Whole; kind = Kind.Bytes; presence = Mandatory; operator = Operator.Constant; initial = (Some (Scalar.Bytes (255 ∷ []))); key = record { slot = 0; scope = (Scope.User (codes "D")); name = (codes "L"); part = Part.Whole } }) ∷ whole_field (codes "K") 2 Mandatory (record { number = 2; part = Part.Whole; kind = Kind.Bytes; presence = Mandatory; operator = Operator.Default; initial = (Some (Scalar.Bytes (128 ∷ 128 ∷ []))); key = record { slot = 0; scope = (Scope.Template 3); name = (codes "K"); part = Part.Whole } }) ∷ whole_field (codes "L") 3 Mandatory (record { number = 3; part = Part.Whole; kind = Kind.Bytes; presence = Mandatory; operator = Operator.Constant; initial = (Some (Scalar.Bytes (10 ∷ []))); key = record { slot = 0; scope = (Scope.Template 3); name = (codes "A"); part = Part.Whole } }) ∷ []))
flat_61_2 = refl

bits_61_2 : bits_all (stands_in set_61 4 (codes "M3")) ≡ (false ∷ true ∷ false ∷ [])
bits_61_2 = refl

-- seed 5163
abbrev set_62 : List WrittenTemplate
set_62 = ((record { name = (codes "M1"); id = (Some 3); around = (record { dictionary = (Some (codes "template")); type_ref = None }); members = written_list (written_sequence (codes "K") Optional (record { dictionary = None; type_ref = None }) None (record { operator = Operator.Default; initial = (Some (codes "1")); dictionary = None; key = None }) (written_list (written_field (codes "C") Kind.Int64 Mandatory (record { operator = Operator.Increment; initial = None; dictionary = None; key = None }) ∷ written_field (codes "C") Kind.UInt32 Optional (record { operator = Operator.Copy; initial = None; dictionary = (Some (codes "type")); key = None }) ∷ [])) ∷ written_field (codes "C") Kind.Int32 Optional (record { operator = Operator.Copy; initial = None; dictionary = None; key = None }) ∷ []) }) ∷ (record { name = (codes "M2"); id = None; around = (record { dictionary = (Some (codes "type")); type_ref = None }); members = written_list (written_field (codes "C") Kind.Ascii Mandatory (record { operator = Operator.Delta; initial = None; dictionary = None; key = None }) ∷ written_field (codes "L") Kind.Int32 Optional (record { operator = Operator.Default; initial = None; dictionary = None; key = (Some (codes "K")) }) ∷ []) }) ∷ (record { name = (codes "M3"); id = (Some 0); around = (record { dictionary = (Some (codes "E")); type_ref = None }); members = written_list (written_reference (codes "M1") ∷ []) }) ∷ (record { name = (codes "M4"); id = (Some 100); around = (record { dictionary = (Some (codes "type")); type_ref = (Some (codes "any")) }); members = written_list (written_field (codes "A") Kind.UInt32 Optional (record { operator = Operator.Constant; initial = (Some (codes "4294967294")); dictionary = None; key = None }) ∷ written_field (codes "K") Kind.UInt32 Mandatory (record { operator = Operator.Delta; initial = (Some (codes "4294967295")); dictionary = None; key = None }) ∷ written_group (codes "A") Optional (record { dictionary = None; type_ref = None }) (written_list (written_field (codes "L") Kind.Decimal Mandatory (record { operator = Operator.Delta; initial = (Some (codes "64e-5")); dictionary = None; key = (Some (codes "L")) }) ∷ [])) ∷ written_field (codes "L") Kind.UInt32 Mandatory (record { operator = Operator.Increment; initial = None; dictionary = (Some (codes "global")); key = None }) ∷ []) }) ∷ [])

flat_62_0 : numbered 1 (stands_in set_62 5 (codes "M1")) ≡ (instructions_of (sequence_of (codes "K") 1 Optional (record { number = 1; part = Part.Length; kind = Kind.UInt32; presence = Optional; operator = Operator.Default; initial = (Some (Scalar.U32 1)); key = record { slot = 0; scope = (Scope.Template 1); name = (codes "K"); part = Part.Length } }) (instructions_of (whole_field (codes "C") 2 Mandatory (record { number = 2; part = Part.Whole; kind = Kind.Int64; presence = Mandatory; operator = Operator.Increment; initial = None; key = record { slot = 0; scope = (Scope.Template 1); name = (codes "C"); part = Part.Whole } }) ∷ whole_field (codes "C") 3 Optional (record { number = 3; part = Part.Whole; kind = Kind.UInt32; presence = Optional; operator = Operator.Copy; initial = None; key = record { slot = 0; scope = (Scope.Typed (codes "any")); name = (codes "C"); part = Part.Whole } }) ∷ [])) ∷ whole_field (codes "C") 4 Optional (record { number = 4; part = Part.Whole; kind = Kind.Int32; presence = Optional; operator = Operator.Copy; initial = None; key = record { slot = 0; scope = (Scope.Template 1); name = (codes "C"); part = Part.Whole } }) ∷ []))
flat_62_0 = refl

bits_62_0 : bits_all (stands_in set_62 5 (codes "M1")) ≡ (true ∷ true ∷ true ∷ true ∷ true ∷ [])
bits_62_0 = refl

flat_62_2 : numbered 1 (stands_in set_62 5 (codes "M3")) ≡ (instructions_of (sequence_of (codes "K") 1 Optional (record { number = 1; part = Part.Length; kind = Kind.UInt32; presence = Optional; operator = Operator.Default; initial = (Some (Scalar.U32 1)); key = record { slot = 0; scope = (Scope.Template 1); name = (codes "K"); part = Part.Length } }) (instructions_of (whole_field (codes "C") 2 Mandatory (record { number = 2; part = Part.Whole; kind = Kind.Int64; presence = Mandatory; operator = Operator.Increment; initial = None; key = record { slot = 0; scope = (Scope.Template 1); name = (codes "C"); part = Part.Whole } }) ∷ whole_field (codes "C") 3 Optional (record { number = 3; part = Part.Whole; kind = Kind.UInt32; presence = Optional; operator = Operator.Copy; initial = None; key = record { slot = 0; scope = (Scope.Typed (codes "any")); name = (codes "C"); part = Part.Whole } }) ∷ [])) ∷ whole_field (codes "C") 4 Optional (record { number = 4; part = Part.Whole; kind = Kind.Int32; presence = Optional; operator = Operator.Copy; initial = None; key = record { slot = 0; scope = (Scope.Template 1); name = (codes "C"); part = Part.Whole } }) ∷ []))
flat_62_2 = refl

bits_62_2 : bits_all (stands_in set_62 5 (codes "M3")) ≡ (true ∷ true ∷ true ∷ true ∷ true ∷ [])
bits_62_2 = refl

flat_62_3 : numbered 1 (stands_in set_62 5 (codes "M4")) ≡ (instructions_of (whole_field (codes "A") 1 Optional (record { number = 1; part = Part.Whole; kind = Kind.UInt32; presence = Optional; operator = Operator.Constant; initial = (Some (Scalar.U32 4294967294)); key = record { slot = 0; scope = (Scope.Typed (codes "any")); name = (codes "A"); part = Part.Whole } }) ∷ whole_field (codes "K") 2 Mandatory (record { number = 2; part = Part.Whole; kind = Kind.UInt32; presence = Mandatory; operator = Operator.Delta; initial = (Some (Scalar.U32 4294967295)); key = record { slot = 0; scope = (Scope.Typed (codes "any")); name = (codes "K"); part = Part.Whole } }) ∷ group_of (codes "A") 3 Optional (instructions_of (whole_field (codes "L") 4 Mandatory (record { number = 4; part = Part.Whole; kind = Kind.Decimal; presence = Mandatory; operator = Operator.Delta; initial = (Some (Scalar.Decimal (negsuc 4) (pos 64))); key = record { slot = 0; scope = (Scope.Typed (codes "any")); name = (codes "L"); part = Part.Whole } }) ∷ [])) ∷ whole_field (codes "L") 5 Mandatory (record { number = 5; part = Part.Whole; kind = Kind.UInt32; presence = Mandatory; operator = Operator.Increment; initial = None; key = record { slot = 0; scope = Scope.Global; name = (codes "L"); part = Part.Whole } }) ∷ []))
flat_62_3 = refl

bits_62_3 : bits_all (stands_in set_62 5 (codes "M4")) ≡ (true ∷ false ∷ true ∷ false ∷ false ∷ true ∷ [])
bits_62_3 = refl

-- seed 5174
abbrev set_63 : List WrittenTemplate
set_63 = ((record { name = (codes "M1"); id = None; around = (record { dictionary = (Some (codes "template")); type_ref = (Some (codes "U")) }); members = written_list (written_group (codes "B") Mandatory (record { dictionary = None; type_ref = (Some (codes "U")) }) (written_list (written_field (codes "A") Kind.Int64 Mandatory (record { operator = Operator.Copy; initial = None; dictionary = None; key = None }) ∷ [])) ∷ written_field (codes "A") Kind.Int64 Mandatory (record { operator = Operator.Copy; initial = None; dictionary = (Some (codes "type")); key = None }) ∷ written_field (codes "A") Kind.Int64 Mandatory (record { operator = Operator.Delta; initial = None; dictionary = (Some (codes "D")); key = None }) ∷ []) }) ∷ (record { name = (codes "M2"); id = (Some 1); around = (record { dictionary = None; type_ref = None }); members = written_list (written_group (codes "A") Mandatory (record { dictionary = None; type_ref = None }) (written_list (written_reference (codes "M1") ∷ written_field (codes "A") Kind.Int64 Mandatory (record { operator = Operator.Copy; initial = None; dictionary = None; key = None }) ∷ [])) ∷ written_group (codes "A") Mandatory (record { dictionary = None; type_ref = (Some (codes "any")) }) (written_list ([])) ∷ []) }) ∷ (record { name = (codes "M3"); id = None; around = (record { dictionary = (Some (codes "D")); type_ref = None }); members = written_list (written_group (codes "A") Mandatory (record { dictionary = (Some (codes "type")); type_ref = (Some (codes "T")) }) (written_list (written_field (codes "A") Kind.Int64 Optional (record { operator = Operator.Constant; initial = (Some (codes "9223372036854775806")); dictionary = (Some (codes "template")); key = (Some (codes "L")) }) ∷ [])) ∷ written_sequence (codes "B") Optional (record { dictionary = (Some (codes "type")); type_ref = (Some (codes "any")) }) (Some (codes "B")) (record { operator = Operator.Increment; initial = (Some (codes "1")); dictionary = None; key = None }) (written_list (written_parts (codes "A") Optional (record { operator = Operator.Delta; initial = None; dictionary = (Some (codes "template")); key = None }) (record { operator = Operator.Copy; initial = (Some (codes "1")); dictionary = None; key = None }) ∷ [])) ∷ []) }) ∷ (record { name = (codes "M4"); id = (Some 2); around = (record { dictionary = None; type_ref = None }); members = written_list ([]) }) ∷ [])

flat_63_1 : numbered 1 (stands_in set_63 5 (codes "M2")) ≡ (instructions_of (group_of (codes "A") 1 Mandatory (instructions_of (group_of (codes "B") 2 Mandatory (instructions_of (whole_field (codes "A") 3 Mandatory (record { number = 3; part = Part.Whole; kind = Kind.Int64; presence = Mandatory; operator = Operator.Copy; initial = None; key = record { slot = 0; scope = (Scope.Template 1); name = (codes "A"); part = Part.Whole } }) ∷ [])) ∷ whole_field (codes "A") 4 Mandatory (record { number = 4; part = Part.Whole; kind = Kind.Int64; presence = Mandatory; operator = Operator.Copy; initial = None; key = record { slot = 0; scope = (Scope.Typed (codes "U")); name = (codes "A"); part = Part.Whole } }) ∷ whole_field (codes "A") 5 Mandatory (record { number = 5; part = Part.Whole; kind = Kind.Int64; presence = Mandatory; operator = Operator.Delta; initial = None; key = record { slot = 0; scope = (Scope.User (codes "D")); name = (codes "A"); part = Part.Whole } }) ∷ whole_field (codes "A") 6 Mandatory (record { number = 6; part = Part.Whole; kind = Kind.Int64; presence = Mandatory; operator = Operator.Copy; initial = None; key = record { slot = 0; scope = Scope.Global; name = (codes "A"); part = Part.Whole } }) ∷ [])) ∷ group_of (codes "A") 7 Mandatory (instructions_of ([])) ∷ []))
flat_63_1 = refl

bits_63_1 : bits_all (stands_in set_63 5 (codes "M2")) ≡ (false ∷ true ∷ false ∷ true ∷ true ∷ true ∷ false ∷ true ∷ false ∷ false ∷ [])
bits_63_1 = refl

flat_63_3 : numbered 1 (stands_in set_63 5 (codes "M4")) ≡ (instructions_of ([]))
flat_63_3 = refl

bits_63_3 : bits_all (stands_in set_63 5 (codes "M4")) ≡ ([])
bits_63_3 = refl

-- seed 5178
abbrev set_64 : List WrittenTemplate
set_64 = ((record { name = (codes "M1"); id = (Some 0); around = (record { dictionary = None; type_ref = None }); members = written_list ([]) }) ∷ (record { name = (codes "M2"); id = (Some 4294967295); around = (record { dictionary = None; type_ref = None }); members = written_list (written_field (codes "L") Kind.Decimal Mandatory (record { operator = Operator.Copy; initial = None; dictionary = (Some (codes "type")); key = None }) ∷ written_group (codes "A") Optional (record { dictionary = None; type_ref = None }) (written_list (written_field (codes "K") Kind.Decimal Optional (record { operator = Operator.Copy; initial = None; dictionary = None; key = None }) ∷ written_field (codes "L") Kind.Int64 Mandatory (record { operator = Operator.Constant; initial = (Some (codes "9223372036854775807")); dictionary = (Some (codes "D")); key = (Some (codes "A")) }) ∷ [])) ∷ []) }) ∷ (record { name = (codes "M3"); id = None; around = (record { dictionary = None; type_ref = None }); members = written_list (written_field (codes "K") Kind.Decimal Optional (record { operator = Operator.Delta; initial = None; dictionary = (Some (codes "type")); key = None }) ∷ []) }) ∷ (record { name = (codes "M4"); id = (Some 1); around = (record { dictionary = None; type_ref = None }); members = written_list (written_reference (codes "M2") ∷ written_sequence (codes "A") Optional (record { dictionary = None; type_ref = None }) (Some (codes "C")) (record { operator = Operator.Delta; initial = None; dictionary = None; key = None }) (written_list (written_field (codes "K") Kind.Decimal Mandatory (record { operator = Operator.Copy; initial = None; dictionary = None; key = (Some (codes "K")) }) ∷ [])) ∷ written_group (codes "B") Optional (record { dictionary = (Some (codes "template")); type_ref = None }) (written_list ([])) ∷ []) }) ∷ [])

flat_64_0 : numbered 1 (stands_in set_64 5 (codes "M1")) ≡ (instructions_of ([]))
flat_64_0 = refl

bits_64_0 : bits_all (stands_in set_64 5 (codes "M1")) ≡ ([])
bits_64_0 = refl

flat_64_1 : numbered 1 (stands_in set_64 5 (codes "M2")) ≡ (instructions_of (whole_field (codes "L") 1 Mandatory (record { number = 1; part = Part.Whole; kind = Kind.Decimal; presence = Mandatory; operator = Operator.Copy; initial = None; key = record { slot = 0; scope = (Scope.Typed (codes "any")); name = (codes "L"); part = Part.Whole } }) ∷ group_of (codes "A") 2 Optional (instructions_of (whole_field (codes "K") 3 Optional (record { number = 3; part = Part.Whole; kind = Kind.Decimal; presence = Optional; operator = Operator.Copy; initial = None; key = record { slot = 0; scope = Scope.Global; name = (codes "K"); part = Part.Whole } }) ∷ whole_field (codes "L") 4 Mandatory (record { number = 4; part = Part.Whole; kind = Kind.Int64; presence = Mandatory; operator = Operator.Constant; initial = (Some (Scalar.I64 (pos 9223372036854775807))); key = record { slot = 0; scope = (Scope.User (codes "D")); name = (codes "A"); part = Part.Whole } }) ∷ [])) ∷ []))
flat_64_1 = refl

bits_64_1 : bits_all (stands_in set_64 5 (codes "M2")) ≡ (true ∷ true ∷ true ∷ true ∷ false ∷ [])
bits_64_1 = refl

flat_64_3 : numbered 1 (stands_in set_64 5 (codes "M4")) ≡ (instructions_of (whole_field (codes "L") 1 Mandatory (record { number = 1; part = Part.Whole; kind = Kind.Decimal; presence = Mandatory; operator = Operator.Copy; initial = None; key = record { slot = 0; scope = (Scope.Typed (codes "any")); name = (codes "L"); part = Part.Whole } }) ∷ group_of (codes "A") 2 Optional (instructions_of (whole_field (codes "K") 3 Optional (record { number = 3; part = Part.Whole; kind = Kind.Decimal; presence = Optional; operator = Operator.Copy; initial = None; key = record { slot = 0; scope = Scope.Global; name = (codes "K"); part = Part.Whole } }) ∷ whole_field (codes "L") 4 Mandatory (record { number = 4; part = Part.Whole; kind = Kind.Int64; presence = Mandatory; operator = Operator.Constant; initial = (Some (Scalar.I64 (pos 9223372036854775807))); key = record { slot = 0; scope = (Scope.User (codes "D")); name = (codes "A"); part = Part.Whole } }) ∷ [])) ∷ sequence_of (codes "A") 5 Optional (record { number = 5; part = Part.Length; kind = Kind.UInt32; presence = Optional; operator = Operator.Delta; initial = None; key = record { slot = 0; scope = Scope.Global; name = (codes "C"); part = Part.Whole } }) (instructions_of (whole_field (codes "K") 6 Mandatory (record { number = 6; part = Part.Whole; kind = Kind.Decimal; presence = Mandatory; operator = Operator.Copy; initial = None; key = record { slot = 0; scope = Scope.Global; name = (codes "K"); part = Part.Whole } }) ∷ [])) ∷ group_of (codes "B") 7 Optional (instructions_of ([])) ∷ []))
flat_64_3 = refl

bits_64_3 : bits_all (stands_in set_64 5 (codes "M4")) ≡ (true ∷ true ∷ true ∷ true ∷ false ∷ false ∷ true ∷ true ∷ true ∷ false ∷ [])
bits_64_3 = refl
