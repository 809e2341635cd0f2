-- The phases of a load, each of checks of one family.
use Rattle.std.specs.Prelude.{◌≡◌, ℕ, List}
use Rattle.fast_load.specs.Prelude.{LoadFault, WrittenTemplate}
use Rattle.fast_load.specs.LoadChecks.{Check, few_templates, names_well_made, name_new, id_new, operator_allowed, constant_has_value, default_has_value, value_spelled, reference_known, off_cycles, nests_little, sum_small, Fails, Before, fault_of}

-- the first number of a check's turn
abbrev pub phase_of : Check → ℕ
phase_of few_templates = 0
phase_of (names_well_made t i) = 1
phase_of (name_new t) = 2
phase_of (id_new t) = 2
phase_of (operator_allowed t i part) = 3
phase_of (constant_has_value t i part) = 3
phase_of (default_has_value t i part) = 3
phase_of (value_spelled t i part) = 3
phase_of (reference_known t i) = 4
phase_of (off_cycles t) = 5
phase_of (nests_little t) = 6
phase_of (sum_small t) = 6

-- no check of the phase fails
abbrev pub Passes : List WrittenTemplate → ℕ → Type 0
Passes templates phase = (check : Check) → phase_of check ≡ phase → ¬ (Fails templates check)

-- a check of the phase fails, none of the phase before it does, and the fault is its
pub record IsFirstOf (templates : List WrittenTemplate) (phase : ℕ) (fault : LoadFault) : Type 0 where
  pub check : Check
  pub of_phase : phase_of check ≡ phase
  pub fails : Fails templates check
  pub first : (other : Check) → phase_of other ≡ phase → Before other check → ¬ (Fails templates other)
  pub answered : fault ≡ fault_of check
