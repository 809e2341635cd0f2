-- The words for causes of refused templates. Numbers are those of FAST 1.1, Error Handling, or the project's own.
use Rattle.std.specs.Prelude.{ℕ, List, codes}
use Rattle.fast_written.specs.declared.fault.LoadCause.{LoadCause}

-- a cause as a word
abbrev pub name_of : LoadCause → List ℕ
name_of LoadCause.S1 = codes "S1"
name_of LoadCause.S2 = codes "S2"
name_of LoadCause.S3 = codes "S3"
name_of LoadCause.S4 = codes "S4"
name_of LoadCause.S5 = codes "S5"
name_of LoadCause.D8 = codes "D8"
name_of LoadCause.DuplicateName = codes "DuplicateName"
name_of LoadCause.DuplicateId = codes "DuplicateId"
name_of LoadCause.Cycle = codes "Cycle"
name_of LoadCause.TooDeep = codes "TooDeep"
name_of LoadCause.TooMany = codes "TooMany"
name_of LoadCause.Memory = codes "Memory"
