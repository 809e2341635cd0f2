-- The words for causes. Numbers are those of FAST 1.1, Error Handling, or the project's own.
use Rattle.std.specs.Prelude.{ℕ, List, codes}
use Rattle.fast_stream.specs.declared.fault.Cause.{Cause}
use Rattle.fast_stream.specs.declared.fault.Cause.TheVariants.{D2, D4, D5, D6, D7, D9, D12, BlockEnd, R1, R2, R6, R7, R8, R9, Truncated, Limit, Read, Turns, Memory}

-- a cause as a word
abbrev pub name_of : Cause → List ℕ
name_of D2 = codes "D2"
name_of D4 = codes "D4"
name_of D5 = codes "D5"
name_of D6 = codes "D6"
name_of D7 = codes "D7"
name_of D9 = codes "D9"
name_of D12 = codes "D12"
name_of R1 = codes "R1"
name_of R2 = codes "R2"
name_of R6 = codes "R6"
name_of R7 = codes "R7"
name_of R8 = codes "R8"
name_of R9 = codes "R9"
name_of BlockEnd = codes "BlockEnd"
name_of Truncated = codes "Truncated"
name_of Limit = codes "Limit"
name_of Read = codes "Read"
name_of Turns = codes "Turns"
name_of Memory = codes "Memory"
