-- Rows that hold the definitions in place, where no contract would see a narrower one.
use Rattle.fast_wire.proofs.Common.{pos, negsuc, ◌^◌, ◌-◌, arith, FitsI64, FitsU64}

-- the numbers that 64 bits hold, at their ends
pub widest_u64 : FitsU64 (2 ^ 64 - 1)
widest_u64 = omega arith

pub widest_i64 : FitsI64 (pos (2 ^ 63 - 1))
widest_i64 = omega arith

pub lowest_i64 : FitsI64 (negsuc (2 ^ 63 - 1))
lowest_i64 = omega arith
