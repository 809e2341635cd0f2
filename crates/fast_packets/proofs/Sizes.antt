-- Sizes of packets: the shortest may stand at each level, and that of fewer bytes is no longer.
use Rattle.std.proofs.Common.{List, ℕ, ◌^◌, ◌-◌, ◌<◌, ◌≤◌, length, arith, inl, inr}
use Rattle.std.proofs.lemmas.Bool.{cases_lt}
use Rattle.std.proofs.Math.Nat.{pow-le-pow_right}
use Rattle.fast_wire.proofs.NotOverlong.{shortest_unsigned_begins}
use Rattle.fast_wire.proofs.Sizes.{unsigned_fits}
use Rattle.fast_wire.proofs.UnsignedForms.{entity_length, entity_shortest, entity_some, unsigned_bound}
use Rattle.fast_wire.specs.Integer.{IsUnsigned}
unfoldable use Rattle.fast_wire.specs.Sizes.{unsigned_size}
use Rattle.fast_wire.specs.Spellings.{entity_of}
use Rattle.fast_wire.specs.Writing.{IsShortest}
use Rattle.fast_wire.specs.declared.level.Level.{Level}
use Rattle.fast_wire.specs.declared.level.Level.TheVariants.{Strict, Usual}
use Rattle.fast_stream.specs.Blocks.{IsSize}

pub fits_ten : (n : ℕ) → n ≤ 65535 → n < 128 ^ 10
fits_ten n few = omega arith

pub shortest_size : (level : Level) (size : List ℕ) (n : ℕ) → IsShortest IsUnsigned size n → IsSize level size n
shortest_size Usual size n h = h.form
shortest_size Strict size n h = (shortest_unsigned_begins size n h, h.form)

pub size_form : (level : Level) (size : List ℕ) (n : ℕ) → IsSize level size n → IsUnsigned size n
size_form Usual size n h = h
size_form Strict size n h = h.1

-- the shortest size of no more bytes than these is no longer than a size of theirs
pub least_size : (v w : ℕ) (size other : List ℕ) → v ≤ w → v ≤ 65535 → IsShortest IsUnsigned size v → IsUnsigned other w → length size ≤ length other
least_size v w size other fewer few h k =
    let n = unsigned_size v in
    let fits = unsigned_fits v (fits_ten v few) in
    let own = h.least (entity_of n v) (entity_shortest v n fits).form in
    let long = entity_length n v in
    elim (cases_lt (length other) n) [
      | inl less ↦
          let some = entity_some other k.entity in
          let two : 1 < n = omega arith in
          let le : length other ≤ n - 1 = omega arith in
          let top : 128 ^ length other ≤ 128 ^ (n - 1) = pow-le-pow_right {n = 128} (omega arith) le in
          absurd (omega (arith, fits.3 two, unsigned_bound other w k))
      | inr le ↦ omega (arith, own, long)
    ]

pub size_some : (level : Level) (size : List ℕ) (n : ℕ) → IsSize level size n → 0 < length size
size_some level size n h = entity_some size (size_form level size n h).entity
