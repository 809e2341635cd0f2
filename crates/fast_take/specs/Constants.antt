-- Constants that are always there. (Own.)
use Rattle.std.specs.Prelude.{◌≡◌, ◌≤◌, ℕ, true, false, List, length}
use Rattle.fast_template.specs.Resolved.{part_needs_bit}
use Rattle.fast_template.specs.declared.resolved.FieldPart.{FieldPart}
use Rattle.fast_dictionary.specs.declared.entry.Entry.{Entry}
use Rattle.fast_wire.specs.declared.level.Level.{Level}
use Rattle.fast_field.specs.AsUsual.{ReadsAsUsual}
use Rattle.fast_take.specs.Judged.{JudgedTo}

-- With no bit, wherever it is read and at both levels, it stands as no byte, and whatever entry it has is as it was.
pub record StandsAlways (i : FieldPart) : Type 0 where
  pub needs : part_needs_bit i ≡ false
  pub stands : (e : Entry) (bytes : List ℕ) (at : ℕ) → at ≤ length bytes → JudgedTo true i e e bytes at at at
  pub usual : (level : Level) (bytes : List ℕ) → ReadsAsUsual level i bytes
