-- What lies aside of a field that was judged as it stands. (Own.) No public clause names these.
use Rattle.std.specs.Prelude.{◌≡◌, ℕ, List, drop, Some, Ok, true}
use Rattle.fast_wire.specs.declared.level.Level.TheVariants.{Usual}
use Rattle.fast_value.specs.declared.scalar.Scalar.{Scalar}
use Rattle.fast_template.specs.declared.resolved.FieldPart.{FieldPart}
use Rattle.fast_dictionary.specs.declared.entry.Entry.{Entry}
unfoldable use Rattle.fast_field.specs.FieldReading.{field_at}
use Rattle.fast_take.specs.Numbers.{KeepsNothing}
use Rattle.fast_take.specs.declared.judged.Judged.{Judged}
use Rattle.fast_take.specs.declared.judged.Judged.TheVariants.{Elsewhere}
use Rattle.fast_take.specs.Takes.{value_aside}
use Rattle.fast_take.specs.declared.took.Unkept.{Unkept}

-- whatever value is read at a place, where no entry keeps it, lies aside
abbrev pub LaysAside : FieldPart → Entry → List ℕ → ℕ → Unkept → Type 0
LaysAside i old bytes at u = (v : Scalar) (rest : List ℕ) → field_at Usual i old true (drop at bytes) ≡ Ok (Some v, rest) → KeepsNothing i.operator → value_aside i.kind bytes u ≡ v

-- what holds where a field was judged
abbrev pub IfJudged : Judged → Type 0 → Type 0
IfJudged Elsewhere p = Unit {0}
IfJudged j p = p
