use Rattle.fast_writer.proofs.Common.{◌≡◌, ℕ, refl, sym, ◌∙◌, Some, Assigned, Entry, FieldPart, Kind, Operator, Scalar}
use Rattle.fast_field.specs.Passed.{Passes}
use Rattle.fast_field.proofs.Passing.{kept_found, kept_passes}
use Rattle.fast_value.specs.declared.kind.Part.{Part}
use Rattle.fast_value.specs.declared.scalar.Scalar.TheVariants.{U32}
use Rattle.fast_writer.proofs.count.repeat_count.Goals as goal

-- bit 0 repeats the number that the entry has
repeats : (p : FieldPart) (e : Entry) (v : Scalar) (n : ℕ) → p.operator ≡ Operator.Copy → p.kind ≡ Kind.UInt32 → p.part ≡ Part.Whole → e ≡ Assigned v → v ≡ U32 n → Passes p e e (Some (U32 n))
repeats p e v n copied kind whole assigned number =
    rw (assigned, number) (kept_found p (Assigned (U32 n)) (Assigned (U32 n)) (λ default. let k : Operator.Copy ≡ Operator.Default = sym copied ∙ default in absurd cc) (kept_passes p (U32 n) (rw (copied) tt) (rw (kind) refl) (rw (whole) refl)))

pub returns-in-U32 : goal.returns-in-U32
returns-in-U32 c =
    repeats c.args.part.now c.args.entry.now c.in-Assigned.value c.in-U32.number c.requires.copied c.requires.kind c.requires.whole c.in-Assigned.is c.in-U32.is
