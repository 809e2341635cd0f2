-- A value that was taken is of its field: of the type and within it, and there where it has to be.
use Rattle.std.proofs.Common.{◌≡◌, ℕ, Bool, List, Option, Some, None, IfSome, IsTrue, sym, ◌∙◌, subst}
use Rattle.fast_wire.specs.declared.level.Level.{Level}
use Rattle.fast_value.specs.Scalar.{IsScalar, is_of}
use Rattle.fast_value.specs.declared.kind.Kind.{Kind}
use Rattle.fast_value.specs.declared.kind.Presence.TheVariants.{Mandatory, Optional}
use Rattle.fast_value.specs.declared.scalar.Scalar.{Scalar}
use Rattle.fast_template.specs.declared.resolved.FieldPart.{FieldPart}
use Rattle.fast_dictionary.specs.declared.entry.Entry.{Entry}
use Rattle.fast_field.specs.Parts.{IsFieldPart}
use Rattle.fast_field.specs.Within.{HoldsScalar, IsOfField}
use Rattle.fast_field.proofs.FieldsWithin.{values_within}
use Rattle.fast_take.specs.Takes.{IsTook, best_bit, best_form, value_taken}
use Rattle.fast_take.specs.declared.took.Aside.{Aside}
use Rattle.fast_take.specs.declared.took.Took.{Took}

within : (i : FieldPart) (v : Option Scalar) → IsOfField i v → IfSome v IsScalar
within i None h = tt
within i (Some v) h = h.1

of_kind : (i : FieldPart) (k : Kind) (v : Option Scalar) → i.kind ≡ k → IsOfField i v → IfSome v (λ w. IsTrue (is_of k w))
of_kind i k None e h = tt
of_kind i k (Some v) e h = subst (λ (k : Kind). IsTrue (is_of k v)) e h.0

there : (i : FieldPart) (v : Option Scalar) → IsOfField i v → i.presence ≡ Mandatory → v ≡ None → ⊥
there i None h mandatory none = let no : Mandatory ≡ Optional = sym mandatory ∙ h in absurd cc
there i (Some v) h mandatory none = absurd cc

module _ (level : Level) (i : FieldPart) (old new : Entry) (bit : Bool) (bytes : List ℕ) (at : ℕ) (a : Aside) (t : Took) (is : IsFieldPart i) (holds : HoldsScalar old) (h : IsTook level i old new bit bytes at a t) where
  pub taken_of_field : IsOfField i (value_taken i new bit bytes a t)
  taken_of_field = (values_within i old (best_bit bit a t) (best_form bytes at a t) (value_taken i new bit bytes a t) is holds (h.best.cut, h.best.form)).of_field

  pub taken_within : IfSome (value_taken i new bit bytes a t) IsScalar
  taken_within = within i (value_taken i new bit bytes a t) taken_of_field

  pub taken_kind : (k : Kind) → i.kind ≡ k → IfSome (value_taken i new bit bytes a t) (λ w. IsTrue (is_of k w))
  taken_kind k e = of_kind i k (value_taken i new bit bytes a t) e taken_of_field

  pub taken_there : i.presence ≡ Mandatory → value_taken i new bit bytes a t ≡ None → ⊥
  taken_there = there i (value_taken i new bit bytes a t) taken_of_field
