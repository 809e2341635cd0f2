use Rattle.fast_wire.proofs.FormSizes.{forms_grow, nullable_forms_grow, signed_grow, signed_nullable_grow}
use Rattle.fast_wire.proofs.Sizes.{signed_size-most, signed_size-positive, unsigned_size-grows, unsigned_size-most, unsigned_size-positive}
use Rattle.fast_wire.proofs.laws.sizes_grow.Goals as goal

pub returns : goal.returns
returns c = record {
  unsigned = unsigned_size-grows;
  unsigned_few = λ v. (unsigned_size-positive v, unsigned_size-most v);
  signed = signed_grow;
  signed_nullable = signed_nullable_grow;
  signed_few = λ v. (signed_size-positive v, signed_size-most v);
  signed_forms = forms_grow;
  signed_nullable_forms = nullable_forms_grow;
}
