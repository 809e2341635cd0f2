use Rattle.fast_wire.proofs.FormSizes.{ascii_nullable_sizes, ascii_sizes, signed_nullable_sizes, signed_sizes, unsigned_nullable_sizes, unsigned_sizes, vector_nullable_sizes, vector_sizes}
use Rattle.fast_wire.proofs.laws.forms_have_sizes.Goals as goal

pub returns : goal.returns
returns c = record {
  unsigned = unsigned_sizes;
  signed = signed_sizes;
  unsigned_nullable = unsigned_nullable_sizes;
  signed_nullable = signed_nullable_sizes;
  ascii = ascii_sizes;
  ascii_nullable = ascii_nullable_sizes;
  vector = vector_sizes;
  vector_nullable = vector_nullable_sizes;
}
