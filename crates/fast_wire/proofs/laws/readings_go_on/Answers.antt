use Rattle.fast_wire.proofs.GoingOn.{entity_goes, unsigned_goes, signed_goes, unsigned_nullable_goes, signed_nullable_goes, ascii_goes, ascii_nullable_goes, bytes_goes, vector_goes, vector_nullable_goes, map_goes}
use Rattle.fast_wire.proofs.laws.readings_go_on.Goals as goal

pub returns : goal.returns
returns c = record {
  entity = entity_goes;
  unsigned = unsigned_goes;
  signed = signed_goes;
  unsigned_nullable = unsigned_nullable_goes;
  signed_nullable = signed_nullable_goes;
  ascii = ascii_goes;
  ascii_nullable = ascii_nullable_goes;
  bytes = bytes_goes;
  vector = vector_goes;
  vector_nullable = vector_nullable_goes;
  map = map_goes;
}
