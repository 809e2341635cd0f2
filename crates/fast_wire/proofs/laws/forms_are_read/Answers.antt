use Rattle.fast_wire.proofs.FormReaders.{ascii_forms, ascii_nullable_forms, entities, map_forms, signed_forms, unsigned_forms}
use Rattle.fast_wire.proofs.NullableForms.{signed_nullable_forms, unsigned_nullable_forms}
use Rattle.fast_wire.proofs.VectorForms.{vector_forms, vector_nullable_forms}
use Rattle.fast_wire.proofs.laws.forms_are_read.Goals as goal

pub returns : goal.returns
returns c = record {
  entity = entities;
  unsigned = unsigned_forms;
  signed = signed_forms;
  unsigned_nullable = unsigned_nullable_forms;
  signed_nullable = signed_nullable_forms;
  ascii = ascii_forms;
  ascii_nullable = ascii_nullable_forms;
  vector = vector_forms;
  vector_nullable = vector_nullable_forms;
  map = map_forms;
}
