use Rattle.fast_host.proofs.Texts.{Keeps, reader_of}
use Rattle.fast_host.proofs.input.read_text.Given as goal

abbrev pub invariant-loop : goal.invariant-loop
invariant-loop g l = Keeps (reader_of g.R.ByteInput l.fn.reader) (reader_of g.R.ByteInput l.reader) l.counter l.text.items
