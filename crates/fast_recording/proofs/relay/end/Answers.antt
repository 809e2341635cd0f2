use Rattle.std.proofs.Common.{[], arith, refl}
use Rattle.fast_recording.specs.Made.{WritesMade, numbering_of}
use Rattle.fast_recording.proofs.Numbered.{nothing_numbered}
use Rattle.fast_recording.proofs.Parts.{size_ends, size_writes}
use Rattle.fast_recording.proofs.relay.end.Goals as goal

pub returns-in-None-clause-ends : goal.returns-in-None-clause-ends
returns-in-None-clause-ends g c = λ set old front set_is bound p.
    let m = c.args.manner in
    size_ends m.keep_going m.level set (WritesMade (numbering_of m.numbered) g.O.PacketOutput.sized g.O.Output.makes set) (λ number at cause. ([], refl, nothing_numbered m.numbered number)) c.args.progress.now.counts c.end_in_size.new.progress.counts old
    (g.W.ByteOutput.taken c.args.writer.now) (g.T.ByteOutput.taken c.args.teller.now) (g.T.ByteOutput.taken c.end_in_size.new.teller) front c.args.bytes.now c.args.cause p (omega (arith, bound)) (rw (c.in-None.is) at c.requires.open) c.end_in_size.result
    c.end_in_size.ensures.ends

pub returns-in-None-clause-write : goal.returns-in-None-clause-write
returns-in-None-clause-write g c = size_writes _ _ _ _ _ _ _ (g.W.ByteOutput.errors c.args.writer.now) c.end_in_size.result c.end_in_size.ensures.ends
