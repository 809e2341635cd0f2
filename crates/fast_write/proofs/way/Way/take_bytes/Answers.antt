use Rattle.std.proofs.Common.{None, subst, ◌∙◌}
use Rattle.fast_write.specs.Ways.{GoesOn, Stops, here}
use Rattle.fast_write.proofs.Going.{piece_on, piece_place, piece_whole}
use Rattle.fast_write.proofs.way.Way.take_bytes.Goals as goal

pub loop-at-preserved : goal.loop-at-preserved
loop-at-preserved g c =
    let v = c.loop-at.invariant in
    let e = c.in-Ok.ensures in
    record {
      place = piece_place _ _ _ v.place e.some.1;
      same = record { form = e.same.form ∙ v.same.form; set = e.same.set ∙ v.same.set; numbered = e.same.numbered ∙ v.same.numbered };
      errors = e.failed ∙ v.errors;
      flushes = e.flushes ∙ v.flushes;
      goes = λ before input go. subst (GoesOn (here c.take_piece.new.self) before (g.W.ByteOutput.taken c.take_piece.new.writer)) (piece_on input c.args.bytes.now c.loop-at.at c.in-Ok.count) (e.comes None before _ (v.goes before input go));
    }

pub returns-in-Err-clause-comes : goal.returns-in-Err-clause-comes
returns-in-Err-clause-comes g c = λ left before input go.
    subst (λ l. Stops (here c.take_piece.new.self) left before (g.W.ByteOutput.taken c.take_piece.new.writer) l c.in-Err.fault) (piece_whole input c.args.bytes.now c.loop-at.at) (c.in-Err.ensures.comes left before _ (c.loop-at.invariant.goes before input go))
