use Rattle.std.proofs.Common.{◌≡◌, ◌∙◌, length, arith}
use Rattle.std.proofs.lemmas.List.{take_rest}
use Rattle.std.proofs.lemmas.Bool.Decides.{nat_tests}
use Rattle.fast_recording.proofs.Labels.{err_any, plain_part, part_on_way, piece_on_way, writes_piece, writes_plainly}
use Rattle.fast_recording.proofs.packet_lines.PacketLines.push_all.Goals as goal

pub returns-in_err-push_all-clause-part : goal.returns-in_err-push_all-clause-part
returns-in_err-push_all-clause-part g c =
    let empty : length c.args.self.now.label.items ≡ 0 = grind (arith, nat_tests) in
    err_any _ (plain_part _ _ _ _ _ empty c.in_err-push_all.ensures.part)

pub returns-then-is_empty-clause-writes : goal.returns-then-is_empty-clause-writes
returns-then-is_empty-clause-writes g c =
    let empty : length c.args.self.now.label.items ≡ 0 = grind (arith, nat_tests) in
    writes_plainly _ _ _ _ _ empty c.saturating_add-self.ensures c.in_ok-push_all.ensures.written

pub returns-in_err-piece-clause-part : goal.returns-in_err-piece-clause-part
returns-in_err-piece-clause-part g c =
    err_any _ (part_on_way c.loop-rest.invariant.on_way (rw (c.deref.ensures.value) at c.in_err-piece.ensures.part))

pub loop-rest-preserved : goal.loop-rest-preserved
loop-rest-preserved g c =
    let v = c.loop-rest.invariant in
    let p = c.in_ok-piece.ensures in
    let piece = c.in_ok-piece.piece in
    let writes = writes_piece c.loop-rest.self piece.begins _ _ piece.taken _ _ _ c.saturating_add-self-in-loop-rest.ensures (rw (c.deref.ensures.value) at p.counted) (rw (c.deref.ensures.value) at p.written) (rw (c.deref.ensures.value) at p.leads_on) in
    record {
      on_way = rw take_rest (piece_on_way piece.taken v.on_way writes);
      errors = p.failed ∙ v.errors;
      flushes = p.flushes ∙ v.flushes;
    }
