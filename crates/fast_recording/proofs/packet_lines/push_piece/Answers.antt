use Rattle.fast_recording.proofs.Labels.{err_any, part_of_first, part_of_label, part_of_piece, piece_length, piece_stays, piece_leads_on}
use Rattle.fast_recording.proofs.packet_lines.push_piece.Goals as goal

pub returns-in_err-push_all-clause-part : goal.returns-in_err-push_all-clause-part
returns-in_err-push_all-clause-part g c = err_any _ (part_of_first _ _ _ _ _ c.if-begins.true c.requires c.in_err-push_all.ensures.part)

pub returns-in_err-push_all-2-clause-part : goal.returns-in_err-push_all-2-clause-part
returns-in_err-push_all-2-clause-part g c = err_any _ (part_of_label _ _ _ _ _ _ c.if-begins.true c.requires c.in_ok-push_all.ensures.written c.in_err-push_all-2.ensures.part)

pub returns-in_err-push_all-3-clause-part : goal.returns-in_err-push_all-3-clause-part
returns-in_err-push_all-3-clause-part g c = err_any _ (part_of_piece _ _ _ _ _ _ c.if-begins.false c.line_end-end.ensures c.in_err-push_all-3.ensures.part)

pub returns-clause-written : goal.returns-clause-written
returns-clause-written g c =
    rw (piece_stays c.args.bytes.now c.line_end-end.result c.args.label.now c.args.begins c.if-begins.false c.line_end-end.ensures) c.in_ok-push_all-3.ensures.written

pub returns-clause-leads_on : goal.returns-clause-leads_on
returns-clause-leads_on g c = piece_leads_on _ _ _ _ c.if-begins.false c.line_end-end.ensures

pub returns-clause-counted : goal.returns-clause-counted
returns-clause-counted g c = piece_length _ _ _ _ c.if-begins.false c.line_end-end.ensures
