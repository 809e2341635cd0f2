use Rattle.fast_field.proofs.Common.{refl, err_from_is_err_and, units_sent}
use Rattle.fast_field.proofs.PutTogether.{no_room, sent_length}
use Rattle.fast_field.proofs.string.sent_in_front.Goals as goal

pub returns-in_err-units : goal.returns-in_err-units
returns-in_err-units c =
    let p = err_from_is_err_and c.from_residual.result c.from_residual.ensures.1 in
    rw (p.1, p.2) (no_room _ c.args.kind (units_sent c.args.kind c.args.sent.now) c.args.back.now _ _ (sent_length c.args.kind c.args.sent.now) refl c.in_err-units.ensures.err)
