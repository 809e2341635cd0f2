use Rattle.fast_nodes.proofs.Common.{ap, err_from_is_err_and, is_ok}
use Rattle.fast_nodes.proofs.Changes.{no_value, value_is}
use Rattle.fast_nodes.proofs.journal.calls.put_value.Goals as goal

pub returns-in_err-put_part-in-Ok-clause-put : goal.returns-in_err-put_part-in-Ok-clause-put
returns-in_err-put_part-in-Ok-clause-put g c =
    let p = err_from_is_err_and c.from_residual.result c.from_residual.ensures.1 in
    rw (p.1, p.2) (no_value (g.E.Entries.contents c.args.entries.now) (rw (c.in-Ok.ensures.value) at c.in_err-put_part-in-Ok.ensures) (c.entry_mut.follows.holds c.put_part.new.entry (ap is_ok c.in-Ok.is)).0)

pub returns-in_ok-put_part-in-Ok-clause-put : goal.returns-in_ok-put_part-in-Ok-clause-put
returns-in_ok-put_part-in-Ok-clause-put g c =
    value_is (g.E.Entries.contents c.args.entries.now) c.requires.part c.requires.holds (rw (c.in-Ok.ensures.value) at c.in_ok-put_part-in-Ok.ensures) (c.entry_mut.follows.holds c.put_part.new.entry (ap is_ok c.in-Ok.is)).0
