use Rattle.fast_slices.proofs.call.load.Goals as goal

pub returns-in-Ok-clause-ok : goal.returns-in-Ok-clause-ok
returns-in-Ok-clause-ok c = (c.in-Ok.ensures.read, c.in-Ok.ensures.unread, c.in-Ok.ensures.no_json)
