use Rattle.fast_request.proofs.request.form_of.Goals as goal

pub returns : goal.returns
returns c = rw c.form_by.ensures c.is_set.ensures
