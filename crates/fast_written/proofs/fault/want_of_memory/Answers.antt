use Rattle.fast_written.proofs.fault.want_of_memory.Goals as goal

pub returns : goal.returns
returns c = c.fault_at.ensures
