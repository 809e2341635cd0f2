use Rattle.std.proofs.Common.{refl}
use Rattle.fast_recording.proofs.Relayed.{same_summary}
use Rattle.fast_recording.proofs.settle.settle.Goals as goal

pub returns-in-None-clause-counts : goal.returns-in-None-clause-counts
returns-in-None-clause-counts g c = same_summary _ _ _ _ _ _ _ _ _ _ c.saturating_add-counts.ensures (rw (c.in-None.is) refl) c.saturating_add-counts-2.ensures c.saturating_add-counts-3.ensures c.saturating_add-counts-4.ensures
