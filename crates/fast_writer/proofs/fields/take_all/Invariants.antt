use Rattle.fast_writer.proofs.Common.{◌≡◌, ◌≤◌, ◌-◌, ◌*◌, None, drop, length, IsRun, TookFields}
use Rattle.fast_writer.specs.Drafts.{noted}
use Rattle.fast_writer.proofs.fields.take_all.Given as goal

abbrev pub invariant-pieces : goal.invariant-pieces
invariant-pieces g l =
    let count = length l.rest - length l.others in
    record {
      within : length l.others ≤ length l.rest;
      others : l.others ≡ drop count l.rest;
      run : IsRun l.bytes l.run.place l.run;
      left : l.bits ≡ (noted l.bytes l.run).left;
      few : l.run.passed ≤ 2 * count;
      around : l.run.draft.around ≡ l.fn.run.draft.around;
      took : TookFields g.L.Leveled.at (g.E.Entries.serves l.entries) l.rest l.bytes (noted l.bytes l.fn.run) (g.E.Entries.contents l.fn.entries) l.fn.bits l.fn.run.place
          count None (noted l.bytes l.run) (g.E.Entries.contents l.entries) l.bits l.run.place;
      same_keys : g.E.Entries.serves l.entries ≡ g.E.Entries.serves l.fn.entries;
    }

abbrev pub decreases-pieces : goal.decreases-pieces
decreases-pieces g l = length l.others
