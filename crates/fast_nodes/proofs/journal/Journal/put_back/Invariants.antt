use Rattle.fast_nodes.proofs.Common.{◌≡◌, length, Dictionary, Changed}
use Rattle.fast_nodes.proofs.journal.Journal.put_back.Given as goal

abbrev pub invariant-changes : goal.invariant-changes
invariant-changes g l = record {
  same_keys : g.E.Entries.serves l.self.entries ≡ g.E.Entries.serves l.fn.self.entries;
  changed : (d : Dictionary) → Changed (g.E.Entries.serves l.fn.self.entries) l.fn.self.changes.items d (g.E.Entries.contents l.fn.self.entries)
      → Changed (g.E.Entries.serves l.self.entries) l.self.changes.items d (g.E.Entries.contents l.self.entries);
}

abbrev pub decreases-changes : goal.decreases-changes
decreases-changes g l = length l.self.changes.items
