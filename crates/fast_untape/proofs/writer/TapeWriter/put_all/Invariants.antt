use Rattle.std.proofs.Common.{◌≡◌, ◌-◌, ◌≤◌, ◌++◌, ℕ, List, length, None}
use Rattle.fast_template.specs.TemplateSets.{templates_in}
use Rattle.fast_stream.specs.Nodes.{Content}
use Rattle.fast_untape.specs.Reading.{BeginWith}
use Rattle.fast_untape.specs.Writing.{HasWritten}
use Rattle.fast_untape.proofs.writer.TapeWriter.put_all.Given as goal

abbrev pub invariant-messages : goal.invariant-messages
invariant-messages g l = record {
  clear : l.put.fault ≡ None;
  few : l.put.messages ≤ l.put.nodes;
  same : l.self.set ≡ l.initial.self.set;
  put : (more : List Content) × BeginWith l.bytes l.nodes l.put.nodes more × (l.put.messages ≡ length more)
      × ((messages : List Content) (taken : List ℕ)
      → HasWritten (templates_in l.initial.self.set.now) messages taken l.initial.self.waiting.items (g.E.Entries.contents l.initial.self.encoder.journal.entries)
      → HasWritten (templates_in l.initial.self.set.now) (messages ++ more) taken l.self.waiting.items (g.E.Entries.contents l.self.encoder.journal.entries));
}

abbrev pub decreases-messages : goal.decreases-messages
decreases-messages g l = length l.nodes - l.put.nodes
