use Rattle.fast_decoder.proofs.Common.{◌≡◌, ◌≢◌, ◌-◌, ℕ, [], Reached, IsSameStream, ReadsOn}
use Rattle.fast_decoder.proofs.input.MessageInputStream.read_message.Given as goal

abbrev pub invariant-reads : goal.invariant-reads
invariant-reads g l = record {
  same : IsSameStream l.fn.self l.self;
  waits : l.fn.self.waiting.items ≢ [] → l.self ≡ l.fn.self;
  closed : l.fn.self.reached ≢ Reached.Open → l.self ≡ l.fn.self;
  reads : (count : ℕ) × ReadsOn l.fn.self l.self count;
}

abbrev pub decreases-reads : goal.decreases-reads
decreases-reads g l = l.self.turns - l.self.reads
