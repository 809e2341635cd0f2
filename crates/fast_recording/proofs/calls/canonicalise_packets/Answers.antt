use Rattle.std.proofs.Common.{◌≡◌, ◌≤◌, ℕ, length, arith, sym}
use Rattle.fast_machine.specs.Inputs.{told_by}
use Rattle.fast_io.specs.Counts.{counted_by}
use Rattle.fast_recording.specs.Recorded.{IsUsedUp, by_reader}
use Rattle.fast_recording.proofs.Canonicals.{canonicalised_by}
use Rattle.fast_recording.proofs.calls.canonicalise_packets.Goals as goal

pub returns-clause-answer : goal.returns-clause-answer
returns-clause-answer g c =
    let a = c.pass_packets.ensures.answer in
    let few = a.2.few in
    let some = a.3 in
    let exact : (n : ℕ) → n ≤ length a.1 → counted_by 0 n ≡ n = λ n less. omega (arith, less, few, some, c.requires.turns) in
    let why = by_reader (IsUsedUp c.args.turns a.0 a.1) (told_by g.R.ByteInput c.args.reader.now) (told_by g.R.ByteInput c.pass_packets.new.reader) in
    let ensures = c.pass_packets.ensures in
    (a.0, a.1, a.2, a.3, canonicalised_by c.args.set.now c.args.level why (g.W.ByteOutput.taken c.args.writer.now) (g.W.ByteOutput.taken c.pass_packets.new.writer) a.1 exact c.pass_packets.result ensures.sound (sym ensures.tell) a.4)
