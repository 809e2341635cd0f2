use Rattle.std.proofs.Common.{arith, rules, length-append, drop}
use Rattle.std.proofs.lemmas.List.{length-take}
use Rattle.fast_io.proofs.Scripts.{reads_front}
use Rattle.fast_io.proofs.script.ScriptInputRead.read.Goals as goal

-- what was read into the front of the buffer is the front of the buffer
pub returns-clause-bytes : goal.returns-clause-bytes
returns-clause-bytes c =
    reads_front _ _ c.read.new.buf (drop c.min-len.result c.args.buf.now) c.read.result c.read.ensures.bytes c.read.ensures.bound
    (λ room. omega (
      arith,
      length-append c.read.new.buf (drop c.min-len.result c.args.buf.now),
      length-take c.min-len.result c.args.buf.now,
      c.min-len.ensures,
      c.args.self.now.steps,
    ))

pub returns-clause-fails : goal.returns-clause-fails
returns-clause-fails c = search (rules, arith)
