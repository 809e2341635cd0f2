use Rattle.fast_draft.proofs.Places.{chunk_front}
use Rattle.fast_draft.proofs.level.append_range.Goals as goal

pub returns-in-Some-clause-ok : goal.returns-in-Some-clause-ok
returns-in-Some-clause-ok c =
    let e = chunk_front c.args.bytes.now c.in-Some.chunk.now c.args.from c.args.to c.if-to-from-le-CHUNK.true c.in-Some.ensures.cases.0 in
    rw (← e) c.append_chunk.ensures.ok
