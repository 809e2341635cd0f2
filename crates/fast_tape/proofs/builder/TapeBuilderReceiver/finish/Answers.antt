use Rattle.std.proofs.Common.{◌∷◌, [], arith}
use Rattle.std.proofs.lemmas.List.{length-append}
use Rattle.fast_walk.specs.Received.{content_received}
use Rattle.fast_tape.proofs.Building.{has_ended}
use Rattle.fast_tape.proofs.Joining.{tapes_join}
use Rattle.fast_tape.proofs.builder.TapeBuilderReceiver.finish.Goals as goal

pub returns-clause-stands : goal.returns-clause-stands
returns-clause-stands c = λ o d next rest none known few has.
    let old = c.args.self.now in
    let m = content_received o in
    let ended = has_ended o next none c.in_ok-close.ensures has.inside in
    let both = tapes_join old.whole.bytes.items c.close.new.self.tape.bytes.items o.before (m ∷ []) old.whole.nodes.items c.close.new.self.tape.nodes.items has.before.0 ended in
    let count = length-append o.before (m ∷ []) in
    let before = has.before.1 in
    (rw (c.in_ok-append.ensures.nodes, c.in_ok-append.ensures.bytes) both, (let more = c.in-Some.ensures in omega (arith, more)))
