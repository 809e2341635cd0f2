use Rattle.std.proofs.Common.{◌∙◌, arith, refl, drop, None, Ok}
use Rattle.std.proofs.lemmas.List.{take_rest}
use Rattle.std.proofs.lemmas.Result.{err_from_is_err_and}
use Rattle.fast_template.specs.TemplateSets.{templates_in}
use Rattle.fast_recording.specs.Made.{numbering_of}
use Rattle.fast_recording.specs.Recorded.{outputs}
use Rattle.fast_recording.proofs.Wholes.{breaks_as, next_number, takes_as, whole_broke, whole_taken}
use Rattle.fast_recording.proofs.relay.take_whole.Goals as goal

pub returns-in_err-taken-clause-takes : goal.returns-in_err-taken-clause-takes
returns-in_err-taken-clause-takes g c = λ set old front behind set_is bound p.
    let e = err_from_is_err_and c.from_residual.result c.from_residual.ensures.1 in
    let number = c.saturating_add-number.ensures ∙ next_number p (omega (arith, bound)) in
    let m = c.args.manner in
    let O = g.O.Output in
    let sized = g.O.PacketOutput.sized in
    let told = g.T.ByteOutput.taken c.args.teller.now in
    let t = g.W.ByteOutput.taken c.args.writer.now in
    let u = g.W.ByteOutput.taken c.take_numbered.new.writer in
    let bytes = c.args.bytes.now in
    let broke = breaks_as (numbering_of m.numbered) sized O.makes m.level t u (templates_in c.args.machine.now.traversal.set.now) set c.saturating_add-number.result _ _ (drop c.args.behind bytes) set_is number (take_rest bytes c.args.behind) c.in_err-taken.ensures.takes in
    rw (e.1) (whole_broke m.keep_going m.level set (numbering_of m.numbered) sized O.makes c.args.progress.now.counts c.args.progress.now.counts old (outputs t told) (outputs u told) front bytes behind c.args.behind p c.requires.packet bound broke refl)

pub returns-clause-takes : goal.returns-clause-takes
returns-clause-takes g c = λ set old front behind set_is bound p.
    let number = c.saturating_add-number.ensures ∙ next_number p (omega (arith, bound)) in
    let m = c.args.manner in
    let O = g.O.Output in
    let sized = g.O.PacketOutput.sized in
    let t = g.W.ByteOutput.taken c.args.writer.now in
    let u = g.W.ByteOutput.taken c.take_numbered.new.writer in
    let bytes = c.args.bytes.now in
    let taken = c.in_ok-taken.taken in
    let took = takes_as (numbering_of m.numbered) sized O.makes m.level t u (templates_in c.args.machine.now.traversal.set.now) set c.saturating_add-number.result _ _ (drop c.args.behind bytes) set_is number (take_rest bytes c.args.behind) None (Ok taken) c.in_ok-taken.ensures.takes in
    whole_taken m.keep_going m.level set (numbering_of m.numbered) sized O.makes c.args.progress.now.counts c.settle.new.progress.counts old (outputs t (g.T.ByteOutput.taken c.args.teller.now)) (outputs u (g.T.ByteOutput.taken c.settle.new.teller)) front bytes behind
    c.args.behind p c.requires.packet bound taken c.settle.result took c.settle.ensures.counts taken.fault refl c.settle.ensures.settles
