use Rattle.std.proofs.Common.{◌≡◌, ◌∙◌, arith, refl, inl, inr, drop, Some, Ok, ap, sym}
use Rattle.std.proofs.lemmas.List.{take_rest}
use Rattle.std.proofs.lemmas.Result.{err_from_is_err_and}
use Rattle.fast_template.specs.TemplateSets.{templates_in}
use Rattle.fast_recording.specs.Made.{numbering_of}
use Rattle.fast_recording.specs.Faults.{counted_behind}
use Rattle.fast_recording.specs.Recorded.{outputs}
use Rattle.fast_recording.proofs.Parts.{fault_in, not_device, part_answered, part_broke, part_fails, part_told, part_told_device, part_untold, placed_fault}
use Rattle.fast_recording.proofs.Wholes.{breaks_as, next_number, takes_as}
use Rattle.fast_recording.proofs.relay.end_in_packet.Goals as goal

pub returns-in_err-taken-clause-ends : goal.returns-in_err-taken-clause-ends
returns-in_err-taken-clause-ends g c = λ set old front set_is bound p.
    let number = c.saturating_add-number.ensures ∙ next_number p (omega (arith, bound)) in
    let m = c.args.manner in
    let O = g.O.Output in
    let sized = g.O.PacketOutput.sized in
    let t = g.W.ByteOutput.taken c.args.writer.now in
    let u = g.W.ByteOutput.taken c.take_numbered.new.writer in
    let bytes = c.args.bytes.now in
    let cause = c.args.cause in
    let e = err_from_is_err_and c.from_residual.result c.from_residual.ensures.1 in
    let told = g.T.ByteOutput.taken c.args.teller.now in
    let broke = breaks_as (numbering_of m.numbered) sized O.makes m.level t u (templates_in c.args.machine.now.traversal.set.now) set c.saturating_add-number.result _ _ (drop c.args.behind bytes) set_is number (take_rest bytes c.args.behind) c.in_err-taken.ensures.takes in
    rw (e.1)
    (part_broke m.keep_going m.level set (numbering_of m.numbered) sized O.makes c.args.progress.now.counts c.args.progress.now.counts old (outputs t told) (outputs u told) front bytes c.args.behind cause c.requires.cause p c.requires.open bound broke refl)

pub returns-in-Some-clause-ends : goal.returns-in-Some-clause-ends
returns-in-Some-clause-ends g c = λ set old front set_is bound p.
    let number = c.saturating_add-number.ensures ∙ next_number p (omega (arith, bound)) in
    let m = c.args.manner in
    let O = g.O.Output in
    let sized = g.O.PacketOutput.sized in
    let t = g.W.ByteOutput.taken c.args.writer.now in
    let u = g.W.ByteOutput.taken c.take_numbered.new.writer in
    let bytes = c.args.bytes.now in
    let cause = c.args.cause in
    let taken = c.in_ok-taken.taken in
    let took = takes_as (numbering_of m.numbered) sized O.makes m.level t u (templates_in c.args.machine.now.traversal.set.now) set c.saturating_add-number.result _ _ (drop c.args.behind bytes) set_is number (take_rest bytes c.args.behind) (Some cause) (Ok taken) c.in_ok-taken.ensures.takes in
    let came = fault_in sized O.makes m.level set (drop c.args.behind bytes) cause took.0 took.1 taken.fault took.5 in
    let told = g.T.ByteOutput.taken c.args.teller.now in
    let d = c.in-Some.ensures in
    let same : came.0 ≡ c.in-Some.fault = let both : Some came.0 ≡ Some c.in-Some.fault = sym came.1 ∙ d.0 in cc in
    let is_cause = ap (λ f. f.cause) same ∙ d.1 in
    let place = c.place_behind-place.ensures ∙ ap (λ f. counted_behind c.saturating_add-begin.result f.place) (sym same) in
    inr (part_fails m.keep_going m.level set (numbering_of m.numbered) sized O.makes c.args.progress.now.counts c.args.progress.now.counts old (outputs t told) (outputs u told) front bytes c.args.behind cause c.requires.cause p c.requires.open bound
    came.0 took.0 took.1 _ came.2 came.3 is_cause d.2 took.2 refl (placed_fault _ _ _ _ c.place_behind-place.result cause came.0 c.saturating_add-number.ensures c.saturating_add-begin.ensures place (sym is_cause)))

pub returns-in_err-refused-in-None-clause-ends : goal.returns-in_err-refused-in-None-clause-ends
returns-in_err-refused-in-None-clause-ends g c = λ set old front set_is bound p.
    let number = c.saturating_add-number.ensures ∙ next_number p (omega (arith, bound)) in
    let m = c.args.manner in
    let O = g.O.Output in
    let sized = g.O.PacketOutput.sized in
    let t = g.W.ByteOutput.taken c.args.writer.now in
    let u = g.W.ByteOutput.taken c.take_numbered.new.writer in
    let bytes = c.args.bytes.now in
    let cause = c.args.cause in
    let taken = c.in_ok-taken.taken in
    let took = takes_as (numbering_of m.numbered) sized O.makes m.level t u (templates_in c.args.machine.now.traversal.set.now) set c.saturating_add-number.result _ _ (drop c.args.behind bytes) set_is number (take_rest bytes c.args.behind) (Some cause) (Ok taken) c.in_ok-taken.ensures.takes in
    let came = fault_in sized O.makes m.level set (drop c.args.behind bytes) cause took.0 took.1 taken.fault took.5 in
    let way = not_device taken.fault cause came.0 came.1 c.in-None.ensures in
    let e = err_from_is_err_and c.from_residual-in_err-refused-in-None.result c.from_residual-in_err-refused-in-None.ensures.1 in
    let r = rw (came.1) at c.in_err-refused-in-None.ensures.settles in
    rw (e.1) (part_untold m.keep_going m.level set (numbering_of m.numbered) sized O.makes c.args.progress.now.counts c.settle.new.progress.counts old (outputs t (g.T.ByteOutput.taken c.args.teller.now)) (outputs u (g.T.ByteOutput.taken c.settle.new.teller)) front bytes
    c.args.behind cause c.requires.cause p c.requires.open bound taken came.0 took.0 took.1 came.2 came.3 way took.2 took.4 took.3 came.1 c.in_err-refused-in-None.ensures.counts _ r)

pub returns-in-Some-2-clause-ends : goal.returns-in-Some-2-clause-ends
returns-in-Some-2-clause-ends g c = λ set old front set_is bound p.
    let number = c.saturating_add-number.ensures ∙ next_number p (omega (arith, bound)) in
    let m = c.args.manner in
    let O = g.O.Output in
    let sized = g.O.PacketOutput.sized in
    let t = g.W.ByteOutput.taken c.args.writer.now in
    let u = g.W.ByteOutput.taken c.take_numbered.new.writer in
    let bytes = c.args.bytes.now in
    let cause = c.args.cause in
    let taken = c.in_ok-taken.taken in
    let took = takes_as (numbering_of m.numbered) sized O.makes m.level t u (templates_in c.args.machine.now.traversal.set.now) set c.saturating_add-number.result _ _ (drop c.args.behind bytes) set_is number (take_rest bytes c.args.behind) (Some cause) (Ok taken) c.in_ok-taken.ensures.takes in
    let came = fault_in sized O.makes m.level set (drop c.args.behind bytes) cause took.0 took.1 taken.fault took.5 in
    let way = not_device taken.fault cause came.0 came.1 c.in-None.ensures in
    let r = rw (came.1, c.in-Some-2.is) at c.in_ok-refused-in-None.ensures.settles in
    inl (part_answered m.keep_going m.level set (numbering_of m.numbered) sized O.makes c.args.progress.now.counts c.settle.new.progress.counts old (outputs t (g.T.ByteOutput.taken c.args.teller.now)) (outputs u (g.T.ByteOutput.taken c.settle.new.teller)) front bytes
    c.args.behind cause c.requires.cause p c.requires.open bound taken came.0 took.0 took.1 came.2 came.3 way took.2 took.4 took.3 came.1 c.in_ok-refused-in-None.ensures.counts c.in-Some-2.refused r)

pub returns-in-Truncated-clause-ends : goal.returns-in-Truncated-clause-ends
returns-in-Truncated-clause-ends g c = λ set old front set_is bound p.
    let number = c.saturating_add-number.ensures ∙ next_number p (omega (arith, bound)) in
    let m = c.args.manner in
    let O = g.O.Output in
    let sized = g.O.PacketOutput.sized in
    let t = g.W.ByteOutput.taken c.args.writer.now in
    let u = g.W.ByteOutput.taken c.take_numbered.new.writer in
    let bytes = c.args.bytes.now in
    let cause = c.args.cause in
    let taken = c.in_ok-taken.taken in
    let took = takes_as (numbering_of m.numbered) sized O.makes m.level t u (templates_in c.args.machine.now.traversal.set.now) set c.saturating_add-number.result _ _ (drop c.args.behind bytes) set_is number (take_rest bytes c.args.behind) (Some cause) (Ok taken) c.in_ok-taken.ensures.takes in
    let came = fault_in sized O.makes m.level set (drop c.args.behind bytes) cause took.0 took.1 taken.fault took.5 in
    let way = not_device taken.fault cause came.0 came.1 c.in-None.ensures in
    let r = rw (came.1, c.in-None-2.is) at c.in_ok-refused-in-None.ensures.settles in
    part_told m.keep_going m.level set (numbering_of m.numbered) sized O.makes c.args.progress.now.counts c.settle.new.progress.counts old (outputs t (g.T.ByteOutput.taken c.args.teller.now)) (outputs u (g.T.ByteOutput.taken c.settle.new.teller)) front bytes
    c.args.behind cause c.requires.cause p c.requires.open bound taken came.0 took.0 took.1 came.2 came.3 way took.2 took.4 took.3 came.1 c.in_ok-refused-in-None.ensures.counts c.in-Truncated.is r

pub returns-in_default-clause-ends : goal.returns-in_default-clause-ends
returns-in_default-clause-ends g c = λ set old front set_is bound p.
    let number = c.saturating_add-number.ensures ∙ next_number p (omega (arith, bound)) in
    let m = c.args.manner in
    let O = g.O.Output in
    let sized = g.O.PacketOutput.sized in
    let t = g.W.ByteOutput.taken c.args.writer.now in
    let u = g.W.ByteOutput.taken c.take_numbered.new.writer in
    let bytes = c.args.bytes.now in
    let cause = c.args.cause in
    let taken = c.in_ok-taken.taken in
    let took = takes_as (numbering_of m.numbered) sized O.makes m.level t u (templates_in c.args.machine.now.traversal.set.now) set c.saturating_add-number.result _ _ (drop c.args.behind bytes) set_is number (take_rest bytes c.args.behind) (Some cause) (Ok taken) c.in_ok-taken.ensures.takes in
    let came = fault_in sized O.makes m.level set (drop c.args.behind bytes) cause took.0 took.1 taken.fault took.5 in
    let way = not_device taken.fault cause came.0 came.1 c.in-None.ensures in
    let r = rw (came.1, c.in-None-2.is) at c.in_ok-refused-in-None.ensures.settles in
    let device = part_told_device m.keep_going m.level set (numbering_of m.numbered) sized O.makes c.args.progress.now.counts c.settle.new.progress.counts old (outputs t (g.T.ByteOutput.taken c.args.teller.now)) (outputs u (g.T.ByteOutput.taken c.settle.new.teller)) front bytes
    c.args.behind cause c.requires.cause p c.requires.open bound taken came.0 took.0 took.1 came.2 came.3 way took.2 took.4 took.3 came.1 c.in_ok-refused-in-None.ensures.counts c.in_default.not-Truncated r in
    inr (rw (c.next_refused.ensures) device)
