use Rattle.std.proofs.Common.{◌≡◌, ◌≢◌, ◌^◌, ◌<◌, ◌++◌, ◌∙◌, List, ℕ, ap, arith, length, length-append, refl, rules, sym}
use Rattle.fast_wire.proofs.Calls.{all_bytes}
use Rattle.fast_stream.specs.declared.fault.Cause.{Cause}
use Rattle.fast_slices.proofs.Streams.{has_run, measured_run, refused_run}
use Rattle.fast_slices.proofs.stream.overflow.Goals as goal

pub returns-in-Ok : goal.returns-in-Ok
returns-in-Ok c =
    let a = c.run.ensures.answer in
    let stream = c.args.stream.now in
    let rest = c.run.new.reader.rest.now in
    let few = c.requires.few in
    let parts : stream ≡ a.1 ++ rest = sym c.new-input.ensures ∙ a.2.consumed in
    let size = ap (λ (xs : List ℕ). length xs) parts in
    let sum = length-append a.1 rest in
    let fewer : length a.1 < 2 ^ 40 = omega (arith, size, sum, few) in
    measured_run c.args.command c.args.mode c.args.form c.args.set.now stream c.run.result
    (has_run c.args.set.now stream c.run.result _ _ _ _ a.1 rest c.requires.sound (all_bytes stream (λ k. omega (arith, c.type_inv.stream k))) few parts a.5 refl refl (fewer, a.4))
    c.in-Ok.summary c.in-Ok.is

pub returns-in-Err-Stream : goal.returns-in-Err-Stream
returns-in-Err-Stream c =
    let a = c.run.ensures.answer in
    let stream = c.args.stream.now in
    let rest = c.run.new.reader.rest.now in
    let few = c.requires.few in
    let parts : stream ≡ a.1 ++ rest = sym c.new-input.ensures ∙ a.2.consumed in
    let size = ap (λ (xs : List ℕ). length xs) parts in
    let sum = length-append a.1 rest in
    let fewer : length a.1 < 2 ^ 40 = omega (arith, size, sum, few) in
    let memory : c.in-Err-Stream.fault.cause ≢ Cause.Memory = search rules in
    refused_run c.args.command c.args.mode c.args.form c.args.set.now stream c.run.result
    (has_run c.args.set.now stream c.run.result _ _ _ _ a.1 rest c.requires.sound (all_bytes stream (λ k. omega (arith, c.type_inv.stream k))) few parts a.5 refl refl (fewer, a.4))
    c.in-Err-Stream.fault c.in-Err-Stream.field-0 c.run.new.writer.count c.in-Err-Stream.is c.in-Err-Stream.field-0-is memory
