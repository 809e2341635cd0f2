use Rattle.std.proofs.Common.{◌∙◌, refl, sym, arith}
use Rattle.fast_wire.proofs.Calls.{all_bytes}
use Rattle.fast_slices.proofs.Streams.{counted_all, has_run}
use Rattle.fast_slices.proofs.stream.check_with.Goals as goal

pub returns : goal.returns
returns c =
    let a = c.check-ran.ensures.answer in
    let stream = c.args.stream.now in
    let ran = c.check-ran.result in
    counted_all c.args.mode c.args.set.now stream _ _ ran c.settle.result refl
    (has_run c.args.set.now stream ran _ _ _ _ a.1 c.check-ran.new.reader.rest.now c.requires.sound (all_bytes stream (λ k. omega (arith, c.type_inv.stream k))) c.requires.few (sym c.new-input.ensures ∙ a.2.consumed) a.5 refl refl a.4)
    c.settle.ensures
