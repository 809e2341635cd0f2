use Rattle.std.proofs.Common.{◌^◌, ◌<◌, ℕ, List, [], Some, length, refl, sym, subst, ◌∙◌, arith, rules}
use Rattle.fast_template.specs.TemplateSets.{templates_in}
use Rattle.fast_wire.proofs.Calls.{all_bytes}
use Rattle.fast_pass.specs.Passed.{Passes}
use Rattle.fast_command.specs.Run.{LinesOf}
use Rattle.fast_slices.proofs.Streams.{has_run, settled, show_overflows}
use Rattle.fast_slices.proofs.stream.show_with.Goals as goal

pub returns : goal.returns
returns c =
    let a = c.run-ran.ensures.answer in
    let mode = c.args.mode in
    let set = c.args.set.now in
    let stream = c.args.stream.now in
    let ran = c.run-ran.result in
    let rest = c.run-ran.new.reader.rest.now in
    let wrote = c.run-ran.new.writer.bytes.items in
    let begun = subst (λ (xs : List ℕ). Passes (LinesOf c.args.form set) mode (templates_in set) (2 ^ 40) (Some rest) (Some xs) (Some wrote) a.1 ran) c.new-kept.ensures a.4 in
    settled (LinesOf c.args.form set) mode set stream c.deref.result.now c.args.room.now c.settle.new.room ran c.settle.result c.deref.type_inv.0
    (has_run set stream ran _ _ _ _ a.1 rest c.requires.sound (all_bytes stream (λ k. omega (arith, c.type_inv.stream k))) c.requires.few (sym c.new-input.ensures ∙ a.2.consumed) a.5 refl refl
    (subst (λ (xs : List ℕ). Passes (LinesOf c.args.form set) mode (templates_in set) (2 ^ 40) (Some rest) (Some []) (Some xs) a.1 ran) (sym c.deref.ensures.value) begun)) c.settle.ensures

pub returns-then-len-room : goal.returns-then-len-room
returns-then-len-room c =
    let a = c.run-ran.ensures.answer in
    let mode = c.args.mode in
    let set = c.args.set.now in
    let stream = c.args.stream.now in
    let ran = c.run-ran.result in
    let rest = c.run-ran.new.reader.rest.now in
    let wrote = c.run-ran.new.writer.bytes.items in
    let longer : length c.args.room.now < length wrote = search rules in
    show_overflows mode c.args.form set stream wrote c.args.room.now c.args.room.now ran c.overflow.result
    (has_run set stream ran _ _ _ _ a.1 rest c.requires.sound (all_bytes stream (λ k. omega (arith, c.type_inv.stream k))) c.requires.few (sym c.new-input.ensures ∙ a.2.consumed) a.5 refl refl
    (subst (λ (xs : List ℕ). Passes (LinesOf c.args.form set) mode (templates_in set) (2 ^ 40) (Some rest) (Some xs) (Some wrote) a.1 ran) c.new-kept.ensures a.4))
    longer refl c.overflow.ensures
