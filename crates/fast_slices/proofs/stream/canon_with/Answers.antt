use Rattle.std.proofs.Common.{◌≡◌, ◌^◌, ◌<◌, ℕ, List, [], ◌++◌, length, length-append, ap, Some, refl, sym, subst, ◌∙◌, arith, rules}
use Rattle.fast_template.specs.TemplateSets.{templates_in}
use Rattle.fast_wire.proofs.Calls.{all_bytes}
use Rattle.fast_writer.specs.Canonical.{IsCanonical}
use Rattle.fast_pass.specs.Passed.{Passes}
use Rattle.fast_lines.specs.declared.form.Form.TheVariants.{Text}
use Rattle.fast_slices.proofs.Streams.{as_passes, canon_overflows, has_run, settled}
use Rattle.fast_slices.proofs.stream.canon_with.Goals as goal

pub returns : goal.returns
returns c =
    let a = c.run-ran.ensures.answer in
    let mode = c.args.mode in
    let set = c.args.set.now in
    let stream = c.args.stream.now in
    let ran = c.run-ran.result in
    let rest = c.run-ran.new.reader.rest.now in
    let wrote = c.run-ran.new.writer.bytes.items in
    let few = c.requires.few in
    let parts : stream ≡ a.1 ++ rest = sym c.new-input.ensures ∙ a.2.consumed in
    let size = ap (λ (xs : List ℕ). length xs) parts in
    let sum = length-append a.1 rest in
    let fewer : length a.1 < 2 ^ 40 = omega (arith, size, sum, few) in
    let all = as_passes mode (templates_in set) (2 ^ 40) (Some rest) (Some c.new-kept.result.bytes.items) (Some wrote) a.1 ran fewer a.4 in
    let begun = subst (λ (xs : List ℕ). Passes IsCanonical mode (templates_in set) (2 ^ 40) (Some rest) (Some xs) (Some wrote) a.1 ran) c.new-kept.ensures all in
    settled IsCanonical mode set stream c.deref.result.now c.args.room.now c.settle.new.room ran c.settle.result c.deref.type_inv.0
    (has_run set stream ran _ _ _ _ a.1 rest c.requires.sound (all_bytes stream (λ k. omega (arith, c.type_inv.stream k))) few parts a.5 refl refl
    (subst (λ (xs : List ℕ). Passes IsCanonical mode (templates_in set) (2 ^ 40) (Some rest) (Some []) (Some xs) a.1 ran) (sym c.deref.ensures.value) begun)) c.settle.ensures

pub returns-then-len-room : goal.returns-then-len-room
returns-then-len-room c =
    let a = c.run-ran.ensures.answer in
    let mode = c.args.mode in
    let set = c.args.set.now in
    let stream = c.args.stream.now in
    let ran = c.run-ran.result in
    let rest = c.run-ran.new.reader.rest.now in
    let wrote = c.run-ran.new.writer.bytes.items in
    let few = c.requires.few in
    let parts : stream ≡ a.1 ++ rest = sym c.new-input.ensures ∙ a.2.consumed in
    let size = ap (λ (xs : List ℕ). length xs) parts in
    let sum = length-append a.1 rest in
    let fewer : length a.1 < 2 ^ 40 = omega (arith, size, sum, few) in
    let all = as_passes mode (templates_in set) (2 ^ 40) (Some rest) (Some c.new-kept.result.bytes.items) (Some wrote) a.1 ran fewer a.4 in
    let longer : length c.args.room.now < length wrote = search rules in
    canon_overflows mode Text set stream wrote c.args.room.now c.args.room.now ran c.overflow.result
    (has_run set stream ran _ _ _ _ a.1 rest c.requires.sound (all_bytes stream (λ k. omega (arith, c.type_inv.stream k))) few parts a.5 refl refl
    (subst (λ (xs : List ℕ). Passes IsCanonical mode (templates_in set) (2 ^ 40) (Some rest) (Some xs) (Some wrote) a.1 ran) c.new-kept.ensures all))
    longer refl c.overflow.ensures
