use Rattle.std.proofs.Common.{◌<◌, [], Some, length, refl, sym, subst, rules, List, ℕ}
use Rattle.fast_slices.specs.Lines.{RunsLines}
use Rattle.fast_slices.proofs.WrittenLines.{overflows, settled}
use Rattle.fast_slices.proofs.lines.write_with.Goals as goal

pub returns : goal.returns
returns c =
    let ran = c.run-ran.result in
    let kept = c.run-ran.new.writer.bytes.items in
    let begun = subst (λ (xs : List ℕ). RunsLines c.args.numbered c.args.set.now c.args.lines.now (Some xs) (Some kept) ran) c.new-kept.ensures c.run-ran.ensures in
    settled c.args.numbered c.args.set.now c.args.lines.now c.deref.result.now c.args.room.now c.settle.new.room ran c.settle.result c.requires.few c.deref.type_inv.0
    (subst (λ (xs : List ℕ). RunsLines c.args.numbered c.args.set.now c.args.lines.now (Some []) (Some xs) ran) (sym c.deref.ensures.value) begun) c.settle.ensures

pub returns-then-len-room : goal.returns-then-len-room
returns-then-len-room c =
    let ran = c.run-ran.result in
    let kept = c.run-ran.new.writer.bytes.items in
    let begun = subst (λ (xs : List ℕ). RunsLines c.args.numbered c.args.set.now c.args.lines.now (Some xs) (Some kept) ran) c.new-kept.ensures c.run-ran.ensures in
    let longer : length c.args.room.now < length kept = search rules in
    overflows c.args.numbered c.args.set.now c.args.lines.now kept c.args.room.now c.args.room.now ran c.overflow.result begun longer refl c.overflow.ensures
