use Rattle.fast_take.proofs.Common.{◌-◌, ◌∷◌, [], ◌++◌, length, take, drop, slice_range, refl, arith, Some, groups, Ascii}
use Rattle.fast_take.proofs.PlainTexts.{characters_text, plain_delta_judges}
use Rattle.fast_take.proofs.respelled.respell_delta.Goals as goal

pub returns : goal.returns
returns c =
    let base = c.as_slice-base.result.now in
    let bytes = c.args.bytes.now in
    let cut = c.in_ok-cut.cut in
    let gives = c.in_ok-cut.ensures.gives in
    let place = c.in_ok-cut.ensures.place in
    let form = slice_range bytes cut.first cut.next in
    let kept = length base - cut.removed in
    let best = plain_delta_judges c.args.instr.now base cut.removed kept (drop c.args.at bytes) form (drop cut.next bytes) (c.removal_byte.result ∷ [])
    c.requires.kind c.requires.part c.requires.operator (characters_text base (rw c.as_slice-base.ensures c.requires.kept)) refl gives
    (c.agrees_no_further.ensures c.if-not-agrees_no_further.false) (c.is_cut_at_end.ensures c.if-not-is_cut_at_end.false) c.removal_byte.ensures in
    let v = Ascii (take kept base ++ groups form) in
    rw (c.put_characters.ensures.put c.if-not-put_characters.false, ← c.as_slice-base.ensures)
    (record { place = omega (arith, place); first = omega (arith, place); within = omega (arith, place); value = Some v; is_there = (v, refl, best.0); judges = best.1 })
