use Rattle.fast_take.proofs.Common.{◌≡◌, ◌++◌, sym, ap, ◌∙◌, arith, length, take, length-append, length-take-le, groups}
use Rattle.std.proofs.lemmas.List.{take_at}
use Rattle.fast_take.proofs.WrittenOver.{characters_written}
use Rattle.fast_take.proofs.plain.put_anew.Goals as goal

pub returns-clause-put : goal.returns-clause-put
returns-clause-put c = λ _.
    let kept = c.args.kept in
    let form = c.args.form.now in
    let front = take kept c.args.text.now in
    let put = c.put_bytes.ensures.put c.if-not-put_bytes.false in
    let long = length-take-le kept c.args.text.now c.requires.kept in
    let same : take kept c.put_bytes.new.bytes ≡ front = ap (take kept) put ∙ take_at front form kept long in
    characters_written c.put_bytes.new.bytes c.as_mut_slice-characters.result.now form kept c.requires.entity (omega (arith, ap length put, length-append front form, long))
    (c.as_mut_slice-characters.ensures.value ∙ put ∙ ap (λ s. s ++ form) (sym same))
    ∙ ap (λ s. s ++ groups form) same
