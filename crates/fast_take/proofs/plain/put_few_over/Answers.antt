use Rattle.std.proofs.Common.{◌∙◌, ◌++◌, take, ap}
use Rattle.fast_take.proofs.WrittenOver.{characters_written}
use Rattle.fast_take.proofs.plain.put_few_over.Goals as goal

pub returns : goal.returns
returns c =
    characters_written c.args.text.now c.copy_few_over.new.units c.args.form.now c.args.kept c.requires.entity c.requires.many
    (c.copy_few_over.ensures ∙ ap (λ s. take c.args.kept s ++ c.args.form.now) c.as_mut_slice-characters.ensures.value)
