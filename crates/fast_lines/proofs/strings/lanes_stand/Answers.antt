use Rattle.std.proofs.lemmas.Bool.{eqb-true}
use Rattle.fast_lines.proofs.Lanes.{lanes_plain}
use Rattle.fast_lines.proofs.strings.lanes_stand.Goals as goal

pub returns : goal.returns
returns g c = λ is. lanes_plain c.args.text.now c.args.at g.row.N c.requires.1 c.requires.0 c.if-below-ne0.false c.if-above-ne0.false c.if-quotes-ne0.false (eqb-true _ _ is)
