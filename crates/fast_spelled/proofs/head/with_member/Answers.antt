use Rattle.std.proofs.Common.{refl}
use Rattle.fast_spelled.proofs.Heads.{fields_taken}
use Rattle.fast_spelled.proofs.head.with_member.Goals as goal

pub returns-in-Ok-pass-clause-read : goal.returns-in-Ok-pass-clause-read
returns-in-Ok-pass-clause-read c = λ fields j rest seen d e. (fields_taken c.args.part c.args.head fields j _ c.in-Fields.is seen c.if-head.false refl refl refl, c.in-Ok-pass.ensures.read j rest d e)
