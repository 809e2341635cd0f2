use Rattle.std.proofs.Common.{length, refl}
use Rattle.fast_untape.proofs.Values.{no_text, text_read}
use Rattle.fast_untape.proofs.value.text_at.Goals as goal

pub returns-then-not-is_long : goal.returns-then-not-is_long
returns-then-not-is_long c = no_text c.args.bytes.now c.args.node.now c.requires.kind (λ text is e lies utf8. c.if-not-is_long.ensures.no refl c.args.node.now.kind c.args.node.now.instruction c.args.node.now.number (length text) e)

pub returns-in-Some : goal.returns-in-Some
returns-in-Some c =
    let units = c.in-Some.units.now in
    text_read c.args.bytes.now c.args.node.now units c.requires.kind (c.if-not-is_long.ensures.yes refl) c.in-Some.ensures.some.0 c.in-Some.ensures.some.1 c.value_of.result c.value_of.ensures
