use Rattle.std.proofs.lemmas.Str.{IsUtf8-from_ascii}
use Rattle.fast_take.proofs.Utf8Steps.{further}
use Rattle.fast_take.proofs.utf8.skip_words.Goals as goal

pub loop-next-preserved : goal.loop-next-preserved
loop-next-preserved c =
    let word = c.is_ascii_word.ensures.0 c.loop-next-test.true in
    further c.args.units.now c.args.at c.loop-next.next 8 c.loop-next.invariant word.0 (IsUtf8-from_ascii _ word.1)
