use Rattle.fast_take.proofs.Utf8Steps.{both}
use Rattle.fast_take.proofs.utf8.skip_short.Goals as goal

pub returns : goal.returns
returns c =
    let bs = c.args.units.now in
    both bs c.args.at _ _ (both bs c.args.at _ _ (both bs c.args.at _ _ c.skip_words.ensures c.skip_ascii.ensures) c.skip_pairs.ensures) c.skip_triples.ensures
