use Rattle.std.proofs.Common.{rules}
use Rattle.fast_take.proofs.AsciiWords.{ascii_word}
use Rattle.fast_take.proofs.utf8.are_ascii.Goals as goal

pub returns : goal.returns
returns c = ascii_word c.args.word c.from_le_bytes.result (search rules) (search rules) c.from_le_bytes.ensures
