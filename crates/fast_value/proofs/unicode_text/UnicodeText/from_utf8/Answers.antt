use Rattle.std.proofs.Common.{refl}
use Rattle.fast_value.proofs.unicode_text.UnicodeText.from_utf8.Goals as goal

pub returns : goal.returns
returns c = refl
