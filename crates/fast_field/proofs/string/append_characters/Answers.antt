use Rattle.std.proofs.Common.{rules}
use Rattle.fast_field.proofs.PutTogether.{last_cleared}
use Rattle.fast_field.proofs.string.append_characters.Goals as goal

pub returns-then-not-is_empty : goal.returns-then-not-is_empty
returns-then-not-is_empty c =
    last_cleared c.args.text.now.items c.args.tail.now c.extend_from_slice.new.self.items c.len-last.result c.index_mut.result.now c.requires (search rules) (search rules) (search rules)
    c.index_mut.ensures.value
