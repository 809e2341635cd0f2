use Rattle.std.proofs.Common.{rules, ◌≡◌, is_ok, true, refl}
use Rattle.fast_wire.proofs.AsciiForms.{tail_text}
use Rattle.fast_wire.proofs.ascii.fill_characters.Goals as goal

pub returns-then-not-is_empty-clause-ok : goal.returns-then-not-is_empty-clause-ok
returns-then-not-is_empty-clause-ok c =
    let ok : is_ok c.extend_from_slice.result ≡ true = rw c.unwrap.ensures refl in
    let copied : c.extend_from_slice.new.self.items ≡ c.args.tail.now = rw (ok, c.clear.ensures.items) at c.extend_from_slice.ensures.items in
    tail_text c.extend_from_slice.new.self.items c.args.tail.now c.len-last.result c.index_mut.result.now c.requires copied (search rules) (search rules) c.index_mut.ensures.value
