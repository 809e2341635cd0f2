use Rattle.fast_wire.proofs.Common.{◌∙◌, ◌+◌, ap, sym, length, refl, IsAsciiText, preamble_for}
use Rattle.fast_wire.proofs.AsciiForms.{ascii_nullable_shortest, ascii_null_shortest, string_length}
use Rattle.fast_wire.proofs.ascii.size_ascii_nullable.Goals as goal

pub returns-in-Null-clause-least : goal.returns-in-Null-clause-least
returns-in-Null-clause-least c = rw c.in-Null.is (_, ascii_null_shortest, refl)

pub returns-in-Value-clause-least : goal.returns-in-Value-clause-least
returns-in-Value-clause-least c =
    let s = c.in-Value.text.now in
    let text : IsAsciiText s = rw c.in-Value.is at c.requires in
    rw c.in-Value.is (_, ascii_nullable_shortest s text, ap (λ n. n + length s) c.preamble_size.ensures ∙ sym (string_length (preamble_for s 2) s))
