use Rattle.fast_wire.proofs.Common.{◌∙◌, ◌+◌, ap, sym, length, preamble_for}
use Rattle.fast_wire.proofs.AsciiForms.{ascii_shortest, string_length}
use Rattle.fast_wire.proofs.ascii.size_ascii.Goals as goal

pub returns-clause-least : goal.returns-clause-least
returns-clause-least c =
    let s = c.args.text.now in
    (_, ascii_shortest s c.requires, ap (λ n. n + length s) c.preamble_size.ensures ∙ sym (string_length (preamble_for s 1) s))
