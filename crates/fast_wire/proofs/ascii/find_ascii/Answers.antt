use Rattle.fast_wire.proofs.Common.{◌∙◌, sym, drop, length, slice_range, Ok, err_from_is_err_and, groups, NothingElse, ascii_at, entity_at, characters, within_limit, ◌>>=◌, text_in}
use Rattle.fast_wire.proofs.FormReaders.{fails_then, string_given, string_too_long}
use Rattle.fast_wire.proofs.AsciiForms.{characters_behind}
use Rattle.fast_wire.proofs.ascii.find_ascii.Goals as goal

pub returns-in_err-next-clause-gives : goal.returns-in_err-next-clause-gives
unfolding ascii_at
returns-in_err-next-clause-gives c =
    let p = err_from_is_err_and c.from_residual.result c.from_residual.ensures.1 in
    rw (p.1, p.2) (fails_then NothingElse c.in_err-next.field-0.0 (entity_at 65540 (drop c.args.at c.args.bytes.now)) (λ e. within_limit length (characters (groups e.0)) >>= λ s. Ok (s, e.1))
    c.in_err-next.ensures.gives)

pub returns-in_err-span-clause-gives : goal.returns-in_err-span-clause-gives
unfolding ascii_at
returns-in_err-span-clause-gives c =
    let p = err_from_is_err_and c.from_residual-in_err-span.result c.from_residual-in_err-span.ensures.1 in
    let e = slice_range c.args.bytes.now c.args.at c.in_ok-next.next in
    let long = c.in_err-span.ensures.err in
    rw (p.1, p.2) (string_too_long length (λ e. characters (groups e)) (drop c.args.at c.args.bytes.now) e (drop c.in_ok-next.next c.args.bytes.now) c.in_err-span.field-0.0 c.in_ok-next.ensures.gives long.0
    (rw (characters_behind (groups e)) long.1))

pub returns-clause-gives : goal.returns-clause-gives
unfolding ascii_at
returns-clause-gives c =
    let k = c.in_ok-span.ensures.ok in
    let e = slice_range c.args.bytes.now c.args.at c.in_ok-next.next in
    string_given length (λ e. characters (groups e)) (drop c.args.at c.args.bytes.now) e (drop c.in_ok-next.next c.args.bytes.now) (text_in c.args.bytes.now c.in_ok-span.span) c.in_ok-next.ensures.gives
    (characters_behind (groups e) ∙ sym k.0) k.1
