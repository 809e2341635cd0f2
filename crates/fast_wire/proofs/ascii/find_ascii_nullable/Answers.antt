use Rattle.fast_wire.proofs.Common.{◌∙◌, ap, sym, arith, drop, slice_range, Ok, err_from_is_err_and, groups, units, NothingElse, ascii_nullable_at, entity_at, nullable_characters, within_limit, ◌>>=◌, text_in, Null, Value}
use Rattle.fast_wire.proofs.FormReaders.{fails_then, string_given, string_too_long}
use Rattle.fast_wire.proofs.AsciiForms.{null_here, value_here, first_byte}
use Rattle.fast_wire.proofs.ascii.find_ascii_nullable.Goals as goal

pub returns-in_err-next-clause-gives : goal.returns-in_err-next-clause-gives
unfolding ascii_nullable_at
returns-in_err-next-clause-gives c =
    let p = err_from_is_err_and c.from_residual.result c.from_residual.ensures.1 in
    rw (p.1, p.2) (fails_then NothingElse c.in_err-next.field-0.0 (entity_at 65540 (drop c.args.at c.args.bytes.now)) (λ e. within_limit units (nullable_characters (groups e.0)) >>= λ s. Ok (s, e.1))
    c.in_err-next.ensures.gives)

pub returns-then-bytes-at-clause-gives : goal.returns-then-bytes-at-clause-gives
unfolding ascii_nullable_at
returns-then-bytes-at-clause-gives c =
    let a = c.in_ok-next.ensures.answer in
    let e = slice_range c.args.bytes.now c.args.at c.in_ok-next.next in
    string_given units (λ e. nullable_characters (groups e)) (drop c.args.at c.args.bytes.now) e (drop c.in_ok-next.next c.args.bytes.now) Null c.in_ok-next.ensures.gives
    (null_here e a.3 (first_byte c.args.bytes.now c.args.at c.in_ok-next.next a.0 ∙ c.if-bytes-at.true)) (omega arith)

pub returns-in_err-span-clause-gives : goal.returns-in_err-span-clause-gives
unfolding ascii_nullable_at
returns-in_err-span-clause-gives c =
    let p = err_from_is_err_and c.from_residual-in_err-span.result c.from_residual-in_err-span.ensures.1 in
    let a = c.in_ok-next.ensures.answer in
    let e = slice_range c.args.bytes.now c.args.at c.in_ok-next.next in
    let value = value_here e a.3 (λ n. c.if-bytes-at.false (sym (first_byte c.args.bytes.now c.args.at c.in_ok-next.next a.0) ∙ n)) in
    let long = c.in_err-span.ensures.err in
    rw (p.1, p.2) (string_too_long units (λ e. nullable_characters (groups e)) (drop c.args.at c.args.bytes.now) e (drop c.in_ok-next.next c.args.bytes.now) c.in_err-span.field-0.0 c.in_ok-next.ensures.gives long.0
    (rw value long.1))

pub returns-clause-gives : goal.returns-clause-gives
unfolding ascii_nullable_at
returns-clause-gives c =
    let k = c.in_ok-span.ensures.ok in
    let a = c.in_ok-next.ensures.answer in
    let e = slice_range c.args.bytes.now c.args.at c.in_ok-next.next in
    let value = value_here e a.3 (λ n. c.if-bytes-at.false (sym (first_byte c.args.bytes.now c.args.at c.in_ok-next.next a.0) ∙ n)) in
    string_given units (λ e. nullable_characters (groups e)) (drop c.args.at c.args.bytes.now) e (drop c.in_ok-next.next c.args.bytes.now) (Value (text_in c.args.bytes.now c.in_ok-span.span)) c.in_ok-next.ensures.gives
    (value ∙ ap (λ s. Value s) (sym k.0)) k.1
