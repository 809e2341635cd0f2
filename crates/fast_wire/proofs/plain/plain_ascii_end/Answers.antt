use Rattle.std.proofs.Common.{arith, drop, slice_range, inl, inr}
use Rattle.fast_wire.proofs.PlainAscii.{none_begins, none_ends, plain_at}
use Rattle.fast_wire.proofs.plain.plain_ascii_end.Goals as goal

pub returns-in-Err-clause-none : goal.returns-in-Err-clause-none
returns-in-Err-clause-none c = λ form rest parts h. elim c.in-Err.ensures.gives [
  | inl fails ↦ none_ends (drop c.args.at c.args.bytes.now) form rest c.in-Err.field-0 fails parts h
  | inr other ↦ absurd other
]

pub returns-then-form-eq0-clause-none : goal.returns-then-form-eq0-clause-none
returns-then-form-eq0-clause-none c = λ form rest parts h.
    none_begins (drop c.args.at c.args.bytes.now) (slice_range c.args.bytes.now c.args.at c.in-Ok.next) form rest (drop c.in-Ok.next c.args.bytes.now) c.in-Ok.ensures.gives c.if-form-eq0.true parts h

pub returns-else-form-eq0-clause-plain : goal.returns-else-form-eq0-clause-plain
returns-else-form-eq0-clause-plain c =
    let e = c.in-Ok.ensures.answer in
    plain_at c.args.bytes.now c.args.at c.in-Ok.next (omega arith) e.2 e.3 c.if-form-eq0.false
