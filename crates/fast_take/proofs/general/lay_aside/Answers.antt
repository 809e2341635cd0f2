use Rattle.std.proofs.Common.{drop}
use Rattle.fast_take.proofs.Generally.{no_null, no_units, stands_there, unit_kind, units_value}
use Rattle.fast_take.proofs.general.lay_aside.Goals as goal

pub unreachable-requires : goal.unreachable-requires
unreachable-requires c =
    let i = c.args.instr.now in
    let r = c.requires.read in
    no_units c.args.level i (drop c.args.at c.args.bytes.now) c.args.value.now c.in_default.field-0
    (stands_there c.args.level i r.0 (drop c.args.at c.args.bytes.now) r.1 c.args.value.now c.requires.keeps (unit_kind i.kind c.in-Ascii.is) r.2)
    c.in_default.ensures.gives

pub unreachable-requires-in-Null : goal.unreachable-requires-in-Null
unreachable-requires-in-Null c =
    let i = c.args.instr.now in
    let r = c.requires.read in
    no_null c.args.level i (drop c.args.at c.args.bytes.now) (drop c.in-Ok._next c.args.bytes.now) c.args.value.now
    (stands_there c.args.level i r.0 (drop c.args.at c.args.bytes.now) r.1 c.args.value.now c.requires.keeps (unit_kind i.kind c.in-Ascii.is) r.2)
    (rw (c.in-Null.is) at c.in-Ok.ensures.gives)

pub returns-in-Value : goal.returns-in-Value
returns-in-Value c =
    let i = c.args.instr.now in
    let r = c.requires.read in
    units_value c.args.level i c.args.bytes.now c.args.at c.in-Ok._next c.args.value.now c.in-Value.span
    (stands_there c.args.level i r.0 (drop c.args.at c.args.bytes.now) r.1 c.args.value.now c.requires.keeps (unit_kind i.kind c.in-Ascii.is) r.2)
    (rw (c.in-Value.is) at c.in-Ok.ensures.gives)
