use Rattle.std.proofs.Common.{◌<◌, ◌+◌, ◌++◌, ◌∙◌, List, ℕ, length, drop, take, ap, arith, length-append, length-take, refl, subst, sym}
use Rattle.std.proofs.lemmas.List.{take-append-le}
use Rattle.fast_io.specs.Counts.{counted}
use Rattle.fast_machine.specs.Inputs.{Reads}
use Rattle.fast_machine.proofs.Inputs.{empty_read, failed_read, more_read, none_read, one_read}
use Rattle.fast_host.proofs.Texts.{ended, reader_of}
use Rattle.fast_host.proofs.input.read_text.Goals as goal

pub loop-init : goal.loop-init
loop-init g c = record { reads = subst (λ (xs : List ℕ). Reads (reader_of g.R.ByteInput c.args.reader.now) (reader_of g.R.ByteInput c.args.reader.now) 0 xs) (sym c.new-text.ensures.items) (none_read (reader_of g.R.ByteInput c.args.reader.now)); few = omega arith; errors = refl; ends = refl }

pub returns-in-Ok-eq0-clause-read : goal.returns-in-Ok-eq0-clause-read
returns-in-Ok-eq0-clause-read g c =
    let i = c.loop.invariant in
    let buffer = length-take c.min.result c.loop.chunk in
    let p = c.in-Ok-eq0.ensures in
    let zero = c.in-Ok-eq0.field-0-test in
    let end = empty_read (reader_of g.R.ByteInput c.loop.reader) (reader_of g.R.ByteInput c.pull.new.self) _ _ p.call p.bytes.1 zero in
    (c.loop.counter + 1, c.loop.text.items, ended i end, omega arith, (refl, i.few, p.bytes.2 zero (omega (arith, buffer))), tt)

pub returns-in-Ok-eq0-clause-unfailed : goal.returns-in-Ok-eq0-clause-unfailed
returns-in-Ok-eq0-clause-unfailed g c = c.in-Ok-eq0.ensures.error ∙ c.loop.invariant.errors

pub returns-in-Ok-clause-read : goal.returns-in-Ok-clause-read
returns-in-Ok-clause-read g c =
    let i = c.loop.invariant in
    let buffer = length-take c.min.result c.loop.chunk in
    let p = c.in-Ok.ensures in
    let got = take c.in-Ok.count c.pull.new.buf in
    let more = one_read (reader_of g.R.ByteInput c.loop.reader) (reader_of g.R.ByteInput c.pull.new.self) c.in-Ok.count c.pull.new.buf p.call p.bytes.1 (omega (arith, buffer)) in
    (c.loop.counter + 1, c.loop.text.items ++ got, more_read _ _ _ c.loop.counter _ _ i.reads more, omega arith, tt, omega (arith, length-append c.loop.text.items got, length-take c.in-Ok.count c.pull.new.buf, buffer))

pub returns-in-Err-extend_from_slice-clause-read : goal.returns-in-Err-extend_from_slice-clause-read
returns-in-Err-extend_from_slice-clause-read g c =
    let i = c.loop.invariant in
    let buffer = length-take c.min.result c.loop.chunk in
    let p = c.in-Ok.ensures in
    let got = take c.in-Ok.count c.pull.new.buf in
    let more = one_read (reader_of g.R.ByteInput c.loop.reader) (reader_of g.R.ByteInput c.pull.new.self) c.in-Ok.count c.pull.new.buf p.call p.bytes.1 (omega (arith, buffer)) in
    (c.loop.counter + 1, c.loop.text.items ++ got, more_read _ _ _ c.loop.counter _ _ i.reads more, omega arith, tt, omega (arith, length-append c.loop.text.items got, length-take c.in-Ok.count c.pull.new.buf, buffer))

pub returns-in-Err-clause-read : goal.returns-in-Err-clause-read
returns-in-Err-clause-read g c =
    let i = c.loop.invariant in
    let p = c.in-Err.ensures in
    let end = failed_read (reader_of g.R.ByteInput c.loop.reader) (reader_of g.R.ByteInput c.pull.new.self) p.call p.bytes in
    (c.loop.counter + 1, c.loop.text.items, ended i end, omega arith, tt, (i.few, p.error ∙ ap counted i.errors))

pub loop-preserved : goal.loop-preserved
loop-preserved g c =
    let i = c.loop.invariant in
    let buffer = length-take c.min.result c.loop.chunk in
    let p = c.in-Ok.ensures in
    let got = take c.in-Ok.count c.pull.new.buf in
    let some : 0 < c.in-Ok.count = omega arith in
    let more = one_read (reader_of g.R.ByteInput c.loop.reader) (reader_of g.R.ByteInput c.pull.new.self) c.in-Ok.count c.pull.new.buf p.call p.bytes.1 (omega (arith, buffer)) in
    let all = c.in-Ok-extend_from_slice.ensures.items ∙ ap (λ (xs : List ℕ). c.loop.text.items ++ xs) (take-append-le c.in-Ok.count c.pull.new.buf (drop c.min.result c.loop.chunk) (omega arith)) in
    record {
      reads = subst (λ (xs : List ℕ). Reads (reader_of g.R.ByteInput c.args.reader.now) (reader_of g.R.ByteInput c.pull.new.self) (c.loop.counter + 1) xs) (sym all) (more_read _ _ _ c.loop.counter _ _ i.reads more);
      few = omega (arith, length-append c.loop.text.items got, length-take c.in-Ok.count c.pull.new.buf, buffer, ap (λ (xs : List ℕ). length xs) all);
      errors = p.error ∙ i.errors;
      ends = p.end.1 some ∙ i.ends;
    }

pub returns-clause-read : goal.returns-clause-read
returns-clause-read g c = let i = c.loop.invariant in (c.loop.counter, c.loop.text.items, i.reads, omega arith, tt, (i.few, omega arith, i.ends))
