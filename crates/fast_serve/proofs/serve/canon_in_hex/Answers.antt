use Rattle.fast_serve.proofs.Common.{Err, List, ℕ, rules, subst, err_from_is_err_and, writer_by, CanonFault, AnswersInHex, CanonInHex}
use Rattle.fast_serve.proofs.Sayings.{failed_line}
use Rattle.fast_serve.proofs.serve.canon_in_hex.Goals as goal

pub returns-in_err-write_hex_line-in-Err-Stream : goal.returns-in_err-write_hex_line-in-Err-Stream
returns-in_err-write_hex_line-in-Err-Stream g c =
    let e = c.in-Err-Stream.ensures.answer in
    let old = writer_by g.O.ByteOutput.taken g.O.ByteOutput.errors g.O.ByteOutput.flushes c.args.out.now in
    let new = writer_by g.O.ByteOutput.taken g.O.ByteOutput.errors g.O.ByteOutput.flushes c.write_hex_line-in-Err-Stream.new.out in
    let refusal = c.in_err-write_hex_line-in-Err-Stream.field-0.0 in
    let p = err_from_is_err_and c.from_residual.result c.from_residual.ensures.1 in
    let all : CanonInHex c.args.mode c.args.set.now c.args.turns c.args.stream.now old new (Err refusal) = record {
      input = e.1;
      count = e.0;
      in_old = _;
      in_new = _;
      bytes = c.run.new.writer.bytes.items;
      answer = Err (CanonFault.Stream c.in-Err-Stream.fault);
      begins = search rules;
      read = record { reads = e.2; bounded = e.3 };
      ran = search rules;
      answered = subst (λ (b : List ℕ). AnswersInHex old new b (Err (CanonFault.Stream c.in-Err-Stream.fault)) (Err refusal)) c.deref-in-Err-Stream.ensures.value
          (failed_line old new c.deref-in-Err-Stream.result.now c.in-Err-Stream.fault refusal c.in_err-write_hex_line-in-Err-Stream.ensures);
    } in
    rw (p.1, p.2) all
