use Rattle.fast_writer.proofs.Common.{refl, sym, ap}
use Rattle.fast_writer.proofs.Awaiting.{begins, mapped_some}
use Rattle.fast_writer.proofs.writer.WriterReceiver.open.Goals as goal

pub returns-clause-begun : goal.returns-clause-begun
returns-clause-begun c = λ bits m.
    begins (record { draft = c.begin.new.self; from = c.args.self.now.run.from; place = c.args.self.now.run.place; passed = 0 }) bits (record {
      none = refl;
      around = ap (λ o. o.segments) c.begin.ensures.around;
      bytes = rw (c.in_ok-begin.ensures.inner) refl;
      some = rw (c.in_ok-begin.ensures.inner) (mapped_some m);
      left = rw (c.in_ok-begin.ensures.inner) (sym m.value);
      whole = rw (c.in_ok-begin.ensures.inner) (sym m.value);
    })
