use Rattle.std.proofs.Common.{refl}
use Rattle.fast_stream.specs.Nodes.{content_of}
use Rattle.fast_write.specs.Ways.{here}
use Rattle.fast_write.proofs.OneLine.{not_changed, now_counted, refused_not_taken, unread_not_taken}
use Rattle.fast_write.proofs.way.Way.take_plain.Goals as goal

pub returns-in-Err : goal.returns-in-Err
returns-in-Err g c = (g.E.Entries.contents c.args.self.now.encoder.journal.entries, refl, unread_not_taken _ _ _ c.deref.result.now _ c.in-Err.fault c.deref.ensures.value c.in-Err.ensures)

pub returns-in-Err-encode : goal.returns-in-Err-encode
returns-in-Err-encode g c =
    let e = c.in-Err-encode.ensures in (
      g.E.Entries.contents c.args.self.now.encoder.journal.entries,
      not_changed (here c.args.self.now) _ _ e.unchanged.1 e.unchanged.0,
      refused_not_taken _ _ _ _ c.deref.result.now _ _ c.in-Ok.message.template _ c.in-Err-encode.fault _ c.args.self.now.same_set c.deref.ensures.value refl refl c.in-Ok.ensures c.of_message.ensures e.refused e.no_form,
    )

pub returns : goal.returns
returns g c = λ number.
    let w = c.in-Ok-encode.ensures.written in
    let after = g.E.Entries.contents c.encode.new.self.journal.entries in
    record {
      bytes = w.0;
      message = content_of c.in-Ok.message;
      after = after;
      spelled = rw (c.deref.ensures.value) at c.in-Ok.ensures;
      canonical = rw (c.args.self.now.same_set) at w.2;
      is = now_counted (here c.args.self.now) after _ w.0 _ _ w.1 number c.one_more-self.ensures;
    }
