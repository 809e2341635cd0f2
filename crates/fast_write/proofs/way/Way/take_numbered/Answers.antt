use Rattle.std.proofs.Common.{arith, refl, ◌∙◌}
use Rattle.fast_stream.specs.Nodes.{content_of}
use Rattle.fast_write.specs.Ways.{here}
use Rattle.fast_write.proofs.OneLine.{fallen_not_taken, not_kept_in, refused_not_taken_in, taken_numbered, unread_not_taken_in}
use Rattle.fast_write.proofs.way.Way.take_numbered.Goals as goal

pub returns-in-Err : goal.returns-in-Err
returns-in-Err g c = (g.E.Entries.contents c.args.self.now.encoder.journal.entries, refl, unread_not_taken_in (here c.args.self.now) c.deref.result.now _ c.in-Err.fault c.deref.ensures.value c.requires c.in-Err.ensures)

pub returns-then-packet-self : goal.returns-then-packet-self
returns-then-packet-self g c = (
  g.E.Entries.contents c.args.self.now.encoder.journal.entries,
  refl,
  fallen_not_taken (here c.args.self.now) c.deref.result.now _ c.in-Ok.numbered.0 (content_of c.in-Ok.numbered.1) _ c.deref.ensures.value c.requires c.in-Ok.ensures c.if-packet-self.true c.of_whole.ensures,
)

pub returns-in-Err-encode_in : goal.returns-in-Err-encode_in
returns-in-Err-encode_in g c = (
  _,
  c.in-Err-encode_in.ensures.still,
  refused_not_taken_in (here c.args.self.now) c.deref.result.now _ c.in-Ok.numbered.1.template c.in-Ok.numbered.0 (content_of c.in-Ok.numbered.1) c.in-Err-encode_in.fault _ c.deref.ensures.value refl c.in-Ok.ensures c.of_message.ensures c.in-Err-encode_in.ensures.encoded,
)

pub returns-in-Err-keep_message : goal.returns-in-Err-keep_message
returns-in-Err-keep_message g c =
    let e = c.in-Ok-encode_in.ensures in
    let k = c.in-Err-keep_message.ensures.kept in (
      (here c.encode_in.new.self).entries,
      k.0 ∙ e.still,
      not_kept_in (here c.args.self.now) (here c.encode_in.new.self) _ c.deref.result.now _ c.in-Ok.numbered.0 (content_of c.in-Ok.numbered.1) _ c.in-Err-keep_message.fault e.still c.deref.ensures.value c.requires c.in-Ok.ensures e.encoded k.1,
    )

pub returns : goal.returns
returns g c = λ number.
    let e = c.in-Ok-encode_in.ensures in
    let low = c.if-packet-self.false in
    taken_numbered (here c.args.self.now) (here c.encode_in.new.self) _ (here c.keep_message.new.self) c.deref.result.now c.in-Ok.numbered.0 (content_of c.in-Ok.numbered.1) _ c.args.number _ e.still c.in-Ok-keep_message.ensures.kept c.deref.ensures.value c.in-Ok.ensures (omega (arith, low)) e.encoded number
    c.one_more-self.ensures
