use Rattle.std.proofs.Common.{ap, sym, ◌∙◌}
use Rattle.fast_slices.specs.declared.answer.Answer.{Answer}
use Rattle.fast_slices.proofs.Streams.{room_enough}
use Rattle.fast_c.proofs.exports.fastcat_canon.Goals as goal

pub returns-clause-room_enough : goal.returns-clause-room_enough
returns-clause-room_enough c = λ enough three.
    room_enough c.args.templates.now c.args.mode c.args.stream.now c.args.room.now c.canon.new.room c.canon.result c.canon.ensures enough (sym (ap (λ (x : Answer). x.status) c.answer_of.ensures) ∙ three)
