use Rattle.fast_slices.proofs.Streams.{room_enough_over}
use Rattle.fast_c.proofs.sets.canon_held.Goals as goal

pub returns-in-Some-clause-room_enough : goal.returns-in-Some-clause-room_enough
returns-in-Some-clause-room_enough c = λ enough three.
    room_enough_over c.set.result.now c.args.mode c.args.stream.now c.args.room.now c.canon_over.new.room c.canon_over.result c.canon_over.ensures.sound c.canon_over.ensures.answer enough three
