use Rattle.fast_writer.proofs.Common.{◌∙◌, ◌≡◌, ◌-◌, arith, drop, length, length-drop, take, take_all}
use Rattle.fast_writer.proofs.Relays.{begun}
use Rattle.fast_writer.proofs.fields.take_fields.Goals as goal

pub returns-clause-takes : goal.returns-clause-takes
returns-clause-takes g c =
    let rest = c.args.rest.now in
    let count = c.in_ok-count.count in
    let b = c.begin.ensures in
    let whole : take (length rest - count) (drop count rest) ≡ drop count rest = take_all (length rest - count) (drop count rest) (omega (arith, length-drop count rest)) in
    rw whole
    (rw (begun c.args.bytes.now c.args.run.now c.begin.new.self c.args.at b.draft b.from b.place (b.passed ∙ c.requires.none), b.place) at (c.in_ok-count.ensures.took.takes c.args.spare (omega (arith, c.if-rest-spare.false))))
