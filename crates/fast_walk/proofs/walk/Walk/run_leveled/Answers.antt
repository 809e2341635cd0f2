use Rattle.std.proofs.Common.{◌≡◌, ◌∙◌, [], arith, drop}
use Rattle.std.proofs.lemmas.List.{drop_all}
use Rattle.fast_walk.proofs.Pieces.{holds_at, reaches_on}
use Rattle.fast_walk.proofs.walk.Walk.run_leveled.Goals as goal

pub returns-then-is_whole-clause-runs : goal.returns-then-is_whole-clause-runs
returns-then-is_whole-clause-runs g c =
    let fields = rw (c.pieces.invariant.same_keys) at c.in-Ok.ensures.fields in
    (reaches_on c.pieces.invariant.reaches fields.0, c.is_whole.ensures.yes c.if-is_whole.true)

pub returns-in-pieces-clause-runs : goal.returns-in-pieces-clause-runs
returns-in-pieces-clause-runs g c =
    let fields = rw (c.pieces.invariant.same_keys) at c.in-Ok.ensures.fields in
    let reaches = reaches_on c.pieces.invariant.reaches fields.0 in
    let behind : drop c.in-Ok.next c.args.bytes.now ≡ [] = drop_all c.in-Ok.next c.args.bytes.now (omega (arith, c.if-place-bytes.true)) in (
      (reaches.from, reaches.within),
      λ other. rw (c.in-Ok.ensures.same_keys, c.pieces.invariant.same_keys, c.new.ensures.cause, c.new.ensures.number, behind) (record {
        goes = rw behind at reaches.goes;
        halts = λ o at. c.in-Some.ensures _ _ o at;
        on = reaches.on;
      }),
    )

pub returns-in-Err-step-clause-runs : goal.returns-in-Err-step-clause-runs
returns-in-Err-step-clause-runs g c =
    let fields = rw (c.pieces.invariant.same_keys) at c.in-Ok.ensures.fields in
    let reaches = reaches_on c.pieces.invariant.reaches fields.0 in
    ((reaches.from, reaches.within), λ other. rw (c.step.ensures.same_keys, c.in-Ok.ensures.same_keys, c.pieces.invariant.same_keys) (holds_at reaches (c.in-Err-step.ensures.piece other)))

pub pieces-preserved : goal.pieces-preserved
pieces-preserved g c =
    let fields = rw (c.pieces.invariant.same_keys) at c.in-Ok.ensures.fields in
    let step = rw (c.in-Ok.ensures.same_keys, c.pieces.invariant.same_keys) at c.in-Ok-step.ensures.piece in
    record {
      reaches = reaches_on c.pieces.invariant.reaches (reaches_on fields.0 step.0);
      keeps = λ set ms s k. c.step.ensures.keeps set ms s (c.in-Ok.ensures.keeps set ms s (c.pieces.invariant.keeps set ms s k));
      same_keys = c.step.ensures.same_keys ∙ c.in-Ok.ensures.same_keys ∙ c.pieces.invariant.same_keys;
    }
