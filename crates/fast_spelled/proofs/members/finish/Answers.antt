use Rattle.std.proofs.Common.{◌<◌, ◌+◌, ◌++◌, ◌∷◌, [], length, Some, None, sym, ap, ◌∙◌, subst, arith}
use Rattle.std.proofs.lemmas.List.{drop-set-lt, length-set}
use Rattle.fast_template.specs.Resolved.{instruction_of}
use Rattle.fast_spelled.specs.Spelled.{left_out, presence_in}
use Rattle.fast_spelled.proofs.Finishing.{SoFar, with_node, with_absent, at_end, same_rest, same_at}
use Rattle.fast_spelled.proofs.members.finish.Goals as goal
use Rattle.fast_spelled.proofs.members.finish.Goals.{in-Some, in-None+in_ok-node-in-None}

pub loop-place-preserved : goal.loop-place-preserved
loop-place-preserved c =
    let members = c.args.members.now in
    let old = c.args.slots.now.items in
    let now = c.loop-place.slots.items in
    let at = c.loop-place.place in
    let long = length-set now at c.take.new.self ∙ c.loop-place.invariant.0 in
    let inside : at < length old = omega (arith, c.loop-place-test.true, c.requires) in
    let inside_now : at < length now = omega (arith, c.loop-place-test.true, c.loop-place.invariant.0) in
    let m = c.index-members-place.result in
    let more = sym c.in-Ok.ensures.items in (
      long,
      drop-set-lt (at + 1) now at c.take.new.self (omega arith) ∙ same_rest now old at inside_now inside c.loop-place.invariant.1,
      elim c.match-take.branch [
        | in-Some w ↦
            let is = sym w.in-Some.is ∙ c.take.ensures.value ∙ c.index_mut.ensures.value in
            subst (SoFar members old (at + 1)) (ap (λ n. c.loop-place.nodes.items ++ n ∷ []) (sym w.node-is) ∙ more)
            (with_node members old at c.loop-place.nodes.items w.in-Some.node m c.loop-place-test.true inside (same_at now old at (Some w.in-Some.node) c.index_mut.result.now inside_now inside c.loop-place.invariant.1 (sym is)) c.loop-place.invariant.2)
        | in-None+in_ok-node-in-None w ↦
            let is = sym w.in-None.is ∙ c.take.ensures.value ∙ c.index_mut.ensures.value in
            let out = ap (λ f. left_out (presence_in (instruction_of f))) (sym c.index-members-place.is) ∙ ap left_out (sym w.presence_of.ensures) ∙ w.in_ok-node-in-None.ensures in
            subst (SoFar members old (at + 1)) (ap (λ n. c.loop-place.nodes.items ++ n ∷ []) (sym w.node-is) ∙ more)
            (with_absent members old at c.loop-place.nodes.items w.in_ok-node-in-None.node m c.loop-place-test.true inside (same_at now old at None c.index_mut.result.now inside_now inside c.loop-place.invariant.1 (sym is)) out c.loop-place.invariant.2)
      ],
    )

pub returns : goal.returns
returns c = at_end c.args.members.now c.args.slots.now.items c.loop-place.place c.loop-place.nodes.items c.loop-place-test.false c.requires c.loop-place.invariant.2
