use Rattle.std.proofs.Common.{◌≡◌, ◌∷◌, ◌++◌, ◌≤◌, ◌+◌, drop, subst, arith, rules}
use Rattle.fast_template.specs.Resolved.{instruction_of, list_of, size_of, size_of_one}
use Rattle.fast_layout.specs.Fields.{Appends, rows_of, rows_of_one}
use Rattle.fast_layout.proofs.Laid.{IsLaid, laid_next, left_at}
use Rattle.fast_layout.proofs.layout.Layout.+laying.Goals as goal

pub push_members-loop-member-preserved : goal.push_members-loop-member-preserved
push_members-loop-member-preserved t c =
    let members = c.args.members.now in
    let i = c.loop-member.member-index in
    let member = c.member-item.result in
    let more : drop i members ≡ member ∷ drop (i + 1) members = left_at members i member c.loop-member-test.true (search rules) in
    let laid : IsLaid (rows_of (list_of members)) (rows_of_one (instruction_of member) ++ rows_of (list_of (drop (i + 1) members))) c.args.self.now c.loop-member.self =
    subst (λ ms. IsLaid (rows_of (list_of members)) (rows_of (list_of ms)) c.args.self.now c.loop-member.self) more c.loop-member.invariant.laid in
    let small : size_of_one (instruction_of member) + size_of (list_of (drop (i + 1) members)) ≤ 65535 = subst (λ ms. size_of (list_of ms) ≤ 65535) more c.loop-member.invariant.small in
    let one : Appends (rows_of_one (instruction_of member)) c.loop-member.self c.push_member.new.self = search rules in
    record {
      laid = laid_next (rows_of (list_of members)) (rows_of_one (instruction_of member)) (rows_of (list_of (drop (i + 1) members))) c.args.self.now c.loop-member.self c.push_member.new.self laid one;
      small = omega arith;
    }
