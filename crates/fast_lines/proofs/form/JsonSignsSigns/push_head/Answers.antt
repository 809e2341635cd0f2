use Rattle.fast_lines.proofs.Common.{rules, append_assoc, ◌≡◌, ◌++◌, codes, decimal, Json, quoted}
use Rattle.fast_lines.proofs.Written.{writes_behind}
use Rattle.fast_lines.proofs.form.JsonSignsSigns.push_head.Goals as goal

pub returns : goal.returns
returns c =
    let a = c.args.out.now.items in
    let name = quoted Json c.args.name.now in
    let id = decimal c.args.id in
    let told_name : c.push_quoted.new.out.items ≡ c.push.new.out.items ++ name = search rules in
    let told_id : c.push_unsigned.new.out.items ≡ c.push-2.new.out.items ++ id = search rules in
    let text = codes "{\"template\":" ++ name ++ codes ",\"id\":" ++ id in
    let all : c.push_unsigned.new.out.items ≡ a ++ text = rw (told_id, c.in_ok-push-2.ensures, told_name, c.in_ok-push.ensures) (simp append_assoc) in
    writes_behind text (codes ",\"fields\":{") a c.push_unsigned.new.out.items c.push-3.new.out.items c.push-3.result all c.push-3.ensures
