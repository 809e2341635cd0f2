-- `format!` says what it writes piece by piece, and the definition groups the pieces otherwise.
use Rattle.std.proofs.Common.{◌≡◌, List, ℕ, [], ◌∷◌, ◌++◌, append_assoc, ◌∙◌}
use Rattle.std.proofs.lemmas.Result.{IfOk-weaker}
use Rattle.std.specs.Prelude.{codes, decimal}
use Rattle.std.specs.String.{string_bytes}
use Rattle.fast_command.specs.RunPackets.{accepted_line}
use Rattle.fast_command.proofs.packets.accepted_line.Goals as goal

grouped : (a p m n b r c w e : List ℕ) → a ++ (p ++ (m ++ (n ++ (b ++ (r ++ (c ++ (w ++ e))))))) ≡ a ++ p ++ m ++ n ++ b ++ r ++ c ++ w ++ e
grouped a p m n b r c w e = simp append_assoc

pub returns : goal.returns
returns c =
    let s = c.args.summary in
    let text = codes "ok packets=" ++ (decimal s.packets ++ (codes " messages=" ++ (decimal s.messages ++ (codes " bytes=" ++ (decimal s.read ++ (codes " canonical=" ++ (decimal s.written ++ 10 ∷ []))))))) in
    let same : text ≡ accepted_line s = grouped (codes "ok packets=") (decimal s.packets) (codes " messages=") (decimal s.messages) (codes " bytes=") (decimal s.read) (codes " canonical=") (decimal s.written) (10 ∷ []) in
    IfOk-weaker c.format.result (λ line. string_bytes line ≡ text) (λ line. string_bytes line ≡ accepted_line s) (λ line wrote. wrote ∙ same) c.format.ensures.ok
