-- `format!` says what it writes piece by piece, and the definition groups the pieces otherwise.
use Rattle.std.proofs.Common.{◌≡◌, List, ℕ, [], ◌∷◌, ◌++◌, append_assoc, ◌∙◌}
use Rattle.std.proofs.lemmas.Result.{IfOk-weaker}
use Rattle.std.specs.Prelude.{codes, decimal}
use Rattle.std.specs.String.{string_bytes}
use Rattle.fast_command.specs.RunPackets.{refused_line}
use Rattle.fast_command.proofs.packets.refused_line.Goals as goal

grouped : (a p f x m n b r c w e : List ℕ) → a ++ (p ++ (f ++ (x ++ (m ++ (n ++ (b ++ (r ++ (c ++ (w ++ e))))))))) ≡ a ++ p ++ f ++ x ++ m ++ n ++ b ++ r ++ c ++ w ++ e
grouped a p f x m n b r c w e = simp append_assoc

pub returns : goal.returns
returns c =
    let s = c.args.summary in
    let text = codes "packets=" ++ (decimal s.packets ++ (codes " refused=" ++ (decimal s.refused ++ (codes " messages=" ++ (decimal s.messages ++ (codes " bytes=" ++ (decimal s.read
    ++ (codes " canonical=" ++ (decimal s.written ++ 10 ∷ []))))))))) in
    let same : text ≡ refused_line s = grouped (codes "packets=") (decimal s.packets) (codes " refused=") (decimal s.refused) (codes " messages=") (decimal s.messages) (codes " bytes=") (decimal s.read)
    (codes " canonical=") (decimal s.written) (10 ∷ []) in
    IfOk-weaker c.format.result (λ line. string_bytes line ≡ text) (λ line. string_bytes line ≡ refused_line s) (λ line wrote. wrote ∙ same) c.format.ensures.ok
