-- `format!` says what it writes piece by piece, and the definition groups the pieces otherwise.
use Rattle.std.proofs.Common.{◌≡◌, List, ℕ, ◌++◌, append_assoc, ◌∙◌}
use Rattle.std.proofs.lemmas.Result.{IfOk-weaker}
use Rattle.std.specs.Prelude.{codes, decimal}
use Rattle.std.specs.String.{string_bytes}
use Rattle.fast_recording.specs.Told.{place_words_of}
use Rattle.fast_serve.proofs.recording.place_words.Goals as goal

grouped : (m n o p t u i j : List ℕ) → m ++ (n ++ (o ++ (p ++ (t ++ (u ++ (i ++ j)))))) ≡ m ++ n ++ o ++ p ++ t ++ u ++ i ++ j
grouped m n o p t u i j = simp append_assoc

pub returns : goal.returns
returns c =
    let p = c.args.place in
    let text = codes " message=" ++ (decimal p.message ++ (codes " offset=" ++ (decimal p.offset ++ (codes " template=" ++ (decimal p.template ++ (codes " instruction=" ++ decimal p.instruction)))))) in
    let same : text ≡ place_words_of p = grouped (codes " message=") (decimal p.message) (codes " offset=") (decimal p.offset) (codes " template=") (decimal p.template) (codes " instruction=") (decimal p.instruction) in
    IfOk-weaker c.format.result (λ words. string_bytes words ≡ text) (λ words. string_bytes words ≡ place_words_of p) (λ words wrote. wrote ∙ same) c.format.ensures.ok
