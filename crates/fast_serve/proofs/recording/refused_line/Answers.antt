-- `format!` says what it writes piece by piece, and the definition groups the pieces otherwise.
use Rattle.std.proofs.Common.{◌≡◌, List, ℕ, [], ◌∷◌, ◌++◌, append_assoc, ◌∙◌}
use Rattle.std.proofs.lemmas.Result.{IfOk-weaker}
use Rattle.std.specs.Prelude.{codes, decimal}
use Rattle.std.specs.String.{string_bytes}
use Rattle.fast_stream.specs.CauseNames.{name_of}
use Rattle.fast_recording.specs.Told.{place_words_of, refused_line_of}
use Rattle.fast_serve.proofs.recording.refused_line.Goals as goal

grouped : (word cause gap packet place end : List ℕ) → word ++ (cause ++ (gap ++ (packet ++ (place ++ end)))) ≡ word ++ cause ++ gap ++ packet ++ place ++ end
grouped word cause gap packet place end = simp append_assoc

pub returns : goal.returns
returns c =
    let f = c.args.refused in
    let text = codes "refused " ++ (c.name-cause.result.now ++ (codes " packet=" ++ (decimal f.packet ++ (string_bytes c.in_ok-place.place ++ 10 ∷ [])))) in
    let same : text ≡ refused_line_of f = rw (c.name-cause.ensures, c.in_ok-place.ensures) (grouped (codes "refused ") (name_of f.fault.cause) (codes " packet=") (decimal f.packet) (place_words_of f.fault.place) (10 ∷ [])) in
    IfOk-weaker c.format.result (λ line. string_bytes line ≡ text) (λ line. string_bytes line ≡ refused_line_of f) (λ line wrote. wrote ∙ same) c.format.ensures.ok
