use Rattle.fast_serve.proofs.Common.{◌≡◌, take, map, string_bytes}
use Rattle.fast_serve.proofs.serve.texts_of.Given as goal

abbrev pub invariant-loop-word : goal.invariant-loop-word
invariant-loop-word l = map (λ text. text.now) l.texts.items ≡ map string_bytes (take l.word-index l.words)
