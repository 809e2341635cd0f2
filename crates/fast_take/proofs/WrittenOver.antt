-- Texts whose last characters are written over.
use Rattle.fast_take.proofs.Common.{◌≡◌, ◌+◌, ◌-◌, ◌%◌, ℕ, List, ◌++◌, ◌∙◌, length, take, drop, get_or, refl, sym, ap, arith, inr, length-append, set, get_or_default, length-set, length-take-le, take-append_seam, with_bytes, IsEntity, groups, entity_some, last_cleared}

-- as many bytes as there were are the bytes now
pub all_written : (old new : List ℕ) → length new ≡ length old → with_bytes old new ≡ new
all_written old new same = ap (λ n. take n (new ++ drop (length new) old)) (sym same) ∙ take-append_seam new (drop (length new) old)

-- an entity that is copied over the last bytes, and its stop bit taken off, has put its characters there
pub characters_written : (old copied form : List ℕ) (kept : ℕ) → IsEntity form → kept + length form ≡ length old → copied ≡ take kept old ++ form
    → with_bytes old (set copied (length copied - 1) (get_or copied (length copied - 1) 0 % 128)) ≡ take kept old ++ groups form
characters_written old copied form kept entity many is =
    let last = get_or copied (length copied - 1) 0 in
    let cleared = set copied (length copied - 1) (last % 128) in
    let long : length copied ≡ kept + length form = ap length is ∙ length-append (take kept old) form ∙ ap (λ n. n + length form) (length-take-le kept old (omega (arith, many))) in
    let same : last ≡ get_or copied (length copied - 1) last = get_or_default copied (length copied - 1) 0 last (omega (arith, long, entity_some form entity)) in
    all_written old cleared (length-set copied (length copied - 1) (last % 128) ∙ long ∙ many)
    ∙ last_cleared (take kept old) form copied (length copied) last (inr entity) is (entity_some form entity) refl same
