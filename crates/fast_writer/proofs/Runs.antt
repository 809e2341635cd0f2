-- What a run of noted bytes is.
use Rattle.std.proofs.Common.{◌≡◌, ◌≤◌, ℕ, List, ◌++◌, slice_range, sym, ap, ◌∙◌, append_assoc, append-nil}
use Rattle.fast_writer.specs.Runs.{IsRun, written}
use Rattle.fast_writer.proofs.Common.{Run, range_none, range_split}

-- what is noted up to a place behind is written behind what was
pub kept : (bytes : List ℕ) (at : ℕ) (r : Run) (next : ℕ) → IsRun bytes at r → r.place ≤ next → r.draft.inner.bytes ++ slice_range bytes r.from next ≡ written bytes r ++ slice_range bytes at next
kept bytes at r next h le =
    let s : slice_range bytes r.from next ≡ slice_range bytes r.from r.place ++ slice_range bytes at next = range_split bytes r.from r.place next h.from le ∙ ap (λ k. slice_range bytes r.from r.place ++ slice_range bytes k next) h.place in
    ap (λ x. r.draft.inner.bytes ++ x) s ∙ sym (append_assoc r.draft.inner.bytes (slice_range bytes r.from r.place) (slice_range bytes at next))

-- where nothing is noted, what was appended is all
pub settled : (bytes : List ℕ) (items : List ℕ) (at : ℕ) → items ++ slice_range bytes at at ≡ items
settled bytes items at = ap (λ x. items ++ x) (range_none bytes at) ∙ append-nil items
