-- Lemmas on the reads of a recording.
use Rattle.std.proofs.Common.{List, ℕ, ◌++◌, ◌+◌, ◌*◌, ◌<◌, ◌≤◌, ◌^◌, ◌≡◌, ◌≢◌, ◌⊎◌, inl, inr, length, sym, ap, subst, ◌∙◌, arith, length-append}
use Rattle.fast_io.specs.Counts.{counted}
use Rattle.fast_machine.specs.Inputs.{Reader}
use Rattle.fast_stream.specs.declared.fault.Cause.{Cause}
use Rattle.fast_recording.specs.Passing.{AreFew, IsEnd}
use Rattle.fast_recording.specs.Recorded.{HasEnded, HasFailed, IsOpen}

pub more_open : (a b c : Reader) → IsOpen a b → IsOpen b c → IsOpen a c
more_open a b c h k = (k.0 ∙ h.0, k.1 ∙ h.1)

-- a read that gave nothing
abbrev pub GaveNone : Reader → Reader → Cause → Type 0
GaveNone old new cause = ((cause ≡ Cause.Truncated) × HasEnded old new) ⊎ ((cause ≡ Cause.Read) × (new.errors ≡ counted old.errors))

pub is_end : (b c : Reader) (cause : Cause) → GaveNone b c cause → IsEnd cause
is_end b c cause (inl h) = inl h.0
is_end b c cause (inr h) = inr (inl h.0)

pub reader_ended : (a b c : Reader) (cause : Cause) → IsOpen a b → GaveNone b c cause → cause ≡ Cause.Truncated → HasEnded a c
reader_ended a b c cause still (inl h) e = let k = h.1 in (k.0, k.1 ∙ ap counted still.0, k.2 ∙ still.1)
reader_ended a b c cause still (inr h) e = let both : Cause.Read ≡ Cause.Truncated = sym h.0 ∙ e in absurd cc

pub reader_failed : (UsedUp : Type 0) (a b c : Reader) (cause : Cause) → IsOpen a b → GaveNone b c cause → cause ≢ Cause.Truncated → HasFailed UsedUp a c cause
reader_failed UsedUp a b c cause still (inl h) other = absurd (other h.0)
reader_failed UsedUp a b c cause still (inr h) other = subst (λ (d : Cause). HasFailed UsedUp a c d) (sym h.0) (h.1 ∙ ap counted still.1)

-- so many reads give few bytes
pub few_read : (front held : List ℕ) (n turns : ℕ) → length (front ++ held) ≤ 4096 * n → n ≤ turns → turns ≤ 2 ^ 40 → AreFew front held
few_read front held n turns few some most = let all = length-append front held in omega (arith, all, few, some, most)

-- one read more gave a byte
pub one_more : (front held got : List ℕ) (n : ℕ) → n ≤ length (front ++ held) → 0 < length got → n + 1 ≤ length (front ++ (held ++ got))
one_more front held got n some gave =
    let before = length-append front held in
    let after = length-append front (held ++ got) in
    let more = length-append held got in
    omega (arith, before, after, more, some, gave)
