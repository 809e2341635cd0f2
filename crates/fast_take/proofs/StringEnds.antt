-- A string whose stop bit is found among sixteen bytes.
use Rattle.fast_take.proofs.Common.{◌≡◌, ℕ, ◌+◌, ◌%◌, ◌<◌, ◌≤◌, List, length, get_or, take, drop, slice_range, sym, ap, ◌∙◌, arith, length-take, length-drop, get_or-take, get_or-drop, IsFirstStop, IsRun, IsPlain, entity_from, plain_at}
use Rattle.fast_wire.proofs.AsciiForms.{first_byte}

among : (xs : List ℕ) (at k : ℕ) → k < 16 → get_or (take 16 (drop at xs)) k 0 ≡ get_or xs (at + k) 0
among xs at k less = get_or-take 16 (drop at xs) k 0 less ∙ get_or-drop at xs k 0

first_stop : (xs : List ℕ) (at r : ℕ) → at + 16 ≤ length xs → r < 16 → IsRun xs at r → IsFirstStop (take 16 (drop at xs)) r
first_stop xs at r room less run = record {
  within = omega (arith, length-take 16 (drop at xs), length-drop at xs);
  stop = omega (arith, among xs at r less, run.stop less);
  before = λ k h. omega (arith, among xs at k (omega arith), run.before (at + k) (omega arith) (omega arith));
}

pub ends_behind : (xs : List ℕ) (at r : ℕ) → ((k : ℕ) → get_or xs k 0 < 256) → at + 16 ≤ length xs → r < 16 → IsRun xs at r → (get_or xs at 0 % 128 ≡ 0 → ⊥)
    → (at + r + 1 ≤ length xs) × IsPlain (drop at xs) (slice_range xs at (at + r + 1)) (drop (at + r + 1) xs)
ends_behind xs at r fits room less run first =
    let e = entity_from xs at 16 r fits (first_stop xs at r room less run) in
    (e.1, plain_at xs at (at + r + 1) (omega arith) (omega arith) e.2 (λ none. first (ap (λ b. b % 128) (sym (first_byte xs at (at + r + 1) (omega arith))) ∙ none)))
