use Rattle.fast_canon.proofs.Common.{◌≡◌, ◌≤◌, ℕ, length, arith, counted_by}
use Rattle.fast_canon.proofs.CanonicalBytes.{canonicalised}
use Rattle.fast_canon.proofs.canonical.canonicalise.Goals as goal

pub returns-clause-answer : goal.returns-clause-answer
returns-clause-answer g c =
    let a = c.pass_through.ensures.answer in
    let exact : (n : ℕ) → n ≤ length a.1 → counted_by 0 n ≡ n = λ n less. omega (arith, less, c.requires.turns) in
    (a.0, a.1, a.2, a.3, canonicalised c.args.mode c.args.set.now c.args.turns _ _ _ a.1 c.pass_through.result c.pass_through.ensures.sound exact a.4, a.5)
