-- A text that was read whole.
use Rattle.fast_serve.proofs.Common.{◌≤◌, ℕ, List, length, ap, sym, subst, arith, refl, Reader, Reads, IsText, HasText}

-- what was read is a text that was read whole
pub has_text : (turns count : ℕ) (old new : Reader) (text got : List ℕ) → Reads old new count got → count ≤ turns → IsText text got new.left → HasText turns old new text
has_text turns count old new text got reads bounded is = record {
  count = count;
  read = record { reads = subst (λ (xs : List ℕ). Reads old new count xs) (sym is.0) reads; bounded = bounded };
  whole = (refl, (let same = ap (λ (xs : List ℕ). length xs) is.0 in let few = is.1 in omega (arith, same, few)), is.2);
}
