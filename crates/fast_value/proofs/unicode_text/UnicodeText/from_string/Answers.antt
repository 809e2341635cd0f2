use Rattle.fast_value.proofs.Common.{List, ℕ, IsUtf8, subst, sym, ap, IsUtf8-string_bytes}
use Rattle.fast_value.proofs.unicode_text.UnicodeText.from_string.Goals as goal

pub invariant_of-result : goal.invariant_of-result
invariant_of-result c = let P : List ℕ → Type 0 = IsUtf8 in subst P (ap (λ v. v.items) (sym c.into_bytes.ensures.value)) (IsUtf8-string_bytes c.args.text)
