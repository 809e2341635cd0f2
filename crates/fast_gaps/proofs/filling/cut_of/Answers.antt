use Rattle.std.proofs.Common.{◌≡◌, ◌-◌, ◌++◌, ℕ, List, [], length, take, sym, ◌∙◌, append-nil, arith}
use Rattle.std.proofs.lemmas.List.{take_all}
use Rattle.std.specs.Cmp.Lexicographic.{same_text}
use Rattle.fast_gaps.proofs.filling.cut_of.Goals as goal

-- nothing is removed of a text, and nothing put there
all_kept : (last : List ℕ) → take (length last - 0) last ++ [] ≡ last
all_kept last = append-nil (take (length last - 0) last) ∙ take_all (length last - 0) last (omega arith)

pub returns-then-eq : goal.returns-then-eq
returns-then-eq c = sym (all_kept c.args.last.now ∙ same_text c.args.last.now c.args.text.now c.if-eq.ensures)
