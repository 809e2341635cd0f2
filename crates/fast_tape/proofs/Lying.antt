-- Texts that lie among bytes, and headers among nodes.
use Rattle.std.proofs.Common.{◌≡◌, ◌≤◌, ◌+◌, ◌-◌, ◌++◌, ◌∙◌, ◌∷◌, ℕ, List, length, take, drop, arith, ap, ap₂, sym, get_or}
use Rattle.std.proofs.lemmas.List.{take-append-drop, length-take-le, length-append}
use Rattle.std.proofs.Math.ListN.{set}
use Rattle.std.proofs.Math.Seq.{set-append_seam, get_or-append_seam}
use Rattle.fast_tape.specs.Tapes.{LiesAt}
use Rattle.fast_tape.specs.Moved.{with_length}
use Rattle.fast_tape.specs.declared.node.TapeNode.{TapeNode}

pub lies : (bytes text : List ℕ) (place end : ℕ) → end ≡ place + length text → end ≤ length bytes → take (end - place) (drop place bytes) ≡ text → LiesAt bytes place text
lies bytes text place end e l t = record {
  before = take place bytes;
  behind = drop (end - place) (drop place bytes);
  whole = sym (take-append-drop place bytes) ∙ ap (λ x. take place bytes ++ x) (sym (take-append-drop (end - place) (drop place bytes)) ∙ ap (λ x. x ++ drop (end - place) (drop place bytes)) t);
  at = sym (length-take-le place bytes (omega arith));
}

pub counted : (nodes : List TapeNode) (start own : ℕ) (node : TapeNode) → node ≡ get_or nodes start node → own ≡ length nodes - start - 1
    → (before rest : List TapeNode) (header : TapeNode) → nodes ≡ before ++ header ∷ rest → start ≡ length before
    → set nodes start (with_length node own) ≡ before ++ with_length header (length rest) ∷ rest
counted nodes start own node here many before rest header is at =
    let there : node ≡ header = here ∙ ap₂ (λ ns k. get_or ns k node) is at ∙ get_or-append_seam before header rest node in
    let all = ap length is ∙ length-append before (header ∷ rest) in
    let count : own ≡ length rest = omega arith in
    ap₂ (λ ns k. set ns k (with_length node own)) is at
    ∙ set-append_seam before header rest (with_length node own)
    ∙ ap₂ (λ n k. before ++ with_length n k ∷ rest) there count
