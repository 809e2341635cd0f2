use Rattle.fast_lines.proofs.Common.{◌≡◌, ℕ, List, ◌+◌, ◌-◌, ◌∙◌, take, drop, length, ap, arith, length-drop, take_all, chunk, put_chunk}
use Rattle.fast_lines.proofs.Laid.{ends_laid}
use Rattle.fast_lines.proofs.tail.lay_ends.Goals as goal

pub returns-clause-laid : goal.returns-clause-laid
returns-clause-laid g c =
    let xs = c.args.bytes.now in
    let text = c.args.text.now in
    let n = g.row.N in
    let last = length text - n in
    let at = c.args.at in
    let back : take (length text - last) (drop last text) ≡ drop last text = take_all (length text - last) (drop last text) (omega (arith, length-drop last text)) in
    let second : c.put_word-2.new.bytes ≡ put_chunk (at + last) c.put_word.new.bytes (chunk last n text) = c.put_word-2.ensures ∙ ap (λ (z : List ℕ). put_chunk (at + last) c.put_word.new.bytes (chunk 0 n z)) back in
    rw (second, c.put_word.ensures) (ends_laid xs text at n last (omega (arith, c.requires.covers)) (omega (arith, c.requires.covers)) c.requires.room)
