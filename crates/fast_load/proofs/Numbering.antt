-- Numbering a list of instructions from its front.
use Rattle.fast_load.proofs.Common.{◌≡◌, ◌<◌, ◌+◌, ℕ, List, length, take, drop, get_or, slice_set, sym, ap, ◌∙◌, Flat, Instructions, then_instruction, instruction_of, list_of, joined, numbered, numbered_one, size_of, size_of_one}
use Rattle.fast_load.proofs.Rewritten.{front_more, back_stays, back_is}

-- those before i are numbered, and the others are once they are numbered from next on
abbrev pub partly : List Flat → ℕ → ℕ → Instructions
partly flats i next = joined (list_of (take i flats)) (numbered next (list_of (drop i flats)))

pub one_more : (flats : List Flat) (i next : ℕ) (f d : Flat) → i < length flats → instruction_of f ≡ numbered_one next (instruction_of (get_or flats i d))
    → partly (slice_set flats i f) (i + 1) (next + size_of_one (instruction_of (get_or flats i d))) ≡ partly flats i next
one_more flats i next f d lt is =
    let own = instruction_of (get_or flats i d) in
    let rest = numbered (next + size_of_one own) (list_of (drop (i + 1) flats)) in
    ap (λ l. joined (list_of (take (i + 1) (slice_set flats i f))) (numbered (next + size_of_one own) (list_of l))) (back_stays flats i f)
    ∙ front_more flats i f rest lt
    ∙ ap (λ j. joined (list_of (take i flats)) (then_instruction j rest)) is
    ∙ ap (λ js. joined (list_of (take i flats)) (numbered next js)) (sym (back_is flats i d lt))

pub left : (flats : List Flat) (i : ℕ) (f d : Flat) → i < length flats → size_of_one (instruction_of (get_or flats i d)) + size_of (list_of (drop (i + 1) (slice_set flats i f))) ≡ size_of (list_of (drop i flats))
left flats i f d lt =
    ap (λ l. size_of_one (instruction_of (get_or flats i d)) + size_of (list_of l)) (back_stays flats i f) ∙ ap size_of (sym (back_is flats i d lt))
