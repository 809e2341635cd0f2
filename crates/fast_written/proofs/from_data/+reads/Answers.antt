use Rattle.fast_written.proofs.Common.{◌≡◌, ◌+◌, ◌∷◌, ◌++◌, [], Err, get_or, drop, rules, arith, map, Ok, option_map, sym, ap, subst, ◌∙◌, option_map_or, Global, Vec, Instruction, get, data_in, items_in, items_tokens, items_view, item_smaller, json_tokens, length, value_view, ◌<◌, Word, word_text, ReadsAs, members_in, one_of, read_all, read_items, next_number, map_push, no_written, written_list, written_of}
use Rattle.fast_written.proofs.JsonReading.{behind, one_more, one_at_fault, all_read, fails}
use Rattle.fast_written.proofs.from_data.+reads.Goals as goal

pub read_values-returns-in_err-instruction : goal.read_values-returns-in_err-instruction
read_values-returns-in_err-instruction t c =
    let l = c.loop-value in
    let vs = c.args.values.now in
    let d = c.value-item.result in
    let at : get_or vs l.value-index d ≡ d = search rules in
    let e = c.in_err-instruction.field-0.0 in
    let failed : c.read_one.result ≡ Err e = search rules in
    let same : c.from_residual-in_err-instruction.result ≡ Err e = search rules in
    let reads = subst (λ r. ReadsAs written_of r (one_of (data_in d) l.next (members_in (data_in d) (next_number l.next)))) failed c.read_one.ensures in
    subst (λ r. ReadsAs (λ instructions. written_list (map written_of instructions.items)) r (read_items (items_in vs) c.args.number)) (sym same)
    (fails written_of (λ (instructions : Vec Instruction Global). written_list (map written_of instructions.items)) e _ _
    (λ m is. sym l.invariant ∙ one_at_fault (map written_of l.instructions.items) vs l.value-index l.next m d c.loop-value-test.true (ap (λ x. one_of (data_in x) l.next (members_in (data_in x) (next_number l.next))) at ∙ is)) reads)

pub read_values-loop-value-preserved : goal.read_values-loop-value-preserved
read_values-loop-value-preserved t c =
    let l = c.loop-value in
    let vs = c.args.values.now in
    let d = c.value-item.result in
    let x = c.in_ok-instruction.instruction in
    let at : get_or vs l.value-index d ≡ d = search rules in
    let read : c.read_one.result ≡ Ok (x, c.in_ok-instruction.following) = search rules in
    let is : one_of (data_in d) l.next (members_in (data_in d) (next_number l.next)) ≡ Ok (written_of x, c.in_ok-instruction.following) = subst (λ r. ReadsAs written_of r (one_of (data_in d) l.next (members_in (data_in d) (next_number l.next)))) read c.read_one.ensures in
    let pushed : map written_of c.push.new.self.items ≡ map written_of l.instructions.items ++ written_of x ∷ [] = search (rules, map_push) in
    ap (λ xs. behind xs (read_items (items_in (drop (l.value-index + 1) vs)) c.in_ok-instruction.following)) pushed
    ∙ one_more (map written_of l.instructions.items) vs l.value-index l.next c.in_ok-instruction.following d (written_of x) c.loop-value-test.true (ap (λ y. one_of (data_in y) l.next (members_in (data_in y) (next_number l.next))) at ∙ is)
    ∙ l.invariant

pub read_values-returns : goal.read_values-returns
read_values-returns t c =
    let l = c.loop-value in
    sym l.invariant ∙ all_read (map written_of l.instructions.items) c.args.values.now l.value-index l.next (omega arith)

pub read_one-returns-in-None : goal.read_one-returns-in-None
read_one-returns-in-None c = search rules

pub read_values-read_one-requires : goal.read_values-read_one-requires
read_values-read_one-requires t c =
    let vs = c.args.values.now in
    let x = c.value-item.result in
    let smaller : length (json_tokens (value_view x)) < length (items_tokens (items_view vs)) =
    subst (λ y. length (json_tokens (value_view y)) < length (items_tokens (items_view vs))) (sym c.value-item.is) (item_smaller vs c.loop-value.value-index x (omega arith)) in
    search rules
