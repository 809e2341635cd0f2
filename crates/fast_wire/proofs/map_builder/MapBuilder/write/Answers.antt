use Rattle.fast_wire.proofs.Common.{rules, ◌≡◌, ◌∙◌, ◌-◌, ◌*◌, ◌/◌, ◌^◌, ◌%◌, ◌<◌, ap, length, sym, arith, one_shl, marked_count, bit_at, word_bits}
use Rattle.fast_wire.proofs.MarkedWords.{kept_long, kept_word, unmarked}
use Rattle.fast_wire.proofs.WordForms.{front_bits, marked_up, nine_groups, some_kept, word_appended, word_length}
use Rattle.fast_wire.proofs.map_builder.MapBuilder.write.Goals as goal

pub returns-then-not-is_empty : goal.returns-then-not-is_empty
returns-then-not-is_empty c =
    let some : length c.self.inside.long.items ≡ 0 → ⊥ = search rules in
    let is : c.args.self.now ≡ c.self.inside.long.items = sym c.self.view_is ∙ kept_long c.self.inside.long.items c.self.inside.word (λ none. some (ap length none)) in
    rw (is, ← c.deref.ensures.value) c.write_map.ensures

pub overflow_sub-groups-2 : goal.overflow_sub-groups-2
overflow_sub-groups-2 c =
    let k = c.marked_count-count.ensures in
    (marked_up c.self.inside.word c.marked_count-count.result k.few k.mark k.bits).0

pub append_byte-requires : goal.append_byte-requires
append_byte-requires c =
    let k = c.marked_count-count.result in let w = c.self.inside.word in
    let few = c.marked_count-count.ensures.few in let mark = c.marked_count-count.ensures.mark in let bits = c.marked_count-count.ensures.bits in
    let nine = nine_groups k (w - 2 ^ k) few (omega arith) in
    let whole = nine.0 in let below = nine.1 in
    rw ((marked_up w k few mark bits).1) (omega arith)

pub returns-then-groups-eq0 : goal.returns-then-groups-eq0
returns-then-groups-eq0 c =
    let k = c.marked_count-count.result in let w = c.self.inside.word in
    let few = c.marked_count-count.ensures.few in let mark = c.marked_count-count.ensures.mark in let bits = c.marked_count-count.ensures.bits in
    let nine = nine_groups k (w - 2 ^ k) few (omega arith) in
    let whole = nine.0 in let below = nine.1 in
    let all = (w - 2 ^ k) * 2 ^ (63 - k) % 2 ^ 64 in
    let low : all / 2 ^ 56 < 128 = omega arith in
    let up = (marked_up w k few mark bits).1 in
    let is : c.args.self.now ≡ word_bits (marked_count w) w = search (rules, kept_word) in
    rw (is, ← c.marked_count-count.ensures.count) (word_appended c.args.out.now c.append_byte.new.out (word_bits k w) (all / 2 ^ 56) 1 c.append_byte.result (omega (arith, word_length k w)) (omega arith) (omega arith) low
    (λ more. absurd (omega arith)) (λ i. front_bits k (w - 2 ^ k) 8 all few (omega arith) whole (rw up at c.if-groups-eq0.true) i ∙ ap (λ l. bit_at l i) (unmarked w k mark))
    (rw up at c.append_byte.ensures))

pub append_word-requires-clause-some : goal.append_word-requires-clause-some
append_word-requires-clause-some c =
    let k = c.marked_count-count.result in let few = c.marked_count-count.ensures.few in
    let mark = c.marked_count-count.ensures.mark in let bits = c.marked_count-count.ensures.bits in
    rw (one_shl k 64 (omega arith)) (some_kept (c.self.inside.word - 2 ^ k) k (rw ((marked_up c.self.inside.word k few mark bits).1) at c.if-groups-eq0.false))

pub append_word-requires-clause-fits : goal.append_word-requires-clause-fits
append_word-requires-clause-fits c =
    let k = c.marked_count-count.result in let few = c.marked_count-count.ensures.few in
    let mark = c.marked_count-count.ensures.mark in let bits = c.marked_count-count.ensures.bits in
    rw (one_shl k 64 (omega arith)) (omega arith)

pub returns : goal.returns
returns c =
    let k = c.marked_count-count.result in let w = c.self.inside.word in let few = c.marked_count-count.ensures.few in
    let shift = one_shl k 64 (omega arith) in
    let is : c.args.self.now ≡ word_bits (marked_count w) w = search (rules, kept_word) in
    rw (is, ← c.marked_count-count.ensures.count, ← unmarked w k c.marked_count-count.ensures.mark) (rw shift at c.append_word.ensures)
