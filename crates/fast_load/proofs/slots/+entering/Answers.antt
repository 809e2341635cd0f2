use Rattle.fast_load.proofs.Common.{◌≡◌, ◌∷◌, ◌++◌, [], take, get_or, rules, subst, sym, ap, ◌∙◌, instruction_of, keys_of, keys_of_one, list_of, EntersKeys}
use Rattle.fast_load.proofs.Slotting.{keys_more, more_keys, after_ok, keys_of_parts, keys_of_sequence}
use Rattle.fast_load.proofs.slots.+entering.Goals as goal

pub enter_keys-loop-flat-preserved : goal.enter_keys-loop-flat-preserved
enter_keys-loop-flat-preserved t c =
    let at : get_or c.args.flats.now c.loop-flat.flat-index c.flat-item.result ≡ c.flat-item.result = search rules in
    let more = keys_more c.args.flats.now c.loop-flat.flat-index c.flat-item.result c.loop-flat-test.true in
    let one : EntersKeys c.loop-flat.slots c.enter_keys_of_one.new.slots (keys_of_one (instruction_of c.flat-item.result)) = search rules in
    let both = more_keys _ _ _ _ _ c.loop-flat.invariant one in
    subst (EntersKeys c.args.slots.now c.enter_keys_of_one.new.slots) (sym (more ∙ ap (λ f. keys_of (list_of (take c.loop-flat.flat-index c.args.flats.now)) ++ keys_of_one (instruction_of f)) at)) both

pub enter_keys_of_one-returns-in_ok-enter_key-in-Parts :
    goal.enter_keys_of_one-returns-in_ok-enter_key-in-Parts
enter_keys_of_one-returns-in_ok-enter_key-in-Parts t c =
    let keys : keys_of_one (instruction_of c.args.flat.now) ≡ c.in-Parts.exponent.key ∷ c.in-Parts.mantissa.key ∷ [] = ap (λ f. keys_of_one (instruction_of f)) c.in-Parts.is ∙ keys_of_parts _ _ _ _ _ in
    let first : EntersKeys c.args.slots.now c.enter_key-in-Parts.new.slots (c.in-Parts.exponent.key ∷ []) = search rules in
    after_ok c.enter_key-in-Parts-2.result (λ second. subst (EntersKeys c.args.slots.now c.enter_key-in-Parts-2.new.slots) (sym keys) (more_keys _ _ _ _ _ first second)) c.enter_key-in-Parts-2.ensures

pub enter_keys_of_one-returns-in_ok-enter_key-in-Sequence :
    goal.enter_keys_of_one-returns-in_ok-enter_key-in-Sequence
enter_keys_of_one-returns-in_ok-enter_key-in-Sequence t c =
    let keys : keys_of_one (instruction_of c.args.flat.now) ≡ c.in-Sequence.length.key ∷ keys_of (list_of c.deref-in-Sequence.result.now) = ap (λ f. keys_of_one (instruction_of f)) c.in-Sequence.is ∙ keys_of_sequence _ _ _ _ _ ∙ ap (λ l. c.in-Sequence.length.key ∷ keys_of (list_of l)) (sym c.deref-in-Sequence.ensures.value) in
    let first : EntersKeys c.args.slots.now c.enter_key-in-Sequence.new.slots (c.in-Sequence.length.key ∷ []) = search rules in
    after_ok c.enter_keys-in-Sequence.result (λ second. subst (EntersKeys c.args.slots.now c.enter_keys-in-Sequence.new.slots) (sym keys) (more_keys _ _ _ _ _ first second)) c.enter_keys-in-Sequence.ensures
