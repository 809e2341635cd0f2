use Rattle.fast_load.proofs.Common.{◌≡◌, ◌++◌, get_or, map, take, rules, subst, sym, ap, ◌∙◌, keys_of, list_of, resolved_of, EntersKeys, keys_of_all}
use Rattle.fast_load.proofs.Slotting.{more_keys}
use Rattle.fast_load.proofs.Settling.{all_more}
use Rattle.fast_load.proofs.settle.enter_all.Goals as goal

pub loop-template-preserved : goal.loop-template-preserved
loop-template-preserved c =
    let l = c.loop-template in
    let ts = c.args.templates.now in
    let at : get_or ts l.template-index c.template-item.result ≡ c.template-item.result = search rules in
    let one : EntersKeys l.slots c.enter_keys.new.slots (keys_of (list_of c.deref.result.now)) = search rules in
    let here : keys_of (list_of c.deref.result.now) ≡ keys_of (resolved_of (get_or ts l.template-index c.template-item.result)).members = ap (λ x. keys_of (list_of x)) c.deref.ensures.value ∙ ap (λ t. keys_of (resolved_of t).members) (sym at) in
    let more = all_more ts l.template-index c.template-item.result c.loop-template-test.true in
    subst (EntersKeys c.args.slots.now c.enter_keys.new.slots) (ap (λ k. keys_of_all (map resolved_of (take l.template-index ts)) ++ k) here ∙ sym more) (more_keys _ _ _ _ _ l.invariant one)
