use Rattle.fast_load.proofs.Common.{◌≡◌, ◌≤◌, ◌++◌, ◌∷◌, List, map, length, take, drop, sym, subst, length-map, FlatTemplate, WrittenTemplate, written_template_of, resolved_of, AreResolved, AreSettled, AreSound, templates_in, identifier_key, keys_of_all, HasSlots}
use Rattle.fast_load.proofs.LimitPhase.{there_are_lists}
use Rattle.fast_load.proofs.Building.{flats_small, flats_bare, are_resolved, are_sound, settled_len, written_back}
use Rattle.fast_load.proofs.build.set_of.Goals as goal

pub settle-requires-clause-small : goal.settle-requires-clause-small
settle-requires-clause-small c =
    let ts : List WrittenTemplate = map written_template_of c.args.templates.now in
    let stands = there_are_lists ts c.args.order.now c.requires.in_order c.requires.differ in
    rw (← c.deref_mut.ensures.value) at (flats_small ts c.in_ok-flats.flats.items stands.0 stands.1 c.requires.limits c.in_ok-flats.ensures)

pub settle-requires-clause-bare : goal.settle-requires-clause-bare
settle-requires-clause-bare c =
    let ts : List WrittenTemplate = map written_template_of c.args.templates.now in
    let stands = there_are_lists ts c.args.order.now c.requires.in_order c.requires.differ in
    rw (← c.deref_mut.ensures.value) at (flats_bare ts c.args.order.now c.in_ok-flats.flats.items stands.0 c.requires.in_order stands.1 c.in_ok-flats.ensures)

pub of-requires-clause-sound : goal.of-requires-clause-sound
of-requires-clause-sound c =
    let ts : List WrittenTemplate = map written_template_of c.args.templates.now in
    let flats : List FlatTemplate = c.in_ok-flats.flats.items in
    let new : List FlatTemplate = c.settle.new.templates in
    let few : length ts ≤ 65535 = subst (λ n. n ≤ 65535) (sym (length-map c.args.templates.now written_template_of)) c.requires.few in
    let stands = there_are_lists ts c.args.order.now c.requires.in_order c.requires.differ in
    let so : AreSettled (map resolved_of flats) (map resolved_of new) = subst (λ l. AreSettled (map resolved_of l) (map resolved_of new)) c.deref_mut.ensures.value c.in_ok-slots.ensures.settled in
    let back : take c.in_ok-flats.flats.len (new ++ drop (length new) flats) ≡ new = written_back c.in_ok-flats.flats.len flats new c.in_ok-flats.flats.ok.0 (settled_len flats new so) in
    subst (λ l. AreSound (map resolved_of l) c.in_ok-slots.slots) (sym back)
    (subst (λ rs. AreSound rs c.in_ok-slots.slots) (sym so.1)
    (are_sound c.args.templates.now c.args.order.now flats stands.0 so.0 c.requires.in_order stands.1 c.in_ok-flats.ensures few c.requires.differ c.requires.operators c.requires.limits c.in_ok-slots.slots
    (subst (λ rs. HasSlots (identifier_key ∷ keys_of_all rs) c.in_ok-slots.slots) so.1 c.in_ok-slots.ensures.slots)))

pub returns : goal.returns
returns c =
    let ts : List WrittenTemplate = map written_template_of c.args.templates.now in
    let flats : List FlatTemplate = c.in_ok-flats.flats.items in
    let new : List FlatTemplate = c.settle.new.templates in
    let stands = there_are_lists ts c.args.order.now c.requires.in_order c.requires.differ in
    let so : AreSettled (map resolved_of flats) (map resolved_of new) = subst (λ l. AreSettled (map resolved_of l) (map resolved_of new)) c.deref_mut.ensures.value c.in_ok-slots.ensures.settled in
    let back : take c.in_ok-flats.flats.len (new ++ drop (length new) flats) ≡ new = written_back c.in_ok-flats.flats.len flats new c.in_ok-flats.flats.ok.0 (settled_len flats new so) in
    subst (λ set. AreResolved ts (templates_in set)) (sym c.of.ensures)
    (subst (λ l. AreResolved ts (map resolved_of l)) (sym back)
    (are_resolved ts flats (map resolved_of new) stands.0 stands.1 c.in_ok-flats.ensures so))
