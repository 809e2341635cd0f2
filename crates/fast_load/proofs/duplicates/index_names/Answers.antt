use Rattle.fast_load.proofs.Common.{◌≡◌, ◌<◌, ◌+◌, rules, false, is_some, length, Some, Ok, string_bytes, get_or, ap, subst, ◌∙◌, nat_cmp, slice_cmp, get, Updates, has_entry, EntersId}
use Rattle.fast_load.proofs.Places.{IndexedUpTo, indexed_more}
use Rattle.fast_load.proofs.duplicates.index_names.Goals as goal

pub loop-template-preserved : goal.loop-template-preserved
loop-template-preserved c =
    let l = c.loop-template in
    let within : l.template-index < length c.args.templates.now = search rules in
    let at : get_or c.args.templates.now l.template-index c.template-item.result ≡ c.template-item.result = search rules in
    let named : c.in_ok-name.name ≡ string_bytes c.template-item.result.name = search rules in
    let no_name : false ≡ is_some (get (slice_cmp nat_cmp) l.names c.in_ok-name.name) = search rules in
    let updates : Updates (slice_cmp nat_cmp) l.names c.enter_name.new.names c.in_ok-name.name (Some l.place) = c.enter_name.ensures.updates (c.in_ok-enter_name.was ∙ ap Ok c.if-branch.false) in
    let no_id : false ≡ has_entry l.ids c.template-item.result.id = search rules in
    let enters : EntersId l.ids c.enter_id.new.ids c.template-item.result.id l.place = c.enter_id.ensures.updates (c.in_ok-enter_id.was ∙ ap Ok c.if-branch-2.false) in
    let so : IndexedUpTo l.names l.ids c.args.templates.now l.template-index _ = record { names_lead = l.invariant.1; ids_lead = l.invariant.2; answers = l.invariant.3 } in
    let next = indexed_more l.names c.enter_name.new.names l.ids c.enter_id.new.ids c.args.templates.now l.template-index l.place c.template-item.result _ within at l.invariant.0 so
    (no_name ∙ ap (λ n. is_some (get (slice_cmp nat_cmp) l.names n)) named) (subst (λ n. Updates (slice_cmp nat_cmp) l.names c.enter_name.new.names n (Some l.place)) named updates) no_id enters in
    (ap (λ n. n + 1) l.invariant.0, next.names_lead, next.ids_lead, next.answers)
