use Rattle.fast_load.proofs.Common.{◌≡◌, ◌<◌, ◌+◌, ℕ, List, map, length, option_map, Some, refl, sym, ap, subst, ◌∙◌, arith, slice_get, slice_index_or, slice_get-get_or, slice_get_read, slice_get-map, length-map, Template, FlatTemplate, WrittenTemplate, written_list, written_of, written_template_of, Instructions, joined, list_of, AreFlatLists, context_of, flat_list, Leads, initials_in, list_named, place_among, context_in, references_in}
use Rattle.fast_load.proofs.Flattening.{list_is, lists_more, flattened, headings_kept, headings_len}
use Rattle.fast_load.proofs.Flattening.{placed_within}
use Rattle.fast_load.proofs.KeptLaws.{row_led}
use Rattle.fast_load.proofs.LinkRows.{among, row_linked}
use Rattle.fast_load.proofs.flat_lists.flat_templates.Goals as goal

pub bounds-templates-place : goal.bounds-templates-place
bounds-templates-place c = placed_within c.args.templates.now c.args.order.now c.loop-place.place-index c.requires.in_order c.loop-place-test.true

pub overflow_cast-place : goal.overflow_cast-place
overflow_cast-place c =
    let inside = placed_within c.args.templates.now c.args.order.now c.loop-place.place-index c.requires.in_order c.loop-place-test.true in
    omega (arith, inside, c.requires.few)

pub overflow_add-place : goal.overflow_add-place
overflow_add-place c =
    let inside = placed_within c.args.templates.now c.args.order.now c.loop-place.place-index c.requires.in_order c.loop-place-test.true in
    omega (arith, inside, c.requires.few)

pub index_mut-requires : goal.index_mut-requires
index_mut-requires c =
    let inside = placed_within c.args.templates.now c.args.order.now c.loop-place.place-index c.requires.in_order c.loop-place-test.true in
    let there = subst (λ n. slice_index_or c.args.order.now c.loop-place.place-index 0 < n) (sym (headings_len c.args.templates.now c.loop-place.flats.items c.loop-place.invariant.headings)) inside in
    omega (arith, there, c.loop-place.flats.ok.0)

pub append_all-requires : goal.append_all-requires
append_all-requires c =
    let inside = placed_within c.args.templates.now c.args.order.now c.loop-place.place-index c.requires.in_order c.loop-place-test.true in
    let led : Leads (initials_in (written_template_of c.index-templates-place.result).members) c.index-in-loop-place.result.now.items = row_led c.args.templates.now c.args.checked.now.initials.items (slice_index_or c.args.order.now c.loop-place.place-index 0) c.index-templates-place.result c.index-in-loop-place.result.now c.requires.initials inside c.index-templates-place.is c.index-in-loop-place.ensures in
    let linked : Leads (map (place_among c.loop-place.flats.items) (references_in (written_template_of c.index-templates-place.result).members)) c.index.result.now.items = row_linked c.args.templates.now c.args.checked.now.links.items c.loop-place.flats.items (slice_index_or c.args.order.now c.loop-place.place-index 0) c.index-templates-place.result c.index.result.now c.requires.linked c.requires.known c.loop-place.invariant.headings inside c.index-templates-place.is c.index.ensures in
    record {
      linked = rw (c.deref-in-loop-place-3.ensures.value, c.deref-in-loop-place-2.ensures.value, c.deref.ensures.value) linked;
      led = rw (c.deref-in-loop-place-2.ensures.value, c.deref-in-loop-place.ensures.value) led;
    }

pub loop-place-preserved : goal.loop-place-preserved
loop-place-preserved c =
    let ts : List WrittenTemplate = map written_template_of c.args.templates.now in
    let i : ℕ = c.loop-place.place-index in
    let a : ℕ = slice_index_or c.args.order.now i 0 in
    let at_i : slice_get c.args.order.now i ≡ Some a = slice_get-get_or c.args.order.now i 0 c.loop-place-test.true in
    let lengths : length ts ≡ length c.args.templates.now = length-map c.args.templates.now written_template_of in
    let inside : a < length c.args.templates.now = subst (λ n. a < n) lengths (c.requires.in_order.within i a at_i) in
    let t : Template = c.index-templates-place.result in
    let at_a : slice_get ts a ≡ Some (written_template_of t) = slice_get-map written_template_of c.args.templates.now a ∙ ap (option_map written_template_of) (slice_get_read c.args.templates.now (length c.args.templates.now) a t refl inside c.index-templates-place.is) in
    let flats : List FlatTemplate = c.loop-place.flats.items in
    let placed : a < length flats = subst (λ n. a < n) (sym (headings_len c.args.templates.now flats c.loop-place.invariant.headings)) inside in
    let list : Instructions = list_of c.append_all.new.flats.items in
    let made : list ≡ flat_list (list_named flats) (context_of (a + 1) (written_template_of t)) (written_template_of t).members =
    c.in_ok-append_all.ensures.appended
    ∙ ap (λ fs. joined (list_of fs) (flat_list (list_named c.deref-in-loop-place-3.result.now) (context_in c.directly_in-around.result) (written_list (map written_of c.deref-in-loop-place-2.result.now)))) c.in_ok-members.ensures.items
    ∙ ap (λ is. flat_list (list_named c.deref-in-loop-place-3.result.now) (context_in c.directly_in-around.result) (written_list (map written_of is))) c.deref-in-loop-place-2.ensures.value
    ∙ ap (λ fs. flat_list (list_named fs) (context_in c.directly_in-around.result) (written_template_of t).members) c.deref-in-loop-place-3.ensures.value
    ∙ ap (λ x. flat_list (list_named flats) x (written_template_of t).members) c.directly_in-around.ensures in
    let put : FlatTemplate = record { id = c.index_mut.result.now.id; name = c.index_mut.result.now.name; members = c.append_all.new.flats } in
    let own : (stands : List ℕ → Instructions) → AreFlatLists ts stands → list_of put.members.items ≡ stands (written_template_of t).name = list_is ts c.args.order.now i a (written_template_of t) flats list (among c.args.templates.now flats c.loop-place.invariant.headings) c.requires.in_order c.loop-place.invariant.known at_i at_a made in
    record {
      headings = headings_kept flats a c.index_mut.result.now put placed c.index_mut.ensures.value refl ∙ c.loop-place.invariant.headings;
      known = lists_more ts c.args.order.now i a (written_template_of t) flats put placed at_i at_a c.loop-place.invariant.known own;
    }

pub returns : goal.returns
returns c = flattened c.args.templates.now c.args.order.now c.loop-place.place-index c.loop-place.flats.items c.requires.in_order c.loop-place-test.false c.loop-place.invariant.headings c.loop-place.invariant.known
