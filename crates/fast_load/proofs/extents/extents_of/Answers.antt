use Rattle.fast_load.proofs.Common.{◌≡◌, ◌<◌, ℕ, List, map, length, option_map, Some, refl, sym, ap, subst, ◌∙◌, arith, slice_get, slice_index_or, slice_get-get_or, slice_get_read, slice_get-map, length-map, length-set, Template, WrittenTemplate, WrittenInstructions, written_list, written_of, written_template_of, Instructions, AreFlatLists, IsExtentOf, size_with, size_named, stopped_size, depth_with, depth_named, stopped_depth, place_named, place_or, places_of, references_in}
use Rattle.fast_load.proofs.KeptLaws.{row_within}
use Rattle.fast_load.proofs.LinkRows.{link_row, map_same}
use Rattle.fast_load.proofs.ExtentLaws.{extent_is, extents_more, extents_all}
use Rattle.fast_load.proofs.Flattening.{placed_within}
use Rattle.fast_load.proofs.extents.extents_of.Goals as goal

pub bounds-templates-place : goal.bounds-templates-place
bounds-templates-place g c = placed_within c.args.templates.now c.args.order.now c.loop-place.place-index c.requires.1.1.1 c.loop-place-test.true

pub index_mut-requires : goal.index_mut-requires
index_mut-requires g c =
    let inside = placed_within c.args.templates.now c.args.order.now c.loop-place.place-index c.requires.1.1.1 c.loop-place-test.true in
    let there = subst (λ n. slice_index_or c.args.order.now c.loop-place.place-index 0 < n) (sym c.loop-place.invariant.len) inside in
    omega (arith, there, c.loop-place.extents.ok.0)

pub bounds-links-place : goal.bounds-links-place
bounds-links-place g c = row_within (λ t. places_of (place_named (map written_template_of c.args.templates.now)) (references_in (written_template_of t).members)) c.args.templates.now c.args.links.now c.requires.1.1.0 (slice_index_or c.args.order.now c.loop-place.place-index 0) (placed_within c.args.templates.now c.args.order.now c.loop-place.place-index c.requires.1.1.1 c.loop-place-test.true)

pub extent_of_all-requires : goal.extent_of_all-requires
extent_of_all-requires g c =
    let t : Template = c.index-templates-place.result in
    let inside = placed_within c.args.templates.now c.args.order.now c.loop-place.place-index c.requires.1.1.1 c.loop-place-test.true in
    let read : c.deref-in-loop-place.result.now ≡ t.members.items = c.deref-in-loop-place.ensures.value ∙ ap (λ (t : Template). t.members.items) (sym c.index-templates-place.is) in
    c.deref.ensures.value
    ∙ link_row c.args.templates.now c.args.links.now (slice_index_or c.args.order.now c.loop-place.place-index 0) t c.index-links-place.result c.requires.1.1.0 c.requires.1.0 inside c.index-templates-place.is c.index-links-place.is
    ∙ map_same (place_or (map written_template_of c.args.templates.now)) g.place (λ name. sym (c.requires.0 name)) (references_in (written_template_of t).members)
    ∙ ap (λ is. map g.place (references_in (written_list (map written_of is)))) (sym read)

pub loop-place-preserved : goal.loop-place-preserved
loop-place-preserved g c =
    let ts : List WrittenTemplate = map written_template_of c.args.templates.now in
    let a : ℕ = slice_index_or c.args.order.now c.loop-place.place-index 0 in
    let at_i : slice_get c.args.order.now c.loop-place.place-index ≡ Some a = slice_get-get_or c.args.order.now c.loop-place.place-index 0 c.loop-place-test.true in
    let lengths : length ts ≡ length c.args.templates.now = length-map c.args.templates.now written_template_of in
    let inside : a < length c.args.templates.now = subst (λ n. a < n) lengths (c.requires.1.1.1.within c.loop-place.place-index a at_i) in
    let at_a : slice_get ts a ≡ Some (written_template_of c.index-templates-place.result) = slice_get-map written_template_of c.args.templates.now a ∙ ap (option_map written_template_of) (slice_get_read c.args.templates.now (length c.args.templates.now) a c.index-templates-place.result refl inside c.index-templates-place.is) in
    let members : WrittenInstructions = written_list (map written_of c.index-templates-place.result.members.items) in
    let read : c.deref-in-loop-place.result.now ≡ c.index-templates-place.result.members.items = c.deref-in-loop-place.ensures.value ∙ ap (λ (t : Template). t.members.items) (sym c.index-templates-place.is) in
    let size : c.in_ok-extent.extent.size ≡ stopped_size (size_with (size_named g.place c.loop-place.extents.items) members) =
    c.in_ok-extent.ensures.size
    ∙ ap (λ is. stopped_size (size_with (size_named g.place c.deref-in-loop-place-2.result.now) (written_list (map written_of is)))) read
    ∙ ap (λ es. stopped_size (size_with (size_named g.place es) members)) c.deref-in-loop-place-2.ensures.value in
    let depth : c.in_ok-extent.extent.depth ≡ stopped_depth (depth_with (depth_named g.place c.loop-place.extents.items) members) =
    c.in_ok-extent.ensures.depth
    ∙ ap (λ is. stopped_depth (depth_with (depth_named g.place c.deref-in-loop-place-2.result.now) (written_list (map written_of is)))) read
    ∙ ap (λ es. stopped_depth (depth_with (depth_named g.place es) members)) c.deref-in-loop-place-2.ensures.value in
    let own : (stands : List ℕ → Instructions) → AreFlatLists ts stands → IsExtentOf (stands (written_template_of c.index-templates-place.result).name) c.in_ok-extent.extent = extent_is ts g.place c.args.order.now c.loop-place.place-index a (written_template_of c.index-templates-place.result) c.loop-place.extents.items c.in_ok-extent.extent c.requires.0 c.requires.1.1.1 (c.loop-place.invariant.len ∙ sym lengths) c.loop-place.invariant.known at_i at_a size depth in
    record {
      len = length-set c.loop-place.extents.items a c.in_ok-extent.extent ∙ c.loop-place.invariant.len;
      known = extents_more ts c.args.order.now c.loop-place.place-index a (written_template_of c.index-templates-place.result) c.loop-place.extents.items c.in_ok-extent.extent at_i at_a c.loop-place.invariant.known own;
    }

pub returns-clause-extents : goal.returns-clause-extents
returns-clause-extents g c = extents_all (map written_template_of c.args.templates.now) c.args.order.now c.loop-place.place-index c.loop-place.extents.items c.requires.1.1.1 c.loop-place-test.false c.loop-place.invariant.known
