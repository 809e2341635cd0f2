use Rattle.fast_load.proofs.Common.{◌≡◌, ◌+◌, map, ap, ◌∙◌, arith, Extent, written_list, written_of, depth_named, size_named, stopped_size}
use Rattle.fast_load.proofs.InOrderLaws.{depth_end, depth_more, size_end, size_more}
use Rattle.fast_load.proofs.LinkLaws.{along_start, along_taken, linked_along}
use Rattle.fast_load.proofs.extents.extent_of_all.Goals as goal

pub loop-found-init : goal.loop-found-init
loop-found-init g c =
    let size : c.empty-extent.result.size ≡ 0 = ap (λ (e : Extent). e.size) c.empty-extent.ensures in
    let depth : c.empty-extent.result.depth ≡ 0 = ap (λ (e : Extent). e.depth) c.empty-extent.ensures in
    record {
      size_stops = omega (arith, size);
      depth_stops = omega (arith, depth);
      size = omega (arith, size);
      depth = omega (arith, depth);
      rest = along_start g.place c.deref-found-items.result.now c.in_ok-list.list.items (written_list (map written_of c.args.members.now)) c.args.links.rest.now c.deref-found-items.ensures.value c.in_ok-list.ensures.listed c.requires;
    }

pub own_extent-own-requires : goal.own_extent-own-requires
own_extent-own-requires g c = linked_along g.place c.deref-found-items.result.now c.found-item.result c.loop-found.found-index c.loop-found.links.rest.now c.loop-found-test.true c.found-item.is c.loop-found.invariant.rest

pub loop-found-preserved : goal.loop-found-preserved
loop-found-preserved g c =
    let d = c.found-item.result in
    let own = c.own_extent-own.result in
    let added : c.and-extent.result.size ≡ stopped_size (c.loop-found.extent.size + own.size) = c.and-extent.ensures.size ∙ ap (λ n. stopped_size (c.loop-found.extent.size + n)) c.below.ensures.size in
    record {
      size_stops = omega (arith, added);
      depth_stops = omega (arith, c.and-extent.ensures.depth);
      size = size_more (size_named g.place c.args.extents.now) c.deref-found-items.result.now d c.loop-found.found-index c.loop-found.extent.size c.and-extent.result.size _ own.size c.loop-found-test.true c.found-item.is c.own_extent-own.ensures.size added c.loop-found.invariant.size;
      depth = depth_more (depth_named g.place c.args.extents.now) c.deref-found-items.result.now d c.loop-found.found-index c.loop-found.extent.depth c.and-extent.result.depth _ own.depth c.below.result.depth c.loop-found-test.true c.found-item.is c.own_extent-own.ensures.depth c.below.ensures.depth c.and-extent.ensures.depth c.loop-found.invariant.depth;
      rest = along_taken g.place c.deref-found-items.result.now d c.loop-found.found-index c.loop-found.links.rest.now c.own_extent-own.new.links.rest.now c.loop-found-test.true c.found-item.is c.loop-found.invariant.rest c.own_extent-own.ensures.rest;
    }

pub returns-clause-size : goal.returns-clause-size
returns-clause-size g c = size_end (size_named g.place c.args.extents.now) c.deref-found-items.result.now c.in_ok-list.list.items (written_list (map written_of c.args.members.now)) c.loop-found.found-index c.loop-found.extent.size c.loop-found-test.false c.deref-found-items.ensures.value c.in_ok-list.ensures.listed c.loop-found.invariant.size_stops c.loop-found.invariant.size

pub returns-clause-depth : goal.returns-clause-depth
returns-clause-depth g c = depth_end (depth_named g.place c.args.extents.now) c.deref-found-items.result.now c.in_ok-list.list.items (written_list (map written_of c.args.members.now)) c.loop-found.found-index c.loop-found.extent.depth c.loop-found-test.false c.deref-found-items.ensures.value c.in_ok-list.ensures.leveled c.loop-found.invariant.depth_stops c.loop-found.invariant.depth
