use Rattle.fast_load.proofs.Common.{◌≡◌, ◌≤◌, ◌+◌, map, max, drop, found_of, leveled_of, depth_along, depth_named, size_along, size_named, stopped_depth, stopped_size, referred_along}
use Rattle.fast_load.proofs.extents.extent_of_all.Given as goal

abbrev pub ghost-own_extent : goal.ghost-own_extent
ghost-own_extent g a = g.place

abbrev pub invariant-loop-found : goal.invariant-loop-found
invariant-loop-found g l = record {
  size_stops : l.extent.size ≤ 65536;
  depth_stops : l.extent.depth ≤ 9;
  size : stopped_size (l.extent.size + size_along (size_named g.place l.extents) (map found_of (drop l.found-index l.found-items))) ≡ stopped_size (size_along (size_named g.place l.extents) (map found_of l.found-items));
  depth : stopped_depth (max l.extent.depth (depth_along (depth_named g.place l.extents) (map leveled_of (drop l.found-index l.found-items)))) ≡ stopped_depth (depth_along (depth_named g.place l.extents) (map leveled_of l.found-items));
  rest : l.links.rest.now ≡ map g.place (referred_along (map found_of (drop l.found-index l.found-items)));
}
