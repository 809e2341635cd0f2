use Rattle.fast_load.proofs.Common.{◌≡◌, ◌++◌, map, drop, length, flat_list, initials_in, references_in, list_named, place_among, joined, list_of, context_in, written_list, written_of}
use Rattle.fast_load.proofs.flat_lists.+appends.Given as goal

abbrev pub invariant-append_all-loop-member : goal.invariant-append_all-loop-member
invariant-append_all-loop-member l = record {
  appended : joined (list_of l.flats.items) (flat_list (list_named l.lists) (context_in l.around) (written_list (map written_of (drop l.member-index l.members)))) ≡ joined (list_of l.initial.flats.items) (flat_list (list_named l.lists) (context_in l.around) (written_list (map written_of l.members)));
  links : l.links.rest.now ≡ map (place_among l.lists) (references_in (written_list (map written_of (drop l.member-index l.members)))) ++ drop (length (references_in (written_list (map written_of l.members)))) l.initial.links.rest.now;
  rest : l.initials.rest.now ≡ initials_in (written_list (map written_of (drop l.member-index l.members))) ++ drop (length (initials_in (written_list (map written_of l.members)))) l.initial.initials.rest.now;
}
