use Rattle.fast_load.proofs.Common.{◌≡◌, map, option_map, string_bytes, ap, subst, sym, ◌∙◌, flat_list, length_part, joined, list_of, instruction_of, sequence_of, written_list, written_of, operation_of, list_named, place_among, context_in}
use Rattle.fast_load.proofs.FlatLaws.{flat_more, flat_end, field_put, parts_put, group_put, sequence_put}
use Rattle.fast_load.proofs.KeptLaws.{links_end, links_member, rest_member, rest_end}
use Rattle.fast_load.proofs.flat_lists.+appends.Goals as goal

pub append_all-loop-member-preserved : goal.append_all-loop-member-preserved
append_all-loop-member-preserved t c = record {
  appended = flat_more (list_named c.args.lists.now) (context_in c.args.around) c.args.members.now c.loop-member.flats.items c.append_one.new.flats.items _ c.member-item.result c.loop-member.member-index c.loop-member-test.true c.member-item.is c.in_ok-append_one.ensures.appended c.loop-member.invariant.appended;
  links = links_member (place_among c.args.lists.now) c.args.members.now c.member-item.result c.loop-member.member-index c.loop-member.links.rest.now c.append_one.new.links.rest.now _ c.loop-member-test.true c.member-item.is c.in_ok-append_one.ensures.links c.loop-member.invariant.links;
  rest = rest_member c.args.members.now c.member-item.result c.loop-member.member-index c.loop-member.initials.rest.now c.append_one.new.initials.rest.now _ c.loop-member-test.true c.member-item.is c.in_ok-append_one.ensures.rest c.loop-member.invariant.rest;
}

pub append_all-returns-clause-links : goal.append_all-returns-clause-links
append_all-returns-clause-links t c = links_end (place_among c.args.lists.now) c.args.members.now c.loop-member.member-index c.loop-member.links.rest.now _ c.loop-member-test.false c.loop-member.invariant.links

pub append_all-returns-clause-rest : goal.append_all-returns-clause-rest
append_all-returns-clause-rest t c = rest_end c.args.members.now c.loop-member.member-index c.loop-member.initials.rest.now _ c.loop-member-test.false c.loop-member.invariant.rest

pub append_all-returns-clause-appended : goal.append_all-returns-clause-appended
append_all-returns-clause-appended t c = flat_end (list_named c.args.lists.now) (context_in c.args.around) c.args.members.now c.loop-member.flats.items _ c.loop-member.member-index c.loop-member-test.false c.loop-member.invariant.appended

pub append_one-returns-in_ok-push-in-Field-clause-appended : goal.append_one-returns-in_ok-push-in-Field-clause-appended
append_one-returns-in_ok-push-in-Field-clause-appended t c = field_put (list_named c.args.lists.now) (context_in c.args.around) c.args.flats.now.items c.push.new.self.items c.in_ok-field-in-Field.field c.args.member.now c.in-Field.name c.deref.result.now c.in-Field.kind c.in-Field.presence c.in-Field.operation c.in-Field.is c.deref.ensures c.in_ok-field-in-Field.ensures c.in_ok-push-in-Field.ensures.items

pub append_one-returns-in_ok-push-in-Parts-clause-appended : goal.append_one-returns-in_ok-push-in-Parts-clause-appended
append_one-returns-in_ok-push-in-Parts-clause-appended t c = parts_put (list_named c.args.lists.now) (context_in c.args.around) c.args.flats.now.items c.push-in-Parts.new.self.items c.in_ok-parts-in-Parts.parts c.args.member.now c.in-Parts.name c.deref-in-Parts.result.now c.in-Parts.presence c.in-Parts.exponent c.in-Parts.mantissa c.in-Parts.is c.deref-in-Parts.ensures c.in_ok-parts-in-Parts.ensures.made c.in_ok-push-in-Parts.ensures.items

pub append_one-returns-in_ok-push-in-Group-clause-appended : goal.append_one-returns-in_ok-push-in-Group-clause-appended
append_one-returns-in_ok-push-in-Group-clause-appended t c =
    let inner : list_of c.append_all.new.flats.items ≡ flat_list (list_named c.args.lists.now) (context_in c.inside-around.result) (written_list (map written_of c.in-Group.members.items)) =
    c.in_ok-append_all-in-Group.ensures.appended
    ∙ ap (λ fs. joined (list_of fs) (flat_list (list_named c.args.lists.now) (context_in c.inside-around.result) (written_list (map written_of c.deref-in-Group.result.now)))) c.in_ok-inner-in-Group.ensures.items
    ∙ ap (λ is. flat_list (list_named c.args.lists.now) (context_in c.inside-around.result) (written_list (map written_of is))) c.deref-in-Group.ensures.value in
    group_put (list_named c.args.lists.now) (context_in c.args.around) (context_in c.inside-around.result) c.args.flats.now.items c.push-in-Group.new.self.items c.append_all.new.flats.items c.in_ok-group-in-Group.group c.args.member.now c.in-Group.name c.deref-in-Group-2.result.now c.in-Group.presence c.in-Group.dictionary c.in-Group.type_ref c.in-Group.members c.in-Group.is c.deref-in-Group-2.ensures c.inside-around.ensures inner c.in_ok-group-in-Group.ensures c.in_ok-push-in-Group.ensures.items

pub append_one-returns-in_ok-push-in-Sequence-clause-appended : goal.append_one-returns-in_ok-push-in-Sequence-clause-appended
append_one-returns-in_ok-push-in-Sequence-clause-appended t c =
    let inner : list_of c.append_all-in-Sequence.new.flats.items ≡ flat_list (list_named c.args.lists.now) (context_in c.inside-around-in-Sequence.result) (written_list (map written_of c.in-Sequence.members.items)) =
    c.in_ok-append_all-in-Sequence.ensures.appended
    ∙ ap (λ fs. joined (list_of fs) (flat_list (list_named c.args.lists.now) (context_in c.inside-around-in-Sequence.result) (written_list (map written_of c.deref-in-Sequence-2.result.now)))) c.in_ok-inner-in-Sequence.ensures.items
    ∙ ap (λ is. flat_list (list_named c.args.lists.now) (context_in c.inside-around-in-Sequence.result) (written_list (map written_of is))) c.deref-in-Sequence-2.ensures.value in
    sequence_put (list_named c.args.lists.now) (context_in c.args.around) (context_in c.inside-around-in-Sequence.result) c.args.flats.now.items c.push-in-Sequence.new.self.items c.append_all-in-Sequence.new.flats.items c.in_ok-sequence-in-Sequence.sequence c.args.member.now c.in-Sequence.name c.deref-in-Sequence.result.now c.in-Sequence.presence c.in-Sequence.dictionary c.in-Sequence.type_ref c.in-Sequence.length_name c.in-Sequence.length c.in_ok-length-in-Sequence.length c.in-Sequence.members c.in-Sequence.is c.deref-in-Sequence.ensures c.inside-around-in-Sequence.ensures inner (subst (λ n. c.in_ok-length-in-Sequence.length ≡ length_part (context_in c.inside-around-in-Sequence.result) n c.in-Sequence.presence (option_map string_bytes c.in-Sequence.length_name) (operation_of c.in-Sequence.length)) (c.deref-in-Sequence.ensures ∙ sym c.deref-in-Sequence.ensures) c.in_ok-length-in-Sequence.ensures) (subst (λ n. instruction_of c.in_ok-sequence-in-Sequence.sequence ≡ sequence_of n 0 c.in-Sequence.presence c.in_ok-length-in-Sequence.length (list_of c.append_all-in-Sequence.new.flats.items)) (c.deref-in-Sequence-3.ensures ∙ sym c.deref-in-Sequence.ensures) c.in_ok-sequence-in-Sequence.ensures) c.in_ok-push-in-Sequence.ensures.items
