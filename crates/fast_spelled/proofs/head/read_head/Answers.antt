use Rattle.std.proofs.Common.{ap, sym, ◌∙◌, Some, option_map, refl, append-nil}
use Rattle.json.specs.Tree.{json_tokens, members_tokens}
use Rattle.fast_spelled.proofs.Heads.{always_key, depth_within, is_the_packet, line_begins, line_ends, line_goes_on, line_named, line_refused, line_refuses_packet, line_takes_packet, line_unknown, line_without_fields, none_at, not_object, packet_ends}
use Rattle.fast_spelled.proofs.head.read_head.Goals as goal

pub returns-in-Err : goal.returns-in-Err
returns-in-Err c = λ j d e. not_object c.args.packets j (c.in-Err.ensures.read j _ (e ∙ sym (append-nil (json_tokens j))))

pub loop-name-init : goal.loop-name-init
loop-name-init c = λ j d e.
    let o = c.in-Ok.ensures.read j _ (e ∙ sym (append-nil (json_tokens j))) in
    (o.0, o.1, line_begins c.args.packets o.0 c.open_object.new.reader _ _ refl refl refl refl (depth_within j o.0 d o.1) (o.2 ∙ append-nil (members_tokens o.0)))

pub returns-in-Err-next_key : goal.returns-in-Err-next_key
returns-in-Err-next_key c = λ j d e set. let i = c.loop-name.invariant j d e in absurd (always_key i.2.left c.loop-name.reader i.2.stands c.in-Err-next_key.ensures.value)

pub returns-in-Err-read_packet : goal.returns-in-Err-read_packet
returns-in-Err-read_packet c = λ j d e set.
    let i = c.loop-name.invariant j d e in
    let key_is = c.in-Ok-Some.ensures.value ∙ ap (λ o. Some (option_map (λ s. s.now) o, c.next_key.new.self)) c.in-Ok-Some.field-0-is in
    let x = line_named i.2 c.next_key.new.self c.in-Ok-Some.name.now key_is in
    let is = is_the_packet c.args.packets c.in-Ok-Some.name.now (sym c.is_packet.ensures ∙ c.if-is_packet.true) in
    none_at c.args.packets set j i.0 i.1 (line_refuses_packet c.loop-name.packet x is (c.in-Err-read_packet.ensures.read x.one (members_tokens x.more) x.stands) set)

pub loop-name-preserved-then-is_packet : goal.loop-name-preserved-then-is_packet
loop-name-preserved-then-is_packet c = λ j d e.
    let i = c.loop-name.invariant j d e in
    let key_is = c.in-Ok-Some.ensures.value ∙ ap (λ o. Some (option_map (λ s. s.now) o, c.next_key.new.self)) c.in-Ok-Some.field-0-is in
    let x = line_named i.2 c.next_key.new.self c.in-Ok-Some.name.now key_is in
    let is = is_the_packet c.args.packets c.in-Ok-Some.name.now (sym c.is_packet.ensures ∙ c.if-is_packet.true) in
    let r = c.in-Ok-read_packet.ensures.read x.one (members_tokens x.more) x.stands in
    (i.0, i.1, line_takes_packet x is c.in-Ok-read_packet.packet c.read_packet.new.reader r.0 r.1 r.2)

pub returns-in-None : goal.returns-in-None
returns-in-None c = λ j d e set.
    let i = c.loop-name.invariant j d e in
    let key_is = c.in-Ok-Some.ensures.value ∙ ap (λ o. Some (option_map (λ s. s.now) o, c.next_key.new.self)) c.in-Ok-Some.field-0-is in
    none_at c.args.packets set j i.0 i.1 (line_unknown (line_named i.2 c.next_key.new.self c.in-Ok-Some.name.now key_is) (sym c.is_packet.ensures ∙ c.if-is_packet.false) c.in-None.ensures set)

pub returns-in-Err-with_member : goal.returns-in-Err-with_member
returns-in-Err-with_member c = λ j d e set.
    let i = c.loop-name.invariant j d e in
    let key_is = c.in-Ok-Some.ensures.value ∙ ap (λ o. Some (option_map (λ s. s.now) o, c.next_key.new.self)) c.in-Ok-Some.field-0-is in
    let x = line_named i.2 c.next_key.new.self c.in-Ok-Some.name.now key_is in
    none_at c.args.packets set j i.0 i.1 (line_refused x c.in-Some.part c.in-Some.ensures (c.in-Err-with_member.ensures.read x.fields x.one (members_tokens x.more) x.has_seen x.shallow x.stands) set)

pub loop-name-preserved : goal.loop-name-preserved
loop-name-preserved c = λ j d e.
    let i = c.loop-name.invariant j d e in
    let key_is = c.in-Ok-Some.ensures.value ∙ ap (λ o. Some (option_map (λ s. s.now) o, c.next_key.new.self)) c.in-Ok-Some.field-0-is in
    let x = line_named i.2 c.next_key.new.self c.in-Ok-Some.name.now key_is in
    let r = c.in-Ok-with_member.ensures.read x.fields x.one (members_tokens x.more) x.has_seen x.shallow x.stands in
    (i.0, i.1, line_goes_on x c.in-Some.part c.in-Ok-with_member.head c.with_member.new.reader c.in-Some.ensures r.0 r.1)

pub returns-then-not-head : goal.returns-then-not-head
returns-then-not-head c = λ j d e set.
    let i = c.loop-name.invariant j d e in
    let key_is = c.in-Ok-None.ensures.value ∙ ap (λ o. Some (option_map (λ s. s.now) o, c.next_key.new.self)) c.in-Ok-None.field-0-is in
    none_at c.args.packets set j i.0 i.1 (line_without_fields i.2 c.next_key.new.self key_is c.if-not-head.true set)

pub returns : goal.returns
returns c = λ j d e.
    let i = c.loop-name.invariant j d e in
    let key_is = c.in-Ok-None.ensures.value ∙ ap (λ o. Some (option_map (λ s. s.now) o, c.next_key.new.self)) c.in-Ok-None.field-0-is in
    record { members = i.0; is = i.1; message = λ set. line_ends i.2 c.next_key.new.self key_is set; packet = packet_ends i.2 c.next_key.new.self key_is }
