use Rattle.fast_machine.proofs.Common.{◌+◌, ◌∙◌, refl, sym, arith, inl, length, length-drop, drop, drop-drop, take_rest}
use Rattle.fast_machine.proofs.ManyRuns.{begun_most, is_outside, leads_behind, leads_none, leaves_behind, none_of, reads_behind, some_taken, still_served}
use Rattle.fast_machine.proofs.messages.read_messages.Goals as goal

pub messages-init : goal.messages-init
messages-init g c =
    let t = c.args.traversal.now in
    let most = begun_most t.stage in
    record {
      place = omega arith;
      some = c.requires.some;
      few = omega (arith, most);
      outside = λ zero. zero;
      served = c.requires.served;
      can = c.requires.can;
      same = record { set = refl; level = refl; same_keys = refl };
      leads = leads_none g.R.Receiver.has g.R.Receiver.stands g.R.Receiver.keeps t c.args.receiver.now (g.E.Entries.contents c.args.entries.now) c.args.bytes.now;
    }

pub returns-then-is_some-clause-ended : goal.returns-then-is_some-clause-ended
returns-then-is_some-clause-ended g c =
    let l = c.messages in
    let k = c.read_message-next in
    let bytes = c.args.bytes.now in
    let contents = g.E.Entries.contents in
    rw (← drop-drop k.result.at l.at bytes) (reads_behind g.R.Receiver.has g.R.Receiver.stands g.R.Receiver.keeps c.args.traversal.now c.args.receiver.now (contents c.args.entries.now) bytes l.traversal l.receiver (contents l.entries) (drop l.at bytes) l.messages
    l.invariant.leads k.new.traversal k.new.receiver (contents k.new.entries) (drop k.result.at (drop l.at bytes)) k.result.messages k.result.halt (rw (take_rest bytes l.at) at k.ensures.ended))

pub returns-then-is_some-clause-leaves : goal.returns-then-is_some-clause-leaves
returns-then-is_some-clause-leaves g c =
    let l = c.messages in
    let k = c.read_message-next in
    leaves_behind g.R.Receiver g.E.Entries c.args.traversal.now l.traversal k.new.traversal k.new.receiver c.args.entries.now l.entries k.new.entries c.args.bytes.now l.at l.messages k.result
    l.invariant.same l.invariant.place l.invariant.some l.invariant.outside k.ensures.least (rw (take_rest c.args.bytes.now l.at) at k.ensures.leaves)

pub messages-preserved : goal.messages-preserved
messages-preserved g c =
    let l = c.messages in
    let k = c.read_message-next in
    let t = c.args.traversal.now in
    let u = k.new.traversal in
    let bytes = c.args.bytes.now in
    let contents = g.E.Entries.contents in
    let none = none_of k.result.halt (sym c.is_some.ensures ∙ c.if-is_some.false) in
    let read = rw (take_rest bytes l.at) at k.ensures.leaves in
    let all = leaves_behind g.R.Receiver g.E.Entries t l.traversal u k.new.receiver c.args.entries.now l.entries k.new.entries bytes l.at l.messages k.result l.invariant.same l.invariant.place l.invariant.some l.invariant.outside k.ensures.least read in
    let ends = rw (none) at read.ends in
    let zero = is_outside u.stage ends.between in
    let size = length-drop (l.at + k.result.at) bytes in
    let place = all.place in
    let other = c.if-at-bytes.false in
    let one = k.ensures.least none in
    let few = l.invariant.few in
    record {
      place = place;
      some = inl (omega (arith, size, place, other));
      few = some_taken l.traversal.stage u.stage (length (drop l.at bytes)) k.result.at l.messages l.at k.result.messages l.invariant.some ends.took one zero few;
      outside = λ t_outside. zero;
      served = still_served g.E.Entries t u c.args.entries.now k.new.entries all.same c.requires.served;
      can = ends.can;
      same = all.same;
      leads = rw (← drop-drop k.result.at l.at bytes) (leads_behind g.R.Receiver.has g.R.Receiver.stands g.R.Receiver.keeps t c.args.receiver.now (contents c.args.entries.now) bytes l.traversal l.receiver (contents l.entries) (drop l.at bytes) l.messages
          l.invariant.leads u k.new.receiver (contents k.new.entries) (drop k.result.at (drop l.at bytes)) k.result.messages (rw (none, take_rest bytes l.at) at k.ensures.ended));
    }
