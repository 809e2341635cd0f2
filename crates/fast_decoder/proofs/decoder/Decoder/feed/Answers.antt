use Rattle.fast_decoder.proofs.Common.{[], ◌++◌, map, sym, ◌∙◌, ap, append-nil, content_of, none_mapped}
use Rattle.fast_decoder.proofs.Builders.{follows_rebased, whole_of_follows}
use Rattle.fast_decoder.proofs.decoder.Decoder.feed.Goals as goal

pub returns-clause-follows : goal.returns-clause-follows
returns-clause-follows g c = λ none fed messages follows.
    let before = map content_of c.args.out.now.items in
    let empty = none_mapped content_of c.args.self.now.machine.receiver.whole.items (sym (whole_of_follows _ _ _ _ _ _ _ _ _ _ _ follows.at)) in
    let lent = follows_rebased _ _ _ _ _ c.lend.new.self.whole _ _ _ _ _ _ _ (c.lend.ensures.whole empty) follows.at in
    let after = c.feed_on-fed.ensures.follows none before fed messages (record { at = rw (c.lend.ensures.builder) lent; counts = follows.counts }) in
    let whole = whole_of_follows _ _ _ _ _ _ _ _ (before ++ after.0) _ _ after.1.at in
    let given = c.give_back.ensures in
    let room = c.lend.ensures.messages empty in (
      after.0,
      ap (map content_of) (given.messages room) ∙ sym whole,
      record {
        at = rw (given.builder) (follows_rebased _ _ _ _ _ c.give_back.new.self.whole _ _ _ _ _ _ _ (given.whole room) after.1.at);
        counts = after.1.counts;
      },
    )

pub returns-then-lacks_more-clause-follows : goal.returns-then-lacks_more-clause-follows
returns-then-lacks_more-clause-follows g c = λ none fed messages follows. ([], sym (append-nil (map content_of c.args.out.now.items)), rw (append-nil messages) (c.hold_on.ensures.follows [] fed messages follows))

pub returns-in-Some-first_lacking-clause-follows : goal.returns-in-Some-first_lacking-clause-follows
returns-in-Some-first_lacking-clause-follows g c = λ none fed messages follows. ([], sym (append-nil (map content_of c.args.out.now.items)), rw (append-nil messages) (c.feed_lacking.ensures.follows [] fed messages follows))
