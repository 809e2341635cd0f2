use Rattle.fast_order.proofs.Common.{◌≡◌, ◌<◌, List, ℕ, length, Some, sym, ap, ◌∙◌, get_or, slice_get, slice_get_read, State, state_of, Mark}
use Rattle.fast_order.proofs.SearchGroups.{done_at_rest}
use Rattle.fast_order.proofs.SearchTurns.{root_opened, root_done, root_seen}
use Rattle.fast_order.proofs.order.Search.search_from.Goals as goal

-- the mark that was read
read : (marks : List Mark) (n v : ℕ) (m : Mark) → length marks ≡ n → v < n → m ≡ get_or marks v m → slice_get marks v ≡ Some m
read marks n v m same inside is = slice_get_read marks n v m (sym same) inside is

pub walk-requires-clause-stands : goal.walk-requires-clause-stands
walk-requires-clause-stands c =
    let s : State = state_of c.args.self.now in
    root_opened c.args.references.now s (state_of c.enter.new.self) c.args.root c.requires.stands c.requires.at_rest (read s.marks (length c.args.references.now) c.args.root c.index.result.now c.requires.stands.marks_len c.requires.root_within c.index.ensures ∙ ap Some c.in-Unseen.is) c.in_ok-enter.ensures

pub returns-in_ok-walk-clause-done : goal.returns-in_ok-walk-clause-done
returns-in_ok-walk-clause-done c =
    let s : State = state_of c.args.self.now in
    root_done c.args.references.now s (state_of c.enter.new.self) (state_of c.walk.new.self) c.args.root c.requires.root_within (read s.marks (length c.args.references.now) c.args.root c.index.result.now c.requires.stands.marks_len c.requires.root_within c.index.ensures ∙ ap Some c.in-Unseen.is) c.in_ok-enter.ensures c.in_ok-walk.ensures.seen c.in_ok-walk.ensures.stands c.in_ok-walk.ensures.at_rest

pub returns-in_ok-walk-clause-seen : goal.returns-in_ok-walk-clause-seen
returns-in_ok-walk-clause-seen c = root_seen (state_of c.args.self.now) (state_of c.enter.new.self) (state_of c.walk.new.self) c.args.root c.in_ok-enter.ensures c.in_ok-walk.ensures.seen

pub returns-in_default : goal.returns-in_default
returns-in_default c =
    let s : State = state_of c.args.self.now in
    record {
      stands = c.requires.stands;
      at_rest = c.requires.at_rest;
      done = done_at_rest c.args.references.now s c.requires.stands c.requires.at_rest c.args.root c.requires.root_within (λ e. c.in_default.not-Unseen (cc (sym (read s.marks (length c.args.references.now) c.args.root c.index.result.now c.requires.stands.marks_len c.requires.root_within c.index.ensures) ∙ e)));
      seen = λ v e. e;
    }
