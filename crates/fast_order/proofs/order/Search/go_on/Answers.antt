use Rattle.fast_order.proofs.Common.{◌≡◌, ◌<◌, ◌+◌, List, ℕ, length, Some, arith, ap, ◌∙◌, refl, rules, get_or, slice_get, slice_get_read, State, state_of, entered, visiting, Visit, Mark}
use Rattle.fast_order.proofs.SearchTurns.{turn_done, turn_open, turn_new, node_within, next_of}
use Rattle.fast_order.proofs.order.Search.go_on.Goals as goal

pub reference-requires : goal.reference-requires
reference-requires c = node_within c.args.references.now (state_of c.args.self.now) c.args.visit c.requires.stands

pub index-requires : goal.index-requires
index-requires c =
    let k : c.in-Some.other < length c.args.references.now = c.requires.within c.args.visit.node c.args.visit.next c.in-Some.other c.in-Some.ensures.value in
    let m : length c.args.self.now.marks.items ≡ length c.args.references.now = c.requires.stands.marks_len in
    let n : c.in-Some.other < length c.args.self.now.marks.items = omega (arith, k, m) in
    search rules

pub enter-requires : goal.enter-requires
enter-requires c =
    let k : c.in-Some.other < length c.args.references.now = c.requires.within c.args.visit.node c.args.visit.next c.in-Some.other c.in-Some.ensures.value in
    let m : length c.args.self.now.marks.items ≡ length c.args.references.now = c.requires.stands.marks_len in
    omega (arith, k, m)

-- the mark that was read
read : (marks : List Mark) (v : ℕ) (m n : Mark) → v < length marks → m ≡ get_or marks v m → m ≡ n → slice_get marks v ≡ Some n
read marks v m n inside is same = slice_get_read marks (length marks) v m refl inside is ∙ ap Some same

pub returns-in_ok-enter-in-Unseen : goal.returns-in_ok-enter-in-Unseen
returns-in_ok-enter-in-Unseen c =
    let s : State = state_of c.args.self.now in
    let y : Visit = record { node = c.args.visit.node; place = c.args.visit.place; next = c.args.visit.next + 1 } in
    let k : c.in-Some.other < length c.args.references.now = c.requires.within c.args.visit.node c.args.visit.next c.in-Some.other c.in-Some.ensures.value in
    let m : length c.args.self.now.marks.items ≡ length c.args.references.now = c.requires.stands.marks_len in
    let inside : c.in-Some.other < length c.args.self.now.marks.items = omega (arith, k, m) in
    let is : state_of c.enter.new.self ≡ entered c.in-Some.other (visiting s y) = c.in_ok-enter-in-Unseen.ensures ∙ ap (λ p. entered c.in-Some.other (record { marks = s.marks; opened = s.opened; starts = s.starts; path = p; order = s.order })) c.in_ok-push-in-Some.ensures.items in
    turn_new c.args.references.now s (state_of c.enter.new.self) c.args.visit y c.in-Some.other (next_of c.args.visit y refl refl refl) is c.requires.within c.in-Some.ensures.value (read s.marks c.in-Some.other c.index.result.now Mark.Unseen inside c.index.ensures c.in-Unseen.is) c.requires.stands

pub returns-in-Open : goal.returns-in-Open
returns-in-Open c =
    let s : State = state_of c.args.self.now in
    let y : Visit = record { node = c.args.visit.node; place = c.args.visit.place; next = c.args.visit.next + 1 } in
    let k : c.in-Some.other < length c.args.references.now = c.requires.within c.args.visit.node c.args.visit.next c.in-Some.other c.in-Some.ensures.value in
    let m : length c.args.self.now.marks.items ≡ length c.args.references.now = c.requires.stands.marks_len in
    let inside : c.in-Some.other < length c.args.self.now.marks.items = omega (arith, k, m) in
    turn_open c.args.references.now s (record { marks = s.marks; opened = s.opened; starts = c.drop_above.new.starts.items; path = c.push.new.self.items; order = s.order }) c.args.visit y c.in-Some.other c.in-Open.place (next_of c.args.visit y refl refl refl) refl refl refl c.in_ok-push-in-Some.ensures.items c.drop_above.ensures.rest c.drop_above.ensures.gone c.in-Some.ensures.value (read s.marks c.in-Some.other c.index.result.now (Mark.Open c.in-Open.place) inside c.index.ensures c.in-Open.is) c.requires.stands

pub returns-in-Done : goal.returns-in-Done
returns-in-Done c =
    let s : State = state_of c.args.self.now in
    let y : Visit = record { node = c.args.visit.node; place = c.args.visit.place; next = c.args.visit.next + 1 } in
    let k : c.in-Some.other < length c.args.references.now = c.requires.within c.args.visit.node c.args.visit.next c.in-Some.other c.in-Some.ensures.value in
    let m : length c.args.self.now.marks.items ≡ length c.args.references.now = c.requires.stands.marks_len in
    let inside : c.in-Some.other < length c.args.self.now.marks.items = omega (arith, k, m) in
    turn_done c.args.references.now s (record { marks = s.marks; opened = s.opened; starts = s.starts; path = c.push.new.self.items; order = s.order }) c.args.visit y c.in-Some.other (next_of c.args.visit y refl refl refl) (ap (λ p. record { marks = s.marks; opened = s.opened; starts = s.starts; path = p; order = s.order }) c.in_ok-push-in-Some.ensures.items) c.in-Some.ensures.value (c.in-Done.field-0, read s.marks c.in-Some.other c.index.result.now (Mark.Done c.in-Done.field-0) inside c.index.ensures c.in-Done.is) c.requires.stands
