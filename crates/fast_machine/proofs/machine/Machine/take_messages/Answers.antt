use Rattle.fast_machine.proofs.Common.{◌≡◌, ◌++◌, ◌-◌, ◌∙◌, ℕ, List, length, length-append, length-drop, take, drop, take-append-drop, arith, ap, sym, append_assoc, take-length, exit_is, all_bytes, Mode}
use Rattle.fast_machine.proofs.Calls.{chunk_fed}
use Rattle.fast_machine.proofs.Followings.{waits_behind}
use Rattle.fast_machine.proofs.MessageEnds.{behind_held, drop_behind, ends_here}
use Rattle.fast_machine.proofs.machine.Machine.take_messages.Goals as goal

pub returns-in_err-read_behind-clause-follows : goal.returns-in_err-read_behind-clause-follows
returns-in_err-read_behind-clause-follows g c =
    rw (exit_is c.from_residual.result c.from_residual.ensures.1) (λ none before fed messages follows.
    let f = chunk_fed c.args.self.now c.args.chunk.now none c.requires.room (all_bytes _ (λ k. omega (arith, c.type_inv.chunk k))) before fed messages follows in
    c.in_err-read_behind.ensures.reads.2 before _ messages f.short f.counts f.stands)

pub returns-in-None-clause-follows : goal.returns-in-None-clause-follows
returns-in-None-clause-follows g c = λ none before fed messages follows.
    let f = chunk_fed c.args.self.now c.args.chunk.now none c.requires.room (all_bytes _ (λ k. omega (arith, c.type_inv.chunk k))) before fed messages follows in
    rw take-length ((rw (c.in-None.is) at c.in_ok-read_behind.ensures.reads).1.1 before _ messages f.short f.counts f.stands)

pub returns-in-Some-clause-follows : goal.returns-in-Some-clause-follows
returns-in-Some-clause-follows g c = λ none before fed messages follows.
    let old = c.args.self.now in
    let chunk = c.args.chunk.now in
    let f = chunk_fed old chunk none c.requires.room (all_bytes chunk (λ k. omega (arith, c.type_inv.chunk k))) before fed messages follows in
    let held = old.held.items in
    let o = c.in_ok-read_behind in
    let next = c.in-Some.next in
    let new = c.read_behind.new.self in
    let r = (rw (c.in-Some.is) at o.ensures.reads).0 before (fed ++ chunk) messages f.short f.counts f.stands in
    let place = rw (c.in-Some.is) at o.ensures.place in
    let R = g.R.Receiver in
    let beyond = behind_held old.framing old.left new.left _ old.traversal new.traversal held old.waiting next fed chunk messages r.0 c.set_is_sound.ensures.typed (ap (λ (m : Mode). record m { framing = old.framing }) o.ensures.same.mode) (ap (λ x. x.now) o.ensures.same.set) f.held.1 r.3 r.2 place.took place.within c.requires.some in
    let taken = c.min-taken.result in
    let exact : taken ≡ next - length held = omega (arith, beyond, length-append {A = ℕ}, c.saturating_sub.ensures, c.max.ensures, c.min-taken.ensures, c.len-held.ensures) in
    let rest : drop next (held ++ chunk) ≡ drop taken chunk = drop_behind held chunk next (omega (arith, beyond)) ∙ ap (λ (n : ℕ). drop n chunk) (sym exact) in
    let parts : fed ++ chunk ≡ (fed ++ take taken chunk) ++ drop taken chunk = ap (λ (xs : List ℕ). fed ++ xs) (sym (take-append-drop taken chunk)) ∙ sym (append_assoc fed (take taken chunk) (drop taken chunk)) in
    let ended = messages ++ r.0 in
    let size = ap (λ (xs : List ℕ). length xs) parts ∙ length-append (fed ++ take taken chunk) (drop taken chunk) in
    let fed_is = r.1.fed_is in
    let none : new.traversal.template ≡ 0 = rw (place.between) at (new.ready place.fault) in
    let here = ends_here R.has R.stands R.keeps new.traversal new.receiver (g.E.Entries.contents new.entries) (before ++ r.0) place.between new.framing new.left (drop taken chunk) (fed ++ take taken chunk) ended (rw (← parts, ← rest, ap (λ (m : Mode). m.framing) o.ensures.same.mode) r.3) in (
      r.0,
      record {
        at = rw (place.fault, place.held) (here, waits_behind new.framing new.left _ new.traversal (fed ++ take taken chunk) ended place.between none here);
        counts = record { fed_is = omega (arith, size, length-drop {A = ℕ}, fed_is); count_is = r.1.count_is };
      },
    )
