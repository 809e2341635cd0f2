-- What a read of messages leaves in plain framing.
use Rattle.fast_machine.proofs.Common.{min, ◌≡◌, ℕ, ◌+◌, drop, List, [], ◌++◌, Option, Some, None, ap, refl, sym, subst, inl, Resolved, templates_in, Dictionary, Ghosts, Halt, Traversal, Reading, Plain, Content, MessageStop, Stand, outside, CarriesFrom, bare, in_mode_from, stop_of, Machine, Progress, LeavesMessage, ReadsRun, Run, RunStops, Behind, Stands, StopsBehind, framed_as}
use Rattle.fast_walk.specs.declared.receiver.Receiver.{Ghosts as Receiving}
use Rattle.fast_machine.proofs.Standings.{go_on, run_from}
use Rattle.fast_machine.proofs.Calls.{Finds, found_of}
use Rattle.fast_machine.proofs.Runs.{carried_of}

module _ {G : Dictionary → (List ℕ → Reading) → Type 0} {t : Traversal} (u : Traversal) {left : ℕ} {bytes fed : List ℕ} {messages : List Content} (more : List Content)
    (b : Stands Plain left G t bytes fed messages) (level : u.level ≡ t.level) (set : u.set.now ≡ t.set.now) where
  abbrev sets : List Resolved
  sets = templates_in u.set.now

  onwards : {Ends : Dictionary → List ℕ → Type 0} {Later : Stand → List ℕ → Type 0} → ((d : Dictionary) (r : List ℕ) → Ends d r → Later (outside d) r) → Run u.level sets b.start.dictionary b.rest more Ends → Behind (framed_as Plain u) sets fed (messages ++ more) Later
  onwards later run = go_on Plain t u b level set (record {
    front = run.front;
    rest = run.rest;
    start = outside run.start;
    parts = run.parts;
    carried = subst (λ (s : Stand). CarriesFrom (framed_as Plain u) sets s run.front more (outside run.start)) (ap (λ (n : ℕ). record b.start { left = n }) (sym b.ends.1)) (in_mode_from u.level sets more b.start.dictionary run.start run.front run.carried);
    ends = later run.start run.rest run.ends;
  })

  pub plain_stops : (stop : MessageStop) → RunStops u.level sets b.start.dictionary b.rest more stop → StopsBehind (framed_as Plain u) sets fed (messages ++ more) stop
  plain_stops stop run = onwards (λ d r e. (inl e.0, e.1, ap bare e.2)) run

-- a machine reads a message in these bytes
module _ {R E : Type 0} {receiver : Receiving R} {entries : Ghosts E} (old : Machine R E receiver entries) {u : Traversal} {s : R} {e : E} {bytes : List ℕ} {p : Progress} (count : ℕ) (leaves : LeavesMessage receiver entries old.traversal u s old.entries e bytes p)
    (reads : ReadsRun receiver.has receiver.stands receiver.keeps old.traversal old.receiver (entries.contents old.entries) bytes p.messages p.halt u s (entries.contents e) (drop p.at bytes))
    (counted : count ≡ min (old.messages + p.messages) 18446744073709551615) where
  set : u.set.now ≡ old.traversal.set.now
  set = ap (λ x. x.now) leaves.same.set

  pub plain_goes : (halt : Option Halt) → p.halt ≡ halt → Finds Plain old bytes p.messages count halt old.left u s (entries.contents e) (drop p.at bytes)
  plain_goes None is = record {
    found = λ before fed messages short counts b.
        let r = (rw (is) at reads) before b.start.dictionary b.rest [] (run_from b.ends.0) in
        let goes = onwards u r.0 b leaves.same.level set (λ d rest x. (x, refl, b.ends.2)) r.2.0 in
        found_of Plain u count r.0 counted short counts r.1 (carried_of goes) goes;
  }
  plain_goes (Some h) is = record {
    found = λ before fed messages short counts b.
        let r = (rw (is) at reads) before b.start.dictionary b.rest [] (run_from b.ends.0) in
        let carried = onwards u r.0 b leaves.same.level set (λ d rest x. tt) r.2.0 in
        found_of Plain u count r.0 counted short counts r.1 carried (
          carried,
          (λ known. plain_stops u r.0 b leaves.same.level set (stop_of u.template h (drop p.at bytes)) (r.2.1 known)),
          (λ wanted. onwards u r.0 b leaves.same.level set (λ d rest x. (x, refl, b.ends.2)) (r.2.2 wanted)),
          (λ other. onwards u r.0 b leaves.same.level set (λ d rest x. x) (r.2.3 other)),
        );
  }
