-- Reading a message piece by piece: a step in front of what is read behind it, and where nothing is read.
use Rattle.fast_walk.proofs.Common.{◌≡◌, ◌≢◌, ◌≤◌, ◌++◌, ℕ, Bool, true, IsTrue, List, [], Result, Ok, Err, length, drop, map, refl, sym, ap, subst, ◌∙◌, inl, inr, arith, slice_range, IsWholeMap, list_of, no_instructions, templates_in, IsLeftClear, some_set, Strict, Dictionary, Ghosts, Truncated, Memory, R8, Content, Items, items_of, Reads, message_at, identifier, CanRead, IsStep, LeftOf, MapRead, MessageRead, MessageStops, ReadsMessage, Reading, at_instruction, cursor, message_of, Holds, Carries, Completes, KeepScalars, ContinuesAt, IsOpen, identifier_on, stop_of, IsWhole, Moves, bare, frame_of, next_of, reads_on, Halt, Stage, Traversal as TraversalNow, Walk as WalkNow}
use Rattle.fast_walk.specs.declared.receiver.Receiver.{Ghosts as Receiving}
use Rattle.fast_walk.specs.Found.{AreFound}
use Rattle.fast_walk.proofs.Heads.{content_fails, content_goes, content_stops}
use Rattle.fast_walk.proofs.ShortWalks.{behind_few, identifier_few_at, map_few_at, walk_few, want_of_bytes}
use Rattle.fast_walk.proofs.Steps.{with_none}
use Rattle.fast_walk.proofs.Walking.{all_read, is_instruction, none_mapped}

-- it is as it was, whatever its set was asked for last
pub record IsSameBut (t u : TraversalNow) : Type 0 where
  pub stage : u.stage ≡ t.stage
  pub template : u.template ≡ t.template
  pub walk : u.walk ≡ t.walk
  pub set : u.set ≡ t.set
  pub level : u.level ≡ t.level

-- a message whose body has ended
record IsReceived {R E : Type 0} (receiver : Receiving R) (entries : Ghosts E) (t : TraversalNow) (r : R) (d : E) (before : List Content) (start : Dictionary) (read : List ℕ → Reading) : Type 0 where
  pub still : IsOpen receiver.has receiver.keeps t r (templates_in t.set.now) (entries.contents d) before start read
  pub next : still.received.next ≡ at_instruction
  pub rest : still.received.body.rest ≡ no_instructions
  pub around : still.received.around ≡ []
  pub reads : (bytes : List ℕ) → read bytes ≡ message_of t.level t.template (Ok (items_of still.received.body.done, cursor (entries.contents d) t.walk.bits t.walk.spare bytes))

module _ {R E : Type 0} (receiver : Receiving R) (entries : Ghosts E) (t : TraversalNow) (r : R) (d : E) where
  open_now : t.stage ≡ Stage.Body → (before : List Content) (start : Dictionary) (read : List ℕ → Reading) → LeftOf receiver entries t r d before start read
      → IsOpen receiver.has receiver.keeps t r (templates_in t.set.now) (entries.contents d) before start read
  open_now at_body before start read was =
      subst (λ (x : Stage). ContinuesAt receiver.has receiver.stands receiver.keeps x t r (templates_in t.set.now) (entries.contents d) before start read) at_body was

  received : t.stage ≡ Stage.Body → IsWhole t.walk → (before : List Content) (start : Dictionary) (read : List ℕ → Reading) → LeftOf receiver entries t r d before start read → IsReceived receiver entries t r d before start read
  received at_body whole before start read was =
      let o = open_now at_body before start read was in
      let next = is_instruction o.received.next (o.at.next ∙ ap next_of whole.0) in
      let around = none_mapped bare o.received.around (o.at.around ∙ ap (map frame_of) whole.1) in
      let rest : o.received.body.rest ≡ no_instructions = o.at.rest ∙ ap list_of whole.2 in
      record {
        still = o;
        next = next;
        rest = rest;
        around = around;
        reads = λ bytes. o.reads bytes ∙ ap (λ (r : Reads Items). message_of t.level t.template r)
            (all_read t.level o.received.around o.received.next o.received.body (cursor (entries.contents d) t.walk.bits t.walk.spare bytes) around next rest);
      }

module _ {R E : Type 0} {receiver : Receiving R} {entries : Ghosts E} {t : TraversalNow} {r : R} {d : E} {bytes : List ℕ} {at : ℕ} where
  -- what is read behind a step is read from before it
  pub read_behind : {m : ℕ} {u : TraversalNow} {s : R} {e : E} (v : TraversalNow) (q : R) (f : E) (result : Result ℕ (ℕ × Halt)) → IsStep receiver entries t r d bytes at m u s e → ReadsMessage receiver entries u s e bytes m result v q f
      → ReadsMessage receiver entries t r d bytes at result v q f
  read_behind v q f (Ok n) step read = record {
    place = (let p = step.place.0 in let q = read.place.0 in omega (arith, p, q), read.place.1);
    took = λ map. let p = step.took map in let q = read.place.0 in omega (arith, p, q);
    finishes = λ before start now was.
        let l = step.leaves before start now was in
        let f = read.finishes before start l.0 l.1 in
        (f.0, λ more. l.2 more ∙ f.1 more, f.2);
    between = read.between;
    template = read.template;
    kept = read.kept;
  }
  read_behind {m = m} v q f (Err x) step read = record {
    place = (let p = step.place.0 in let q = read.place.0 in omega (arith, p, q), read.place.1);
    keeps = λ before start now was. let l = step.leaves before start now was in read.keeps before start l.0 l.1;
    stops = λ other before start now was. let l = step.leaves before start now was in with_none now l.0 (drop at bytes) (drop m bytes) l.2 ∙ read.stops other before start l.0 l.1;
    waits = λ wanted. let w = read.waits wanted in record {
      leaves = λ before start now was.
          let l = step.leaves before start now was in
          let k = w.leaves before start l.0 l.1 in
          (k.0, k.1, λ more. l.2 more ∙ k.2 more);
      between = λ map. absurd (step.inside (w.between map).0);
      begun = λ map other. let p = step.took map in let q = read.place.0 in omega (arith, p, q);
      few = w.few;
      can = w.can;
    };
  }

  -- a message's map is the first step
  pub read_behind_map : {m : ℕ} {u : TraversalNow} {s : R} (v : TraversalNow) (q : R) (f : E) (result : Result ℕ (ℕ × Halt)) → CanRead receiver entries t r d → t.stage ≡ Stage.Map → MapRead t bytes at m u → Carries (receiver.stands r) (receiver.stands s)
      → ReadsMessage receiver entries u s d bytes m result v q f → ReadsMessage receiver entries t r d bytes at result v q f
  read_behind_map {m = m} {u = u} {s = s} v q f result can map read carries behind = read_behind {m = m} {u = u} {s = s} {e = d} v q f result (record {
    place = (let p = read.place.0 in omega (arith, p), read.place.1);
    took = λ other. read.place.0;
    inside = λ other. let k : Stage.Identifier ≡ Stage.Map = sym read.stage ∙ other in absurd cc;
    leaves = λ before start now was.
        let b = rw map at was in
        let later = identifier_on t.level (templates_in t.set.now) (entries.contents d) u.walk.bits in
        (later, rw (read.stage, read.level, read.set) (record { stands = carries (templates_in t.set.now) before (entries.contents d) b.stands; start_is = b.start_is; reads = λ bytes. refl }), λ more. b.reads (drop at bytes ++ more) ∙ read.goes (entries.contents d) more);
  }) behind

  -- a message's map is read, and its receiver is open
  pub map_can : {m : ℕ} {u : TraversalNow} {s : R} → t.stage ≡ Stage.Map → MapRead t bytes at m u → CanRead receiver entries t r d → ((bits : List Bool) → IsWholeMap (slice_range bytes at m) bits → IsTrue (receiver.begun s bits)) → CanRead receiver entries u s d
  map_can {u = u} map read can begun = record { ready = rw (read.stage) (read.template ∙ rw map at can.ready, read.spare); kept = can.kept; awaited = rw (read.stage) (begun u.walk.bits read.map) }

  -- a message's map is not read
  pub map_stops : {u : TraversalNow} {h : Halt} → t.stage ≡ Stage.Map → at ≤ length bytes → CanRead receiver entries t r d
      → u ≡ t → (h.cause ≢ Memory → (d : Dictionary) → message_at t.level (templates_in t.set.now) d (drop at bytes) ≡ Err (stop_of 0 h (drop at bytes)))
      → MessageStops receiver entries t r d bytes at (at, h) u r d
  map_stops {h = h} map place can same stops = rw same (record {
    place = (omega arith, place);
    keeps = λ before start now was. let s = rw map at was in rw (s.start_is) (inr s.stands);
    stops = λ other before start now was. let s = rw map at was in rw (rw map at can.ready) (s.reads (drop at bytes) ∙ stops other (entries.contents d));
    waits = λ wanted. record {
      leaves = λ before start now was. (now, was, λ more. refl);
      between = λ map. (map, refl);
      begun = λ map begun. absurd (begun map);
      few = behind_few bytes at (map_few_at t.level (templates_in t.set.now) (drop at bytes) h (stops (want_of_bytes h.cause wanted)) wanted);
      can = can;
    };
  })

  -- a message's identifier is not read
  pub identifier_stops : {u : TraversalNow} {h : Halt} {s : R} {e : E} → IsSameBut t u → t.stage ≡ Stage.Identifier → at ≤ length bytes → CanRead receiver entries t r d → entries.serves e ≡ entries.serves d
      → Carries (receiver.stands r) (receiver.keeps s)
      → (h.cause ≢ Memory → identifier_on t.level (templates_in t.set.now) (entries.contents d) t.walk.bits (drop at bytes) ≡ Err (stop_of 0 h (drop at bytes)))
      → (h.cause ≡ Truncated → (entries.contents e ≡ entries.contents d) × Carries (receiver.stands r) (receiver.stands s) × ((bits : List Bool) → IsTrue (receiver.begun r bits) → IsTrue (receiver.begun s bits)))
      → MessageStops receiver entries t r d bytes at (at, h) u s e
  identifier_stops {h = h} same at_identifier place can keys keeps stops waits =
      let set = templates_in t.set.now in
      let now_at = rw at_identifier at can.ready in
      let still = same.stage ∙ at_identifier in
      record {
        place = (omega arith, place);
        keeps = λ before start now was. let s = rw at_identifier at was in rw (same.set, s.start_is) (inl (keeps set before (entries.contents d) s.stands));
        stops = λ other before start now was. let s = rw at_identifier at was in rw (same.template, now_at.0) (s.reads (drop at bytes) ∙ stops other);
        waits = λ wanted. let w = waits wanted in record {
          leaves = λ before start now was. let s = rw at_identifier at was in
              (now, rw (still, same.set, same.level, same.walk, w.0) (record { stands = w.1 set before (entries.contents d) s.stands; start_is = s.start_is; reads = s.reads }), λ more. refl);
          between = λ map. (sym same.stage ∙ map, refl);
          begun = λ map begun. absurd (begun (same.stage ∙ map));
          few = behind_few bytes at (identifier_few_at t.level set (entries.contents d) t.walk.bits (drop at bytes) h (stops (want_of_bytes h.cause wanted)) wanted);
          can = record { ready = rw (still, same.template, same.walk) now_at; kept = rw (w.0) can.kept; awaited = rw (still, same.walk) (w.2 t.walk.bits (rw at_identifier at can.awaited)) };
        };
      }

  -- ---- the body

  -- it is read on
  pub walk_step : {m : ℕ} {w : WalkNow} {s : R} {e : E} (is : t.identifier ≡ identifier) (found : AreFound t.set.now t.last.found) → t.stage ≡ Stage.Body → (at ≤ m) × (m ≤ length bytes) → Carries (receiver.keeps r) (receiver.keeps s)
      → Moves t.level receiver.has t.walk r (entries.contents d) w s (entries.contents e) (drop at bytes) (drop m bytes) → IsStep receiver entries t r d bytes at m (record t { walk = w; identifier_is = is; found = found }) s e
  walk_step {w = w} {e = e} is found at_body place carries goes = record {
    place = place;
    took = λ map. let k : Stage.Body ≡ Stage.Map = sym at_body ∙ map in absurd cc;
    inside = λ map. let k : Stage.Body ≡ Stage.Map = sym at_body ∙ map in absurd cc;
    leaves = λ before start now was.
        let o = rw at_body at was in
        let p = goes o.received (o.at, o.has) in (
          λ bytes. message_of t.level t.template (reads_on t.level w (entries.contents e) p.0 bytes),
          rw at_body (record {
            received = p.0;
            at = p.1.0;
            has = p.1.1;
            keeps = carries (templates_in t.set.now) before start o.keeps;
            set_is = p.2.set ∙ o.set_is;
            before_is = p.2.before ∙ o.before_is;
            template_is = p.2.template ∙ o.template_is;
            named = rw (p.2.set, p.2.template, p.2.members) o.named;
            reads = λ bytes. refl;
          }),
          λ more. o.reads (drop at bytes ++ more) ∙ ap (λ (r : Reads Items). message_of t.level t.template r) (p.3 more),
        );
  }

  -- it is read on to a place, and stops there
  pub walk_halts : {w : WalkNow} {s : R} {e : E} {x : ℕ × Halt} (is : t.identifier ≡ identifier) (found : AreFound t.set.now t.last.found) → t.stage ≡ Stage.Body → (at ≤ x.0) × (x.0 ≤ length bytes) → Carries (receiver.keeps r) (receiver.keeps s)
      → ((x.1).cause ≢ Memory → Holds t.level receiver.has receiver.awaits (entries.serves e) t.walk r (entries.contents d) w s (entries.contents e) (drop at bytes) (drop x.0 bytes) x.1)
      → MessageStops receiver entries t r d bytes at x (record t { walk = w; identifier_is = is; found = found }) s e
  walk_halts {w = w} {s = s} {e = e} {x = x} is found at_body place carries holds =
      let rest = drop x.0 bytes in
      let goes = λ (other : (x.1).cause ≢ Memory). (walk_step {w = w} is found at_body place carries (holds other).goes).leaves in
      record {
        place = place;
        keeps = λ before start now was. let o = rw at_body at was in inl (carries (templates_in t.set.now) before start o.keeps);
        stops = λ other before start now was.
            let l = goes other before start now was in
            let o = open_now receiver entries (record t { walk = w; identifier_is = is; found = found }) s e at_body before start l.0 l.1 in
            with_none now l.0 (drop at bytes) rest l.2 ∙ o.reads rest
            ∙ ap (λ (r : Reads Items). message_of t.level t.template r) ((holds other).halts o.received o.at) ∙ content_fails t.level t.template _;
        waits = λ wanted.
            let other = want_of_bytes (x.1).cause wanted in
            let h = holds other in
            record {
              leaves = goes other;
              between = λ map. let k : Stage.Body ≡ Stage.Map = sym at_body ∙ map in absurd cc;
              begun = λ map. let k : Stage.Body ≡ Stage.Map = sym at_body ∙ map in absurd cc;
              few = behind_few bytes x.0 (walk_few t.level w (entries.contents e) rest x.1 h.halts wanted);
              can = record { ready = rw at_body h.on.ready; kept = h.on.kept; awaited = rw at_body h.on.awaited };
            };
      }

  -- a message has ended
  pub message_ends : {u : TraversalNow} {s : R} → t.stage ≡ Stage.Body → IsWhole t.walk → at ≤ length bytes → KeepScalars (entries.contents d) → u.set ≡ t.set
      → IsLeftClear t.level t.walk.bits → Completes (receiver.has r) (receiver.stands s) → (u.stage ≡ Stage.Map) × (u.template ≡ 0) → MessageRead receiver entries t r d bytes at at u s d
  message_ends at_body whole place kept set clear stands between = record {
    place = (omega arith, place);
    took = λ map. let k : Stage.Body ≡ Stage.Map = sym at_body ∙ map in absurd cc;
    finishes = λ before start now was.
        let e : IsReceived receiver entries t r d before start now = received receiver entries t r d at_body whole before start now was in
        let o = e.still in
        let ns = items_of o.received.body.done in (
          record { template = t.template; items = ns },
          λ more. e.reads (drop at bytes ++ more) ∙ content_goes t.level t.template ns (cursor (entries.contents d) t.walk.bits t.walk.spare (drop at bytes ++ more)) clear,
          λ few. rw set (rw (o.set_is, o.before_is, o.template_is) at (stands o.received (entries.contents d) e.next e.rest e.around o.named few o.has)),
        );
    between = between.0;
    template = between.1;
    kept = kept;
  }

  -- a message has ended, and is refused
  pub end_refused : {u : TraversalNow} {s : R} {h : Halt} → t.stage ≡ Stage.Body → IsWhole t.walk → at ≤ length bytes → u.set ≡ t.set → u.template ≡ t.template → Carries (receiver.keeps r) (receiver.keeps s)
      → (h.cause ≢ Memory → (t.level ≡ Strict) × (h.cause ≡ R8) × (h.number ≡ 0) × (some_set t.walk.bits ≡ true)) → MessageStops receiver entries t r d bytes at (at, h) u s d
  end_refused {h = h} at_body whole place set template carries refused = record {
    place = (omega arith, place);
    keeps = λ before start now was. let o = rw at_body at was in rw set (inl (carries (templates_in t.set.now) before start o.keeps));
    stops = λ other before start now was.
        let e : IsReceived receiver entries t r d before start now = received receiver entries t r d at_body whole before start now was in
        let f = refused other in
        rw (template, f.1, f.2) (e.reads (drop at bytes) ∙ content_stops t.level t.template (items_of e.still.received.body.done) (cursor (entries.contents d) t.walk.bits t.walk.spare (drop at bytes)) f.0 f.3);
    waits = λ wanted. let is : h.cause ≡ R8 = (refused (want_of_bytes h.cause wanted)).1 in let both : Truncated ≡ R8 = sym wanted ∙ is in absurd cc;
  }
