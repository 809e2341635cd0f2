use Rattle.fast_walk.proofs.Common.{◌≡◌, ◌≢◌, ◌++◌, ℕ, true, part_needs_bit, List, Ok, Option, drop, map, refl, sym, ap, ◌∙◌, arith, Some, option_map, FlatTemplate, list_of, Instructions, templates_in, D9, Memory, Truncated, cause_of_field, message_of, opened, next_of, reads_on, frame_of, field_at, entry_at, node_limit, identifier, Kind, Part, U32, Stage}
use Rattle.fast_field.specs.declared.fault.FieldFault.TheVariants.{Memory as FieldMemory}
use Rattle.fast_walk.proofs.Heads.{identifier_goes, own_bit}
use Rattle.fast_walk.proofs.Steps.{part_goes, part_stops, with_none}
use Rattle.fast_walk.proofs.Messages.{identifier_stops}
use Rattle.fast_walk.proofs.Serving.{found_members, members_served}
use Rattle.fast_walk.proofs.ShortWalks.{want_of_bytes}
use Rattle.fast_walk.proofs.Telling.{asked_for, identifier_told, told_keeps}
use Rattle.fast_walk.proofs.traversal.Traversal.identifier.Goals as goal

abbrev members_found : Option FlatTemplate → Option Instructions
members_found o = option_map (λ (f : FlatTemplate). list_of f.members.items) o

pub returns-in-Err-clause-reads : goal.returns-in-Err-clause-reads
returns-in-Err-clause-reads g c =
    let old = c.args.self.now in
    let d = g.E.Entries.contents c.args.entries.now in
    let stops = c.in-Err.ensures.stops in
    let field = λ (other : c.part_halt.result.cause ≢ Memory) (e : c.in-Err.fault ≡ FieldMemory). other (c.part_halt.ensures.cause ∙ ap cause_of_field e) in
    identifier_stops (record { stage = refl; template = refl; walk = refl; set = refl; level = refl }) c.requires.stage c.requires.place c.requires.can c.begin.ensures.same_keys c.begin.ensures.keeps
    (λ other. rw (
      c.part_halt.ensures.cause,
      c.part_halt.ensures.number,
      old.identifier_is,
      part_stops old.level identifier d old.walk.bits node_limit (drop c.args.at c.args.bytes.now) c.in-Err.fault
          (rw (c.level-level.ensures, c.first_for-bit.ensures, old.identifier_is) at (stops (field other)).0),
    ) refl)
    (λ wanted. let other = field (want_of_bytes c.part_halt.result.cause wanted) in let f = stops other in (f.1, f.2, c.in-Err.ensures.begun_on other))

pub returns-in-None-clause-reads : goal.returns-in-None-clause-reads
returns-in-None-clause-reads g c =
    let old = c.args.self.now in
    let d = g.E.Entries.contents c.args.entries.now in
    let e = g.E.Entries.contents c.begin.new.entries in
    let took = rw (c.level-level.ensures, c.first_for-bit.ensures, old.identifier_is) at c.in-Ok.ensures.goes.0 in
    let none = found_members old.set.now c.in-Ok.id ∙ ap members_found (sym (rw (c.in-None.is) at c.find.ensures.value)) in
    identifier_stops (record { stage = refl; template = refl; walk = refl; set = refl; level = refl }) c.requires.stage c.requires.place c.requires.can c.begin.ensures.same_keys c.begin.ensures.keeps
    (λ other.
    let bytes = drop c.args.at c.args.bytes.now in
    let value = with_none (field_at old.level identifier (entry_at d identifier.key) (own_bit old.walk.bits)) (λ (rest : List ℕ). Ok (Some (U32 c.in-Ok.id), rest)) bytes (drop c.in-Ok.next c.args.bytes.now) took.value in
    rw (c.new.ensures.cause, c.new.ensures.number, part_goes old.level identifier d old.walk.bits node_limit bytes (drop c.in-Ok.next c.args.bytes.now) (Some (U32 c.in-Ok.id)) value, none) refl)
    (λ wanted. let k : D9 ≡ Truncated = sym c.new.ensures.cause ∙ wanted in absurd cc)

pub returns-in-Some-clause-reads : goal.returns-in-Some-clause-reads
returns-in-Some-clause-reads g c =
    let old = c.args.self.now in
    let set = templates_in old.set.now in
    let d = g.E.Entries.contents c.args.entries.now in
    let e = g.E.Entries.contents c.begin.new.entries in
    let id = c.in-Ok.id in
    let members = list_of c.in-Some.template.now.members.items in
    let took = rw (c.level-level.ensures, c.first_for-bit.ensures, old.identifier_is) at c.in-Ok.ensures.goes.0 in
    let named = found_members old.set.now id ∙ ap members_found (sym (rw (c.in-Some.is) at c.find.ensures.value)) in
    let end = c.open_message.ensures in
    record {
      place = c.in-Ok.ensures.place;
      took = λ map. let k : Stage.Identifier ≡ Stage.Map = sym c.requires.stage ∙ map in absurd cc;
      inside = λ map. absurd cc;
      leaves = λ before start read was.
          let s = rw (c.requires.stage) at was in
          let o = opened set before id members d in (
            λ bytes. message_of old.level id (reads_on old.level c.open_message.new.self e o bytes),
            record {
              received = o;
              at = record { next = ap next_of (sym end.next); rest = ap list_of (sym (end.rest ∙ c.deref.ensures.value)); around = ap (map frame_of) (sym end.around) };
              has = c.in-Ok.ensures.goes.1 set before members s.stands;
              keeps = rw (s.start_is) (c.begin.ensures.keeps set before d s.stands);
              set_is = refl;
              before_is = refl;
              template_is = refl;
              named = named;
              reads = λ bytes. refl;
            },
            λ more. s.reads (drop c.args.at c.args.bytes.now ++ more) ∙ rw (end.bits, end.spare, (rw (c.requires.stage) at c.requires.can.ready).1)
                (identifier_goes old.level set d e old.walk.bits (drop c.args.at c.args.bytes.now) (drop c.in-Ok.next c.args.bytes.now) more id members took named),
          );
    }

pub returns-in-Some-clause-can : goal.returns-in-Some-clause-can
returns-in-Some-clause-can g c =
    let old = c.args.self.now in
    let id = c.in-Ok.id in
    let members = list_of c.in-Some.template.now.members.items in
    let named = found_members old.set.now id ∙ ap members_found (sym (rw (c.in-Some.is) at c.find.ensures.value)) in
    let end = c.open_message.ensures in
    record {
      ready = record {
        next = rw (end.next) tt;
        rest = rw (end.rest, c.deref.ensures.value, c.begin.ensures.same_keys) (members_served (g.E.Entries.serves c.args.entries.now) old.set.now id members c.set_is_sound.ensures c.requires.served named);
        around = rw (end.around) tt;
      };
      kept = told_keeps c.level-level.result old.identifier c.first_for-bit.result (g.E.Entries.contents c.args.entries.now) (g.E.Entries.contents c.begin.new.entries) c.args.bytes.now c.args.at c.in-Ok.next
          (λ k. omega (arith, c.type_inv.bytes k)) (asked_for old.identifier true c.first_for-bit.result old.walk.bits (ap part_needs_bit (sym old.identifier_is)) c.first_for-bit.ensures)
          Part.Whole Kind.UInt32 (Some (U32 c.in-Ok.id)) tt (rw (old.identifier_is) identifier_told) c.in-Ok.ensures.goes.0 c.requires.can.kept;
      awaited = rw (end.around, end.bits) (rw (old.identifier_is) at c.in-Ok.ensures.awaits old.walk.bits c.first_for-bit.ensures (rw (c.requires.stage) at c.requires.can.awaited));
    }
