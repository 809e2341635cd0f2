use Rattle.fast_show.proofs.Common.{ap, subst, ◌∙◌, is_ok, err_from_is_err_and, set_entry, set_entry-there, took_of, Part, Presence, single, field_text, Said, line_now, kept_hold, told_part}
use Rattle.fast_show.proofs.told.tell.Goals as goal

pub returns-in_err-next-clause-stops : goal.returns-in_err-next-clause-stops
returns-in_err-next-clause-stops g c =
    let p = err_from_is_err_and c.from_residual-in_err-next.result c.from_residual-in_err-next.ensures.1 in
    rw (p.1, p.2)
    λ other.
    let d = g.E.Entries.contents c.args.entries.now in
    let k = c.args.part.now.key in
    let stops = c.in_err-next.ensures other in (
      rw (c.in_ok-entry.ensures.value) at stops.0,
      (c.entry_mut.follows.holds c.take_and_tell.new.entry (ap is_ok c.in_ok-entry.was)).0 ∙ ap (set_entry d k) (stops.1 ∙ c.in_ok-entry.ensures.value) ∙ set_entry-there d k,
      stops.2,
    )

pub returns-clause-told : goal.returns-clause-told
returns-clause-told g c =
    let form = g.S.Escape.form in
    let told = c.in_ok-next.ensures.2 in
    let put = (c.entry_mut.follows.holds c.take_and_tell.new.entry (ap is_ok c.in_ok-entry.was)).0 in (
      told.0,
      took_of c.in_ok-entry.ensures.value put told.1.entry told.1.value,
      subst (λ (q : Presence). Said form c.args.name.now (field_text form c.args.part.now.kind q (single told.0)) (line_now form c.args.line.now) (line_now form c.take_and_tell.new.line)) c.requires.presence told.2,
    )

pub take_and_tell-requires-clause-next : goal.take_and_tell-requires-clause-next
take_and_tell-requires-clause-next g c = record {
  place = c.requires.place;
  part = told_part Part.Whole c.args.part.now.kind c.args.part.now tt c.requires.told;
  entry = rw (c.in_ok-entry.ensures.value) (kept_hold (g.E.Entries.contents c.args.entries.now) c.requires.kept c.args.part.now.key);
}
