use Rattle.fast_decoder.proofs.Common.{ap, ◌∙◌, is_ok, err_from_is_err_and, set_entry, set_entry-there, took_of, Part, kept_hold, told_part}
use Rattle.fast_decoder.proofs.taken.put_field.Goals as goal

pub returns-in_err-next-clause-stops : goal.returns-in_err-next-clause-stops
returns-in_err-next-clause-stops g c =
    let p = err_from_is_err_and c.from_residual-in_err-next.result c.from_residual-in_err-next.ensures.1 in
    rw (p.1, p.2)
    λ other.
    let d = g.E.Entries.contents c.args.entries.now in
    let k = c.args.part.now.key in
    let stops = c.in_err-next.ensures other in (
      rw (c.in_ok-entry.ensures.value) at stops.0,
      (c.entry_mut.follows.holds c.put_either.new.entry (ap is_ok c.in_ok-entry.was)).0 ∙ ap (set_entry d k) (stops.1 ∙ c.in_ok-entry.ensures.value) ∙ set_entry-there d k,
      stops.2 ∙ c.in_ok-reserve.ensures.items,
    )

pub returns-clause-put : goal.returns-clause-put
returns-clause-put g c =
    let put = c.in_ok-next.ensures.1 in
    let entries = (c.entry_mut.follows.holds c.put_either.new.entry (ap is_ok c.in_ok-entry.was)).0 in
    (put.0, took_of c.in_ok-entry.ensures.value entries put.1.entry put.1.value, rw (c.in_ok-reserve.ensures.items) at put.2)

pub put_either-requires-clause-entry : goal.put_either-requires-clause-entry
put_either-requires-clause-entry g c = rw (c.in_ok-entry.ensures.value) (kept_hold (g.E.Entries.contents c.args.entries.now) c.requires.kept c.args.part.now.key)

pub put_either-requires-clause-part : goal.put_either-requires-clause-part
put_either-requires-clause-part g c = told_part Part.Whole c.args.part.now.kind c.args.part.now tt c.requires.told
