use Rattle.std.proofs.Common.{ap, ◌∙◌}
use Rattle.std.specs.Result.{is_ok}
use Rattle.std.proofs.lemmas.Result.{err_from_is_err_and}
use Rattle.fast_dictionary.specs.Dictionary.{set_entry, set_entry-there}
use Rattle.fast_walk.proofs.Passings.{took_of}
use Rattle.fast_value.specs.declared.kind.Part.{Part}
use Rattle.fast_walk.proofs.Telling.{kept_hold, told_part}
use Rattle.fast_tape.proofs.told.tell.Goals as goal

pub returns-in_err-next-clause-stops : goal.returns-in_err-next-clause-stops
returns-in_err-next-clause-stops g c =
    let p = err_from_is_err_and c.from_residual-in_err-next.result c.from_residual-in_err-next.ensures.1 in
    rw (p.1, p.2)
    λ other.
    let d = g.E.Entries.contents c.args.entries.now in
    let k = c.args.part.now.key in
    let stops = c.in_err-next.ensures other in (
      rw (c.in_ok-entry.ensures.value) at stops.0,
      (c.entry_mut.follows.holds c.take_and_tell.new.entry (ap is_ok c.in_ok-entry.was)).0 ∙ ap (set_entry d k) (stops.1 ∙ c.in_ok-entry.ensures.value) ∙ set_entry-there d k,
      stops.2,
    )

pub returns-clause-told : goal.returns-clause-told
returns-clause-told g c =
    let told = c.in_ok-next.ensures.2 in
    let put = (c.entry_mut.follows.holds c.take_and_tell.new.entry (ap is_ok c.in_ok-entry.was)).0 in (
      told.0,
      took_of c.in_ok-entry.ensures.value put told.1.entry told.1.value,
      told.2,
    )

pub take_and_tell-requires-clause-kept : goal.take_and_tell-requires-clause-kept
take_and_tell-requires-clause-kept g c = rw (c.in_ok-entry.ensures.value) (kept_hold (g.E.Entries.contents c.args.entries.now) c.requires.kept c.args.part.now.key)

pub take_and_tell-requires-clause-part : goal.take_and_tell-requires-clause-part
take_and_tell-requires-clause-part g c = told_part Part.Whole c.args.part.now.kind c.args.part.now tt c.requires.told
