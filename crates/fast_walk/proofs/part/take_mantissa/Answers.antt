use Rattle.std.proofs.Common.{rules}
use Rattle.std.proofs.lemmas.Int.{to_z-of_z}
use Rattle.std.specs.Int.{w64}
use Rattle.std.specs.Int.RustNames.{FitsSigned}
use Rattle.fast_walk.proofs.Common.{Err, Ok, ap, err_from_is_err_and, is_ok}
use Rattle.fast_walk.proofs.Telling.{kept_hold}
use Rattle.fast_take.specs.Lying.{of_mantissa}
use Rattle.fast_walk.proofs.PartKeys.{under_key}
use Rattle.fast_walk.proofs.part.take_mantissa.Goals as goal

pub take_mantissa_of-requires-clause-entry : goal.take_mantissa_of-requires-clause-entry
take_mantissa_of-requires-clause-entry g c = rw (c.in_ok-entry.ensures.value) (kept_hold (g.E.Entries.contents c.args.entries.now) c.requires.kept c.args.part.now.key)

pub returns-in_err-mantissa-clause-takes : goal.returns-in_err-mantissa-clause-takes
returns-in_err-mantissa-clause-takes g c =
    let d = g.E.Entries.contents c.args.entries.now in
    let p = err_from_is_err_and c.from_residual-in_err-mantissa.result c.from_residual-in_err-mantissa.ensures.1 in
    rw (p.1, p.2)
    (under_key of_mantissa c.args.level c.args.part.now c.args.bit c.args.bytes.now c.args.at c.in_ok-entry.entry.now c.take_mantissa_of.new.entry d (g.E.Entries.contents (c.entry_mut.follows.lender c.take_mantissa_of.new.entry))
    (Err c.in_err-mantissa.field-0.0) c.in_ok-entry.ensures.value (c.entry_mut.follows.holds c.take_mantissa_of.new.entry (ap is_ok c.in_ok-entry.was)).0 c.in_err-mantissa.ensures.taken)

pub returns-clause-takes : goal.returns-clause-takes
returns-clause-takes g c =
    let d = g.E.Entries.contents c.args.entries.now in
    let taken = under_key of_mantissa c.args.level c.args.part.now c.args.bit c.args.bytes.now c.args.at c.in_ok-entry.entry.now c.take_mantissa_of.new.entry d (g.E.Entries.contents (c.entry_mut.follows.lender c.take_mantissa_of.new.entry))
    (Ok c.in_ok-mantissa.field-0) c.in_ok-entry.ensures.value (c.entry_mut.follows.holds c.take_mantissa_of.new.entry (ap is_ok c.in_ok-entry.was)).0 c.in_ok-mantissa.ensures.taken in
    let fits : FitsSigned w64 c.in-Some-default.mantissa = search rules in
    rw (to_z-of_z w64 c.in-Some-default.mantissa fits) (taken.0, rw (c.in-Some-default.is-0) at taken.1)
