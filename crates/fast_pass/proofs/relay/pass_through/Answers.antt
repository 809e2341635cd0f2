use Rattle.fast_pass.proofs.Common.{[], ◌∷◌, handed_on, outset, refl, arith, inr, templates_in, at_start, none_read, Appends-nil}
use Rattle.std.specs.FinMap as finite
use Rattle.fast_pass.proofs.Relayings.{goes_on}
use Rattle.fast_pass.proofs.relay.pass_through.Goals as goal

pub returns-in-Err-clause-answer : goal.returns-in-Err-clause-answer
returns-in-Err-clause-answer g c =
    let nothing = g.met.O.Output.made c.args.output (templates_in c.args.set.now) [] [] finite.empty (inr c.requires.begins) in (
      0,
      [],
      none_read _,
      omega arith,
      record {
        messages = [];
        front = [];
        rest = [];
        carried = record { front = []; rest = []; start = at_start; parts = refl; carried = (refl, refl); ends = tt };
        made = rw (c.requires.empty) at nothing;
        written = Appends-nil _;
      },
      tt,
    )

pub pass_by-requires-clause-relays : goal.pass_by-requires-clause-relays
pass_by-requires-clause-relays g c =
    let new = c.new-machine.ensures in
    goes_on g.met.O.Output.made c.new-machine.result c.args.turns (g.R.ByteInput.left c.args.reader.now) outset new.fault (new.follows (handed_on [] ∷ []) c.requires.begins)
