use Rattle.fast_tape.specs.Tapes.{of_message}
use Rattle.fast_tape.proofs.Building.{has_begun}
use Rattle.fast_tape.proofs.builder.TapeBuilderReceiver.begin.Goals as goal

pub returns-clause-goes : goal.returns-clause-goes
returns-clause-goes g c =
    let id = c.in_ok-id.id in (
      c.in_ok-id.ensures.takes.1,
      λ set ms members has.
          record {
            before = has;
            inside = has_begun set ms id members (g.E.Entries.contents c.args.entries.now) c.clear.ensures.nodes c.clear.ensures.starts (c.in_ok-open.ensures (of_message id) c.long.ensures);
            exponent = tt;
          },
    )
