use Rattle.std.proofs.Common.{sym, subst}
use Rattle.fast_template.specs.TemplateSets.{templates_in}
use Rattle.fast_stream.specs.Modes.{Carries}
use Rattle.fast_machine.specs.Following.{mode_of}
use Rattle.fast_tape.specs.Reading.{Reads}
use Rattle.fast_tape.proofs.reader.TapeReader.packet.Goals as goal

pub returns-in_ok-finish-clause-whole : goal.returns-in_ok-finish-clause-whole
returns-in_ok-finish-clause-whole g c = λ all messages waiting.
    let ok = c.in_ok-finish.ensures.ok in
    let bytes = c.args.bytes.now in
    subst (λ r. Reads r bytes messages waiting → Carries (mode_of r.machine) (templates_in r.machine.traversal.set.now) bytes messages) (sym ok.0) (ok.1 bytes messages waiting)
