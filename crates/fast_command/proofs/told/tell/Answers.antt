use Rattle.std.proofs.Common.{◌≡◌, ◌++◌, [], List, ℕ, ◌∙◌, ap, refl, subst}
use Rattle.std.specs.Io.KnownBytes.{Appends}
use Rattle.fast_command.specs.Run.{ok_line}
use Rattle.fast_io.proofs.Outputs.{Appends-kept, Appends-nil}
use Rattle.fast_command.proofs.Showings.{says_nothing}
use Rattle.fast_command.proofs.told.tell.Goals as goal

pub returns-in-Err : goal.returns-in-Err
returns-in-Err g c =
    let k = c.in-Err-Stream.ensures.answer in
    record {
      answer = (k.0, k.1, k.2, k.3, says_nothing _ _ _ _ _ _ (Appends-kept _ _ _ [] (Appends-nil _) c.in-Err.ensures.bytes), tt);
      write = c.in-Err.ensures.error;
      flush = tt;
      sound = λ other. c.in-Err-Stream.ensures.sound (λ e. cc);
    }

pub returns-in-Err-Write : goal.returns-in-Err-Write
returns-in-Err-Write g c =
    let k = c.in-Err-Write.ensures.answer in
    record { answer = (k.0, k.1, k.2, k.3, says_nothing _ _ _ _ _ _ (Appends-nil _), tt); write = refl; flush = tt; sound = λ other. absurd (other refl) }

pub returns-clause-answer : goal.returns-clause-answer
returns-clause-answer g c =
    let k = c.in-Ok.ensures.answer in
    let line : c.deref.result.now ≡ ok_line c.in-Ok.summary = c.deref.ensures.value ∙ c.in-Ok-push_ok_line.ensures ∙ ap (λ (l : List ℕ). l ++ ok_line c.in-Ok.summary) c.new-line.ensures.items in (
      k.0,
      k.1,
      k.2,
      k.3,
      (k.4, subst (λ (l : List ℕ). Appends (g.W.ByteOutput.taken c.args.writer.now) (g.W.ByteOutput.taken c.write_all.new.writer) l) line c.in-Ok-write_all.ensures.written),
      k.5,
    )
