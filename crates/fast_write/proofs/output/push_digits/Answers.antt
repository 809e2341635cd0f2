use Rattle.std.proofs.Common.{◌*◌, length-append, length-drop, length-take, refl, ◌∙◌, arith}
use Rattle.fast_io.proofs.Outputs.{Appends-nil}
use Rattle.hex.specs.Hex.{encode_with}
use Rattle.fast_write.proofs.Digits.{digits_front, digits_on}
use Rattle.fast_write.proofs.output.push_digits.Goals as goal

pub loop-at-init : goal.loop-at-init
unfolding encode_with
loop-at-init g c = record { place = omega arith; room = refl; written = Appends-nil _; errors = refl; flushes = refl }

pub loop-at-preserved : goal.loop-at-preserved
loop-at-preserved g c =
    let v = c.loop-at.invariant in
    let pushed = c.in-Ok-push_all.ensures in
    let size = c.encode_to_slice.auto.output ∙ length-take (2 * c.min-count.result) c.loop-at.digits in
    record {
      place = omega arith;
      room = simp (length-append, length-drop) (omega (arith, size, v.room));
      written = digits_on _ _ _ _ _ _ _ v.written pushed.written c.in-Ok.ensures.written;
      errors = pushed.failed ∙ v.errors;
      flushes = pushed.flushes ∙ v.flushes;
    }

pub returns-in-Err-push_all-clause-part : goal.returns-in-Err-push_all-clause-part
returns-in-Err-push_all-clause-part g c =
    let t = c.in-Err-push_all.ensures.part in
    digits_front _ _ _ _ _ _ _ t.0 c.loop-at.invariant.written t.1 c.in-Ok.ensures.written
