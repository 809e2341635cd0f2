use Rattle.std.proofs.Math.Seq.{take-add}
use Rattle.std.proofs.Common.{◌≡◌, ◌++◌, ◌+◌, ◌-◌, ◌∙◌, [], ℕ, List, length, length-drop, take, drop, refl, sym, arith, ap, append-nil}
use Rattle.std.proofs.lemmas.List.{take_rest}
use Rattle.fast_machine.proofs.Calls.{all_on, same_on}
use Rattle.fast_tape.proofs.reader.feed_some.Goals as goal

pub messages-init : goal.messages-init
messages-init g c = record {
  place = omega arith;
  fault = c.requires.fault;
  same = record { set = refl; mode = refl; same_keys = refl };
  fed = omega arith;
  follows = λ before fed messages f. ([], rw (append-nil fed, append-nil before, append-nil messages) f);
  begins = λ zero some. some;
}

pub messages-preserved : goal.messages-preserved
messages-preserved g c =
    let l = c.messages in
    let v = l.invariant in
    let chunk = c.args.chunk.now in
    let o = c.in_ok-at in
    let rest = take_rest chunk l.at in
    let fed = v.fed in
    let same : take l.at chunk ++ take o.field-0 (take (length chunk - l.at) (drop l.at chunk)) ≡ take (l.at + o.field-0) chunk = ap (λ (xs : List ℕ). take l.at chunk ++ take o.field-0 xs) rest ∙ sym (take-add l.at o.field-0 chunk) in
    record {
      place = omega (arith, o.ensures.taken.1, v.place, ap (λ (xs : List ℕ). length xs) rest ∙ length-drop l.at chunk);
      fault = o.ensures.open;
      same = same_on v.same o.ensures.same;
      fed = omega (arith, (o.ensures.fed v.fault).0, fed);
      follows = rw (← same) (all_on (take l.at chunk) (take o.field-0 (take (length chunk - l.at) (drop l.at chunk))) v.follows (o.ensures.follows v.fault));
      begins = λ zero some. absurd (omega (arith, zero, o.ensures.taken.0));
    }
