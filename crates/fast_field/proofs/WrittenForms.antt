-- What was appended is the best form.
use Rattle.fast_field.proofs.Common.{◌≡◌, Bool, List, ℕ, ◌++◌, Option, FieldPart, Scalar, Entry, IsBest, AppendsBest}
use Rattle.fast_field.proofs.BestValues.{none_shorter}
use Rattle.fast_field.proofs.OneBest.{shortest_are_one}

pub appends_best : (i : FieldPart) (e : Entry) (v : Option Scalar) (bit : Bool) (Spells : List ℕ → Type 0) (old new : List ℕ) → ((b : List ℕ) → Spells b → IsBest i e bit b v) → (b : List ℕ) × (new ≡ old ++ b) × Spells b → AppendsBest i e v bit old new
appends_best i e v bit Spells old new best appended =
    let form = best appended.0 appended.2 in
    record {
      bytes = appended.0;
      appended = appended.1;
      best = form;
      shortest = λ other c f. none_shorter i e bit other appended.0 c v form f;
      same = λ other c cuts f size. shortest_are_one i e bit other appended.0 c v cuts form f size;
    }
