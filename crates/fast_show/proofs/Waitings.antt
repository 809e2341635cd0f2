-- What is ready is a front of what waits.
use Rattle.fast_show.proofs.Common.{◌≡◌, ℕ, List, [], ◌++◌, Option, Some, None, refl, sym, append-nil, Form, Rest, left_of, waiting_of}

pub ready_in_front : (form : Form) (ready : List ℕ) (rest : Option Rest) → (behind : List ℕ) × (waiting_of form ready rest ≡ ready ++ behind)
ready_in_front form ready None = ([], sym (append-nil ready))
ready_in_front form ready (Some rest) = (left_of form rest, refl)
