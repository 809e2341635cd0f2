-- Parts that are taken, and fields that are passed one after the other.
use Rattle.fast_walk.proofs.Common.{◌≡◌, ◌<◌, ◌-◌, ℕ, Bool, List, [], ◌∷◌, ◌++◌, Option, Ok, refl, ap, ◌∙◌, Presence, Scalar, FieldPart, Instructions, whole_field, then_instruction, part_needs_bit, Dictionary, entry_at, set_entry, Entry, next, field_at, Level, bit_for, after_bit, single, Body, Next, at_instruction, cursor, top_on, Passes, Received, Took, moved, passed, bare_next}
use Rattle.fast_walk.proofs.Putting.{set_written}
use Rattle.fast_walk.proofs.Steps.{count_goes, part_goes}
use Rattle.fast_walk.proofs.Walking.{field_on, is_instruction, same_on}

-- what was read into the entry that is put under its key
pub took_of : {level : Level} {p : FieldPart} {bit : Bool} {d e : Dictionary} {old new : Entry} {v : Option Scalar} {bytes rest : List ℕ} → old ≡ entry_at d p.key → e ≡ set_entry d p.key new → new ≡ next p old v
    → ((more : List ℕ) → field_at level p old bit (bytes ++ more) ≡ Ok (v, rest ++ more)) → Took level p bit d e v bytes rest
took_of {p = p} {d = d} {v = v} is put after goes = record {
  value = λ more. rw (is) at (goes more);
  entry = put ∙ ap (set_entry d p.key) (after ∙ ap (λ (x : Entry). next p x v) is) ∙ set_written p d v;
}

module _ {level : Level} {Has : Received → Type 0} {d e : Dictionary} {bits later : List Bool} {spare : ℕ} {bytes rest : List ℕ} where
  -- a piece, from what is next and its body to others
  pub passes_one : {fewer : ℕ} {after : Next} {left : Instructions} (o : Received) (next : Next) (body : Body) → bare_next next ≡ after → body.rest ≡ left → Has (moved o next body o.around)
      → ((more : List ℕ) → top_on level o.next o.body (cursor d bits spare (bytes ++ more)) ≡ top_on level next body (cursor e later fewer (rest ++ more)))
      → Passes level Has o after left d bits spare bytes e later fewer rest
  passes_one o next body at left has reads = record {
    received = moved o next body o.around;
    has = has;
    same = record { set = refl; before = refl; template = refl; members = refl; start = refl };
    around = refl;
    next_is = at;
    left_is = left;
    reads = reads;
  }

  -- one behind the other
  pub passes_on : {Had : Received → Type 0} {o : Received} {next after : Next} {left is : Instructions} {c : Dictionary} {last : List Bool} {fewer least : ℕ} {end : List ℕ} (p : Passes level Had o next left d bits spare bytes e later fewer rest)
      → Passes level Has p.received after is e later fewer rest c last least end → Passes level Has o after is d bits spare bytes c last least end
  passes_on p q = record {
    received = q.received;
    has = q.has;
    same = same_on p.same q.same;
    around = q.around ∙ p.around;
    next_is = q.next_is;
    left_is = q.left_is;
    reads = λ more. p.reads more ∙ q.reads more;
  }

  -- a field
  pub passes_field : {p : FieldPart} {v : Option Scalar} (o : Received) (name : List ℕ) (number : ℕ) (presence : Presence) (is : Instructions) → bare_next o.next ≡ at_instruction → o.body.rest ≡ then_instruction (whole_field name number presence p) is
      → 0 < spare → Took level p (bit_for (part_needs_bit p) bits) d e v bytes rest → later ≡ after_bit (part_needs_bit p) bits → Has (passed o is (single v))
      → Passes level Has o at_instruction is d bits spare bytes e later (spare - 1) rest
  passes_field {p} {v} o name number presence is at left some took map has =
      passes_one o at_instruction (record { rest = is; done = o.body.done ++ single v ∷ [] }) refl refl has (λ more. rw (map, took.entry)
      (field_on level [] o.next o.body name number presence p is (cursor d bits spare (bytes ++ more)) (cursor d bits (spare - 1) (bytes ++ more)) _ v (is_instruction o.next at) left
      (count_goes number spare d bits (bytes ++ more) some)
      (part_goes level p d bits (spare - 1) (bytes ++ more) (rest ++ more) v (took.value more))))
