-- How fields are taken one after the other from the front of the body that is open.
use Rattle.std.specs.Prelude.{◌≡◌, ℕ, ◌++◌, pos, Bool, List, drop, Option, Some, None}
use Rattle.std.specs.Borrow.{Bor}
use Rattle.fast_walk.specs.Prelude.{FieldPart, Instructions, list_of, Dictionary, Level}
use Rattle.fast_walk.specs.OpenSegments.{Next, at_instruction, at_mantissa, cursor, top_on}
use Rattle.fast_walk.specs.Received.{Having, Received, Same}
use Rattle.fast_walk.specs.declared.receiver.Fields.{Fields}
use Rattle.fast_walk.specs.Walks.{bare_next}

-- the piece that is next: the mantissa of the last field, or an instruction
abbrev pub next_behind : Option (Bor FieldPart) → Next
next_behind None = at_instruction
next_behind (Some mantissa) = at_mantissa (pos 0) mantissa.now

-- Fields were passed: something is received now, with the same bodies around, from which reading goes on.
pub record Passes (level : Level) (Has : Received → Type 0) (o : Received) (next : Next) (left : Instructions)
    (d : Dictionary) (bits : List Bool) (spare : ℕ) (bytes : List ℕ) (e : Dictionary) (later : List Bool) (fewer : ℕ) (rest : List ℕ) : Type 0 where
  pub received : Received
  pub has : Has received
  pub same : Same o received
  pub around : received.around ≡ o.around
  pub next_is : bare_next received.next ≡ next
  pub left_is : received.body.rest ≡ left
  pub reads : (more : List ℕ) → top_on level o.next o.body (cursor d bits spare (bytes ++ more)) ≡ top_on level received.next received.body (cursor e later fewer (rest ++ more))

-- From one receiver, dictionary, map and place to others: whatever it has of the message, fields were passed, with no
-- mantissa behind them.
abbrev pub TakesFields : {R : Type 0} → Having R → Level → List ℕ → R → Dictionary → List Bool → Fields → R → Dictionary → List Bool → Fields → Type 0
TakesFields has level bytes r d bits f s e later g =
    (o : Received) → bare_next o.next ≡ at_instruction → o.body.rest ≡ list_of f.rest.now → has r o d
    → Passes level (λ p. has s p e) o at_instruction (list_of g.rest.now) d bits f.spare (drop f.place bytes) e later g.spare (drop g.place bytes)
