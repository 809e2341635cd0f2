-- What a machine keeps of its keys and parts has one proof at most.
use Rattle.std.specs.Prelude.{ℕ, zero, suc, Bool, List, [], ◌∷◌}
use Rattle.std.specs.Coded.{×_prop, Π_prop, →_prop, Unit-prop, le_prop}
use Rattle.fast_machine.specs.Prelude.{Key, Instruction, Instructions, group_of, sequence_of, no_instructions, then_instruction, TemplateList, Stage, Traversal, Walk, Inside, in_group, in_sequence, Waiting, Next, at_element, true-prop, IsTold-prop, short-prop, IsServed, AreServed, IsNextServed, IsInsideServed, AreAllServed, Dictionary, IsAwaitedAt, ServesAll, IsReadyAt}
use Rattle.std.proofs.Props.{props}
use Rattle.fast_machine.specs.Ends.{IsLong}

pub ServesAll-prop : (serves : Key → Bool) (set : TemplateList) → IsProp (ServesAll serves set)
ServesAll-prop serves set = Π_prop (λ k. →_prop (true-prop (serves k)))

mutual
  one-prop : (serves : Key → Bool) (i : Instruction) → IsProp (IsServed serves i)
  one-prop serves (group_of name number presence members) = list-prop serves members
  one-prop serves (sequence_of name number presence length members) = hlevel (props, true-prop, IsTold-prop, list-prop serves members)
  one-prop serves i = hlevel (props, true-prop, IsTold-prop)

  list-prop : (serves : Key → Bool) (is : Instructions) → IsProp (AreServed serves is)
  list-prop serves no_instructions = Unit-prop
  list-prop serves (then_instruction i is) = ×_prop (one-prop serves i) (list-prop serves is)

next-prop : (serves : Key → Bool) (n : Next) → IsProp (IsNextServed serves n)
next-prop serves (at_element s) = list-prop serves s.members
next-prop serves n = hlevel (props, true-prop, IsTold-prop)

around-prop : (serves : Key → Bool) (ws : List Waiting) → IsProp (AreAllServed serves ws)
around-prop serves [] = Unit-prop
around-prop serves (w ∷ ws) = hlevel (list-prop, inside-prop, around-prop serves ws)
  where
    inside-prop : (serves : Key → Bool) (i : Inside) → IsProp (IsInsideServed serves i)
    inside-prop serves in_group = Unit-prop
    inside-prop serves (in_sequence s) = list-prop serves s.members

pub IsReadyAt-prop : (at : Stage) (serves : Key → Bool) (t : Traversal) → IsProp (IsReadyAt at serves t)
IsReadyAt-prop Stage.Body serves t = hlevel (list-prop, next-prop, around-prop)
IsReadyAt-prop at serves t = hlevel props

pub IsAwaitedAt-prop : (awaits : List (List Bool) → List Bool → Bool) (begun : List Bool → Bool) (at : Stage) (w : Walk) → IsProp (IsAwaitedAt awaits begun at w)
IsAwaitedAt-prop awaits begun Stage.Identifier w = true-prop _
IsAwaitedAt-prop awaits begun Stage.Body w = true-prop _
IsAwaitedAt-prop awaits begun at w = hlevel (props, le_prop)

pub IsLong-prop : (end : ℕ) (t : Traversal) (d : Dictionary) (held : List ℕ) (until_stop : Bool) (number : ℕ) → IsProp (IsLong end t d held until_stop number)
IsLong-prop zero t d held until_stop number = Unit-prop
IsLong-prop (suc n) t d held until_stop number = hlevel (props, le_prop, short-prop)
