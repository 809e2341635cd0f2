-- Fields that a receiver takes one after the other.
use Rattle.fast_walk.proofs.Common.{◌≡◌, ◌<◌, ◌-◌, ℕ, Bool, List, Option, None, drop, refl, ap, ◌∙◌, Presence, Scalar, FieldPart, Flat, whole_field, then_instruction, list_of, part_needs_bit, Dictionary, Level, bit_for, after_bit, single, at_instruction, CarriesOpen, Fields, Having, Passes, Received, TakesFields, Took, bare_next, next_behind, passed}
use Rattle.std.specs.Borrow.{Bor}
use Rattle.fast_walk.proofs.Passings.{passes_field, passes_on, passes_one}
use Rattle.fast_walk.proofs.Walking.{is_instruction}

module _ {R : Type 0} (has : Having R) (level : Level) (bytes : List ℕ) where
  -- where nothing was taken
  pub takes_none : (r s : R) (d e : Dictionary) (bits : List Bool) (f : Fields) → e ≡ d → CarriesOpen (has r) (has s) → TakesFields has level bytes r d bits f s e bits f
  takes_none r s d e bits f same stays o next first here = rw same (passes_one o o.next o.body next first (stays o d here) (λ more. refl))

  -- one behind the other
  pub takes_on : {d e c : Dictionary} {bits later last : List Bool} (r s t : R) (f g h : Fields) → TakesFields has level bytes r d bits f s e later g → TakesFields has level bytes s e later g t c last h → TakesFields has level bytes r d bits f t c last h
  takes_on r s t f g h one two o next first here =
      let p = one o next first here in
      passes_on p (two p.received p.next_is p.left_is p.has)

  -- a field
  pub takes_one : {d e : Dictionary} {bits later : List Bool} {name : List ℕ} {number : ℕ} {presence : Presence} {p : FieldPart} {v : Option Scalar} (r s : R) (f : Fields) (others : Bor (List Flat)) (next : ℕ)
      → 0 < f.spare → list_of f.rest.now ≡ then_instruction (whole_field name number presence p) (list_of others.now)
      → Took level p (bit_for (part_needs_bit p) bits) d e v (drop f.place bytes) (drop next bytes) → later ≡ after_bit (part_needs_bit p) bits
      → ((o : Received) → o.next ≡ at_instruction → o.body.rest ≡ then_instruction (whole_field name number presence p) (list_of others.now) → has r o d → has s (passed o (list_of others.now) (single v)) e)
      → TakesFields has level bytes r d bits f s e later (record { mantissa = f.mantissa; rest = others; spare = f.spare - 1; place = next })
  takes_one {name = name} {number} {presence} {p} r s f others next some first took map goes o at left here =
      passes_field o name number presence (list_of others.now) at (left ∙ first) some took map (goes o (is_instruction o.next at) (left ∙ first) here)

  -- what is answered: nothing but instructions is next
  pub takes_all : {d e : Dictionary} {bits later : List Bool} {r s : R} (f g : Fields) → g.mantissa ≡ None → TakesFields has level bytes r d bits f s e later g
      → (o : Received) → o.next ≡ at_instruction → o.body.rest ≡ list_of f.rest.now → has r o d
      → Passes level (λ p. has s p e) o (next_behind g.mantissa) (list_of g.rest.now) d bits f.spare (drop f.place bytes) e later g.spare (drop g.place bytes)
  takes_all f g none takes o next first here = rw none (takes o (ap bare_next next) first here)
