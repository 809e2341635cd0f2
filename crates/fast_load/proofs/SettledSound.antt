-- What settling leaves as it was: parts stay typed, and lists as deep and as long; and instructions are in order then.
use Rattle.fast_load.proofs.Common.{◌≡◌, ◌+◌, ℕ, max, refl, ap, ◌∙◌, Key, Kind, Part, Presence, FieldPart, Instruction, Instructions, whole_field, field_in_parts, group_of, sequence_of, no_instructions, then_instruction, size_of, size_of_one, depth_of, depth_of_one, numbered, numbered_one, with_key, with_keys, with_keys_of_one, IsPartOf, HasTypedParts, HaveTypedParts, IsNumbered}
use Rattle.fast_load.proofs.Settling.{size_with_keys}

-- a part's own number and key are no part of what makes it typed
renumbered : (part : Part) (kind : Kind) (presence : Presence) (n : ℕ) (p : FieldPart) → IsPartOf part kind presence p → IsPartOf part kind presence (record p { number = n })
renumbered part kind presence n p is = record {
  part_is = is.part_is;
  kind_is = is.kind_is;
  presence_is = is.presence_is;
  typed = record { operator_applies = is.typed.operator_applies; initial_fits = is.typed.initial_fits; constant_has_value = is.typed.constant_has_value; default_has_value = is.typed.default_has_value };
}

rekeyed : (part : Part) (kind : Kind) (presence : Presence) (f : Key → Key) (p : FieldPart) → IsPartOf part kind presence p → IsPartOf part kind presence (with_key f p)
rekeyed part kind presence f p is = record {
  part_is = is.part_is;
  kind_is = is.kind_is;
  presence_is = is.presence_is;
  typed = record { operator_applies = is.typed.operator_applies; initial_fits = is.typed.initial_fits; constant_has_value = is.typed.constant_has_value; default_has_value = is.typed.default_has_value };
}

mutual
  typed_with_keys : (f : Key → Key) (is : Instructions) → HaveTypedParts is → HaveTypedParts (with_keys f is)
  typed_with_keys f no_instructions t = t
  typed_with_keys f (then_instruction i is) t = (typed_with_keys_of_one f i t.0, typed_with_keys f is t.1)

  typed_with_keys_of_one : (f : Key → Key) (i : Instruction) → HasTypedParts i → HasTypedParts (with_keys_of_one f i)
  typed_with_keys_of_one f (whole_field name number presence whole) t = rekeyed _ _ _ f whole t
  typed_with_keys_of_one f (field_in_parts name number presence exponent mantissa) t = (rekeyed _ _ _ f exponent t.0, rekeyed _ _ _ f mantissa t.1)
  typed_with_keys_of_one f (group_of name number presence members) t = typed_with_keys f members t
  typed_with_keys_of_one f (sequence_of name number presence length members) t = (rekeyed _ _ _ f length t.0, typed_with_keys f members t.1)

mutual
  typed_numbered : (n : ℕ) (is : Instructions) → HaveTypedParts is → HaveTypedParts (numbered n is)
  typed_numbered n no_instructions t = t
  typed_numbered n (then_instruction i is) t = (typed_numbered_one n i t.0, typed_numbered (n + size_of_one i) is t.1)

  typed_numbered_one : (n : ℕ) (i : Instruction) → HasTypedParts i → HasTypedParts (numbered_one n i)
  typed_numbered_one n (whole_field name number presence whole) t = renumbered _ _ _ n whole t
  typed_numbered_one n (field_in_parts name number presence exponent mantissa) t = (renumbered _ _ _ n exponent t.0, renumbered _ _ _ n mantissa t.1)
  typed_numbered_one n (group_of name number presence members) t = typed_numbered (n + 1) members t
  typed_numbered_one n (sequence_of name number presence length members) t = (renumbered _ _ _ n length t.0, typed_numbered (n + 1) members t.1)

pub typed_settled : (f : Key → Key) (is : Instructions) → HaveTypedParts is → HaveTypedParts (numbered 1 (with_keys f is))
typed_settled f is t = typed_numbered 1 (with_keys f is) (typed_with_keys f is t)

-- ---- length and depth

mutual
  size_numbered : (n : ℕ) (is : Instructions) → size_of (numbered n is) ≡ size_of is
  size_numbered n no_instructions = refl
  size_numbered n (then_instruction i is) = λ k. size_numbered_one n i k + size_numbered (n + size_of_one i) is k

  size_numbered_one : (n : ℕ) (i : Instruction) → size_of_one (numbered_one n i) ≡ size_of_one i
  size_numbered_one n (whole_field name number presence whole) = refl
  size_numbered_one n (field_in_parts name number presence exponent mantissa) = refl
  size_numbered_one n (group_of name number presence members) = ap (λ m. 1 + m) (size_numbered (n + 1) members)
  size_numbered_one n (sequence_of name number presence length members) = ap (λ m. 1 + m) (size_numbered (n + 1) members)

pub size_settled : (f : Key → Key) (is : Instructions) → size_of (numbered 1 (with_keys f is)) ≡ size_of is
size_settled f is = size_numbered 1 (with_keys f is) ∙ size_with_keys f is

mutual
  depth_numbered : (n : ℕ) (is : Instructions) → depth_of (numbered n is) ≡ depth_of is
  depth_numbered n no_instructions = refl
  depth_numbered n (then_instruction i is) = λ k. max (depth_numbered_one n i k) (depth_numbered (n + size_of_one i) is k)

  depth_numbered_one : (n : ℕ) (i : Instruction) → depth_of_one (numbered_one n i) ≡ depth_of_one i
  depth_numbered_one n (whole_field name number presence whole) = refl
  depth_numbered_one n (field_in_parts name number presence exponent mantissa) = refl
  depth_numbered_one n (group_of name number presence members) = ap (λ m. 1 + m) (depth_numbered (n + 1) members)
  depth_numbered_one n (sequence_of name number presence length members) = ap (λ m. 1 + m) (depth_numbered (n + 1) members)

mutual
  depth_rekeyed : (f : Key → Key) (is : Instructions) → depth_of (with_keys f is) ≡ depth_of is
  depth_rekeyed f no_instructions = refl
  depth_rekeyed f (then_instruction i is) = λ k. max (depth_rekeyed_one f i k) (depth_rekeyed f is k)

  depth_rekeyed_one : (f : Key → Key) (i : Instruction) → depth_of_one (with_keys_of_one f i) ≡ depth_of_one i
  depth_rekeyed_one f (whole_field name number presence whole) = refl
  depth_rekeyed_one f (field_in_parts name number presence exponent mantissa) = refl
  depth_rekeyed_one f (group_of name number presence members) = ap (λ m. 1 + m) (depth_rekeyed f members)
  depth_rekeyed_one f (sequence_of name number presence length members) = ap (λ m. 1 + m) (depth_rekeyed f members)

pub depth_settled : (f : Key → Key) (is : Instructions) → depth_of (numbered 1 (with_keys f is)) ≡ depth_of is
depth_settled f is = depth_numbered 1 (with_keys f is) ∙ depth_rekeyed f is

-- ---- order

mutual
  numbered_twice : (n : ℕ) (is : Instructions) → numbered n (numbered n is) ≡ numbered n is
  numbered_twice n no_instructions = refl
  numbered_twice n (then_instruction i is) =
      (λ k. then_instruction (numbered_one_twice n i k) (numbered (n + size_numbered_one n i k) (numbered (n + size_of_one i) is)))
      ∙ ap (then_instruction (numbered_one n i)) (numbered_twice (n + size_of_one i) is)

  numbered_one_twice : (n : ℕ) (i : Instruction) → numbered_one n (numbered_one n i) ≡ numbered_one n i
  numbered_one_twice n (whole_field name number presence whole) = refl
  numbered_one_twice n (field_in_parts name number presence exponent mantissa) = refl
  numbered_one_twice n (group_of name number presence members) = ap (group_of name n presence) (numbered_twice (n + 1) members)
  numbered_one_twice n (sequence_of name number presence length members) = ap (sequence_of name n presence (record length { number = n })) (numbered_twice (n + 1) members)

pub in_order_settled : (f : Key → Key) (is : Instructions) → IsNumbered (numbered 1 (with_keys f is))
in_order_settled f is = numbered_twice 1 (with_keys f is)
