-- The lists of templates that pass the checks of operators are typed.
use Rattle.fast_load.proofs.Common.{◌≡◌, ◌≢◌, ◌+◌, ℕ, suc, List, [], ◌∷◌, Option, Some, None, Bool, true, false, refl, sym, ap, subst, ◌∙◌, arith, IsSome, IfSome, IsUtf8, slice_get, option_and_then, Kind, Operator, Part, Mandatory, Key, value_of_text, WrittenInstruction, WrittenInstructions, WrittenPart, written_field, written_parts, written_group, written_sequence, written_reference, no_written, then_written, parts_of, listed, listed_one, Instructions, no_instructions, then_instruction, joined, Context, inside, part_of, flat_one, flat_list, AllByRecursion, WrittenTemplate, operator_allowed, constant_has_value, default_has_value, value_spelled, from_one, IsPartAt, IsInstructionAt, Passes, AreFlatLists, context_of, applies, IsInitial, IsPartOf, HaveTypedParts}
use Rattle.fast_load.proofs.AllOf.{all_of_front, all_of_back}
use Rattle.fast_load.proofs.InitialFits.{value_fits}

-- what the checks of operators ask of a part, and what a text is
pub record PartPasses (p : WrittenPart) : Type 0 where
  pub operator_applies : applies p.operation.operator p.kind ≢ false
  pub constant_has_value : p.operation.operator ≡ Operator.Constant → p.operation.initial ≢ None
  pub default_has_value : p.operation.operator ≡ Operator.Default → p.presence ≡ Mandatory → p.operation.initial ≢ None
  pub value_spelled : (text : List ℕ) → p.operation.initial ≡ Some text → value_of_text p.part p.kind text ≢ None
  pub text_is : IfSome p.operation.initial IsUtf8

-- of an instruction's own parts
abbrev pub PartsPass : List WrittenPart → Type 0
PartsPass [] = Unit {0}
PartsPass (p ∷ ps) = PartPasses p × PartsPass ps

-- of instructions, and of those inside them, where each reference leads to a list that is typed
abbrev mutual
  pub OnePasses : (List ℕ → Instructions) → WrittenInstruction → Type 0
  OnePasses stands (written_field name kind presence operation) = PartsPass (parts_of (written_field name kind presence operation))
  OnePasses stands (written_parts name presence exponent mantissa) = PartsPass (parts_of (written_parts name presence exponent mantissa))
  OnePasses stands (written_group name presence around members) = ListPasses stands members
  OnePasses stands (written_sequence name presence around length_name length members) = PartsPass (parts_of (written_sequence name presence around length_name length members)) × ListPasses stands members
  OnePasses stands (written_reference name) = HaveTypedParts (stands name)

  pub ListPasses : (List ℕ → Instructions) → WrittenInstructions → Type 0
  ListPasses stands no_written = Unit {0}
  ListPasses stands (then_written i is) = OnePasses stands i × ListPasses stands is

-- ---- one part

not_false : (b : Bool) → b ≢ false → b ≡ true
not_false true n = refl
not_false false n = absurd (n refl)

some_if : {A : Type 0} (o : Option A) → o ≢ None → (x : A) × (o ≡ Some x)
some_if None n = absurd (n refl)
some_if (Some x) n = (x, refl)

only_exponent : (p : Part) (k : Kind) → Type 0
only_exponent p k = p ≡ Part.Exponent → k ≡ Kind.Int32

fits_by : (c : Context) (p : WrittenPart) (key : Key) (initial : Option (List ℕ)) → p.operation.initial ≡ initial → (p.part ≡ Part.Exponent → p.kind ≡ Kind.Int32) → PartPasses p
    → IfSome (option_and_then (value_of_text p.part p.kind) initial) (IsInitial (part_of c p.part p.kind p.presence p.operation key))
fits_by c p key None is only pass = tt
fits_by c p key (Some text) is only pass =
    let value = some_if (value_of_text p.part p.kind text) (pass.value_spelled text is) in
    let fits = value_fits p.part p.kind text value.0 (subst (λ o. IfSome o IsUtf8) is pass.text_is) only value.1 in
    subst (λ o. IfSome o (IsInitial (part_of c p.part p.kind p.presence p.operation key))) (sym value.1) (fits.of_kind, fits.in_part, fits.is_scalar)

has_value : (p : WrittenPart) → PartPasses p → p.operation.initial ≢ None → IsSome (option_and_then (value_of_text p.part p.kind) p.operation.initial)
has_value p pass some =
    let text = some_if p.operation.initial some in
    let value = some_if (value_of_text p.part p.kind text.0) (pass.value_spelled text.0 text.1) in
    let is : option_and_then (value_of_text p.part p.kind) p.operation.initial ≡ Some value.0 = ap (option_and_then (value_of_text p.part p.kind)) text.1 ∙ value.1 in
    subst IsSome (sym is) refl

part_typed : (c : Context) (p : WrittenPart) (key : Key) → (p.part ≡ Part.Exponent → p.kind ≡ Kind.Int32) → PartPasses p → IsPartOf p.part p.kind p.presence (part_of c p.part p.kind p.presence p.operation key)
part_typed c p key only pass = record {
  part_is = refl;
  kind_is = refl;
  presence_is = refl;
  typed = record {
    operator_applies = not_false (applies p.operation.operator p.kind) pass.operator_applies;
    initial_fits = fits_by c p key p.operation.initial refl only pass;
    constant_has_value = λ e. has_value p pass (pass.constant_has_value e);
    default_has_value = λ e f. has_value p pass (pass.default_has_value e f);
  };
}

-- ---- lists

pub joined_typed : (is js : Instructions) → HaveTypedParts is → HaveTypedParts js → HaveTypedParts (joined is js)
joined_typed no_instructions js a b = b
joined_typed (then_instruction i is) js a b = (a.0, joined_typed is js a.1 b)

mutual
  one_typed : (stands : List ℕ → Instructions) (c : Context) (i : WrittenInstruction) → OnePasses stands i → HaveTypedParts (flat_one stands c i)
  one_typed stands c (written_field name kind presence operation) pass = (part_typed c _ _ (λ e. absurd cc) pass.0, tt)
  one_typed stands c (written_parts name presence exponent mantissa) pass = ((part_typed c _ _ (λ e. refl) pass.0, part_typed c _ _ (λ e. absurd cc) pass.1.0), tt)
  one_typed stands c (written_group name presence around members) pass = (list_typed stands (inside c around) members pass, tt)
  one_typed stands c (written_sequence name presence around length_name length members) pass = ((part_typed (inside c around) _ _ (λ e. absurd cc) pass.0.0, list_typed stands (inside c around) members pass.1), tt)
  one_typed stands c (written_reference name) pass = pass

  pub list_typed : (stands : List ℕ → Instructions) (c : Context) (is : WrittenInstructions) → ListPasses stands is → HaveTypedParts (flat_list stands c is)
  list_typed stands c no_written pass = tt
  list_typed stands c (then_written i is) pass = joined_typed (flat_one stands c i) (flat_list stands c is) (one_typed stands c i pass.0) (list_typed stands c is pass.1)

-- ---- from the checks that pass

abbrev HasText : WrittenPart → Type 0
HasText p = IfSome p.operation.initial IsUtf8

-- an instruction's initial values are texts
abbrev pub HasTexts : WrittenInstruction → Type 0
HasTexts written = AllByRecursion HasText (parts_of written)

parts_pass : (ps : List WrittenPart) → AllByRecursion HasText ps → ((q : ℕ) (p : WrittenPart) → slice_get ps q ≡ Some p → IfSome p.operation.initial IsUtf8 → PartPasses p) → PartsPass ps
parts_pass [] texts pass = tt
parts_pass (p ∷ ps) texts pass = (pass 0 p refl texts.0, parts_pass ps texts.1 (λ q r at text. pass (suc q) r at text))

part_passes : (templates : List WrittenTemplate) (t i q : ℕ) (p : WrittenPart) → Passes templates 3 → IsPartAt templates t i q p → IfSome p.operation.initial IsUtf8 → PartPasses p
part_passes templates t i q p pass at text = record {
  operator_applies = λ e. pass (operator_allowed t i q) refl (p, at, e);
  constant_has_value = λ is none. pass (constant_has_value t i q) refl (p, at, is, none);
  default_has_value = λ is here none. pass (default_has_value t i q) refl (p, at, is, here, none);
  value_spelled = λ words some none. pass (value_spelled t i q) refl (p, words, at, some, none);
  text_is = text;
}

instruction_passes : (templates : List WrittenTemplate) (t i : ℕ) (written : WrittenInstruction) → Passes templates 3 → IsInstructionAt templates t i written → HasTexts written → PartsPass (parts_of written)
instruction_passes templates t i written pass at texts = parts_pass (parts_of written) texts (λ q p there text. part_passes templates t i q p pass (written, at, there) text)

-- where a reference leads to is typed
abbrev LeadsToTyped : (List ℕ → Instructions) → WrittenInstruction → Type 0
LeadsToTyped stands (written_field name kind presence operation) = Unit {0}
LeadsToTyped stands (written_parts name presence exponent mantissa) = Unit {0}
LeadsToTyped stands (written_group name presence around members) = Unit {0}
LeadsToTyped stands (written_sequence name presence around length_name length members) = Unit {0}
LeadsToTyped stands (written_reference name) = HaveTypedParts (stands name)

abbrev Passing : (List ℕ → Instructions) → WrittenInstruction → Type 0
Passing stands written = PartsPass (parts_of written) × LeadsToTyped stands written

mutual
  passing_one : (stands : List ℕ → Instructions) (i : WrittenInstruction) → AllByRecursion (Passing stands) (listed_one i) → OnePasses stands i
  passing_one stands (written_field name kind presence operation) all = all.0.0
  passing_one stands (written_parts name presence exponent mantissa) all = all.0.0
  passing_one stands (written_group name presence around members) all = passing_list stands members all.1
  passing_one stands (written_sequence name presence around length_name length members) all = (all.0.0, passing_list stands members all.1)
  passing_one stands (written_reference name) all = all.0.1

  passing_list : (stands : List ℕ → Instructions) (is : WrittenInstructions) → AllByRecursion (Passing stands) (listed is) → ListPasses stands is
  passing_list stands no_written all = tt
  passing_list stands (then_written i is) all = (passing_one stands i (all_of_front (Passing stands) (listed_one i) (listed is) all), passing_list stands is (all_of_back (Passing stands) (listed_one i) (listed is) all))

leads_by : (stands : List ℕ → Instructions) (written : WrittenInstruction) → ((name : List ℕ) → written ≡ written_reference name → HaveTypedParts (stands name)) → LeadsToTyped stands written
leads_by stands (written_field name kind presence operation) lead = tt
leads_by stands (written_parts name presence exponent mantissa) lead = tt
leads_by stands (written_group name presence around members) lead = tt
leads_by stands (written_sequence name presence around length_name length members) lead = tt
leads_by stands (written_reference name) lead = lead name refl

one_from : (x : WrittenInstruction) (xs : List WrittenInstruction) → from_one (x ∷ xs) (0 + 1) ≡ Some x
one_from x xs = refl

two_from : (x : WrittenInstruction) (xs : List WrittenInstruction) (i : ℕ) (written : WrittenInstruction) → from_one xs (i + 1) ≡ Some written → from_one (x ∷ xs) (i + 1 + 1) ≡ Some written
two_from x xs i written e =
    let one : i + 1 ≡ suc i = omega arith in
    let two : i + 1 + 1 ≡ suc (suc i) = omega arith in
    ap (from_one (x ∷ xs)) two ∙ sym (ap (from_one xs) one) ∙ e

place_is : (templates : List WrittenTemplate) (t : ℕ) (w : WrittenTemplate) → slice_get templates t ≡ Some w → from_one templates (t + 1) ≡ Some w
place_is templates t w e = let one : t + 1 ≡ suc t = omega arith in ap (from_one templates) one ∙ e

all_passing : (stands : List ℕ → Instructions) (is : List WrittenInstruction) → AllByRecursion HasTexts is
    → ((i : ℕ) (written : WrittenInstruction) → from_one is (i + 1) ≡ Some written → HasTexts written → Passing stands written) → AllByRecursion (Passing stands) is
all_passing stands [] texts pass = tt
all_passing stands (x ∷ xs) texts pass = (pass 0 x (one_from x xs) texts.0, all_passing stands xs texts.1 (λ i written at text. pass (i + 1) written (two_from x xs i written at) text))

-- The list of a template that passes the checks of operators is typed, where those that it refers to are.
pub template_typed : (templates : List WrittenTemplate) (stands : List ℕ → Instructions) (t : ℕ) (w : WrittenTemplate) → AreFlatLists templates stands → Passes templates 3 → slice_get templates t ≡ Some w
    → AllByRecursion HasTexts (listed w.members) → ((i : ℕ) (name : List ℕ) → IsInstructionAt templates (t + 1) i (written_reference name) → HaveTypedParts (stands name))
    → HaveTypedParts (stands w.name)
template_typed templates stands t w are pass at texts lead =
    let all = all_passing stands (listed w.members) texts (λ i written here text. (
      instruction_passes templates (t + 1) (i + 1) written pass (w, place_is templates t w at, here) text,
      leads_by stands written (λ name is. lead (i + 1) name (w, place_is templates t w at, here ∙ ap (λ x. Some x) is)),
    )) in
    subst HaveTypedParts (sym (are t w at)) (list_typed stands (context_of (t + 1) w) w.members (passing_list stands w.members all))
