-- Where references lead downwards there are flat lists, and only one of each template.
use Rattle.fast_load.proofs.Common.{◌≡◌, ◌<◌, ◌+◌, ℕ, zero, suc, List, [], ◌∷◌, Option, Some, None, refl, ap, ap₂, sym, ◌∙◌, arith, option_map_or, nat_eq, if◌then◌else◌, slice_get, pointwise, WrittenInstruction, WrittenInstructions, written_field, written_parts, written_group, written_sequence, written_reference, no_written, then_written, WrittenTemplate, Instructions, no_instructions, then_instruction, group_of, sequence_of, joined, EachReference, EachReferenceOne, Context, context_of, inside, flat_one, flat_list, length_part, AreFlatLists}

-- the place and the template of a name, from a place on
abbrev pub located : List WrittenTemplate → ℕ → List ℕ → Option (ℕ × WrittenTemplate)
located [] place name = None
located (t ∷ ts) place name = if pointwise nat_eq t.name name then Some (place, t) else located ts (place + 1) name

-- the list of a name, references replaced at most n deep
abbrev pub lists_in : List WrittenTemplate → ℕ → List ℕ → Instructions
lists_in ts zero name = no_instructions
lists_in ts (suc n) name = option_map_or (λ p. flat_list (lists_in ts n) (context_of p.0 p.1) p.1.members) (located ts 1 name) no_instructions

-- What stands for the references alone decides a flat list.
mutual
  same_one : (f g : List ℕ → Instructions) (P : List ℕ → Type 0) → ((name : List ℕ) → P name → f name ≡ g name) → (c : Context) (i : WrittenInstruction) → EachReferenceOne P i → flat_one f c i ≡ flat_one g c i
  same_one f g P same c (written_field name kind presence operation) each = refl
  same_one f g P same c (written_parts name presence exponent mantissa) each = refl
  same_one f g P same c (written_group name presence around members) each = ap (λ ms. then_instruction (group_of name 0 presence ms) no_instructions) (same_list f g P same (inside c around) members each)
  same_one f g P same c (written_sequence name presence around length_name length members) each = ap (λ ms. then_instruction (sequence_of name 0 presence (length_part (inside c around) name presence length_name length) ms) no_instructions) (same_list f g P same (inside c around) members each)
  same_one f g P same c (written_reference name) each = same name each

  pub same_list : (f g : List ℕ → Instructions) (P : List ℕ → Type 0) → ((name : List ℕ) → P name → f name ≡ g name) → (c : Context) (is : WrittenInstructions) → EachReference P is → flat_list f c is ≡ flat_list g c is
  same_list f g P same c no_written each = refl
  same_list f g P same c (then_written i is) each = ap₂ joined (same_one f g P same c i each.0) (same_list f g P same c is each.1)

-- References lead from a template to those of a lower rank.
abbrev pub LeadDown : List WrittenTemplate → (List ℕ → ℕ) → Type 0
LeadDown ts rank = (name : List ℕ) (p : ℕ × WrittenTemplate) → located ts 1 name ≡ Some p → EachReference (λ other. rank other < rank name) p.1.members

stable_at : (ts : List WrittenTemplate) (rank : List ℕ → ℕ) (n : ℕ) → ((name : List ℕ) → rank name < n → lists_in ts n name ≡ lists_in ts (suc n) name) → (name : List ℕ) → rank name < suc n → (o : Option (ℕ × WrittenTemplate)) → ((p : ℕ × WrittenTemplate) → o ≡ Some p → EachReference (λ other. rank other < rank name) p.1.members) →
    option_map_or (λ p. flat_list (lists_in ts n) (context_of p.0 p.1) p.1.members) o no_instructions ≡ option_map_or (λ p. flat_list (lists_in ts (suc n)) (context_of p.0 p.1) p.1.members) o no_instructions
stable_at ts rank n before name below None down = refl
stable_at ts rank n before name below (Some p) down = same_list (lists_in ts n) (lists_in ts (suc n)) (λ other. rank other < rank name) (λ other less. before other (omega (arith, less, below))) (context_of p.0 p.1) p.1.members (down p refl)

pub stable : (ts : List WrittenTemplate) (rank : List ℕ → ℕ) → LeadDown ts rank → (n : ℕ) (name : List ℕ) → rank name < n → lists_in ts n name ≡ lists_in ts (suc n) name
stable ts rank down zero name below = absurd (omega (arith, below))
stable ts rank down (suc n) name below = stable_at ts rank n (stable ts rank down n) name below (located ts 1 name) (down name)

-- each template is found by its name
abbrev pub AreFound : List WrittenTemplate → Type 0
AreFound ts = (i : ℕ) (t : WrittenTemplate) → slice_get ts i ≡ Some t → located ts 1 t.name ≡ Some (i + 1, t)

solves_at : (ts : List WrittenTemplate) (rank : List ℕ → ℕ) → LeadDown ts rank → (n i : ℕ) (t : WrittenTemplate) → located ts 1 t.name ≡ Some (i + 1, t) → rank t.name < n → lists_in ts n t.name ≡ flat_list (lists_in ts n) (context_of (i + 1) t) t.members
solves_at ts rank down zero i t found below = absurd (omega (arith, below))
solves_at ts rank down (suc n) i t found below =
    ap (λ o. option_map_or (λ p. flat_list (lists_in ts n) (context_of p.0 p.1) p.1.members) o no_instructions) found
    ∙ same_list (lists_in ts n) (lists_in ts (suc n)) (λ other. rank other < rank t.name) (λ other less. stable ts rank down n other (omega (arith, less, below))) (context_of (i + 1) t) t.members (down t.name (i + 1, t) found)

-- there are flat lists
pub solves : (ts : List WrittenTemplate) (rank : List ℕ → ℕ) (n : ℕ) → AreFound ts → LeadDown ts rank → ((i : ℕ) (t : WrittenTemplate) → slice_get ts i ≡ Some t → rank t.name < n) → AreFlatLists ts (lists_in ts n)
solves ts rank n found down below i t is = solves_at ts rank down n i t (found i t is) (below i t is)

-- a name of a template of a lower rank
abbrev pub IsBelow : List WrittenTemplate → (List ℕ → ℕ) → ℕ → List ℕ → Type 0
IsBelow ts rank n name = (j : ℕ) × (u : WrittenTemplate) × (slice_get ts j ≡ Some u) × (u.name ≡ name) × (rank name < n)

-- and only one of each template
pub one : (ts : List WrittenTemplate) (rank : List ℕ → ℕ) (f g : List ℕ → Instructions) → AreFlatLists ts f → AreFlatLists ts g → ((i : ℕ) (t : WrittenTemplate) → slice_get ts i ≡ Some t → EachReference (IsBelow ts rank (rank t.name)) t.members) → (n i : ℕ) (t : WrittenTemplate) → slice_get ts i ≡ Some t → rank t.name < n → f t.name ≡ g t.name
one ts rank f g are also down zero i t is below = absurd (omega (arith, below))
one ts rank f g are also down (suc n) i t is below =
    are i t is
    ∙ same_list f g (IsBelow ts rank (rank t.name)) (λ name b. ap f (sym b.3) ∙ one ts rank f g are also down n b.0 b.1 b.2 (omega (arith, ap rank b.3, b.4, below)) ∙ ap g b.3) (context_of (i + 1) t) t.members (down i t is)
    ∙ sym (also i t is)
