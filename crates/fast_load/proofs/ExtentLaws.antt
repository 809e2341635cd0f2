-- Extents are those of flat lists, up to where their counts stop.
use Rattle.fast_load.proofs.Common.{◌≡◌, ◌≤◌, ◌<◌, ◌+◌, ℕ, List, length, max, set, Some, inl, inr, refl, sym, ap, subst, ◌∙◌, arith, slice_get, unwrap_or, option_map_or, cases_lt, slice_get_within, slice_get-get_or, Extent, WrittenInstruction, WrittenInstructions, written_field, written_parts, written_group, written_sequence, written_reference, no_written, then_written, WrittenTemplate, Instructions, no_instructions, then_instruction, joined, size_of, depth_of, Context, context_of, inside, flat_one, flat_list, AreFlatLists, place_or, EachReference, EachReferenceOne, IsBehind, IsBuildOrder, size_with, size_with_one, depth_with, depth_with_one, stopped_size, stopped_depth, size_named, depth_named, IsExtentOf, at_set, at_set_same}
use Rattle.fast_load.proofs.LinkOrder.{named_there}

-- ---- flat lists

size_joined : (a b : Instructions) → size_of (joined a b) ≡ size_of a + size_of b
size_joined no_instructions b = omega arith
size_joined (then_instruction i is) b = let k = size_joined is b in omega (arith, k)

depth_joined : (a b : Instructions) → depth_of (joined a b) ≡ max (depth_of a) (depth_of b)
depth_joined no_instructions b = omega arith
depth_joined (then_instruction i is) b = let k = depth_joined is b in omega (arith, k)

mutual
  size_flat_one : (stands : List ℕ → Instructions) (c : Context) (i : WrittenInstruction) → size_of (flat_one stands c i) ≡ size_with_one (λ n. size_of (stands n)) i
  size_flat_one stands c (written_field name kind presence operation) = refl
  size_flat_one stands c (written_parts name presence exponent mantissa) = refl
  size_flat_one stands c (written_group name presence around members) = let k = size_flat stands (inside c around) members in omega (arith, k)
  size_flat_one stands c (written_sequence name presence around length_name len members) = let k = size_flat stands (inside c around) members in omega (arith, k)
  size_flat_one stands c (written_reference name) = refl

  size_flat : (stands : List ℕ → Instructions) (c : Context) (is : WrittenInstructions) → size_of (flat_list stands c is) ≡ size_with (λ n. size_of (stands n)) is
  size_flat stands c no_written = refl
  size_flat stands c (then_written i is) =
      let k = size_joined (flat_one stands c i) (flat_list stands c is) in
      let l = size_flat_one stands c i in
      let m = size_flat stands c is in
      omega (arith, k, l, m)

mutual
  depth_flat_one : (stands : List ℕ → Instructions) (c : Context) (i : WrittenInstruction) → depth_of (flat_one stands c i) ≡ depth_with_one (λ n. depth_of (stands n)) i
  depth_flat_one stands c (written_field name kind presence operation) = refl
  depth_flat_one stands c (written_parts name presence exponent mantissa) = refl
  depth_flat_one stands c (written_group name presence around members) = let k = depth_flat stands (inside c around) members in omega (arith, k)
  depth_flat_one stands c (written_sequence name presence around length_name len members) = let k = depth_flat stands (inside c around) members in omega (arith, k)
  depth_flat_one stands c (written_reference name) = refl

  depth_flat : (stands : List ℕ → Instructions) (c : Context) (is : WrittenInstructions) → depth_of (flat_list stands c is) ≡ depth_with (λ n. depth_of (stands n)) is
  depth_flat stands c no_written = refl
  depth_flat stands c (then_written i is) =
      let k = depth_joined (flat_one stands c i) (flat_list stands c is) in
      let l = depth_flat_one stands c i in
      let m = depth_flat stands c is in
      omega (arith, k, l, m)

-- ---- counts that stop

-- two names have the same size up to where counts stop
abbrev SameSize : (f g : List ℕ → ℕ) → List ℕ → Type 0
SameSize f g name = stopped_size (f name) ≡ stopped_size (g name)

abbrev SameDepth : (f g : List ℕ → ℕ) → List ℕ → Type 0
SameDepth f g name = stopped_depth (f name) ≡ stopped_depth (g name)

mutual
  size_stops_one : (f g : List ℕ → ℕ) (i : WrittenInstruction) → EachReferenceOne (SameSize f g) i → stopped_size (size_with_one f i) ≡ stopped_size (size_with_one g i)
  size_stops_one f g (written_field name kind presence operation) each = refl
  size_stops_one f g (written_parts name presence exponent mantissa) each = refl
  size_stops_one f g (written_group name presence around members) each = let k = size_stops f g members each in omega (arith, k)
  size_stops_one f g (written_sequence name presence around length_name len members) each = let k = size_stops f g members each in omega (arith, k)
  size_stops_one f g (written_reference name) each = each

  size_stops : (f g : List ℕ → ℕ) (is : WrittenInstructions) → EachReference (SameSize f g) is → stopped_size (size_with f is) ≡ stopped_size (size_with g is)
  size_stops f g no_written each = refl
  size_stops f g (then_written i is) each =
      let k = size_stops_one f g i each.0 in
      let l = size_stops f g is each.1 in
      omega (arith, k, l)

mutual
  depth_stops_one : (f g : List ℕ → ℕ) (i : WrittenInstruction) → EachReferenceOne (SameDepth f g) i → stopped_depth (depth_with_one f i) ≡ stopped_depth (depth_with_one g i)
  depth_stops_one f g (written_field name kind presence operation) each = refl
  depth_stops_one f g (written_parts name presence exponent mantissa) each = refl
  depth_stops_one f g (written_group name presence around members) each = let k = depth_stops f g members each in omega (arith, k)
  depth_stops_one f g (written_sequence name presence around length_name len members) each = let k = depth_stops f g members each in omega (arith, k)
  depth_stops_one f g (written_reference name) each = each

  depth_stops : (f g : List ℕ → ℕ) (is : WrittenInstructions) → EachReference (SameDepth f g) is → stopped_depth (depth_with f is) ≡ stopped_depth (depth_with g is)
  depth_stops f g no_written each = refl
  depth_stops f g (then_written i is) each =
      let k = depth_stops_one f g i each.0 in
      let l = depth_stops f g is each.1 in
      omega (arith, k, l)

mutual
  each_one_so : (P Q : List ℕ → Type 0) → ((name : List ℕ) → P name → Q name) → (i : WrittenInstruction) → EachReferenceOne P i → EachReferenceOne Q i
  each_one_so P Q f (written_field name kind presence operation) each = tt
  each_one_so P Q f (written_parts name presence exponent mantissa) each = tt
  each_one_so P Q f (written_group name presence around members) each = each_so P Q f members each
  each_one_so P Q f (written_sequence name presence around length_name len members) each = each_so P Q f members each
  each_one_so P Q f (written_reference name) each = f name each

  pub each_so : (P Q : List ℕ → Type 0) → ((name : List ℕ) → P name → Q name) → (is : WrittenInstructions) → EachReference P is → EachReference Q is
  each_so P Q f no_written each = tt
  each_so P Q f (then_written i is) each = (each_one_so P Q f i each.0, each_so P Q f is each.1)

-- ---- in the order of references

-- the extents of the first templates in the order are known
abbrev pub KnowsExtents : List WrittenTemplate → List ℕ → ℕ → List Extent → Type 0
KnowsExtents ts order i extents = (stands : List ℕ → Instructions) → AreFlatLists ts stands → (p a : ℕ) (w : WrittenTemplate) (e : Extent) → p < i → slice_get order p ≡ Some a → slice_get ts a ≡ Some w → slice_get extents a ≡ Some e → IsExtentOf (stands w.name) e

pub extent_is : (ts : List WrittenTemplate) (place : List ℕ → ℕ) (order : List ℕ) (i a : ℕ) (w : WrittenTemplate) (extents : List Extent) (e : Extent) → ((name : List ℕ) → place name ≡ place_or ts name) → IsBuildOrder ts order → length extents ≡ length ts → KnowsExtents ts order i extents → slice_get order i ≡ Some a → slice_get ts a ≡ Some w →
    e.size ≡ stopped_size (size_with (size_named place extents) w.members) → e.depth ≡ stopped_depth (depth_with (depth_named place extents) w.members) →
    (stands : List ℕ → Instructions) → AreFlatLists ts stands → IsExtentOf (stands w.name) e
extent_is ts place order i a w extents e placed_at o len known at_i at_a size depth stands flat =
    let fixed : stands w.name ≡ flat_list stands (context_of (a + 1) w) w.members = flat a w at_a in
    let size_so : stopped_size (size_with (size_named place extents) w.members) ≡ stopped_size (size_with (λ n. size_of (stands n)) w.members) = size_stops (size_named place extents) (λ n. size_of (stands n)) w.members (each_so (IsBehind ts order i) (SameSize (size_named place extents) (λ n. size_of (stands n))) (λ name b. (of_name name b).0) w.members (o.behind i a w at_i at_a)) in
    let depth_so : stopped_depth (depth_with (depth_named place extents) w.members) ≡ stopped_depth (depth_with (λ n. depth_of (stands n)) w.members) = depth_stops (depth_named place extents) (λ n. depth_of (stands n)) w.members (each_so (IsBehind ts order i) (SameDepth (depth_named place extents) (λ n. depth_of (stands n))) (λ name b. (of_name name b).1) w.members (o.behind i a w at_i at_a)) in (
      size ∙ size_so ∙ ap stopped_size (sym (ap size_of fixed ∙ size_flat stands (context_of (a + 1) w) w.members)),
      depth ∙ depth_so ∙ ap stopped_depth (sym (ap depth_of fixed ∙ depth_flat stands (context_of (a + 1) w) w.members)),
    )
  where
    of_name : (name : List ℕ) → IsBehind ts order i name → SameSize (size_named place extents) (λ n. size_of (stands n)) name × SameDepth (depth_named place extents) (λ n. depth_of (stands n)) name
    of_name name (b, q, placed, less, at_q) =
        let t = named_there ts name b placed in
        let inside : b < length extents = (let k : b < length ts = slice_get_within ts b t.0 t.1 in omega (arith, k, len)) in
        let at_e = slice_get-get_or extents b (record { size = 0; depth = 0 }) inside in
        let is = known stands flat q b t.0 _ less at_q t.1 at_e in
        let named = ap (slice_get extents) (placed_at name ∙ ap (λ o. unwrap_or o 0) placed) ∙ at_e in
        let size_is : size_named place extents name ≡ stopped_size (size_of (stands name)) = ap (λ o. option_map_or (λ (x : Extent). x.size) o 0) named ∙ is.0 ∙ ap (λ n. stopped_size (size_of (stands n))) t.2 in
        let depth_is : depth_named place extents name ≡ stopped_depth (depth_of (stands name)) = ap (λ o. option_map_or (λ (x : Extent). x.depth) o 0) named ∙ is.1 ∙ ap (λ n. stopped_depth (depth_of (stands n))) t.2 in
        ((omega (arith, size_is)), (omega (arith, depth_is)))

-- one extent more
pub extents_more : (ts : List WrittenTemplate) (order : List ℕ) (i a : ℕ) (w : WrittenTemplate) (extents : List Extent) (e : Extent) → slice_get order i ≡ Some a → slice_get ts a ≡ Some w → KnowsExtents ts order i extents → ((stands : List ℕ → Instructions) → AreFlatLists ts stands → IsExtentOf (stands w.name) e) → KnowsExtents ts order (i + 1) (set extents a e)
extents_more ts order i a w extents e at_i at_a known own stands flat p b v d less at_p at_b at_d = elim (at_set extents a b e d at_d) [
  | inl here ↦
      let same : v ≡ w = cc (sym at_b ∙ ap (slice_get ts) here.0 ∙ at_a) in
      subst (λ x. IsExtentOf (stands v.name) x) (sym here.1) (subst (λ x. IsExtentOf (stands x.name) e) (sym same) (own stands flat))
  | inr old ↦ elim (cases_lt p i) [
    | inl before ↦ known stands flat p b v d before at_p at_b old
    | inr le ↦
        let at : p ≡ i = omega (arith, le, less) in
        let here : b ≡ a = cc (sym at_p ∙ ap (slice_get order) at ∙ at_i) in
        let inside : a < length extents = subst (λ n. n < length extents) here (slice_get_within extents b d old) in
        let now : d ≡ e = cc (sym at_d ∙ ap (slice_get (set extents a e)) here ∙ at_set_same extents a e inside) in
        let same : v ≡ w = cc (sym at_b ∙ ap (slice_get ts) here ∙ at_a) in
        subst (λ x. IsExtentOf (stands v.name) x) (sym now) (subst (λ x. IsExtentOf (stands x.name) e) (sym same) (own stands flat))
  ]
]

-- all of them
pub extents_all : (ts : List WrittenTemplate) (order : List ℕ) (i : ℕ) (extents : List Extent) → IsBuildOrder ts order → length order ≤ i → KnowsExtents ts order i extents → (stands : List ℕ → Instructions) → AreFlatLists ts stands → (a : ℕ) (w : WrittenTemplate) (e : Extent) → slice_get ts a ≡ Some w → slice_get extents a ≡ Some e → IsExtentOf (stands w.name) e
extents_all ts order i extents o le known stands flat a w e at_a at_e =
    let p = o.complete a (slice_get_within ts a w at_a) in
    let inside : p.0 < length order = slice_get_within order p.0 a p.1 in
    known stands flat p.0 a w e (omega (arith, le, inside)) p.1 at_a at_e
