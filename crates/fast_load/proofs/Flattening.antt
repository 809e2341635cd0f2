-- Flat lists, in the order of references.
use Rattle.fast_load.proofs.Common.{◌≡◌, ◌≢◌, ◌≤◌, ◌<◌, ◌+◌, ℕ, List, length, get_or, map, set, option_map, Option, Some, None, ◌⊎◌, inl, inr, refl, sym, ap, subst, ◌∙◌, arith, slice_get, slice_index_or, unwrap_or, option_map_or, cases_lt, slice_get_within, slice_get-get_or, slice_get-map, length-map, map-set, set-get_or, get_or-map, FlatTemplate, Template, WrittenTemplate, written_template_of, Instructions, no_instructions, list_of, context_of, flat_list, AreFlatLists, IsBehind, IsBuildOrder, list_at, list_named, place_among, heading, heading_of, AreFlattened, at_set, at_set_same, at_set_other, place_or}
use Rattle.fast_load.proofs.LinkOrder.{named_there}
use Rattle.fast_load.proofs.Solutions.{same_list}

-- the lists of the first templates in the order are put together
abbrev pub KnowsLists : List WrittenTemplate → List ℕ → ℕ → List FlatTemplate → Type 0
KnowsLists ts order i flats = (stands : List ℕ → Instructions) → AreFlatLists ts stands → (p a : ℕ) (w : WrittenTemplate) → p < i → slice_get order p ≡ Some a → slice_get ts a ≡ Some w → list_at flats a ≡ stands w.name

pub list_is : (ts : List WrittenTemplate) (order : List ℕ) (i a : ℕ) (w : WrittenTemplate) (flats : List FlatTemplate) (list : Instructions) → ((name : List ℕ) → place_among flats name ≡ place_or ts name) → IsBuildOrder ts order → KnowsLists ts order i flats → slice_get order i ≡ Some a → slice_get ts a ≡ Some w →
    list ≡ flat_list (list_named flats) (context_of (a + 1) w) w.members → (stands : List ℕ → Instructions) → AreFlatLists ts stands → list ≡ stands w.name
list_is ts order i a w flats list placed_at o known at_i at_a made stands flat =
    made
    ∙ same_list (list_named flats) stands (IsBehind ts order i) of_name (context_of (a + 1) w) w.members (o.behind i a w at_i at_a)
    ∙ sym (flat a w at_a)
  where
    of_name : (name : List ℕ) → IsBehind ts order i name → list_named flats name ≡ stands name
    of_name name (b, q, placed, less, at_q) =
        let t = named_there ts name b placed in
        ap (list_at flats) (placed_at name ∙ ap (λ o. unwrap_or o 0) placed) ∙ known stands flat q b t.0 less at_q t.1 ∙ ap stands t.2

-- one list more
pub lists_more : (ts : List WrittenTemplate) (order : List ℕ) (i a : ℕ) (w : WrittenTemplate) (flats : List FlatTemplate) (t : FlatTemplate) → a < length flats → slice_get order i ≡ Some a → slice_get ts a ≡ Some w → KnowsLists ts order i flats → ((stands : List ℕ → Instructions) → AreFlatLists ts stands → list_of t.members.items ≡ stands w.name) → KnowsLists ts order (i + 1) (set flats a t)
lists_more ts order i a w flats t inside at_i at_a known own stands flat p b v less at_p at_b = by (Rattle.std.proofs.lemmas.Bool.cases_eq b a) where
  now : slice_get (set flats a t) a ≡ Some t
  now = at_set_same flats a t inside

  at_other : b ≢ a → slice_get (set flats a t) b ≡ slice_get flats b
  at_other apart = other (slice_get flats b) refl (slice_get (set flats a t) b) refl where
    other : (o : Option FlatTemplate) → slice_get flats b ≡ o → (n : Option FlatTemplate) → slice_get (set flats a t) b ≡ n → slice_get (set flats a t) b ≡ slice_get flats b
    other (Some x) is n is_n = at_set_other flats a b t x apart is ∙ sym is
    other None is None is_n = is_n ∙ sym is
    other None is (Some y) is_n = elim (at_set flats a b t y is_n) [ inl here ↦ absurd (apart here.0) | inr old ↦ absurd (cc (sym is ∙ old)) ]

  by : (b ≡ a) ⊎ (b ≢ a) → list_at (set flats a t) b ≡ stands v.name
  by (inl here) =
      let same : v ≡ w = cc (sym at_b ∙ ap (slice_get ts) here ∙ at_a) in
      ap (λ o. option_map_or (λ (x : FlatTemplate). list_of x.members.items) o no_instructions) (ap (slice_get (set flats a t)) here ∙ now) ∙ own stands flat ∙ ap (λ x. stands x.name) (sym same)
  by (inr apart) = ap (λ o. option_map_or (λ (x : FlatTemplate). list_of x.members.items) o no_instructions) (at_other apart) ∙ known stands flat p b v before at_p at_b where
    before : p < i
    before = elim (cases_lt p i) [
      | inl less_p ↦ less_p
      | inr le ↦ let at : p ≡ i = omega (arith, le, less) in absurd (apart (cc (sym at_p ∙ ap (slice_get order) at ∙ at_i)))
    ]

pub flattened : (templates : List Template) (order : List ℕ) (i : ℕ) (flats : List FlatTemplate) → IsBuildOrder (map written_template_of templates) order → length order ≤ i → map heading_of flats ≡ map (λ t. heading (written_template_of t)) templates → KnowsLists (map written_template_of templates) order i flats → AreFlattened (map written_template_of templates) flats
flattened templates order i flats o le heads known = record {
  len = sym (length-map flats heading_of) ∙ ap length heads ∙ length-map templates (λ t. heading (written_template_of t)) ∙ sym (length-map templates written_template_of);
  headings = λ a w t at_w at_t. cc (sym (slice_get-map heading_of flats a ∙ ap (option_map heading_of) at_t) ∙ ap (λ l. slice_get l a) heads ∙ slice_get-map (λ x. heading (written_template_of x)) templates a ∙ twice (slice_get templates a) ∙ ap (option_map heading) (sym (slice_get-map written_template_of templates a) ∙ at_w));
  lists = λ stands flat a w t at_w at_t.
      let p = o.complete a (slice_get_within (map written_template_of templates) a w at_w) in
      let inside : p.0 < length order = slice_get_within order p.0 a p.1 in
      sym (ap (λ o. option_map_or (λ (x : FlatTemplate). list_of x.members.items) o no_instructions) at_t) ∙ known stands flat p.0 a w (omega (arith, le, inside)) p.1 at_w;
} where
  twice : (o : Option Template) → option_map (λ x. heading (written_template_of x)) o ≡ option_map heading (option_map written_template_of o)
  twice None = refl
  twice (Some x) = refl

pub headings_len : (templates : List Template) (flats : List FlatTemplate) → map heading_of flats ≡ map (λ t. heading (written_template_of t)) templates → length flats ≡ length templates
headings_len templates flats heads = sym (length-map flats heading_of) ∙ ap length heads ∙ length-map templates (λ t. heading (written_template_of t))

-- members put in leave the headings
pub headings_kept : (flats : List FlatTemplate) (a : ℕ) (old t : FlatTemplate) → a < length flats → old ≡ get_or flats a old → heading_of t ≡ heading_of old → map heading_of (set flats a t) ≡ map heading_of flats
headings_kept flats a old t inside is same =
    map-set heading_of flats a t
    ∙ ap (set (map heading_of flats) a) (same ∙ ap heading_of is ∙ sym (get_or-map heading_of flats a old (heading_of old) inside))
    ∙ set-get_or (map heading_of flats) a (heading_of old)

-- the order names templates that there are
pub placed_within : (templates : List Template) (order : List ℕ) (i : ℕ) → IsBuildOrder (map written_template_of templates) order → i < length order → slice_index_or order i 0 < length templates
placed_within templates order i o inside = subst (λ n. slice_index_or order i 0 < n) (length-map templates written_template_of) (o.within i (slice_index_or order i 0) (slice_get-get_or order i 0 inside))
