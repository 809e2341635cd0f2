-- The order of keys, its laws, and their equality.
-- Own: FAST 1.1, Field Operators, Dictionaries and Previous Values names what a key is made of, and no order.
use Rattle.std.specs.Prelude.{◌≡◌, ◌==◌, true, ℕ, T, zero, suc, List, [], ◌∷◌, refl}
use Rattle.std.proofs.Common.{sym, ap, subst, ◌∙◌}
use Rattle.std.specs.declared.cmp.Ordering.{Ordering}
use Rattle.std.specs.declared.cmp.Ordering.TheVariants.{Less, Equal, Greater}
use Rattle.std.specs.Ordering.{nat_cmp, ordering_then, is_eq, eq_by_cmp}
use Rattle.std.specs.Cmp.{IsTotalOrder, Equal-is, both_tied, unsigned_ties, nat_cmp_total, then_total, on_total}
use Rattle.std.specs.Cmp.Lexicographic.{slice_cmp, nat_list_cmp_total, texts_ties}
use Rattle.std.specs.FinMap.{IsAntisymmetric, nat_cmp-IsAntisymmetric, slice_cmp-IsAntisymmetric}
use Rattle.fast_value.specs.declared.kind.Part.{Part}
use Rattle.fast_value.specs.declared.kind.Part.TheVariants.{Whole, Exponent, Mantissa, Length}
use Rattle.fast_value.specs.declared.key.Scope.{Scope}
use Rattle.fast_value.specs.declared.key.Scope.TheVariants.{Global, Template, Typed, User}
use Rattle.fast_value.specs.declared.key.Key.{Key}
use Rattle.fast_value.specs.contracts.kind.PartOrd.TheImpl as part
use Rattle.fast_value.specs.contracts.key.ScopeOrd.TheImpl as scope
use Rattle.fast_value.specs.contracts.kind.PartOrd.TheImpl.Laws as part_laws
use Rattle.fast_value.specs.contracts.key.ScopeOrd.TheImpl.Laws as scope_laws
use Rattle.fast_value.specs.contracts.key.KeyPartialEq.TheImpl as key_eq
use Rattle.fast_value.specs.contracts.key.KeyEq.TheImpl.Laws as key_eq_laws

-- a part and a dictionary as numbers that tell them apart
abbrev pub part_number : Part → ℕ
part_number Whole = 0
part_number Exponent = 1
part_number Mantissa = 2
part_number Length = 3

abbrev pub scope_numbers : Scope → List ℕ
scope_numbers Global = 0 ∷ []
scope_numbers (Template place) = 1 ∷ place ∷ []
scope_numbers (Typed name) = 2 ∷ name
scope_numbers (User name) = 3 ∷ name

-- Keys are ordered by slot, then scope, name and part.
abbrev pub key_cmp : Key → Key → Ordering
key_cmp a b = ordering_then (nat_cmp a.slot b.slot) (ordering_then (slice_cmp nat_cmp (scope_numbers a.scope) (scope_numbers b.scope)) (ordering_then (slice_cmp nat_cmp a.name b.name) (nat_cmp (part_number a.part) (part_number b.part))))

-- ---- its laws

pub key_cmp-total : IsTotalOrder key_cmp
key_cmp-total = then_total (on_total (λ k. k.slot) nat_cmp_total) (then_total (on_total (λ k. scope_numbers k.scope) nat_list_cmp_total) (then_total (on_total (λ k. k.name) nat_list_cmp_total) (on_total (λ k. part_number k.part) nat_cmp_total)))

then_first : (o p : Ordering) → ordering_then o p ≡ Equal → o ≡ Equal
then_first Less p e = e
then_first Equal p e = refl
then_first Greater p e = e

then_second : (o p : Ordering) → ordering_then o p ≡ Equal → p ≡ Equal
then_second Less p e = absurd (subst (λ r. T (is_eq r)) (sym e) tt)
then_second Equal p e = e
then_second Greater p e = absurd (subst (λ r. T (is_eq r)) (sym e) tt)

-- the part and the dictionary that have these numbers
abbrev part_numbered : ℕ → Part
part_numbered zero = Whole
part_numbered (suc zero) = Exponent
part_numbered (suc (suc zero)) = Mantissa
part_numbered (suc (suc (suc n))) = Length

part_numbered-part_number : (p : Part) → part_numbered (part_number p) ≡ p
part_numbered-part_number Whole = refl
part_numbered-part_number Exponent = refl
part_numbered-part_number Mantissa = refl
part_numbered-part_number Length = refl

abbrev scope_numbered : List ℕ → Scope
scope_numbered [] = Global
scope_numbered (zero ∷ ns) = Global
scope_numbered (suc zero ∷ []) = Global
scope_numbered (suc zero ∷ place ∷ ns) = Template place
scope_numbered (suc (suc zero) ∷ ns) = Typed ns
scope_numbered (suc (suc (suc n)) ∷ ns) = User ns

scope_numbered-scope_numbers : (s : Scope) → scope_numbered (scope_numbers s) ≡ s
scope_numbered-scope_numbers Global = refl
scope_numbered-scope_numbers (Template place) = refl
scope_numbered-scope_numbers (Typed name) = refl
scope_numbered-scope_numbers (User name) = refl

-- Only equal keys tie.
pub key_cmp-exact : IsAntisymmetric key_cmp
key_cmp-exact a b e =
    let behind_slot : ordering_then (slice_cmp nat_cmp (scope_numbers a.scope) (scope_numbers b.scope)) (ordering_then (slice_cmp nat_cmp a.name b.name) (nat_cmp (part_number a.part) (part_number b.part))) ≡ Equal = then_second (nat_cmp a.slot b.slot) _ e in
    let behind_scope : ordering_then (slice_cmp nat_cmp a.name b.name) (nat_cmp (part_number a.part) (part_number b.part)) ≡ Equal = then_second (slice_cmp nat_cmp (scope_numbers a.scope) (scope_numbers b.scope)) _ behind_slot in
    let slots : a.slot ≡ b.slot = nat_cmp-IsAntisymmetric a.slot b.slot (then_first _ _ e) in
    let scopes : a.scope ≡ b.scope = sym (scope_numbered-scope_numbers a.scope) ∙ ap scope_numbered (slice_cmp-IsAntisymmetric nat_cmp-IsAntisymmetric _ _ (then_first _ _ behind_slot)) ∙ scope_numbered-scope_numbers b.scope in
    let names : a.name ≡ b.name = slice_cmp-IsAntisymmetric nat_cmp-IsAntisymmetric a.name b.name (then_first _ _ behind_scope) in
    let parts : a.part ≡ b.part = sym (part_numbered-part_number a.part) ∙ ap part_numbered (nat_cmp-IsAntisymmetric _ _ (then_second (slice_cmp nat_cmp a.name b.name) _ behind_scope)) ∙ part_numbered-part_number b.part in
    λ i. record { slot = slots i; scope = scopes i; name = names i; part = parts i }

-- ---- what `cmp` of two scopes and of two parts answers

then_equal : (o : Ordering) → o ≡ ordering_then o Equal
then_equal Less = refl
then_equal Equal = refl
then_equal Greater = refl

pub scope_cmp_is : (a b : Scope) → (scope.cmp-value).it a b ≡ slice_cmp nat_cmp (scope_numbers a) (scope_numbers b)
scope_cmp_is Global Global = refl
scope_cmp_is Global (Template n) = refl
scope_cmp_is Global (Typed n) = refl
scope_cmp_is Global (User n) = refl
scope_cmp_is (Template m) Global = refl
scope_cmp_is (Template m) (Template n) = then_equal (nat_cmp m n)
scope_cmp_is (Template m) (Typed n) = refl
scope_cmp_is (Template m) (User n) = refl
scope_cmp_is (Typed m) Global = refl
scope_cmp_is (Typed m) (Template n) = refl
scope_cmp_is (Typed m) (Typed n) = refl
scope_cmp_is (Typed m) (User n) = refl
scope_cmp_is (User m) Global = refl
scope_cmp_is (User m) (Template n) = refl
scope_cmp_is (User m) (Typed n) = refl
scope_cmp_is (User m) (User n) = refl

pub part_cmp_is : (a b : Part) → (part.cmp-value).it a b ≡ nat_cmp (part_number a) (part_number b)
part_cmp_is Whole Whole = refl
part_cmp_is Whole Exponent = refl
part_cmp_is Whole Mantissa = refl
part_cmp_is Whole Length = refl
part_cmp_is Exponent Whole = refl
part_cmp_is Exponent Exponent = refl
part_cmp_is Exponent Mantissa = refl
part_cmp_is Exponent Length = refl
part_cmp_is Mantissa Whole = refl
part_cmp_is Mantissa Exponent = refl
part_cmp_is Mantissa Mantissa = refl
part_cmp_is Mantissa Length = refl
part_cmp_is Length Whole = refl
part_cmp_is Length Exponent = refl
part_cmp_is Length Mantissa = refl
part_cmp_is Length Length = refl

-- ---- equality of keys

-- `==` of two keys is true exactly where they tie, and so where they are the same
pub key_eq_ties : (a b : Key) → (key_eq.eq-value).it a b ≡ eq_by_cmp key_cmp a b
key_eq_ties a b =
    let scopes : Ordering = slice_cmp nat_cmp (scope_numbers a.scope) (scope_numbers b.scope) in
    let parts : Ordering = nat_cmp (part_number a.part) (part_number b.part) in
    both_tied (a.slot == b.slot) _ (nat_cmp a.slot b.slot) _ (unsigned_ties a.slot b.slot)
    (both_tied _ _ scopes _ (scope_laws.matches_eq-law a.scope b.scope ∙ ap is_eq (scope_cmp_is a.scope b.scope))
    (both_tied _ _ (slice_cmp nat_cmp a.name b.name) parts (texts_ties a.name b.name)
    (part_laws.matches_eq-law a.part b.part ∙ ap is_eq (part_cmp_is a.part b.part))))

pub key_eq-exact : (a b : Key) → (key_eq.eq-value).it a b ≡ true → a ≡ b
key_eq-exact a b e = key_cmp-exact a b ((Equal-is (key_cmp a b)).0 (sym (key_eq_ties a b) ∙ e))

pub key_eq-same : (a : Key) → (key_eq.eq-value).it a a ≡ true
key_eq-same a = key_eq_laws.laws-law.refl a
