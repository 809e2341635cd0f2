-- Names, each looked at after the other.
use Rattle.std.proofs.Common.{◌≡◌, ℕ, ◌+◌, ◌<◌, ◌≤◌, List, length, drop, get_or, IsUtf8, sym, subst}
use Rattle.std.proofs.lemmas.List.{drop_more, drop_all}
use Rattle.std.specs.List.{AllByRecursion}
use Rattle.fast_template.specs.declared.resolved.Flat.{Flat}
use Rattle.fast_template.specs.declared.resolved.FlatTemplate.{FlatTemplate}
use Rattle.fast_template.specs.Resolved.{instruction_of, list_of, resolved_of}
use Rattle.fast_spelled.specs.Laws.{HasTextName, HaveTextNames}

-- with those from a place on, all are texts
abbrev pub FromHere : List Flat → ℕ → Type 0
FromHere members at = HaveTextNames (list_of (drop at members)) → HaveTextNames (list_of members)

pub one_name : (members : List Flat) (at : ℕ) (m : Flat) → at < length members → m ≡ get_or members at m → HasTextName (instruction_of m) → FromHere members at → FromHere members (at + 1)
one_name members at m inside is own before rest =
    before (subst (λ l. HaveTextNames (list_of l)) (sym (drop_more members at m inside)) (subst (λ k. HasTextName (instruction_of k)) is own, rest))

pub all_names : (members : List Flat) (at : ℕ) → length members ≤ at → FromHere members at → HaveTextNames (list_of members)
all_names members at past before = before (subst (λ l. HaveTextNames (list_of l)) (sym (drop_all at members past)) tt)

-- the same of templates
abbrev pub HasTexts : FlatTemplate → Type 0
HasTexts t = IsUtf8 t.name × HaveTextNames (resolved_of t).members

abbrev pub TemplatesFromHere : List FlatTemplate → ℕ → Type 0
TemplatesFromHere templates at = AllByRecursion HasTexts (drop at templates) → AllByRecursion HasTexts templates

pub one_template : (templates : List FlatTemplate) (at : ℕ) (t : FlatTemplate) → at < length templates → t ≡ get_or templates at t → HasTexts t → TemplatesFromHere templates at → TemplatesFromHere templates (at + 1)
one_template templates at t inside is own before rest =
    before (subst (AllByRecursion HasTexts) (sym (drop_more templates at t inside)) (subst HasTexts is own, rest))

pub all_templates : (templates : List FlatTemplate) (at : ℕ) → length templates ≤ at → TemplatesFromHere templates at → AllByRecursion HasTexts templates
all_templates templates at past before = before (subst (AllByRecursion HasTexts) (sym (drop_all at templates past)) tt)
