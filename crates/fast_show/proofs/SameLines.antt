-- Lines told of a resolved set are the lines of the set.
use Rattle.fast_show.proofs.Common.{◌≡◌, ℕ, Bool, true, false, List, [], ◌∷◌, Option, Some, None, option_map, unwrap_or, refl, sym, ap, ap₂, ◌∙◌, find, map, if◌then◌else◌, FlatTemplate, Resolved, resolved_of, TemplateList, has_id, template_of, templates_in, Content, Form, joined, line_if, line_in, lines_in, line_as, line_of_set, lines_of_set, name_if}

found_if : (b : Bool) (t : FlatTemplate) (o : Option FlatTemplate) (p : Option Resolved) → p ≡ option_map resolved_of o
    → (if b then Some (resolved_of t) else p) ≡ option_map resolved_of (if b then Some t else o)
found_if true t o p h = refl
found_if false t o p h = h

found_in : (ts : List FlatTemplate) (id : ℕ) → find (λ t. has_id id t.id) (map resolved_of ts) ≡ option_map resolved_of (find (λ t. has_id id t.id) ts)
found_in [] id = refl
found_in (t ∷ ts) id = found_if (has_id id t.id) t (find (λ t. has_id id t.id) ts) (find (λ t. has_id id t.id) (map resolved_of ts)) (found_in ts id)

as_found : (form : Form) (o : Option FlatTemplate) (m : Content) → line_as form (option_map resolved_of o) m ≡ line_if form o m
as_found form None m = refl
as_found form (Some t) m = refl

pub same_line : (form : Form) (set : TemplateList) (m : Content) → line_of_set form (templates_in set) m ≡ line_in form set m
same_line form set m = ap (λ o. line_as form o m) (found_in set.templates m.template) ∙ as_found form (template_of m.template set) m

pub same_lines : (form : Form) (set : TemplateList) (ms : List Content) → lines_of_set form (templates_in set) ms ≡ lines_in form set ms
same_lines form set [] = refl
same_lines form set (m ∷ ms) = ap₂ joined (same_line form set m) (same_lines form set ms)

name_found : (o : Option FlatTemplate) → name_if (option_map resolved_of o) ≡ unwrap_or (option_map (λ t. t.name) o) []
name_found None = refl
name_found (Some t) = refl

-- the name that a set gives, or nothing where it gives none
pub name_is : (set : TemplateList) (id : ℕ) (o : Option (List ℕ)) → o ≡ option_map (λ t. t.name) (template_of id set)
    → name_if (find (λ t. has_id id t.id) (templates_in set)) ≡ unwrap_or o []
name_is set id o e = ap name_if (found_in set.templates id) ∙ name_found (template_of id set) ∙ ap (λ x. unwrap_or x []) (sym e)
