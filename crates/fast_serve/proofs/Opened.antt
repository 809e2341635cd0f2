-- What the stream's input gives behind the templates: one of the two is a file.
use Rattle.fast_serve.proofs.Common.{◌≡◌, ◌≢◌, ◌∙◌, List, ℕ, Option, None, Some, inl, inr, refl, ap, counted, counted_by, Asked, Answer, Inputs, IsReadFrom, IsUnopened, Reader, Writer, input_of, PerformsWith, TemplateList}

pub same_input : (a b : Inputs) (templates input : Option (List ℕ)) → b.file ≡ a.file → (templates ≢ None → b.standard ≡ a.standard) → (templates ≡ None → input ≢ None) → input_of b input ≡ input_of a input
same_input a b templates (Some name) files standard one = ap (λ (f : List ℕ → Option (List ℕ)). f name) files
same_input a b None None files standard one = absurd (one refl refl)
same_input a b (Some t) None files standard one = standard (λ e. absurd cc)

still_unopened : (a b c : Inputs) (name : Option (List ℕ)) → b.unopened ≡ a.unopened → IsUnopened b c name → IsUnopened a c name
still_unopened a b c (Some name) opened h = h ∙ ap (λ (f : List ℕ → ℕ). counted (f name)) opened
still_unopened a b c None opened h = h

still_read : (a b c : Inputs) (name : Option (List ℕ)) (in_old in_new : Reader) → input_of b name ≡ input_of a name → b.unopened ≡ a.unopened → b.failed ≡ a.failed → IsReadFrom b c name in_old in_new → IsReadFrom a c name in_old in_new
still_read a b c name in_old in_new same opened failed r = record {
  begins = r.begins ∙ same;
  unfailed = r.unfailed;
  counts = r.counts ∙ ap (λ (f : Option (List ℕ) → ℕ). counted_by (f name) in_new.errors) failed;
  opened = r.opened ∙ opened;
}

pub performs_behind : (asked : Asked) (set : TemplateList) (a b c : Inputs) (turns : ℕ) (old new err_old err_new : Writer) (r : Answer) → input_of b asked.input ≡ input_of a asked.input → b.unopened ≡ a.unopened → b.failed ≡ a.failed
    → PerformsWith asked set b c turns old new err_old err_new r → PerformsWith asked set a c turns old new err_old err_new r
performs_behind asked set a b c turns old new err_old err_new r same opened failed (inl h) = inl (still_unopened a b c asked.input opened h.0, h.1, h.2, h.3)
performs_behind asked set a b c turns old new err_old err_new r same opened failed (inr (in_old, in_new, begins, performs)) = inr (in_old, in_new, still_read a b c asked.input in_old in_new same opened failed begins, performs)
