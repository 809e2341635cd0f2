-- Rows of links are the places of the names that references give.
use Rattle.fast_load.proofs.Common.{◌≡◌, ◌<◌, ◌∷◌, ◌++◌, [], ℕ, suc, List, map, length, get_or, nat_eq, if◌then◌else◌, option_map, option_to_list, Option, Some, Vec, refl, sym, ap, ◌∙◌, slice_get, unwrap_or, pointwise, Global, slice_get-get_or, slice_get-map, FlatTemplate, Template, WrittenTemplate, written_template_of, place_named, place_or, Leads, AreLinks, places_of, references_in, first_named, heading, heading_of, place_among, Heading, Passes}
use Rattle.fast_load.proofs.KeptLaws.{leads_whole, row_is}
use Rattle.fast_load.proofs.LinkOrder.{is_known}

-- where each name has a place, places are one for each
known_each : (f : List ℕ → Option ℕ) (names : List (List ℕ)) → ((j : ℕ) (name : List ℕ) → slice_get names j ≡ Some name → (b : ℕ) × (f name ≡ Some b)) → places_of f names ≡ map (λ name. unwrap_or (f name) 0) names
known_each f [] known = refl
known_each f (name ∷ names) known =
    let here = known 0 name refl in
    ap (λ o. option_to_list o ++ places_of f names) here.1
    ∙ ap (λ l. here.0 ∷ l) (known_each f names (λ j. known (suc j)))
    ∙ ap (λ o. unwrap_or o 0 ∷ map (λ n. unwrap_or (f n) 0) names) (sym here.1)

-- a row of links has the place of each reference's name
pub link_row : (templates : List Template) (rows : List (Vec ℕ Global)) (a : ℕ) (t : Template) (row : Vec ℕ Global) → AreLinks templates rows → Passes (map written_template_of templates) 4 → a < length templates → t ≡ get_or templates a t → row ≡ get_or rows a row → row.items ≡ map (place_or (map written_template_of templates)) (references_in (written_template_of t).members)
link_row templates rows a t row are known inside at_t at_row =
    let at : slice_get (map written_template_of templates) a ≡ Some (written_template_of t) = slice_get-map written_template_of templates a ∙ ap (option_map written_template_of) (slice_get-get_or templates a t inside ∙ ap Some (sym at_t)) in
    row_is (λ t. places_of (place_named (map written_template_of templates)) (references_in (written_template_of t).members)) templates rows are a t row inside at_t at_row
    ∙ known_each (place_named (map written_template_of templates)) (references_in (written_template_of t).members) (λ j name ref. is_known (map written_template_of templates) known a (written_template_of t) j name at ref)

-- ---- names among flat lists

first_is : (ws : List WrittenTemplate) (name : List ℕ) → first_named (map (λ (w : WrittenTemplate). w.name) ws) name ≡ place_named ws name
first_is [] name = refl
first_is (w ∷ ws) name = ap (λ o. if pointwise nat_eq w.name name then Some 0 else option_map suc o) (first_is ws name)

names_of_flats : (flats : List FlatTemplate) → map (λ (t : FlatTemplate). t.name) flats ≡ map (λ (h : Heading). h.name) (map heading_of flats)
names_of_flats [] = refl
names_of_flats (t ∷ ts) = ap (λ l. t.name ∷ l) (names_of_flats ts)

names_of_written : (templates : List Template) → map (λ (h : Heading). h.name) (map (λ t. heading (written_template_of t)) templates) ≡ map (λ (w : WrittenTemplate). w.name) (map written_template_of templates)
names_of_written [] = refl
names_of_written (t ∷ ts) = ap (λ l. (written_template_of t).name ∷ l) (names_of_written ts)

-- a name has the same place among flat lists as among the templates
pub among : (templates : List Template) (flats : List FlatTemplate) → map heading_of flats ≡ map (λ t. heading (written_template_of t)) templates → (name : List ℕ) → place_among flats name ≡ place_or (map written_template_of templates) name
among templates flats heads name =
    ap (λ ns. unwrap_or (first_named ns name) 0) (names_of_flats flats ∙ ap (map (λ (h : Heading). h.name)) heads ∙ names_of_written templates)
    ∙ ap (λ o. unwrap_or o 0) (first_is (map written_template_of templates) name)

pub map_same : (f g : List ℕ → ℕ) → ((name : List ℕ) → f name ≡ g name) → (names : List (List ℕ)) → map f names ≡ map g names
map_same f g same [] = refl
map_same f g same (name ∷ names) = (λ i. same name i ∷ map_same f g same names i)

pub row_linked : (templates : List Template) (rows : List (Vec ℕ Global)) (flats : List FlatTemplate) (a : ℕ) (t : Template) (row : Vec ℕ Global) → AreLinks templates rows → Passes (map written_template_of templates) 4 → map heading_of flats ≡ map (λ t. heading (written_template_of t)) templates → a < length templates → t ≡ get_or templates a t → row ≡ get_or rows a row → Leads (map (place_among flats) (references_in (written_template_of t).members)) row.items
row_linked templates rows flats a t row are known heads inside at_t at_row =
    leads_whole (map (place_among flats) (references_in (written_template_of t).members)) row.items
    (link_row templates rows a t row are known inside at_t at_row
    ∙ map_same (place_or (map written_template_of templates)) (place_among flats) (λ name. sym (among templates flats heads name)) (references_in (written_template_of t).members))
