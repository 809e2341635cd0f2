-- References, one instruction after another.
use Rattle.fast_load.proofs.Common.{◌≡◌, ◌<◌, ◌+◌, ◌∷◌, ◌++◌, [], ℕ, List, map, drop, get_or, length, option_to_list, Option, Vec, refl, sym, ap, ◌∙◌, append_assoc, flat_map, BTreeMap, Global, Template, WrittenInstruction, WrittenInstructions, listed, written_template_of, NamesLead, place_named, kept_of, AreLinks, place_in, places_of, referred_along, referred_by, references_in, drop_more, length-map, map-append, Leveled, found_of, Leads}
use Rattle.fast_load.proofs.KeptLaws.{behind, leads_so}
use Rattle.fast_load.proofs.InOrderLaws.{referred_all}

pub places_of-append : (f : List ℕ → Option ℕ) (xs ys : List (List ℕ)) → places_of f (xs ++ ys) ≡ places_of f xs ++ places_of f ys
places_of-append f [] ys = refl
places_of-append f (x ∷ xs) ys = ap (λ l. option_to_list (f x) ++ l) (places_of-append f xs ys) ∙ sym (append_assoc (option_to_list (f x)) (places_of f xs) (places_of f ys))

-- what is kept of references one after another is the places of their names
kept_along : (f : List ℕ → Option ℕ) (is : List WrittenInstruction) → flat_map (λ i. places_of f (referred_by i)) is ≡ places_of f (referred_along is)
kept_along f [] = refl
kept_along f (i ∷ is) = ap (λ l. places_of f (referred_by i) ++ l) (kept_along f is) ∙ sym (places_of-append f (referred_by i) (referred_along is))

kept_places : (f : List ℕ → Option ℕ) (is : WrittenInstructions) → kept_of (λ i. places_of f (referred_by i)) is ≡ places_of f (references_in is)
kept_places f is = kept_along f (listed is) ∙ ap (places_of f) (referred_all is)

places_of-same : (f g : List ℕ → Option ℕ) → ((name : List ℕ) → f name ≡ g name) → (names : List (List ℕ)) → places_of f names ≡ places_of g names
places_of-same f g same [] = refl
places_of-same f g same (name ∷ names) = (λ i. option_to_list (same name i) ++ places_of-same f g same names i)

-- rows of places by an index of names are links
pub are_links : (templates : List Template) (names : BTreeMap (List ℕ) ℕ) (rows : List (Vec ℕ Global)) → NamesLead names (map written_template_of templates) → map (λ (row : Vec ℕ Global). row.items) rows ≡ map (λ t. kept_of (λ i. places_of (place_in names) (referred_by i)) (written_template_of t).members) templates → AreLinks templates rows
are_links templates names rows lead are = are ∙ each templates where
  each : (ts : List Template) → map (λ t. kept_of (λ i. places_of (place_in names) (referred_by i)) (written_template_of t).members) ts ≡ map (λ t. places_of (place_named (map written_template_of templates)) (references_in (written_template_of t).members)) ts
  each [] = refl
  each (t ∷ ts) = (λ i. (kept_places (place_in names) (written_template_of t).members ∙ places_of-same (place_in names) (place_named (map written_template_of templates)) lead (references_in (written_template_of t).members)) i ∷ each ts i)

-- ---- places of references along a list of instructions that were put in order

along_split : (f : List ℕ → ℕ) (ls : List Leveled) (d : Leveled) (i : ℕ) (rest : List ℕ) → i < length ls → d ≡ get_or ls i d → rest ≡ map f (referred_along (map found_of (drop i ls))) → rest ≡ map f (referred_by (found_of d)) ++ map f (referred_along (map found_of (drop (i + 1) ls)))
along_split f ls d i rest inside at h =
    h
    ∙ ap (λ l. map f (referred_along (map found_of l))) (drop_more ls i d inside ∙ ap (λ e. e ∷ drop (i + 1) ls) (sym at))
    ∙ map-append f (referred_by (found_of d)) (referred_along (map found_of (drop (i + 1) ls)))

pub linked_along : (f : List ℕ → ℕ) (ls : List Leveled) (d : Leveled) (i : ℕ) (rest : List ℕ) → i < length ls → d ≡ get_or ls i d → rest ≡ map f (referred_along (map found_of (drop i ls))) → Leads (map f (referred_by (found_of d))) rest
linked_along f ls d i rest inside at h = leads_so (map f (referred_by (found_of d))) _ rest (along_split f ls d i rest inside at h)

pub along_taken : (f : List ℕ → ℕ) (ls : List Leveled) (d : Leveled) (i : ℕ) (rest new : List ℕ) → i < length ls → d ≡ get_or ls i d → rest ≡ map f (referred_along (map found_of (drop i ls))) → new ≡ drop (length (referred_by (found_of d))) rest → new ≡ map f (referred_along (map found_of (drop (i + 1) ls)))
along_taken f ls d i rest new inside at h e = behind (map f (referred_by (found_of d))) _ rest new (along_split f ls d i rest inside at h) (e ∙ ap (λ n. drop n rest) (sym (length-map (referred_by (found_of d)) f)))

pub along_start : (f : List ℕ → ℕ) (ls made : List Leveled) (is : WrittenInstructions) (rest : List ℕ) → ls ≡ made → map found_of made ≡ listed is → rest ≡ map f (references_in is) → rest ≡ map f (referred_along (map found_of ls))
along_start f ls made is rest same put h = h ∙ ap (map f) (sym (ap (λ l. referred_along (map found_of l)) same ∙ ap referred_along put ∙ referred_all is))
