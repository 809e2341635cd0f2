-- What is kept of instructions, one after another.
use Rattle.std.proofs.Common.{◌≡◌, ◌<◌, ◌≤◌, ◌+◌, ◌∷◌, ◌++◌, [], ℕ, List, map, drop, get_or, length, sym, ap, Option, Vec, subst, ◌∙◌, append_assoc, append-nil}
use Rattle.fast_load.proofs.Common.{flat_map, Scalar, drop_all, drop_more, length-map, get_or-map, map-append, flat_map-append, drop-append_seam, Template, WrittenInstruction, WrittenInstructions, listed, listed_one, written_list, written_of, written_template_of, Leveled, found_of, kept_of, Global, references_in, references_in_one, AreInitials, Leads, initials_of, initials_in, initials_in_one}
use Rattle.fast_written.specs.declared.written.Instruction.{Instruction}

module _ {K : Type 0} (keeps : WrittenInstruction → List K) where
  -- one instruction more is judged
  pub kept_more : (ls : List Leveled) (row new all : List K) (d : Leveled) (i : ℕ) → i < length ls → d ≡ get_or ls i d → new ≡ row ++ keeps (found_of d) → row ++ flat_map keeps (map found_of (drop i ls)) ≡ all → new ++ flat_map keeps (map found_of (drop (i + 1) ls)) ≡ all
  kept_more ls row new all d i inside at made h =
      let rest : List K = flat_map keeps (map found_of (drop (i + 1) ls)) in
      let split : drop i ls ≡ d ∷ drop (i + 1) ls = drop_more ls i d inside ∙ ap (λ e. e ∷ drop (i + 1) ls) (sym at) in
      ap (λ l. l ++ rest) made
      ∙ append_assoc row (keeps (found_of d)) rest
      ∙ ap (λ l. row ++ flat_map keeps (map found_of l)) (sym split)
      ∙ h

  -- all are
  pub kept_end : (ls made : List Leveled) (is : WrittenInstructions) (row old : List K) (i : ℕ) → length ls ≤ i → ls ≡ made → map found_of made ≡ listed is → row ++ flat_map keeps (map found_of (drop i ls)) ≡ old ++ flat_map keeps (map found_of ls) → row ≡ old ++ kept_of keeps is
  kept_end ls made is row old i le same put h =
      sym (append-nil row)
      ∙ ap (λ l. row ++ flat_map keeps (map found_of l)) (sym (drop_all i ls le))
      ∙ h
      ∙ ap (λ xs. old ++ flat_map keeps (map found_of xs)) same
      ∙ ap (λ xs. old ++ flat_map keeps xs) put

-- ---- a list at the front of another

pub leads_so : {A : Type 0} (front after all : List A) → all ≡ front ++ after → Leads front all
leads_so front after all is = is ∙ ap (λ l. front ++ l) (sym (drop-append_seam front after) ∙ ap (drop (length front)) (sym is))

pub behind : {A : Type 0} (front after all new : List A) → all ≡ front ++ after → new ≡ drop (length front) all → new ≡ after
behind front after all new is e = e ∙ ap (drop (length front)) is ∙ drop-append_seam front after

pub first_led : {A : Type 0} (a : A) (front : List A) (all : List A) (d : A) → Leads (a ∷ front) all → get_or all 0 d ≡ a
first_led a front all d is = ap (λ l. get_or l 0 d) is

pub second_led : {A : Type 0} (a b : A) (front all : List A) (d : A) → Leads (a ∷ b ∷ front) all → get_or (drop 1 all) 0 d ≡ b
second_led a b front all d is = ap (λ l. get_or (drop 1 l) 0 d) is

-- ---- initial values of one instruction after another

initials_split : (is : List Instruction) (d : Instruction) (i : ℕ) (rest after : List (Option Scalar)) → i < length is → d ≡ get_or is i d → rest ≡ initials_in (written_list (map written_of (drop i is))) ++ after → rest ≡ initials_in_one (written_of d) ++ (initials_in (written_list (map written_of (drop (i + 1) is))) ++ after)
initials_split is d i rest after inside at h =
    let more = written_list (map written_of (drop (i + 1) is)) in
    let split : drop i is ≡ d ∷ drop (i + 1) is = drop_more is i d inside ∙ ap (λ e. e ∷ drop (i + 1) is) (sym at) in
    h
    ∙ ap (λ l. initials_in (written_list (map written_of l)) ++ after) split
    ∙ ap (λ l. l ++ after) (flat_map-append initials_of (listed_one (written_of d)) (listed more))
    ∙ append_assoc (initials_in_one (written_of d)) (initials_in more) after

pub leads_member : (is : List Instruction) (d : Instruction) (i : ℕ) (rest after : List (Option Scalar)) → i < length is → d ≡ get_or is i d → rest ≡ initials_in (written_list (map written_of (drop i is))) ++ after → Leads (initials_in_one (written_of d)) rest
leads_member is d i rest after inside at h = leads_so (initials_in_one (written_of d)) _ rest (initials_split is d i rest after inside at h)

pub rest_member : (is : List Instruction) (d : Instruction) (i : ℕ) (rest new after : List (Option Scalar)) → i < length is → d ≡ get_or is i d → new ≡ drop (length (initials_in_one (written_of d))) rest → rest ≡ initials_in (written_list (map written_of (drop i is))) ++ after → new ≡ initials_in (written_list (map written_of (drop (i + 1) is))) ++ after
rest_member is d i rest new after inside at e h = behind (initials_in_one (written_of d)) _ rest new (initials_split is d i rest after inside at h) e

pub rest_end : (is : List Instruction) (i : ℕ) (rest after : List (Option Scalar)) → length is ≤ i → rest ≡ initials_in (written_list (map written_of (drop i is))) ++ after → rest ≡ after
rest_end is i rest after le h = h ∙ ap (λ l. initials_in (written_list (map written_of l)) ++ after) (drop_all i is le)

-- ---- places of one reference after another

links_split : (f : List ℕ → ℕ) (is : List Instruction) (d : Instruction) (i : ℕ) (rest after : List ℕ) → i < length is → d ≡ get_or is i d → rest ≡ map f (references_in (written_list (map written_of (drop i is)))) ++ after → rest ≡ map f (references_in_one (written_of d)) ++ (map f (references_in (written_list (map written_of (drop (i + 1) is)))) ++ after)
links_split f is d i rest after inside at h =
    let more = references_in (written_list (map written_of (drop (i + 1) is))) in
    let split : drop i is ≡ d ∷ drop (i + 1) is = drop_more is i d inside ∙ ap (λ e. e ∷ drop (i + 1) is) (sym at) in
    h
    ∙ ap (λ l. map f (references_in (written_list (map written_of l))) ++ after) split
    ∙ ap (λ l. l ++ after) (map-append f (references_in_one (written_of d)) more)
    ∙ append_assoc (map f (references_in_one (written_of d))) (map f more) after

pub linked_member : (f : List ℕ → ℕ) (is : List Instruction) (d : Instruction) (i : ℕ) (rest after : List ℕ) → i < length is → d ≡ get_or is i d → rest ≡ map f (references_in (written_list (map written_of (drop i is)))) ++ after → Leads (map f (references_in_one (written_of d))) rest
linked_member f is d i rest after inside at h = leads_so (map f (references_in_one (written_of d))) _ rest (links_split f is d i rest after inside at h)

pub links_member : (f : List ℕ → ℕ) (is : List Instruction) (d : Instruction) (i : ℕ) (rest new after : List ℕ) → i < length is → d ≡ get_or is i d → new ≡ drop (length (references_in_one (written_of d))) rest → rest ≡ map f (references_in (written_list (map written_of (drop i is)))) ++ after → new ≡ map f (references_in (written_list (map written_of (drop (i + 1) is)))) ++ after
links_member f is d i rest new after inside at e h = behind (map f (references_in_one (written_of d))) _ rest new (links_split f is d i rest after inside at h) (e ∙ ap (λ n. drop n rest) (sym (length-map (references_in_one (written_of d)) f)))

pub links_end : (f : List ℕ → ℕ) (is : List Instruction) (i : ℕ) (rest after : List ℕ) → length is ≤ i → rest ≡ map f (references_in (written_list (map written_of (drop i is)))) ++ after → rest ≡ after
links_end f is i rest after le h = h ∙ ap (λ l. map f (references_in (written_list (map written_of l))) ++ after) (drop_all i is le)

-- ---- a row for each template

module _ {A : Type 0} (f : Template → List A) (templates : List Template) (rows : List (Vec A Global)) (are : map (λ (row : Vec A Global). row.items) rows ≡ map f templates) where
  rows_len : length rows ≡ length templates
  rows_len = sym (length-map rows (λ (row : Vec A Global). row.items)) ∙ ap length are ∙ length-map templates f

  pub row_within : (a : ℕ) → a < length templates → a < length rows
  row_within a inside = subst (λ n. a < n) (sym rows_len) inside

  pub row_is : (a : ℕ) (t : Template) (row : Vec A Global) → a < length templates → t ≡ get_or templates a t → row ≡ get_or rows a row → row.items ≡ f t
  row_is a t row inside at_t at_row =
      ap (λ (r : Vec A Global). r.items) at_row
      ∙ sym (get_or-map (λ (r : Vec A Global). r.items) rows a row [] (row_within a inside))
      ∙ ap (λ l. get_or l a []) are
      ∙ get_or-map f templates a t [] inside
      ∙ ap f (sym at_t)

pub leads_whole : {A : Type 0} (front all : List A) → all ≡ front → Leads front all
leads_whole front all is = leads_so front [] all (is ∙ sym (append-nil front))

-- it has the initial values of its template's instructions, and nothing behind them
pub row_led : (templates : List Template) (rows : List (Vec (Option Scalar) Global)) (a : ℕ) (t : Template) (row : Vec (Option Scalar) Global) → AreInitials templates rows → a < length templates → t ≡ get_or templates a t → row ≡ get_or rows a row → Leads (initials_in (written_template_of t).members) row.items
row_led templates rows a t row are inside at_t at_row = leads_whole (initials_in (written_template_of t).members) row.items (row_is (λ t. initials_in (written_template_of t).members) templates rows are a t row inside at_t at_row)
