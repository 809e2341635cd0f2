-- Rows that are laid one behind the other.
use Rattle.std.proofs.Common.{◌≡◌, ℕ, ◌+◌, List, [], ◌∷◌, ◌++◌, length, ◌<◌, suc, drop, get_or, sym, ap, refl, ◌∙◌, arith, append_assoc, length-append, subst}
use Rattle.std.proofs.Math.Seq.{drop-cons}
use Rattle.std.proofs.lemmas.List.{append-nil}
use Rattle.fast_layout.specs.declared.layout.Layout.{Layout}
use Rattle.fast_layout.specs.Fields.{Row, Appends, names_of, placed}

-- what is left of a list at a place begins with the item there
pub left_at : {A : Type 0} (l : List A) (i : ℕ) (x : A) → i < length l → get_or l i x ≡ x → drop i l ≡ x ∷ drop (i + 1) l
left_at l i x h is =
    let next : suc i ≡ i + 1 = omega arith in
    drop-cons l i x h ∙ ap (λ y. y ∷ drop (suc i) l) is ∙ ap (λ n. x ∷ drop n l) next

pub names_append : (a b : List Row) → names_of (a ++ b) ≡ names_of a ++ names_of b
names_append [] b = refl
names_append (r ∷ a) b = ap (λ ns. r.name ++ ns) (names_append a b) ∙ sym (append_assoc r.name (names_of a) (names_of b))

pub placed_append : (at : ℕ) (a b : List Row) → placed at (a ++ b) ≡ placed at a ++ placed (at + length (names_of a)) b
placed_append at [] b = ap (λ n. placed n b) (omega arith)
placed_append at (r ∷ a) b =
    let here : at + length r.name + length (names_of a) ≡ at + length (r.name ++ names_of a) = grind (arith, length-append) in
    ap (λ fs. record { kind = r.kind; instruction = r.instruction; name = at; name_length = length r.name; optional = r.optional; length = r.own } ∷ fs) (placed_append (at + length r.name) a b ∙ ap (λ n. placed (at + length r.name) a ++ placed n b) here)

-- what was appended from the start on, and then the rest, are all rows
pub record IsLaid (all rest : List Row) (start now : Layout) : Type 0 where
  pub names : now.names.items ++ names_of rest ≡ start.names.items ++ names_of all
  pub fields : now.fields.items ++ placed (length now.names.items) rest ≡ start.fields.items ++ placed (length start.names.items) all

pub laid_first : (all : List Row) (start : Layout) → IsLaid all all start start
laid_first all start = record { names = refl; fields = refl }

pub laid_next : (all a b : List Row) (start now next : Layout) → IsLaid all (a ++ b) start now → Appends a now next → IsLaid all b start next
laid_next all a b start now next h g = record {
  names = ap (λ ns. ns ++ names_of b) g.names ∙ append_assoc now.names.items (names_of a) (names_of b) ∙ ap (λ ns. now.names.items ++ ns) (sym (names_append a b)) ∙ h.names;
  fields =
      let there : length next.names.items ≡ length now.names.items + length (names_of a) = ap length g.names ∙ length-append now.names.items (names_of a) in
      ap (λ fs. fs ++ placed (length next.names.items) b) g.fields
      ∙ append_assoc now.fields.items (placed (length now.names.items) a) (placed (length next.names.items) b)
      ∙ ap (λ n. now.fields.items ++ (placed (length now.names.items) a ++ placed n b)) there
      ∙ ap (λ fs. now.fields.items ++ fs) (sym (placed_append (length now.names.items) a b))
      ∙ h.fields;
}

pub laid_last : (all : List Row) (start now : Layout) → IsLaid all [] start now → Appends all start now
laid_last all start now h = record {
  names = sym (append-nil now.names.items) ∙ h.names;
  fields = sym (append-nil now.fields.items) ∙ h.fields;
}

pub appends_both : (a b : List Row) (start now next : Layout) → Appends a start now → Appends b now next → Appends (a ++ b) start next
appends_both a b start now next g h =
    let two : IsLaid (a ++ b) b start now = laid_next (a ++ b) a b start start now (laid_first (a ++ b) start) g in
    let three : IsLaid (a ++ b) (b ++ []) start now = subst (λ rs. IsLaid (a ++ b) rs start now) (sym (append-nil b)) two in
    laid_last (a ++ b) start next (laid_next (a ++ b) b [] start now next three h)
